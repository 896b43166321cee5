-- Laws on rows in a list of numbers, over the width of a row: a row is written; rows move down by some, and as many are written in front of them.
-- A row that is written over another and one that is put in between are one definition with its laws; several, one behind the other, are an
-- induction on these. Assumes nothing.
use mathlib.Core.Path.{◌≡◌, refl, sym, ap, ap₂, ◌∙◌}
use mathlib.Core.List.{List, [], ◌∷◌, ◌++◌, append_assoc, flatten}
use Prim.Native.Nat.{ℕ, suc, ◌+◌, ◌*◌, ◌-◌, ◌≤◌}
use native.Mathlib.Nat.{suc-mul, zero-mul, mul-zero, add-mul, add-zero, zero-add, mul-le-mul_right}
use native.Mathlib.Numerals.{add-one}
use native.Mathlib.Omega.{arith}
use lib.ListN.{length, take, drop, length-append, length-drop, take-append-drop}
use lib.Seq.{sets, sets-eq, take_at, drop_at, drop-drop, take-take, take-add, length-take-le}
use borrow.Rule.Slice.PartMut.{mid_of, put_mid, mid_len, drop_put, same_len_mid}
use Rattle.builder.specs.Contract.{written, in_front}

-- ---- a row is written

next_row : (w r : ℕ) → (r + 1) * w ≡ r * w + w
next_row w r = rw (add-one r) (suc-mul r w)

pub two-on : (i : ℕ) → i + 2 ≡ suc (suc i)
two-on i = omega arith

pub three_on : (i : ℕ) → i + 3 ≡ suc (suc (suc i))
three_on i = omega arith

pub four-on : (i : ℕ) → i + 4 ≡ suc (suc (suc (suc i)))
four-on i = omega arith

-- numbers stored one after the other
pub stored : (row t : List ℕ) (i : ℕ) → i + length row ≤ length t → sets t i row ≡ take i t ++ (row ++ drop (i + length row) t)
stored row t i fit = sets-eq row t i fit ∙ append_assoc (take i t) row (drop (i + length row) t)

-- a row goes in behind the first r rows of t, over so many numbers: over none it is put in between, over a row's it is written over one
abbrev gone_in : (w over r : ℕ) (row t : List ℕ) → List ℕ
gone_in w over r row t = take (r * w) t ++ (row ++ drop (r * w + over) t)

module _ (w over r : ℕ) (t v row : List ℕ) (wide : length row ≡ w) (fit : r * w ≤ length t) (e : v ≡ gone_in w over r row t) where
  before-it : length (take (r * w) t ++ row) ≡ r * w + w
  before-it =
      let front : length (take (r * w) t) ≡ r * w = length-take-le (r * w) t fit in
      let both = length-append (take (r * w) t) row in
      omega arith

  as_two : v ≡ (take (r * w) t ++ row) ++ drop (r * w + over) t
  as_two = e ∙ sym (append_assoc (take (r * w) t) row (drop (r * w + over) t))

  up_to_it : take (r * w) t ++ row ≡ take ((r + 1) * w) v
  up_to_it = rw (next_row w r, as_two) (sym (take_at (take (r * w) t ++ row) (drop (r * w + over) t) (r * w + w) before-it))

  behind_it : drop ((r + 1) * w) v ≡ drop (r * w + over) t
  behind_it = rw (next_row w r, as_two) (drop_at (take (r * w) t ++ row) (drop (r * w + over) t) (r * w + w) before-it)

  long-enough : (r + 1) * w ≤ length v
  long-enough =
      let front = before-it in
      let both = length-append (take (r * w) t ++ row) (drop (r * w + over) t) in
      rw (next_row w r, as_two) (omega arith)

-- a row was written over one
module _ (w r : ℕ) (t v row : List ℕ) (wide : length row ≡ w) (fit : r * w + w ≤ length t) (e : v ≡ written w r row t) where
  pub one_more : take (r * w) t ++ row ≡ take ((r + 1) * w) v
  one_more = up_to_it w w r t v row wide (omega arith) e

  pub the_rest : drop ((r + 1) * w) v ≡ drop ((r + 1) * w) t
  the_rest = behind_it w w r t v row wide (omega arith) e ∙ ap (λ (n : ℕ). drop n t) (sym (next_row w r))

-- ---- rows one behind the other

-- each has so many numbers
abbrev pub Wide : ℕ → List (List ℕ) → Type 0
Wide w [] = Unit
Wide w (row ∷ rows) = (length row ≡ w) × Wide w rows

flat-long : (w : ℕ) (rows : List (List ℕ)) → Wide w rows → length (flatten rows) ≡ length rows * w
unfolding flatten
flat-long w [] wide = sym (zero-mul w)
flat-long w (row ∷ rows) wide =
    let rest = flat-long w rows wide.1 in
    let both = length-append row (flatten rows) in
    rw (suc-mul (length rows) w) (let first = wide.0 in omega arith)

-- they go in from row r on, one after the other
abbrev pub all_in : (w over r : ℕ) (rows : List (List ℕ)) (t : List ℕ) → List ℕ
all_in w over r [] t = t
all_in w over r (row ∷ rows) t = all_in w over (r + 1) rows (gone_in w over r row t)

-- that is the same as all at once
at_once :
    (w over r : ℕ) (rows : List (List ℕ)) (t : List ℕ)
    → Wide w rows
    → r * w ≤ length t
    → all_in w over r rows t ≡ take (r * w) t ++ (flatten rows ++ drop (r * w + length rows * over) t)
unfolding flatten
at_once w over r [] t wide fit = rw (zero-mul over, add-zero (r * w)) (sym (take-append-drop (r * w) t))
at_once w over r (row ∷ rows) t wide fit =
    let v = gone_in w over r row t in
    let later = length rows * over in
    let after = drop (r * w + length (row ∷ rows) * over) t in
    let front : take ((r + 1) * w) v ≡ take (r * w) t ++ row = sym (up_to_it w over r t v row wide.0 fit refl) in
    let far : r * w + over + later ≡ r * w + length (row ∷ rows) * over = rw (suc-mul (length rows) over) (omega arith) in
    let back : drop ((r + 1) * w + later) v ≡ after =
    sym (drop-drop later ((r + 1) * w) v) ∙ ap (λ (l : List ℕ). drop later l) (behind_it w over r t v row wide.0 fit refl)
    ∙ drop-drop later (r * w + over) t ∙ ap (λ (n : ℕ). drop n t) far in
    at_once w over (r + 1) rows v wide.1 (long-enough w over r t v row wide.0 fit refl)
    ∙ ap₂ (λ (x y : List ℕ). x ++ (flatten rows ++ y)) front back
    ∙ append_assoc (take (r * w) t) row (flatten rows ++ after)
    ∙ ap (λ (x : List ℕ). take (r * w) t ++ x) (sym (append_assoc row (flatten rows) after))

-- ---- rows move down, and as many are written in front of them

-- the first numbers, which stayed where all others moved down, are written over
pub in_front_lem :
    (w : ℕ) (rows : List (List ℕ)) (l p : List ℕ)
    → Wide w rows
    → length rows * w ≤ length l
    → p ≡ take (length rows * w) l ++ take (length l - length rows * w) l
    → all_in w w 0 rows p ≡ in_front w rows l
in_front_lem w rows l p wide le moved =
    let by = length rows * w in
    let stay : length (take by l) ≡ by = length-take-le by l le in
    let none : 0 * w ≡ 0 = zero-mul w in
    let all : all_in w w 0 rows p ≡ flatten rows ++ drop by p = rw (none, zero-add by) at (at_once w w 0 rows p wide (omega arith)) in
    all ∙ rw moved (ap (λ (x : List ℕ). flatten rows ++ x) (drop_at (take by l) (take (length l - by) l) by stay))

-- ---- the part from x to z was lent, the numbers up to y and k places behind them: it comes back with k others in front, and as long

-- the part as it was lent
abbrev pub lent : (x z : ℕ) (t : List ℕ) → List ℕ
lent x z t = mid_of x (z - x) t

module _ (x y k z : ℕ) (t part front : List ℕ) (low : x ≤ y) (end : z ≡ y + k) (fit : z ≤ length t) (long : length front ≡ k)
    (e : part ≡ front ++ take (length (lent x z t) - k) (lent x z t)) where
  part-is : part ≡ front ++ drop x (take y t)
  part-is =
      let all : length (lent x z t) ≡ z - x = mid_len x z t fit in
      let short : length (lent x z t) - k ≡ y - x = omega arith in
      let whole : x + (y - x) ≡ y = omega arith in
      let before : length (take x t) ≡ x = length-take-le x t (omega arith) in
      let tail : drop x (take y t) ≡ take (y - x) (drop x t) =
      rw (← whole) (rw (take-add x (y - x) t, drop_at (take x t) (take (y - x) (drop x t)) x before, whole)) in
      let moved : take (y - x) (lent x z t) ≡ take (y - x) (drop x t) = take-take (y - x) (z - x) (drop x t) (omega arith) in
      e ∙ ap (λ (l : List ℕ). front ++ l) (ap (λ (n : ℕ). take n (lent x z t)) short ∙ moved ∙ sym tail)

  part-long : length part ≡ z - x
  part-long =
      let all : length (take y t) ≡ y = length-take-le y t (omega arith) in
      let drops : length (drop x (take y t)) ≡ length (take y t) - x = length-drop x (take y t) in
      let both : length (front ++ drop x (take y t)) ≡ length front + length (drop x (take y t)) = length-append front (drop x (take y t)) in
      rw part-is (omega arith)

  inserted : take x (take y t) ++ (front ++ drop x (take y t)) ≡ take z (put_mid x (z - x) t part)
  inserted =
      let after = drop (z - x) (drop x t) in
      let before : length (take x t) ≡ x = length-take-le x t (omega arith) in
      let both : length (take x t ++ part) ≡ z = length-append (take x t) part ∙ (let p = part-long in omega arith) in
      rw (take-take x y t low, ← part-is)
      (sym (rw (← append_assoc (take x t) part after) (take_at (take x t ++ part) after z both)))

  behind : drop z (put_mid x (z - x) t part) ≡ drop z t
  behind = drop_put x z t part (omega arith) fit part-long

  as_long : length (put_mid x (z - x) t part) ≡ length t
  as_long = same_len_mid x (z - x) t part (part-long ∙ sym (mid_len x z t fit))

-- rows from row a on moved down once, and as many others stand before them: as if each of these had been put in by itself
pub record MovedDown (w a r : ℕ) (rows : List (List ℕ)) (t v : List ℕ) : Type 0 where
  pub is : all_in w 0 a rows (take (r * w) t) ≡ take ((r + length rows) * w) v
  pub rest : drop ((r + length rows) * w) v ≡ drop ((r + length rows) * w) t
  pub long : length v ≡ length t

pub moved_down :
    (w a r : ℕ) (rows : List (List ℕ)) (t part : List ℕ)
    → Wide w rows
    → a ≤ r
    → (r + length rows) * w ≤ length t
    → part ≡ in_front w rows (lent (a * w) ((r + length rows) * w) t)
    → MovedDown w a r rows t (put_mid (a * w) ((r + length rows) * w - a * w) t part)
moved_down w a r rows t part wide le fit e =
    let by = length rows * w in
    let end = (r + length rows) * w in
    let low : a * w ≤ r * w = mul-le-mul_right w le in
    let last : end ≡ r * w + by = add-mul r (length rows) w in
    let front : length (flatten rows) ≡ by = flat-long w rows wide in
    let all : length (take (r * w) t) ≡ r * w = length-take-le (r * w) t (omega arith) in
    let none : a * w + length rows * 0 ≡ a * w = rw (mul-zero (length rows), add-zero (a * w)) in
    record {
      is =
          (rw none at (at_once w 0 a rows (take (r * w) t) wide (omega arith)))
          ∙ inserted (a * w) (r * w) by end t part (flatten rows) low last fit front e;
      rest = behind (a * w) (r * w) by end t part (flatten rows) low last fit front e;
      long = as_long (a * w) (r * w) by end t part (flatten rows) low last fit front e;
    }
