-- UTF-8 is decided as the grammar says. The alternatives' first ranges climb (one computed test), so at most one alternative
-- begins given bytes, and the first that does is the only one; each character is a byte or more, so fuel for the bytes is enough.
-- Assumes nothing.
use Prim.Native.Nat.{ℕ, zero, suc, ◌≤◌}
use mathlib.Core.Path.{◌≡◌, refl, sym, ap, subst, ◌∙◌}
use mathlib.Core.Bool.{Bool, true, false, not, ◌&&◌, and_assoc, and-eq-true_iff, false≢true}
use mathlib.Core.List.Memᴰ
use mathlib.Core.List.{List, [], ◌∷◌, ◌++◌, Memᴰ}
use mathlib.Core.Logic.{◌⊎◌, inl, inr, ⊎_elim}
use native.Mathlib.Omega.{arith}
use lib.Dec.{leb, eqb, eqb-suc-zero}
use lib.ListN.{length, take, drop, length-drop, take-append-drop}
use lib.Seq.{drop_at, drop-nil}
use borrow.Author.Tests.{leb-true, lt-leb, le-leb, eqb-true, eqb-false, ne_eqb}
use Rattle.rules.specs.Characters.{Range, within, alternatives, begins, first_of, char_length, characters, is_utf8, Of, whole, byte, WellFormed, nothing, character}

-- what follows from either value of a test follows
pub either : {P : Type 0} (t : Bool) → (t ≡ true → P) → (t ≡ false → P) → P
either true met missed = met refl
either false met missed = missed refl

both : (a b : Bool) → (a && b) ≡ true → (a ≡ true) × (b ≡ true)
both a b = (and-eq-true_iff a b).0

-- ---- the test on the alternatives: each has one to four ranges, and its first range lies past the first ranges before it
abbrev climbs : ℕ → List (List Range) → Bool
climbs n [] = true
climbs n ([] ∷ more) = false
climbs n ((r ∷ rs) ∷ more) = (leb n r.0 && leb r.0 r.1 && leb (length rs) 3) && climbs (suc r.1) more

-- what it says of the first alternative
record Climb (n : ℕ) (r : Range) (rs : List Range) (more : List (List Range)) : Type 0 where
  past : n ≤ r.0
  range : r.0 ≤ r.1
  few : length rs ≤ 3
  rest : climbs (suc r.1) more ≡ true

climb : (n : ℕ) (r : Range) (rs : List Range) (more : List (List Range)) → climbs n ((r ∷ rs) ∷ more) ≡ true → Climb n r rs more
climb n r rs more e =
    let all = both (leb n r.0 && leb r.0 r.1 && leb (length rs) 3) (climbs (suc r.1) more) e in
    let three = both (leb n r.0 && leb r.0 r.1) (leb (length rs) 3) all.0 in
    let two = both (leb n r.0) (leb r.0 r.1) three.0 in
    record { past = leb-true n r.0 two.0; range = leb-true r.0 r.1 two.1; few = leb-true (length rs) 3 three.1; rest = all.1 }

-- and of every alternative
sized : (n : ℕ) (all : List (List Range)) {a : List Range} → climbs n all ≡ true → Memᴰ a all → (1 ≤ length a) × (length a ≤ 4)
sized n [] e m = absurd (Memᴰ.not-nil m)
sized n ([] ∷ more) e m = absurd (false≢true e)
sized n ((r ∷ rs) ∷ more) e m =
    let k = climb n r rs more e in
    ⊎_elim (λ p. let l = ap length p in (omega arith, omega arith)) (λ q. sized (suc r.1) more k.rest q) (Memᴰ.cases_cons m)

-- a byte with which one of them begins is past all that went before
high : (n b : ℕ) (bytes : List ℕ) (all : List (List Range)) {a : List Range}
    → climbs n all ≡ true
    → Memᴰ a all
    → begins a (b ∷ bytes) ≡ true
    → n ≤ b
high n b bytes [] e m h = absurd (Memᴰ.not-nil m)
high n b bytes ([] ∷ more) e m h = absurd (false≢true e)
high n b bytes ((r ∷ rs) ∷ more) e m h =
    let k = climb n r rs more e in
    ⊎_elim
    (λ p.
    let starts : begins (r ∷ rs) (b ∷ bytes) ≡ true = rw p at h in
    let low = leb-true r.0 b (both (leb r.0 b) (leb b r.1) (both (within r b) (begins rs bytes) starts).0).0 in
    omega arith)
    (λ q. let low = high (suc r.1) b bytes more k.rest q h in omega arith)
    (Memᴰ.cases_cons m)

-- so the first that begins the bytes is the only one
only : (n b : ℕ) (bytes : List ℕ) (all : List (List Range)) {a : List Range} → climbs n all ≡ true → Memᴰ a all → begins a (b ∷ bytes) ≡ true
    → first_of all (b ∷ bytes) ≡ length a
only n b bytes [] e m h = absurd (Memᴰ.not-nil m)
only n b bytes ([] ∷ more) e m h = absurd (false≢true e)
only n b bytes ((r ∷ rs) ∷ more) e m h =
    let k = climb n r rs more e in
    ⊎_elim
    (λ p. let starts : begins (r ∷ rs) (b ∷ bytes) ≡ true = rw p at h in rw starts (sym (ap length p)))
    (λ q.
    let low = high (suc r.1) b bytes more k.rest q h in
    rw (le-leb r.0 b (omega arith), lt-leb b r.1 low) (only (suc r.1) b bytes more k.rest q h))
    (Memᴰ.cases_cons m)

-- ---- what `first_of` finds
record Found (all : List (List Range)) (bytes : List ℕ) (size : ℕ) : Type 0 where
  alternative : List Range
  member : Memᴰ alternative all
  starts : begins alternative bytes ≡ true
  is : size ≡ length alternative

found : (all : List (List Range)) (bytes : List ℕ) → (first_of all bytes ≡ 0) ⊎ Found all bytes (first_of all bytes)
found [] bytes = inl refl
found (a ∷ more) bytes =
    either (begins a bytes)
    (λ e. inr (record { alternative = a; member = Memᴰ.head refl; starts = e; is = rw e }))
    (λ e.
    ⊎_elim (λ z. inl (rw e z))
    (λ f. inr (record { alternative = f.alternative; member = Memᴰ.tail f.member; starts = f.starts; is = rw e f.is }))
    (found more bytes))

first : (bytes : List ℕ) → (char_length bytes ≡ 0) ⊎ Found alternatives bytes (char_length bytes)
unfolding char_length
first bytes = found alternatives bytes

-- ---- bytes that an alternative begins
fits : (a : List Range) (bytes : List ℕ) → begins a bytes ≡ true → length a ≤ length bytes
fits [] bytes e = omega arith
fits (r ∷ rs) [] e = absurd (false≢true e)
fits (r ∷ rs) (b ∷ bytes) e = let k = fits rs bytes (both (within r b) (begins rs bytes) e).1 in omega arith

taken : (a : List Range) (bytes : List ℕ) → begins a bytes ≡ true → Of a (take (length a) bytes)
taken [] bytes e = whole
taken (r ∷ rs) [] e = absurd (false≢true e)
taken (r ∷ rs) (b ∷ bytes) e =
    let k = both (within r b) (begins rs bytes) e in
    let w = both (leb r.0 b) (leb b r.1) k.0 in
    byte (leb-true r.0 b w.0) (leb-true b r.1 w.1) (taken rs bytes k.1)

of_begins : {a : List Range} {bytes : List ℕ} (rest : List ℕ) → Of a bytes → begins a (bytes ++ rest) ≡ true
of_begins rest whole = refl
of_begins rest (byte {r} {rs} {b} low up o) = rw (le-leb r.0 b low, le-leb b r.1 up) (of_begins rest o)

of_length : {a : List Range} {bytes : List ℕ} → Of a bytes → length bytes ≡ length a
of_length whole = refl
of_length (byte low up o) = ap suc (of_length o)

-- an alternative in two parts begins the bytes where the first part does, and the second what follows it
pub begins-then : (a b : List Range) (bytes : List ℕ) → begins (a ++ b) bytes ≡ (begins a bytes && begins b (drop (length a) bytes))
begins-then [] b bytes = refl
begins-then (r ∷ rs) [] [] = refl
begins-then (r ∷ rs) (q ∷ qs) [] = refl
begins-then (r ∷ rs) b (x ∷ bytes) = rw (begins-then rs b bytes) (sym (and_assoc (within r x) (begins rs bytes) (begins b (drop (length rs) bytes))))

-- ---- the length of the first character
pub char_four : (bytes : List ℕ) → char_length bytes ≤ 4
char_four bytes =
    ⊎_elim (λ z. omega arith) (λ f. let k = sized 0 alternatives refl f.member in omega (arith, f.is)) (first bytes)

pub char_fits : (bytes : List ℕ) → char_length bytes ≤ length bytes
char_fits bytes = ⊎_elim (λ z. omega arith) (λ f. omega (arith, f.is, fits f.alternative bytes f.starts)) (first bytes)

-- ---- more fuel than there are bytes changes nothing
no_bytes : (n : ℕ) → characters n [] ≡ true
unfolding characters
no_bytes zero = refl
no_bytes (suc n) = refl

pub enough : (n m : ℕ) (bytes : List ℕ) → length bytes ≤ n → length bytes ≤ m → characters n bytes ≡ characters m bytes
unfolding characters
enough zero m [] h k = sym (no_bytes m)
enough zero m (b ∷ bytes) h k = absurd (omega arith)
enough (suc n) m [] h k = sym (no_bytes m)
enough (suc n) zero (b ∷ bytes) h k = absurd (omega arith)
enough (suc n) (suc m) (b ∷ bytes) h k =
    let size = char_length (b ∷ bytes) in
    either (eqb size 0) (λ e. rw e)
    (λ e.
    let some = eqb-false size 0 e in
    let left = length-drop size (b ∷ bytes) in
    let rest = drop size (b ∷ bytes) in
    let same : characters n rest ≡ characters m rest = enough n m rest (omega arith) (omega arith) in
    rw same)

-- ---- the first character of bytes and the rest of them
pub utf8_rest : (bytes : List ℕ) → 1 ≤ char_length bytes → is_utf8 bytes ≡ is_utf8 (drop (char_length bytes) bytes)
unfolding is_utf8 characters
utf8_rest [] h = let k = char_fits [] in absurd (omega arith)
utf8_rest (b ∷ bytes) h =
    let size = char_length (b ∷ bytes) in
    let left = length-drop size (b ∷ bytes) in
    let rest = drop size (b ∷ bytes) in
    rw (eqb-suc-zero (length bytes), ne_eqb size 0 (λ e. omega arith)) (enough (length bytes) (length rest) rest (omega arith) (omega arith))

pub utf8_none : (bytes : List ℕ) → 1 ≤ length bytes → char_length bytes ≡ 0 → is_utf8 bytes ≡ false
unfolding is_utf8 characters
utf8_none [] h e = absurd (omega arith)
utf8_none (b ∷ bytes) h e = rw (eqb-suc-zero (length bytes), e)

pub utf8_nothing : is_utf8 [] ≡ true
unfolding is_utf8 characters
utf8_nothing = refl

-- ---- the rest of well-formed bytes
pub utf8_some : (bytes : List ℕ) → 1 ≤ length bytes → is_utf8 bytes ≡ true → 1 ≤ char_length bytes
utf8_some bytes h e =
    either (eqb (char_length bytes) 0) (λ z. absurd (false≢true (sym (utf8_none bytes h (eqb-true (char_length bytes) 0 z)) ∙ e)))
    (λ z. let some = eqb-false (char_length bytes) 0 z in omega arith)

pub utf8_again : (bytes : List ℕ) → is_utf8 bytes ≡ true → is_utf8 (drop (char_length bytes) bytes) ≡ true
utf8_again [] e = rw drop-nil e
utf8_again (b ∷ bytes) e = sym (utf8_rest (b ∷ bytes) (utf8_some (b ∷ bytes) (omega arith) e)) ∙ e

-- ---- `is_utf8` is the grammar
formed : (n : ℕ) (bytes : List ℕ) → characters n bytes ≡ true → WellFormed bytes
unfolding characters
formed zero [] e = nothing
formed zero (b ∷ bytes) e = absurd (false≢true (sym (eqb-suc-zero (length bytes)) ∙ e))
formed (suc n) [] e = nothing
formed (suc n) (b ∷ bytes) e =
    let size = char_length (b ∷ bytes) in
    let more : (not (eqb size 0) && characters n (drop size (b ∷ bytes))) ≡ true = rw eqb-suc-zero at e in
    ⊎_elim (λ z. absurd (false≢true (rw z at more)))
    (λ f.
    let rest : characters n (drop (length f.alternative) (b ∷ bytes)) ≡ true =
    rw f.is at (both (not (eqb size 0)) (characters n (drop size (b ∷ bytes))) more).1 in
    subst WellFormed (take-append-drop (length f.alternative) (b ∷ bytes))
    (character f.member (taken f.alternative (b ∷ bytes) f.starts) (formed n (drop (length f.alternative) (b ∷ bytes)) rest)))
    (first (b ∷ bytes))

pub well_formed : (bytes : List ℕ) → is_utf8 bytes ≡ true → WellFormed bytes
unfolding is_utf8
well_formed bytes e = formed (length bytes) bytes e

-- the first character of bytes that begin with an alternative's is that alternative's
one-character : {a : List Range} (bytes rest : List ℕ)
    → Memᴰ a alternatives
    → Of a bytes
    → (1 ≤ length bytes) × (char_length (bytes ++ rest) ≡ length bytes)
unfolding char_length
one-character [] rest m o = let k = sized 0 alternatives refl m in absurd (omega (arith, of_length o))
one-character (b ∷ bytes) rest m o = (omega arith, only 0 b (bytes ++ rest) alternatives refl m (of_begins rest o) ∙ sym (of_length o))

pub decided : {bytes : List ℕ} → WellFormed bytes → is_utf8 bytes ≡ true
decided nothing = utf8_nothing
decided (character {a} {bytes} {rest} m o w) =
    let k = one-character bytes rest m o in
    utf8_rest (bytes ++ rest) (omega arith) ∙ ap is_utf8 (drop_at bytes rest (char_length (bytes ++ rest)) (sym k.1)) ∙ decided w
