-- The laws by which callers use the definition of a listing: a number's digits, the next row of a walk over rows, and a row's numbers as a part of
-- its table. Assumes nothing.
use Prim.Native.Nat.{ℕ, zero, suc, ◌+◌, ◌*◌, ◌-◌, ◌/◌, ◌%◌, ◌^◌, ◌≤◌, ◌<◌}
use mathlib.Core.List.{List, [], ◌∷◌, ◌++◌}
use mathlib.Core.Path.{◌≡◌, refl}
use native.Mathlib.Nat.{add-zero}
use native.Mathlib.Omega.{arith}
use borrow.Author.Tests.{ltb-true, ltb-false, lt-ltb, le-ltb, eq-eqb, ne_eqb}
use lib.Dec.{ltb, eqb}
use lib.ListN.{length, get_or, length-append}
use lib.Seq.{drop-cons}
use Rattle.rules.specs.Flat.{tag_start, tag_leaf}
use Rattle.rules.specs.Limits
use Rattle.rules.specs.Listing.{digit, decimal_in, decimal, numbered, line, word_ok, word_refused, word_d, tree_line, tree_lines, dropped_line, dropped_lines, listing}
use Rattle.rules.specs.Run.{Answer, accepted, refused_at}
use Rattle.rules.specs.Questions.{row_count, tag_at, kind_at, open_after}
use Rattle.rules.specs.Tables.{cell, part}
use Rattle.rules.specs.Treelist.{tree_rows, dropped_rows, most_printed}
use Rattle.rules.proofs.Characters.{either}
use Rattle.rules.proofs.Questions.{one_more, no_more, open_after_most}

-- ---- digits

-- any number of turns that is more than the number
enough : (f g n : ℕ) → n < f → n < g → decimal_in f n ≡ decimal_in g n
unfolding decimal_in
enough zero g n h k = absurd (omega arith)
enough (suc f) zero n h k = absurd (omega arith)
enough (suc f) (suc g) n h k =
    either (ltb n 10) (λ low. rw low)
    (λ high.
    let ten : 10 ≤ n = ltb-false n 10 high in
    rw (high, enough f g (n / 10) (omega arith) (omega arith)))

pub decimal-low : (n : ℕ) → n < 10 → decimal n ≡ digit n ∷ []
unfolding decimal decimal_in
decimal-low n low = rw (lt-ltb n 10 low)

pub decimal-high : (n : ℕ) → 10 ≤ n → decimal n ≡ decimal (n / 10) ++ (digit (n % 10) ∷ [])
unfolding decimal decimal_in
decimal-high n high = rw (le-ltb n 10 high, enough n (suc (n / 10)) (n / 10) (omega arith) (omega arith))

-- ---- rows one after the other
pub tree_next : (tree : List ℕ) (count row depth : ℕ) → row < count
    → tree_lines tree (count - row) row depth
    ≡ tree_line tree row depth ++ tree_lines tree (count - (row + 1)) (row + 1) (open_after (tag_at tree row) depth)
unfolding tree_lines
tree_next tree count row depth there = rw (one_more count row there)

pub tree_end : (tree : List ℕ) (count row depth : ℕ) → count ≤ row → tree_lines tree (count - row) row depth ≡ []
unfolding tree_lines
tree_end tree count row depth end = rw (no_more count row end)

pub dropped-next : (dropped : List ℕ) (count row : ℕ) → row < count
    → dropped_lines dropped (count - row) row ≡ dropped_line dropped row ++ dropped_lines dropped (count - (row + 1)) (row + 1)
unfolding dropped_lines
dropped-next dropped count row there = rw (one_more count row there)

pub dropped-end : (dropped : List ℕ) (count row : ℕ) → count ≤ row → dropped_lines dropped (count - row) row ≡ []
unfolding dropped_lines
dropped-end dropped count row end = rw (no_more count row end)

-- ---- numbers of a row, as a part of the table
next-number : (l : List ℕ) (a b n : ℕ) → suc a ≡ b → a < length l → part l a (suc n) ≡ get_or l a 0 ∷ part l b n
next-number l a b n e here = rw (← e, drop-cons l a 0 here)

three_numbers : (l : List ℕ) (a b c : ℕ) → suc a ≡ b → suc b ≡ c → c < length l → part l a 3 ≡ get_or l a 0 ∷ get_or l b 0 ∷ get_or l c 0 ∷ []
three_numbers l a b c e f here =
    rw (next-number l a b 2 e (omega arith), next-number l b c 1 f (omega arith), next-number l c (suc c) 0 refl here)

module _ (tree : List ℕ) (row depth : ℕ) (there : row < row_count tree) where
  -- where the row begins
  abbrev from : ℕ
  from = row * Limits.tree_width

  pub start-line : tag_at tree row ≡ tag_start
      → tree_line tree row depth ≡ line (decimal depth) (get_or tree (from + 1) 0 ∷ get_or tree (from + 4) 0 ∷ [])
  unfolding tree_line
  start-line is = rw (eq-eqb _ _ is)

  pub leaf-line : tag_at tree row ≡ tag_leaf → tree_line tree row depth ≡ line (decimal depth) (part tree (from + 1) 4)
  unfolding tree_line
  leaf-line is =
      let others = three_numbers tree (from + 2) (from + 3) (from + 4) (omega arith) (omega arith) (omega arith) in
      rw (is, next-number tree (from + 1) (from + 2) 3 (omega arith) (omega arith), others)

  pub no_line : (tag_at tree row ≡ tag_start → ⊥) → (tag_at tree row ≡ tag_leaf → ⊥) → tree_line tree row depth ≡ []
  unfolding tree_line
  no_line start leaf = rw (ne_eqb _ _ start, ne_eqb _ _ leaf)

pub dropped_line_lem : (dropped : List ℕ) (row : ℕ) → row < length dropped / Limits.dropped_width
    → dropped_line dropped row ≡ line word_d (part dropped (row * Limits.dropped_width) 3)
unfolding dropped_line
dropped_line_lem dropped row there =
    let a = row * Limits.dropped_width in
    rw (add-zero a, three_numbers dropped a (a + 1) (a + 2) (omega arith) (omega arith) (omega arith))

-- a row's tag is its first number
pub tag_first : (tree : List ℕ) (row : ℕ) → tag_at tree row ≡ get_or tree (row * Limits.tree_width) 0
tag_first tree row = rw (add-zero (row * Limits.tree_width))

-- ---- how many bytes a listing has at most, when every number of its rows has 32 bits

-- a number below it has at most so many digits
abbrev below_digits : ℕ → ℕ
below_digits zero = 1
below_digits (suc k) = below_digits k * 10

digits_few : (k n : ℕ) → n < below_digits (suc k) → length (decimal n) ≤ suc k
digits_few zero n low = rw (decimal-low n (omega arith)) (omega arith)
digits_few (suc k) n low =
    either (ltb n 10)
    (λ few. rw (decimal-low n (ltb-true n 10 few)) (omega arith))
    (λ more.
    let high : 10 ≤ n = ltb-false n 10 more in
    let shorter = digits_few k (n / 10) (omega arith) in
    rw (decimal-high n high, length-append (decimal (n / 10)) (digit (n % 10) ∷ [])) (omega arith))

abbrev pub Words : List ℕ → Type 0
Words l = (i : ℕ) → get_or l i 0 < 2 ^ 32

word-few : (n : ℕ) → n < 2 ^ 32 → length (decimal n) ≤ 10
word-few n low = digits_few 9 n (omega arith)

count_few : (n : ℕ) → n < 2 ^ 64 → length (decimal n) ≤ 20
count_few n low = digits_few 19 n (omega arith)

line-long : (word numbers : List ℕ) → length (line word numbers) ≡ length word + (length (numbered numbers) + 1)
unfolding line
line-long word numbers = simp length-append

one-long : (a : ℕ) → length (numbered (a ∷ [])) ≡ 1 + length (decimal a)
unfolding numbered
one-long a = simp length-append (omega arith)

more-long : (a : ℕ) (numbers : List ℕ) → length (numbered (a ∷ numbers)) ≡ 1 + (length (decimal a) + length (numbered numbers))
unfolding numbered
more-long a numbers = simp length-append (omega arith)

two-long : (word : List ℕ) (a b : ℕ) → a < 2 ^ 32 → b < 2 ^ 32 → length (line word (a ∷ b ∷ [])) ≤ length word + 23
two-long word a b ha hb = omega (arith, line-long word (a ∷ b ∷ []), more-long a (b ∷ []), one-long b, word-few a ha, word-few b hb)

three_long : (word : List ℕ) (a b c : ℕ) → a < 2 ^ 32 → b < 2 ^ 32 → c < 2 ^ 32 → length (line word (a ∷ b ∷ c ∷ [])) ≤ length word + 34
three_long word a b c ha hb hc =
    let others = two-long word b c hb hc in
    omega (arith, line-long word (a ∷ b ∷ c ∷ []), line-long word (b ∷ c ∷ []), more-long a (b ∷ c ∷ []), word-few a ha)

four-long : (word : List ℕ) (a b c d : ℕ) → a < 2 ^ 32 → b < 2 ^ 32 → c < 2 ^ 32 → d < 2 ^ 32
    → length (line word (a ∷ b ∷ c ∷ d ∷ [])) ≤ length word + 45
four-long word a b c d ha hb hc hd =
    let others = three_long word b c d hb hc hd in
    omega (arith, line-long word (a ∷ b ∷ c ∷ d ∷ []), line-long word (b ∷ c ∷ d ∷ []), more-long a (b ∷ c ∷ d ∷ []), word-few a ha)

head_long : (word : List ℕ) (a b : ℕ) → a < 2 ^ 64 → b < 2 ^ 64 → length (line word (a ∷ b ∷ [])) ≤ length word + 43
head_long word a b ha hb = omega (arith, line-long word (a ∷ b ∷ []), more-long a (b ∷ []), one-long b, count_few a ha, count_few b hb)

tree_line_few : (tree : List ℕ) (row depth : ℕ) → Words tree → depth < 2 ^ 32 → length (tree_line tree row depth) ≤ 55
unfolding tree_line
tree_line_few tree row depth words low =
    let deep = word-few depth low in
    let kind = kind_at tree row in
    let from = cell Limits.tree_width tree row 2 in
    let size = cell Limits.tree_width tree row 3 in
    let token = cell Limits.tree_width tree row 4 in
    either (eqb (tag_at tree row) tag_start)
    (λ start. rw start (omega (arith, two-long (decimal depth) kind token (words _) (words _))))
    (λ other.
    either (eqb (tag_at tree row) tag_leaf)
    (λ leaf. rw (other, leaf) (omega (arith, four-long (decimal depth) kind from size token (words _) (words _) (words _) (words _))))
    (λ none. rw (other, none) (omega arith)))

tree_lines_few : (tree : List ℕ) (rows row depth : ℕ) → Words tree → depth + rows < 2 ^ 32 → length (tree_lines tree rows row depth) ≤ rows * 55
unfolding tree_lines
tree_lines_few tree zero row depth words low = omega arith
tree_lines_few tree (suc rows) row depth words low =
    let after = open_after (tag_at tree row) depth in
    let most = open_after_most (tag_at tree row) depth in
    let own = tree_line_few tree row depth words (omega arith) in
    let rest = tree_lines_few tree rows (row + 1) after words (omega arith) in
    omega (arith, length-append (tree_line tree row depth) (tree_lines tree rows (row + 1) after))

dropped-lines_few : (dropped : List ℕ) (rows row : ℕ) → Words dropped → length (dropped_lines dropped rows row) ≤ rows * 35
unfolding dropped_lines dropped_line
dropped-lines_few dropped zero row words = omega arith
dropped-lines_few dropped (suc rows) row words =
    let number : ℕ → ℕ = λ column. cell Limits.dropped_width dropped row column in
    let own = three_long word_d (number 0) (number 1) (number 2) (words _) (words _) (words _) in
    let rest = dropped-lines_few dropped rows (row + 1) words in
    omega (arith, length-append (dropped_line dropped row) (dropped_lines dropped rows (row + 1)))

-- the lines of every answer in 64 bits, on buffers that are no larger than the program's
abbrev pub InWords : Answer → Type 0
InWords (accepted rows count) = (rows < 2 ^ 64) × (count < 2 ^ 64)
InWords (refused_at number place) = (number < 2 ^ 64) × (place < 2 ^ 64)

accepted_few : (tree dropped : List ℕ) (rows count shown told : ℕ)
    → (rows < 2 ^ 64) × (count < 2 ^ 64)
    → Words tree
    → Words dropped
    → length tree ≤ tree_rows * Limits.tree_width
    → length dropped ≤ dropped_rows * Limits.dropped_width
    → shown ≤ row_count tree
    → told ≤ length dropped / Limits.dropped_width
    → length (line word_ok (rows ∷ count ∷ []) ++ (tree_lines tree shown 0 0 ++ dropped_lines dropped told 0)) ≤ most_printed
accepted_few tree dropped rows count shown told low wt wd lt ld hs ht =
    let first = line word_ok (rows ∷ count ∷ []) in
    let second = tree_lines tree shown 0 0 in
    let third = dropped_lines dropped told 0 in
    let head = head_long word_ok rows count low.0 low.1 in
    let lines = tree_lines_few tree shown 0 0 wt (omega arith) in
    let notes = dropped-lines_few dropped told 0 wd in
    omega (arith, length-append first (second ++ third), length-append second third)

pub listing-few : (answer : Answer) (tree dropped : List ℕ) → InWords answer → Words tree → Words dropped
    → length tree ≤ tree_rows * Limits.tree_width
    → length dropped ≤ dropped_rows * Limits.dropped_width → length (listing answer tree dropped) ≤ most_printed
unfolding listing
listing-few (accepted rows count) tree dropped low wt wd lt ld = accepted_few tree dropped rows count _ _ low wt wd lt ld (omega arith) (omega arith)
listing-few (refused_at number place) tree dropped low wt wd lt ld = omega (arith, head_long word_refused number place low.0 low.1)
