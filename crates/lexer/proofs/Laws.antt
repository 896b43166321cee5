-- Laws of the cursor, for callers. Where a token is there, what is left of it lies in the text; each step keeps a fine cursor fine,
-- since what is left of well-formed bytes after their first character is well-formed; and each step leaves less to read.
-- Assumes nothing.
use Prim.Native.Nat.{ℕ, zero, suc, ◌+◌, ◌-◌, ◌≤◌, ◌<◌}
use mathlib.Core.Path.{◌≡◌, sym, ap, ◌∙◌}
use mathlib.Core.List.{List, [], ◌∷◌}
use mathlib.Core.Logic.{◌⊎◌, inl, inr, ⊎_elim}
use Rattle.std.specs.Prelude.{Option, None as none, Some as some}
use native.Mathlib.Nat.{add-zero, sub-zero}
use native.Mathlib.Omega.{arith}
use lib.Dec.{leb}
use lib.ListN.{length, take, drop, length-drop}
use lib.Seq.{length-take-le, take-nil, drop-drop}
use borrow.Author.Tests.{lt-ltb, le-ltb, leb-true, leb-false, le-leb, lt-leb}
use Rattle.rules.specs.Limits
use Rattle.rules.specs.Token
use Rattle.rules.specs.Characters.{char_length}
use Rattle.rules.specs.Tables.{token_count, kind_at, start_at, length_at}
use Rattle.rules.specs.Cursor.{Cursor, at_start, peek, rest_start, rest_length, peek_text, eaten, consumed, left}
use Rattle.rules.proofs.Characters.{either, utf8_some, utf8_again}
use Rattle.lexer.specs.Fine.{IsWord, Sound, Fine, Here}

pub le_or_lt : (a b : ℕ) → (a ≤ b) ⊎ (b < a)
le_or_lt a b = either (leb a b) (λ t. inl (leb-true a b t)) (λ f. inr (leb-false a b f))

-- ---- what `peek` tells
pub record Next (tokens : List ℕ) (c : Cursor) (kind : ℕ) : Type 0 where
  pub there : c.token < token_count tokens
  pub is : kind_at tokens c.token ≡ kind

module _ (tokens : List ℕ) (c : Cursor) where
  pub peek-some : c.token < token_count tokens → peek tokens c ≡ some (kind_at tokens c.token)
  unfolding peek
  peek-some there = rw (lt-ltb c.token (token_count tokens) there)

  pub peek-none : token_count tokens ≤ c.token → peek tokens c ≡ none
  unfolding peek
  peek-none end = rw (le-ltb c.token (token_count tokens) end)

  module _ {p : Option ℕ} (told : p ≡ peek tokens c) where
    pub peeked : {kind : ℕ} → p ≡ some kind → Next tokens c kind
    peeked {kind} e =
        ⊎_elim (λ end. let z : ◌≡◌ {A = ℕ} 0 1 = cc (peek-none end, e) in absurd (omega arith))
        (λ there. record { there = there; is = cc (peek-some there, e) })
        (le_or_lt (token_count tokens) c.token)

    pub ended : p ≡ none → token_count tokens ≤ c.token
    ended e =
        ⊎_elim (λ end. end) (λ there. let z : ◌≡◌ {A = ℕ} 0 1 = cc (peek-some there, e) in absurd (omega arith))
        (le_or_lt (token_count tokens) c.token)

-- ---- what `consumed` comes to
module _ (tokens : List ℕ) (count : ℕ) (c : Cursor) where
  pub consumed-all : rest_length tokens c ≤ count → consumed tokens count c ≡ eaten c
  unfolding consumed
  consumed-all all = rw (le-leb (rest_length tokens c) count all)

  pub consumed-part : count < rest_length tokens c → consumed tokens count c ≡ record { token = c.token; taken = c.taken + count }
  unfolding consumed
  consumed-part more = rw (lt-leb (rest_length tokens c) count more)

-- ---- a cursor of whose token nothing is taken
pub fresh : {text tokens : List ℕ} → Sound text tokens → (token : ℕ) → Fine text tokens (record { token = token; taken = 0 })
unfolding peek_text rest_start rest_length
fresh sound token = record { sound = sound; fewer = omega arith; word = λ there word. rw (sub-zero, add-zero) (sound.word token there word) }

pub start_fine : {text tokens : List ℕ} → Sound text tokens → Fine text tokens at_start
start_fine sound = fresh sound 0

-- ---- a part of a part
drop_take : (n m : ℕ) (l : List ℕ) → drop n (take m l) ≡ take (m - n) (drop n l)
drop_take zero m l = rw sub-zero
drop_take (suc n) zero l = let none_left : zero - suc n ≡ zero = omega arith in rw none_left
drop_take (suc n) (suc m) [] = rw take-nil
drop_take (suc n) (suc m) (x ∷ l) = let less : suc m - suc n ≡ m - n = omega arith in rw less (drop_take n m l)

-- what is left of the next token once more bytes of it are taken
pub further : (text tokens : List ℕ) (c : Cursor) (count : ℕ)
    → peek_text text tokens (record { token = c.token; taken = c.taken + count }) ≡ drop count (peek_text text tokens c)
unfolding peek_text rest_start rest_length
further text tokens c count =
    let start = start_at tokens c.token + c.taken in
    let size = length_at tokens c.token - c.taken in
    let on : start_at tokens c.token + (c.taken + count) ≡ start + count = omega arith in
    let less : length_at tokens c.token - (c.taken + count) ≡ size - count = omega arith in
    rw (on, less) (sym (drop_take count size (drop start text) ∙ ap (take (size - count)) (drop-drop count start text)))

-- ---- at a fine cursor
module _ {text tokens : List ℕ} {c : Cursor} (fine : Fine text tokens c) where
  pub eaten-fine : Fine text tokens (eaten c)
  eaten-fine = fresh fine.sound (c.token + 1)

  -- where a token is there
  module _ (there : c.token < token_count tokens) where
    pub here : Here tokens c
    here =
        let inside = fine.sound.inside c.token there in
        let short = fine.sound.short in
        let fewer = fine.fewer in
        record { there = there; taken = omega arith; small = omega arith }

    pub rest_inside : rest_start tokens c + rest_length tokens c ≤ length text
    unfolding rest_start rest_length
    rest_inside =
        let inside = fine.sound.inside c.token there in
        let fewer = fine.fewer in
        omega arith

    pub rest_length_lem : length (peek_text text tokens c) ≡ rest_length tokens c
    unfolding peek_text
    rest_length_lem =
        let inside = rest_inside in
        length-take-le (rest_length tokens c) (drop (rest_start tokens c) text) (omega (arith, length-drop (rest_start tokens c) text))

    -- what is left to read
    taken_short : c.taken ≤ Limits.text
    taken_short =
        let inside = fine.sound.inside c.token there in
        let short = fine.sound.short in
        let fewer = fine.fewer in
        omega arith

    pub left-some : 1 ≤ left tokens c
    unfolding left
    left-some = let short = taken_short in omega arith

    pub left-eaten : left tokens (eaten c) < left tokens c
    unfolding left
    left-eaten = let short = taken_short in omega arith

    pub left-consumed : (count : ℕ) → 1 ≤ count → left tokens (consumed tokens count c) < left tokens c
    unfolding left
    left-consumed count least =
        let short = taken_short in
        ⊎_elim (λ all. rw (consumed-all tokens count c all) (omega arith)) (λ more. rw (consumed-part tokens count c more) (omega arith))
        (le_or_lt (rest_length tokens c) count)

    -- where it is a Word
    module _ (word : kind_at tokens c.token ≡ Token.Word) where
      pub char_some : 1 ≤ char_length (peek_text text tokens c)
      char_some = let w = fine.word there word in utf8_some (peek_text text tokens c) w.some w.utf8

      part_left : char_length (peek_text text tokens c) < rest_length tokens c
          → Fine text tokens (record { token = c.token; taken = c.taken + char_length (peek_text text tokens c) })
      unfolding rest_length
      part_left more =
          let now = peek_text text tokens c in
          let rest : IsWord (drop (char_length now) now) =
          record { some = omega (arith, length-drop (char_length now) now, rest_length_lem); utf8 = utf8_again now (fine.word there word).utf8 } in
          record { sound = fine.sound; fewer = omega arith; word = λ there' word'. rw (further text tokens c (char_length now)) rest }

      pub char_fine : Fine text tokens (consumed tokens (char_length (peek_text text tokens c)) c)
      char_fine =
          let count = char_length (peek_text text tokens c) in
          ⊎_elim (λ all. rw (consumed-all tokens count c all) eaten-fine) (λ more. rw (consumed-part tokens count c more) (part_left more))
          (le_or_lt (rest_length tokens c) count)

      pub char_left : left tokens (consumed tokens (char_length (peek_text text tokens c)) c) < left tokens c
      char_left = left-consumed (char_length (peek_text text tokens c)) char_some
