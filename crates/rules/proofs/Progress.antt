-- A step of the cursor: behind it the cursor stands before a token or in the middle of a Word, and less is left to read. A Word's characters have a
-- byte or more each, and the last ends where the Word does. Assumes nothing.
use Prim.Native.Nat.{ℕ, ◌+◌, ◌-◌, ◌≤◌, ◌<◌}
use mathlib.Core.Path.{◌≡◌, sym, ap, ◌∙◌}
use mathlib.Core.Bool.{true}
use mathlib.Core.List.{List}
use native.Mathlib.Omega.{arith}
use native.Mathlib.Nat.{add-zero, sub-zero}
use lib.Dec.{eqb}
use lib.ListN.{length, drop, length-drop}
use lib.Seq.{drop_at, length-take-le}
use borrow.Author.Tests.{eqb-true, eqb-false}
use Rattle.rules.specs.Characters.{char_length, is_utf8}
use Rattle.rules.specs.Cursor.{Cursor, rest_start, rest_length, peek_text, eaten, left}
use Rattle.rules.specs.Limits
use Rattle.rules.specs.Position.{Source}
use Rattle.rules.specs.Tables.{token_count, start_at, length_at, part}
use Rattle.rules.proofs.Characters.{either, char_fits, utf8_some, utf8_again}
use Rattle.rules.proofs.PutBack.{part-add}
use Rattle.rules.proofs.Reached.{Sound, There, AtWord, Standing}

part_length : (text : List ℕ) (start size : ℕ) → start + size ≤ length text → length (part text start size) ≡ size
part_length text start size inside = let long = length-drop start text in length-take-le size (drop start text) (omega arith)

-- so many bytes of a part less
part-rest : (text : List ℕ) (start size rest : ℕ)
    → start + size ≤ length text
    → drop size (part text start (size + rest)) ≡ part text (start + size) rest
part-rest text start size rest inside =
    let long = part_length text start size inside in
    rw (part-add text start size rest) (drop_at (part text start size) (part text (start + size) rest) size long)

module _ {source : Source} (sound : Sound source) where
  -- of a token less is taken than it has bytes, or nothing
  pub taken_few : (c : Cursor) → Standing source c → c.taken ≤ Limits.text
  taken_few c stands =
      either (eqb c.taken 0) (λ e. let none = eqb-true c.taken 0 e in omega arith)
      (λ e.
      let some = eqb-false c.taken 0 e in
      let mid = stands.midway (omega arith) in
      let less = mid.less in
      let inside = sound.inside c.token mid.there in
      let few = sound.text in
      omega arith)

  pub next-stands : (c : Cursor) → There source c → Standing source (eaten c)
  next-stands c there = record { inside = omega arith; midway = λ some. absurd (omega arith) }

  pub next-less : (c : Cursor) → There source c → Standing source c → left source.tokens (eaten c) < left source.tokens c
  unfolding left
  next-less c there stands = let few = taken_few c stands in omega arith

  -- nothing is left to read only at the end
  pub at-end : (c : Cursor) → Standing source c → left source.tokens c ≤ 0 → token_count source.tokens ≤ c.token
  unfolding left
  at-end c stands none = let few = taken_few c stands in omega arith

  -- and there the cursor stands before no token's middle
  pub end_whole : (c : Cursor) → Standing source c → token_count source.tokens ≤ c.token → c.taken ≡ 0
  end_whole c stands over =
      either (eqb c.taken 0) (λ e. eqb-true c.taken 0 e)
      (λ e. let some = eqb-false c.taken 0 e in let there = (stands.midway (omega arith)).there in absurd (omega arith))

  -- a token that is no Word is not taken in parts
  pub other_whole : (c : Cursor) → Standing source c → (AtWord source c → ⊥) → c.taken ≡ 0
  other_whole c stands other =
      either (eqb c.taken 0) (λ e. eqb-true c.taken 0 e)
      (λ e. let some = eqb-false c.taken 0 e in absurd (other (stands.midway (omega arith)).word))

  -- ---- a Word
  module _ (c : Cursor) (there : There source c) (stands : Standing source c) (word : AtWord source c) where
    rest_inside : rest_start source.tokens c + rest_length source.tokens c ≤ length source.text
    unfolding rest_start rest_length
    rest_inside =
        let inside = sound.inside c.token there in
        either (eqb c.taken 0) (λ e. let none = eqb-true c.taken 0 e in omega arith)
        (λ e. let some = eqb-false c.taken 0 e in let less = (stands.midway (omega arith)).less in omega arith)

    rest_some : 1 ≤ rest_length source.tokens c
    unfolding rest_length
    rest_some =
        let some = sound.some c.token there word in
        either (eqb c.taken 0) (λ e. let none = eqb-true c.taken 0 e in omega arith)
        (λ e. let some = eqb-false c.taken 0 e in let less = (stands.midway (omega arith)).less in omega arith)

    rest_utf8 : is_utf8 (peek_text source.text source.tokens c) ≡ true
    unfolding peek_text rest_start rest_length
    rest_utf8 =
        either (eqb c.taken 0) (λ e. let none = eqb-true c.taken 0 e in rw (none, add-zero, sub-zero) (sound.utf8 c.token there word))
        (λ e. let some = eqb-false c.taken 0 e in (stands.midway (omega arith)).utf8)

    text-length : length (peek_text source.text source.tokens c) ≡ rest_length source.tokens c
    unfolding peek_text
    text-length = part_length source.text (rest_start source.tokens c) (rest_length source.tokens c) rest_inside

    abbrev size : ℕ
    size = char_length (peek_text source.text source.tokens c)

    -- its next character is a byte or more, and no more than is left of it
    pub char_some : 1 ≤ size
    char_some = let long = text-length in let some = rest_some in utf8_some (peek_text source.text source.tokens c) (omega arith) rest_utf8

    pub char_within : size ≤ rest_length source.tokens c
    char_within = let long = text-length in let fits = char_fits (peek_text source.text source.tokens c) in omega arith

    -- behind it, if more is left
    abbrev passed : Cursor
    passed = record { token = c.token; taken = c.taken + size }

    module _ (less : size < rest_length source.tokens c) where
      passed_text : peek_text source.text source.tokens passed ≡ drop size (peek_text source.text source.tokens c)
      unfolding peek_text rest_start rest_length
      passed_text =
          let inside = rest_inside in
          let start = start_at source.tokens c.token in
          let long = length_at source.tokens c.token in
          let from : start + (c.taken + size) ≡ start + c.taken + size = omega arith in
          let rest : long - c.taken ≡ size + (long - (c.taken + size)) = omega arith in
          let cut = part-rest source.text (start + c.taken) size (long - (c.taken + size)) (omega arith) in
          rw from (sym (ap (λ (n : ℕ). drop size (part source.text (start + c.taken) n)) rest ∙ cut))

      passed_short : c.taken + size < length_at source.tokens c.token
      unfolding rest_length
      passed_short = omega arith

      pub part-stands : Standing source passed
      part-stands =
          let utf8 : is_utf8 (peek_text source.text source.tokens passed) ≡ true =
          rw passed_text (utf8_again (peek_text source.text source.tokens c) rest_utf8) in
          record { inside = omega arith; midway = λ _. record { there = there; word = word; less = passed_short; utf8 = utf8 } }

      pub part-less : left source.tokens passed < left source.tokens c
      unfolding left
      part-less =
          let some = char_some in
          let few = taken_few passed part-stands in
          omega arith
