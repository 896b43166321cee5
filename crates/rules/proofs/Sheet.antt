-- The laws by which callers use the definition of a sheet: how many numbers are read, and that the sections of a sheet that is read lie inside it,
-- since each ends where the next begins and the last where the sheet does. Assumes nothing.
use Prim.Native.Nat.{ℕ, zero, suc, ◌+◌, ◌*◌, ◌/◌, ◌%◌, ◌≤◌}
use mathlib.Core.Bool.{true, and-eq-true_iff}
use mathlib.Core.List.{List, [], ◌∷◌, ◌++◌}
use mathlib.Core.Path.{◌≡◌, refl, ap, ◌∙◌}
use native.Mathlib.Nat.{add-zero}
use native.Mathlib.Omega.{arith}
use borrow.Author.Tests.{leb-true, eqb-true}
use lib.ListN.{length, get_or, drop, length-drop}
use lib.Seq.{length-take-le}
use Rattle.rules.specs.Sheet.{most_bytes, version, number_bytes, number_at, numbers_at, bytes_from, end_of, text_at, tokens_at, shapes_at, states_at, readable, table_at, tables_of}
use Rattle.rules.specs.Tables.{token_count}
use Rattle.rules.specs.Treelist.{most_numbers, dropped_rows}

module _ (sheet : List ℕ) where
  pub numbers-long : (at count : ℕ) → length (numbers_at sheet at count) ≡ count
  unfolding numbers_at
  numbers-long at zero = refl
  numbers-long at (suc count) = ap suc (numbers-long (at + number_bytes) count)

  pub numbers_more : (at count : ℕ)
      → numbers_at sheet at (suc count) ≡ numbers_at sheet at count ++ (number_at sheet (at + count * number_bytes) ∷ [])
  unfolding numbers_at
  numbers_more at zero = rw (add-zero at)
  numbers_more at (suc count) =
      let on : at + number_bytes + count * number_bytes ≡ at + suc count * number_bytes = omega arith in
      let rest = numbers_at sheet (at + number_bytes) count in
      ap (λ (l : List ℕ). number_at sheet at ∷ l) (numbers_more (at + number_bytes) count ∙ ap (λ (k : ℕ). rest ++ (number_at sheet k ∷ [])) on)

  pub table_long : (at : ℕ) → length (table_at sheet at) ≡ number_at sheet at / number_bytes
  table_long at = numbers-long (bytes_from at) (number_at sheet at / number_bytes)

  -- what is known of a sheet that is read
  pub record Whole : Type 0 where
    pub short : length sheet ≤ most_bytes
    pub first : get_or sheet 0 0 ≡ version
    pub end : end_of sheet (states_at sheet) ≡ length sheet
    pub tokens : number_at sheet (tokens_at sheet) % number_bytes ≡ 0
    pub shapes : number_at sheet (shapes_at sheet) % number_bytes ≡ 0
    pub states : number_at sheet (states_at sheet) % number_bytes ≡ 0

  pub whole : readable sheet ≡ true → Whole
  unfolding readable
  whole e =
      let h = (and-eq-true_iff _ _).0 e in
      let k = (and-eq-true_iff _ _).0 h.1 in
      let l = (and-eq-true_iff _ _).0 k.1 in
      let m = (and-eq-true_iff _ _).0 l.1 in
      let n = (and-eq-true_iff _ _).0 m.1 in
      record {
        short = leb-true _ _ h.0;
        first = eqb-true _ _ k.0;
        end = eqb-true _ _ l.0;
        tokens = eqb-true _ _ m.0;
        shapes = eqb-true _ _ n.0;
        states = eqb-true _ _ n.1;
      }

  -- a section ends behind its length
  pub ends_behind : (at : ℕ) → bytes_from at + number_at sheet at ≡ end_of sheet at
  unfolding end_of
  ends_behind at = refl

  pub text-inside : Whole → bytes_from text_at + number_at sheet text_at ≤ length sheet
  text-inside w =
      let tokens = ends_behind (tokens_at sheet) in
      let shapes = ends_behind (shapes_at sheet) in
      let states = ends_behind (states_at sheet) in
      omega (arith, w.end, ends_behind text_at)

  pub text-long : Whole → length (tables_of sheet).text ≡ number_at sheet text_at
  text-long w =
      let fits = text-inside w in
      length-take-le (number_at sheet text_at) (drop (bytes_from text_at) sheet) (omega (arith, length-drop (bytes_from text_at) sheet))

  -- a table's numbers take four times as many bytes, which lie inside the sheet: so all tables together have room in a fourth of a sheet's bytes
  pub numbers-few : Whole → length (tables_of sheet).tokens + (length (tables_of sheet).shapes + length (tables_of sheet).states) ≤ most_numbers
  numbers-few w =
      let tokens = ends_behind (tokens_at sheet) in
      let shapes = ends_behind (shapes_at sheet) in
      let states = ends_behind (states_at sheet) in
      omega (arith, w.short, w.end, ends_behind text_at, table_long (tokens_at sheet), table_long (shapes_at sheet), table_long (states_at sheet))

  -- so refusal 2 never comes of one
  pub tokens-few : Whole → token_count (tables_of sheet).tokens ≤ dropped_rows
  tokens-few w = omega (arith, numbers-few w)
