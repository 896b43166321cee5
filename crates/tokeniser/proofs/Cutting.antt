-- The text is cut from its start: what is left at a place has one token more, and then what is left behind it. Assumes nothing.
use Prim.Native.Nat.{ℕ, suc, ◌+◌, ◌*◌, ◌≤◌, ◌<◌}
use mathlib.Core.Path.{◌≡◌, refl, sym, ap, ◌∙◌}
use mathlib.Core.Bool.{cond}
use lib.Dec.{leb}
use borrow.Author.Tests.{le-leb}
use mathlib.Core.List.{List, [], ◌∷◌, ◌++◌, append_assoc, append-nil}
use native.Mathlib.Omega.{arith}
use lib.ListN.{length, take, drop, take-append-drop}
use lib.Seq.{drop-drop, length-take-le}
use Rattle.rules.specs.Limits.{token_width}
use Rattle.rules.specs.Run.{over}
use Rattle.rules.specs.Tokeniser.{Lexeme, lexeme, tokens_of, rows_from, token_rows}
use Rattle.rules.proofs.TokensOf.{size_at, tokens-at, none_left}
use Rattle.builder.specs.Contract.{written}
use Rattle.builder.proofs.Numbers as numbers
use Rattle.tokeniser.specs.Lexemes.{Stands}
use Rattle.tokeniser.specs.declared.lexeme.Lexeme as given

-- a token's row
abbrev pub numbers_of : given.Lexeme → List ℕ
numbers_of r = r.kind ∷ r.start ∷ r.length ∷ 0 ∷ []

module _ (text : List ℕ) where
  -- ---- so many tokens were counted
  pub record Counted (at tokens : ℕ) : Type 0 where
    pub inside : at ≤ length text
    pub few : tokens ≤ at
    pub is : length (tokens_of text) ≡ tokens + length (tokens_of (drop at text))

  module _ {at tokens : ℕ} (so_far : Counted at tokens) where
    pub one_more : {r : given.Lexeme} → at < length text → Stands at (lexeme (drop at text)) r → Counted r.end (tokens + 1)
    one_more {r} here stands =
        let size = size_at text at here in
        let ends = stands.end in
        record {
          inside = omega (arith, size.fits, ends);
          few = omega (arith, size.some, ends, so_far.few);
          is =
              let more = ap length (tokens-at text at here) ∙ ap (λ (n : ℕ). suc (length (tokens_of (drop n text)))) (sym ends) in
              omega (arith, so_far.is, more);
        }

    pub all_counted : length text ≤ at → tokens ≡ length (tokens_of text)
    all_counted past = omega (arith, so_far.is, ap length (none_left text at past))

  -- ---- so many rows were written
  pub record Wrote (before rows : List ℕ) (at row : ℕ) : Type 0 where
    pub is : token_rows text ≡ take (row * token_width) rows ++ rows_from at (tokens_of (drop at text))
    pub rest : drop (row * token_width) rows ≡ drop (row * token_width) before

  nothing_yet : (before : List ℕ) → Wrote before before 0 0
  unfolding token_rows
  nothing_yet before = record { is = refl; rest = refl }

  module _
      {before rows : List ℕ}
      {at row : ℕ}
      (so_far : Wrote before rows at row)
      (r : given.Lexeme)
      (here : at < length text)
      (stands : Stands at (lexeme (drop at text)) r)
    where
      abbrev left : List ℕ
      left = rows_from r.end (tokens_of (drop r.end text))

      rows_of : rows_from at (tokens_of (drop at text)) ≡ numbers_of r ++ left
      rows_of = ap (rows_from at) (tokens-at text at here) ∙ rw (stands.kind, stands.start, stands.long, stands.end)

      one-row : {v : List ℕ} → row * token_width + token_width ≤ length rows → v ≡ written token_width row (numbers_of r) rows
          → Wrote before v r.end (row + 1)
      one-row {v} fit stored =
          let front = take (row * token_width) rows in
          let next : (row + 1) * token_width ≡ row * token_width + token_width = omega arith in
          record {
            is =
                so_far.is
                ∙ ap (λ (l : List ℕ). front ++ l) rows_of
                ∙ sym (append_assoc front (numbers_of r) left)
                ∙ ap (λ (l : List ℕ). l ++ left) (numbers.one_more token_width row rows v (numbers_of r) refl fit stored);
            rest =
                numbers.the_rest token_width row rows v (numbers_of r) refl fit stored
                ∙ rw (next, ← drop-drop token_width (row * token_width) rows, ← drop-drop token_width (row * token_width) before, so_far.rest);
          }

  all_written : {before rows : List ℕ} {at row : ℕ} → Wrote before rows at row → length text ≤ at → row * token_width ≤ length rows
      → rows ≡ over (token_rows text) before
  all_written {rows} {at} {row} so_far past fit =
      let front = take (row * token_width) rows in
      let all : token_rows text ≡ front =
      so_far.is ∙ ap (λ (l : List Lexeme). front ++ rows_from at l) (none_left text at past) ∙ append-nil front in
      let size : length front ≡ row * token_width = length-take-le (row * token_width) rows fit in
      sym (take-append-drop (row * token_width) rows) ∙ rw (all, size, so_far.rest)

  -- ---- so many tokens were gone through: if there is room for all of their rows, these were written
  abbrev pub Room : List ℕ → Type 0
  Room before = length (tokens_of text) * token_width ≤ length before

  pub record Went (before rows : List ℕ) (at row : ℕ) : Type 0 where
    pub counted : Counted at row
    pub long : length rows ≡ length before
    pub wrote : Room before → Wrote before rows at row

  pub none_yet : (before : List ℕ) → Went before before 0 0
  none_yet before =
      record {
        counted = record { inside = omega arith; few = omega arith; is = omega arith };
        long = refl;
        wrote = λ enough. nothing_yet before;
      }

  module _ {before rows : List ℕ} {at row : ℕ} (so_far : Went before rows at row) where
    -- a token is left, so there is room for its row
    room : at < length text → Room before → row * token_width + token_width ≤ length rows
    room here enough = omega (arith, so_far.counted.is, ap length (tokens-at text at here), so_far.long, enough)

    pub goes_on :
        {v : List ℕ} (r : given.Lexeme) (here : at < length text) (stands : Stands at (lexeme (drop at text)) r)
        → v ≡ cond (leb (row * token_width + token_width) (length rows)) (written token_width row (numbers_of r) rows) rows
        → length v ≡ length rows
        → Went before v r.end (row + 1)
    goes_on r here stands stored same =
        record {
          counted = one_more so_far.counted here stands;
          long = same ∙ so_far.long;
          wrote =
              λ enough.
              let fit = room here enough in
              one-row (so_far.wrote enough) r here stands fit (stored ∙ rw (le-leb (row * token_width + token_width) (length rows) fit));
        }

    pub at-the_end : length text ≤ at → Room before → rows ≡ over (token_rows text) before
    at-the_end past enough =
        let all = all_counted so_far.counted past in
        all_written (so_far.wrote enough) past (omega (arith, all, so_far.long, enough))
