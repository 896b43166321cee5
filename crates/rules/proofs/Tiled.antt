-- The source ranges of the tokens of a text tile it, and joined they are the text: at each place what is left is the source text of the token there,
-- and then what is left behind it. Assumes nothing.
use Prim.Native.Nat.{ℕ, zero, suc, ◌+◌, ◌*◌, ◌-◌, ◌≤◌, ◌<◌}
use mathlib.Core.Path.{◌≡◌, refl, sym, ap, ap₂, subst, ◌∙◌}
use mathlib.Core.List.{List, [], ◌∷◌, ◌++◌, append_assoc}
use native.Mathlib.Omega.{arith}
use lib.Dec.{ltb}
use lib.ListN.{length, get_or, take, drop, length-append, take-append-drop, drop_of_length-le}
use lib.Seq.{drop-drop}
use borrow.Author.Tests.{ltb-true, ltb-false}
use Rattle.rules.specs.Limits.{token_width}
use Rattle.rules.specs.Tables.{token_count, kind_at, start_at, length_at, shape_at, part}
use Rattle.rules.specs.Tokeniser.{Lexeme, lexeme, tokens_of, rows_from, token_rows, opening, closing, source_text, sources_from, source_end, Tiles, done, next}
use Rattle.rules.proofs.Characters.{either}
use Rattle.rules.proofs.Sources.{Sourced, sourced}
use Rattle.rules.proofs.TokensOf.{first, size_at, tokens-at, none_left}

-- a number behind the first of a list
behind : (front xs : List ℕ) (n c : ℕ) → n ≡ length front + c → get_or (front ++ xs) n 0 ≡ get_or xs c 0
behind [] xs n c e = let same : n ≡ c = omega (arith, e) in ap (λ (k : ℕ). get_or xs k 0) same
behind (x ∷ front) xs zero c e = absurd (omega (arith, e))
behind (x ∷ front) xs (suc n) c e = behind front xs n c (omega (arith, e))

pub rows_long : (at : ℕ) (tokens : List Lexeme) → length (rows_from at tokens) ≡ length tokens * token_width
rows_long at [] = refl
rows_long at (t ∷ more) = let rest = rows_long (at + t.size) more in omega (arith, rest)

module _ (text : List ℕ) where
  -- the i-th row is that of the token at a place
  pub record Stand (rows : List ℕ) (i at : ℕ) : Type 0 where
    pub front : List ℕ
    pub is : rows ≡ front ++ rows_from at (tokens_of (drop at text))
    pub long : length front ≡ i * token_width

  module _ {rows : List ℕ} {i at : ℕ} (stand : Stand rows i at) where
    pub count : token_count rows ≡ i + length (tokens_of (drop at text))
    count =
        let all = ap length stand.is ∙ length-append stand.front (rows_from at (tokens_of (drop at text))) in
        omega (arith, all, stand.long, rows_long at (tokens_of (drop at text)))

    module _ (here : at < length text) where
      abbrev pub token : Lexeme
      token = lexeme (drop at text)

      -- so many rows are left: this one and those behind it
      pub rest_is : token_count rows - i ≡ suc (token_count rows - (i + 1))
      rest_is = omega (arith, count, ap length (tokens-at text at here))

      abbrev row : List ℕ
      row = token.kind ∷ (at + token.lead) ∷ token.length ∷ 0 ∷ []

      split : rows ≡ stand.front ++ (row ++ rows_from (at + token.size) (tokens_of (drop (at + token.size) text)))
      split = stand.is ∙ ap (λ (l : List Lexeme). stand.front ++ rows_from at l) (tokens-at text at here)

      cell : (c : ℕ) → get_or rows (i * token_width + c) 0 ≡ get_or (row ++ rows_from (at + token.size) (tokens_of (drop (at + token.size) text))) c 0
      cell c = ap (λ (l : List ℕ). get_or l (i * token_width + c) 0) split ∙ behind stand.front _ (i * token_width + c) c (omega (arith, stand.long))

      pub kind_is : kind_at rows i ≡ token.kind
      kind_is = cell 0

      pub start_is : start_at rows i ≡ at + token.lead
      start_is = cell 1

      pub length_is : length_at rows i ≡ token.length
      length_is = cell 2

      pub shape_is : shape_at rows i ≡ 0
      shape_is = cell 3

      source : Sourced token (drop at text)
      source = subst (λ l. Sourced (lexeme l) l) (sym (first text at here)) (sourced (drop (suc at) text) (get_or text at 0))

      text-is : source_text text rows i ≡ take token.size (drop at text)
      text-is =
          ap (λ (k : ℕ). opening k ++ (part text (start_at rows i) (length_at rows i) ++ closing k)) kind_is
          ∙ ap (λ (s : ℕ). opening token.kind ++ (part text s (length_at rows i) ++ closing token.kind)) start_is
          ∙ ap (λ (n : ℕ). opening token.kind ++ (part text (at + token.lead) n ++ closing token.kind)) length_is
          ∙ ap (λ (l : List ℕ). opening token.kind ++ (take token.length l ++ closing token.kind)) (sym (drop-drop token.lead at text))
          ∙ sym source.is

      begins : start_at rows i ≡ at + length (opening (kind_at rows i))
      begins = start_is ∙ ap (λ (n : ℕ). at + n) (source.lead ∙ ap (λ (k : ℕ). length (opening k)) (sym kind_is))

      pub ends : source_end rows i ≡ at + token.size
      ends =
          let shut = ap (λ (k : ℕ). length (closing k)) kind_is in
          omega (arith, start_is, length_is, shut, source.size)

      pub stand-next : Stand rows (i + 1) (at + token.size)
      stand-next =
          record {
            front = stand.front ++ row;
            is = split ∙ sym (append_assoc stand.front row (rows_from (at + token.size) (tokens_of (drop (at + token.size) text))));
            long = omega (arith, length-append stand.front row, stand.long);
          }

  -- what holds where no token is left, and at a token if it holds at the next, holds at the first
  module _
      (rows : List ℕ)
      (P : ℕ → ℕ → Type 0)
      (end : (i at : ℕ) → i ≡ token_count rows → at ≡ length text → P i at)
      (step : (i at : ℕ) → Stand rows i at → at < length text → P (i + 1) (at + (lexeme (drop at text)).size) → P i at)
    where
      at-end : {i at : ℕ} → Stand rows i at → at ≡ length text → P i at
      at-end {i} {at} stand past = end i at (omega (arith, count stand, ap length (none_left text at (omega (arith, past))))) past

      from : (most : ℕ) {i at : ℕ} → Stand rows i at → at ≤ length text → length text - at ≤ most → P i at
      from zero stand inside few = at-end stand (omega arith)
      from (suc most) {i} {at} stand inside few =
          either (ltb at (length text))
          (λ t.
          let here = ltb-true at (length text) t in
          let size = size_at text at here in
          step i at stand here (from most (stand-next stand here) (omega (arith, size.fits)) (omega (arith, size.some))))
          (λ f. at-end stand (omega (arith, ltb-false at (length text) f)))

      pub walk : rows ≡ token_rows text → P 0 0
      unfolding token_rows
      walk are = from (length text) (record { front = []; is = are; long = refl }) (omega arith) (omega arith)

  -- ---- what is left tiles the rest of the text
  pub record Tiled (rows : List ℕ) (i at : ℕ) : Type 0 where
    pub tiles : Tiles rows (length text) i at
    pub texts : sources_from text rows i (token_count rows - i) ≡ drop at text

  none_more : {rows : List ℕ} (i at : ℕ) → i ≡ token_count rows → at ≡ length text → Tiled rows i at
  none_more {rows} i at all end =
      let nothing : token_count rows - i ≡ 0 = omega (arith, all) in
      let past : length text ≤ at = omega (arith, end) in
      record {
        tiles = done {i = i} all end;
        texts = ap (sources_from text rows i) nothing ∙ sym (drop_of_length-le text past);
      }

  module _ {rows : List ℕ} (i at : ℕ) (stand : Stand rows i at) (here : at < length text) where
    abbrev size : ℕ
    size = (lexeme (drop at text)).size

    one_more : Tiled rows (i + 1) (at + size) → Tiled rows i at
    one_more rest =
        let ended = ends stand here in
        record {
          tiles =
              next {i = i} (omega (arith, rest_is stand here)) (begins stand here) (omega (arith, ended, (size_at text at here).some))
              (subst (λ n. Tiles rows (length text) (i + 1) n) (sym ended) rest.tiles);
          texts =
              ap (sources_from text rows i) (rest_is stand here)
              ∙ ap₂ ◌++◌ (text-is stand here) (rest.texts ∙ sym (drop-drop size at text))
              ∙ take-append-drop size (drop at text);
        }

  -- "Every byte lies in exactly one token's source range": the ranges tile the text, and their texts, joined in order, are the text
  pub tiled : Tiled (token_rows text) 0 0
  tiled = walk (token_rows text) (Tiled (token_rows text)) none_more one_more refl
