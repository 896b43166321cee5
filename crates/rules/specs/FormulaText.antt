-- A formula's text put back: what a reader of a stored tree can do who keeps of each leaf and of each dropped row the kind of its token too. "Every
-- byte lies in exactly one token's source range, its text or, for 27 and 28, backslash to `}`" (02, #103), and the kind tells which.
use Rattle.std.specs.Prelude.{ℕ, List, ◌++◌, map, get_or}
use Rattle.rules.specs.PutBack.{Stretch, leaves, token_text, back_from}
use Rattle.rules.specs.Tables.{kind_at, part}
use Rattle.rules.specs.Tokeniser.{opening, closing}

-- a token's kind, and its text or a part of it
abbrev pub Piece : Type 0
Piece = ℕ × List ℕ

-- "its text or, for 27 and 28, backslash to `}`"
abbrev pub in_source : Piece → List ℕ
in_source piece = opening piece.0 ++ (piece.1 ++ closing piece.0)

-- of each leaf its text and its token's kind, in row order; and each dropped row, with its token's text and kind
pub record Kept : Type 0 where
  pub leaves : List Piece
  pub dropped : List (List ℕ × Piece)

-- off the rows of the tree, whose fifth number is a leaf's token, and the dropped rows
abbrev pub kept : List ℕ → List ℕ → List (List ℕ) → List (List ℕ) → Kept
kept text tokens tree dropped =
    record {
      leaves = map (λ (l : Stretch). (kind_at tokens l.token, part text l.start l.size)) (leaves tree);
      dropped = map (λ (row : List ℕ). (row, (kind_at tokens (get_or row 0 0), token_text text tokens (get_or row 0 0)))) dropped;
    }

-- put back as `put_back` does, each piece in its source range: neither the text nor the token rows are looked at
abbrev pub formula_text : Kept → List ℕ
formula_text k = back_from 0 (map in_source k.leaves) (map (λ (d : List ℕ × Piece). (d.0, in_source d.1)) k.dropped)
