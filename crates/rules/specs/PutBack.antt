-- Putting back: what a reader of a stored tree can do with its rows, the dropped rows, the text and the token rows, knowing nothing of how they were
-- read. "In every accepted run, put the dropped texts back among the leaf texts where the dropped list says: the token texts return, joined in
-- order."
use Rattle.std.specs.Prelude.{ℕ, zero, suc, ◌+◌, ◌≤◌, ◌<◌, ◌≡◌, cond, List, [], ◌∷◌, ◌++◌, map, eqb, length, get_or, take, drop}
use Rattle.rules.specs.Flat.{four, tag_leaf, dropped_row}
use Rattle.rules.specs.Limits
use Rattle.rules.specs.Tables.{cell, token_count, kind_at, start_at, length_at, part}
use Rattle.rules.specs.Token

-- so many rows of a buffer, each a list of its numbers: what stands behind them in the buffer is no part of them
abbrev pub rows_of : ℕ → ℕ → List ℕ → List (List ℕ)
rows_of width zero buffer = []
rows_of width (suc n) buffer = take width buffer ∷ rows_of width n (drop width buffer)

-- "Success gives both row counts": the rows of the tree buffer and of the dropped buffer by these counts
abbrev pub tree_rows : ℕ → List ℕ → List (List ℕ)
tree_rows rows buffer = rows_of Limits.tree_width rows buffer

abbrev pub dropped_rows : ℕ → List ℕ → List (List ℕ)
dropped_rows drops buffer = rows_of Limits.dropped_width drops buffer

-- a stretch of the text, and the token that it is of: of a leaf where its text starts, how long it is, and its token
pub record Stretch : Type 0 where
  pub start : ℕ
  pub size : ℕ
  pub token : ℕ

-- "Tree row: tag (0 start, 1 leaf, 2 finish), kind, start, length", and a leaf's own token, which is 0 where a row has only the first four numbers:
-- of each leaf, in row order
abbrev pub leaves : List (List ℕ) → List Stretch
leaves [] = []
leaves (row ∷ rows) =
    cond (eqb (get_or row 0 0) tag_leaf) (record { start = get_or row 2 0; size = get_or row 3 0; token = get_or row 4 0 } ∷ leaves rows)
    (leaves rows)

-- the text of each leaf
abbrev pub texts_of : List ℕ → List Stretch → List (List ℕ)
texts_of text leaves = map (λ (l : Stretch). part text l.start l.size) leaves

abbrev pub token_text : List ℕ → List ℕ → ℕ → List ℕ
token_text text tokens i = part text (start_at tokens i) (length_at tokens i)

-- "Dropped row: token index, reason (1 trivia, 2 opener, 3 closer), leaves written before it.": each dropped row, and its token's text
abbrev pub with_texts : List ℕ → List ℕ → List (List ℕ) → List (List ℕ × List ℕ)
with_texts text tokens dropped = map (λ (row : List ℕ). (row, token_text text tokens (get_or row 0 0))) dropped

-- "tree, leaf texts and dropped list with its texts": what can be stored of a run's rows where neither the text nor the token rows are kept. It takes
-- the first four numbers of a row: "Demands 2 and 3 read the first four numbers as before."
pub record Stored : Type 0 where
  -- tag and kind of each row
  pub tree : List (ℕ × ℕ)
  pub leaf_texts : List (List ℕ)
  pub dropped : List (List ℕ × List ℕ)

abbrev pub stored : List ℕ → List ℕ → List (List ℕ) → List (List ℕ) → Stored
stored text tokens tree dropped =
    let base = map four tree in
    record {
      tree = map (λ (row : List ℕ). (get_or row 0 0, get_or row 1 0)) base;
      leaf_texts = texts_of text (leaves base);
      dropped = with_texts text tokens dropped;
    }

-- the texts of the dropped rows that say so many leaves were written before them, joined
abbrev pub dropped_after : ℕ → List (List ℕ × List ℕ) → List ℕ
dropped_after k [] = []
dropped_after k (d ∷ ds) = cond (eqb (get_or d.0 2 0) k) d.1 [] ++ dropped_after k ds

-- from the k-th leaf on: before each leaf's text those of the dropped rows whose count of leaves stands there, and likewise behind the last leaf's
-- text
abbrev pub back_from : ℕ → List (List ℕ) → List (List ℕ × List ℕ) → List ℕ
back_from k [] dropped = dropped_after k dropped
back_from k (leaf ∷ more) dropped = dropped_after k dropped ++ (leaf ++ back_from (k + 1) more dropped)

-- "put the dropped texts back among the leaf texts where the dropped list says"
abbrev pub put_back : Stored → List ℕ
put_back s = back_from 0 s.leaf_texts s.dropped

-- "the token texts .., joined in order": of so many tokens, from one on
abbrev pub texts_from : List ℕ → List ℕ → ℕ → ℕ → List ℕ
texts_from text tokens i zero = []
texts_from text tokens i (suc n) = token_text text tokens i ++ texts_from text tokens (i + 1) n

abbrev pub token_texts : List ℕ → List ℕ → List ℕ
token_texts text tokens = texts_from text tokens 0 (token_count tokens)

-- ---- token by token

-- the parts of a token's range: none is empty, each begins where the one before it ends, and the last ends where the range does. Each has the token
pub data Parts (token : ℕ) : ℕ → ℕ → List Stretch → Type 0 where
  last : {start size : ℕ} → 1 ≤ size → Parts token start size (record { start = start; size = size; token = token } ∷ [])
  more : {start size rest : ℕ} {parts : List Stretch} → 1 ≤ size
      → Parts token (start + size) rest parts
      → Parts token start (size + rest) (record { start = start; size = size; token = token } ∷ parts)

-- each token from the i-th on is a leaf, the parts of a split Word, or one dropped row, and there are no other leaves and dropped rows. Before them
-- k leaves were written, which is what a dropped row says of itself; a leaf says its token. So no token is passed over and none comes twice, whatever
-- their ranges are
pub data EachToken (tokens : List ℕ) : ℕ → ℕ → List Stretch → List (List ℕ) → Type 0 where
  end : {i k : ℕ} → i ≡ token_count tokens → EachToken tokens i k [] []
  leaf : {i k : ℕ} {leaves : List Stretch} {dropped : List (List ℕ)} → i < token_count tokens
      → EachToken tokens (i + 1) (k + 1) leaves dropped
      → EachToken tokens i k (record { start = start_at tokens i; size = length_at tokens i; token = i } ∷ leaves) dropped
  split : {i k : ℕ} {parts leaves : List Stretch} {dropped : List (List ℕ)}
      → i < token_count tokens
      → kind_at tokens i ≡ Token.Word
      → Parts i (start_at tokens i) (length_at tokens i) parts
      → EachToken tokens (i + 1) (k + length parts) leaves dropped
      → EachToken tokens i k (parts ++ leaves) dropped
  drops : {i k reason : ℕ} {leaves : List Stretch} {dropped : List (List ℕ)} → i < token_count tokens
      → EachToken tokens (i + 1) k leaves dropped
      → EachToken tokens i k leaves (dropped_row i reason k ∷ dropped)

-- a leaf as its row tells it, by the row's number
abbrev pub stretch_at : List ℕ → ℕ → Stretch
stretch_at tree row =
    record {
      start = cell Limits.tree_width tree row 2;
      size = cell Limits.tree_width tree row 3;
      token = cell Limits.tree_width tree row 4;
    }

-- a leaf lies inside the range of its token
pub record InToken (tokens : List ℕ) (l : Stretch) : Type 0 where
  pub there : l.token < token_count tokens
  pub low : start_at tokens l.token ≤ l.start
  pub high : l.start + l.size ≤ start_at tokens l.token + length_at tokens l.token

-- dropped rows rise by token: each names a token behind that of the row before it, which is at least `low`, and none past the last token
pub data Rises (tokens : List ℕ) : ℕ → List (List ℕ) → Type 0 where
  none : {low : ℕ} → Rises tokens low []
  next : {low : ℕ} {row : List ℕ} {rows : List (List ℕ)} → low ≤ get_or row 0 0 → get_or row 0 0 < token_count tokens
      → Rises tokens (get_or row 0 0 + 1) rows
      → Rises tokens low (row ∷ rows)
