-- The lines that the program `treelist` prints of an answer, byte for byte.
use Rattle.std.specs.Prelude.{ℕ, zero, suc, ◌+◌, ◌/◌, ◌%◌, min, cond, List, [], ◌∷◌, ◌++◌, eqb, ltb, length}
use Rattle.rules.specs.Flat.{tag_start, tag_leaf}
use Rattle.rules.specs.Limits
use Rattle.rules.specs.Questions.{row_count, tag_at, kind_at, token_at, open_after}
use Rattle.rules.specs.Run.{Answer, accepted, refused_at}
use Rattle.rules.specs.Tables.{cell}

-- a number in decimal digits, none of them a leading 0; so many turns are enough if they are more than the number
abbrev pub digit : ℕ → ℕ
digit d = 48 + d

unfoldable pub decimal_in : ℕ → ℕ → List ℕ
decimal_in zero n = []
decimal_in (suc turns) n = cond (ltb n 10) (digit n ∷ []) (decimal_in turns (n / 10) ++ (digit (n % 10) ∷ []))

unfoldable pub decimal : ℕ → List ℕ
decimal n = decimal_in (suc n) n

-- a line: its first word, numbers with a blank before each, and a line break
abbrev pub blank : ℕ
blank = 32

abbrev pub line_break : ℕ
line_break = 10

unfoldable pub numbered : List ℕ → List ℕ
numbered [] = []
numbered (n ∷ numbers) = blank ∷ (decimal n ++ numbered numbers)

unfoldable pub line : List ℕ → List ℕ → List ℕ
line word numbers = word ++ (numbered numbers ++ (line_break ∷ []))

-- the words `ok`, `refused` and `d`
abbrev pub word_ok : List ℕ
word_ok = 111 ∷ 107 ∷ []

abbrev pub word_refused : List ℕ
word_refused = 114 ∷ 101 ∷ 102 ∷ 117 ∷ 115 ∷ 101 ∷ 100 ∷ []

abbrev pub word_d : List ℕ
word_d = 100 ∷ []

-- "for each start or leaf its depth, kind, and a leaf's start and length"; any other row has no line. `treelist` "prints the new number last on each
-- tree line" (02, #101)
unfoldable pub tree_line : List ℕ → ℕ → ℕ → List ℕ
tree_line tree row depth =
    cond (eqb (tag_at tree row) tag_start) (line (decimal depth) (kind_at tree row ∷ token_at tree row ∷ []))
    (cond (eqb (tag_at tree row) tag_leaf)
    (line (decimal depth)
    (kind_at tree row ∷ cell Limits.tree_width tree row 2 ∷ cell Limits.tree_width tree row 3 ∷ token_at tree row ∷ []))
    [])

-- so many rows from `row` on, when `depth` nodes are open there: a start opens one, a finish closes one if any is open
unfoldable pub tree_lines : List ℕ → ℕ → ℕ → ℕ → List ℕ
tree_lines tree zero row depth = []
tree_lines tree (suc rows) row depth = tree_line tree row depth ++ tree_lines tree rows (row + 1) (open_after (tag_at tree row) depth)

-- "then `d` and each dropped row"
unfoldable pub dropped_line : List ℕ → ℕ → List ℕ
dropped_line dropped row =
    line word_d (cell Limits.dropped_width dropped row 0 ∷ cell Limits.dropped_width dropped row 1 ∷ cell Limits.dropped_width dropped row 2 ∷ [])

unfoldable pub dropped_lines : List ℕ → ℕ → ℕ → List ℕ
dropped_lines dropped zero row = []
dropped_lines dropped (suc rows) row = dropped_line dropped row ++ dropped_lines dropped rows (row + 1)

-- "Output: `ok`, rows, dropped; for each start or leaf ..; then `d` and each dropped row." "other refusals `refused N P`".
-- A row that the buffer doesn't have has no line
unfoldable pub listing : Answer → List ℕ → List ℕ → List ℕ
listing (accepted rows count) tree dropped =
    line word_ok (rows ∷ count ∷ [])
    ++ (tree_lines tree (min rows (row_count tree)) 0 0 ++ dropped_lines dropped (min count (length dropped / Limits.dropped_width)) 0)
listing (refused_at number place) tree dropped = line word_refused (number ∷ place ∷ [])
