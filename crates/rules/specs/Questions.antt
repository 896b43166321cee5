-- The questions about tree rows: four about a formula (the three of `FormulaItem` of syntax.rs, and 02's strict one), whether a row is a leaf inside
-- the text, and a leaf's text.
-- They have an answer for any numbers in the place of rows.
use Rattle.std.specs.Prelude.{ℕ, zero, suc, ◌+◌, ◌-◌, ◌/◌, Bool, true, false, cond, ◌&&◌, ◌||◌, List, [], ◌∷◌, eqb, leb, ltb, length}
use Rattle.std.specs.Prelude.{Option, None as none, Some as some}
use Rattle.rules.specs.Builder as builder
use Rattle.rules.specs.Flat.{tag_start, tag_leaf, tag_finish}
use Rattle.rules.specs.Limits
use Rattle.rules.specs.SyntaxKind.{TokenDollar, TokenBeginMath, TokenEndMath, ItemFormula}
use Rattle.rules.specs.Tables.{cell, part}
use Rattle.rules.specs.Tree.{Tree, Forest, leaf, node, more}

-- ---- rows
-- "Tree row: tag (0 start, 1 leaf, 2 finish), kind, start, length", and the fifth number. What is left over behind the last whole row is no row
abbrev pub row_count : List ℕ → ℕ
row_count tree = length tree / Limits.tree_width

abbrev pub tag_at : List ℕ → ℕ → ℕ
tag_at tree row = cell Limits.tree_width tree row 0

abbrev pub kind_at : List ℕ → ℕ → ℕ
kind_at tree row = cell Limits.tree_width tree row 1

-- the fifth number: "a leaf's own token, and for other rows the first token not wholly read just before the row was made" (02, #101)
abbrev pub token_at : List ℕ → ℕ → ℕ
token_at tree row = cell Limits.tree_width tree row 4

-- whether there is such a row, and it has the tag
unfoldable pub tagged : ℕ → List ℕ → ℕ → Bool
tagged tag tree row = ltb row (row_count tree) && eqb (tag_at tree row) tag

-- ---- leaves
-- where a part of the text starts, and how many bytes it has
pub record Range : Type 0 where
  pub start : ℕ
  pub size : ℕ

-- the third and the fourth number of a row
unfoldable pub range_at : List ℕ → ℕ → Range
range_at tree row = record { start = cell Limits.tree_width tree row 2; size = cell Limits.tree_width tree row 3 }

-- "Another question says whether a row is a leaf inside the text."
unfoldable pub is_leaf : List ℕ → List ℕ → ℕ → Bool
is_leaf text tree row = tagged tag_leaf tree row && leb ((range_at tree row).start + (range_at tree row).size) (length text)

-- "The text of a leaf row comes back as that part of the caller's text; for a leaf outside it, another row or no row, as the empty part at the text's
-- start." A leaf of no bytes inside the text has the empty part at its own start
unfoldable pub leaf_range : List ℕ → List ℕ → ℕ → Range
leaf_range text tree row = cond (is_leaf text tree row) (range_at tree row) (record { start = 0; size = 0 })

unfoldable pub leaf_text : List ℕ → List ℕ → ℕ → List ℕ
leaf_text text tree row = part text (leaf_range text tree row).start (leaf_range text tree row).size

-- ---- a formula's node
-- starts less finishes, once a row of this tag is passed
unfoldable pub open_after : ℕ → ℕ → ℕ
open_after tag deep = cond (eqb tag tag_start) (deep + 1) (cond (eqb tag tag_finish) (deep - 1) deep)

-- "the first later row where starts and finishes balance, no tag over 2 before it": among so many rows from `at` on, when `deep` nodes are open there
unfoldable pub balance : List ℕ → ℕ → ℕ → ℕ → Option ℕ
balance tree zero at deep = none
balance tree (suc rows) at deep =
    cond (ltb tag_finish (tag_at tree at)) none
    (cond (eqb (open_after (tag_at tree at) deep) 0) (some at)
    (balance tree rows (at + 1) (open_after (tag_at tree at) deep)))

-- the finish that matches the start in this row
abbrev pub matching_finish : List ℕ → ℕ → Option ℕ
matching_finish tree row = balance tree (row_count tree - (row + 1)) (row + 1) 1

-- "Formula questions take a tree row. No unless it starts kind 43 and has its matching finish". Which kind the finish names is not asked
unfoldable pub formula : List ℕ → ℕ → Option ℕ
formula tree row = cond (tagged tag_start tree row && eqb (kind_at tree row) ItemFormula) (matching_finish tree row) none

-- "First and last token descend into the first and last child; an empty node there gives none".
-- A child's row is the token where it is a leaf; where it has the tag `edge` the child is a node, and what it has inside is asked for; else there is
-- no child
abbrev pub descend : ℕ → ℕ → ℕ → Option ℕ → Option ℕ
descend edge tag at inside = cond (eqb tag tag_leaf) (some at) (cond (eqb tag edge) inside none)

-- the first child begins in row `at`, and a node's own first child a row later: among so many rows
unfoldable pub first_from : List ℕ → ℕ → ℕ → Option ℕ
first_from tree zero at = none
first_from tree (suc rows) at = descend tag_start (tag_at tree at) at (first_from tree rows (at + 1))

-- the last child ends in the row before, and a node's own last child a row earlier
unfoldable pub last_before : List ℕ → ℕ → Option ℕ
last_before tree zero = none
last_before tree (suc at) = descend tag_finish (tag_at tree at) at (last_before tree at)

-- the same of a formula that begins in this row and ends in that one, if it is one
abbrev pub first_in : List ℕ → ℕ → Option ℕ → Option ℕ
first_in tree row none = none
first_in tree row (some finish) = first_from tree (finish - (row + 1)) (row + 1)

abbrev pub last_in : List ℕ → Option ℕ → Option ℕ
last_in tree none = none
last_in tree (some finish) = last_before tree finish

-- the row of a formula's first token, and of its last
unfoldable pub first_token : List ℕ → ℕ → Option ℕ
first_token tree row = first_in tree row (formula tree row)

unfoldable pub last_token : List ℕ → ℕ → Option ℕ
last_token tree row = last_in tree (formula tree row)

-- ---- what stands around a formula
pub record Delimiter : Type 0 where
  pub kind : ℕ
  pub bytes : List ℕ

-- `$`
abbrev pub dollar : Delimiter
dollar = record { kind = TokenDollar; bytes = 36 ∷ [] }

-- `$$`
abbrev pub dollars : Delimiter
dollars = record { kind = TokenDollar; bytes = 36 ∷ 36 ∷ [] }

-- `\(` and `\)`
abbrev pub begin_inline : Delimiter
begin_inline = record { kind = TokenBeginMath; bytes = 92 ∷ 40 ∷ [] }

abbrev pub end_inline : Delimiter
end_inline = record { kind = TokenEndMath; bytes = 92 ∷ 41 ∷ [] }

-- `\[` and `\]`
abbrev pub begin_display : Delimiter
begin_display = record { kind = TokenBeginMath; bytes = 92 ∷ 91 ∷ [] }

abbrev pub end_display : Delimiter
end_display = record { kind = TokenEndMath; bytes = 92 ∷ 93 ∷ [] }

-- whether two texts are the same
unfoldable pub same : List ℕ → List ℕ → Bool
same [] [] = true
same [] (b ∷ right) = false
same (a ∷ left) [] = false
same (a ∷ left) (b ∷ right) = eqb a b && same left right

-- a leaf's kind and the range of its text
abbrev pub Leaf : Type 0
Leaf = ℕ × Range

-- what the row of a token says of it
abbrev pub leaf_at : List ℕ → Option ℕ → Option Leaf
leaf_at tree none = none
leaf_at tree (some row) = cond (tagged tag_leaf tree row) (some (kind_at tree row, range_at tree row)) none

-- whether a token is this delimiter. "If one of them is asked about and lies outside the text: no."
unfoldable pub is_delimiter : List ℕ → Delimiter → Option Leaf → Bool
is_delimiter text d none = false
is_delimiter text d (some l) =
    leb (l.1.start + l.1.size) (length text) && (eqb l.0 d.kind && same (part text l.1.start l.1.size) d.bytes)

-- whether it is one of two
unfoldable pub one_of : List ℕ → Delimiter → Delimiter → Option Leaf → Bool
one_of text one other token = is_delimiter text one token || is_delimiter text other token

-- whether the one token is this delimiter and the other that one
unfoldable pub between : List ℕ → Delimiter → Delimiter → Option Leaf → Option Leaf → Bool
between text opener closer first last = is_delimiter text opener first && is_delimiter text closer last

-- ---- the three questions of a first and a last token. `is_display` and `is_inline` ask for the first alone
abbrev pub display : List ℕ → Option Leaf → Bool
display text first = one_of text dollars begin_display first

abbrev pub inline : List ℕ → Option Leaf → Bool
inline text first = one_of text dollar begin_inline first

-- "`is_valid` asks only whether these two tokens match, so a lone `$` is valid, as in the source." The strict question asks it of two children
unfoldable pub matched : List ℕ → Option Leaf → Option Leaf → Bool
matched text first last =
    between text dollar dollar first last
    || (between text dollars dollars first last
    || (between text begin_inline end_inline first last || between text begin_display end_display first last))

-- ---- of a tree row
abbrev pub is_display : List ℕ → List ℕ → ℕ → Bool
is_display text tree row = display text (leaf_at tree (first_token tree row))

abbrev pub is_inline : List ℕ → List ℕ → ℕ → Bool
is_inline text tree row = inline text (leaf_at tree (first_token tree row))

abbrev pub is_valid : List ℕ → List ℕ → ℕ → Bool
is_valid text tree row = matched text (leaf_at tree (first_token tree row)) (leaf_at tree (last_token tree row))

-- ---- the strict question
-- "the formula's first and last child must be different leaf rows that match as opener and closer" (02, #106). A child that is a leaf is one row: the
-- first is then the row behind the formula's start, and the last the row before its finish. So no child is gone into
unfoldable pub whole_in : List ℕ → List ℕ → ℕ → Option ℕ → Bool
whole_in text tree row none = false
whole_in text tree row (some finish) =
    let first = row + 1 in
    let last = finish - 1 in
    ltb first last && matched text (leaf_at tree (some first)) (leaf_at tree (some last))

abbrev pub is_whole : List ℕ → List ℕ → ℕ → Bool
is_whole text tree row = whole_in text tree row (formula tree row)

-- ---- of a node of a tree: its tokens as rowan has them
abbrev pub of_leaf : builder.Leaf → Option Leaf
of_leaf l = some (l.kind, record { start = l.start; size = l.size })

unfoldable mutual
  -- `first_token`: the first child's, if there is a child
  pub first_leaf : Tree → Option Leaf
  first_leaf (leaf l) = of_leaf l
  first_leaf (node kind from to children) = first_of children

  pub first_of : Forest → Option Leaf
  first_of Forest.none = none
  first_of (more child rest) = first_leaf child

unfoldable mutual
  -- `last_token`: the last child's; `before` is that of the child before these
  pub last_leaf : Tree → Option Leaf
  last_leaf (leaf l) = of_leaf l
  last_leaf (node kind from to children) = last_of children none

  pub last_of : Forest → Option Leaf → Option Leaf
  last_of Forest.none before = before
  last_of (more child rest) before = last_of rest (last_leaf child)

-- ---- of a node of a tree: its first and its last child, where these are leaves themselves
abbrev pub child_leaf : Tree → Option Leaf
child_leaf (leaf l) = of_leaf l
child_leaf (node kind from to children) = none

-- the last of some children; `before` is the child before these
unfoldable pub last_child : Forest → Option Leaf → Option Leaf
last_child Forest.none before = before
last_child (more child rest) before = last_child rest (child_leaf child)

-- they are different: the last is one of those behind the first
abbrev pub whole : List ℕ → Tree → Bool
whole text (leaf l) = false
whole text (node kind from to Forest.none) = false
whole text (node kind from to (more first others)) = matched text (child_leaf first) (last_child others none)
