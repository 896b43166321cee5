-- Trees that say at which tokens they stand, and the rows that a tree is laid out in.
use Rattle.std.specs.Prelude.{ℕ, ◌+◌, List, [], ◌∷◌, ◌++◌}
use Rattle.rules.specs.Builder.{Leaf}
use Rattle.rules.specs.Flat.{leaf_row, start_row, finish_row, with_token, row_of}

mutual
  -- a leaf as it was handed over, with its token; or a node with its kind, `from`, `to` and its children. `from` is the place at which it was begun,
  -- and `to` the place at which it was ended: the first token that was not wholly read then. Held trivia counts as read, so a command's `to` lies
  -- behind the blanks that it passed and left, which follow its node as leaves; the last case of `Cases` shows it.
  --     \f 1   and a blank behind it, tokens 0 to 3:   node Cmd 0 4 (leaf of 0, node Arg 2 3 (leaf of 2)), leaf of 3
  pub data Tree : Type 0 where
    leaf : Leaf → Tree
    node : ℕ → ℕ → ℕ → Forest → Tree

  pub data Forest : Type 0 where
    none : Forest
    more : Tree → Forest → Forest

unfoldable mutual
  -- a node's start, its children's rows, its finish; each with its fifth number
  pub layout : Tree → List ℕ
  layout (leaf l) = row_of l
  layout (node kind from to children) = with_token from (start_row kind) ++ (layouts children ++ with_token to (finish_row kind))

  pub layouts : Forest → List ℕ
  layouts none = []
  layouts (more t rest) = layout t ++ layouts rest

unfoldable mutual
  -- "Tree row: tag (0 start, 1 leaf, 2 finish) ..": the base's rows of a tree, one by one, which don't tell its places
  pub base_rows : Tree → List (List ℕ)
  base_rows (leaf l) = leaf_row l.kind l.start l.size ∷ []
  base_rows (node kind from to children) = start_row kind ∷ (base_rows_all children ++ (finish_row kind ∷ []))

  pub base_rows_all : Forest → List (List ℕ)
  base_rows_all none = []
  base_rows_all (more t rest) = base_rows t ++ base_rows_all rest

unfoldable mutual
  -- how many leaves there are
  pub leaves_in : Tree → ℕ
  leaves_in (leaf l) = 1
  leaves_in (node kind from to children) = leaves_all children

  pub leaves_all : Forest → ℕ
  leaves_all none = 0
  leaves_all (more t rest) = leaves_in t + leaves_all rest

-- the trees of a list, in order
abbrev pub forest : List Tree → Forest
forest [] = none
forest (t ∷ ts) = more t (forest ts)

-- a node over a list of children
abbrev pub node_of : ℕ → ℕ → ℕ → List Tree → Tree
node_of kind from to children = node kind from to (forest children)
