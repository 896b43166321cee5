-- The flat builder: rows of numbers in a tree buffer of `room` numbers, and the dropped rows. A wrap puts a row in at its mark.
use Rattle.std.specs.Prelude.{ℕ, ◌+◌, ◌*◌, ◌-◌, ◌/◌, cond, List, [], ◌∷◌, ◌++◌, take, drop, ltb, leb, eqb}
use Rattle.rules.specs.Limits
use Rattle.rules.specs.Outcome.{Out, went, refused, bind, mark_before_node, too_many_open, no_room}
use Rattle.rules.specs.SyntaxKind.{ClauseArgument}
use Rattle.rules.specs.Builder.{Builder, Leaf}

-- ---- rows

-- "Tree row: tag (0 start, 1 leaf, 2 finish), kind, start, length; last two 0 unless a leaf. A finish names the kind it closes.": the base's rows, of
-- four numbers
abbrev pub tag_start : ℕ
tag_start = 0

abbrev pub tag_leaf : ℕ
tag_leaf = 1

abbrev pub tag_finish : ℕ
tag_finish = 2

abbrev pub leaf_row : ℕ → ℕ → ℕ → List ℕ
leaf_row kind from size = tag_leaf ∷ kind ∷ from ∷ size ∷ []

abbrev pub start_row : ℕ → List ℕ
start_row kind = tag_start ∷ kind ∷ 0 ∷ 0 ∷ []

abbrev pub finish_row : ℕ → List ℕ
finish_row kind = tag_finish ∷ kind ∷ 0 ∷ 0 ∷ []

-- 02's #101: "Each tree row gets a fifth number: a leaf's own token, and for other rows the first token not wholly read just before the row was
-- made."
abbrev pub with_token : ℕ → List ℕ → List ℕ
with_token token row = row ++ (token ∷ [])

-- "Demands 2 and 3 read the first four numbers as before."
abbrev pub four : List ℕ → List ℕ
four row = take 4 row

-- a leaf's row
abbrev pub row_of : Leaf → List ℕ
row_of l = with_token l.token (leaf_row l.kind l.start l.size)

-- ---- the builder

-- what was built so far
pub record Rows : Type 0 where
  -- how many rows there are, and how many of them are leaves
  pub rows : ℕ
  pub leaves : ℕ
  -- how many nodes are open
  pub depth : ℕ
  -- how many finished children there are, of all open nodes together
  pub children : ℕ
  -- of the innermost open node: how many finished children stood before its first, and its start row
  pub first : ℕ
  pub node : ℕ
  -- the rows' numbers
  pub tree : List ℕ

-- "A mark counts finished children"; the row that was next when it was made stands beside the count
pub record Mark : Type 0 where
  pub children : ℕ
  pub row : ℕ

-- of a node: how many finished children stood before its first, and its start row
pub record Frame : Type 0 where
  pub first : ℕ
  pub node : ℕ

-- "a row more than the tree buffer's length / 4"; of 02's #101: "Room is then the buffer's length / 5"
abbrev pub or_no_room : ℕ → ℕ → Rows → Out Rows → Out Rows
or_no_room room place b go = cond (ltb b.rows (room / Limits.tree_width)) go (refused no_room place)

-- "a 129th node would be open, root counted"
abbrev pub or_too_many_open : ℕ → Rows → Out Rows → Out Rows
or_too_many_open place b go = cond (leb Limits.nodes b.depth) (refused too_many_open place) go

-- a leaf is one finished child more of the innermost open node
unfoldable pub leafed : Leaf → Rows → Rows
leafed l b =
    record {
      rows = b.rows + 1;
      leaves = b.leaves + 1;
      depth = b.depth;
      children = b.children + 1;
      first = b.first;
      node = b.node;
      tree = b.tree ++ row_of l;
    }

unfoldable pub leaf : ℕ → ℕ → Leaf → Rows → Out Rows
leaf room place l b = or_no_room room place b (went (leafed l b))

-- a node begins here: what comes next is its first child
unfoldable pub started : ℕ → ℕ → Rows → Rows
started place kind b =
    record {
      rows = b.rows + 1;
      leaves = b.leaves;
      depth = b.depth + 1;
      children = b.children;
      first = b.children;
      node = b.rows;
      tree = b.tree ++ with_token place (start_row kind);
    }

unfoldable pub start : ℕ → ℕ → ℕ → Rows → Out Rows
start room place kind b = or_too_many_open place b (or_no_room room place b (went (started place kind b)))

-- the innermost open node ends, and becomes one finished child of its parent, whose frame is given back
unfoldable pub finished : ℕ → ℕ → Frame → Rows → Rows
finished place kind f b =
    record {
      rows = b.rows + 1;
      leaves = b.leaves;
      depth = b.depth - 1;
      children = b.first + 1;
      first = f.first;
      node = f.node;
      tree = b.tree ++ with_token place (finish_row kind);
    }

unfoldable pub finish : ℕ → ℕ → ℕ → Frame → Rows → Out Rows
finish room place kind f b = or_no_room room place b (went (finished place kind f b))

-- where the start row of a node that begins at a mark goes: "a wrap at an open node's own first child goes inside that node", behind its start row
unfoldable pub start_at_row : Mark → Rows → ℕ
start_at_row m b = cond (eqb m.children b.first) (b.node + 1) m.row

-- a row goes in before a row of the tree
abbrev pub insert : ℕ → List ℕ → List ℕ → List ℕ
insert row numbers tree = take (row * Limits.tree_width) tree ++ (numbers ++ drop (row * Limits.tree_width) tree)

-- "a wrap's mark lies before the first child of the innermost open node"
abbrev pub or_mark_before_node : ℕ → Mark → Rows → Out Rows → Out Rows
or_mark_before_node place m b go = cond (ltb m.children b.first) (refused mark_before_node place) go

-- a node begins at a mark: what stood from there on is inside it
unfoldable pub started_at : ℕ → ℕ → Mark → Rows → Rows
started_at place kind m b =
    record {
      rows = b.rows + 1;
      leaves = b.leaves;
      depth = b.depth + 1;
      children = b.children;
      first = m.children;
      node = start_at_row m b;
      tree = insert (start_at_row m b) (with_token place (start_row kind)) b.tree;
    }

-- "at one opening 6, then 7, then 8"
unfoldable pub start_at : ℕ → ℕ → ℕ → Mark → Rows → Out Rows
start_at room place kind m b = or_mark_before_node place m b (or_too_many_open place b (or_no_room room place b (went (started_at place kind m b))))

abbrev pub mark_of : Rows → Mark
mark_of b = record { children = b.children; row = b.rows }

abbrev pub frame_of : Rows → Frame
frame_of b = record { first = b.first; node = b.node }

-- a wrap: a node begins at the mark and stays open, and inside it one is closed around what stood there
unfoldable pub wrap : ℕ → ℕ → ℕ → Mark → Rows → Out Rows
wrap room place kind m b =
    bind (start_at room place kind m b) (λ outer.
    bind (start_at room place ClauseArgument m outer) (λ inner.
    finish room place ClauseArgument (frame_of outer) inner))

-- "Dropped row: token index, reason (1 trivia, 2 opener, 3 closer), leaves written before it."
abbrev pub dropped_row : ℕ → ℕ → ℕ → List ℕ
dropped_row token reason leaves = token ∷ reason ∷ leaves ∷ []

-- the reasons of a dropped row
abbrev pub reason_trivia : ℕ
reason_trivia = 1

abbrev pub reason_opener : ℕ
reason_opener = 2

abbrev pub reason_closer : ℕ
reason_closer = 3

-- the tree and the dropped rows
pub record Built : Type 0 where
  pub tree : Rows
  pub dropped : List ℕ

abbrev pub on_tree : Built → Out Rows → Out Built
on_tree b (went t) = went (record { tree = t; dropped = b.dropped })
on_tree b (refused number place) = refused number place

-- the flat builder, for a tree buffer of so many numbers
abbrev pub flat : ℕ → Builder
flat room =
    record {
      State = Built;
      Mark = Mark;
      Frame = Frame;
      mark = λ b. mark_of b.tree;
      frame = λ b. frame_of b.tree;
      leaf = λ place l b. on_tree b (leaf room place l b.tree);
      start = λ place kind b. on_tree b (start room place kind b.tree);
      start_at = λ place kind m b. on_tree b (start_at room place kind m b.tree);
      finish = λ place kind f b. on_tree b (finish room place kind f b.tree);
      drop = λ token reason b. record { tree = b.tree; dropped = b.dropped ++ dropped_row token reason b.tree.leaves };
    }

-- nothing was built yet
abbrev pub empty : Built
empty = record { tree = record { rows = 0; leaves = 0; depth = 0; children = 0; first = 0; node = 0; tree = [] }; dropped = [] }
