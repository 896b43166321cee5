-- The builder in the manner of rowan's GreenNodeBuilder: a stack of finished children and one of open parents; rows are laid out only at the end.
-- Of what 01 adds it has the limits: how many rows were asked for, how many nodes are open. Of 02's #101 it has the places of its nodes and the
-- tokens of its leaves.
use Rattle.std.specs.Prelude.{ℕ, ◌+◌, ◌/◌, cond, List, [], ◌∷◌, ◌++◌, ltb, leb, length, take, drop}
use Rattle.rules.specs.Builder.{Builder, Leaf}
use Rattle.rules.specs.Flat.{dropped_row}
use Rattle.rules.specs.Limits
use Rattle.rules.specs.Outcome.{Out, went, refused, mark_before_node, too_many_open, no_room}
use Rattle.rules.specs.Tree.{Tree, leaf, node_of}

-- an open parent: its kind, how many finished children stood before its first, and the place at which it was begun
pub record Parent : Type 0 where
  pub kind : ℕ
  pub first : ℕ
  pub from : ℕ

pub record Green : Type 0 where
  -- innermost first
  pub parents : List Parent
  -- the last finished one last
  pub children : List Tree
  -- rows and leaves asked for so far
  pub rows : ℕ
  pub leaves : ℕ
  pub dropped : List ℕ

-- "rowan's other assertion, a mark past the last child, is expected never to be met": no number of 01's
abbrev pub mark_past_last : ℕ
mark_past_last = 0

-- how many finished children stood before the first of the innermost open parent
abbrev pub first_of : List Parent → ℕ
first_of [] = 0
first_of (p ∷ ps) = p.first

abbrev pub or_no_room : ℕ → ℕ → Green → Out Green → Out Green
or_no_room room place g go = cond (ltb g.rows (room / Limits.tree_width)) go (refused no_room place)

abbrev pub or_too_many_open : ℕ → Green → Out Green → Out Green
or_too_many_open place g go = cond (leb Limits.nodes (length g.parents)) (refused too_many_open place) go

-- one finished child more
unfoldable pub leafed : Leaf → Green → Green
leafed l g =
    record {
      parents = g.parents;
      children = g.children ++ (leaf l ∷ []);
      rows = g.rows + 1;
      leaves = g.leaves + 1;
      dropped = g.dropped;
    }

-- `token`
unfoldable pub token : ℕ → ℕ → Leaf → Green → Out Green
token room place l g = or_no_room room place g (went (leafed l g))

-- a parent is pushed, with a count of finished children as its first. What was begun at a mark is begun at the place of the wrap: a command's node
-- always begins at its name
unfoldable pub pushed : ℕ → ℕ → ℕ → Green → Green
pushed place kind first g =
    record {
      parents = record { kind = kind; first = first; from = place } ∷ g.parents;
      children = g.children;
      rows = g.rows + 1;
      leaves = g.leaves;
      dropped = g.dropped;
    }

-- `start_node`: what comes next is its first child
unfoldable pub start_node : ℕ → ℕ → ℕ → Green → Out Green
start_node room place kind g = or_too_many_open place g (or_no_room room place g (went (pushed place kind (length g.children) g)))

-- `start_node_at`: "assert!(checkpoint <= self.children.len())", and where a parent is open "assert!(checkpoint >= first_child)"
unfoldable pub start_node_at : ℕ → ℕ → ℕ → ℕ → Green → Out Green
start_node_at room place kind mark g =
    cond (ltb (length g.children) mark) (refused mark_past_last place)
    (cond (ltb mark (first_of g.parents)) (refused mark_before_node place)
    (or_too_many_open place g (or_no_room room place g (went (pushed place kind mark g)))))

-- the innermost parent takes its children off the stack and goes onto it as one
abbrev pub popped : ℕ → List Parent → List Tree → List Parent × List Tree
popped place [] children = ([], children)
popped place (p ∷ ps) children = (ps, take p.first children ++ (node_of p.kind p.from place (drop p.first children) ∷ []))

-- so the innermost open node ends, at a place
unfoldable pub closed : ℕ → Green → Green
closed place g =
    let left = popped place g.parents g.children in
    record { parents = left.0; children = left.1; rows = g.rows + 1; leaves = g.leaves; dropped = g.dropped }

-- `finish_node`
unfoldable pub finish_node : ℕ → ℕ → Green → Out Green
finish_node room place g = or_no_room room place g (went (closed place g))

-- "Dropped row: token index, reason (1 trivia, 2 opener, 3 closer), leaves written before it."
abbrev pub noted : ℕ → ℕ → Green → Green
noted i reason g =
    record {
      parents = g.parents;
      children = g.children;
      rows = g.rows;
      leaves = g.leaves;
      dropped = g.dropped ++ dropped_row i reason g.leaves;
    }

-- rowan's builder, for a tree buffer of so many numbers. "A mark counts finished children"; a parent's frame stands on the stack
abbrev pub rowan : ℕ → Builder
rowan room =
    record {
      State = Green;
      Mark = ℕ;
      Frame = Unit {0};
      mark = λ g. length g.children;
      frame = λ g. tt;
      leaf = token room;
      start = start_node room;
      start_at = start_node_at room;
      finish = λ place kind f. finish_node room place;
      drop = noted;
    }

-- nothing was built yet
abbrev pub nothing : Green
nothing = record { parents = []; children = []; rows = 0; leaves = 0; dropped = [] }
