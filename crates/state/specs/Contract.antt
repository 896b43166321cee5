-- What the contracts of the parser's routines say.
use Rattle.std.specs.Prelude.{ℕ, ◌+◌, ◌*◌, ◌-◌, ◌/◌, ◌^◌, ◌≤◌, ◌<◌, ◌≡◌, Bool, List, Ok, Err, eqb, length, drop}
use Rattle.std.specs.Borrow.{Bor, MutBor}
use denote.Triple.Both.{Both}
use Rattle.rules.specs.Limits.{tokens, nodes, tree_width, dropped_width, shape_width}
use Rattle.rules.specs.Outcome.{Out, went}
use Rattle.rules.specs.Flat.{flat}
use Rattle.rules.specs.Routines.{ignore_holding_trivia}
use Rattle.rules.specs.Checks.{Tables, source_of}
use Rattle.rules.specs.Builder.{Leaf}
use Rattle.rules.specs.Position as position
use Rattle.rules.specs.Position.{Source}
use Rattle.rules.specs.Tables.{token_count, kind_at, shape_at}
use Rattle.rules.specs.Token.{Word as word_kind}
use Rattle.rules.specs.Cursor.{left, peek_text}
use Rattle.lexer.specs.Reading.{cursor_of}
use Rattle.lexer.specs.Fine.{Sound, Fine}
use Rattle.builder.specs.Contract.{Fits, Within, Inside}
use Rattle.builder.specs.declared.Frame.{Frame}
use Rattle.builder.specs.declared.GreenNodeBuilder.{GreenNodeBuilder}
use Rattle.state.specs.Stands.{Buffers, Here, Step, checkpoint_of, pos_of, out_of}
use Rattle.state.specs.Change.{ignored}
use Rattle.state.specs.declared.KeptMark.{KeptMark}
use Rattle.state.specs.declared.Parser.{Parser}

-- ---- what a routine may assume

-- a mark was made when there were no more rows than now; that there is none is kept as row 0, for which this holds everywhere
abbrev pub MarkOk : KeptMark → GreenNodeBuilder → Type 0
MarkOk m b = Inside (checkpoint_of m) b

-- tables that were not refused
pub record Good (t : Tables) : Type 0 where
  pub sound : Sound t.text t.tokens
  pub few : token_count t.tokens ≤ tokens
  pub shaped : (i : ℕ) → i < token_count t.tokens → shape_at t.tokens i ≤ length t.shapes / shape_width

-- what is left to read from a state on
abbrev pub left_of : Tables → Parser → ℕ
left_of t p = left t.tokens (cursor_of p.lexer)

-- a weight that no step raises: each leaf takes something of what is left to read, or was held before
abbrev pub weight : Tables → Parser → ℕ
weight t p = p.builder.leaves + (p.lexer.token - p.held) + 2 * left_of t p

-- a state in its buffers: no token is passed that is not there, no row is counted that is not there, and no more is dropped than was passed
pub record Steady (t : Tables) (p : Parser) (m : Buffers) : Type 0 where
  pub good : Good t
  pub fine : Fine t.text t.tokens (cursor_of p.lexer)
  pub token : p.lexer.token ≤ token_count t.tokens
  pub fits : Fits p.builder m.tree
  pub start : MarkOk p.list.start p.builder
  pub last : MarkOk p.list.last p.builder
  pub dropped : p.dropped ≤ p.lexer.token
  pub notes : token_count t.tokens * dropped_width ≤ length m.dropped
  -- so the leaves can be counted in 32 bits
  pub light : weight t p ≤ 2 ^ 31

-- and a node is open
pub record Ready (t : Tables) (p : Parser) (m : Buffers) : Type 0 where
  pub steady : Steady t p m
  pub within : Within p.builder

-- ---- what a routine leaves

-- on the way from p to q at least `gain` was read, and what lies behind q's rows in both buffers is as it was
pub record Passed (t : Tables) (gain : ℕ) (p : Parser) (m : Buffers) (q : Parser) (v : Buffers) : Type 0 where
  pub tree : drop (q.builder.rows * tree_width) v.tree ≡ drop (q.builder.rows * tree_width) m.tree
  pub notes : drop (q.dropped * dropped_width) v.dropped ≡ drop (q.dropped * dropped_width) m.dropped
  pub tree_long : length v.tree ≡ length m.tree
  pub notes_long : length v.dropped ≡ length m.dropped
  pub rows : p.builder.rows ≤ q.builder.rows
  pub dropped : p.dropped ≤ q.dropped
  pub token : p.lexer.token ≤ q.lexer.token
  pub read : left_of t q + gain ≤ left_of t p
  pub light : weight t q ≤ weight t p

-- a routine that went: the same node is open, in a list of the same scope
pub record Left (t : Tables) (gain : ℕ) (p : Parser) (m : Buffers) (q : Parser) (v : Buffers) : Type 0 where
  pub passed : Passed t gain p m q v
  pub ready : Ready t q v
  pub depth : q.builder.depth ≡ p.builder.depth
  pub first : q.builder.first ≡ p.builder.first
  pub node : q.builder.node ≡ p.builder.node
  pub scope : q.list.scope ≡ p.list.scope

-- a node was begun, here or at an earlier mark
pub record Begun (t : Tables) (p : Parser) (m : Buffers) (q : Parser) (v : Buffers) : Type 0 where
  pub passed : Passed t 0 p m q v
  pub ready : Ready t q v
  pub few : p.builder.depth < nodes
  pub depth : q.builder.depth ≡ p.builder.depth + 1
  pub list : q.list ≡ p.list
  pub lexer : q.lexer ≡ p.lexer

-- a leaf was written, and nothing else changed
pub record Leafed (p : Parser) (tree : List ℕ) (q : Parser) (after : List ℕ) : Type 0 where
  pub rest : drop (q.builder.rows * tree_width) after ≡ drop (q.builder.rows * tree_width) tree
  pub fits : Fits q.builder after
  pub rows : p.builder.rows < q.builder.rows
  pub leaves : q.builder.leaves ≡ p.builder.leaves + 1
  pub depth : q.builder.depth ≡ p.builder.depth
  pub first : q.builder.first ≡ p.builder.first
  pub node : q.builder.node ≡ p.builder.node
  pub lexer : q.lexer ≡ p.lexer
  pub held : q.held ≡ p.held
  pub list : q.list ≡ p.list
  pub dropped : q.dropped ≡ p.dropped

-- the innermost open node was ended, and its parent's frame is given back
pub record Ended (t : Tables) (first node : ℕ) (p : Parser) (m : Buffers) (q : Parser) (v : Buffers) : Type 0 where
  pub passed : Passed t 0 p m q v
  pub steady : Steady t q v
  pub depth : q.builder.depth + 1 ≡ p.builder.depth
  pub first-is : q.builder.first ≡ first
  pub node_is : q.builder.node ≡ node
  pub list : q.list ≡ p.list
  pub lexer : q.lexer ≡ p.lexer

-- Q of the state, where an answer has one; a refusal has none
abbrev pub Gone : (Parser → Type 0) → Step → Type 0
Gone Q (Ok q) = Q q
Gone Q (Err refused) = Unit {0}

-- ---- contracts

-- a routine came to what its rule says, and left what Q says; a refusal says its number and its place, and nothing of the buffers
pub record Told (rule : ℕ → Here → Out Here) (Q : Parser → Type 0) (p : Parser) (m : Buffers) (r : Step) (v : Buffers) : Type 0 where
  pub is : rule (length m.tree) (pos_of p m) ≡ out_of r v
  pub gone : Gone Q r

-- a rule for what is read and a room
abbrev pub RuleOf : Type 0
RuleOf = Source → ℕ → Here → Out Here

-- a routine outside the cycle that does not see all tables or buffers keeps its promise for all that agree with those it sees
pub record Ran (sees : Tables → Type 0) (gain : ℕ) (rule : RuleOf) (p : Parser) (m : Buffers) (r : Step) (v : Buffers) : Type 0 where
  pub told : (t : Tables) → sees t → Ready t p m → Told (rule (source_of t)) (λ q. Left t gain p m q v) p m r v

-- one that opens a node
pub record Opens (rule : ℕ → Here → Out Here) (p : Parser) (m : Buffers) (r : Step) (v : Buffers) : Type 0 where
  pub told : (t : Tables) → Steady t p m → Told rule (λ q. Begun t p m q v) p m r v

-- the same inside a node that is open
pub record Begins (rule : RuleOf) (p : Parser) (m : Buffers) (r : Step) (v : Buffers) : Type 0 where
  pub told : (t : Tables) → Ready t p m → Told (rule (source_of t)) (λ q. Begun t p m q v) p m r v

-- one that closes a node
pub record Closes (rule : ℕ → Here → Out Here) (first node : ℕ) (p : Parser) (m : Buffers) (r : Step) (v : Buffers) : Type 0 where
  pub told : (t : Tables) → Ready t p m → Told rule (λ q. Ended t first node p m q v) p m r v

-- a routine of the cycle: its rule at every level that is enough for the nodes that may yet be opened
pub record Runs (t : Tables) (gain : ℕ) (want : ℕ → ℕ → Out Here) (p : Parser) (m : Buffers) (r : Step) (v : Buffers) : Type 0 where
  pub is : (d : ℕ) → nodes ≤ p.builder.depth + d → want (length m.tree) d ≡ out_of r v
  pub gone : Gone (λ q. Left t gain p m q v) r

-- tables for which the state is ready, whatever they are
pub record Known (sees : Tables → Type 0) (p : Parser) (m : Buffers) : Type 0 where
  pub t : Tables
  pub seen : sees t
  pub ready : Ready t p m

-- the same where the dropped buffer is not seen either
pub record Somehow (sees : Tables → Type 0) (p : Parser) (tree : List ℕ) : Type 0 where
  pub t : Tables
  pub notes : List ℕ
  pub seen : sees t
  pub ready : Ready t p (record { tree = tree; dropped = notes })

-- ---- the same over the parameters themselves

-- a slice that is read, and as an `ensures` has it: at the entry and at the exit
abbrev pub Slice : Type 0
Slice = Bor (List ℕ)

abbrev pub Seen : Type 0
Seen = Both Slice Slice

-- a buffer that is lent, and as an `ensures` has it
abbrev pub Buffer : Type 0
Buffer = MutBor (List ℕ)

abbrev pub Moments : Type 0
Moments = Both Buffer Buffer

-- both buffers, of the numbers that they hold
abbrev pub buffers : List ℕ → List ℕ → Buffers
buffers tree dropped = record { tree = tree; dropped = dropped }

-- both buffers, as they are lent
abbrev pub lent : Buffer → Buffer → Buffers
lent tree dropped = buffers tree.now dropped.now

-- the tables that a routine knows: those with these token rows
abbrev pub Tokens : Slice → Tables → Type 0
Tokens tokens t = t.tokens ≡ tokens.now

-- and with this text too
abbrev pub Texts : Slice → Slice → Tables → Type 0
Texts text tokens t = (t.text ≡ text.now) × (t.tokens ≡ tokens.now)

-- and those in which these bytes are what is left of the next token
abbrev pub LeftOf : Slice → Slice → Parser → Tables → Type 0
LeftOf tokens word p t = (t.tokens ≡ tokens.now) × (word.now ≡ peek_text t.text tokens.now (cursor_of p.lexer))

-- a token is next
abbrev pub There : Slice → Parser → Type 0
There tokens p = p.lexer.token < token_count tokens.now

-- and it is a Word
abbrev pub AtWord : Slice → Parser → Type 0
AtWord tokens p = There tokens p × (kind_at tokens.now p.lexer.token ≡ word_kind)

-- a Word's kind
abbrev pub is_word : ℕ → Bool
is_word kind = eqb kind word_kind

-- what a routine comes to that is lent the tree buffer alone, whatever the dropped one holds
abbrev pub Grows : (Tables → Type 0) → Moments → Parser → Step → ℕ → RuleOf → Type 0
Grows sees tree p r gain rule =
    (notes : List ℕ) → Ran sees gain rule p (buffers tree.entry.now notes) r (buffers tree.exit.now notes)

-- and one that is lent both
abbrev pub Goes : (Tables → Type 0) → Moments → Moments → Parser → Step → ℕ → RuleOf → Type 0
Goes sees tree dropped p r gain rule =
    Ran sees gain rule p (buffers tree.entry.now dropped.entry.now) r (buffers tree.exit.now dropped.exit.now)

-- a leaf of a token that was passed or is next, while the cursor is within the limit of tokens
abbrev pub Leafs : Moments → Parser → Step → Leaf → Type 0
Leafs tree p r leaf =
    (notes : List ℕ)
    → leaf.token ≤ p.lexer.token
    → p.lexer.token ≤ tokens
    → Told (λ n. position.leaf (flat n) leaf) (λ q. Leafed p tree.entry.now q tree.exit.now)
    p (buffers tree.entry.now notes) r (buffers tree.exit.now notes)

-- a node's start
abbrev pub Starts : Moments → Parser → Step → (ℕ → Here → Out Here) → Type 0
Starts tree p r rule = (notes : List ℕ) → Opens rule p (buffers tree.entry.now notes) r (buffers tree.exit.now notes)

-- a node's end, at its parent's frame
abbrev pub Finishes : Moments → Parser → Frame → Step → (ℕ → Here → Out Here) → Type 0
Finishes tree p parent r rule =
    (notes : List ℕ) → Closes rule parent.first parent.node p (buffers tree.entry.now notes) r (buffers tree.exit.now notes)

-- ---- held trivia

-- what is held was passed, and none of it is dropped yet
pub record Holding (p : Parser) : Type 0 where
  pub held : p.held ≤ p.lexer.token
  pub dropped : p.dropped ≤ p.held

-- and there is room for its dropped rows, in numbers of 32 bits
pub record Droppable (p : Parser) (dropped : List ℕ) : Type 0 where
  pub holding : Holding p
  pub few : p.lexer.token ≤ tokens
  pub room : p.lexer.token * dropped_width ≤ length dropped
  pub leaves : p.builder.leaves < 2 ^ 32

-- it was dropped: the dropped rows are the rule's, whatever is read and whatever the tree's rows are, and behind them all is as it was
pub record Ignored (p : Parser) (before : List ℕ) (r : Parser) (after : List ℕ) : Type 0 where
  pub state : r ≡ ignored p
  pub is : (s : Source) (n : ℕ) (tree : List ℕ)
      → ignore_holding_trivia (flat n) s (pos_of p (record { tree = tree; dropped = before }))
      ≡ went (pos_of r (record { tree = tree; dropped = after }))
  pub rest : drop (r.dropped * dropped_width) after ≡ drop (r.dropped * dropped_width) before
  pub long : length after ≡ length before
