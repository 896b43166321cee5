-- By the root's walk, with the state before the first token.
use Rattle.std.proofs.Common.{◌≡◌, ℕ, List, drop, arith}
use Rattle.rules.specs.Checks.{Tables, source_of}
use Rattle.rules.specs.Scope
use Rattle.rules.specs.Flat.{flat}
use Rattle.rules.specs.Position as position
use Rattle.rules.specs.Reading as spec
use Rattle.rules.specs.SyntaxKind as kinds
use Rattle.state.specs.Contract.{Left, Opens, Closes, Steady}
use Rattle.builder.specs.Stands as shown
use Rattle.builder.specs.declared.Frame.{Frame}
use Rattle.state.specs.Stands.{Buffers, Step}
use Rattle.state.specs.declared.Parser.{Parser}
use Rattle.state.proofs.Walk.{line, Walk, Call, passes, closes}
use Rattle.parser.specs.Member.{buffers, given, lent}
use Rattle.parser.specs.Root.{at_root}
use Rattle.parser.proofs.Cycle.{below}
use Rattle.parser.proofs.FromRoot.{plan, root-steady, roots, root-refused, parsed_refused, parsed}
use Rattle.parser.proofs.root.parse.Goals as goal
use Rattle.parser.proofs.root.parse.Goals.{Start, After-start_node, In_ok-begun, After-inside, In_ok-read}

abbrev tables_at : Start → Tables
tables_at b = given b.args.tables

abbrev buffers_at : Start → Buffers
buffers_at b = lent b.args.tree b.args.dropped

-- the walk from the entry b, after so many steps
abbrev Came : Start → ℕ → Parser → List ℕ → List ℕ → Type 0
Came b done u tree dropped =
    let t = tables_at b in
    Walk t (line (plan t)) (drop done (plan t)) 0 1 at_root.list.scope at_root (buffers_at b) u (buffers tree dropped)

entry : (c : Start) → Steady (tables_at c) at_root (buffers_at c)
entry c = root-steady c.requires

-- the state that the code begins with is the root's
begins_at : (p : Parser) (r : Step) (tree after notes : List ℕ) → p ≡ at_root
    → ((notes : List ℕ) → Opens (λ n. position.start (flat n) kinds.ScopeRoot) p (buffers tree notes) r (buffers after notes))
    → Opens (λ n. position.start (flat n) kinds.ScopeRoot) at_root (buffers tree notes) r (buffers after notes)
begins_at p r tree after notes e k = rw e at (k notes)

-- and so is the frame that it ends with
abbrev Ending : Frame → Parser → Step → Buffers → Buffers → Type 0
Ending frame u r m v = Closes (λ n. position.finish (flat n) kinds.ScopeRoot (shown.frame_of frame)) frame.first frame.node u m r v

ends_at : {p u : Parser} {frame : Frame} {r : Step} {tree after : List ℕ} (notes : List ℕ)
    → frame ≡ record { first = p.builder.first; node = p.builder.node } → p ≡ at_root
    → ((notes : List ℕ) → Ending frame u r (buffers tree notes) (buffers after notes))
    → Ending (record { first = 0; node = 0 }) u r (buffers tree notes) (buffers after notes)
ends_at notes e is k = rw (e, is) at (k notes)

started : (c : After-start_node)
    → Opens (λ n. position.start (flat n) kinds.ScopeRoot) at_root (buffers_at (goal.at.After-start_node c).Start) c.start_node.result
    (buffers c.start_node.new.tree c.args.dropped.now)
started c = begins_at _ _ _ _ c.args.dropped.now c.at_start-p.ensures c.start_node.ensures

begun : (c : In_ok-begun) → Came (goal.at.In_ok-begun c).Start 1 c.in_ok-begun.begun c.start_node.new.tree c.args.dropped.now
begun c = roots (entry (goal.at.In_ok-begun c).Start) (started (goal.at.In_ok-begun c).After-start_node) c.in_ok-begun.was

-- the list, a level less
list_read : (c : After-inside)
    → let b = (goal.at.After-inside c).Start in
    Call (tables_at b) (λ n d. spec.item_list (flat n) (source_of (tables_at b)) (spec.content_at (flat n) (source_of (tables_at b)) d) Scope.Root) 1
    (λ q. Left (tables_at b) 0 c.in_ok-begun.begun (buffers c.start_node.new.tree b.args.dropped.now) q
    (buffers c.inside.new.tree c.inside.new.dropped))
    c.in_ok-begun.begun (buffers c.start_node.new.tree b.args.dropped.now) c.inside.result
    (buffers c.inside.new.tree c.inside.new.dropped)
unfolding spec.content_at
list_read c = let w = begun (goal.at.After-inside c).In_ok-begun in below (omega arith) c.inside.ensures

listed : (c : In_ok-read) → Came (goal.at.In_ok-read c).Start 2 c.in_ok-read.read c.inside.new.tree c.inside.new.dropped
listed c = passes (begun (goal.at.In_ok-read c).In_ok-begun) (list_read (goal.at.In_ok-read c).After-inside) c.in_ok-read.was

pub returns-in_err-begun : goal.returns-in_err-begun
returns-in_err-begun c =
    root-refused (entry (goal.at.returns-in_err-begun c).Start) (started (goal.at.returns-in_err-begun c).After-start_node)
    c.in_err-begun.was c.from_residual.ensures

pub inside-requires : goal.inside-requires
inside-requires c = ((begun (goal.at.inside-requires c).In_ok-begun).ready, tt)

pub returns-in_err-read : goal.returns-in_err-read
returns-in_err-read c =
    parsed_refused (begun (goal.at.returns-in_err-read c).In_ok-begun) (list_read (goal.at.returns-in_err-read c).After-inside)
    c.in_err-read.was c.from_residual-in_err-read.ensures

pub finish_node-requires : goal.finish_node-requires
finish_node-requires c = let w = listed (goal.at.finish_node-requires c).In_ok-read in (w.ready.steady.fits, w.ready.within)

pub returns : goal.returns
returns c =
    parsed (listed (goal.at.returns c).In_ok-read) (closes (ends_at _ c.frame.ensures c.at_start-p.ensures c.finish_node.ensures))
