-- The contract of a member of the cycle, over the lists that the lent slices hold.
use Rattle.std.specs.Prelude.{ℕ, ◌<◌, ◌≤◌, ◌/◌, Bool, true, false, cond, ◌⊎◌, ◌≡◌, Option, length}
use Rattle.std.specs.Borrow.{Bor}
use denote.Triple.Both.{Both}
use Rattle.rules.specs.Checks.{Tables, source_of}
use Rattle.rules.specs.Flat.{flat}
use Rattle.rules.specs.Items.{greedy_stops}
use Rattle.rules.specs.Limits.{shape_width}
use Rattle.rules.specs.Matcher.{Matcher}
use Rattle.rules.specs.Outcome.{Out}
use Rattle.rules.specs.Position.{Rule, asked}
use Rattle.rules.specs.Reading.{content, content_at, items, item_list, last_after, arguments, greedy_items}
use Rattle.rules.specs.Routines.{turns}
use Rattle.rules.specs.Scope.{Scope, stops}
use Rattle.rules.specs.Tables.{token_count, shape_at}
use Rattle.state.specs.Stands.{Buffers, Here, Step, pos_of, mark_at, kept_of, mark_in, no_mark}
use Rattle.state.specs.Change.{relisted, remarked}
use Rattle.state.specs.Contract.{Runs, Moments}
pub use Rattle.state.specs.Contract.{buffers, lent}
use Rattle.state.specs.declared.KeptMark.{KeptMark}
use Rattle.syntax.specs.ParseScope.{number_of, scope_of}
pub use Rattle.syntax.specs.Tables.{tables, given}
use Rattle.syntax.specs.declared.tables.Tables as code
use Rattle.parser.specs.declared.lists.Extent.{Extent}
use Rattle.parser.specs.declared.lists.Extent.TheVariants.{List as Scoped, Greedy, Item as OneItem}
use Rattle.state.specs.declared.Parser.{Parser}

-- a rule that takes the routine for items inside, over the room
abbrev pub Inside : Type 0
Inside = (n : ℕ) → (Bool → Rule (flat n)) → Here → Out Here

-- reads an item inside a node below which d more may be opened
abbrev pub inner_at : Tables → (n d : ℕ) → Bool → Rule (flat n)
inner_at t n d = content_at (flat n) (source_of t) d

-- a member that opens a node before it reads an item: its rule, at every level that is enough
abbrev pub Opening : Tables → ℕ → Inside → Parser → Buffers → Step → Buffers → Type 0
Opening t gain rule p m r v = Runs t gain (λ n d. rule n (inner_at t n d) (pos_of p m)) p m r v

-- a member that reads items in the node that is open
abbrev pub Within : Tables → ℕ → Inside → Parser → Buffers → Step → Buffers → Type 0
Within t gain rule p m r v = Runs t gain (λ n d. rule n (content (flat n) (source_of t) (inner_at t n d)) (pos_of p m)) p m r v

-- ---- the same over the parameters themselves: the tables, the buffers and the state, in the order of the code

-- the tables as an `ensures` has them
abbrev pub Seen : Type 0
Seen = Both (Bor code.Tables) (Bor code.Tables)

-- what a member that opens a node before it reads an item comes to
abbrev pub Opened : Seen → Moments → Moments → Parser → Step → ℕ → (Tables → Inside) → Type 0
Opened tables tree dropped p r gain rule =
    let t = given tables.entry in
    Opening t gain (rule t) p (lent tree.entry dropped.entry) r (lent tree.exit dropped.exit)

-- what a member that reads items in the node that is open comes to
abbrev pub Stayed : Seen → Moments → Moments → Parser → Step → ℕ → (Tables → Inside) → Type 0
Stayed tables tree dropped p r gain rule =
    let t = given tables.entry in
    Within t gain (rule t) p (lent tree.entry dropped.entry) r (lent tree.exit dropped.exit)

-- a token is next
abbrev pub Next : Tables → Parser → Type 0
Next t p = p.lexer.token < token_count t.tokens

-- ---- lists

-- what stops a list's items, and greedy arguments
abbrev pub stops_of : Bool → Scope → ℕ → Bool
stops_of true scope = greedy_stops scope
stops_of false scope = stops scope

-- a kind of token that does not stop them
abbrev pub goes_on : Bool → Scope → ℕ → Bool
goes_on greedy scope kind = cond (stops_of greedy scope kind) false true

-- a mark that is made at p, as the state keeps it
abbrev pub mark_here : Parser → KeptMark
mark_here p = kept_of (mark_at p)

-- an item began at p: with a token, whose shape is in the table, in a node that is open
abbrev pub Began : Tables → Parser → Type 0
Began t p =
    (p.lexer.token < token_count t.tokens) × (shape_at t.tokens p.lexer.token ≤ length t.shapes / shape_width) × (0 < p.builder.rows)

-- the state behind an item that began at p and ended at q: by the rule, and the list's scope and start are q's
pub record LastAfter (t : Tables) (p q r : Parser) : Type 0 where
  pub is : (n : ℕ) (m v : Buffers) → last_after (flat n) (source_of t) (pos_of p m) (pos_of q v) ≡ pos_of r v
  pub last : (r.list.last ≡ q.list.last) ⊎ (r.list.last ≡ mark_here p)
  pub same : r ≡ remarked q q.list.start r.list.last

-- the items of a list from here on, with turns enough
abbrev pub list_items : Tables → Bool → Inside
list_items t greedy n inner q = items (flat n) (source_of t) inner (stops_of greedy q.list.scope) (turns (flat n) (source_of t) q) q

-- ---- how far is read

-- so much is read at least
abbrev pub gain_of : Extent → ℕ
gain_of (Scoped scope) = 0
gain_of Greedy = 0
gain_of OneItem = 1

-- where one item is read, a token is next
abbrev pub NextIf : Extent → Tables → Parser → Type 0
NextIf (Scoped scope) t p = Unit {0}
NextIf Greedy t p = Unit {0}
NextIf OneItem t p = Next t p

-- whether an item is read next, the first or a later one
abbrev pub more : Extent → Bool → Scope → Option ℕ → Bool
more (Scoped s) first scope kind = asked (goes_on false scope) kind
more Greedy first scope kind = asked (goes_on true scope) kind
more OneItem first scope kind = first

-- what the first item is read in
abbrev pub opened : Extent → Parser → Parser
opened (Scoped scope) p = relisted p (record { scope = number_of scope; start = mark_here p; last = no_mark })
opened Greedy p = remarked p (mark_here p) no_mark
opened OneItem p = p

-- what is given back behind the last item
abbrev pub closed : Extent → Parser → Parser → Parser
closed (Scoped scope) p q = relisted q p.list
closed Greedy p q = remarked q (kept_of (mark_in p.list.start)) no_mark
closed OneItem p q = q

-- the state behind an item
abbrev pub Behind : Extent → Tables → (p q r : Parser) → Type 0
Behind (Scoped scope) t p q r = LastAfter t p q r
Behind Greedy t p q r = LastAfter t p q r
Behind OneItem t p q r = r ≡ q

-- the items that a loop reads
abbrev pub items_of : Tables → Extent → Inside
items_of t (Scoped scope) n inner q = list_items t false n inner q
items_of t Greedy n inner q = list_items t true n inner q
items_of t OneItem n inner q = inner false q

-- what an extent reads
abbrev pub inside_of : Tables → Extent → Inside
inside_of t (Scoped scope) n inner q = item_list (flat n) (source_of t) inner (scope_of scope) q
inside_of t Greedy n inner q = greedy_items (flat n) (source_of t) inner q
inside_of t OneItem n inner q = inner false q

-- ---- arguments

-- the arguments from here on, with turns enough
abbrev pub all_arguments : Tables → Matcher → Inside
all_arguments t m n inner q = arguments (flat n) (source_of t) inner (turns (flat n) (source_of t) q) m q
