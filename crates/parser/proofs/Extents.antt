-- What an extent reads, from what its loop reads: a list of its own is taken before the first item, and the parent's marks are given back behind the
-- last. Assumes nothing.
use Rattle.syntax.specs.declared.refusal.Refused.{Refused}
use mathlib.Core.Path.{◌≡◌, refl}
use mathlib.Core.Bool.{Bool, true, false}
use mathlib.Core.List.{[], ◌∷◌}
use Rattle.std.specs.Prelude.{Ok, Err, None as none, Some as some}
use Prim.Native.Nat.{ℕ}
use Rattle.rules.specs.Checks.{Tables, source_of}
use Rattle.rules.specs.Flat.{flat}
use Rattle.rules.specs.Outcome.{went}
use Rattle.rules.specs.Position.{steps, with_list, with_marks}
use Rattle.rules.specs.Reading as spec
use Rattle.syntax.proofs.Scopes.{numbered}
use Rattle.syntax.specs.ParseScope.{number_of, scope_of}
use Rattle.syntax.specs.declared.parse_scope.ParseScope.{ParseScope}
use Rattle.state.specs.Change.{relisted}
use Rattle.state.specs.Contract.{MarkOk, Ready}
use Rattle.state.specs.Stands.{Step, Buffers, no_mark, mark_of, list_of, pos_of, kept_of, mark_in}
use Rattle.state.specs.declared.ListState.{ListState}
use Rattle.state.specs.declared.Parser.{Parser}
use Rattle.state.proofs.Building.{mark_more}
use Rattle.state.proofs.Walk.{HandsOn, handed, Rule, line, Walk, begins, passes, stops, arrives}
use Rattle.parser.specs.Member.{mark_here, gain_of, inner_at, items_of, inside_of, opened, closed}
use Rattle.parser.specs.declared.lists.Extent.{Extent}
use Rattle.parser.specs.declared.lists.Extent.TheVariants.{List as Scoped, Greedy, Item as OneItem}
use Rattle.state.proofs.Marks.{no_mark_lem, taken_ok, kept_again}
use Rattle.parser.proofs.ItemLoop.{body}
use Rattle.parser.proofs.Cycle.{Came, runs, relists}
use Rattle.parser.proofs.Marks.{mark_here_lem, is_mark}

-- ---- a list of its own

-- the same scope by another name
rescoped : {t : Tables} {rule : Rule} {p : Parser} {m : Buffers} {q : Parser} {x : Buffers} {scope other : ℕ}
    → scope ≡ other → Walk t rule [] 0 0 scope p m q x → Walk t rule [] 0 0 other p m q x
rescoped same w = rw (← same) w

-- a rule of three steps: a list is taken, its items are read, another list is given back
record Own (t : Tables) (greedy : Bool) (p : Parser) (m : Buffers) (rule : Rule) : Type 0 where
  list : ListState
  start : MarkOk list.start p.builder
  last : MarkOk list.last p.builder
  taking : Rule
  giving : Rule
  is : (n d : ℕ) → rule n d (pos_of p m) ≡ line (taking ∷ body t greedy ∷ giving ∷ []) n d (pos_of p m)
  taking_is : (n d : ℕ) → taking n d (pos_of p m) ≡ went (pos_of (relisted p list) m)

module _ {t : Tables} {greedy : Bool} {p : Parser} {m : Buffers} {rule : Rule} (ready : Ready t p m) (own : Own t greedy p m rule) where
  taken : Walk t rule (body t greedy ∷ own.giving ∷ []) 0 0 own.list.scope p m (relisted p own.list) m
  taken = relists (begins ready own.is) own.list refl own.start own.last own.taking_is

  -- where its items are read
  abbrev begun : Parser
  begun = relisted p own.list

  module _ {r : Step} {x : Buffers} (read : Came t 0 (body t greedy) begun m r x) where
    own_stops : {e : Refused} {s : Step} → r ≡ Err e → HandsOn s e → Came t 0 rule p m s x
    own_stops st hands = rw (handed hands) (stops taken (runs read) st)

    module _ {q : Parser} (e : r ≡ Ok q) where
      read_all : Walk t rule (own.giving ∷ []) 0 0 own.list.scope p m q x
      read_all = passes taken (runs read) e

      own_closes : (back : ListState) → back.scope ≡ p.list.scope → MarkOk back.start p.builder → MarkOk back.last p.builder
          → ((n d : ℕ) → own.giving n d (pos_of q x) ≡ went (pos_of (relisted q back) x))
          → Came t 0 rule p m (Ok (relisted q back)) x
      own_closes back same start last giving-is =
          let rows = read_all.passed.rows in
          let start-there = mark_more back.start p.builder q.builder rows start in
          let last-there = mark_more back.last p.builder q.builder rows last in
          arrives (rescoped same (relists read_all back refl start-there last-there giving-is))

-- ---- as far as an extent goes

module _ {t : Tables} {p : Parser} {m : Buffers} (ready : Ready t p m) where
  -- a list of a scope
  abbrev list-rule : ParseScope → Rule
  list-rule scope n d = spec.item_list (flat n) (source_of t) (spec.content (flat n) (source_of t) (inner_at t n d)) (scope_of scope)

  list-own : (scope : ParseScope) → Own t false p m (list-rule scope)
  unfolding spec.item_list steps line
  list-own scope =
      record {
        list = record { scope = number_of scope; start = mark_here p; last = no_mark };
        start = mark_here_lem ready;
        last = no_mark_lem p.builder;
        taking = λ n d q. went (with_list (flat n) (record { scope = scope_of scope; start = some ((flat n).mark q.built); last = none }) q);
        giving = λ n d q. went (with_list (flat n) (list_of p.list) q);
        is = λ n d. refl;
        taking_is = λ n d. rw ((numbered scope).1, is_mark ready);
      }

  -- all that a greedy command takes
  abbrev greedy-rule : Rule
  greedy-rule n d = spec.greedy_items (flat n) (source_of t) (spec.content (flat n) (source_of t) (inner_at t n d))

  greedy-own : Own t true p m greedy-rule
  unfolding spec.greedy_items steps line
  greedy-own =
      record {
        list = record { scope = p.list.scope; start = mark_here p; last = no_mark };
        start = mark_here_lem ready;
        last = no_mark_lem p.builder;
        taking = λ n d q. went (with_marks (flat n) (some ((flat n).mark q.built)) none q);
        giving = λ n d q. went (with_marks (flat n) (mark_of p.list.start) none q);
        is = λ n d. refl;
        taking_is = λ n d. rw (is_mark ready);
      }

  -- an extent's rule, and the rule of its loop, inside the node
  abbrev whole : Extent → Rule
  whole e n d = inside_of t e n (spec.content (flat n) (source_of t) (inner_at t n d))

  abbrev loop : Extent → Rule
  loop e n d = items_of t e n (spec.content (flat n) (source_of t) (inner_at t n d))

  -- the loop's state at its begin is the one that the extent opens
  abbrev Looped : Extent → Parser → Step → Buffers → Type 0
  Looped e begun r x = Came t (gain_of e) (loop e) begun m r x

  abbrev Read : Extent → Step → Buffers → Type 0
  Read e r x = Came t (gain_of e) (whole e) p m r x

  module _ (r : Step) (x : Buffers) where
    stops_at : {refused : Refused} {s : Step} (e : Extent) → Looped e (opened e p) r x → r ≡ Err refused → HandsOn s refused → Read e s x
    unfolding list-own greedy-own
    stops_at (Scoped scope) read st hands = own_stops ready (list-own scope) read st hands
    stops_at Greedy read st hands = own_stops ready greedy-own read st hands
    stops_at OneItem read st hands = rw (handed hands) (rw st at read)

    pub inside_stops : {refused : Refused} {s : Step} (e : Extent) {begun : Parser} → begun ≡ opened e p → Looped e begun r x → r ≡ Err refused
        → HandsOn s refused → Read e s x
    inside_stops e is read st hands = stops_at e (rw is at read) st hands

    closes_at : (q : Parser) → r ≡ Ok q → (e : Extent) → Looped e (opened e p) r x → Read e (Ok (closed e p q)) x
    unfolding list-own greedy-own
    closes_at q went_on (Scoped scope) read =
        own_closes ready (list-own scope) read went_on p.list refl ready.steady.start ready.steady.last (λ n d. refl)
    closes_at q went_on Greedy read =
        own_closes ready greedy-own read went_on
        (record { scope = q.list.scope; start = kept_of (mark_in p.list.start); last = no_mark })
        (read_all ready greedy-own read went_on).scope_is
        (taken_ok p.list.start p.builder ready.steady.start) (no_mark_lem p.builder) (λ n d. rw (kept_again p.list.start) refl)
    closes_at q went_on OneItem read = rw went_on at read

    pub inside_closes : (q : Parser) → r ≡ Ok q → (e : Extent) {begun : Parser} → begun ≡ opened e p
        → Looped e begun r x → Read e (Ok (closed e p q)) x
    inside_closes q went_on e is read = closes_at q went_on e (rw is at read)
