-- A loop of items. A list's invariant is the walk so far, with turns enough for what is left to read; where one item is read, it is that nothing is
-- read before it, and all behind it. Assumes nothing.
use Rattle.syntax.specs.declared.refusal.Refused.{Refused}
use Rattle.std.specs.Prelude.{Ok, Err}
use mathlib.Core.Path.{◌≡◌, refl, sym, ap, ◌∙◌}
use mathlib.Core.Bool.{Bool, true, false, true≢false, false≢true}
use mathlib.Core.List.{[], ◌∷◌}
use mathlib.Core.Logic.{◌⊎◌, ⊎_elim}
use Prim.Native.Nat.{ℕ, zero, suc, ◌≤◌, ◌<◌}
use native.Mathlib.Omega.{arith}
use Rattle.rules.specs.Checks.{Tables, source_of}
use Rattle.rules.specs.Cursor.{peek}
use Rattle.rules.specs.Flat.{flat}
use Rattle.rules.specs.Outcome.{Out, went, refused, bind}
use Rattle.rules.specs.Position.{asked}
use Rattle.rules.specs.Reading as spec
use Rattle.lexer.specs.Reading.{cursor_of}
use Rattle.lexer.proofs.Laws.{left-some}
use Rattle.syntax.specs.ParseScope.{scope_at}
use lib.ListN.{length}
use Rattle.state.specs.Stands.{Step, Buffers, Here, pos_of}
use Rattle.state.specs.Change.{remarked}
use Rattle.state.specs.Contract.{MarkOk, Ready, Left, Runs, left_of}
use Rattle.state.specs.declared.Parser.{Parser}
use Rattle.state.proofs.Building.{mark_more}
use Rattle.routines.proofs.Eating.{asked-there}
use Rattle.state.proofs.Walk.{HandsOn, handed, Rule, line, last_step, Walk, begins, turns, passes, forgets, leaves, stops, arrives}
use Rattle.parser.specs.Member.{Next, NextIf, LastAfter, Behind, mark_here, goes_on, stops_of, more as more_of, gain_of, inner_at, list_items, items_of}
use Rattle.parser.specs.declared.lists.Extent.{Extent}
use Rattle.parser.specs.declared.lists.Extent.TheVariants.{List as Scoped, Greedy, Item as OneItem}
use Rattle.parser.proofs.Cycle.{Came, runs, remarks}
use Rattle.parser.proofs.Marks.{mark_here_lem}

-- a step, a change that calls nothing, and the last step
three_steps : (f : Rule) (change : ℕ → Here → Here) (h : Rule) (n d : ℕ) (q : Here)
    → line (f ∷ (λ n d u. went (change n u)) ∷ h ∷ []) n d q ≡ bind (f n d q) (λ u. h n d (change n u))
unfolding line
three_steps f change h n d q = then_last (f n d q)
  where
    then_last : (o : Out Here) → bind o (λ u. line (h ∷ []) n d (change n u)) ≡ bind o (λ u. h n d (change n u))
    then_last (went u) = last_step h n d (change n u)
    then_last (refused number place) = refl

-- an item in the node that is open
abbrev item : Tables → Rule
item t n d = spec.content (flat n) (source_of t) (inner_at t n d) false

-- all items of a list
abbrev pub body : Tables → Bool → Rule
body t greedy n d = list_items t greedy n (spec.content (flat n) (source_of t) (inner_at t n d))

module _ (t : Tables) (greedy : Bool) (p : Parser) (m : Buffers) where
  -- what is left of the loop, with so many turns
  abbrev more : ℕ → Rule
  more fuel n d =
      spec.items (flat n) (source_of t) (spec.content (flat n) (source_of t) (inner_at t n d)) (stops_of greedy (scope_at p.list.scope)) fuel

  -- the walk so far, to q and v, with turns enough for what is left
  record Far (q : Parser) (v : Buffers) : Type 0 where
    pub fuel : ℕ
    pub enough : left_of t q ≤ fuel
    pub walk : Walk t (body t greedy) (more fuel ∷ []) 0 0 p.list.scope p m q v

  items-begin : Ready t p m → Far p m
  items-begin ready =
      record {
        fuel = left_of t p;
        enough = omega arith;
        walk = begins ready (λ n d. sym (last_step (more (left_of t p)) n d (pos_of p m)));
      }

  -- whether the list goes on at q, asked in a scope
  abbrev goes : ℕ → Parser → Bool
  goes scope q = asked (goes_on greedy (scope_at scope)) (peek t.tokens (cursor_of q.lexer))

  module _ {q : Parser} {v : Buffers} (far : Far q v) where
    module _ (yes : goes q.list.scope q ≡ true) where
      item_there : Next t q
      item_there = asked-there (goes_on greedy (scope_at q.list.scope)) t.tokens (cursor_of q.lexer) yes

      -- what last is behind the item
      abbrev attaches : ℕ → Here → Here
      attaches n u = spec.last_after (flat n) (source_of t) (pos_of q v) u

      -- one turn of it: an item is read, last is what it is behind it, and then it goes on
      record Turn : Type 0 where
        fuel : ℕ
        enough : left_of t q ≤ suc fuel
        walk : Walk t (body t greedy) (item t ∷ (λ n d u. went (attaches n u)) ∷ more fuel ∷ []) 0 0 p.list.scope p m q v

      turn_of : (fuel : ℕ) → left_of t q ≤ fuel → Walk t (body t greedy) (more fuel ∷ []) 0 0 p.list.scope p m q v → Turn
      unfolding spec.items
      turn_of zero enough w = let some = left-some w.ready.steady.fine item_there in absurd (omega arith)
      turn_of (suc fuel) enough w =
          let asks : goes p.list.scope q ≡ true = rw w.scope_is at yes in
          record {
            fuel = fuel;
            enough = enough;
            walk = turns w (λ n d.
                last_step (more (suc fuel)) n d (pos_of q v) ∙ rw asks (sym (three_steps (item t) attaches (more fuel) n d (pos_of q v))));
          }

      turn : Turn
      turn = turn_of far.fuel far.enough far.walk

      module _ {r : Step} {x : Buffers} (read : Came t 1 (item t) q v r x) where
        item_stops : {any : Buffers} {e : Refused} {s : Step} → r ≡ Err e → HandsOn s e → Came t 0 (body t greedy) p m s any
        item_stops st hands = rw (handed hands) (stops turn.walk (runs read) st)

        module _ {z : Parser} (e : r ≡ Ok z) where
          -- the item was read
          after_item : Walk t (body t greedy) ((λ n d u. went (attaches n u)) ∷ more turn.fuel ∷ []) 1 0 p.list.scope p m z x
          after_item = passes turn.walk (runs read) e

          passed_item : Left t 1 q v z x
          passed_item = leaves turn.walk (runs read) e

          module _ {y : Parser} (l : LastAfter t q z y) where
            -- a mark before the item is still inside
            mark_kept : (y.list.last ≡ z.list.last) ⊎ (y.list.last ≡ mark_here q) → MarkOk y.list.last z.builder
            mark_kept =
                ⊎_elim
                (λ same. rw same after_item.ready.steady.last)
                (λ moved. rw moved (mark_more (mark_here q) q.builder z.builder passed_item.passed.rows (mark_here_lem far.walk.ready)))

            changed : (n d : ℕ) → went (attaches n (pos_of z x)) ≡ went (pos_of (remarked z z.list.start y.list.last) x)
            changed n d = ap went (l.is n v x) ∙ ap (λ u. went (pos_of u x)) l.same

            items-go_on : Far y x
            items-go_on =
                let start = after_item.ready.steady.start in
                let walk = remarks after_item z.list.start y.list.last l.same start (mark_kept l.last) changed in
                record { fuel = turn.fuel; enough = enough_left; walk = forgets walk }
              where
                enough_left : left_of t y ≤ turn.fuel
                enough_left = rw l.same (let read = passed_item.passed.read in let enough = turn.enough in omega arith)

            -- and less is left
            items-less : left_of t y < left_of t q
            items-less = rw l.same (let read = passed_item.passed.read in omega arith)

    module _ (no : goes q.list.scope q ≡ false) where
      ended : (fuel n d : ℕ) → line (more fuel ∷ []) n d (pos_of q v) ≡ line [] n d (pos_of q v)
      unfolding spec.items line
      ended zero n d = refl
      ended (suc fuel) n d = let asks : goes p.list.scope q ≡ false = rw far.walk.scope_is at no in rw asks

      items-end : Came t 0 (body t greedy) p m (Ok q) v
      items-end = arrives (turns far.walk (ended far.fuel))

-- ---- one item

module _ (t : Tables) (p : Parser) (m : Buffers) where
  -- before it, and behind it
  abbrev One : Bool → Parser → Buffers → Type 0
  One true q v = (q ≡ p) × (v ≡ m)
  One false q v = Came t 1 (item t) p m (Ok q) v

-- ---- as far as an extent goes

-- whether an item is read next
abbrev pub asks : Tables → Parser → Extent → Bool → Bool
asks t q e first = more_of e first (scope_at q.list.scope) (peek t.tokens (cursor_of q.lexer))

module _ (t : Tables) (p : Parser) (m : Buffers) where
  abbrev Held : Extent → Bool → Parser → Buffers → Type 0
  Held (Scoped scope) first q v = Far t false p m q v
  Held Greedy first q v = Far t true p m q v
  Held OneItem first q v = One t p m first q v

  -- the loop's invariant
  pub record Loop (e : Extent) (first : Bool) (q : Parser) (v : Buffers) : Type 0 where
    held : Held e first q v

  -- what holds at each turn, whatever is read
  pub record Turned (q : Parser) (v : Buffers) : Type 0 where
    pub ready : Ready t q v
    pub depth : q.builder.depth ≡ p.builder.depth
    pub tree_long : length v.tree ≡ length m.tree
    pub notes_long : length v.dropped ≡ length m.dropped

  far_turned : {greedy : Bool} {q : Parser} {v : Buffers} → Far t greedy p m q v → Turned q v
  far_turned far =
      let w = far.walk in
      let depth = w.depth in
      record { ready = w.ready; depth = omega arith; tree_long = w.passed.tree_long; notes_long = w.passed.notes_long }

  -- what the loop comes to
  abbrev Read : Extent → Step → Buffers → Type 0
  Read e r x = Runs t (gain_of e) (λ n d. items_of t e n (spec.content (flat n) (source_of t) (inner_at t n d)) (pos_of p m)) p m r x

  pub loop_begins : (e : Extent) → Ready t p m → Loop e true p m
  loop_begins (Scoped scope) ready = record { held = items-begin t false p m ready }
  loop_begins Greedy ready = record { held = items-begin t true p m ready }
  loop_begins OneItem ready = record { held = (refl, refl) }

  module _ {q : Parser} {v : Buffers} where
    pub loop_turned : (e : Extent) (first : Bool) → Loop e first q v → Ready t p m → Turned q v
    loop_turned (Scoped scope) first l ready = far_turned l.held
    loop_turned Greedy first l ready = far_turned l.held
    loop_turned OneItem true l ready = rw (l.held.0, l.held.1) (record { ready = ready; depth = refl; tree_long = refl; notes_long = refl })
    loop_turned OneItem false l ready =
        let left = l.held.gone in
        record { ready = left.ready; depth = left.depth; tree_long = left.passed.tree_long; notes_long = left.passed.notes_long }

    pub loop_there : (e : Extent) (first : Bool) → Loop e first q v → NextIf e t p → asks t q e first ≡ true → Next t q
    loop_there (Scoped scope) first l next goes = item_there t false p m l.held goes
    loop_there Greedy first l next goes = item_there t true p m l.held goes
    loop_there OneItem true l next goes = rw l.held.0 next
    loop_there OneItem false l next goes = absurd (false≢true goes)

    pub loop_ends : (e : Extent) (first : Bool) → Loop e first q v → asks t q e first ≡ false → Read e (Ok q) v
    loop_ends (Scoped scope) first l stays = items-end t false p m l.held stays
    loop_ends Greedy first l stays = items-end t true p m l.held stays
    loop_ends OneItem true l stays = absurd (true≢false stays)
    loop_ends OneItem false l stays = l.held

    module _ {r : Step} {x : Buffers} (read : Came t 1 (item t) q v r x) where
      pub loop_stops : {refused : Refused} {s : Step} (e : Extent) (first : Bool) → Loop e first q v → asks t q e first ≡ true → r ≡ Err refused
          → HandsOn s refused → Read e s x
      loop_stops (Scoped scope) first l goes st hands = item_stops t false p m l.held goes read st hands
      loop_stops Greedy first l goes st hands = item_stops t true p m l.held goes read st hands
      loop_stops OneItem true l goes st hands = rw (handed hands) (rw (l.held.0, l.held.1, st) at read)
      loop_stops OneItem false l goes st hands = absurd (false≢true goes)

      module _ {z : Parser} (y : Parser) (went_on : r ≡ Ok z) where
        pub loop_goes_on : (e : Extent) (first : Bool) → Loop e first q v → asks t q e first ≡ true
            → Behind e t q z y → Loop e false y x
        loop_goes_on (Scoped scope) first l goes b = record { held = items-go_on t false p m l.held goes read went_on b }
        loop_goes_on Greedy first l goes b = record { held = items-go_on t true p m l.held goes read went_on b }
        loop_goes_on OneItem true l goes b = record { held = rw (l.held.0, l.held.1, went_on, ← b) at read }
        loop_goes_on OneItem false l goes b = absurd (false≢true goes)

        pub loop_less : (e : Extent) (first : Bool) → Loop e first q v → asks t q e first ≡ true
            → Behind e t q z y → left_of t y < left_of t q
        loop_less (Scoped scope) first l goes b = items-less t false p m l.held goes read went_on b
        loop_less Greedy first l goes b = items-less t true p m l.held goes read went_on b
        loop_less OneItem first l goes b = rw b (let passed = (rw went_on at read).gone.passed.read in omega arith)
