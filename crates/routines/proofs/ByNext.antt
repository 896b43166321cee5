-- A routine that goes by the next token's kind: from what `peek` told, it is the routine of that arm, or nothing is done. Assumes nothing.
use Rattle.std.specs.Prelude.{Ok}
use Rattle.state.specs.Stands.{Step}
use mathlib.Core.Path.{◌≡◌, sym, ap, ◌∙◌}
use mathlib.Core.Bool.{Bool, true, false}
use mathlib.Core.List.{List}
use Rattle.std.specs.Prelude.{Option}
use Prim.Native.Nat.{ℕ, ◌<◌}
use lib.Dec.{eqb}
use Rattle.rules.specs.Checks.{Tables, source_of}
use Rattle.rules.specs.Cursor.{Cursor, peek}
use Rattle.rules.specs.Flat.{flat}
use Rattle.rules.specs.Outcome.{went}
use Rattle.rules.specs.Position.{Source, asked}
use Rattle.rules.specs.Routines.{if_next}
use Rattle.rules.specs.Tables.{token_count}
use Rattle.lexer.specs.Reading.{cursor_of}
use Rattle.state.specs.Contract.{Ran, RuleOf}
use Rattle.state.specs.Stands.{Buffers, Here, pos_of}
use Rattle.state.specs.declared.Parser.{Parser}
use Rattle.routines.proofs.Eating.{asked-there}
use Rattle.state.proofs.Walk.{nothing-done, ran-as, ran-less}

-- such a rule, over what it is for each kind
abbrev pub by_next : (Option ℕ → RuleOf) → RuleOf
by_next of s n q = of (peek s.tokens q.lexer) s n q

-- what the code was told is next in the tables too
same_next : (t : Tables) (tokens : List ℕ) (c : Cursor) {next : Option ℕ} → t.tokens ≡ tokens → peek tokens c ≡ next → peek t.tokens c ≡ next
same_next t tokens c seen told = rw seen told

arm_is : (of : Option ℕ → RuleOf) (t : Tables) (tokens : List ℕ) {next : Option ℕ} (n : ℕ) (q : Here) → t.tokens ≡ tokens
    → peek tokens q.lexer ≡ next
    → by_next of (source_of t) n q ≡ of next (source_of t) n q
arm_is of t tokens n q seen told = ap (λ o. of o (source_of t) n q) (same_next t tokens q.lexer seen told)

module _ {sees : Tables → Type 0} {tokens : List ℕ} (rows : (t : Tables) → sees t → t.tokens ≡ tokens) {p : Parser} {m : Buffers} {next : Option ℕ}
    (of : Option ℕ → RuleOf) (told : peek tokens (cursor_of p.lexer) ≡ next) where
  -- the arm is another routine, which ran
  pub arm_ran : {arm : RuleOf} {gain : ℕ} {r : Step} {v : Buffers} → ((s : Source) (n : ℕ) (q : Here) → of next s n q ≡ arm s n q)
      → Ran sees gain arm p m r v → Ran sees 0 (by_next of) p m r v
  arm_ran is k = ran-less (ran-as k (λ t seen n. arm_is of t tokens n (pos_of p m) (rows t seen) told ∙ is (source_of t) n (pos_of p m)))

  -- the arm does nothing
  pub arm_stays : ((s : Source) (n : ℕ) (q : Here) → of next s n q ≡ went q) → Ran sees 0 (by_next of) p m (Ok p) m
  arm_stays is = nothing-done (λ t seen n. arm_is of t tokens n (pos_of p m) (rows t seen) told ∙ is (source_of t) n (pos_of p m))

-- ---- what is read where the next token is of a kind, from what the code was told of it

-- where it is of the kind, it is there
pub kind_there : (tokens : List ℕ) (kind : ℕ) (c : Cursor) {answer : Bool} → answer ≡ asked (eqb kind) (peek tokens c) → answer ≡ true
    → c.token < token_count tokens
kind_there tokens kind c told is = asked-there (eqb kind) tokens c (sym told ∙ is)

abbrev if_next_lem : ℕ → RuleOf → RuleOf
if_next_lem kind read s n = if_next (flat n) s kind (read s n)

module _ (tokens : List ℕ) (kind : ℕ) (p : Parser) {answer : Bool} (told : answer ≡ asked (eqb kind) (peek tokens (cursor_of p.lexer)))
    {sees : Tables → Type 0} (rows : (t : Tables) → sees t → t.tokens ≡ tokens) where
  -- the tables answer the same
  asks : {is : Bool} → answer ≡ is → (t : Tables) → sees t → asked (eqb kind) (peek t.tokens (cursor_of p.lexer)) ≡ is
  asks e t seen = rw (rows t seen) (sym told ∙ e)

  module _ (read : RuleOf) {m : Buffers} where
    pub kind_next : {gain : ℕ} {r : Step} {v : Buffers} → answer ≡ true → Ran sees gain read p m r v → Ran sees 0 (if_next_lem kind read) p m r v
    kind_next is k = ran-less (ran-as k (λ t seen n. rw (asks is t seen)))

    pub other_next : answer ≡ false → Ran sees 0 (if_next_lem kind read) p m (Ok p) m
    other_next is = nothing-done (λ t seen n. rw (asks is t seen))
