-- The tests are the rule's, and each arm is another routine or nothing.
use mathlib.Core.Path.{◌≡◌, refl, sym, ap, ◌∙◌}
use mathlib.Core.Bool.{true, false}
use mathlib.Core.List.{List}
use Rattle.std.specs.Prelude.{Option, Some as some}
use Prim.Native.Nat.{ℕ}
use lib.Dec.{eqb}
use borrow.Author.Tests.{eq-eqb, ne_eqb}
use Rattle.rules.specs.Cursor.{Cursor, peek}
use Rattle.rules.specs.Flat.{flat}
use Rattle.rules.specs.Items.{is_command_name}
use Rattle.rules.specs.Outcome.{went}
use Rattle.rules.specs.Position.{Source}
use Rattle.rules.specs.Routines as spec
use Rattle.rules.specs.SyntaxKind.{TokenCommandSym}
use Rattle.rules.specs.Token.{Generic, Dollar, Word}
use Rattle.lexer.specs.Reading.{cursor_of}
use Rattle.state.specs.Contract.{RuleOf, Slice, Somehow, Texts, There, Tokens}
use Rattle.state.specs.Stands.{Here}
use Rattle.state.specs.declared.Parser.{Parser}
use Rattle.lexer.proofs.Laws.{peeked}
use Rattle.routines.proofs.ByNext.{arm_ran, arm_stays}
use Rattle.routines.proofs.Leaves.{seen_less}
use Rattle.state.proofs.Outside.{ran-seeing}
use Rattle.clauses.proofs.delimiter.Goals as goal

-- the rule by the next kind, and its arms by the tests
abbrev of : Option ℕ → RuleOf
of next s n = spec.delimiter_of (flat n) s next

-- neither a command's name that the sheet declares nor one of the parser's own
abbrev Plain : ℕ → Type 0
Plain kind = (eqb kind Generic ≡ false) × (is_command_name kind ≡ false)

module _ (kind : ℕ) where
  is-generic : eqb kind Generic ≡ true → (s : Source) (n : ℕ) (q : Here) → of (some kind) s n q ≡ spec.eat_as (flat n) s TokenCommandSym q
  is-generic g s n q = rw g

  is-command : eqb kind Generic ≡ false → is_command_name kind ≡ true → (s : Source) (n : ℕ) (q : Here) → of (some kind) s n q ≡ went q
  is-command g c s n q = rw (g, c)

  module _ (plain : Plain kind) where
    is-dollar : eqb kind Dollar ≡ true → (s : Source) (n : ℕ) (q : Here) → of (some kind) s n q ≡ went q
    is-dollar d s n q = rw (plain.0, plain.1, d)

    is_word : eqb kind Dollar ≡ false → eqb kind Word ≡ true → (s : Source) (n : ℕ) (q : Here) → of (some kind) s n q ≡ spec.single_char (flat n) s q
    is_word d w s n q = rw (plain.0, plain.1, d, w)

    is_other : eqb kind Dollar ≡ false → eqb kind Word ≡ false → (s : Source) (n : ℕ) (q : Here) → of (some kind) s n q ≡ spec.eat (flat n) s q
    is_other d w s n q = rw (plain.0, plain.1, d, w)

-- ---- what the code was told

next-is : (tokens : List ℕ) (c : Cursor) {answer next : Option ℕ} → answer ≡ peek tokens c → answer ≡ next → peek tokens c ≡ next
next-is tokens c told is = sym told ∙ is

-- so a routine may eat it
there : (text tokens : Slice) {p : Parser} {tree : List ℕ} {answer : Option ℕ} {kind : ℕ} → answer ≡ peek tokens.now (cursor_of p.lexer)
    → answer ≡ some kind → Somehow (Texts text tokens) p tree → There tokens p × Somehow (Tokens tokens) p tree
there text tokens told is s = ((peeked _ _ told is).there, seen_less (λ t seen. seen.1) s)

-- ---- the arms

pub returns-in_default : goal.returns-in_default
unfolding spec.delimiter
returns-in_default c notes = arm_stays (λ t seen. seen.1) of (next-is _ _ c.peek.ensures c.in_default.is) (λ s n q. refl)

-- a command's name that is not the parser's own
pub eat_as-requires : goal.eat_as-requires
eat_as-requires c = there c.args.text c.args.tokens c.peek.ensures c.in-Some.is c.requires

pub returns-then-kind-eq-GENERIC : goal.returns-then-kind-eq-GENERIC
unfolding spec.delimiter
returns-then-kind-eq-GENERIC c notes =
    arm_ran (λ t seen. seen.1) of (next-is _ _ c.peek.ensures c.in-Some.is) (is-generic c.in-Some.kind (eq-eqb _ _ c.if-kind-eq-GENERIC.true))
    (ran-seeing (λ t seen. seen.1) (c.eat_as.ensures notes))

pub returns-then-is_command_name : goal.returns-then-is_command_name
unfolding spec.delimiter
returns-then-is_command_name c notes =
    arm_stays (λ t seen. seen.1) of (next-is _ _ c.peek.ensures c.in-Some.is)
    (is-command c.in-Some.kind (ne_eqb _ _ c.if-kind-eq-GENERIC.false) (sym c.is_command_name.ensures ∙ c.if-is_command_name.true))

-- a dollar
pub returns-then-kind-eq-DOLLAR : goal.returns-then-kind-eq-DOLLAR
unfolding spec.delimiter
returns-then-kind-eq-DOLLAR c notes =
    let plain : Plain c.in-Some.kind = (ne_eqb _ _ c.if-kind-eq-GENERIC.false, sym c.is_command_name.ensures ∙ c.if-is_command_name.false) in
    arm_stays (λ t seen. seen.1) of (next-is _ _ c.peek.ensures c.in-Some.is)
    (is-dollar c.in-Some.kind plain (eq-eqb _ _ c.if-kind-eq-DOLLAR.true))

-- a Word
pub word_character-requires : goal.word_character-requires
word_character-requires c =
    let next = peeked _ _ c.peek.ensures c.in-Some.is in ((next.there, next.is ∙ c.if-kind-eq-WORD.true), c.requires)

pub returns-then-kind-eq-WORD : goal.returns-then-kind-eq-WORD
unfolding spec.delimiter
returns-then-kind-eq-WORD c notes =
    let plain : Plain c.in-Some.kind = (ne_eqb _ _ c.if-kind-eq-GENERIC.false, sym c.is_command_name.ensures ∙ c.if-is_command_name.false) in
    let word = is_word c.in-Some.kind plain (ne_eqb _ _ c.if-kind-eq-DOLLAR.false) (eq-eqb _ _ c.if-kind-eq-WORD.true) in
    arm_ran (λ t seen. seen.1) of (next-is _ _ c.peek.ensures c.in-Some.is) word (c.word_character.ensures notes)

-- any other token
pub eat-requires : goal.eat-requires
eat-requires c = there c.args.text c.args.tokens c.peek.ensures c.in-Some.is c.requires

pub returns : goal.returns
unfolding spec.delimiter
returns c notes =
    let plain : Plain c.in-Some.kind = (ne_eqb _ _ c.if-kind-eq-GENERIC.false, sym c.is_command_name.ensures ∙ c.if-is_command_name.false) in
    let other = is_other c.in-Some.kind plain (ne_eqb _ _ c.if-kind-eq-DOLLAR.false) (ne_eqb _ _ c.if-kind-eq-WORD.false) in
    arm_ran (λ t seen. seen.1) of (next-is _ _ c.peek.ensures c.in-Some.is) other (ran-seeing (λ t seen. seen.1) (c.eat.ensures notes))
