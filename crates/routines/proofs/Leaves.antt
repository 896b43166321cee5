-- A leaf is written and the cursor moves on: each leaf takes something of what is left to read. Assumes nothing.
use Rattle.std.specs.Prelude.{Ok, Err}
use Rattle.syntax.specs.declared.refusal.Refused.{Refused}
use mathlib.Core.Path.{◌≡◌, refl, ap, ◌∙◌}
use mathlib.Core.List.{List}
use Prim.Native.Nat.{ℕ, ◌+◌, ◌≤◌, ◌<◌}
use native.Mathlib.Omega.{arith}
use lib.ListN.{length}
use Rattle.rules.specs.Limits
use Rattle.rules.specs.Outcome.{Out, went, bind}
use Rattle.rules.specs.Flat.{flat}
use Rattle.rules.specs.Builder.{Leaf}
use Rattle.rules.specs.Checks.{Tables, source_of}
use Rattle.rules.specs.Position as position
use Rattle.rules.specs.Characters.{char_length}
use Rattle.rules.specs.Cursor.{Cursor, left, eaten, consumed, rest_start, rest_length, peek_text}
use Rattle.rules.specs.Routines.{eat_as, single_char}
use Rattle.rules.specs.SyntaxKind.{TokenWord}
use Rattle.rules.specs.Token
use Rattle.rules.specs.Tables.{token_count, kind_at}
use Rattle.lexer.specs.Reading.{cursor_of}
use Rattle.lexer.specs.Fine.{Fine}
use Rattle.lexer.specs.Fine as row
use Rattle.lexer.proofs.Laws.{here, eaten-fine, left-eaten, le_or_lt, consumed-all, consumed-part, char_fine, char_left}
use mathlib.Core.Logic.{⊎_elim}
use Rattle.lexer.specs.declared.cursor.Lexer.{Lexer}
use Rattle.state.specs.Stands.{Buffers, Here, Step, pos_of, out_of}
use Rattle.state.specs.Change.{relexed}
use Rattle.state.specs.Contract.{Ready, Left, Leafed, Told, Ran, RuleOf, Somehow, buffers}
use Rattle.state.specs.declared.Parser.{Parser}
use Rattle.state.proofs.Left.{remains}
use Rattle.state.proofs.Walk.{HandsOn, handed, stop, passing}

-- a leaf, and then the cursor stands elsewhere
abbrev pub leaf-then : Leaf → (Cursor → Cursor) → ℕ → Here → Out Here
leaf-then leaf next n q = bind (position.leaf (flat n) leaf q) (λ u. went (position.with_lexer (flat n) (next u.lexer) u))

-- where the cursor moves to: a fine one further on
pub record Onward (t : Tables) (p : Parser) (to : Cursor) : Type 0 where
  pub fine : Fine t.text t.tokens to
  pub token : p.lexer.token ≤ to.token
  pub near : to.token ≤ p.lexer.token + 1
  pub inside : to.token ≤ token_count t.tokens
  pub less : left t.tokens to < left t.tokens (cursor_of p.lexer)

-- the leaf was written, and the cursor moved
moved : (t : Tables) (p : Parser) (tree after notes : List ℕ) → Ready t p (buffers tree notes) → (q : Parser) (l : Lexer) → Leafed p tree q after
    → length after ≡ length tree → Onward t p (cursor_of l)
    → Left t 1 p (buffers tree notes) (relexed q l) (buffers after notes)
moved t p tree after notes ready q l w long on =
    let token = on.token in
    let few = ready.steady.dropped in
    let rows = w.rows in
    let leaves = w.leaves in
    let less = on.less in
    let near = on.near in
    let held = w.held in
    let dropped = w.dropped in
    remains ready (passing w.rest refl long refl (omega arith)) on.fine on.inside (omega arith) w.fits w.depth w.first w.node
    w.list

-- a routine whose rule is such a leaf and such a step, for all tables that agree
module _ {sees : Tables → Type 0} {rule : RuleOf} {p : Parser} {tree after : List ℕ} (leaf : Leaf) (next : Cursor → Cursor)
    (is : (t : Tables) → sees t → (notes : List ℕ) (n : ℕ)
    → rule (source_of t) n (pos_of p (buffers tree notes)) ≡ leaf-then leaf next n (pos_of p (buffers tree notes)))
    {r : Step}
    (wrote : (notes : List ℕ)
    → Told (λ n. position.leaf (flat n) leaf) (λ u. Leafed p tree u after) p (buffers tree notes) r (buffers after notes)) where
  pub leaf-stops : {any : List ℕ} {e : Refused} {s : Step} → r ≡ Err e → HandsOn s e → (notes : List ℕ)
      → Ran sees 1 rule p (buffers tree notes) s (buffers any notes)
  leaf-stops {any} st hands notes = rw (handed hands) (record {
    told = λ t seen ready. record {
      is = is t seen notes (length tree) ∙ stop _ _ _ (buffers any notes) (wrote notes).is st;
      gone = tt;
    };
  })

  pub leaf-goes_on : {q z : Parser} (l : Lexer) → r ≡ Ok q → z ≡ relexed q l → cursor_of l ≡ next (cursor_of q.lexer) → length after ≡ length tree
      → ((t : Tables) (notes : List ℕ) → sees t → Ready t p (buffers tree notes) → Onward t p (cursor_of l))
      → (notes : List ℕ) → Ran sees 1 rule p (buffers tree notes) (Ok z) (buffers after notes)
  leaf-goes_on {q} l e ez moves long on notes =
      let to-went = ap (λ (y : Step). out_of y (buffers after notes)) e in
      let at-went : position.leaf (flat (length tree)) leaf (pos_of p (buffers tree notes)) ≡ went (pos_of q (buffers after notes)) =
      (wrote notes).is ∙ to-went in
      let w : Leafed p tree q after = rw e at (wrote notes).gone in
      rw ez (record {
        told = λ t seen ready. record {
          is = is t seen notes (length tree) ∙ rw (at-went, ← moves);
          gone = moved t p tree after notes ready q l w long (on t notes seen ready);
        };
      })

-- ---- the token that is next

-- what the functions ask that look at its row
pub here_of : {tokens tree : List ℕ} {p : Parser} → Somehow (λ t. t.tokens ≡ tokens) p tree → p.lexer.token < token_count tokens
    → row.Here tokens (cursor_of p.lexer)
here_of {tokens} {p = p} s there =
    let fine : Fine s.t.text tokens (cursor_of p.lexer) = rw s.seen at s.ready.steady.fine in
    here fine there

-- there are few of them
pub small_token : {tokens tree : List ℕ} {p : Parser} → Somehow (λ t. t.tokens ≡ tokens) p tree → p.lexer.token ≤ Limits.tokens
small_token s =
    let few = s.ready.steady.good.few in
    let token = s.ready.steady.token in
    omega arith

-- it is passed whole
pub onward_eaten : {t : Tables} {p : Parser} {m : Buffers} {l : Lexer} → Ready t p m → p.lexer.token < token_count t.tokens
    → cursor_of l ≡ eaten (cursor_of p.lexer) → Onward t p (cursor_of l)
onward_eaten {t} {p} ready there e =
    let fine = ready.steady.fine in
    let less = left-eaten fine there in
    rw e (record { fine = eaten-fine fine; token = omega arith; near = omega arith; inside = omega arith; less = less })

-- `eat_as` as a leaf and a step of the cursor
pub eat-as_is : (t : Tables) (tokens : List ℕ) (p : Parser) (m : Buffers) (kind start size : ℕ) → t.tokens ≡ tokens
    → start ≡ rest_start tokens (cursor_of p.lexer) → size ≡ rest_length tokens (cursor_of p.lexer) → (n : ℕ)
    → eat_as (flat n) (source_of t) kind (pos_of p m)
    ≡ leaf-then (record { token = p.lexer.token; kind = kind; start = start; size = size }) eaten n (pos_of p m)
unfolding eat_as
eat-as_is t tokens p m kind start size seen start_is size_is n = rw (seen, start_is, size_is)

-- writing a leaf moves no cursor
pub same-lexer : {rule : ℕ → Here → Out Here} {p q : Parser} {tree after : List ℕ} {m v : Buffers} {r : Step}
    → Told rule (λ u. Leafed p tree u after) p m r v → r ≡ Ok q → q.lexer ≡ p.lexer
same-lexer {p = p} {q} {tree} {after} k e = let w : Leafed p tree q after = rw e at k.gone in w.lexer

-- ---- one character of a Word is passed

-- the same tables and buffers, of which less is seen
pub seen_less : {sees less : Tables → Type 0} {p : Parser} {tree : List ℕ} → ((t : Tables) → sees t → less t) → Somehow sees p tree
    → Somehow less p tree
seen_less f s = record { t = s.t; notes = s.notes; seen = f s.t s.seen; ready = s.ready }

-- from one token to the same or to the next, and no further than the end
abbrev Near : List ℕ → ℕ → ℕ → Type 0
Near tokens from to = (from ≤ to) × (to ≤ from + 1) × (to ≤ token_count tokens)

-- a step within a token or over it goes no further than the end
consumed-inside : (tokens : List ℕ) (count : ℕ) (c : Cursor) → c.token < token_count tokens
    → Near tokens c.token (consumed tokens count c).token
consumed-inside tokens count c there =
    ⊎_elim (λ all. rw (consumed-all tokens count c all) (omega arith, omega arith, omega arith))
    (λ more. rw (consumed-part tokens count c more) (omega arith, omega arith, omega arith))
    (le_or_lt (rest_length tokens c) count)

pub onward_char : {t : Tables} {p : Parser} {m : Buffers} {l : Lexer} → Ready t p m → p.lexer.token < token_count t.tokens
    → kind_at t.tokens p.lexer.token ≡ Token.Word
    → cursor_of l ≡ consumed t.tokens (char_length (peek_text t.text t.tokens (cursor_of p.lexer))) (cursor_of p.lexer)
    → Onward t p (cursor_of l)
onward_char {t} {p} ready there word e =
    let fine = ready.steady.fine in
    let inside = consumed-inside t.tokens (char_length (peek_text t.text t.tokens (cursor_of p.lexer))) (cursor_of p.lexer) there in
    rw e (record { fine = char_fine fine there word; token = inside.0; near = inside.1; inside = inside.2; less = char_left fine there word })

-- `single_char` as a leaf and a step of the cursor
pub single_char_is : (t : Tables) (tokens word : List ℕ) (p : Parser) (m : Buffers) (start size : ℕ) → t.tokens ≡ tokens
    → word ≡ peek_text t.text tokens (cursor_of p.lexer) → start ≡ rest_start tokens (cursor_of p.lexer)
    → size ≡ char_length word → (n : ℕ)
    → single_char (flat n) (source_of t) (pos_of p m)
    ≡ leaf-then (record { token = p.lexer.token; kind = TokenWord; start = start; size = size }) (consumed tokens size) n (pos_of p m)
unfolding single_char
single_char_is t tokens word p m start size seen word-is start_is size_is n = rw (seen, start_is, size_is, word-is)
