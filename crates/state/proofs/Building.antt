-- The builder's operations on the parser's state: the rule's outcome is the builder's with all else as it was, and what the builder tells of its
-- numbers is what a routine lives on. Assumes nothing.
use Rattle.std.specs.Prelude.{Ok, Err}
use Rattle.syntax.specs.declared.refusal.Refused.{Refused}
use mathlib.Core.Path.{◌≡◌, refl, ◌∙◌}
use mathlib.Core.List.{List}
use Prim.Native.Nat.{ℕ, ◌*◌, ◌%◌, ◌^◌, ◌≤◌}
use native.Mathlib.Omega.{arith}
use lib.ListN.{length, drop}
use Rattle.rules.specs.Limits.{tokens, tree_width}
use Rattle.rules.specs.Outcome.{Out, went, refused, bind}
use Rattle.rules.specs.Flat as flat
use Rattle.rules.specs.Position as spec
use Rattle.rules.specs.Checks.{Tables}
use Rattle.rules.specs.Tables.{token_count}
use Rattle.lexer.specs.Fine.{Fine}
use Rattle.lexer.specs.Reading.{cursor_of}
use Rattle.builder.specs.Stands as shown
use Rattle.builder.specs.Contract as told
use Rattle.builder.specs.declared.GreenNodeBuilder.{GreenNodeBuilder}
use Rattle.builder.proofs.Facts as facts
use Rattle.state.specs.Stands.{Buffers, Here, Step, pos_of, out_of}
use Rattle.state.specs.Change.{rebuilt}
use Rattle.state.specs.Contract.{MarkOk, Steady, Passed, Leafed, Begun, Ended, Gone, Told}
use Rattle.state.specs.declared.KeptMark.{KeptMark}
use Rattle.state.specs.declared.Parser.{Parser}
use Rattle.state.proofs.Walk.{passing}

-- ---- a token in 32 bits

pub few_tokens : {t : Tables} {p : Parser} {m : Buffers} → Steady t p m → p.lexer.token ≤ tokens
few_tokens s =
    let token = s.token in
    let few = s.good.few in
    omega arith

-- 32 bits of it are all of it
all_bits : {token number : ℕ} → token ≤ tokens → number ≡ token % 2 ^ 32 → number ≡ token
all_bits few e = omega arith

-- so what the builder did with them it did with the token
pub for_token : (want : ℕ → ℕ → Out flat.Rows) {t v : List ℕ} {x : shown.Built} {token number : ℕ} → token ≤ tokens → number ≡ token % 2 ^ 32
    → told.Did (want number) t x v → told.Did (want token) t x v
for_token want few e did = rw (all_bits few e) at did

-- ---- what is left good

-- a mark is good for more rows too
pub mark_more : (m : KeptMark) (b u : GreenNodeBuilder) → b.rows ≤ u.rows → MarkOk m b → MarkOk m u
mark_more m b u more ok = record { children = ok.children; row = omega arith }

-- the same list, with what a step passed: its marks stay good, and no more is to be written
pub steady_more : {t : Tables} {gain : ℕ} {p : Parser} {m : Buffers} {q : Parser} {v : Buffers} → Steady t p m → Passed t gain p m q v
    → q.list ≡ p.list → Fine t.text t.tokens (cursor_of q.lexer) → q.lexer.token ≤ token_count t.tokens → q.dropped ≤ q.lexer.token
    → told.Fits q.builder v.tree → Steady t q v
steady_more {p = p} {q = q} s passed list fine inside few fits =
    record {
      good = s.good;
      fine = fine;
      token = inside;
      fits = fits;
      start = rw list (mark_more p.list.start p.builder q.builder passed.rows s.start);
      last = rw list (mark_more p.list.last p.builder q.builder passed.rows s.last);
      dropped = few;
      notes = let room = s.notes in let long = passed.notes_long in omega arith;
      light = let bound = s.light in let lighter = passed.light in omega arith;
    }

module _ (p : Parser) (t v notes : List ℕ) where
  abbrev before : Buffers
  before = record { tree = t; dropped = notes }

  abbrev after : Buffers
  after = record { tree = v; dropped = notes }

  -- a rule that goes by the builder's operation, with all else as it is
  abbrev Builds : (ℕ → Here → Out Here) → Out flat.Rows → Type 0
  Builds rule o =
      rule (length t) (pos_of p before)
      ≡ bind (flat.on_tree (pos_of p before).built o) (λ b. went (spec.with_built (flat.flat 0) (pos_of p before) b))

  -- the builder went on, and so does the routine
  pub built_told : {Q : Parser → Type 0} {r : Step} {x : shown.Built} {u : GreenNodeBuilder} (rule : ℕ → Here → Out Here) (o : Out flat.Rows)
      → r ≡ Ok (rebuilt p u) → x ≡ Ok u → o ≡ shown.out_of x v → Builds rule o → Q (rebuilt p u) → Told rule Q p before r after
  built_told {u = u} rule o e went_on is same q =
      let is' : o ≡ went (shown.rows_of u v) = rw went_on at is in
      rw e (record { is = same ∙ rw is'; gone = q })

  -- it was refused, and so is the routine
  pub built_refused : {Q : Parser → Type 0} {x : shown.Built} {e : Refused} (rule : ℕ → Here → Out Here) (o : Out flat.Rows)
      → x ≡ Err e → o ≡ shown.out_of x v → Builds rule o → Told rule Q p before (Err e) after
  built_refused {e = e} rule o stopped is same =
      let is' : o ≡ refused e.number e.place = rw stopped at is in
      record { is = same ∙ rw is'; gone = tt }

  pub on_the_way : {tables : Tables} (u : GreenNodeBuilder) → length v ≡ length t → drop (u.rows * tree_width) v ≡ drop (u.rows * tree_width) t
      → p.builder.rows ≤ u.rows → u.leaves ≡ p.builder.leaves
      → Passed tables 0 p before (rebuilt p u) after
  on_the_way u long rest more leaves = passing rest refl long refl (omega arith)

  pub begun : {tables : Tables} (u : GreenNodeBuilder) → length v ≡ length t → Steady tables p before → facts.Opens p.builder t u v
      → Begun tables p before (rebuilt p u) after
  begun u long s f =
      let rows = f.rows in
      let passed = on_the_way u long f.rest (omega arith) f.leaves in
      record {
        passed = passed;
        ready = record { steady = steady_more s passed refl s.fine s.token s.dropped f.fits; within = f.within };
        few = f.few;
        depth = f.depth;
        list = refl;
        lexer = refl;
      }

  pub ended : {tables : Tables} (u : GreenNodeBuilder) (frame : flat.Frame) → length v ≡ length t → Steady tables p before
      → facts.Closes p.builder t frame u v
      → Ended tables frame.first frame.node p before (rebuilt p u) after
  ended u frame long s f =
      let rows = f.rows in
      let passed = on_the_way u long f.rest (omega arith) f.leaves in
      record {
        passed = passed;
        steady = steady_more s passed refl s.fine s.token s.dropped f.fits;
        depth = f.depth;
        first-is = f.first;
        node_is = f.node;
        list = refl;
        lexer = refl;
      }

  pub leafed : (u : GreenNodeBuilder) → facts.Leafs p.builder t u v → Leafed p t (rebuilt p u) v
  leafed u f =
      record {
        rest = f.rest;
        fits = f.fits;
        rows = f.rows;
        leaves = f.leaves;
        depth = f.depth;
        first = f.first;
        node = f.node;
        lexer = refl;
        held = refl;
        list = refl;
        dropped = refl;
      }
