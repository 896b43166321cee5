-- Marks that are made here, and what last is behind an item. Assumes nothing.
use mathlib.Core.Path.{◌≡◌, refl}
use mathlib.Core.Bool.{Bool, true, false}
use mathlib.Core.Logic.{inl, inr}
use Prim.Native.Nat.{ℕ, ◌<◌}
use borrow.Author.Tests.{ne_eqb}
use lib.Dec.{eqb}
use native.Mathlib.Omega.{arith}
use Rattle.rules.specs.Checks.{Tables, shape_of}
use Rattle.rules.specs.Items.{attachable}
use Rattle.rules.specs.Tables.{kind_at}
use Rattle.items.specs.Items.{shape_for}
use Rattle.items.specs.declared.shape.Shape.{Shape}
use Rattle.state.specs.Change.{remarked}
use Rattle.state.specs.Contract.{MarkOk, Ready}
use Rattle.state.specs.Stands.{Buffers}
use Rattle.state.specs.declared.KeptMark.{KeptMark}
use Rattle.state.specs.declared.Parser.{Parser}
use Rattle.parser.specs.Member.{LastAfter, mark_here}

-- a mark that is made here
pub mark_here_lem : {t : Tables} {p : Parser} {m : Buffers} → Ready t p m → MarkOk (mark_here p) p.builder
mark_here_lem ready = let children = ready.steady.fits.children in record { children = omega arith; row = omega arith }

-- it is one where a row was written before it, so where a node is open
there : (p : Parser) → 0 < p.builder.rows → eqb (mark_here p).row 0 ≡ false
there p written = ne_eqb p.builder.rows 0 (λ e. omega arith)

pub is_mark : {t : Tables} {p : Parser} {m : Buffers} → Ready t p m → eqb (mark_here p).row 0 ≡ false
is_mark {p = p} ready = let node = ready.within.node in there p (omega arith)

-- attachable, asked of a kind and the code's shape
abbrev pub attached : ℕ → Shape → Bool
attached kind shape = attachable kind (shape_for shape)

module _ (t : Tables) {shape : Shape} (p q : Parser) (shape_is : shape_for shape ≡ shape_of t p.lexer.token) where
  -- the rule's question has the code's answer
  asks : (b : Bool) → attached (kind_at t.tokens p.lexer.token) shape ≡ b → attachable (kind_at t.tokens p.lexer.token) (shape_of t p.lexer.token) ≡ b
  asks b e = rw (← shape_is) e

  pub last_moved : {mark : KeptMark} {r : Parser} → attached (kind_at t.tokens p.lexer.token) shape ≡ true → 0 < p.builder.rows
      → mark ≡ mark_here p → r ≡ remarked q q.list.start mark → LastAfter t p q r
  last_moved said written mark-is r-is =
      rw (r-is, mark-is) (record { is = λ n m v. rw (asks true said, there p written); last = inr refl; same = refl })

  pub last_kept : attached (kind_at t.tokens p.lexer.token) shape ≡ false → LastAfter t p q q
  last_kept said = record { is = λ n m v. rw (asks false said); last = inl refl; same = refl }
