-- Marks as the code hands them on, and as the state keeps them: both stand for the same mark of the rules, by whether the kept row is 0.
-- Assumes nothing.
use Rattle.std.specs.Prelude.{Option, None as none, Some as some}
use Rattle.std.specs.Option.{option_or}
use mathlib.Core.Path.{◌≡◌, refl, sym, ap₂, ◌∙◌}
use mathlib.Core.Bool.{Bool, true, false, cond}
use Prim.Native.Nat.{ℕ}
use native.Mathlib.Omega.{arith}
use lib.Dec.{eqb}
use Rattle.rules.specs.Flat.{flat}
use Rattle.rules.specs.Position.{Source}
use Rattle.rules.specs.Routines.{or_else}
use Rattle.builder.specs.declared.GreenNodeBuilder.{GreenNodeBuilder}
use Rattle.state.specs.Contract.{MarkOk}
use Rattle.state.specs.Stands.{option_of, no_mark, kept_of, checkpoint_of, mark_in, mark_of}
use Rattle.state.specs.declared.KeptMark.{KeptMark}
use Rattle.builder.specs.declared.Checkpoint.{Checkpoint}

-- no mark is good everywhere
pub no_mark_lem : (b : GreenNodeBuilder) → MarkOk no_mark b
no_mark_lem b = record { children = omega arith; row = omega arith }

-- a mark that is taken out of the state is the rule's
pub taken_is : (k : KeptMark) → option_of (mark_in k) ≡ mark_of k
taken_is k = by_row (eqb k.row 0)
  where
    by_row : (no : Bool) → option_of (cond no none (some (checkpoint_of k))) ≡ cond no (option_of none) (option_of (some (checkpoint_of k)))
    by_row true = refl
    by_row false = refl

-- and it stays that where it is put back
pub kept_again : (k : KeptMark) → mark_of (kept_of (mark_in k)) ≡ mark_of k
kept_again k = by_row (eqb k.row 0) refl
  where
    by_row : (no : Bool) → eqb k.row 0 ≡ no → mark_of (kept_of (mark_in k)) ≡ mark_of k
    by_row true e = rw e refl
    by_row false e = rw e (rw e refl)

pub taken_ok : (k : KeptMark) (b : GreenNodeBuilder) → MarkOk k b → MarkOk (kept_of (mark_in k)) b
taken_ok k b ok = by_row (eqb k.row 0)
  where
    by_row : (no : Bool) → MarkOk (kept_of (cond no none (some (checkpoint_of k)))) b
    by_row true = no_mark_lem b
    by_row false = ok

-- "from last, else start": the code's choice of two is the rule's
or_is : (s : Source) (n : ℕ) (a b : Option Checkpoint) → or_else (flat n) s (option_of a) (option_of b) ≡ option_of (option_or a b)
or_is s n none b = refl
or_is s n (some checkpoint) b = refl

pub left1-is : (s : Source) (n : ℕ) (last start : KeptMark)
    → or_else (flat n) s (mark_of last) (mark_of start) ≡ option_of (option_or (mark_in last) (mark_in start))
left1-is s n last start = ap₂ (or_else (flat n) s) (sym (taken_is last)) (sym (taken_is start)) ∙ or_is s n (mark_in last) (mark_in start)

pub or_ok : (a b : Option Checkpoint) (x : GreenNodeBuilder) → MarkOk (kept_of a) x → MarkOk (kept_of b) x → MarkOk (kept_of (option_or a b)) x
or_ok none b x first second = second
or_ok (some checkpoint) b x first second = first
