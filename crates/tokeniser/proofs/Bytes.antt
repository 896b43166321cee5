-- Classes of bytes by their digits: what is tested of all bytes under 128 holds of each; and one more byte of a run, or its end. Assumes nothing.
use Prim.Native.Nat.{ℕ, suc, ◌+◌, ◌≤◌, ◌<◌}
use mathlib.Core.Path.{◌≡◌, sym, ap, ◌∙◌}
use mathlib.Core.Bool.{Bool, true, false}
use mathlib.Core.List.{List}
use native.Mathlib.Omega.{arith}
use lib.ListN.{length, get_or, drop, drop_of_length-le}
use lib.Seq.{drop-cons}
use Rattle.rules.specs.Patterns.{Class, run}
use Rattle.rules.proofs.Table.{table, at}
use Rattle.tokeniser.specs.Bytes.{digit, Tells}
use Rattle.tokeniser.specs.declared.class.Bits.{Bits}

pub by_test : (of : Class) (bits : Bits) → table 128 (digit bits) ≡ table 128 of → Tells of bits
by_test of bits test =
    record {
      byte =
          λ b small. sym (at 128 (digit bits) false b small) ∙ ap (λ (l : List Bool). get_or l b false) test ∙ at 128 of false b small;
    }

module _ (of : Class) (text : List ℕ) (at : ℕ) where
  pub goes_on : at < length text → of (get_or text at 0) ≡ true → run of (drop at text) ≡ suc (run of (drop (at + 1) text))
  unfolding run
  goes_on there is =
      let next : at + 1 ≡ suc at = omega arith in
      rw (drop-cons text at 0 there, is, next)

  pub ends : at < length text → of (get_or text at 0) ≡ false → run of (drop at text) ≡ 0
  unfolding run
  ends there is = rw (drop-cons text at 0 there, is)

  pub no_more : length text ≤ at → run of (drop at text) ≡ 0
  unfolding run
  no_more past = rw (drop_of_length-le text past)

-- what proves the goals of `run_end`
pub ruleset runs = (goes_on, ends, no_more)
