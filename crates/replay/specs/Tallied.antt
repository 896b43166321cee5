-- What is counted of the replays.
use Rattle.std.specs.Prelude.{ℕ, ◌+◌, ◌≤◌, Bool, cond, not, ◌&&◌}
use Rattle.replay.specs.declared.case.Replayed.{Replayed}
use Rattle.replay.specs.declared.tally.Tally.{Tally}

abbrev pub most_cases : ℕ
most_cases = 1000000

abbrev pub one_if : Bool → ℕ
one_if is = cond is 1 0

-- a case was accepted, and its texts don't return
abbrev pub is_lost : Replayed → Bool
is_lost r = r.accepted && not r.returns

-- one case more
abbrev pub tallied : Tally → Replayed → Tally
tallied t r =
    record {
      cases = t.cases + 1;
      differences = t.differences + one_if (not r.agrees);
      accepted = t.accepted + one_if r.accepted;
      lost = t.lost + one_if (is_lost r);
    }

-- no count passes that of the cases
pub record Tallies (t : Tally) : Type 0 where
  pub few : t.cases ≤ most_cases
  pub differences : t.differences ≤ t.cases
  pub accepted : t.accepted ≤ t.cases
  pub lost : t.lost ≤ t.cases
