-- The run, case by case: refused by a check, accepted, refused while reading. Rows, and behind them what a buffer held, are the whole buffer. The
-- premises of each law are what the calls of `whole::run` give, so that its proof names the law alone. Assumes nothing.
use Rattle.std.specs.Prelude.{Result, Ok, Err}
use mathlib.Core.Path.{◌≡◌, ap, ◌∙◌}
use mathlib.Core.List.{List}
use Prim.Native.Nat.{ℕ, ◌*◌, ◌/◌, ◌≤◌}
use native.Mathlib.Omega.{arith}
use lib.ListN.{length, take, drop, replicate, take-append-drop}
use lib.Seq.{length-take-le}
use Rattle.rules.specs.Checks.{Tables, checks}
use Rattle.rules.specs.Limits.{tree_width, dropped_width}
use Rattle.rules.specs.Run.{over, after_reading, run}
use Rattle.checks.specs.Checked.{checked_of}
use Rattle.checks.proofs.Answers.{fine, sound}
use Rattle.state.specs.Stands.{Step, out_of}
use Rattle.state.specs.declared.Parser.{Parser}
use Rattle.parser.specs.Member.{buffers}
use Rattle.parser.specs.Root.{Readable, Written, Parsed}
use Rattle.listings.specs.Stands.{ran_of}
use Rattle.syntax.specs.declared.refusal.Refused.{Refused}

-- the first numbers of a buffer, with what stood behind them before, are the buffer
over-is : (n : ℕ) (before after : List ℕ) → n ≤ length after → drop n after ≡ drop n before → over (take n after) before ≡ after
over-is n before after h rest = rw (length-take-le n after h, ← rest) (take-append-drop n after)

count_is : (n : ℕ) (after : List ℕ) → n * dropped_width ≤ length after → length (take (n * dropped_width) after) / dropped_width ≡ n
count_is n after h = rw (length-take-le (n * dropped_width) after h) (omega arith)

module _ (t : Tables) (tree dropped : List ℕ) where
  module _ {c : Result Unit Refused} (e : checks t (length dropped) ≡ checked_of c) where
    -- 1 to 4
    pub refused-before : {e : Refused} → c ≡ Err e → run t tree dropped ≡ ran_of (Err e) tree dropped
    unfolding run
    refused-before is = rw (e ∙ ap checked_of is)

    -- tables that are not refused can be read
    pub readable : {u : Unit} → c ≡ Ok u → Readable t dropped
    readable is =
        let a = fine t (length dropped) e is in
        record { good = record { sound = sound a; few = a.limits.tokens.few; shaped = λ i h. (a.token i h).shaped }; room = a.room }

    -- of what is read there is an outcome, and both buffers after it
    module _ {r : Step} {v w : List ℕ} {u : Unit} (is : c ≡ Ok u) (parsed : Parsed t (buffers tree dropped) r (buffers v w)) where
      reads : run t tree dropped ≡ after_reading tree dropped (out_of r (buffers v w))
      unfolding run
      reads = rw (e ∙ ap checked_of is, parsed.is)

      pub accepted : {q : Parser} → r ≡ Ok q → run t tree dropped ≡ ran_of (Ok (record { rows = q.builder.rows; dropped = q.dropped })) v w
      accepted {q} went =
          let written : Written (buffers tree dropped) (buffers v w) q = rw went at parsed.gone in
          let tree_is = over-is (q.builder.rows * tree_width) tree v written.rows written.tree_rest in
          let dropped-is = over-is (q.dropped * dropped_width) dropped w written.dropped written.dropped-rest in
          reads ∙ rw (went, count_is q.dropped w written.dropped, tree_is, dropped-is)

      -- 5 to 8
      pub refused-while : {e : Refused} {x y : List ℕ} → r ≡ Err e → length v ≡ length tree → length w ≡ length dropped
          → x ≡ replicate (length v) 0
          → y ≡ replicate (length w) 0
          → run t tree dropped ≡ ran_of (Err e) x y
      refused-while stopped tree_long dropped-long zeros zeros' = reads ∙ rw (stopped, zeros, zeros', tree_long, dropped-long)
