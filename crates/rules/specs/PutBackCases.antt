-- The formulas of `Cases`, put back: one theorem over that table that antt computes. Among them `\f 1 ^c`, of which a blank is dropped before its
-- argument, and `\iffalse a\if b\fi c\fi d`, of which the opener and the closer are.
use Rattle.std.specs.Prelude.{◌≡◌, refl, List, [], ◌∷◌, map, replicate, ℕ}
use Rattle.rules.specs.Cases.{Case, Expected, gives, refuses, tables_of, ran, cases}
use Rattle.rules.specs.Checks.{Tables}
use Rattle.rules.specs.Computed.{the_run}
use Rattle.rules.specs.Notation.{bytes, fixed}
use Rattle.rules.specs.PutBack.{tree_rows, dropped_rows, stored, put_back, token_texts}
use Rattle.rules.specs.Run.{Answer, accepted, refused_at, Ran, run}
use Rattle.rules.specs.Token

-- what putting back gives of a run that was accepted; of another nothing
abbrev pub back_of : Tables → Ran → Answer → List ℕ
back_of t r (accepted rows drops) = put_back (stored t.text t.tokens (tree_rows rows r.tree) (dropped_rows drops r.dropped))
back_of t r (refused_at number place) = []

abbrev pub wanted_back : Tables → Expected → List ℕ
wanted_back t (gives rows tree tokens dropped) = token_texts t.text t.tokens
wanted_back t (refuses number place) = []

pub examples : map (λ (c : Case). back_of (tables_of c) (ran c) (ran c).answer) cases ≡ map (λ (c : Case). wanted_back (tables_of c) c.expected) cases
unfolding the_run
examples = refl

-- tokens that overlap and go backwards, in the text `a b`: a command over all of it that takes one argument, the blank, and a Word over all of it
abbrev pub overlapping : Tables
overlapping =
    record {
      text = bytes "a b";
      tokens = Token.Generic ∷ 0 ∷ 3 ∷ 1 ∷ Token.Whitespace ∷ 1 ∷ 1 ∷ 0 ∷ Token.Word ∷ 0 ∷ 3 ∷ 0 ∷ [];
      shapes = fixed 1;
      states = [];
    }

abbrev pub overlapping_ran : Ran
overlapping_ran = run overlapping (replicate 100 7) (replicate 9 7)

-- Root[Cmd[`a b` Arg[`a`]] Text[` b`]], with the blank dropped behind one leaf: `a b`, the blank, `a`, ` b`
overlaps :
    ◌≡◌ {A = Answer × List ℕ}
    (overlapping_ran.answer, back_of overlapping overlapping_ran overlapping_ran.answer)
    (accepted 11 1, bytes "a b a b")
unfolding the_run
overlaps = refl
