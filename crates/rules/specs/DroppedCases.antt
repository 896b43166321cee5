-- What is dropped in small formulas, by the run and by the demand's definition, as one table, and one theorem over it that antt computes.
use Rattle.std.specs.Prelude.{ℕ, ◌*◌, ◌≡◌, refl, List, [], ◌∷◌, ◌++◌, map, length, replicate, take}
use Rattle.std.specs.Prelude.{Option, None as none, Some as some}
use Rattle.rules.specs.Checks.{Tables, source_of}
use Rattle.rules.specs.Computed.{the_run}
use Rattle.rules.specs.Exactly
use Rattle.rules.specs.Limits
use Rattle.rules.specs.Notation.{Part, between, ◌of◌, ◌of◌shaped◌, text_of, tokens_of, fixed, fixed_environment, range, greedy, left1, DroppedRow, dropped_of}
use Rattle.rules.specs.Outcome.{Out, went, refused}
use Rattle.rules.specs.Position.{At, Source}
use Rattle.rules.specs.Reading.{parse}
use Rattle.rules.specs.Rowan
use Rattle.rules.specs.Rowan.{rowan}
use Rattle.rules.specs.Run.{Answer, accepted, refused_at, Ran, run}
use Rattle.rules.specs.Token.{LineBreak, Whitespace, LineComment, Word, Generic, BeginEnvironment, EndEnvironment, IfFalse, IfTypst, If, EndIf}
use Rattle.rules.specs.Tree
use Rattle.rules.specs.Tree.{Tree}

pub record Formula : Type 0 where
  pub formula : List Part
  pub shapes : List ℕ
  -- the dropped rows
  pub dropped : List DroppedRow

abbrev pub tables : Formula → Tables
tables f = record { text = text_of f.formula; tokens = tokens_of f.formula; shapes = f.shapes; states = [] }

-- the dropped rows that the run writes, if it is accepted
abbrev pub first_rows : Answer → List ℕ → Option (List ℕ)
first_rows (accepted rows count) buffer = some (take (count * Limits.dropped_width) buffer)
first_rows (refused_at number place) buffer = none

-- so many numbers the tree buffer has
abbrev pub room : ℕ
room = 1000

abbrev pub ran : Formula → Ran
ran f = run (tables f) (replicate room 7) (replicate (length (tokens_of f.formula)) 7)

abbrev pub written : Formula → Option (List ℕ)
written f = first_rows (ran f).answer (ran f).dropped

-- those that the definition reads off the run's one tree: `Exactly.dropped`, which the theorem names (`run-exactly`)
abbrev pub of_tree : Source → List Tree → Option (List ℕ)
of_tree source [] = none
of_tree source (tree ∷ []) = some (Exactly.dropped source tree)
of_tree source (tree ∷ another ∷ rest) = none

abbrev pub read_off : Source → Out (At (rowan room)) → Option (List ℕ)
read_off source (went p) = of_tree source p.built.children
read_off source (refused number place) = none

abbrev pub listed : Formula → Option (List ℕ)
listed f = read_off (source_of (tables f)) (parse (rowan room) (source_of (tables f)) Rowan.nothing)

abbrev pub formulas : List Formula
formulas =
    -- `\f 1 2`, `\f` fixed 2: both blanks stand before an argument
    record {
      formula = Generic of "\\f" shaped 1 ∷ Whitespace of " " ∷ Word of "1" ∷ Whitespace of " " ∷ Word of "2" ∷ [];
      shapes = fixed 2;
      dropped = (1, 1, 1) ∷ (3, 1, 2) ∷ [];
    }
    -- `\f 1 `: no argument follows the second blank, which stays a leaf
    ∷ record {
      formula = Generic of "\\f" shaped 1 ∷ Whitespace of " " ∷ Word of "1" ∷ Whitespace of " " ∷ [];
      shapes = fixed 2;
      dropped = (1, 1, 1) ∷ [];
    }
    -- `\f12 3`, `\f` fixed 3: a Word gives two arguments, and the third stands behind a blank
    ∷ record {
      formula = Generic of "\\f" shaped 1 ∷ Word of "12" ∷ Whitespace of " " ∷ Word of "3" ∷ [];
      shapes = fixed 3;
      dropped = (2, 1, 3) ∷ [];
    }
    -- `\f%c⏎ 1`: a comment, a break and a blank
    ∷ record {
      formula = Generic of "\\f" shaped 1 ∷ LineComment of "%c" ∷ LineBreak of "\n" ∷ Whitespace of " " ∷ Word of "1" ∷ [];
      shapes = fixed 1;
      dropped = (1, 1, 1) ∷ (2, 1, 1) ∷ (3, 1, 1) ∷ [];
    }
    -- `\f\g 1 2`, `\g` fixed 1: the first blank is \g's; the second \g passed and left behind its node, so \f does not drop it before the 2
    ∷ record {
      formula =
          Generic of "\\f" shaped 1 ∷ Generic of "\\g" shaped 2 ∷ Whitespace of " " ∷ Word of "1" ∷ Whitespace of " " ∷ Word of "2" ∷ [];
      shapes = fixed 2 ++ fixed 1;
      dropped = (2, 1, 2) ∷ [];
    }
    -- `\f 1\l`, `\l` left1: a wrap around \f and its argument, which passes nothing itself
    ∷ record {
      formula = Generic of "\\f" shaped 1 ∷ Whitespace of " " ∷ Word of "1" ∷ Generic of "\\l" shaped 2 ∷ [];
      shapes = fixed 1 ++ left1;
      dropped = (1, 1, 1) ∷ [];
    }
    -- `\r 1`, `\r` range 0: it passes the blank and accepts nothing, so the blank stays a leaf
    ∷ record {
      formula = Generic of "\\r" shaped 1 ∷ Whitespace of " " ∷ Word of "1" ∷ [];
      shapes = range 0;
      dropped = [];
    }
    -- `\d 1`, `\d` greedy: the blank stands in the argument
    ∷ record {
      formula = Generic of "\\d" shaped 1 ∷ Whitespace of " " ∷ Word of "1" ∷ [];
      shapes = greedy;
      dropped = [];
    }
    -- `\begin{m} x \end{m}`, `m` fixed 1: the second blank is left, and follows the \begin's node
    ∷ record {
      formula =
          between "\\begin{" ∷ BeginEnvironment of "m" shaped 1 ∷ between "}" ∷ Whitespace of " " ∷ Word of "x" ∷ Whitespace of " "
          ∷ between "\\end{" ∷ EndEnvironment of "m" ∷ between "}" ∷ [];
      shapes = fixed_environment 1;
      dropped = (1, 1, 1) ∷ [];
    }
    -- `\iffalse a\if b\fi c\fi d`: the inner \fi closes the \if
    ∷ record {
      formula =
          IfFalse of "\\iffalse" ∷ Whitespace of " " ∷ Word of "a" ∷ If of "\\if" ∷ Whitespace of " " ∷ Word of "b" ∷ EndIf of "\\fi"
          ∷ Whitespace of " " ∷ Word of "c" ∷ EndIf of "\\fi" ∷ Whitespace of " " ∷ Word of "d" ∷ [];
      shapes = [];
      dropped = (0, 2, 0) ∷ (9, 3, 8) ∷ [];
    }
    -- `\iftypst a`: no closer
    ∷ record {
      formula = IfTypst of "\\iftypst" ∷ Whitespace of " " ∷ Word of "a" ∷ [];
      shapes = [];
      dropped = (0, 2, 0) ∷ [];
    }
    -- `\iffalse\f 1\iffalse\fi\fi`: what stands inside a skipped body opens and closes none, and \f passes nothing there
    ∷ record {
      formula =
          IfFalse of "\\iffalse" ∷ Generic of "\\f" shaped 1 ∷ Whitespace of " " ∷ Word of "1" ∷ IfFalse of "\\iffalse"
          ∷ EndIf of "\\fi" ∷ EndIf of "\\fi" ∷ [];
      shapes = fixed 1;
      dropped = (0, 2, 0) ∷ (6, 3, 5) ∷ [];
    }
    -- `\f \iffalse\fi`: a body as an argument
    ∷ record {
      formula = Generic of "\\f" shaped 1 ∷ Whitespace of " " ∷ IfFalse of "\\iffalse" ∷ EndIf of "\\fi" ∷ [];
      shapes = fixed 1;
      dropped = (1, 1, 1) ∷ (2, 2, 1) ∷ (3, 3, 1) ∷ [];
    }
    -- `\if a\fi`: no body that is skipped
    ∷ record {
      formula = If of "\\if" ∷ Whitespace of " " ∷ Word of "a" ∷ EndIf of "\\fi" ∷ [];
      shapes = [];
      dropped = [];
    }
    ∷ []

-- both give these rows
abbrev pub wanted : Formula → Option (List ℕ)
wanted f = some (dropped_of f.dropped)

pub examples : map (λ (f : Formula). written f ∷ listed f ∷ []) formulas ≡ map (λ (f : Formula). wanted f ∷ wanted f ∷ []) formulas
unfolding the_run Tree.leaves_in Tree.leaves_all Rowan.leafed Rowan.token Rowan.pushed Rowan.start_node Rowan.start_node_at Rowan.closed Rowan.finish_node Exactly.greedy_name Exactly.passes Exactly.is_blank Exactly.opens_if Exactly.blanks_from Exactly.is_body Exactly.closing Exactly.dropped_in Exactly.dropped_all Exactly.dropped_passing
examples = refl
