-- The formulas that 01 marks to be proved, as one table, and one theorem over it that antt computes.
use Rattle.std.specs.Prelude.{ℕ, ◌-◌, ◌≡◌, refl, List, [], ◌∷◌, ◌++◌, map, length, replicate}
use Prim.Native.String.{String}
use Rattle.rules.specs.Checks.{Tables}
use Rattle.rules.specs.Computed.{the_run}
use Rattle.rules.specs.Notation.{Part, between, ◌of◌, ◌of◌shaped◌, text_of, tokens_of, numbers, fixed, range, greedy, glob, infix_greedy, DroppedRow, dropped_of, Shown, nothing, ◌&◌, gone, rows_of, Root, Attach, Arg, Cmd, Curly, Bracket, Env, Begin, End, BlockComment, LR, ClauseLR, Error, Text, word, name, symbol, blank, new_line, underscore, caret, apostrophe, lbrace, rbrace, lbracket, rbracket, ampersand}
use Rattle.rules.specs.Run.{Answer, accepted, refused_at, Ran, run}
use Rattle.rules.specs.Token.{Whitespace, LeftCurly, RightCurly, LeftBracket, RightBracket, Ampersand, Apostrophe, Underscore, Caret, Word, NewLine, Generic, BeginEnvironment, EndEnvironment, IfFalse, If, EndIf, Left}

-- what a formula is expected to give: how many rows, the tree, the fifth numbers in row order and the dropped rows; or a refusal's number and place
pub data Expected : Type 0 where
  gives : ℕ → Shown → String → List DroppedRow → Expected
  refuses : ℕ → ℕ → Expected

pub record Case : Type 0 where
  pub formula : List Part
  pub shapes : List ℕ
  pub states : List ℕ
  -- how many numbers the tree buffer has
  pub room : ℕ
  pub expected : Expected

-- an outcome: both row counts or the refusal, and both buffers whole
pub data Outcome : Type 0 where
  wrote : ℕ → ℕ → List ℕ → List ℕ → Outcome
  refused : ℕ → ℕ → List ℕ → List ℕ → Outcome

abbrev pub outcome_of : Answer → List ℕ → List ℕ → Outcome
outcome_of (accepted rows dropped) tree notes = wrote rows dropped tree notes
outcome_of (refused_at number place) tree notes = refused number place tree notes

abbrev pub tables_of : Case → Tables
tables_of c = record { text = text_of c.formula; tokens = tokens_of c.formula; shapes = c.shapes; states = c.states }

-- the buffers hold a 7 everywhere before the run, so that what is left can be told from what stood there
abbrev pub dropped_room : Case → ℕ
dropped_room c = length (tokens_of c.formula)

abbrev pub ran : Case → Ran
ran c = run (tables_of c) (replicate c.room 7) (replicate (dropped_room c) 7)

abbrev pub found : Case → Outcome
found c = outcome_of (ran c).answer (ran c).tree (ran c).dropped

-- "later elements keep what they held"
abbrev pub filled : List ℕ → ℕ → List ℕ
filled rows size = rows ++ replicate (size - length rows) 7

abbrev pub wanted : Case → Expected → Outcome
wanted c (gives rows tree tokens dropped) =
    wrote rows (length dropped) (filled (rows_of tree (numbers tokens)) c.room) (filled (dropped_of dropped) (dropped_room c))
wanted c (refuses number place) = refused number place (replicate c.room 0) (replicate (dropped_room c) 0)

abbrev pub cases : List Case
cases =
    -- nothing: root, 2 rows
    record {
      formula = [];
      shapes = [];
      states = [];
      room = 1000;
      expected = gives 2 (Root nothing) "0 0" [];
    }
    -- `'`: a plain leaf
    ∷ record {
      formula = Apostrophe of "'" ∷ [];
      shapes = [];
      states = [];
      room = 1000;
      expected = gives 3 (Root apostrophe) "0 0 1" [];
    }
    -- `a_b` with 54 numbers of room (01: 43): refused 8 at 3
    ∷ record {
      formula = Word of "a" ∷ Underscore of "_" ∷ Word of "b" ∷ [];
      shapes = [];
      states = [];
      room = 54;
      expected = refuses 8 3;
    }
    -- with 55 (01: 44) accepted: Root[Attach[Arg[Text a] _ b]], 11 rows
    ∷ record {
      formula = Word of "a" ∷ Underscore of "_" ∷ Word of "b" ∷ [];
      shapes = [];
      states = [];
      room = 55;
      expected = gives 11 (Root (Attach (Arg (Text "a") & underscore & word "b"))) "0 1 1 0 0 1 1 1 2 3 3" [];
    }
    -- `a_^b`: Root[Attach[Attach[Arg[Arg[Text a] _] ^ b]]], 16 rows
    ∷ record {
      formula = Word of "a" ∷ Underscore of "_" ∷ Caret of "^" ∷ Word of "b" ∷ [];
      shapes = [];
      states = [];
      room = 1000;
      expected = gives 16 (Root (Attach (Attach (Arg (Arg (Text "a") & underscore) & caret & word "b")))) "0 1 2 2 1 0 0 1 1 1 2 2 3 4 4 4" [];
    }
    -- `{a_}`: Root[Curly[{ Attach[Arg[Text a] _ Error[}]]]]
    ∷ record {
      formula = LeftCurly of "{" ∷ Word of "a" ∷ Underscore of "_" ∷ RightCurly of "}" ∷ [];
      shapes = [];
      states = [];
      room = 1000;
      expected = gives 16 (Root (Curly (lbrace & Attach (Arg (Text "a") & underscore & Error rbrace)))) "0 0 0 2 2 1 1 2 2 2 3 3 4 4 4 4" [];
    }
    -- `a_\f12^c`, `\f` fixed 2: the second Attach has no Arg
    ∷ record {
      formula = Word of "a" ∷ Underscore of "_" ∷ Generic of "\\f" shaped 1 ∷ Word of "12" ∷ Caret of "^" ∷ Word of "c" ∷ [];
      shapes = fixed 2;
      states = [];
      room = 1000;
      expected =
          gives 23
          (Root (Attach (Arg (Text "a") & underscore & Cmd (name "\\f" & Arg (word "1") & Arg (word "2"))) & Attach (caret & word "c")))
          "0 1 1 0 0 1 1 1 2 2 3 3 3 3 3 4 4 4 4 4 5 6 6"
          [];
    }
    -- `a_\z^c`, `\z` without shape: it has one, around the first Attach
    ∷ record {
      formula = Word of "a" ∷ Underscore of "_" ∷ Generic of "\\z" ∷ Caret of "^" ∷ Word of "c" ∷ [];
      shapes = [];
      states = [];
      room = 1000;
      expected =
          gives 19
          (Root (Attach (Arg (Attach (Arg (Text "a") & underscore & Cmd (name "\\z"))) & caret & word "c")))
          "0 3 3 1 1 0 0 1 1 1 2 2 3 3 3 3 4 5 5"
          [];
    }
    -- `{x}{a}_\o b`, `\o` infix-greedy: refused 6 at 7
    ∷ record {
      formula =
          LeftCurly of "{" ∷ Word of "x" ∷ RightCurly of "}" ∷ LeftCurly of "{" ∷ Word of "a" ∷ RightCurly of "}"
          ∷ Underscore of "_" ∷ Generic of "\\o" shaped 1 ∷ Whitespace of " " ∷ Word of "b" ∷ [];
      shapes = infix_greedy;
      states = [];
      room = 1000;
      expected = refuses 6 7;
    }
    -- `{a}_\o b` is accepted
    ∷ record {
      formula =
          LeftCurly of "{" ∷ Word of "a" ∷ RightCurly of "}"
          ∷ Underscore of "_" ∷ Generic of "\\o" shaped 1 ∷ Whitespace of " " ∷ Word of "b" ∷ [];
      shapes = infix_greedy;
      states = [];
      room = 1000;
      expected =
          gives 25
          (Root (Attach (Cmd (Arg (Arg (Curly (lbrace & Text "a" & rbrace)) & underscore) & name "\\o" & Arg (blank & Text "b")))))
          "0 3 4 4 3 0 0 1 1 2 2 3 3 3 4 4 5 5 6 6 7 7 7 7 7"
          [];
    }
    -- `\d 1\\2`, `\d` greedy: one argument to the end
    ∷ record {
      formula = Generic of "\\d" shaped 1 ∷ Whitespace of " " ∷ Word of "1" ∷ NewLine of "\\\\" ∷ Word of "2" ∷ [];
      shapes = greedy;
      states = [];
      room = 1000;
      expected = gives 15 (Root (Cmd (name "\\d" & Arg (blank & Text "1" & new_line & Text "2")))) "0 0 0 1 1 2 2 3 3 4 4 5 5 5 5" [];
    }
    -- inside an environment it stops before `\\`
    ∷ record {
      formula =
          between "\\begin{" ∷ BeginEnvironment of "m" ∷ between "}"
          ∷ Generic of "\\d" shaped 1 ∷ Whitespace of " " ∷ Word of "1" ∷ NewLine of "\\\\" ∷ Word of "2"
          ∷ between "\\end{" ∷ EndEnvironment of "m" ∷ between "}" ∷ [];
      shapes = greedy;
      states = [];
      room = 1000;
      expected =
          gives 23
          (Root (Env
          (gone "\\begin{" & Begin (symbol "m") & gone "}"
          & Cmd (name "\\d" & Arg (blank & Text "1")) & new_line & Text "2"
          & gone "\\end{" & End (symbol "m"))))
          "0 0 0 0 1 1 1 2 2 3 3 4 4 4 4 5 5 6 6 6 7 7 7"
          [];
    }
    -- `\iffalse a\if b\fi c\fi d`: dropped (0,2,0), (9,3,8)
    ∷ record {
      formula =
          IfFalse of "\\iffalse" ∷ Whitespace of " " ∷ Word of "a" ∷ If of "\\if" ∷ Whitespace of " " ∷ Word of "b" ∷ EndIf of "\\fi"
          ∷ Whitespace of " " ∷ Word of "c" ∷ EndIf of "\\fi" ∷ Whitespace of " " ∷ Word of "d" ∷ [];
      shapes = [];
      states = [];
      room = 1000;
      expected =
          gives 16
          (Root
          (gone "\\iffalse" & BlockComment (blank & word "a" & name "\\if" & blank & word "b" & name "\\fi" & blank & word "c") & gone "\\fi"
          & blank & Text "d"))
          "0 0 1 2 3 4 5 6 7 8 10 10 11 11 12 12"
          ((0, 2, 0) ∷ (9, 3, 8) ∷ []);
    }
    -- `\iffalse a`: accepted, one dropped
    ∷ record {
      formula = IfFalse of "\\iffalse" ∷ Whitespace of " " ∷ Word of "a" ∷ [];
      shapes = [];
      states = [];
      room = 1000;
      expected = gives 6 (Root (gone "\\iffalse" & BlockComment (blank & word "a"))) "0 0 1 2 3 3" ((0, 2, 0) ∷ []);
    }
    -- `\s[3]{a}`, `\s` glob with states (2,3,0), (0,0,0), (2,0,0): Cmd[\s Arg[Bracket] Arg[Curly]]
    ∷ record {
      formula =
          Generic of "\\s" shaped 1 ∷ LeftBracket of "[" ∷ Word of "3" ∷ RightBracket of "]"
          ∷ LeftCurly of "{" ∷ Word of "a" ∷ RightCurly of "}" ∷ [];
      shapes = glob 1;
      states = 2 ∷ 3 ∷ 0 ∷ 0 ∷ 0 ∷ 0 ∷ 2 ∷ 0 ∷ 0 ∷ [];
      room = 1000;
      expected =
          gives 23
          (Root (Cmd (name "\\s" & Arg (Bracket (lbracket & Text "3" & rbracket)) & Arg (Curly (lbrace & Text "a" & rbrace)))))
          "0 0 0 1 1 1 2 2 3 3 4 4 4 4 4 5 5 6 6 7 7 7 7"
          [];
    }
    -- with fixed 1, `[` alone is the argument
    ∷ record {
      formula =
          Generic of "\\s" shaped 1 ∷ LeftBracket of "[" ∷ Word of "3" ∷ RightBracket of "]"
          ∷ LeftCurly of "{" ∷ Word of "a" ∷ RightCurly of "}" ∷ [];
      shapes = fixed 1;
      states = [];
      room = 1000;
      expected =
          gives 19
          (Root (Cmd (name "\\s" & Arg lbracket) & Text "3" & rbracket & Curly (lbrace & Text "a" & rbrace)))
          "0 0 0 1 1 2 2 2 2 3 3 4 4 5 5 6 6 7 7"
          [];
    }
    -- 01's formulas end here. The rest are answers of the Rust, with places and room as oracle/ counts them, that tell slips which those leave untold

    -- `a_\r^c`, `\r` range 0: "Treating range 0 as no shape: after a script, last differs." The second Attach has no Arg
    ∷ record {
      formula = Word of "a" ∷ Underscore of "_" ∷ Generic of "\\r" shaped 1 ∷ Caret of "^" ∷ Word of "c" ∷ [];
      shapes = range 0;
      states = [];
      room = 1000;
      expected =
          gives 17
          (Root (Attach (Arg (Text "a") & underscore & Cmd (name "\\r")) & Attach (caret & word "c")))
          "0 1 1 0 0 1 1 1 2 2 3 3 3 3 4 5 5"
          [];
    }
    -- `\f 1 ^c`, `\f` fixed 2: the accepted argument drops the first blank, dropped (1,1,1); the second is left, and follows the command's node
    ∷ record {
      formula = Generic of "\\f" shaped 1 ∷ Whitespace of " " ∷ Word of "1" ∷ Whitespace of " " ∷ Caret of "^" ∷ Word of "c" ∷ [];
      shapes = fixed 2;
      states = [];
      room = 1000;
      expected =
          gives 15
          (Root (Attach (Arg (Cmd (name "\\f" & gone " " & Arg (word "1")) & blank) & caret & word "c")))
          "0 4 4 0 0 2 2 3 4 3 4 4 5 6 6"
          ((1, 1, 1) ∷ []);
    }
    -- `\left ab`: the delimiter is the `a`; "what is left of the word is handed on", and is the text inside
    ∷ record {
      formula = Left of "\\left" ∷ Whitespace of " " ∷ Word of "ab" ∷ [];
      shapes = [];
      states = [];
      room = 1000;
      expected = gives 12 (Root (LR (ClauseLR (name "\\left" & blank & word "a") & Text "b"))) "0 0 0 0 1 2 2 2 2 3 3 3" [];
    }
    -- `\f xy` with room for 7 rows: the leaf of `y` is the row too many. "A token is read once its last leaf is written", so it is refused 8 at 2
    ∷ record {
      formula = Generic of "\\f" shaped 1 ∷ Whitespace of " " ∷ Word of "xy" ∷ [];
      shapes = fixed 2;
      states = [];
      room = 35;
      expected = refuses 8 2;
    }
    -- with room for 8: the argument's finish is, and the Word is read. Refused 8 at 3
    ∷ record {
      formula = Generic of "\\f" shaped 1 ∷ Whitespace of " " ∷ Word of "xy" ∷ [];
      shapes = fixed 2;
      states = [];
      room = 40;
      expected = refuses 8 3;
    }
    -- The three that follow show fifth numbers: 02's #101 as it is read here.
    -- `x\o y`, `\o` infix-greedy: both starts of the wrap and its inner finish are made at the `\o`, token 1
    ∷ record {
      formula = Word of "x" ∷ Generic of "\\o" shaped 1 ∷ Whitespace of " " ∷ Word of "y" ∷ [];
      shapes = infix_greedy;
      states = [];
      room = 1000;
      expected = gives 16 (Root (Cmd (Arg (Text "x") & name "\\o" & Arg (blank & Text "y")))) "0 1 1 0 0 1 1 1 2 2 3 3 4 4 4 4" [];
    }
    -- `\f xy`, `\f` fixed 2: the Word is read once its last character is a leaf
    ∷ record {
      formula = Generic of "\\f" shaped 1 ∷ Whitespace of " " ∷ Word of "xy" ∷ [];
      shapes = fixed 2;
      states = [];
      room = 1000;
      expected = gives 11 (Root (Cmd (name "\\f" & gone " " & Arg (word "x") & Arg (word "y")))) "0 0 0 2 2 2 2 2 3 3 3" ((1, 1, 1) ∷ []);
    }
    -- `\f x &`: the command ends at the `&`, token 4, behind the blank that it passed and left; the blank's leaf has its own token, 3
    ∷ record {
      formula = Generic of "\\f" shaped 1 ∷ Whitespace of " " ∷ Word of "x" ∷ Whitespace of " " ∷ Ampersand of "&" ∷ [];
      shapes = fixed 2;
      states = [];
      room = 1000;
      expected = gives 10 (Root (Cmd (name "\\f" & gone " " & Arg (word "x")) & blank & ampersand)) "0 0 0 2 2 3 4 3 4 5" ((1, 1, 1) ∷ []);
    }
    ∷ []

pub examples : map found cases ≡ map (λ (c : Case). wanted c c.expected) cases
unfolding the_run
examples = refl
