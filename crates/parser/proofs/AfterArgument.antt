-- What an argument leaves, told by its rule: its last step holds nothing, and of a Word exactly a character is passed. Assumes nothing.
use Rattle.std.specs.Prelude.{Ok}
use mathlib.Core.Path.{◌≡◌, refl, ap, ◌∙◌}
use mathlib.Core.Bool.{Bool}
use mathlib.Core.List.{List, [], ◌∷◌}
use Prim.Native.Nat.{ℕ}
use native.Mathlib.Omega.{arith}
use lib.ListN.{length}
use Rattle.rules.specs.Builder.{Leaf}
use Rattle.rules.specs.Characters.{char_length}
use Rattle.rules.specs.Checks.{Tables, source_of}
use Rattle.rules.specs.Cursor.{Cursor, peek_text, rest_start, consumed}
use Rattle.rules.specs.Flat.{Built, Frame, flat}
use Rattle.rules.specs.Items.{Piece, character}
use Rattle.rules.specs.Limits.{nodes}
use Rattle.rules.specs.Outcome.{Out, went, refused, bind}
use Rattle.rules.specs.Position as position
use Rattle.rules.specs.Position.{Rule, Source, steps, building}
use Rattle.rules.specs.Reading as spec
use Rattle.rules.specs.Routines.{argument_begins, argument_ends, argument_node, ignore_holding_trivia, single_char}
use Rattle.rules.specs.SyntaxKind.{ClauseArgument, TokenWord}
use Rattle.lexer.specs.Reading.{cursor_of}
use Rattle.state.specs.Stands.{Step, Buffers, Here, pos_of, out_of}
use Rattle.state.specs.Contract.{Ready, Holding, Runs}
use Rattle.state.specs.declared.Parser.{Parser}
use Rattle.parser.specs.Member.{inner_at}

-- ---- where an outcome goes to

abbrev Always : (Here → Type 0) → Out Here → Type 0
Always P (went q) = P q
Always P (refused number place) = Unit {0}

-- a step, and then the others
then_steps : (P Q : Here → Type 0) (f : Here → Out Here) (rest : List (Here → Out Here)) (q : Here)
    → Always P (f q) → ((y : Here) → P y → Always Q (steps rest y)) → Always Q (steps (f ∷ rest) q)
unfolding steps
then_steps P Q f rest q h k = on (f q) h
  where
    on : (o : Out Here) → Always P o → Always Q (bind o (steps rest))
    on (went y) h = k y h
    on (refused number place) h = tt

-- whatever the step left
last_steps : (Q : Here → Type 0) (f : Here → Out Here) (rest : List (Here → Out Here)) (q : Here)
    → ((y : Here) → Always Q (steps rest y)) → Always Q (steps (f ∷ rest) q)
last_steps Q f rest q k = then_steps (λ y. Unit {0}) Q f rest q (any (f q)) (λ y h. k y)
  where
    any : (o : Out Here) → Always (λ y. Unit {0}) o
    any (went y) = tt
    any (refused number place) = tt

-- a step alone
one-step : (Q : Here → Type 0) (f : Here → Out Here) (q : Here) → Always Q (f q) → Always Q (steps (f ∷ []) q)
unfolding steps
one-step Q f q h = then_steps Q Q f [] q h (λ y k. k)

-- the last step of all
at_last : (Q : Here → Type 0) (g : Here → Here) (q : Here) → Q (g q) → Always Q (steps ((λ y. went (g y)) ∷ []) q)
unfolding steps
at_last Q g q h = h

-- ---- an argument

module _ (n : ℕ) (s : Source) (inner : Bool → Rule (flat n)) where
  -- nothing is held behind it
  abbrev Unheld : Here → Type 0
  Unheld y = y.held ≡ y.lexer.token

  end-frees : (frame : Frame) (q : Here) → Always Unheld (argument_ends (flat n) s frame q)
  unfolding argument_ends
  end-frees frame q = last_steps Unheld _ _ q (λ a. at_last Unheld (position.holding_none (flat n)) a refl)

  frees : (what : Piece) (q : Here) → Always Unheld (spec.argument (flat n) s inner what q)
  unfolding spec.argument argument_node
  frees what q = last_steps Unheld _ _ q (λ a. last_steps Unheld _ _ a (λ b. one-step Unheld _ b (end-frees ((flat n).frame q.built) b)))

  -- an operation of the builder passes nothing
  building-keeps : (c : Cursor) (p : Here) (o : Out Built) → p.lexer ≡ c → Always (λ y. y.lexer ≡ c) (building (flat n) p o)
  building-keeps c p (went b) e = e
  building-keeps c p (refused number place) e = tt

  -- where the first character of what is left ends
  abbrev behind_one : Cursor → Cursor
  behind_one c = consumed s.tokens (char_length (peek_text s.text s.tokens c)) c

  -- its bytes, and its leaf
  abbrev size_at : Here → ℕ
  size_at p = char_length (peek_text s.text s.tokens p.lexer)

  abbrev leaf-of : Here → Leaf
  leaf-of p = record { token = p.lexer.token; kind = TokenWord; start = rest_start s.tokens p.lexer; size = size_at p }

  one-character : (c : Cursor) (p : Here) → p.lexer ≡ c → Always (λ y. y.lexer ≡ behind_one c) (single_char (flat n) s p)
  unfolding single_char
  one-character c p e = moved ((flat n).leaf p.lexer.token (leaf-of p) p.built)
    where
      moved : (o : Out Built)
          → Always (λ y. y.lexer ≡ behind_one c)
          (bind (building (flat n) p o) (λ q. went (position.with_lexer (flat n) (consumed s.tokens (size_at p) q.lexer) q)))
      moved (went b) = ap behind_one e
      moved (refused number place) = tt

  -- a character is passed
  begin-keeps : (q : Here) → Always (λ y. y.lexer ≡ q.lexer) (argument_begins (flat n) s q)
  unfolding argument_begins ignore_holding_trivia
  begin-keeps q =
      let Same : Here → Type 0 = λ y. y.lexer ≡ q.lexer in
      then_steps Same Same _ _ q refl
      (λ a here. one-step Same _ a (building-keeps q.lexer a ((flat n).start a.lexer.token ClauseArgument a.built) here))

  end-keeps : (frame : Frame) (c : Cursor) (q : Here) → q.lexer ≡ c → Always (λ y. y.lexer ≡ c) (argument_ends (flat n) s frame q)
  unfolding argument_ends
  end-keeps frame c q here =
      let Same : Here → Type 0 = λ y. y.lexer ≡ c in
      then_steps Same Same _ _ q (building-keeps c q ((flat n).finish q.lexer.token ClauseArgument frame q.built) here)
      (λ a still. at_last Same (position.holding_none (flat n)) a still)

  passes-one : (q : Here) → Always (λ y. y.lexer ≡ behind_one q.lexer) (spec.argument (flat n) s inner character q)
  unfolding spec.argument argument_node spec.piece
  passes-one q =
      let Same : Here → Type 0 = λ y. y.lexer ≡ q.lexer in
      let Behind : Here → Type 0 = λ y. y.lexer ≡ behind_one q.lexer in
      then_steps Same Behind _ _ q (begin-keeps q) (λ a same.
      then_steps Behind Behind _ _ a (one-character q.lexer a same) (λ b moved.
      one-step Behind _ b (end-keeps ((flat n).frame q.built) (behind_one q.lexer) b moved)))

-- ---- the same of the code's state

module _ {t : Tables} {gain : ℕ} (what : Piece) {q : Parser} {v : Buffers} {r : Step} {x : Buffers} {z : Parser}
    (read : Runs t gain (λ n d. spec.argument (flat n) (source_of t) (inner_at t n d) what (pos_of q v)) q v r x) (e : r ≡ Ok z) where
  -- what is so of every position that the rule goes to is so of the one that it went to
  pub told : (P : Here → Type 0) → ((n d : ℕ) → Always P (spec.argument (flat n) (source_of t) (inner_at t n d) what (pos_of q v))) → P (pos_of z x)
  told P k =
      let is : out_of r x ≡ went (pos_of z x) = ap (λ y. out_of y x) e in
      let comes = read.is nodes (omega arith) ∙ is in
      rw comes at (k (length v.tree) nodes)

  pub holding_behind : Ready t z x → Holding z
  holding_behind ready =
      let held : z.held ≡ z.lexer.token = told (λ y. y.held ≡ y.lexer.token) (λ n d. frees n (source_of t) (inner_at t n d) what (pos_of q v)) in
      let dropped = ready.steady.dropped in
      record { held = omega arith; dropped = omega arith }

module _ {t : Tables} {gain : ℕ} {q : Parser} {v : Buffers} {r : Step} {x : Buffers} {z : Parser}
    (read : Runs t gain (λ n d. spec.argument (flat n) (source_of t) (inner_at t n d) character (pos_of q v)) q v r x) (e : r ≡ Ok z) where
  abbrev behind_it : Cursor
  behind_it = consumed t.tokens (char_length (peek_text t.text t.tokens (cursor_of q.lexer))) (cursor_of q.lexer)

  pub character_behind : cursor_of z.lexer ≡ behind_it
  character_behind = told character read e (λ y. y.lexer ≡ behind_it) (λ n d. passes-one n (source_of t) (inner_at t n d) (pos_of q v))
