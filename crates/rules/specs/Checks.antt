-- What is checked before reading: refusals 1 to 4, each with its place.
use Rattle.std.specs.Prelude.{ℕ, zero, suc, ◌+◌, ◌*◌, ◌-◌, ◌/◌, ◌%◌, Bool, not, cond, ◌&&◌, ◌||◌, List, [], ◌∷◌, eqb, leb, ltb, length}
use Rattle.std.specs.Prelude.{Option, None as none, Some as some}
use Rattle.rules.specs.Characters.{is_utf8}
use Rattle.rules.specs.Items.{class_command, class_environment, no_shape}
use Rattle.rules.specs.Limits
use Rattle.rules.specs.Matcher.{form_fixed, form_range, form_glob, form_left1, form_infix_greedy}
use Rattle.rules.specs.Position.{Shape, Source}
use Rattle.rules.specs.Scope.{among}
use Rattle.rules.specs.Tables.{cell, token_count, kind_at, start_at, length_at, shape_at, part}
use Rattle.rules.specs.Token

-- the tables that come in
pub record Tables : Type 0 where
  pub text : List ℕ
  pub tokens : List ℕ
  pub shapes : List ℕ
  pub states : List ℕ

-- a number of refusal and a place
abbrev pub Refusal : Type 0
Refusal = ℕ × ℕ

abbrev pub shape_count : Tables → ℕ
shape_count t = length t.shapes / Limits.shape_width

abbrev pub state_count : Tables → ℕ
state_count t = length t.states / Limits.state_width

-- "first such row": the first of so many rows, counted from `from`, that is not right
unfoldable pub first_bad : (ℕ → Bool) → ℕ → ℕ → Option ℕ
first_bad right zero from = none
first_bad right (suc n) from = cond (right from) (first_bad right n (from + 1)) (some from)

-- "1: a limit above is passed, or a table isn't whole rows"
abbrev pub whole_rows : ℕ → ℕ → List ℕ → Bool
whole_rows width most table = eqb (length table % width) 0 && leb (length table / width) most

unfoldable pub within_limits : Tables → Bool
within_limits t =
    leb (length t.text) Limits.text
    && (whole_rows Limits.token_width Limits.tokens t.tokens
    && (whole_rows Limits.shape_width Limits.shapes t.shapes && whole_rows Limits.state_width Limits.states t.states))

-- "3: token kind over 39, start + length past the text, shape number past the table, Word empty or not UTF-8 (RFC 3629)"
unfoldable pub word_right : Tables → ℕ → Bool
word_right t i = not (eqb (length_at t.tokens i) 0) && is_utf8 (part t.text (start_at t.tokens i) (length_at t.tokens i))

unfoldable pub token_right : Tables → ℕ → Bool
token_right t i =
    ltb (kind_at t.tokens i) Limits.kinds
    && (leb (start_at t.tokens i + length_at t.tokens i) (length t.text)
    && (leb (shape_at t.tokens i) (shape_count t) && (not (eqb (kind_at t.tokens i) Token.Word) || word_right t i)))

-- "Shape row: class (1 command, 2 environment), form, value. Forms: 0 none; 1 fixed, value 0 to 255; 2 range, value is its maximum 0 to 255;
-- 3 greedy; 4 glob, value its first state, 1 to the state count; 5 left1; 6 infix-greedy. Forms 5 and 6 need class 1. Value is 0 for 0, 3, 5, 6."
abbrev pub most_terms : ℕ
most_terms = 255

unfoldable pub value_right : ℕ → ℕ → ℕ → Bool
value_right states form value =
    cond (among form (form_fixed ∷ form_range ∷ [])) (leb value most_terms)
    (cond (eqb form form_glob) (leb 1 value && leb value states) (eqb value 0))

-- "4: shape row against the list above"
unfoldable pub shape_right : ℕ → Shape → Bool
shape_right states s =
    among s.class (class_command ∷ class_environment ∷ [])
    && (leb s.form form_infix_greedy
    && ((not (among s.form (form_left1 ∷ form_infix_greedy ∷ [])) || eqb s.class class_command) && value_right states s.form s.value))

abbrev pub shape_row : List ℕ → ℕ → Shape
shape_row shapes i =
    record {
      class = cell Limits.shape_width shapes i 0;
      form = cell Limits.shape_width shapes i 1;
      value = cell Limits.shape_width shapes i 2;
    }

-- "or a next state over the state count"
unfoldable pub state_right : List ℕ → ℕ → ℕ → Bool
state_right states count i =
    leb (cell Limits.state_width states i 0) count && (leb (cell Limits.state_width states i 1) count
    && leb (cell Limits.state_width states i 2) count)

-- "states counted on after shapes"
unfoldable pub shape_or_state_right : Tables → ℕ → Bool
shape_or_state_right t i =
    cond (ltb i (shape_count t)) (shape_right (state_count t) (shape_row t.shapes i)) (state_right t.states (state_count t) (i - shape_count t))

abbrev pub at : ℕ → Option ℕ → Option Refusal → Option Refusal
at number none otherwise = otherwise
at number (some place) otherwise = some (number, place)

-- "1 to 4 are checked in that order before reading"; "2: dropped buffer under 3 numbers per token"
unfoldable pub checks : Tables → ℕ → Option Refusal
checks t dropped_room =
    cond (not (within_limits t)) (some (1, 0))
    (cond (ltb dropped_room (token_count t.tokens * Limits.dropped_width)) (some (2, 0))
    (at 3 (first_bad (token_right t) (token_count t.tokens) 0)
    (at 4 (first_bad (shape_or_state_right t) (shape_count t + state_count t) 0) none)))

-- "shape number (0 none, k the k-th shape)": the shape of a token by the table
unfoldable pub shape_of : Tables → ℕ → Shape
shape_of t i = cond (eqb (shape_at t.tokens i) 0) no_shape (shape_row t.shapes (shape_at t.tokens i - 1))

abbrev pub source_of : Tables → Source
source_of t = record { text = t.text; tokens = t.tokens; states = t.states; shape = shape_of t }
