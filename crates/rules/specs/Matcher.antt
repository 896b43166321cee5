-- The argument matcher (arg_match.rs): what a shape accepts as the next argument. The glob string is a state's number.
use Rattle.std.specs.Prelude.{ℕ, ◌+◌, ◌-◌, Bool, true, false, cond, List, eqb, ltb}
use Rattle.rules.specs.Limits
use Rattle.rules.specs.Tables.{cell}

-- "Forms: 0 none; 1 fixed ..; 2 range ..; 3 greedy; 4 glob ..; 5 left1; 6 infix-greedy."
abbrev pub form_none : ℕ
form_none = 0

abbrev pub form_fixed : ℕ
form_fixed = 1

abbrev pub form_range : ℕ
form_range = 2

abbrev pub form_greedy : ℕ
form_greedy = 3

abbrev pub form_glob : ℕ
form_glob = 4

abbrev pub form_left1 : ℕ
form_left1 = 5

abbrev pub form_infix_greedy : ℕ
form_infix_greedy = 6

-- "t, b, p": what comes next, as the matcher sees it: a term, or what `[` or `(` begins. The columns of a state row are in this order
pub data Argument : Type 0 where
  term bracket paren : Argument

abbrev pub column : Argument → ℕ
column term = 0
column bracket = 1
column paren = 2

pub data Matcher : Type 0 where
  -- accepts nothing
  nothing : Matcher
  -- at most so many terms, of which so many were accepted
  at_most : ℕ → ℕ → Matcher
  -- accepts everything
  greedy : Matcher
  -- stands at a state of the table: "The glob string becomes a state number."
  glob : ℕ → Matcher

-- "State row: for t, b, p the next state, or 0 for not accepted." States count from 1: 0 is none, and accepts nothing
abbrev pub next_state : List ℕ → ℕ → Argument → ℕ
next_state states state a = cond (eqb state 0) 0 (cell Limits.state_width states (state - 1) (column a))

-- "Range 0 is not form 0: it runs a matcher that accepts nothing."
abbrev pub start_at_most : ℕ → Matcher
start_at_most n = cond (eqb n 0) nothing (at_most n 0)

-- the matcher that a shape starts with. "Greedy commands, infix too"
unfoldable pub start_match : ℕ → ℕ → Matcher
start_match form value =
    cond (eqb form form_fixed) (start_at_most value)
    (cond (eqb form form_range) (start_at_most value)
    (cond (eqb form form_greedy) greedy
    (cond (eqb form form_glob) (glob value)
    (cond (eqb form form_infix_greedy) greedy nothing))))

abbrev pub is_greedy : Matcher → Bool
is_greedy nothing = false
is_greedy (at_most n counter) = false
is_greedy greedy = true
is_greedy (glob state) = false

-- "the matcher answers not accepted, accepted as a whole item, or accepted as a bare token, with its next state" (02, #109)
pub data Matched : Type 0 where
  not_accepted : Matched
  whole : Matcher → Matched
  bare : Matcher → Matched

-- accepted as a term: a term is read whole, and "`[` or `(` counts as a term and is eaten alone."
abbrev pub as_term : Argument → Matcher → Matched
as_term term next = whole next
as_term bracket next = bare next
as_term paren next = bare next

-- "given the kind of what comes next, the matcher answers" (02, #109). "At most n terms: n accepted, then refused." "At n = 255 .. attempt 256: ..
-- release stops, as the port does." Greedy: "`[` and `(` are eaten plain." "Glob: the state moves by t, b, p; `[` and `(` read whole groups."
unfoldable pub match_next : List ℕ → Matcher → Argument → Matched
match_next states nothing a = not_accepted
match_next states (at_most n counter) a = cond (ltb counter n) (as_term a (at_most n (counter + 1))) not_accepted
match_next states greedy a = as_term a greedy
match_next states (glob state) a =
    let moved = next_state states state a in
    cond (eqb moved 0) not_accepted (whole (glob moved))
