-- What a routine comes to: it went on, or it was refused with a number and a place.
use Rattle.std.specs.Prelude.{ℕ}

pub data Out (P : Type 0) : Type 0 where
  went : P → Out P
  refused : ℕ → ℕ → Out P

-- a routine and then another: a refusal ends it
abbrev pub bind : {P Q : Type 0} → Out P → (P → Out Q) → Out Q
bind (went p) f = f p
bind (refused number place) f = refused number place

-- the numbers of refusal that come while reading: "5 to 8 come at the step that meets them"

-- "environment whose class 2 shape is greedy, when its arguments are to be read"
abbrev pub greedy_environment : ℕ
greedy_environment = 5

-- "a wrap's mark lies before the first child of the innermost open node"
abbrev pub mark_before_node : ℕ
mark_before_node = 6

-- "a 129th node would be open, root counted"
abbrev pub too_many_open : ℕ
too_many_open = 7

-- "a row more than the tree buffer's length / 4", and of 02's #101 "length / 5"
abbrev pub no_room : ℕ
no_room = 8
