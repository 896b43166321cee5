-- A call's answer to what a rule asks: what is known of the one is known of the other. Assumes nothing.
use mathlib.Core.Bool.{Bool}
use mathlib.Core.Path.{◌≡◌, sym, ◌∙◌}

pub told : {answer rule : Bool} → answer ≡ rule → {value : Bool} → answer ≡ value → rule ≡ value
told is known = sym is ∙ known
