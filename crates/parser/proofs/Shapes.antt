-- What the code knows of the next token's shape, in the rules' words. Assumes nothing.
use Prim.Native.Nat.{ℕ}
use mathlib.Core.Path.{◌≡◌, sym, ap, ◌∙◌}
use mathlib.Core.Bool.{Bool}
use Rattle.rules.specs.Checks.{Tables, shape_of}
use Rattle.rules.specs.Items.{of_class}
use Rattle.rules.specs.Matcher.{Matcher, is_greedy, start_match}
use Rattle.rules.specs.Position as position
use Rattle.items.specs.declared.shape.Shape.{Shape}
use Rattle.state.specs.declared.Parser.{Parser}

-- the shape of the next token, where one of this class is asked for: the rules' `shape_here` at the state's place
abbrev pub shape_in : Tables → ℕ → Parser → position.Shape
shape_in t class p = of_class class (shape_of t p.lexer.token)

-- the code asked its own matcher whether it is greedy
pub greedy-is : (s : Shape) {x : Matcher} {b c : Bool} → x ≡ start_match s.form s.value → b ≡ is_greedy x → b ≡ c
    → is_greedy (start_match s.form s.value) ≡ c
greedy-is s x-is b-is e = ap is_greedy (sym x-is) ∙ sym b-is ∙ e
