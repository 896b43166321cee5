-- Steps that several rules have: a node's start and its end, and all of a node around a list of items, as a group, an environment and a left-right
-- body have it. Assumes nothing.
use Prim.Native.Nat.{ℕ}
use mathlib.Core.List.{List, [], ◌∷◌}
use Rattle.rules.specs.Checks.{Tables, source_of}
use Rattle.rules.specs.Flat.{flat}
use Rattle.rules.specs.Position as position
use Rattle.rules.specs.Reading.{item_list}
use Rattle.rules.specs.Routines.{eat}
use Rattle.rules.specs.Scope.{Scope}
use Rattle.state.specs.declared.Parser.{Parser}
use Rattle.state.proofs.Walk.{Rule}
use Rattle.parser.specs.Member.{inner_at}

-- a node of a kind starts
abbrev pub node_starts : ℕ → Rule
node_starts kind n d = position.start (flat n) kind

-- it ends, in the node that was open at p
abbrev pub node_ends : ℕ → Parser → Rule
node_ends kind p n d = position.finish (flat n) kind (record { first = p.builder.first; node = p.builder.node })

-- a token is read
abbrev pub eats : Tables → Rule
eats t n d = eat (flat n) (source_of t)

-- the steps from p on: what opens the list is read, the list, and what closes it
abbrev pub list_node : Tables → Parser → ℕ → Rule → Scope → Rule → List Rule
list_node t p kind opener scope closer =
    node_starts kind ∷ opener ∷ (λ n d. item_list (flat n) (source_of t) (inner_at t n d) scope) ∷ closer ∷ node_ends kind p ∷ []
