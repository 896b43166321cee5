-- The leaf is what is left of the next token, and then that token is passed.
use Rattle.std.proofs.Common.{◌≡◌, ℕ, List, [], ap, ◌∙◌, arith}
use native.Mathlib.Nat.{le_refl}
use Rattle.rules.specs.Builder.{Leaf}
use Rattle.rules.specs.Checks.{Tables, source_of}
use Rattle.rules.specs.Cursor.{eaten}
use Rattle.rules.specs.Flat.{flat}
use Rattle.rules.specs.Routines.{eat_as}
use Rattle.lexer.specs.Reading.{cursor_of}
use Rattle.state.specs.Contract.{Tokens, buffers}
use Rattle.state.specs.Stands.{pos_of}
use Rattle.routines.proofs.Leaves.{small_token, onward_eaten, eat-as_is, leaf-then, leaf-stops, leaf-goes_on, same-lexer}
use Rattle.routines.proofs.tokens.eat_as.Goals as goal
use Rattle.routines.proofs.tokens.eat_as.Goals.{After-leaf}

-- the leaf that the code writes
abbrev leaf : After-leaf → Leaf
leaf c = record { token = c.args.p.lexer.token; kind = c.args.kind; start = c.rest_start-start.result; size = c.rest_length-size.result }

-- is the rule's
leaf-is : (c : After-leaf) (t : Tables) → Tokens c.args.tokens t → (notes : List ℕ) (n : ℕ)
    → eat_as (flat n) (source_of t) c.args.kind (pos_of c.args.p (buffers c.args.tree.now notes))
    ≡ leaf-then (leaf c) eaten n (pos_of c.args.p (buffers c.args.tree.now notes))
leaf-is c t seen notes =
    eat-as_is t _ c.args.p (buffers c.args.tree.now notes) _ _ _ seen c.rest_start-start.ensures c.rest_length-size.ensures

pub returns-in_err-leafed : goal.returns-in_err-leafed
returns-in_err-leafed c =
    let wrote = (goal.at.returns-in_err-leafed c).After-leaf in
    leaf-stops (leaf wrote) eaten (leaf-is wrote) (λ notes. c.leaf.ensures notes (le_refl _) (small_token c.requires.1))
    c.in_err-leafed.was c.from_residual.ensures

pub eat-requires : goal.eat-requires
eat-requires c =
    let small = small_token c.requires.1 in
    rw (same-lexer (c.leaf.ensures [] (le_refl _) small) c.in_ok-leafed.was) (omega arith)

pub returns : goal.returns
returns c =
    let wrote = (goal.at.returns c).After-leaf in
    let few = small_token c.requires.1 in
    let same = same-lexer (c.leaf.ensures [] (le_refl _) few) c.in_ok-leafed.was in
    leaf-goes_on (leaf wrote) eaten (leaf-is wrote) (λ notes. c.leaf.ensures notes (le_refl _) few) _ c.in_ok-leafed.was
    c.with_lexer.ensures c.eat.ensures c.leaf.auto.tree
    (λ t notes seen ready. onward_eaten ready (rw seen c.requires.0) (c.eat.ensures ∙ ap (λ l. eaten (cursor_of l)) same))
