-- Attachable is asked of the item's first token and its shape.
use Rattle.std.proofs.Common.{◌≡◌, ℕ, Bool, sym, ap, ◌∙◌}
use Rattle.items.specs.declared.shape.Shape.{Shape}
use Rattle.state.specs.Stands.{kept_of}
use Rattle.syntax.specs.Tables.{given}
use Rattle.parser.proofs.Marks.{attached, last_kept, last_moved}
use Rattle.parser.proofs.lists.last_after.Goals as goal

-- what the code asked is what the rule asks of the token's kind
said : {kind other : ℕ} {answer : Bool} (shape : Shape) → answer ≡ attached kind shape → kind ≡ other → answer ≡ attached other shape
said shape is e = is ∙ ap (λ kind. attached kind shape) e

pub returns-then-attachable : goal.returns-then-attachable
returns-then-attachable c =
    let asked = said c.of_token-shape.result c.attachable.ensures c.cell.ensures in
    last_moved (given c.args.tables) c.args.p c.args.q (c.of_token-shape.ensures _ _) (sym asked ∙ c.if-attachable.true) c.requires.2
    (ap kept_of c.checkpoint.ensures) c.with_last.ensures

pub returns : goal.returns
returns c =
    let asked = said c.of_token-shape.result c.attachable.ensures c.cell.ensures in
    last_kept (given c.args.tables) c.args.p c.args.q (c.of_token-shape.ensures _ _) (sym asked ∙ c.if-attachable.false)
