-- The contracts fix the results (crates/syntax/proofs/Only.antt): each equates the result, or what it stands for, with a rule's value. `peek_text`
-- alone leaves something open: its contract fixes the bytes that come back, and not where they lie. Assumes nothing.
use Prim.Native.Nat.{ℕ}
use mathlib.Core.List.{List}
use mathlib.Core.Path.{◌≡◌, refl, sym, ◌∙◌}
use denote.Ref.{Bor}
use Rattle.rules.specs.Cursor.{Cursor}
use Rattle.syntax.proofs.Only.{Only, equal, stands}
use Rattle.lexer.specs.Reading.{cursor_of}
use Rattle.lexer.specs.declared.cursor.Lexer.{Lexer}
use Rattle.lexer.proofs.characters.char_len.Reads as char-len
use Rattle.lexer.proofs.characters.is_utf8.Reads as is-utf8
use Rattle.lexer.proofs.cursor.cell.Reads as cell
use Rattle.lexer.proofs.cursor.Lexer.consume_utf8_bytes.Reads as consume-utf8-bytes
use Rattle.lexer.proofs.cursor.Lexer.eat.Reads as eat
use Rattle.lexer.proofs.cursor.Lexer.new.Reads as new
use Rattle.lexer.proofs.cursor.Lexer.peek.Reads as peek
use Rattle.lexer.proofs.cursor.Lexer.peek_text.Reads as peek-text
use Rattle.lexer.proofs.cursor.Lexer.rest_length.Reads as rest_length_lem
use Rattle.lexer.proofs.cursor.Lexer.rest_start.Reads as rest-start

pub equations : Only char-len.Post × Only is-utf8.Post × Only cell.Post × Only peek.Post × Only rest-start.Post × Only rest_length_lem.Post
equations = (equal, equal, equal, equal, equal, equal)

abbrev lexer : Cursor → Lexer
lexer c = record { token = c.token; taken = c.taken }

-- a cursor of the rules leads back to the code's
pub cursors : Only new.Post × Only consume-utf8-bytes.Post × Only eat.Post
cursors = (stands cursor_of lexer (λ l. refl), stands cursor_of lexer (λ l. refl), stands cursor_of lexer (λ l. refl))

-- of a part of the caller's text: the bytes
module _ {L : Type 0} {A E : L → Type 0} where
  pub record OnlyBytes (post : (κs : L) → A κs → Bor (List ℕ) → E κs → Type 0) : Type 0 where
    pub same : (κs : L) (a : A κs) (x y : Bor (List ℕ)) (e : E κs) → post κs a x e → post κs a y e → x.now ≡ y.now

pub only_peek_text : OnlyBytes peek-text.Post
only_peek_text = record { same = λ κs a x y e p q. p ∙ sym q }
