-- The rules' cursor that the code's stands for.
use Rattle.rules.specs.Cursor.{Cursor}
use Rattle.lexer.specs.declared.cursor.Lexer.{Lexer}

abbrev pub cursor_of : Lexer → Cursor
cursor_of l = record { token = l.token; taken = l.taken }
