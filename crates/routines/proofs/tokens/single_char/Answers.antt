-- The leaf is the first character of the Word that is handed on, and then it is passed.
use Rattle.std.proofs.Common.{◌≡◌, ℕ, List, [], ◌∙◌, arith}
use native.Mathlib.Nat.{le_refl}
use Rattle.rules.specs.Characters.{char_length}
use Rattle.rules.specs.Builder.{Leaf}
use Rattle.rules.specs.Checks.{Tables, source_of}
use Rattle.rules.specs.Cursor.{Cursor, consumed, peek_text}
use Rattle.rules.specs.Flat.{flat}
use Rattle.rules.specs.Routines.{single_char}
use Rattle.rules.specs.SyntaxKind.{TokenWord}
use Rattle.rules.proofs.Characters.{char_four}
use Rattle.lexer.specs.Reading.{cursor_of}
use Rattle.lexer.specs.declared.cursor.Lexer.{Lexer}
use Rattle.state.specs.Contract.{LeftOf, buffers}
use Rattle.state.specs.Stands.{pos_of}
use Rattle.routines.proofs.Leaves.{here_of, small_token, seen_less, onward_char, single_char_is, leaf-then, leaf-stops, leaf-goes_on, same-lexer}
use Rattle.routines.proofs.tokens.single_char.Goals as goal
use Rattle.routines.proofs.tokens.single_char.Goals.{After-leaf}

-- a character has four bytes at most
pub overflow_cast-size : goal.overflow_cast-size
overflow_cast-size c = omega (arith, char_four c.args.word.now, c.char_len-size.ensures)

-- the leaf that the code writes
abbrev leaf : After-leaf → Leaf
leaf c = record { token = c.args.p.lexer.token; kind = TokenWord; start = c.rest_start-start.result; size = c.char_len-size.result }

-- where the cursor goes
abbrev onto : After-leaf → Cursor → Cursor
onto c = consumed c.args.tokens.now c.char_len-size.result

-- both are the rule's
leaf-is : (c : After-leaf) (t : Tables) → LeftOf c.args.tokens c.args.word c.args.p t → (notes : List ℕ) (n : ℕ)
    → single_char (flat n) (source_of t) (pos_of c.args.p (buffers c.args.tree.now notes))
    ≡ leaf-then (leaf c) (onto c) n (pos_of c.args.p (buffers c.args.tree.now notes))
leaf-is c t seen notes =
    single_char_is t _ _ c.args.p (buffers c.args.tree.now notes) _ _ seen.0 seen.1 c.rest_start-start.ensures c.char_len-size.ensures

pub returns-in_err-leafed : goal.returns-in_err-leafed
returns-in_err-leafed c =
    let wrote = (goal.at.returns-in_err-leafed c).After-leaf in
    let few = small_token (seen_less (λ t seen. seen.0) c.requires.1) in
    leaf-stops (leaf wrote) (onto wrote) (leaf-is wrote) (λ notes. c.leaf.ensures notes (le_refl _) few) c.in_err-leafed.was c.from_residual.ensures

pub consume_utf8_bytes-requires : goal.consume_utf8_bytes-requires
consume_utf8_bytes-requires c =
    let seen = seen_less (λ t seen. seen.0) c.requires.1 in
    rw (same-lexer (c.leaf.ensures [] (le_refl _) (small_token seen)) c.in_ok-leafed.was) (here_of seen c.requires.0.0)

-- the code counts in what it was handed, the rule in its tables
counted : (t : Tables) (tokens word : List ℕ) (was is : Lexer) (size : ℕ)
    → is ≡ was → t.tokens ≡ tokens → word ≡ peek_text t.text tokens (cursor_of was) → size ≡ char_length word
    → consumed tokens size (cursor_of is)
    ≡ consumed t.tokens (char_length (peek_text t.text t.tokens (cursor_of was))) (cursor_of was)
counted t tokens word was is size same seen word-is size_is = rw (same, seen, ← word-is, ← size_is)

pub returns : goal.returns
returns c =
    let wrote = (goal.at.returns c).After-leaf in
    let few = small_token (seen_less (λ t seen. seen.0) c.requires.1) in
    let given = c.args in
    let moves = c.consume_utf8_bytes.ensures in
    let same = same-lexer (c.leaf.ensures [] (le_refl _) few) c.in_ok-leafed.was in
    leaf-goes_on (leaf wrote) (onto wrote) (leaf-is wrote) (λ notes. c.leaf.ensures notes (le_refl _) few) _ c.in_ok-leafed.was
    c.with_lexer.ensures moves c.leaf.auto.tree
    (λ t notes seen ready. onward_char ready (rw seen.0 c.requires.0.0) (rw seen.0 c.requires.0.1)
    (moves ∙ counted t given.tokens.now given.word.now given.p.lexer c.in_ok-leafed.leafed.lexer _ same seen.0 seen.1 c.char_len-size.ensures))
