-- What follows `_` or `^`, by whether it is a Word: a Word is no trivia and gives one character, and any other item is read whole. Assumes nothing.
use mathlib.Core.Path.{◌≡◌, refl, sym, ap, ◌∙◌}
use mathlib.Core.Bool.{Bool, true, false, false≢true}
use lib.Dec.{eqb}
use mathlib.Core.List.{List, [], ◌∷◌}
use Rattle.std.specs.Prelude.{Option, None as none, Some as some}
use Prim.Native.Nat.{ℕ, zero, suc, ◌<◌}
use borrow.Author.Tests.{eqb-true}
use Rattle.rules.specs.Checks.{Tables, source_of}
use Rattle.rules.specs.Cursor.{Cursor, peek}
use Rattle.rules.specs.Flat.{flat}
use Rattle.rules.specs.Items.{Item, plain, error, word, comma, group, attachment, command, environment, left_right, skipped, item_of}
use Rattle.rules.specs.Kinds.{is_trivia}
use Rattle.rules.specs.Outcome.{Out, went}
use Rattle.rules.specs.Position as position
use Rattle.rules.specs.Position.{asked}
use Rattle.rules.specs.Reading as spec
use Rattle.rules.specs.Routines as routine
use Rattle.rules.specs.Tables.{token_count, kind_at}
use Rattle.rules.specs.Scope.{among}
use Rattle.rules.specs.Token
use Rattle.rules.specs.Token.{Word}
use Rattle.rules.proofs.Characters.{either}
use Rattle.lexer.proofs.Laws.{peek-some}
use Rattle.routines.proofs.Eating.{asked-there}
use Rattle.state.specs.Contract.{is_word}

pub word-there : (tokens : List ℕ) (c : Cursor) → asked is_word (peek tokens c) ≡ true
    → (c.token < token_count tokens) × (kind_at tokens c.token ≡ Word)
word-there tokens c e =
    let there = asked-there is_word tokens c e in
    let word_is = sym (ap (asked is_word) (peek-some tokens c there)) ∙ e in
    (there, eqb-true (kind_at tokens c.token) Word word_is)

a_word : (k : Option ℕ) → asked is_word k ≡ true → k ≡ some Word
a_word none e = absurd (false≢true e)
a_word (some kind) e = ap some (eqb-true kind Word e)

-- ---- no item but a Word's is a word

abbrev is_word_item : Item → Bool
is_word_item plain = false
is_word_item error = false
is_word_item word = true
is_word_item comma = false
is_word_item (group scope) = false
is_word_item (attachment script) = false
is_word_item command = false
is_word_item environment = false
is_word_item left_right = false
is_word_item (skipped node) = false

-- by the arms of `item_of`, one after the other
other_item : (kind : ℕ) → is_word kind ≡ false → is_word_item (item_of kind) ≡ false
other_item kind e =
    rw e
    (either (eqb kind Token.LeftCurly) (λ so. rw so) (λ not_so. rw not_so
    (either (eqb kind Token.Apostrophe) (λ so. rw so) (λ not_so. rw not_so
    (either (among kind (Token.Underscore ∷ Token.Caret ∷ [])) (λ so. rw so) (λ not_so. rw not_so
    (either (among kind (Token.RightCurly ∷ Token.MacroArg ∷ Token.EndEnvironment ∷ Token.EndMath ∷ [])) (λ so. rw so) (λ not_so. rw not_so
    (either (eqb kind Token.Comma) (λ so. rw so) (λ not_so. rw not_so
    (either (eqb kind Token.Dollar) (λ so. rw so) (λ not_so. rw not_so
    (either (eqb kind Token.BeginMath) (λ so. rw so) (λ not_so. rw not_so
    (either (among kind (Token.Generic ∷ Token.If ∷ Token.Else ∷ Token.EndIf ∷ Token.Right ∷ [])) (λ so. rw so) (λ not_so. rw not_so
    (either (eqb kind Token.BeginEnvironment) (λ so. rw so) (λ not_so. rw not_so
    (either (eqb kind Token.IfFalse) (λ so. rw so) (λ not_so. rw not_so
    (either (eqb kind Token.IfTypst) (λ so. rw so) (λ not_so. rw not_so
    (either (eqb kind Token.Left) (λ so. rw so) (λ not_so. rw not_so))))))))))))))))))))))))

-- ---- what is read

module _ (n : ℕ) (t : Tables) (p : position.At (flat n)) where
  -- a Word is next, or something else
  abbrev WordNext : Bool → Type 0
  WordNext is = asked is_word (peek t.tokens p.lexer) ≡ is

  -- a Word is no trivia
  pub no_trivia : WordNext true → routine.trivia (flat n) (source_of t) p ≡ went p
  unfolding routine.trivia routine.eat_while is_trivia
  no_trivia e = stays (routine.turns (flat n) (source_of t) p)
    where
      stays : (fuel : ℕ) → routine.eat_while (flat n) (source_of t) is_trivia fuel p ≡ went p
      stays zero = refl
      stays (suc fuel) = rw (a_word (peek t.tokens p.lexer) e)

  module _ (inside : Bool → position.Rule (flat n)) where
    -- what is read, where one character of a Word is enough or the whole is read
    abbrev read : Bool → Out (position.At (flat n))
    read single = spec.content (flat n) (source_of t) inside single p

    abbrev read_item : Bool → Item → Out (position.At (flat n))
    read_item single i = spec.read_item (flat n) (source_of t) inside single i p

    abbrev read_kind : Bool → Option ℕ → Out (position.At (flat n))
    read_kind single k = spec.content_for (flat n) (source_of t) inside k single p

    pub one-character : WordNext true → read true ≡ routine.single_char (flat n) (source_of t) p
    unfolding spec.content spec.read_item
    one-character e = rw (a_word (peek t.tokens p.lexer) e)

    same_item : (i : Item) → is_word_item i ≡ false → read_item true i ≡ read_item false i
    unfolding spec.read_item
    same_item plain e = refl
    same_item error e = refl
    same_item word e = absurd (false≢true (sym e))
    same_item comma e = refl
    same_item (group scope) e = refl
    same_item (attachment script) e = refl
    same_item command e = refl
    same_item environment e = refl
    same_item left_right e = refl
    same_item (skipped node) e = refl

    same_kind : (k : Option ℕ) → asked is_word k ≡ false → read_kind true k ≡ read_kind false k
    same_kind none e = refl
    same_kind (some kind) e = same_item (item_of kind) (other_item kind e)

    pub whole_item : WordNext false → read true ≡ read false
    unfolding spec.content
    whole_item e = same_kind (peek t.tokens p.lexer) e
