-- What a choice of the rules says of the kind or the shape it was made by: trivia alone is held, a greedy matcher is a greedy command's, and a body
-- is opened by its opener. Assumes nothing.
use Prim.Native.Nat.{ℕ}
use mathlib.Core.Path.{◌≡◌, refl, sym, ap, ◌∙◌}
use mathlib.Core.Bool.{Bool, true, false, cond, ◌&&◌, ◌||◌, false≢true}
use mathlib.Core.List.{List, [], ◌∷◌}
use lib.Dec.{eqb}
use borrow.Author.Tests.{eqb-true}
use Rattle.rules.specs.Exactly.{kind_of, is_blank, is_body}
use Rattle.rules.specs.Items.{Item, plain, error, word, comma, group, attachment, command, environment, left_right, skipped, item_of, Choice, ends, holds, takes, Piece, if_matched, choose, name_only}
use Rattle.rules.specs.Kinds.{is_trivia}
use Rattle.rules.specs.Matcher
use Rattle.rules.specs.Matcher.{Matcher, start_match, start_at_most, is_greedy, match_next, form_none, form_fixed, form_range, form_greedy, form_glob, form_left1, form_infix_greedy}
use Rattle.rules.specs.Position.{Shape, Source}
use Rattle.rules.specs.Scope.{Scope, among, stops}
use Rattle.rules.specs.SyntaxKind
use Rattle.rules.specs.Token

-- ---- held

-- nothing is held
data Other : Choice → Type 0 where
  at-end : Other ends
  taking : {piece : Piece} {m : Matcher} → Other (takes piece m)

abbrev is_holds : Choice → Bool
is_holds ends = false
is_holds holds = true
is_holds (takes piece m) = false

either : (t : Bool) {x y : Choice} → Other x → Other y → Other (cond t x y)
either true h k = h
either false h k = k

matched : (piece : Piece) (m : Matcher.Matched) → Other (if_matched piece m)
matched piece Matcher.not_accepted = at-end
matched piece (Matcher.whole m) = taking
matched piece (Matcher.bare m) = taking

held_if : (t : Bool) {x : Choice} → Other x → cond t holds x ≡ holds → t ≡ true
held_if true h e = refl
held_if false at-end e = absurd (false≢true (ap is_holds e))
held_if false taking e = absurd (false≢true (ap is_holds e))

-- "Trivia is held", and nothing else
held_is_trivia : (states : List ℕ) (scope : Scope) (m : Matcher) (kind : ℕ) → choose states scope m kind ≡ holds → is_trivia kind ≡ true
unfolding choose
held_is_trivia states scope m kind e =
    held_if (is_trivia kind)
    (either (among kind (Token.Ampersand ∷ Token.Caret ∷ Token.Underscore ∷ [])) at-end
    (either (eqb kind Token.Word) (matched _ (match_next states m Matcher.term))
    (either (eqb kind Token.LeftCurly) (matched _ (match_next states m Matcher.term))
    (either (eqb kind Token.LeftBracket) (matched _ (match_next states m Matcher.bracket))
    (either (eqb kind Token.LeftParen) (matched _ (match_next states m Matcher.paren))
    (either (stops scope kind) at-end (matched _ (match_next states m Matcher.term))))))))
    e

pub held_is_blank : (source : Source) (scope : Scope) (m : Matcher) (token : ℕ)
    → choose source.states scope m (kind_of source token) ≡ holds
    → is_blank source token ≡ true
unfolding is_trivia is_blank
held_is_blank source scope m token e = held_is_trivia source.states scope m (kind_of source token) e

-- ---- greedy

abbrev pub greedy_forms : List ℕ
greedy_forms = form_greedy ∷ form_infix_greedy ∷ []

-- a form that is known
known : (form number : ℕ) → eqb form number ≡ true → among form greedy_forms ≡ among number greedy_forms
known form number e = ap (λ (n : ℕ). among n greedy_forms) (eqb-true form number e)

counted : (t : Bool) (m : Matcher) → is_greedy m ≡ false → is_greedy (cond t Matcher.nothing m) ≡ false
counted true m never = refl
counted false m never = never

-- `start_match`, from each of its tests on
abbrev from_infix : ℕ → Matcher
from_infix form = cond (eqb form form_infix_greedy) Matcher.greedy Matcher.nothing

abbrev from_glob : ℕ → ℕ → Matcher
from_glob form value = cond (eqb form form_glob) (Matcher.glob value) (from_infix form)

abbrev from_greedy : ℕ → ℕ → Matcher
from_greedy form value = cond (eqb form form_greedy) Matcher.greedy (from_glob form value)

abbrev from_range : ℕ → ℕ → Matcher
from_range form value = cond (eqb form form_range) (start_at_most value) (from_greedy form value)

infix_or : (form : ℕ) (t : Bool) → eqb form form_infix_greedy ≡ t → is_greedy (cond t Matcher.greedy Matcher.nothing) ≡ t || false
infix_or form true e = refl
infix_or form false e = refl

glob-or : (form value : ℕ) (t : Bool)
    → eqb form form_glob ≡ t
    → is_greedy (cond t (Matcher.glob value) (from_infix form)) ≡ eqb form form_infix_greedy || false
glob-or form value true e = let is = eqb-true form form_glob e in rw is refl
glob-or form value false e = infix_or form (eqb form form_infix_greedy) refl

greedy-or : (form value : ℕ) (t : Bool)
    → eqb form form_greedy ≡ t
    → is_greedy (cond t Matcher.greedy (from_glob form value)) ≡ t || (eqb form form_infix_greedy || false)
greedy-or form value true e = refl
greedy-or form value false e = glob-or form value (eqb form form_glob) refl

range-or : (form value : ℕ) (t : Bool)
    → eqb form form_range ≡ t
    → is_greedy (cond t (start_at_most value) (from_greedy form value)) ≡ among form greedy_forms
range-or form value true e = counted (eqb value 0) (Matcher.at_most value 0) refl ∙ sym (known form form_range e)
range-or form value false e = greedy-or form value (eqb form form_greedy) refl

fixed-or : (form value : ℕ) (t : Bool)
    → eqb form form_fixed ≡ t
    → is_greedy (cond t (start_at_most value) (from_range form value)) ≡ among form greedy_forms
fixed-or form value true e = counted (eqb value 0) (Matcher.at_most value 0) refl ∙ sym (known form form_fixed e)
fixed-or form value false e = range-or form value (eqb form form_range) refl

-- "Greedy commands, infix too"
pub greedy-is : (form value : ℕ) → is_greedy (start_match form value) ≡ among form greedy_forms
unfolding start_match
greedy-is form value = fixed-or form value (eqb form form_fixed) refl

name-or : (form : ℕ) (s t value : Bool) → eqb form form_none ≡ s → eqb form form_fixed ≡ t → s || (t && value) ≡ true
    → among form greedy_forms ≡ false
name-or form true t value e d named = known form form_none e
name-or form false true value e d named = known form form_fixed d
name-or form false false value e d named = absurd (false≢true named)

-- a command with a name alone is none
pub name-not_greedy : (s : Shape) → name_only s ≡ true → among s.form greedy_forms ≡ false
name-not_greedy s named = name-or s.form (eqb s.form form_none) (eqb s.form form_fixed) (eqb s.value 0) refl refl named

pub left1-not_greedy : (form : ℕ) → eqb form form_left1 ≡ true → among form greedy_forms ≡ false
left1-not_greedy form e = known form form_left1 e

pub infix_greedy : (form : ℕ) → eqb form form_infix_greedy ≡ true → among form greedy_forms ≡ true
infix_greedy form e = known form form_infix_greedy e

-- ---- bodies

module _ (source : Source) where
  -- what is known of an item by the token that it begins with
  abbrev pub Fits : Item → ℕ → Type 0
  Fits plain token = Unit {0}
  Fits error token = Unit {0}
  Fits word token = Unit {0}
  Fits comma token = Unit {0}
  Fits (group scope) token = Unit {0}
  Fits (attachment has_script) token = Unit {0}
  Fits command token = Unit {0}
  Fits environment token = Unit {0}
  Fits left_right token = Unit {0}
  Fits (skipped node) token = is_body source node token ≡ true

  fits-if : (token : ℕ) (t : Bool) (x y : Item) → (t ≡ true → Fits x token) → Fits y token → Fits (cond t x y) token
  fits-if token true x y h k = h refl
  fits-if token false x y h k = k

  comment_body : (token : ℕ) → eqb (kind_of source token) Token.IfFalse ≡ true → is_body source SyntaxKind.ItemBlockComment token ≡ true
  unfolding is_body
  comment_body token e = rw e refl

  typst_body : (token : ℕ) → eqb (kind_of source token) Token.IfTypst ≡ true → is_body source SyntaxKind.ItemTypstCode token ≡ true
  unfolding is_body
  typst_body token e = rw e refl

  -- a body is opened by its opener
  pub item_fits : (token : ℕ) → Fits (item_of (kind_of source token)) token
  item_fits token =
      let kind = kind_of source token in
      fits-if token (eqb kind Token.LeftCurly) _ _ (λ _. tt)
      (fits-if token (eqb kind Token.Apostrophe) _ _ (λ _. tt)
      (fits-if token (among kind (Token.Underscore ∷ Token.Caret ∷ [])) _ _ (λ _. tt)
      (fits-if token (among kind (Token.RightCurly ∷ Token.MacroArg ∷ Token.EndEnvironment ∷ Token.EndMath ∷ [])) _ _ (λ _. tt)
      (fits-if token (eqb kind Token.Word) _ _ (λ _. tt)
      (fits-if token (eqb kind Token.Comma) _ _ (λ _. tt)
      (fits-if token (eqb kind Token.Dollar) _ _ (λ _. tt)
      (fits-if token (eqb kind Token.BeginMath) _ _ (λ _. tt)
      (fits-if token (among kind (Token.Generic ∷ Token.If ∷ Token.Else ∷ Token.EndIf ∷ Token.Right ∷ [])) _ _ (λ _. tt)
      (fits-if token (eqb kind Token.BeginEnvironment) _ _ (λ _. tt)
      (fits-if token (eqb kind Token.IfFalse) _ _ (comment_body token)
      (fits-if token (eqb kind Token.IfTypst) _ _ (typst_body token)
      (fits-if token (eqb kind Token.Left) left_right plain (λ _. tt) tt))))))))))))
