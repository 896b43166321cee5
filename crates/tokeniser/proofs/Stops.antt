-- Names, step by step: a name in braces, and a command by where its name ends. Assumes nothing.
use Prim.Native.Nat.{ℕ, zero, suc, ◌+◌, ◌-◌, ◌≤◌, ◌<◌}
use mathlib.Core.Path.{◌≡◌, refl, ap, ◌∙◌}
use mathlib.Core.Bool.{true, false, and-false, ◌&&◌, cond}
use mathlib.Core.List.{List, [], ◌∷◌}
use native.Mathlib.Omega.{arith}
use lib.Dec.{ltb}
use lib.ListN.{length, take, drop, length-drop}
use lib.Seq.{drop-drop}
use Rattle.rules.specs.Commands.{name_size, is_name, in_braces, kind_of, takes_name}
use Rattle.rules.specs.Patterns.{run, in_front}
use Rattle.rules.specs.Tokeniser.{Lexeme, plain, environment, command}
use Rattle.std.specs.Prelude.{Some, None}
use Rattle.rules.proofs.Characters.{either}
use Rattle.tokeniser.specs.Answers.{named_in}
use Rattle.rules.proofs.LexemeSizes.{name-fits, braces_fit}

-- ---- a name in braces: what stands behind the opening brace, and behind the name
module _ (text : List ℕ) (from : ℕ) where
  behind : drop 1 (drop from text) ≡ drop (from + 1) text
  behind = drop-drop 1 from text

  pub no_brace : in_front (0x7B ∷ []) (drop from text) ≡ false → named_in (in_braces (drop from text)) ≡ None
  unfolding in_braces
  no_brace other = rw other

  module _ (end : ℕ) (is : end ≡ from + 1 + run is_name (drop (from + 1) text)) where
    braces-at : in_braces (drop from text)
        ≡ cond (in_front (0x7B ∷ []) (drop from text) && in_front (0x7D ∷ []) (drop end text)) (end - (from + 1)) 0
    unfolding in_braces
    braces-at =
        let name = run is_name (drop 1 (drop from text)) in
        let size : name ≡ end - (from + 1) = ap (run is_name) behind ∙ omega (arith, is) in
        let ends : from + (1 + name) ≡ end = omega (arith, is, size) in
        let closer : drop (1 + name) (drop from text) ≡ drop end text = drop-drop (1 + name) from text ∙ ap (λ (n : ℕ). drop n text) ends in
        rw (closer, size)

    pub named : in_front (0x7B ∷ []) (drop from text) ≡ true → in_front (0x7D ∷ []) (drop end text) ≡ true → from + 1 < end
        → named_in (in_braces (drop from text)) ≡ Some (end - (from + 1))
    named opened closed some =
        let size : end - (from + 1) ≡ suc (end - (from + 2)) = omega arith in
        ap named_in braces-at ∙ rw (opened, closed, size)

    pub unclosed : in_front (0x7D ∷ []) (drop end text) ≡ false → named_in (in_braces (drop from text)) ≡ None
    unclosed other = ap named_in braces-at ∙ rw (other, and-false (in_front (0x7B ∷ []) (drop from text)))

    pub empty : end ≤ from + 1 → named_in (in_braces (drop from text)) ≡ None
    empty none =
        let size : end - (from + 1) ≡ zero = omega arith in
        ap named_in braces-at
        ∙ either (in_front (0x7B ∷ []) (drop from text) && in_front (0x7D ∷ []) (drop end text)) (λ t. rw (t, size)) (λ f. rw f)

-- what proves the goals of `in_braces`
pub ruleset braces = (no_brace, named, unclosed, empty)

-- the name and both braces lie in the text
pub braces_inside : (text : List ℕ) (end : ℕ) → 0 < in_braces (drop end text) → in_braces (drop end text) + end + 2 ≤ length text
braces_inside text end some = omega (arith, braces_fit (drop end text) some, length-drop end text)

-- ---- a command whose backslash stands at a place, and whose name ends at another
module _ (text : List ℕ) (at end : ℕ) (here : at < length text) (is : end ≡ at + 1 + name_size (drop (at + 1) text)) where
  pub name-inside : end ≤ length text
  name-inside = omega (arith, is, name-fits (drop (at + 1) text), length-drop (at + 1) text)

  abbrev pub kind_here : ℕ
  kind_here = kind_of (take (end - (at + 1)) (drop (at + 1) text))

  -- the command by the size of its name
  abbrev sized : List ℕ → ℕ → Lexeme
  sized after size =
      let kind = kind_of (take size after) in
      let name = in_braces (drop (1 + size) (drop at text)) in
      cond (takes_name kind && ltb 0 name) (environment kind (1 + size) name) (plain kind (1 + size))

  abbrev pub whole : ℕ → List ℕ → Lexeme
  whole size left =
      cond (takes_name kind_here && ltb 0 (in_braces left)) (environment kind_here size (in_braces left)) (plain kind_here size)

  command-is : command (drop at text) ≡ whole (end - at) (drop end text)
  command-is =
      let size : name_size (drop (at + 1) text) ≡ end - (at + 1) = omega (arith, is) in
      let one_more : 1 + (end - (at + 1)) ≡ end - at = omega (arith, is) in
      let ends : at + (end - at) ≡ end = omega (arith, is) in
      ap (λ (after : List ℕ). sized after (name_size after)) (drop-drop 1 at text)
      ∙ ap (sized (drop (at + 1) text)) size
      ∙ ap (λ (n : ℕ). whole n (drop n (drop at text))) one_more
      ∙ ap (whole (end - at)) (drop-drop (end - at) at text ∙ ap (λ (n : ℕ). drop n text) ends)

  -- the first part shows where this is used: at a kind that the code asks for
  pub command_at : (kind_here ≡ kind_here) × (command (drop at text) ≡ whole (end - at) (drop end text))
  command_at = (refl, command-is)

-- what proves the goals of `command` that have no answer of their own
pub ruleset commands = (braces_inside, command_at)
