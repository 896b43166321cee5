-- The contracts of the functions below `read` fix what they speak of: two results that meet one are equal, tables by what they hold. Each is an
-- equation with the rule, for every field. Assumes nothing.
use Prim.Native.Nat.{ℕ, ◌<◌}
use mathlib.Core.List.{List}
use mathlib.Core.Path.{◌≡◌, sym, ◌∙◌}
use Rattle.std.specs.Prelude.{Option}
use Rattle.std.specs.Option.{option_map}
use Rattle.syntax.specs.Tables.{tables_of}
use Rattle.syntax.specs.declared.tables.Tables.{Tables}
use Rattle.sheets.specs.Contract.{Placed, Counted, tables_in}
use Rattle.sheets.specs.declared.sections.Places.{Places}
use Rattle.sheets.specs.declared.sections.Sections.{Sections}

-- two numbers that are the rule's
both : {rule r s : ℕ} → r ≡ rule → s ≡ rule → r ≡ s
both one other = one ∙ sym other

-- a number, with a bound beside it
pub only_number : {rule bound r s : ℕ} → (r ≡ rule) × (r < bound) → (s ≡ rule) × (s < bound) → r ≡ s
only_number one other = both one.0 other.0

pub only_places : {sheet : List ℕ} {r s : Places} → Placed sheet r → Placed sheet s → r ≡ s
only_places k l =
    rw (both k.tokens l.tokens, both k.shapes l.shapes, both k.states l.states, both k.end l.end)

pub only_sections : {sheet : List ℕ} {r s : Sections} → Counted sheet r → Counted sheet s → r ≡ s
only_sections k l =
    rw (both k.text l.text, both k.tokens l.tokens, both k.shapes l.shapes, both k.states l.states)

-- tables that are lent, by what they hold. Where that lies in memory is left open
pub only_tables : (sections : Sections) (sheet numbers : List ℕ) (r s : Option Tables) → option_map tables_of r ≡ tables_in sections sheet numbers
    → option_map tables_of s ≡ tables_in sections sheet numbers
    → option_map tables_of r ≡ option_map tables_of s
only_tables sections sheet numbers r s one other = one ∙ sym other
