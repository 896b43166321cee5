-- The code's types as the rules have them.
use Rattle.std.specs.Prelude.{ℕ}
use Rattle.rules.specs.Questions as rules
use Rattle.questions.specs.declared.delimiter.Delimiter.{Delimiter}
use Rattle.questions.specs.declared.delimiter.Delimiter.TheVariants.{Dollar, Dollars, BeginInline, EndInline, BeginDisplay, EndDisplay}
use Rattle.questions.specs.declared.leaf.LeafRange.{LeafRange}

abbrev pub range_of : LeafRange → rules.Range
range_of r = record { start = r.start; size = r.size }

abbrev pub delimiter_of : Delimiter → rules.Delimiter
delimiter_of Dollar = rules.dollar
delimiter_of Dollars = rules.dollars
delimiter_of BeginInline = rules.begin_inline
delimiter_of EndInline = rules.end_inline
delimiter_of BeginDisplay = rules.begin_display
delimiter_of EndDisplay = rules.end_display
