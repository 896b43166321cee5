-- The code's classes of bytes and what they stand for; and what is known of a text that is read.
use Rattle.std.specs.Prelude.{ℕ, ◌-◌, ◌/◌, ◌%◌, ◌^◌, ◌<◌, ◌≡◌, Bool, false, cond, List, eqb, ltb, length, get_or}
use Rattle.rules.specs.Commands.{is_letter, is_name}
use Rattle.rules.specs.Patterns.{is_break, is_blank, is_no_break, is_word}
use Rattle.rules.specs.Patterns as rules
use Rattle.tokeniser.specs.declared.class.Class.{Class}
use Rattle.tokeniser.specs.declared.class.Class.TheVariants.{Break, Blank, NoBreak, Word, Letter, Name}
use Rattle.tokeniser.specs.declared.class.Bits.{Bits}

abbrev pub class_of : Class → rules.Class
class_of Break = is_break
class_of Blank = is_blank
class_of NoBreak = is_no_break
class_of Word = is_word
class_of Letter = is_letter
class_of Name = is_name

-- the digit of a byte under 128
abbrev pub digit : Bits → ℕ → Bool
digit bits byte = cond (ltb byte 64) (eqb (bits.low / 2 ^ byte % 2) 1) (eqb (bits.high / 2 ^ (byte - 64) % 2) 1)

-- a digit for each byte under 128 tells whether it is of a class
pub record Tells (of : rules.Class) (bits : Bits) : Type 0 where
  pub byte : (b : ℕ) → b < 128 → digit bits b ≡ of b

-- "a byte over 127": there is none
pub record Ascii (text : List ℕ) : Type 0 where
  pub byte : (at : ℕ) → at < length text → get_or text at 0 < 128

-- a byte that begins no run of Word bytes, blanks or breaks
pub record Mark (byte : ℕ) : Type 0 where
  pub no_word : is_word byte ≡ false
  pub no_blank : is_blank byte ≡ false
  pub no_break : is_break byte ≡ false
