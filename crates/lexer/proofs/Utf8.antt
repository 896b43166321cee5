-- Laws of a turn over the characters of a text: what the first byte of what is left tells, and what is as good as what is left. Assumes nothing.
use Prim.Native.Nat.{ℕ, ◌-◌, ◌≤◌, ◌<◌}
use mathlib.Core.Path.{◌≡◌, ◌∙◌}
use mathlib.Core.Bool.{true}
use mathlib.Core.List.{List, [], ◌∷◌}
use native.Mathlib.Omega.{arith}
use lib.ListN.{length, get_or, take, drop, length-drop}
use lib.Seq.{take_all}
use borrow.Author.Tests.{le-leb}
use Rattle.rules.specs.Characters.{char_length, is_utf8}
use Rattle.rules.proofs.Characters.{char_fits, utf8_rest, utf8_none, utf8_nothing}

-- a part that goes to the end is what is left behind its start
pub to_the_end : (bytes : List ℕ) (at : ℕ) → take (length bytes - at) (drop at bytes) ≡ drop at bytes
to_the_end bytes at = take_all (length bytes - at) (drop at bytes) (omega (arith, length-drop at bytes))

-- a byte that is a character by itself
pub single : (bytes : List ℕ) → 0 < length bytes → get_or bytes 0 0 ≤ 0x7F → 1 ≡ char_length bytes
unfolding char_length
single [] there low = absurd (omega arith)
single (byte ∷ bytes) there low = rw (le-leb 0x00 byte (omega arith), le-leb byte 0x7F low)

pub goes_on : (whole bytes : List ℕ) (size : ℕ) → is_utf8 whole ≡ is_utf8 bytes → size ≡ char_length bytes → 1 ≤ size
    → is_utf8 whole ≡ is_utf8 (take (length bytes - size) (drop size bytes))
goes_on whole bytes size same is some = rw (to_the_end bytes size, is) (same ∙ utf8_rest bytes (rw (← is) some))

pub nothing_left : (bytes : List ℕ) → length bytes ≡ 0 → is_utf8 bytes ≡ true
nothing_left [] none = utf8_nothing
nothing_left (byte ∷ bytes) none = absurd (omega arith)

pub ruleset turns = (single, char_fits, utf8_none, goes_on, nothing_left)
