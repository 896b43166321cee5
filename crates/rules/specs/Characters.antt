-- The characters of a text: UTF-8 by the grammar of RFC 3629, section 4.
use Rattle.std.specs.Prelude.{ℕ, zero, suc, ◌≤◌, Bool, true, false, not, cond, ◌&&◌, ◌||◌, leb, eqb, length, drop}
use mathlib.Core.List.{List, [], ◌∷◌, ◌++◌, Memᴰ}

-- a range of bytes, both ends included
abbrev pub Range : Type 0
Range = ℕ × ℕ

abbrev pub within : Range → ℕ → Bool
within r byte = leb r.0 byte && leb byte r.1

-- "UTF8-tail = %x80-BF"
abbrev pub tail : Range
tail = (0x80, 0xBF)

-- the alternatives of UTF8-char, each as the ranges of its bytes: no overlong form, no surrogate (ED A0..BF), nothing over U+10FFFF (F4 90..)
abbrev pub alternatives : List (List Range)
alternatives =
    -- "UTF8-1 = %x00-7F"
    ((0x00, 0x7F) ∷ [])
    -- "UTF8-2 = %xC2-DF UTF8-tail"
    ∷ ((0xC2, 0xDF) ∷ tail ∷ [])
    -- "UTF8-3 = %xE0 %xA0-BF UTF8-tail / %xE1-EC 2( UTF8-tail ) / %xED %x80-9F UTF8-tail / %xEE-EF 2( UTF8-tail )"
    ∷ ((0xE0, 0xE0) ∷ (0xA0, 0xBF) ∷ tail ∷ [])
    ∷ ((0xE1, 0xEC) ∷ tail ∷ tail ∷ [])
    ∷ ((0xED, 0xED) ∷ (0x80, 0x9F) ∷ tail ∷ [])
    ∷ ((0xEE, 0xEF) ∷ tail ∷ tail ∷ [])
    -- "UTF8-4 = %xF0 %x90-BF 2( UTF8-tail ) / %xF1-F3 3( UTF8-tail ) / %xF4 %x80-8F 2( UTF8-tail )"
    ∷ ((0xF0, 0xF0) ∷ (0x90, 0xBF) ∷ tail ∷ tail ∷ [])
    ∷ ((0xF1, 0xF3) ∷ tail ∷ tail ∷ tail ∷ [])
    ∷ ((0xF4, 0xF4) ∷ (0x80, 0x8F) ∷ tail ∷ tail ∷ [])
    ∷ []

-- whether the bytes begin with one of each range in turn
abbrev pub begins : List Range → List ℕ → Bool
begins [] bytes = true
begins (r ∷ rs) [] = false
begins (r ∷ rs) (b ∷ bytes) = within r b && begins rs bytes

-- how many bytes the first of these alternatives has that the bytes begin with; 0 if they begin with none
abbrev pub first_of : List (List Range) → List ℕ → ℕ
first_of [] bytes = 0
first_of (a ∷ rest) bytes = cond (begins a bytes) (length a) (first_of rest bytes)

-- the length of the first character, or 0 if the bytes begin with none. "A Word gives one argument a character"
unfoldable pub char_length : List ℕ → ℕ
char_length bytes = first_of alternatives bytes

-- "UTF8-octets = *( UTF8-char )": at most so many characters and then nothing
unfoldable pub characters : ℕ → List ℕ → Bool
characters zero bytes = eqb (length bytes) 0
characters (suc n) bytes = eqb (length bytes) 0 || (not (eqb (char_length bytes) 0) && characters n (drop (char_length bytes) bytes))

-- "not UTF-8 (RFC 3629)": whether the bytes are. There are no more characters than bytes
unfoldable pub is_utf8 : List ℕ → Bool
is_utf8 bytes = characters (length bytes) bytes

-- bytes of one alternative: one in each of its ranges
pub data Of : List Range → List ℕ → Type 0 where
  whole : Of [] []
  byte : {r : Range} {rs : List Range} {b : ℕ} {bytes : List ℕ} → r.0 ≤ b → b ≤ r.1 → Of rs bytes → Of (r ∷ rs) (b ∷ bytes)

-- "UTF8-octets = *( UTF8-char )" as the grammar has it, with no word on how to decide it: `is_utf8` is true of these bytes and of no others
pub data WellFormed : List ℕ → Type 0 where
  nothing : WellFormed []
  character : {a : List Range} {bytes rest : List ℕ} → Memᴰ a alternatives → Of a bytes → WellFormed rest → WellFormed (bytes ++ rest)
