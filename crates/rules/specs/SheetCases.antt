-- Sheets and what is printed of them: 01's whole case and sheets around it, as one table, and one theorem over it that antt computes.
use Rattle.std.specs.Prelude.{ℕ, ◌≡◌, refl, List, [], ◌∷◌, ◌++◌, map, length, take, drop, replicate}
use Rattle.rules.specs.Computed.{the_run}
use Rattle.rules.specs.Listing
use Rattle.rules.specs.Notation.{bytes}
use Rattle.rules.specs.Questions
use Rattle.rules.specs.Sheet
use Rattle.rules.specs.Treelist

pub record Case : Type 0 where
  pub sheet : List ℕ
  pub prints : List ℕ

-- "numbers 4 bytes, all big-endian": small ones
abbrev pub four : ℕ → List ℕ
four n = 0 ∷ 0 ∷ 0 ∷ n ∷ []

abbrev pub numbers : List ℕ → List ℕ
numbers [] = []
numbers (n ∷ rest) = four n ++ numbers rest

-- "Whole case, 118 bytes: text `\frac 1 2`; tokens (26,0,5,1) (1,5,1,0) (21,6,1,0) (1,7,1,0) (21,8,1,0); shape (1,1,2); no states".
-- Before each stands its length
abbrev pub frac_text : List ℕ
frac_text = four 9 ++ bytes "\\frac 1 2"

abbrev pub frac_tokens : List ℕ
frac_tokens =
    four 80
    ++ numbers (26 ∷ 0 ∷ 5 ∷ 1 ∷ [])
    ++ numbers (1 ∷ 5 ∷ 1 ∷ 0 ∷ [])
    ++ numbers (21 ∷ 6 ∷ 1 ∷ 0 ∷ [])
    ++ numbers (1 ∷ 7 ∷ 1 ∷ 0 ∷ [])
    ++ numbers (21 ∷ 8 ∷ 1 ∷ 0 ∷ [])

abbrev pub frac_shapes : List ℕ
frac_shapes = four 12 ++ numbers (1 ∷ 1 ∷ 2 ∷ [])

-- a section of no bytes
abbrev pub nothing : List ℕ
nothing = four 0

abbrev pub frac : List ℕ
frac = 1 ∷ (frac_text ++ (frac_tokens ++ (frac_shapes ++ nothing)))

frac-bytes : length frac ≡ 118
frac-bytes = refl

-- the ten lines of 01, each with its line break, and with the fifth number that 02's #101 adds
abbrev pub frac_prints : List ℕ
frac_prints =
    bytes "ok 11 2\n"
    ++ bytes "0 44 0\n"
    ++ bytes "1 35 0\n"
    ++ bytes "2 27 0 5 0\n"
    ++ bytes "2 28 2\n"
    ++ bytes "3 13 6 1 2\n"
    ++ bytes "2 28 4\n"
    ++ bytes "3 13 8 1 4\n"
    ++ bytes "d 1 1 1\n"
    ++ bytes "d 3 1 2\n"

abbrev pub refused9 : List ℕ
refused9 = bytes "refused 9 0\n"

abbrev pub refused1 : List ℕ
refused1 = bytes "refused 1 0\n"

-- the root alone
abbrev pub root : List ℕ
root = bytes "ok 2 0\n" ++ bytes "0 44 0\n"

-- a text of so many letters, which two bytes count, and no tables
abbrev pub long : ℕ → ℕ → ℕ → List ℕ
long count high low = 1 ∷ 0 ∷ 0 ∷ high ∷ low ∷ (replicate count 97 ++ (nothing ++ (nothing ++ nothing)))

abbrev pub cases : List Case
cases =
    record { sheet = frac; prints = frac_prints }
    -- "cut short", by one byte; "followed by more"; "of another version"
    ∷ record { sheet = take 117 frac; prints = refused9 }
    ∷ record { sheet = frac ++ (0 ∷ []); prints = refused9 }
    ∷ record { sheet = 2 ∷ drop 1 frac; prints = refused9 }
    -- nothing, and a version alone
    ∷ record { sheet = []; prints = refused9 }
    ∷ record { sheet = 1 ∷ []; prints = refused9 }
    -- four empty sections; three of them
    ∷ record { sheet = 1 ∷ (nothing ++ (nothing ++ (nothing ++ nothing))); prints = root }
    ∷ record { sheet = 1 ∷ (nothing ++ (nothing ++ nothing)); prints = refused9 }
    -- a text that claims 4 GiB less one byte; tokens that claim 12 bytes less than 4 GiB: in a sum of 32 bits shapes and states would then be found
    -- inside the text, and the last section would end where the sheet does
    ∷ record { sheet = 1 ∷ 255 ∷ 255 ∷ 255 ∷ 255 ∷ (nothing ++ (nothing ++ nothing)); prints = refused9 }
    ∷ record { sheet = 1 ∷ (numbers (8 ∷ 0 ∷ 4 ∷ []) ++ (255 ∷ 255 ∷ 255 ∷ 244 ∷ [])); prints = refused9 }
    -- tokens of 3 bytes are no whole numbers; of 4 bytes they are, and no whole row
    ∷ record { sheet = 1 ∷ (nothing ++ (four 3 ++ (0 ∷ 0 ∷ 0 ∷ (nothing ++ nothing)))); prints = refused9 }
    ∷ record { sheet = 1 ∷ (nothing ++ (four 4 ++ (four 0 ++ (nothing ++ nothing)))); prints = refused1 }
    -- "at most 32,768 bytes": with a text of 32,751 it has so many, with 32,752 one more
    ∷ record { sheet = long 32751 127 239; prints = root }
    ∷ record { sheet = long 32752 127 240; prints = refused9 }
    ∷ []

pub examples : map (λ (c : Case). Treelist.printed c.sheet) cases ≡ map (λ (c : Case). c.prints) cases
unfolding the_run Questions.open_after Sheet.number_at Sheet.numbers_at Sheet.end_of Sheet.readable Sheet.read Listing.decimal_in Listing.decimal Listing.numbered Listing.line Listing.tree_line Listing.tree_lines Listing.dropped_line Listing.dropped_lines Listing.listing Treelist.printed
examples = refl
