-- A sheet is read exactly when it is the bytes of tables. From tables to bytes: each section is found where the one before it ends, whatever stands
-- around it. From bytes to tables: what is cut out of a sheet of bytes from a place on, as a number or a section, has that part of the sheet as its
-- bytes. Assumes nothing.
use Prim.Native.Nat.{ℕ, zero, suc, ◌+◌, ◌*◌, ◌/◌, ◌%◌, ◌^◌, ◌≤◌, ◌<◌}
use mathlib.Core.Bool.{true}
use mathlib.Core.List.{List, [], ◌∷◌, ◌++◌, append_assoc, append-nil}
use Rattle.std.specs.Prelude.{None as none, Some as some}
use mathlib.Core.Path.{◌≡◌, refl, sym, ap, ◌∙◌}
use native.Mathlib.Nat.{add-zero}
use native.Mathlib.Omega.{arith}
use borrow.Author.Tests.{le-leb, eq-eqb}
use lib.ListN.{length, get_or, take, drop, length-append, length-drop, take-append-drop}
use lib.Seq.{get_or-append-add, take_at, drop_at, drop-drop, drop-cons, take-add, take_all, length-take-le}
use Rattle.rules.specs.Tables.{part}
use Rattle.rules.proofs.Sheet.{Whole, ends_behind}
use Rattle.rules.proofs.Sheet.{whole as whole-sheet}
use Rattle.rules.proofs.Characters.{either}
use Rattle.rules.specs.Checks.{Tables}
use Rattle.rules.specs.Sheet.{most_bytes, version, number_bytes, number_at, numbers_at, bytes_from, end_of, text_at, tokens_at, shapes_at, states_at, whole_numbers, readable, table_at, tables_of, read, bytes_of_number, bytes_of_numbers, section, bytes_of}

-- ---- from tables to bytes

-- every number has 32 bits
pub data Numbers : List ℕ → Type 0 where
  nothing : Numbers []
  number : {n : ℕ} {l : List ℕ} → n < 2 ^ 32 → Numbers l → Numbers (n ∷ l)

number_back : (pre post : List ℕ) (n : ℕ) → n < 2 ^ 32 → number_at (pre ++ (bytes_of_number n ++ post)) (length pre) ≡ n
unfolding number_at
number_back pre post n low =
    let l = bytes_of_number n ++ post in
    let first : get_or (pre ++ l) (length pre) 0 ≡ n / 256 / 256 / 256 % 256 = rw add-zero at (get_or-append-add pre l 0 0) in
    rw (first, get_or-append-add pre l 1 0, get_or-append-add pre l 2 0, get_or-append-add pre l 3 0) (omega arith)

bytes-long : (l : List ℕ) → length (bytes_of_numbers l) ≡ length l * number_bytes
unfolding bytes_of_numbers
bytes-long [] = refl
bytes-long (n ∷ l) = omega (arith, bytes-long l)

numbers-back : (pre post : List ℕ) {l : List ℕ} → Numbers l → numbers_at (pre ++ (bytes_of_numbers l ++ post)) (length pre) (length l) ≡ l
unfolding numbers_at bytes_of_numbers
numbers-back pre post nothing = refl
numbers-back pre post (number {n} {l} low more) =
    let before = pre ++ bytes_of_number n in
    let behind = bytes_of_numbers l ++ post in
    let same : before ++ behind ≡ pre ++ (bytes_of_number n ++ behind) = append_assoc pre (bytes_of_number n) behind in
    let rest : numbers_at (pre ++ (bytes_of_number n ++ behind)) (length pre + number_bytes) (length l) ≡ l =
    rw (length-append pre (bytes_of_number n), same) at (numbers-back before post more) in
    rw (number_back pre behind n low, rest)

-- a section inside a sheet, with what stands before it and behind it
module _ (pre b post : List ℕ) (short : length b < 2 ^ 32) where
  abbrev whole : List ℕ
  whole = pre ++ (section b ++ post)

  as_two : whole ≡ pre ++ (bytes_of_number (length b) ++ (b ++ post))
  as_two = ap (λ (l : List ℕ). pre ++ l) (append_assoc (bytes_of_number (length b)) b post)

  as_three : whole ≡ (pre ++ bytes_of_number (length b)) ++ (b ++ post)
  as_three = as_two ∙ sym (append_assoc pre (bytes_of_number (length b)) (b ++ post))

  size_back : number_at whole (length pre) ≡ length b
  size_back = rw as_two (number_back pre (b ++ post) (length b) short)

  end_back : end_of whole (length pre) ≡ length (pre ++ section b)
  unfolding end_of
  end_back = rw size_back (omega (arith, length-append pre (section b), length-append (bytes_of_number (length b)) b))

  bytes-from : bytes_from (length pre) ≡ length (pre ++ bytes_of_number (length b))
  bytes-from = sym (length-append pre (bytes_of_number (length b)))

  part-back : take (length b) (drop (bytes_from (length pre)) whole) ≡ b
  part-back =
      rw (bytes-from, as_three, drop_at (pre ++ bytes_of_number (length b)) (b ++ post) (length (pre ++ bytes_of_number (length b))) refl)
      (take_at b post (length b) refl)

-- a section of numbers
module _ (pre post : List ℕ) {l : List ℕ} (ns : Numbers l) (short : length (bytes_of_numbers l) < 2 ^ 32) where
  whole_back : whole_numbers (whole pre (bytes_of_numbers l) post short) (length pre) ≡ true
  whole_back =
      let fours : length (bytes_of_numbers l) % number_bytes ≡ 0 = omega (arith, bytes-long l) in
      rw (size_back pre (bytes_of_numbers l) post short, fours)

  table_back : table_at (whole pre (bytes_of_numbers l) post short) (length pre) ≡ l
  table_back =
      let b = bytes_of_numbers l in
      let count : length b / number_bytes ≡ length l = omega (arith, bytes-long l) in
      rw (size_back pre b post short, count, bytes-from pre b post short, as_three pre b post short)
      (numbers-back (pre ++ bytes_of_number (length b)) post ns)

module _ (t : Tables) (tokens : Numbers t.tokens) (shapes : Numbers t.shapes) (states : Numbers t.states)
    (few : length (bytes_of t) ≤ most_bytes) where
  -- the sections, and what stands before each
  abbrev b₁ : List ℕ
  b₁ = bytes_of_numbers t.tokens

  abbrev b₂ : List ℕ
  b₂ = bytes_of_numbers t.shapes

  abbrev b₃ : List ℕ
  b₃ = bytes_of_numbers t.states

  abbrev pre₀ : List ℕ
  pre₀ = version ∷ []

  abbrev pre₁ : List ℕ
  pre₁ = pre₀ ++ section t.text

  abbrev pre₂ : List ℕ
  pre₂ = pre₁ ++ section b₁

  abbrev pre₃ : List ℕ
  pre₃ = pre₂ ++ section b₂

  -- and behind each
  abbrev post₁ : List ℕ
  post₁ = section b₂ ++ section b₃

  abbrev post₀ : List ℕ
  post₀ = section b₁ ++ post₁

  is₀ : bytes_of t ≡ pre₀ ++ (section t.text ++ post₀)
  unfolding bytes_of
  is₀ = refl

  is₁ : bytes_of t ≡ pre₁ ++ (section b₁ ++ post₁)
  is₁ = is₀ ∙ sym (append_assoc pre₀ (section t.text) post₀)

  is₂ : bytes_of t ≡ pre₂ ++ (section b₂ ++ section b₃)
  is₂ = is₁ ∙ sym (append_assoc pre₁ (section b₁) post₁)

  is₃ : bytes_of t ≡ pre₃ ++ (section b₃ ++ [])
  is₃ = is₂ ∙ sym (append_assoc pre₂ (section b₂) (section b₃)) ∙ ap (λ (l : List ℕ). pre₃ ++ l) (sym (append-nil (section b₃)))

  -- their lengths
  long : length (bytes_of t) ≡ 1 + (4 + length t.text + (4 + length b₁ + (4 + length b₂ + (4 + length b₃))))
  long =
      let sections = length-append (section t.text) post₀ in
      let tables = length-append (section b₁) post₁ in
      let last = length-append (section b₂) (section b₃) in
      let one : (b : List ℕ) → length (section b) ≡ 4 + length b = λ b. length-append (bytes_of_number (length b)) b in
      ap length is₀ ∙ omega (arith, one t.text, one b₁, one b₂, one b₃)

  short₀ : length t.text < 2 ^ 32
  short₀ = omega (arith, long)

  short₁ : length b₁ < 2 ^ 32
  short₁ = omega (arith, long)

  short₂ : length b₂ < 2 ^ 32
  short₂ = omega (arith, long)

  short₃ : length b₃ < 2 ^ 32
  short₃ = omega (arith, long)

  -- each section is found where the one before it ends
  at₁ : tokens_at (bytes_of t) ≡ length pre₁
  at₁ = rw is₀ (end_back pre₀ t.text post₀ short₀)

  at₂ : shapes_at (bytes_of t) ≡ length pre₂
  at₂ = rw at₁ (rw is₁ (end_back pre₁ b₁ post₁ short₁))

  at₃ : states_at (bytes_of t) ≡ length pre₃
  at₃ = rw at₂ (rw is₂ (end_back pre₂ b₂ (section b₃) short₂))

  at-end : end_of (bytes_of t) (states_at (bytes_of t)) ≡ length (bytes_of t)
  at-end = rw at₃ (rw is₃ (end_back pre₃ b₃ [] short₃ ∙ rw (append-nil (section b₃))))

  readable-back : readable (bytes_of t) ≡ true
  unfolding readable
  readable-back =
      let first : get_or (bytes_of t) 0 0 ≡ version = rw is₀ in
      let tokens₁ : whole_numbers (bytes_of t) (tokens_at (bytes_of t)) ≡ true = rw at₁ (rw is₁ (whole_back pre₁ post₁ tokens short₁)) in
      let shapes₁ : whole_numbers (bytes_of t) (shapes_at (bytes_of t)) ≡ true = rw at₂ (rw is₂ (whole_back pre₂ (section b₃) shapes short₂)) in
      let states₁ : whole_numbers (bytes_of t) (states_at (bytes_of t)) ≡ true = rw at₃ (rw is₃ (whole_back pre₃ [] states short₃)) in
      rw (le-leb _ _ few, first, eq-eqb _ _ at-end, tokens₁, shapes₁, states₁)

  -- the bytes of tables are read as these tables
  pub read_back : read (bytes_of t) ≡ some t
  unfolding read
  read_back =
      let text₁ : (tables_of (bytes_of t)).text ≡ t.text =
      rw is₀ (rw (size_back pre₀ t.text post₀ short₀) (part-back pre₀ t.text post₀ short₀)) in
      let tokens₁ : table_at (bytes_of t) (tokens_at (bytes_of t)) ≡ t.tokens = rw at₁ (rw is₁ (table_back pre₁ post₁ tokens short₁)) in
      let shapes₁ : table_at (bytes_of t) (shapes_at (bytes_of t)) ≡ t.shapes = rw at₂ (rw is₂ (table_back pre₂ (section b₃) shapes short₂)) in
      let states₁ : table_at (bytes_of t) (states_at (bytes_of t)) ≡ t.states = rw at₃ (rw is₃ (table_back pre₃ [] states short₃)) in
      rw (readable-back, text₁, tokens₁, shapes₁, states₁)

-- ---- from bytes to tables
abbrev pub Bytes : List ℕ → Type 0
Bytes l = (i : ℕ) → get_or l i 0 < 256

-- a part and what stands behind it
cut : (l : List ℕ) (at size : ℕ) → take size (drop at l) ++ drop (at + size) l ≡ drop at l
cut l at size = rw (← drop-drop size at l) (take-append-drop size (drop at l))

-- a part and the part behind it
joined : (l : List ℕ) (at m n : ℕ) → take m (drop at l) ++ take n (drop (at + m) l) ≡ take (m + n) (drop at l)
joined l at m n = rw (← drop-drop m at l) (sym (take-add m n (drop at l)))

four_bytes : (a b c d : ℕ) → a < 256 → b < 256 → c < 256 → d < 256 → bytes_of_number (((a * 256 + b) * 256 + c) * 256 + d) ≡ a ∷ b ∷ c ∷ d ∷ []
four_bytes a b c d ha hb hc hd =
    let n = ((a * 256 + b) * 256 + c) * 256 + d in
    let first : n / 256 / 256 / 256 % 256 ≡ a = omega arith in
    let second : n / 256 / 256 % 256 ≡ b = omega arith in
    let third : n / 256 % 256 ≡ c = omega arith in
    let fourth : n % 256 ≡ d = omega arith in
    rw (first, second, third, fourth)

module _ (sheet : List ℕ) (bytes : Bytes sheet) where
  first-four : (at : ℕ) → at + number_bytes ≤ length sheet
      → take number_bytes (drop at sheet) ≡ get_or sheet at 0 ∷ get_or sheet (at + 1) 0 ∷ get_or sheet (at + 2) 0 ∷ get_or sheet (at + 3) 0 ∷ []
  first-four at fits =
      let one : at + 1 ≡ suc at = omega arith in
      let two : at + 2 ≡ suc (suc at) = omega arith in
      let three : at + 3 ≡ suc (suc (suc at)) = omega arith in
      let first = drop-cons sheet at 0 (omega arith) in
      let second = drop-cons sheet (suc at) 0 (omega arith) in
      let third = drop-cons sheet (suc (suc at)) 0 (omega arith) in
      let fourth = drop-cons sheet (suc (suc (suc at))) 0 (omega arith) in
      rw (one, two, three, first, second, third, fourth)

  number_bytes_lem : (at : ℕ) → at + number_bytes ≤ length sheet → bytes_of_number (number_at sheet at) ≡ take number_bytes (drop at sheet)
  unfolding number_at
  number_bytes_lem at fits =
      four_bytes _ _ _ _ (bytes at) (bytes (at + 1)) (bytes (at + 2)) (bytes (at + 3)) ∙ sym (first-four at fits)

  numbers-bytes : (at count : ℕ)
      → at + count * number_bytes ≤ length sheet
      → bytes_of_numbers (numbers_at sheet at count) ≡ take (count * number_bytes) (drop at sheet)
  unfolding numbers_at bytes_of_numbers
  numbers-bytes at zero fits = refl
  numbers-bytes at (suc count) fits =
      let rest = bytes_of_numbers (numbers_at sheet (at + number_bytes) count) in
      let size : number_bytes + count * number_bytes ≡ suc count * number_bytes = omega arith in
      ap (λ (l : List ℕ). l ++ rest) (number_bytes_lem at (omega arith))
      ∙ ap (λ (l : List ℕ). take number_bytes (drop at sheet) ++ l) (numbers-bytes (at + number_bytes) count (omega arith))
      ∙ joined sheet at number_bytes (count * number_bytes)
      ∙ ap (λ (k : ℕ). take k (drop at sheet)) size

  section-bytes : (at : ℕ) → end_of sheet at ≤ length sheet
      → section (part sheet (bytes_from at) (number_at sheet at)) ≡ take (number_bytes + number_at sheet at) (drop at sheet)
  section-bytes at fits =
      let behind = ends_behind sheet at in
      let n = number_at sheet at in
      let here = part sheet (bytes_from at) n in
      let size : length here ≡ n = length-take-le n (drop (bytes_from at) sheet) (omega (arith, length-drop (bytes_from at) sheet)) in
      ap (λ (k : ℕ). bytes_of_number k ++ here) size ∙ ap (λ (l : List ℕ). l ++ here) (number_bytes_lem at (omega arith))
      ∙ joined sheet at number_bytes n

  table_bytes : (at : ℕ) → end_of sheet at ≤ length sheet → number_at sheet at % number_bytes ≡ 0
      → section (bytes_of_numbers (table_at sheet at)) ≡ take (number_bytes + number_at sheet at) (drop at sheet)
  table_bytes at fits fours =
      let behind = ends_behind sheet at in
      let n = number_at sheet at in
      let whole : n / number_bytes * number_bytes ≡ n = omega arith in
      let same : bytes_of_numbers (table_at sheet at) ≡ part sheet (bytes_from at) n =
      numbers-bytes (bytes_from at) (n / number_bytes) (omega arith) ∙ ap (λ (k : ℕ). take k (drop (bytes_from at) sheet)) whole in
      ap section same ∙ section-bytes at fits

  -- a part that ends where the next section begins
  next : (at : ℕ) {bytes rest : List ℕ}
      → bytes ≡ take (number_bytes + number_at sheet at) (drop at sheet)
      → rest ≡ drop (end_of sheet at) sheet
      → bytes ++ rest ≡ drop at sheet
  next at {bytes} {rest} e f =
      let on : at + (number_bytes + number_at sheet at) ≡ end_of sheet at = omega (arith, ends_behind sheet at) in
      rw (e, f, ← on) (cut sheet at (number_bytes + number_at sheet at))

  pub whole-bytes : Whole sheet → bytes_of (tables_of sheet) ≡ sheet
  unfolding bytes_of
  whole-bytes w =
      let e₀ = ends_behind sheet text_at in
      let e₁ = ends_behind sheet (tokens_at sheet) in
      let e₂ = ends_behind sheet (shapes_at sheet) in
      let e₃ = ends_behind sheet (states_at sheet) in
      let end = w.end in
      let at = states_at sheet in
      let behind = length-drop at sheet in
      let last : section (bytes_of_numbers (table_at sheet at)) ≡ drop at sheet =
      table_bytes at (omega arith) w.states ∙ take_all (number_bytes + number_at sheet at) (drop at sheet) (omega arith) in
      let third = next (shapes_at sheet) (table_bytes (shapes_at sheet) (omega arith) w.shapes) last in
      let second = next (tokens_at sheet) (table_bytes (tokens_at sheet) (omega arith) w.tokens) third in
      let first = next text_at (section-bytes text_at (omega arith)) second in
      rw (first, ← w.first) (sym (drop-cons sheet 0 0 (omega arith)))

  -- a sheet that is read is the bytes of the tables that it is read as
  pub only_bytes : {t : Tables} → read sheet ≡ some t → bytes_of t ≡ sheet
  unfolding read
  only_bytes {t} e =
      either (readable sheet)
      (λ ok.
      let is : some (tables_of sheet) ≡ some t = rw ok at e in
      let same : tables_of sheet ≡ t = cc in
      rw (← same) (whole-bytes (whole-sheet sheet ok)))
      (λ bad. let is : none ≡ some t = rw bad at e in let z : ◌≡◌ {A = ℕ} 0 1 = cc in absurd (omega arith))
