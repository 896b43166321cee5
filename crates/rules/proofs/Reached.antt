-- How far reading has come, as leaves and dropped rows: a cursor stands before a token or in the middle of a Word, each leaf takes what is left of
-- the token or a part of a Word, each dropped row a token. Read to the end, that is the statement token by token. Assumes nothing.
use Prim.Native.Nat.{ℕ, suc, ◌+◌, ◌≤◌, ◌<◌}
use mathlib.Core.Path.{◌≡◌}
use mathlib.Core.Bool.{true}
use mathlib.Core.List.{List, [], ◌∷◌, ◌++◌, append-nil}
use native.Mathlib.Omega.{arith}
use native.Mathlib.Nat.{add-zero, sub-zero}
use lib.Dec.{eqb}
use lib.ListN.{length, length-append}
use lib.Seq.{append_snoc}
use borrow.Author.Tests.{eqb-true, eqb-false}
use Rattle.rules.specs.Characters.{is_utf8}
use Rattle.rules.specs.Cursor.{Cursor, at_start, rest_start, rest_length, peek_text, eaten}
use Rattle.rules.specs.Flat.{dropped_row}
use Rattle.rules.specs.Limits
use Rattle.rules.specs.Position.{Source}
use Rattle.rules.specs.PutBack.{Stretch, Parts, last, more, EachToken, end, leaf, split, drops}
use Rattle.rules.specs.Tables.{token_count, kind_at, start_at, length_at, part}
use Rattle.rules.specs.Token
use Rattle.rules.proofs.Characters.{either}

-- leaves by start, length and token, and dropped rows
abbrev pub Leaves : Type 0
Leaves = List Stretch

abbrev pub Dropped : Type 0
Dropped = List (List ℕ)

-- the cursor in the middle of a Word, so many bytes on
abbrev pub partly : Cursor → ℕ → Cursor
partly c n = record { token = c.token; taken = c.taken + n }

-- before a token
abbrev pub before : ℕ → Cursor
before token = record { token = token; taken = 0 }

-- what the checks tell of the tokens: each lies in the text, and a Word is some characters
pub record Sound (source : Source) : Type 0 where
  pub text : length source.text ≤ Limits.text
  pub inside : (i : ℕ) → i < token_count source.tokens → start_at source.tokens i + length_at source.tokens i ≤ length source.text
  pub some : (i : ℕ) → i < token_count source.tokens → kind_at source.tokens i ≡ Token.Word → 1 ≤ length_at source.tokens i
  pub utf8 :
      (i : ℕ)
      → i < token_count source.tokens
      → kind_at source.tokens i ≡ Token.Word
      → is_utf8 (part source.text (start_at source.tokens i) (length_at source.tokens i)) ≡ true

module _ (source : Source) where
  -- a token is next
  abbrev pub There : Cursor → Type 0
  There c = c.token < token_count source.tokens

  -- and it is a Word
  abbrev pub AtWord : Cursor → Type 0
  AtWord c = kind_at source.tokens c.token ≡ Token.Word

  -- a part of the next token is taken: it is a Word, and some characters are left of it
  pub record Midway (c : Cursor) : Type 0 where
    pub there : There c
    pub word : AtWord c
    pub less : c.taken < length_at source.tokens c.token
    pub utf8 : is_utf8 (peek_text source.text source.tokens c) ≡ true

  pub record Standing (c : Cursor) : Type 0 where
    pub inside : c.token ≤ token_count source.tokens
    pub midway : 1 ≤ c.taken → Midway c

  -- what is left of the next token
  abbrev start : Cursor → ℕ
  start c = rest_start source.tokens c

  abbrev size : Cursor → ℕ
  size c = rest_length source.tokens c

  -- the next so many bytes of it, as a leaf
  abbrev pub stretch_of : Cursor → ℕ → Stretch
  stretch_of c n = record { start = start c; size = n; token = c.token }

  -- from a token on, behind so many leaves, each token is a leaf, the parts of a split Word or a dropped row
  abbrev Each : ℕ → ℕ → Leaves → Dropped → Type 0
  Each token k leaves dropped = EachToken source.tokens token k leaves dropped

  pub data Reached : Leaves → Dropped → Cursor → Type 0 where
    nothing : Reached [] [] at_start
    takes_rest : {leaves : Leaves} {dropped : Dropped} {c : Cursor}
        → Reached leaves dropped c
        → There c
        → Standing c
        → Reached (leaves ++ (stretch_of c (size c) ∷ [])) dropped (eaten c)
    takes_part : {leaves : Leaves} {dropped : Dropped} {c : Cursor} {n : ℕ}
        → Reached leaves dropped c
        → There c
        → AtWord c
        → 1 ≤ n
        → n < size c
        → Reached (leaves ++ (stretch_of c n ∷ [])) dropped (partly c n)
    drops_it : {leaves : Leaves} {dropped : Dropped} {c : Cursor} (reason : ℕ)
        → Reached leaves dropped c
        → There c
        → c.taken ≡ 0
        → Reached leaves (dropped ++ (dropped_row c.token reason (length leaves) ∷ [])) (eaten c)

  -- ---- token by token

  -- the leaves and dropped rows from a cursor on, k leaves being written before them
  data From : Cursor → ℕ → Leaves → Dropped → Type 0 where
    at : {c : Cursor} {k : ℕ} {leaves : Leaves} {dropped : Dropped} → c.taken ≡ 0 → Each c.token k leaves dropped → From c k leaves dropped
    within : {c : Cursor} {k : ℕ} {parts leaves : Leaves} {dropped : Dropped}
        → 1 ≤ c.taken
        → Parts c.token (start c) (size c) parts
        → Each (c.token + 1) (k + length parts) leaves dropped
        → From c k (parts ++ leaves) dropped

  behind : (c : Cursor) {k : ℕ} {leaves : Leaves} {dropped : Dropped} → From (eaten c) k leaves dropped → Each (c.token + 1) k leaves dropped
  behind c (at e each) = each
  behind c (within some parts each) = absurd (omega arith)

  module _ (c : Cursor) where
    rest_some : c.taken < length_at source.tokens c.token → 1 ≤ size c
    unfolding rest_length
    rest_some less = omega arith

    pub whole-start : c.taken ≡ 0 → start c ≡ start_at source.tokens c.token
    unfolding rest_start
    whole-start e = rw (e, add-zero)

    pub whole_length : c.taken ≡ 0 → size c ≡ length_at source.tokens c.token
    unfolding rest_length
    whole_length e = rw (e, sub-zero)

    module _ {k : ℕ} {leaves : Leaves} {dropped : Dropped} where
      -- what is left of a token is a leaf
      from_rest : There c → Standing c → Each (c.token + 1) (k + 1) leaves dropped → From c k (stretch_of c (size c) ∷ leaves) dropped
      from_rest there stands each =
          either (eqb c.taken 0)
          (λ e. let none = eqb-true c.taken 0 e in rw (whole-start none, whole_length none) (at none (leaf there each)))
          (λ e.
          let some = eqb-false c.taken 0 e in
          let mid = stands.midway (omega arith) in
          within (omega arith) (last (rest_some mid.less)) each)

    -- a part of a Word is taken, and what follows are more parts of it
    next_start : (n : ℕ) → start (partly c n) ≡ start c + n
    unfolding rest_start
    next_start n = omega arith

    next-length : (n : ℕ) → n < size c → size c ≡ n + size (partly c n)
    unfolding rest_length
    next-length n less = omega arith

    from_part : {k : ℕ} {leaves : Leaves} {dropped : Dropped} (n : ℕ)
        → There c
        → AtWord c
        → 1 ≤ n
        → n < size c
        → From (partly c n) (k + 1) leaves dropped
        → From c k (stretch_of c n ∷ leaves) dropped
    from_part n there word some less (at e each) = absurd (omega arith)
    from_part {k} n there word some less (within {parts} taken are each) =
        let count : k + 1 + length parts ≡ k + suc (length parts) = omega arith in
        let all : Parts c.token (start c) (size c) (stretch_of c n ∷ parts) = rw (next-length n less) (more some (rw (next_start n) at are)) in
        either (eqb c.taken 0)
        (λ e.
        let none = eqb-true c.taken 0 e in
        rw (whole-start none) (at none (split there word (rw (whole-start none, whole_length none) at all) (rw count at each))))
        (λ e. let some = eqb-false c.taken 0 e in within (omega arith) all (rw count at each))

  -- what is reached, and then the rest
  told : {leaves leaves' : Leaves} {dropped dropped' : Dropped} {c : Cursor}
      → Reached leaves dropped c
      → From c (length leaves) leaves' dropped'
      → Each 0 0 (leaves ++ leaves') (dropped ++ dropped')
  told nothing (at e each) = each
  told nothing (within some are each) = absurd (omega arith)
  told {leaves'} (takes_rest {leaves} {c} reached there stands) from =
      rw (append_snoc leaves (stretch_of c (size c)) leaves') (told reached (from_rest c there stands (rw length-append at (behind c from))))
  told {leaves'} (takes_part {leaves} {c} {n} reached there word some less) from =
      rw (append_snoc leaves (stretch_of c n) leaves') (told reached (from_part c n there word some less (rw length-append at from)))
  told {dropped'} (drops_it {leaves} {dropped} {c} reason reached there whole) from =
      rw (append_snoc dropped (dropped_row c.token reason (length leaves)) dropped') (told reached (at whole (drops there (behind c from))))

  -- read to the end
  pub all_told : {leaves : Leaves} {dropped : Dropped} {c : Cursor}
      → c.token ≡ token_count source.tokens
      → c.taken ≡ 0
      → Reached leaves dropped c
      → Each 0 0 leaves dropped
  all_told {leaves} {dropped} over whole reached = rw (append-nil leaves, append-nil dropped) at (told reached (at whole (end over)))
