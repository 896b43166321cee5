-- The reason of each dropped row fits its token's kind: trivia is a blank, a break or a comment, an opener opens a body, a closer is a \fi. By going
-- down the definition of what is dropped. Assumes nothing.
use Prim.Native.Nat.{ℕ, zero, suc, ◌+◌, ◌-◌, ◌*◌}
use mathlib.Core.Path.{◌≡◌, refl}
use mathlib.Core.Bool.{Bool, true, false, cond, ◌&&◌, ◌||◌, false≢true}
use mathlib.Core.List.{List, [], ◌++◌}
use Rattle.std.specs.Prelude.{Option, None as none, Some as some}
use native.Mathlib.Omega.{arith}
use lib.Dec.{eqb}
use lib.ListN.{length}
use Rattle.rules.specs.Exactly.{Reason, trivia, opener, closer, Reasoned, no_row, a_row, kind_of, is_blank, opens_if, passes, blanks_from, passed_before, end_of, is_body, closing, closer_row, dropped_in, dropped_all, dropped_passing}
use Rattle.rules.specs.Flat.{dropped_row, reason_trivia, reason_opener, reason_closer}
use Rattle.rules.specs.Limits
use Rattle.rules.specs.Position.{Source}
use Rattle.rules.specs.SyntaxKind
use Rattle.rules.specs.Tables.{token_count}
use Rattle.rules.specs.Token
use Rattle.rules.specs.Tree.{Tree, Forest, leaf, node, none, more, leaves_in, leaves_all}

module _ (source : Source) where
  pub whole-rows : {n : ℕ} {l : List ℕ} → Reasoned source n l → n * Limits.dropped_width ≡ length l
  whole-rows no_row = refl
  whole-rows (a_row reason rest) = let more = whole-rows rest in omega arith

  pub record Rows (l : List ℕ) : Type 0 where
    pub count : ℕ
    pub rows : Reasoned source count l

  no_rows : Rows []
  no_rows = record { count = 0; rows = no_row }

  one-row : (token reason leaves : ℕ) → Reason source token reason → Rows (dropped_row token reason leaves)
  one-row token reason leaves fits = record { count = 1; rows = a_row fits no_row }

  append_rows : {l k : List ℕ} {n : ℕ} → Reasoned source n l → Rows k → Rows (l ++ k)
  append_rows no_row h = h
  append_rows (a_row fits rest) h = let behind = append_rows rest h in record { count = suc behind.count; rows = a_row fits behind.rows }

  both_rows : {l k : List ℕ} → Rows l → Rows k → Rows (l ++ k)
  both_rows h k = append_rows h.rows k

  cond_rows : (t : Bool) {l k : List ℕ} → (t ≡ true → Rows l) → Rows k → Rows (cond t l k)
  cond_rows true h g = h refl
  cond_rows false h g = g

  -- ---- the three things

  blanks_rows : (n token leaves : ℕ) → Rows (blanks_from source n token leaves)
  unfolding blanks_from
  blanks_rows zero token leaves = no_rows
  blanks_rows (suc n) token leaves =
      both_rows (cond_rows (is_blank source token) (λ e. one-row token reason_trivia leaves (trivia e)) no_rows) (blanks_rows n (token + 1) leaves)

  passed_rows : (behind : ℕ) (t : Tree) (leaves : ℕ) → Rows (passed_before source behind t leaves)
  passed_rows behind (leaf l) leaves = no_rows
  passed_rows behind (node kind from to inside) leaves =
      cond_rows (eqb kind SyntaxKind.ClauseArgument) (λ _. blanks_rows (from - behind) behind leaves) no_rows

  opens : (a b c d : Bool) → (a && c) || (b && d) ≡ true → c || (d || false) ≡ true
  opens a b true d e = refl
  opens a b false true e = refl
  opens true true false false e = absurd (false≢true e)
  opens true false false false e = absurd (false≢true e)
  opens false true false false e = absurd (false≢true e)
  opens false false false false e = absurd (false≢true e)

  opener_fits : (kind from : ℕ) → is_body source kind from ≡ true → Reason source from reason_opener
  unfolding is_body
  opener_fits kind from e =
      opener (opens (eqb kind SyntaxKind.ItemBlockComment) (eqb kind SyntaxKind.ItemTypstCode) (eqb (kind_of source from) Token.IfFalse) _ e)

  -- a closer, if there is one, is a \fi
  data Closes : Option ℕ → Type 0 where
    open_ended : Closes none
    closes : (token : ℕ) → eqb Token.EndIf (kind_of source token) ≡ true → Closes (some token)

  closes_if : (t : Bool) {x y : Option ℕ} → (t ≡ true → Closes x) → Closes y → Closes (cond t x y)
  closes_if true h k = h refl
  closes_if false h k = k

  closing-closes : (n unclosed token : ℕ) → Closes (closing source n unclosed token)
  unfolding closing
  closing-closes zero unclosed token = open_ended
  closing-closes (suc n) unclosed token =
      closes_if (eqb Token.EndIf (kind_of source token))
      (λ e. closes_if (eqb unclosed 0) (λ _. closes token e) (closing-closes n (unclosed - 1) (token + 1)))
      (closes_if (opens_if source token) (λ _. closing-closes n (unclosed + 1) (token + 1)) (closing-closes n unclosed (token + 1)))

  closer-rows : {o : Option ℕ} (leaves : ℕ) → Closes o → Rows (closer_row source o leaves)
  closer-rows leaves open_ended = no_rows
  closer-rows leaves (closes token e) = one-row token reason_closer leaves (closer e)

  -- ---- down the tree

  mutual
    unfolding dropped_in

    pub dropped-rows : (t : Tree) (leaves : ℕ) → Rows (dropped_in source leaves t)
    dropped-rows (leaf l) leaves = no_rows
    dropped-rows (node kind from to inside) leaves =
        let left = token_count source.tokens - (from + 1) in
        let closed = closer-rows (leaves + leaves_all inside) (closing-closes left 0 (from + 1)) in
        cond_rows (is_body source kind from) (λ e. both_rows (one-row from reason_opener leaves (opener_fits kind from e)) closed)
        (cond_rows (passes source kind from) (λ _. passing_rows inside from leaves) (all_rows inside leaves))

    all_rows : (ts : Forest) (leaves : ℕ) → Rows (dropped_all source leaves ts)
    all_rows none leaves = no_rows
    all_rows (more t rest) leaves = both_rows (dropped-rows t leaves) (all_rows rest (leaves + leaves_in t))

    passing_rows : (ts : Forest) (behind leaves : ℕ) → Rows (dropped_passing source behind leaves ts)
    passing_rows none behind leaves = no_rows
    passing_rows (more t rest) behind leaves =
        both_rows (passed_rows behind t leaves) (both_rows (dropped-rows t leaves) (passing_rows rest (end_of source t) (leaves + leaves_in t)))
