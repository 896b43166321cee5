-- Each test asks a part of what is recorded of an accepted run, and together they ask all.
use Rattle.std.proofs.Common.{◌≡◌, ℕ, ◌+◌, ◌*◌, ◌≤◌, Bool, true, false, List, length, refl, sym, ap, ◌∙◌, arith}
use Rattle.rules.specs.Limits.{tree_width, dropped_width}
use Rattle.rules.specs.Sheet.{number_at}
use Rattle.rules.proofs.Characters.{either}
use Rattle.listings.specs.Stands.{ran_of}
use Rattle.listings.specs.declared.answer.Counts.{Counts}
use Rattle.compare.specs.Tells.{Tells, AllFrom}
use Rattle.compare.proofs.Telling.{fails, tells_as}
use Rattle.recorded.specs.Compared.{Compares, RowsAre}
use Rattle.recorded.specs.Regular.{tree_regular}
use Rattle.recorded.specs.Recorded.{tree_form, dropped_form, rows_end, before, Agrees}
use Rattle.std.specs.Prelude.{Option, Some, None, Ok, not, eqb}
use Rattle.std.specs.Option.{option_eq}
use borrow.Author.Tests.{eqb-true, eq-eqb}
use Rattle.recorded.proofs.Agreeing.{AsAccepted, agrees_accepted, accepted_agrees}
use Rattle.recorded.proofs.Comparing.{found}
use Rattle.recorded.proofs.Forms.{rows_near}
use Rattle.recorded.proofs.recorded.is_accepted.Goals as goal

module _ (case : List ℕ) (at : ℕ) (tree dropped : List ℕ) (counts : Counts) where
  abbrev Yes : Type 0
  Yes = Agrees case at (ran_of (Ok counts) tree dropped)

  abbrev rows : ℕ
  rows = counts.rows

  abbrev drops : ℕ
  drops = counts.dropped

  no_if : (AsAccepted case at tree dropped rows drops → ⊥) → Tells Yes false
  no_if none = fails (λ k. none (accepted_agrees case at tree dropped rows drops k))

  module _ {trees : Option ℕ} (tree_rows : Compares (rows_end tree_form case (at + 12) rows) (RowsAre tree_form case (at + 12) tree rows) trees) where
    tree_differs : trees ≡ None → Tells Yes false
    tree_differs is = no_if (λ k. tree_rows.differs is k.tree_rows)

    module _ {next : ℕ} (same : trees ≡ Some next) {others : Option ℕ}
        (dropped_rows : Compares (rows_end dropped_form case next drops) (RowsAre dropped_form case next dropped drops) others) where
      next_is : next ≡ rows_end tree_form case (at + 12) rows
      next_is = (tree_rows.same next same).0

      dropped_differs : (others ≡ Some (length case) → ⊥) → Tells Yes false
      dropped_differs other =
          no_if (λ k. other (found _ dropped_rows (rw next_is k.dropped-rows) ∙ ap (λ (n : ℕ). Some n) (rw next_is k.ends)))

      module _ (ends : others ≡ Some (length case)) {tree_goes : Bool} (tree_rest : Tells (AllFrom tree (rows * tree_width) before) tree_goes) where
        end_is : length case ≡ rows_end dropped_form case (rows_end tree_form case (at + 12) rows) drops
        end_is = rw next_is at (dropped_rows.same (length case) ends).0

        tree_goes_on : tree_goes ≡ false → Tells Yes false
        tree_goes_on is = no_if (λ k. tree_rest.no is k.tree_rest)

        all : {n m l : ℕ} {s : Bool} → tree_goes ≡ true → n ≡ number_at case at → n ≡ 0 → m ≡ number_at case (at + 4) → rows ≡ m
            → l ≡ number_at case (at + 8) → drops ≡ l → Tells (AllFrom dropped (drops * dropped_width) before) s
            → Tells Yes s
        all is none_is none row_count row_count_is drop_count drop_count_is rest =
            let whole : AllFrom dropped (drops * dropped_width) before → AsAccepted case at tree dropped rows drops = λ dropped_rest.
            record {
              none = sym none_is ∙ none;
              row_count = row_count_is ∙ row_count;
              drop_count = drop_count_is ∙ drop_count;
              tree_rows = (tree_rows.same next same).1;
              dropped-rows = rw next_is at (dropped_rows.same (length case) ends).1;
              ends = sym end_is;
              tree_rest = tree_rest.yes is;
              dropped-rest = dropped_rest;
            } in
            let last : Yes → AllFrom dropped (drops * dropped_width) before = λ k. (accepted_agrees case at tree dropped rows drops k).dropped-rest in
            tells_as (λ p. agrees_accepted case at tree dropped rows drops (whole p)) last rest

-- rows end not far behind their place
near : (case : List ℕ) (at rows : ℕ) {next : ℕ} {P : Type 0} {trees : Option ℕ} → Compares (rows_end tree_form case at rows) P trees
    → trees ≡ Some next → next ≤ at + 7 * rows
near case at rows compares same = rw (compares.same _ same).0 (rows_near tree_regular case at rows)

-- whether the dropped rows end where the case does
ends_there : (r : Option ℕ) (n : ℕ) {ne : Bool} → ne ≡ not (option_eq eqb r (Some n)) → ne ≡ false → r ≡ Some n
ends_there (Some m) n is here =
    either (eqb m n) (λ same. let e : m ≡ n = eqb-true m n same in rw e) (λ other. let no : not (eqb m n) ≡ true = rw other in cc)
ends_there None n is here = cc

ends_elsewhere : (r : Option ℕ) (n : ℕ) {ne : Bool} → ne ≡ not (option_eq eqb r (Some n)) → ne ≡ true → r ≡ Some n → ⊥
ends_elsewhere r n is elsewhere e = let same : not (option_eq eqb r (Some n)) ≡ false = rw (e, eq-eqb n n refl) in cc

pub returns-in_default : goal.returns-in_default
returns-in_default c = search tree_differs

pub rows_from-dropped_end-requires : goal.rows_from-dropped_end-requires
rows_from-dropped_end-requires c =
    let behind = near _ _ _ c.rows_from-tree_end.ensures c.in-Some.is in
    (omega arith, omega arith)

pub returns-then-ne : goal.returns-then-ne
returns-then-ne c = search (dropped_differs, ends_elsewhere)

pub returns-then-not-all_from : goal.returns-then-not-all_from
returns-then-not-all_from c = search (tree_goes_on, ends_there)

pub returns : goal.returns
returns c = search (all, ends_there)
