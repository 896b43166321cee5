-- The parts are tested one behind the other: the first that fails ends the search, and else no number is left.
use Rattle.std.proofs.Common.{rules, tests, ◌≡◌, ℕ, ◌-◌, Bool, true, false, ◌&&◌, List, ◌∷◌, [], length, drop, refl, sym, ap, subst, ◌∙◌}
use Rattle.std.proofs.Common.{Option, None, Some, Bor, arith, length-drop}
use Rattle.std.specs.Fn.{Mut, Called}
use Rattle.std.specs.Iterator.{Yields, YieldsThen}
use Rattle.std.specs.List.{FoldsTo, list_all}
use Rattle.std.specs.Option.{MatchOption, unwrap_or}
use Rattle.std.specs.Slice.{IsGetRangeResult}
use Rattle.std.specs.Slice.Iter.{chunks_rest, chunks_steps}
use Rattle.std.specs.declared.slice.Chunks.{Chunks}
use Rattle.std.proofs.lemmas.List.{nil_from_length, take_all}
use Rattle.std.proofs.lemmas.List.Folds.{list_all-append}
use Rattle.compare.proofs.Telling.{only}
use Rattle.compare.proofs.OneNumber.{is, tests_tell}
use Rattle.compare.proofs.all_from.Goals as goal

-- the numbers from one on: none, where that lies past the end
behind : (buffer : List ℕ) (start from : ℕ) → start ≡ from → (part : Option (Bor (List ℕ))) (none : Bor (List ℕ)) → none.now ≡ []
    → IsGetRangeResult buffer start (length buffer) part → (unwrap_or part none).now ≡ drop from buffer
behind buffer start from is_from None none empty got =
    empty ∙ sym (nil_from_length (drop from buffer) (omega (arith, length-drop from buffer, got.0, is_from)))
behind buffer start from is_from (Some x) none empty got =
    let now : x.now ≡ _ = got.0.2 in
    now ∙ take_all (length buffer - start) (drop start buffer) (omega (arith, length-drop start buffer))
    ∙ ap (λ (n : ℕ). drop n buffer) is_from

-- `all` over the parts, with a closure that tests each number of a part
module _ {F : Type 0} (g : Mut F (Bor (List ℕ) × Unit {0}) Bool) (test : ℕ → Bool) (f : F)
    (tests_part : (x : Bor (List ℕ)) (b : Bool) (q : F) → Called g f (x, tt) b q → (q ≡ f) × (b ≡ list_all test x.now)) where
  abbrev Passes : F → Bor (List ℕ) → F → Type 0
  Passes p x q = Called g p (x, tt) true q

  -- the call that ended the search, if one did
  abbrev Ends : Bool → F → Option (Bor (List ℕ)) → Type 0
  Ends r p o = MatchOption o (r ≡ true) (λ x. (r ≡ false) × ((q : F) × Called g p (x, tt) false q))

  -- whether the numbers that are left pass
  abbrev left : Chunks ℕ → Bool
  left s = list_all test (chunks_rest s)

  one_part : (s t : Chunks ℕ) (x : Bor (List ℕ)) (b : Bool) → chunks_steps s (Some x) t → b ≡ list_all test x.now
      → left s ≡ (b && left t)
  one_part s t x b step e =
      let cut : chunks_rest s ≡ _ = step.1.0 in
      ap (list_all test) cut ∙ list_all-append test x.now (chunks_rest t) ∙ ap (λ (a : Bool). a && left t) (sym e)

  passed : (xs : List (Bor (List ℕ))) (s t : Chunks ℕ) (p : F) → Yields chunks_steps s xs t → FoldsTo Passes f xs p
      → (p ≡ f) × (left s ≡ left t)
  passed [] s t p same stays = (sym stays, ap left same)
  passed (x ∷ xs) s t p (u, step, yields) (q, called, folds) =
      let (unmoved, passes) = tests_part x true q called in
      let (still, rest) = passed xs u t p yields (subst (λ k. FoldsTo Passes k xs p) unmoved folds) in
      (still, one_part s u x true step passes ∙ rest)

  ended : (r : Bool) (t u : Chunks ℕ) (o : Option (Bor (List ℕ))) → chunks_steps t o u → Ends r f o → r ≡ left t
  ended r t u None step all =
      let empty : length (chunks_rest t) ≡ 0 = step.1.0 in
      all ∙ sym (ap (list_all test) (nil_from_length (chunks_rest t) empty))
  ended r t u (Some x) step (failed, (q, called)) =
      let (unmoved, fails) = tests_part x false q called in
      failed ∙ sym (one_part t u x false step fails)

  tests_all : (r : Bool) (s u : Chunks ℕ)
      → (xs : List (Bor (List ℕ))) × (o : Option (Bor (List ℕ))) × (p : F) × YieldsThen chunks_steps s xs o u
      × FoldsTo Passes f xs p × Ends r p o
      → r ≡ left s
  tests_all r s u (xs, o, p, (t, yields, step), folds, ends) =
      let (unmoved, rest) = passed xs s t p yields folds in
      ended r t u o step (subst (λ k. Ends r k o) unmoved ends) ∙ sym rest

pub returns : goal.returns
returns c =
    let value = c.args.value in
    let asked = drop c.args.from c.args.buffer.now in
    let cut : c.chunks.result.rest.now ≡ asked =
    c.chunks.ensures.rest ∙ ap (λ (b : Bor (List ℕ)). b.now) c.unwrap_or-rest.ensures
    ∙ behind c.args.buffer.now _ c.args.from (search (rules, tests)) c.get.result _ refl c.get.ensures.lookup in
    let all : c.all.result ≡ list_all (is value) c.chunks.result.rest.now =
    tests_all _ (is value) _
    (λ x b q k. (search (rules, tests), only b (list_all (is value) x.now) (search (rules, tests)) (tests_tell value x.now)))
    _ c.chunks.result _ c.all.ensures.ran in
    rw (all, cut) (rw length-drop at (tests_tell value asked))
