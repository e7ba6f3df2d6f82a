-- If the sides of an abstraction are the same, the goal of its file holds for all stores under every reading of the
-- declared tests and actions that keeps the stated hypotheses.
use Rattle.std.proofs.Common.{◌≡◌, ℕ, zero, suc, ◌+◌, ◌<◌, ◌≤◌, inl, inr, ⊎_elim, ◌↔◌, List, [], ◌∷◌, ◌++◌, length, map, refl, sym, ◌∙◌, subst, arith, true, false, slice_get, Option, Some, None, Ok}
use Rattle.std.proofs.lemmas.Bool.{cases_Bool, cases_lt, not_from_false}
use Rattle.std.proofs.lemmas.List.{length-map}
use Rattle.std.proofs.lemmas.Option.{same_Some, slice_get_within}
use Rattle.kat_model.specs.Trees.{Term, complement}
use Rattle.kat_model.specs.Members.{Has, IsSubset}
use Rattle.kat_model.specs.Stores.{modulus, Store}
use Rattle.kat_model.specs.Steps.{truth}
use Rattle.kat_model.specs.Relations.{RelatesIn, Same}
use Rattle.kat_model.proofs.Places.{place_of_member}
use Rattle.while_lang.specs.Files.{FileParts, SideTree, term_side, prog_side, GoalTree, equal, below, triple}
use Rattle.while_lang.specs.Concrete.{IsStoreOf}
use Rattle.while_lang.specs.Ranges.{IsSideInRange, IsGoalInRange}
use Rattle.abstraction.specs.declared.rows.ActionRow.{ActionRow}
use Rattle.abstraction.specs.declared.rows.ActionRow.TheVariants as action
use Rattle.abstraction.specs.declared.rows.TestRow.TheVariants as test
use Rattle.abstraction.specs.Abstracts.{AbstractParts, test_rows_of, action_rows_of, file_problem, abstract_parts, abstract_of, HasNumbersInRange}
use Rattle.abstraction.specs.Comparisons.{cond_comparisons, side_comparisons, goal_comparisons, side_assignments, goal_assignments}
use Rattle.abstraction.specs.Derived.{stated_from, derived as derived_hyps}
use Rattle.abstraction.specs.Facts.{Hypothesis}
use Rattle.abstraction.specs.Goals.{side_term, goal_sides}
use Rattle.abstraction.specs.Readings.{Reading, holds_by, row_by, StepsBy, KeepsStated, SideLeads, GoalHoldsBy}
use Rattle.abstraction.specs.Rounds.{file_comparisons, tables_of}
use Rattle.abstraction.specs.Tables.{file_assignments}
use Rattle.abstraction.specs.Tests.{cond_test}
use Rattle.abstraction.proofs.DerivedHypotheses.{derived_relate_none, past_stated, abstract_parts_of}
use Rattle.abstraction.proofs.GoalRows.{goal_comparisons_within, goal_assignments_within}
use Rattle.kat_model.proofs.PathTables.{FitsProblem, same_in_frame}
use Rattle.abstraction.proofs.ReadingRuns.{frame_by, cond_by, leads_as_related}
use Rattle.kat_model.proofs.RelatesNothing.{RelatesNone}
use Rattle.abstraction.proofs.RowTruths.{length-rows, two_within, three_within}
use Rattle.abstraction.proofs.StoreRows.{are_rows_with, are_action_rows}
use Rattle.abstraction.proofs.TableForms.{assignments_in_range, comparisons_atomic}

-- the terms of the first hypotheses are those that are stated
stated_has : (k n : ℕ) (hs : List Term) (later : List Hypothesis) (h : Term) → k < length hs → slice_get (map (λ y. y.term) (stated_from n hs ++ later)) k ≡ Some h → Has hs h
stated_has k n [] later h lt at = absurd (omega (arith, lt))
stated_has zero n (x ∷ hs) later h lt at = inl (same_Some x h at)
stated_has (suc k) n (x ∷ hs) later h lt at = inr (stated_has k (n + 1) hs later h (omega (arith, lt)) at)

-- a step is one of the actions
steps_within : (m : ℕ) (r : Reading) (rows : List ActionRow) (k : ℕ) (s t : Store) → StepsBy m r (slice_get rows k) s t → k < length rows
steps_within m r rows k s t h = go (slice_get rows k) refl h
  where
    go : (row : Option ActionRow) → slice_get rows k ≡ row → StepsBy m r row s t → k < length rows
    go (Some a) e h = slice_get_within rows k a e
    go None e h = absurd h

module _ (f : FileParts) (r : Reading) (range : HasNumbersInRange f) where
  -- the frame of the reading satisfies the problem if it keeps the stated hypotheses
  readings_fit : KeepsStated f (abstract_parts f) r → FitsProblem (frame_by f (file_comparisons f) (file_assignments f) r) (file_problem f)
  readings_fit stated = record { wide = λ s is. wide s; acts = acts; keeps = keeps }
    where
      wide : (s : Store) → length ((frame_by f (file_comparisons f) (file_assignments f) r).atom s) ≡ f.tests + length (file_comparisons f)
      wide s =
          length-map (test_rows_of (tables_of f)) (row_by (modulus f.width) r s)
          ∙ length-rows test.Named test.Compare f.tests (file_comparisons f)

      acts : (k : ℕ) (s t : Store) → StepsBy (modulus f.width) r (slice_get (action_rows_of (tables_of f)) k) s t → k < f.actions + length (file_assignments f)
      acts k s t h =
          subst (λ n. k < n) (length-rows action.Named (λ b. action.Assign b.var b.form) f.actions (file_assignments f))
          (steps_within (modulus f.width) r (action_rows_of (tables_of f)) k s t h)

      derived : (k : ℕ) (h : Term) → length f.hyps ≤ k → slice_get (file_problem f).hyps k ≡ Some h → RelatesNone (frame_by f (file_comparisons f) (file_assignments f) r) h
      derived k h past at =
          past_stated (RelatesNone (frame_by f (file_comparisons f) (file_assignments f) r)) (tables_of f) f.hyps k h past
          (derived_relate_none (frame_by f (file_comparisons f) (file_assignments f) r) (tables_of f)
          (are_rows_with (modulus f.width) (tables_of f) (row_by (modulus f.width) r) (λ s a. refl) (comparisons_atomic f range.goal))
          (are_action_rows (modulus f.width) (tables_of f) (frame_by f (file_comparisons f) (file_assignments f) r) f.vars (λ s i. i.0)
          (λ i x g s u row step. subst (λ o. StepsBy (modulus f.width) r o s u) row step) (assignments_in_range f range.goal)))
          at

      keeps : (h : Term) → Has (file_problem f).hyps h → (s t : Store) → IsStoreOf f s → IsStoreOf f t → RelatesIn (frame_by f (file_comparisons f) (file_assignments f) r) h s t → ⊥
      keeps h has s t ss st rel =
          let place = place_of_member (file_problem f).hyps h has in
          ⊎_elim
          (λ lt. stated h (stated_has place.0 0 f.hyps (derived_hyps (tables_of f)) h lt place.1) s t ss st rel)
          (λ past. derived place.0 h past place.1 s t ss st rel)
          (cases_lt place.0 (length f.hyps))

  -- a side leads where its term relates
  side_related : (side : SideTree) → IsSideInRange f.tests f.actions f.vars side → IsSubset (side_comparisons (modulus f.width) side) (file_comparisons f) → IsSubset (side_assignments (modulus f.width) side) (file_assignments f)
      → (s t : Store) → IsStoreOf f s → IsStoreOf f t
      → SideLeads f (abstract_parts f) r side s t ↔ RelatesIn (frame_by f (file_comparisons f) (file_assignments f) r) (side_term (tables_of f) side) s t
  side_related (term_side e) is tests acts s t ss st = ((λ h. h), (λ h. h))
  side_related (prog_side p) is tests acts s t ss st = leads_as_related f (file_comparisons f) (file_assignments f) r p is tests acts s t ss st

  -- the sides of the goal relate the same stores
  abbrev SidesAlike : GoalTree → Type 0
  SidesAlike g =
      (s t : Store) → IsStoreOf f s → IsStoreOf f t
      → RelatesIn (frame_by f (file_comparisons f) (file_assignments f) r) (goal_sides (tables_of f) g).left s t ↔ RelatesIn (frame_by f (file_comparisons f) (file_assignments f) r) (goal_sides (tables_of f) g).right s t

  goal_holds : (g : GoalTree) → IsGoalInRange f.tests f.actions f.vars g → IsSubset (goal_comparisons (modulus f.width) g) (file_comparisons f) → IsSubset (goal_assignments (modulus f.width) g) (file_assignments f)
      → SidesAlike g → GoalHoldsBy f (abstract_parts f) r g
  goal_holds (equal d e) is tests acts alike = λ s t ss st.
      let seen = two_within (side_comparisons (modulus f.width) d) (side_comparisons (modulus f.width) e) (file_comparisons f) tests in
      let set = two_within (side_assignments (modulus f.width) d) (side_assignments (modulus f.width) e) (file_assignments f) acts in
      let left = side_related d is.0 seen.0 set.0 s t ss st in
      let right = side_related e is.1 seen.1 set.1 s t ss st in
      let both = alike s t ss st in
      ((λ h. right.1 (both.0 (left.0 h))), (λ h. left.1 (both.1 (right.0 h))))
  goal_holds (below d e) is tests acts alike = λ s t ss st h.
      let seen = two_within (side_comparisons (modulus f.width) d) (side_comparisons (modulus f.width) e) (file_comparisons f) tests in
      let set = two_within (side_assignments (modulus f.width) d) (side_assignments (modulus f.width) e) (file_assignments f) acts in
      let left = side_related d is.0 seen.0 set.0 s t ss st in
      let right = side_related e is.1 seen.1 set.1 s t ss st in
      right.1 ((alike s t ss st).0 (inl (left.0 h)))
  goal_holds (triple b d c) is tests acts alike = λ s t ss st starts h.
      let m = modulus f.width in
      let cs = file_comparisons f in
      let xs = file_assignments f in
      let seen = three_within (cond_comparisons m b) (side_comparisons m d) (cond_comparisons m c) cs tests in
      let body = (side_related d is.1 seen.1 acts s t ss st).0 h in
      let pre = cond_by f cs xs r b is.0 seen.0 s ss ∙ starts in
      let fails : holds_by f.width r t c ≡ false → truth (complement (cond_test (tables_of f) c)) ((frame_by f cs xs r).atom t) ≡ true =
      λ no. not_from_false (truth (cond_test (tables_of f) c) ((frame_by f cs xs r).atom t)) (cond_by f cs xs r c is.2 seen.2 t st ∙ no) in
      ⊎_elim (λ yes. yes) (λ no. absurd ((alike s t ss st).0 (s, ss, (refl, pre), (t, st, body, (refl, fails no))))) (cases_Bool (holds_by f.width r t c))

pub readings_agree : (f : FileParts) (a : AbstractParts) (r : Reading) → HasNumbersInRange f → abstract_of f ≡ Ok a → KeepsStated f a r → Same a.problem → GoalHoldsBy f a r f.goal
readings_agree f a r range e stated same =
    let made = abstract_parts_of f a e in
    let fits = readings_fit f r range (subst (λ x. KeepsStated f x r) (sym made) stated) in
    let sides = same_in_frame (frame_by f (file_comparisons f) (file_assignments f) r) (file_problem f) fits (subst (λ x. Same x.problem) (sym made) same) in
    subst (λ x. GoalHoldsBy f x r f.goal) made
    (goal_holds f r range f.goal range.goal (goal_comparisons_within f) (goal_assignments_within f) sides)
