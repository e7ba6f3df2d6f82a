-- If the sides of an abstraction are the same, the goal of a concrete file holds for all its stores.
use Rattle.std.proofs.Common.{◌≡◌, ℕ, ◌+◌, ◌<◌, ⊎_elim, ◌↔◌, List, [], ◌++◌, length, refl, sym, ap, ◌∙◌, subst, arith, slice_get, Option, Some, None, Ok}
use Rattle.std.proofs.lemmas.Bool.{cases_Bool}
use Rattle.std.proofs.lemmas.List.{length-map}
use Rattle.std.proofs.lemmas.Option.{slice_get_within}
use Rattle.kat_model.specs.Trees.{Term}
use Rattle.kat_model.specs.Expressions.{CondTree}
use Rattle.kat_model.specs.Members.{Has, IsSubset}
use Rattle.kat_model.specs.Stores.{modulus, Store, holds}
use Rattle.kat_model.specs.Relations.{RelatesIn, Same}
use Rattle.kat_model.proofs.Places.{place_of_member}
use Rattle.linear_forms.specs.declared.comparison.Atomic.{Atomic}
use Rattle.while_lang.specs.Files.{FileParts, GoalTree, equal, triple, prog_side}
use Rattle.while_lang.specs.Concrete.{PosesProgs, IsStoreOf, EndAlike, MeetsTriple, GoalAgrees}
use Rattle.while_lang.specs.Ranges.{IsProgInRange, IsGoalInRange}
use Rattle.while_lang.specs.Programs.{ProgTree}
use Rattle.abstraction.specs.Abstracts.{AbstractParts, test_rows_of, action_rows_of, file_problem, abstract_parts, abstract_of, HasNumbersInRange}
use Rattle.abstraction.specs.Comparisons.{Assignment, goal_comparisons, goal_assignments, cond_comparisons, prog_comparisons, prog_assignments}
use Rattle.abstraction.specs.Goals.{goal_sides}
use Rattle.abstraction.specs.Laws.{DerivedHold, AgreesWhereSame}
use Rattle.abstraction.specs.Rounds.{file_comparisons, tables_of}
use Rattle.abstraction.specs.StoreFrames.{row_holds, Sets}
use Rattle.abstraction.specs.Tables.{file_assignments}
use Rattle.abstraction.specs.declared.rows.ActionRow.{ActionRow}
use Rattle.abstraction.specs.declared.rows.ActionRow.TheVariants as action
use Rattle.abstraction.specs.declared.rows.TestRow.TheVariants as test
use Rattle.abstraction.proofs.DerivedHypotheses.{abstract_parts_of}
use Rattle.kat_model.proofs.PathTables.{FitsProblem, same_in_frame}
use Rattle.abstraction.proofs.ProgramRuns.{ends_as_related, holds_read, fails_read}
use Rattle.abstraction.proofs.RowTruths.{length-rows, tables_with, frame_with, two_within, three_within, cond_read, prog_read}
use Rattle.abstraction.proofs.GoalRows.{goal_comparisons_within, goal_assignments_within}

-- ---- goals over tables that have their rows

module _ (f : FileParts) (cs : List Atomic) (xs : List Assignment) where
  -- the sides of the goal relate the same stores of the file
  abbrev SameSides : GoalTree → Type 0
  SameSides g =
      (s t : Store) → IsStoreOf f s → IsStoreOf f t →
      RelatesIn (frame_with f cs xs) (goal_sides (tables_with f cs xs) g).left s t ↔ RelatesIn (frame_with f cs xs) (goal_sides (tables_with f cs xs) g).right s t

  -- programs that relate the same stores end alike
  end_alike : (p q : ProgTree) → IsProgInRange f.tests f.actions f.vars p → IsProgInRange f.tests f.actions f.vars q →
      IsSubset (prog_comparisons (modulus f.width) p ++ prog_comparisons (modulus f.width) q) cs → IsSubset (prog_assignments (modulus f.width) p ++ prog_assignments (modulus f.width) q) xs →
      SameSides (equal (prog_side p) (prog_side q)) → EndAlike f p q
  end_alike p q in_p in_q tests acts same s t ss st =
      let m = modulus f.width in
      let seen = two_within (prog_comparisons m p) (prog_comparisons m q) cs tests in
      let set = two_within (prog_assignments m p) (prog_assignments m q) xs acts in
      let first = ends_as_related f.width (tables_with f cs xs) (frame_with f cs xs) p (prog_read f cs xs p in_p seen.0 set.0) s t ss st in
      let second = ends_as_related f.width (tables_with f cs xs) (frame_with f cs xs) q (prog_read f cs xs q in_q seen.1 set.1) s t ss st in
      let r = same s t ss st in
      ((λ g. second.1 (r.0 (first.0 g))), (λ g. first.1 (r.1 (second.0 g))))

  -- a program whose failing runs relate no stores meets its triple
  meets_triple : (b : CondTree) (p : ProgTree) (c : CondTree) → IsGoalInRange f.tests f.actions f.vars (triple b (prog_side p) c) →
      IsSubset (goal_comparisons (modulus f.width) (triple b (prog_side p) c)) cs → IsSubset (prog_assignments (modulus f.width) p) xs →
      SameSides (triple b (prog_side p) c) → MeetsTriple f b p c
  meets_triple b p c range tests acts same s t ss st h g =
      let m = modulus f.width in
      let seen = three_within (cond_comparisons m b) (prog_comparisons m p) (cond_comparisons m c) cs tests in
      let run = ends_as_related f.width (tables_with f cs xs) (frame_with f cs xs) p (prog_read f cs xs p range.1 seen.1 acts) s t ss st in
      let pre = holds_read f.width (tables_with f cs xs) (frame_with f cs xs) b s (cond_read f cs xs b range.0 seen.0) ss h in
      let post = fails_read f.width (tables_with f cs xs) (frame_with f cs xs) c t (cond_read f cs xs c range.2 seen.2) st in
      ⊎_elim (λ e. e) (λ e. absurd ((same s t ss st).0 (s, ss, (refl, pre), (t, st, run.0 g, (refl, post e))))) (cases_Bool (holds f.width t c))

  goal_agrees : (g : GoalTree) → PosesProgs g → IsGoalInRange f.tests f.actions f.vars g → IsSubset (goal_comparisons (modulus f.width) g) cs →
      IsSubset (goal_assignments (modulus f.width) g) xs → SameSides g → GoalAgrees f g
  goal_agrees (equal (prog_side p) (prog_side q)) poses range tests acts same = end_alike p q range.0 range.1 tests acts same
  goal_agrees (triple b (prog_side p) c) poses range tests acts same = meets_triple b p c range tests acts same
  goal_agrees _ poses range tests acts same = absurd poses

-- ---- files

-- an action that relates stores is one of the actions
acts_within : (m : ℕ) (rows : List ActionRow) (k : ℕ) (s t : Store) → Sets m (slice_get rows k) s t → k < length rows
acts_within m rows k s t h = go (slice_get rows k) refl h
  where
    go : (row : Option ActionRow) → slice_get rows k ≡ row → Sets m row s t → k < length rows
    go (Some r) e h = slice_get_within rows k r e
    go None e h = absurd h

-- without stated hypotheses, the stores of a file satisfy the problem of its abstraction
stores_fit : (f : FileParts) → f.hyps ≡ [] → DerivedHold f (abstract_parts f) → FitsProblem (frame_with f (file_comparisons f) (file_assignments f)) (file_problem f)
stores_fit f none derived = record { wide = λ s is. wide s; acts = acts; keeps = keeps }
  where
    wide : (s : Store) → length ((frame_with f (file_comparisons f) (file_assignments f)).atom s) ≡ f.tests + length (file_comparisons f)
    wide s =
        length-map (test_rows_of (tables_of f)) (row_holds (modulus f.width) s)
        ∙ length-rows test.Named test.Compare f.tests (file_comparisons f)

    acts : (k : ℕ) (s t : Store) → Sets (modulus f.width) (slice_get (action_rows_of (tables_of f)) k) s t → k < f.actions + length (file_assignments f)
    acts k s t h =
        subst (λ n. k < n) (length-rows action.Named (λ b. action.Assign b.var b.form) f.actions (file_assignments f))
        (acts_within (modulus f.width) (action_rows_of (tables_of f)) k s t h)

    keeps : (h : Term) → Has (file_problem f).hyps h → (s t : Store) → IsStoreOf f s → IsStoreOf f t → RelatesIn (frame_with f (file_comparisons f) (file_assignments f)) h s t → ⊥
    keeps h has s t ss st r =
        let stated : length f.hyps ≡ 0 = ap length none in
        let place = place_of_member (file_problem f).hyps h has in
        derived place.0 h (omega (arith, stated)) place.1 s t ss st r

pub same_agrees : (f : FileParts) (a : AbstractParts) → HasNumbersInRange f → abstract_of f ≡ Ok a → DerivedHold f a → AgreesWhereSame f a
same_agrees f a range e derived concrete same =
    let made = abstract_parts_of f a e in
    let fits = stores_fit f concrete.hyps (subst (DerivedHold f) (sym made) derived) in
    let sides = same_in_frame (frame_with f (file_comparisons f) (file_assignments f)) (file_problem f) fits (subst (λ x. Same x.problem) (sym made) same) in
    goal_agrees f (file_comparisons f) (file_assignments f) f.goal concrete.poses range.goal (goal_comparisons_within f) (goal_assignments_within f) sides
