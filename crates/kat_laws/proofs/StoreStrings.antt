-- A string that refutes the question of a triple, and that a path of stores spells, is a run of the program that breaks
-- the triple.
use Rattle.std.proofs.Common.{◌≡◌, ⊎_elim, List, sym, ◌∙◌, subst, true, Ok}
use Rattle.std.specs.Bool.{IsTrue}
use Rattle.std.proofs.lemmas.Bool.{not-true, both_ways}
use Rattle.kat_model.specs.Trees.{Term, zero, complement}
use Rattle.kat_model.specs.Expressions.{CondTree}
use Rattle.kat_model.specs.Members.{IsSubset}
use Rattle.kat_model.specs.Stores.{modulus, Store, holds}
use Rattle.kat_model.specs.Steps.{truth}
use Rattle.kat_model.specs.Relations.{RelatesIn}
use Rattle.kat_model.specs.Strings.{GuardedString, accepts}
use Rattle.kat_model.proofs.Paths.{spelled_relates}
use Rattle.string_tables.specs.Tables.{RelatesEnds, ExactlyOne, Refutes}
use Rattle.string_tables.proofs.Parts.{ends_by_acceptance}
use Rattle.linear_forms.specs.declared.comparison.Atomic.{Atomic}
use Rattle.while_lang.specs.Programs.{ProgTree}
use Rattle.while_lang.specs.Encoding.{encoded}
use Rattle.while_lang.specs.Files.{FileParts, GoalTree, triple, prog_side}
use Rattle.while_lang.specs.Concrete.{IsStoreOf, MeetsTriple, GoalAgrees, Agrees}
use Rattle.while_lang.specs.Ranges.{IsGoalInRange}
use Rattle.abstraction.specs.Abstracts.{AbstractParts, abstract_parts, abstract_of, HasNumbersInRange}
use Rattle.abstraction.specs.Comparisons.{Assignment, goal_comparisons, goal_assignments, cond_comparisons, prog_comparisons}
use Rattle.abstraction.specs.Goals.{goal_sides}
use Rattle.abstraction.specs.Rounds.{file_comparisons}
use Rattle.abstraction.specs.StoreFrames.{store_frame}
use Rattle.abstraction.specs.Tables.{file_assignments}
use Rattle.abstraction.specs.Tests.{cond_test, prog_flow}
use Rattle.abstraction.proofs.DerivedHypotheses.{abstract_parts_of}
use Rattle.abstraction.proofs.GoalRows.{goal_comparisons_within, goal_assignments_within}
use Rattle.abstraction.proofs.ProgramRuns.{ends_as_related}
use Rattle.abstraction.proofs.RowTruths.{tables_with, frame_with, three_within, cond_read, prog_read}
use Rattle.kat_laws.specs.StoreStrings.{SpellsOnStores, FailsOn}
use Rattle.kat_laws.specs.Laws.{IsStoreRefuted}
use Rattle.kat_laws.proofs.Frames.{last_is_state}

-- ---- a triple over tables that have its rows

module _ (f : FileParts) (cs : List Atomic) (xs : List Assignment) (b : CondTree) (p : ProgTree) (c : CondTree)
    (range : IsGoalInRange f.tests f.actions f.vars (triple b (prog_side p) c))
    (tests : IsSubset (goal_comparisons (modulus f.width) (triple b (prog_side p) c)) cs)
    (acts : IsSubset (goal_assignments (modulus f.width) (triple b (prog_side p) c)) xs) where
  -- the failing runs relate two stores only if the triple fails on them
  failing_fails : (s t : Store) → (frame_with f cs xs).IsState s → (frame_with f cs xs).IsState t → RelatesIn (frame_with f cs xs) (goal_sides (tables_with f cs xs) (triple b (prog_side p) c)).left s t
      → FailsOn f b p c s t
  failing_fails s t ss st r =
      let m = modulus f.width in
      let frame = frame_with f cs xs in
      let tables = tables_with f cs xs in
      let body = encoded (prog_flow tables p) in
      let seen = three_within (cond_comparisons m b) (prog_comparisons m p) (cond_comparisons m c) cs tests in
      let run = ends_as_related f.width tables frame p (prog_read f cs xs p range.1 seen.1 acts) s t ss st in
      let pre : truth (cond_test tables b) (frame.atom s) ≡ true = r.2.1 in
      let from : RelatesIn frame body s r.3.0 = subst (λ u. RelatesIn frame body u r.3.0) (sym r.2.0) r.3.2 in
      let post : truth (complement (cond_test tables c)) (frame.atom t) ≡ true = subst (λ u. truth (complement (cond_test tables c)) (frame.atom u) ≡ true) r.3.3.0 r.3.3.1 in
      record {
        starts = sym (cond_read f cs xs b range.0 seen.0 s ss) ∙ pre;
        ends = run.1 (subst (λ u. RelatesIn frame body s u) r.3.3.0 from);
        fails = sym (cond_read f cs xs c range.2 seen.2 t st) ∙ not-true (truth (cond_test tables c) (frame.atom t)) post;
      }

-- ---- files

-- of the sides of a triple, only the first can relate
first_relates : (x : GuardedString) (l : Term) → ExactlyOne (RelatesEnds x l) (RelatesEnds x zero) → RelatesEnds x l
first_relates x l one = ⊎_elim (λ h. h.0) (λ h. absurd h.1) one

-- a term that relates the ends of the string relates the stores
ends_on_stores : (f : FileParts) (a : AbstractParts) (x : GuardedString) (s t : Store) (e : Term) → SpellsOnStores f a x s t → RelatesEnds x e → RelatesIn (store_frame f a) e s t
ends_on_stores f a x s t e spells r =
    let accepted : IsTrue (accepts e x.first x.rest) = (ends_by_acceptance x e).0 r in
    let from : IsTrue (accepts e ((store_frame f a).atom s) x.rest) = subst (λ atom. IsTrue (accepts e atom x.rest)) (sym spells.atom) accepted in
    spelled_relates (store_frame f a) e s t spells.hops spells.start spells.path
    (subst (λ ms. IsTrue (accepts e ((store_frame f a).atom s) ms)) (sym spells.moves) from)

module _ (f : FileParts) (b : CondTree) (p : ProgTree) (c : CondTree) (is : f.goal ≡ triple b (prog_side p) c) (range : HasNumbersInRange f) where
  -- for the tables of the file
  parts_fail : (x : GuardedString) (s t : Store) → Refutes (abstract_parts f).problem x → SpellsOnStores f (abstract_parts f) x s t → FailsOn f b p c s t
  parts_fail x s t refutes spells =
      let m = modulus f.width in
      let cs = file_comparisons f in
      let xs = file_assignments f in
      let sides : GoalTree → Type 0 = λ g. ExactlyOne (RelatesEnds x (goal_sides (tables_with f cs xs) g).left) (RelatesEnds x (goal_sides (tables_with f cs xs) g).right) in
      let differs : sides (triple b (prog_side p) c) = subst sides is refutes.differs in
      let left = first_relates x (goal_sides (tables_with f cs xs) (triple b (prog_side p) c)).left differs in
      let last = last_is_state (store_frame f (abstract_parts f)) s t spells.hops spells.start spells.path in
      failing_fails f cs xs b p c
      (subst (IsGoalInRange f.tests f.actions f.vars) is range.goal)
      (subst (λ g. IsSubset (goal_comparisons m g) cs) is (goal_comparisons_within f))
      (subst (λ g. IsSubset (goal_assignments m g) xs) is (goal_assignments_within f))
      s t spells.start last
      (ends_on_stores f (abstract_parts f) x s t (goal_sides (tables_with f cs xs) (triple b (prog_side p) c)).left spells left)

  fails_not_agrees : (s t : Store) → IsStoreOf f s → IsStoreOf f t → FailsOn f b p c s t → Agrees f → ⊥
  fails_not_agrees s t ss st fails agrees =
      let meets : MeetsTriple f b p c = subst (GoalAgrees f) is agrees in
      both_ways (holds f.width t c) fails.fails (meets s t ss st fails.starts fails.ends)

pub store_refuted : (f : FileParts) (a : AbstractParts) (b : CondTree) (p : ProgTree) (c : CondTree) (x : GuardedString) (s t : Store)
    → HasNumbersInRange f → abstract_of f ≡ Ok a → f.goal ≡ triple b (prog_side p) c → Refutes a.problem x → SpellsOnStores f a x s t → IsStoreRefuted f b p c s t
store_refuted f a b p c x s t range e is refutes spells =
    let made = abstract_parts_of f a e in
    let on : SpellsOnStores f (abstract_parts f) x s t = subst (λ y. SpellsOnStores f y x s t) (sym made) spells in
    let fails = parts_fail f b p c is range x s t (subst (λ y. Refutes y.problem x) (sym made) refutes) on in
    record {
      fails = fails;
      not_agrees = fails_not_agrees f b p c is range s t on.start (last_is_state (store_frame f (abstract_parts f)) s t on.hops on.start on.path) fails;
    }
