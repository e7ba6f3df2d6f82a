-- The sets that the finder gives for a task. If both sides of its triple are the same, the last set implies the
-- post-condition. If it does, the notes of the sets follow.
use Rattle.std.proofs.Common.{◌≡◌, ℕ, suc, ◌+◌, ⊎_elim, List, [], ◌∷◌, length, map, get_or, Bool, true, false, not, ◌&&◌, refl, sym, ap, ◌∙◌, subst, arith}
use Rattle.std.proofs.lemmas.Bool.{and_parts, and_from}
use Rattle.kat_model.specs.Trees.{TestTree, zero}
use Rattle.kat_model.specs.Members.{Has}
use Rattle.kat_model.specs.Problems.{ProblemParts}
use Rattle.kat_model.specs.Steps.{Atom, truth}
use Rattle.kat_model.specs.Relations.{RelatesIn, Same}
use Rattle.kat_model.proofs.Lists.{has_append}
use Rattle.kat_model.proofs.ProductRelations.{product_of_relations}
use Rattle.kat_model.proofs.PathTables.{same_in_frame}
use Rattle.goal_forms.specs.Sides.{SideTrees, failing_run}
use Rattle.while_lang.specs.Encoding.{stmt_terms, encoded}
use Rattle.outline_rules.specs.StepFunctions.{StepDiagramsParts, step_value, IsStepId, IsStepDiagram, KeepsSteps, Entails}
use Rattle.outline_rules.proofs.StepSets.{step_value-kept}
use Rattle.outline_rules.specs.NoteLists.{NotesParts, note_holds}
use Rattle.goal_forms.specs.TestTerms.{AreSimple}
use Rattle.goal_forms.specs.HypothesisForms.{allows}
use Rattle.goal_forms.proofs.SimpleForms.{allows_given, allowed_allows}
use Rattle.outline_rules.specs.Tasks.{TaskParts, IsTripleOf}
use Rattle.outline_rules.specs.Places.{last_place, places}
use Rattle.outline_rules.specs.Follows.{Condition, starts, ends, conditions_from, conditions, IsMet, Follows}
use Rattle.hoare_outlines.specs.Working.AtomSets.{AtomSet, IsSetId, AreSetIds, IsAllowedSet}
use Rattle.hoare_outlines.specs.Working.Reached.{atom_frame}
use Rattle.hoare_outlines.specs.Working.Found.{FlowFound}
use Rattle.hoare_outlines.specs.Working.Noted.{NotesSets}
use Rattle.hoare_outlines.proofs.SetIds.{sets_count}
use Rattle.hoare_outlines.proofs.Annotations.{AreAt, annotated_met}
use Rattle.hoare_outlines.proofs.AtomFrames.{atoms_fit}

-- the allowed atoms at which the pre-condition is true
abbrev pub start_set : ProblemParts → TestTree → AtomSet
start_set q pre = λ atom. allows q.hyps atom && truth pre atom

pub start_allowed : (q : ProblemParts) (pre : TestTree) → IsAllowedSet q (start_set q pre)
start_allowed q pre atom wide h = allows_given q.hyps atom (and_parts (allows q.hyps atom) (truth pre atom) h).0

module _ (q : ProblemParts) (t : TaskParts) (triple : IsTripleOf q t) where
  -- if the sides are the same, each reached atom meets the post-condition
  pub same_entails : AreSimple q.hyps → Same q → (d : StepDiagramsParts) (ids : List ℕ) (last post : ℕ) → d.tests ≡ q.tests → FlowFound q t.flow d (start_set q t.pre) ids last
      → IsStepDiagram d post (λ x y. truth t.post x) → Entails d last post
  same_entails simple same d ids last post tests found is_post before after lb la h = is_post.value before after lb la ∙ by_value (truth t.post before) refl
    where
      wide : length before ≡ q.tests
      wide = lb ∙ tests

      inside : found.end before ≡ true
      inside = sym (found.is_end.value before after lb la) ∙ h

      by_value : (b : Bool) → truth t.post before ≡ b → truth t.post before ≡ true
      by_value true e = e
      by_value false e =
          let r = found.reached before wide inside in
          let state : (atom_frame q).IsState before = (wide, found.allowed before wide inside) in
          let run = (product_of_relations (atom_frame q) (stmt_terms t.flow) r.0 before r.1 state).1 r.3 in
          let pre : truth t.pre r.0 ≡ true = (and_parts (allows q.hyps r.0) (truth t.pre r.0) r.2).1 in
          let fails : RelatesIn (atom_frame q) (failing_run t.pre (encoded t.flow) t.post) r.0 before = (r.0, r.1, (refl, pre), (before, state, run, (refl, ap not e))) in
          let left : q.left ≡ failing_run t.pre (encoded t.flow) t.post = ap (λ (s : SideTrees). s.left) triple in
          let right : q.right ≡ zero = ap (λ (s : SideTrees). s.right) triple in
          let none = (same_in_frame (atom_frame q) q (atoms_fit q simple) same r.0 before r.1 state).0 (subst (λ e. RelatesIn (atom_frame q) e r.0 before) (sym left) fails) in
          absurd (subst (λ e. RelatesIn (atom_frame q) e r.0 before) right none)

-- an entailment remains true when diagrams are added
pub entails_kept : (old new : StepDiagramsParts) (a b : ℕ) → KeepsSteps old new → IsStepId old a → IsStepId old b → Entails old a b → Entails new a b
entails_kept old new a b kept is_a is_b entails x y lx ly h =
    step_value-kept old new kept b is_b x y ∙ entails x y (lx ∙ kept.tests) (ly ∙ kept.tests) (sym (step_value-kept old new kept a is_a x y) ∙ h)

-- the note at each place has the value of its id
sets_noted : (q : ProblemParts) (note : ℕ → AtomSet) (d : StepDiagramsParts) (ids : List ℕ) (Xs : List AtomSet) (n : ℕ) → d.tests ≡ q.tests → AreSetIds d ids Xs
    → ((i : ℕ) (atom : Atom) → length atom ≡ d.tests → note (n + i) atom ≡ get_or (map (λ id. step_value d id atom atom) ids) i false) → AreAt q note n Xs
sets_noted q note d [] [] n tests are noted = tt
sets_noted q note d [] (X ∷ Xs) n tests are noted = absurd are
sets_noted q note d (id ∷ ids) [] n tests are noted = absurd are
sets_noted q note d (id ∷ ids) (X ∷ Xs) n tests are noted = (
  (λ atom wide.
      let own = wide ∙ sym tests in
      let here : n ≡ n + 0 = omega arith in
      ap (λ k. note k atom) here ∙ noted 0 atom own ∙ are.0.value atom atom own own),
  sets_noted q note d ids Xs (suc n) tests are.1
      (λ i atom wide. let next : suc n + i ≡ n + suc i = omega arith in ap (λ k. note k atom) next ∙ noted (suc i) atom wide),
)

module _ (q : ProblemParts) (t : TaskParts) where
  pub outline_follows : (d : StepDiagramsParts) (ids : List ℕ) (set last post : ℕ) (ns : NotesParts) → d.tests ≡ q.tests → IsSetId d set (start_set q t.pre) → FlowFound q t.flow d (start_set q t.pre) ids last
      → IsStepDiagram d post (λ x y. truth t.post x) → Entails d last post → NotesSets d (set ∷ ids) ns → Follows q t ns
  outline_follows d ids set last post ns tests is_start found is_post entails notes =
      record {
        tests = λ k x y h. let lt = notes.tests k x y h in omega (arith, lt, tests);
        count = notes.count ∙ count;
        met = met;
      }
    where
      noted : AreAt q (note_holds ns) 0 (start_set q t.pre ∷ found.sets)
      noted =
          sets_noted q (note_holds ns) d (set ∷ ids) (start_set q t.pre ∷ found.sets) 0 tests (is_start, found.are_sets)
          (λ i atom wide. let own : 0 + i ≡ i = omega arith in ap (λ k. note_holds ns k atom) own ∙ notes.holds i atom wide)

      count : length (set ∷ ids) ≡ places t.flow
      count =
          let along = annotated_met q (note_holds ns) t.flow 0 (start_set q t.pre) found.sets found.end found.annotated noted in
          let many = sets_count d ids found.sets found.are_sets in
          omega (arith, along.last, many)

      met : (c : Condition) → Has (conditions t) c → IsMet q (note_holds ns) c
      met c h =
          let along = annotated_met q (note_holds ns) t.flow 0 (start_set q t.pre) found.sets found.end found.annotated noted in
          let start : IsMet q (note_holds ns) (starts t.pre) = λ atom wide is pre. noted.0 atom wide ∙ and_from (allows q.hyps atom) (truth t.pre atom) (allowed_allows q.hyps atom is) pre in
          let end : IsMet q (note_holds ns) (ends (last_place t.flow 0) t.post) =
          (λ atom wide is holds.
          let own = wide ∙ sym tests in
          let inside = found.is_end.value atom atom own own ∙ sym (along.end atom wide) ∙ holds in
          sym (is_post.value atom atom own own) ∙ entails atom atom own own inside) in
          ⊎_elim
          (λ e. subst (IsMet q (note_holds ns)) e start)
          (λ k. ⊎_elim (along.met c) (λ m. ⊎_elim (λ e. subst (IsMet q (note_holds ns)) e end) absurd m) (has_append (conditions_from t.flow 0) (ends (last_place t.flow 0) t.post ∷ []) c k))
          h
