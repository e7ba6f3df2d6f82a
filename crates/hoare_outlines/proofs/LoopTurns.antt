-- An additional turn of a loop: its set grows, and the measure decreases.
use Rattle.std.proofs.Common.{◌≡◌, ℕ, ◌<◌, List, [], ◌∷◌, ◌++◌, length, take, ◌&&◌, ◌||◌, refl, ap, ◌∙◌, arith, append_assoc}
use Rattle.kat_model.specs.Trees.{TestTree}
use Rattle.kat_model.specs.Problems.{ProblemParts}
use Rattle.kat_model.specs.Steps.{truth}
use Rattle.while_lang.specs.Flows.{FlowTree, FlowStmt}
use Rattle.outline_rules.specs.StepFunctions.{StepDiagramsParts, step_value, IsStepDiagram, KeepsSteps, Entails}
use Rattle.outline_rules.proofs.StepSets.{KeepsSteps-trans}
use Rattle.hoare_outlines.specs.declared.finding.Finder.{Finder}
use Rattle.hoare_outlines.specs.Working.Found.{StmtFound, HasAllowedSet, FindsStmt, FindsFlow}
use Rattle.hoare_outlines.specs.Working.FoundLoops.{turn_term, GrowsFrom}
use Rattle.hoare_outlines.proofs.SetIds.{set_kept, sets_kept}
use Rattle.hoare_outlines.proofs.SetParts.{union_set}
use Rattle.hoare_outlines.proofs.Findings.{part_allowed}
use Rattle.hoare_outlines.proofs.StmtFinds.{SplitsHolds}
use Rattle.hoare_outlines.proofs.LoopSteps.{grown_more, outside_id, outside_kept, fewer_left}

-- truncating a list restores the list before the elements were appended
cut_back : (xs more ys cut : List ℕ) (n : ℕ) → n ≡ length xs → ys ≡ xs ++ more → cut ≡ take n ys → cut ≡ xs
cut_back xs more ys cut n e is c = c ∙ ap (λ k. take k ys) e ∙ ap (λ (l : List ℕ). take (length xs) l) is ∙ front xs
  where
    front : (l : List ℕ) → take (length l) (l ++ more) ≡ l
    front [] = refl
    front (x ∷ l) = ap (λ (r : List ℕ). x ∷ r) (front l)

-- the restored list with an element appended
pub noted_again : (xs more ys cut after : List ℕ) (n v : ℕ) → n ≡ length xs → ys ≡ xs ++ more → cut ≡ take n ys → after ≡ cut ++ v ∷ [] → after ≡ xs ++ v ∷ []
noted_again xs more ys cut after n v e is c pushed = pushed ∙ ap (λ (l : List ℕ). l ++ v ∷ []) (cut_back xs more ys cut n e is c)

-- results stay valid when diagrams are added
pub finds_later : (q : ProblemParts) (s : FlowStmt) (old new later : Finder) (set last : ℕ) → KeepsSteps new.diagrams later.diagrams → later.notes.items ≡ new.notes.items → FindsStmt q s old set new last → FindsStmt q s old set later last
finds_later q s old new later set last kept same finds X is allowed =
    let r = finds X is allowed in
    let found : StmtFound q s new.diagrams X r.0 last = r.2 in (
      r.0,
      same ∙ r.1,
      record {
        sets = found.sets;
        are_sets = sets_kept new.diagrams later.diagrams kept r.0 found.sets found.are_sets;
        end = found.end;
        is_end = set_kept new.diagrams later.diagrams kept last found.end found.is_end;
        allowed = found.allowed;
        annotated = found.annotated;
        reached = found.reached;
      },
    )

module _ (q : ProblemParts) (b : TestTree) (f : FlowTree) (entry n2 n3 : Finder) (mid d4 d5 : StepDiagramsParts) (set invariant enters again next : ℕ) (grown : GrowsFrom q (turn_term b f) entry.diagrams set mid invariant)
    (is_enters : SplitsHolds mid invariant b n2.diagrams enters) (k2 : KeepsSteps mid n2.diagrams) (k3 : KeepsSteps n2.diagrams n3.diagrams) (k4 : KeepsSteps n3.diagrams d4) (k5 : KeepsSteps d4 d5) (finds : FindsFlow q f n2 enters n3 again)
    (is_next : IsStepDiagram d5 next (λ x y. step_value d4 invariant x y || step_value d4 again x y)) where
  -- the invariant with the atoms that its body reaches
  pub loop_grown : GrowsFrom q (turn_term b f) entry.diagrams set d5 next
  loop_grown X is allowed =
      let g = grown X is allowed in
      let found = finds (λ atom. g.0 atom && truth b atom) (is_enters g.0 g.1) (part_allowed q g.0 (truth b) g.2.allowed) in
      let own = set_kept n3.diagrams d4 k4 invariant g.0 (set_kept n2.diagrams n3.diagrams k3 invariant g.0 (set_kept mid n2.diagrams k2 invariant g.0 g.1)) in (
        (λ atom. g.0 atom || found.2.end atom),
        union_set d4 d5 invariant again next g.0 found.2.end k5 own (set_kept n3.diagrams d4 k4 again found.2.end found.2.is_end) is_next,
        grown_more q b f n3.diagrams X g.0 found.0 again g.2 found.2,
      )

  pub loop_smaller : HasAllowedSet q entry.diagrams set → (Entails n3.diagrams again invariant → ⊥) → outside_id d5 next < outside_id mid invariant
  loop_smaller has more =
      let g = grown has.0 has.1 has.2 in
      let found = finds (λ atom. g.0 atom && truth b atom) (is_enters g.0 g.1) (part_allowed q g.0 (truth b) g.2.allowed) in
      let k23 = KeepsSteps-trans mid n2.diagrams n3.diagrams k2 k3 in
      let own = set_kept mid n3.diagrams k23 invariant g.0 g.1 in
      let both = union_set d4 d5 invariant again next g.0 found.2.end k5 (set_kept n3.diagrams d4 k4 invariant g.0 own) (set_kept n3.diagrams d4 k4 again found.2.end found.2.is_end) is_next in
      let fewer = fewer_left n3.diagrams d5 invariant again next g.0 found.2.end (KeepsSteps-trans n3.diagrams d4 d5 k4 k5) own found.2.is_end more both in
      let kept = outside_kept mid n3.diagrams invariant k23 g.1.in_range in
      omega (arith, fewer, kept)

  -- only the notes of the last turn remain
  pub loop_notes : HasAllowedSet q entry.diagrams set → n2.notes.items ≡ entry.notes.items ++ invariant ∷ [] → (more : List ℕ) × (n3.notes.items ≡ entry.notes.items ++ more)
  loop_notes has noted =
      let g = grown has.0 has.1 has.2 in
      let found = finds (λ atom. g.0 atom && truth b atom) (is_enters g.0 g.1) (part_allowed q g.0 (truth b) g.2.allowed) in
      (invariant ∷ enters ∷ found.0, found.1 ∙ ap (λ (l : List ℕ). l ++ enters ∷ found.0) noted ∙ append_assoc entry.notes.items (invariant ∷ []) (enters ∷ found.0))
