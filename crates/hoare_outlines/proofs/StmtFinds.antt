-- The result of the finder for each statement, with the notes that it adds.
use Rattle.std.proofs.Common.{◌≡◌, ℕ, List, [], ◌∷◌, ◌++◌, false, not, ◌&&◌, ◌||◌, refl, sym, ap, ◌∙◌, append_assoc, append-nil}
use Rattle.kat_model.specs.Trees.{TestTree}
use Rattle.kat_model.specs.Problems.{ProblemParts}
use Rattle.kat_model.specs.Steps.{truth}
use Rattle.while_lang.specs.Flows.{FlowTree, FlowStmt, skip, abort, assert, branch, loop}
use Rattle.outline_rules.specs.StepFunctions.{StepDiagramsParts, step_value, IsStepDiagram, KeepsSteps, Entails}
use Rattle.outline_rules.proofs.StepSets.{KeepsSteps-trans}
use Rattle.hoare_outlines.specs.declared.finding.Finder.{Finder}
use Rattle.hoare_outlines.specs.Working.AtomSets.{AtomSet, IsSetId}
use Rattle.hoare_outlines.specs.Working.Found.{HasAllowedSet, FindsStmt, FindsFlow}
use Rattle.hoare_outlines.specs.Working.FoundLoops.{turn_term, GrowsFrom}
use Rattle.hoare_outlines.proofs.SetIds.{set_kept}
use Rattle.hoare_outlines.proofs.SetParts.{union_set}
use Rattle.hoare_outlines.proofs.Findings.{skip_found, abort_found, assert_found, branch_found, part_allowed}
use Rattle.hoare_outlines.proofs.LoopSteps.{loop_found}

-- the parts of a set by a test
abbrev pub SplitsHolds : StepDiagramsParts → ℕ → TestTree → StepDiagramsParts → ℕ → Type 0
SplitsHolds old set b new holds = (X : AtomSet) → IsSetId old set X → IsSetId new holds (λ atom. X atom && truth b atom)

abbrev pub SplitsFails : StepDiagramsParts → ℕ → TestTree → StepDiagramsParts → ℕ → Type 0
SplitsFails old set b new fails = (X : AtomSet) → IsSetId old set X → IsSetId new fails (λ atom. X atom && not (truth b atom))

-- no notes are added
plain_notes : (old new : Finder) → new.notes.items ≡ old.notes.items → new.notes.items ≡ old.notes.items ++ []
plain_notes old new e = e ∙ sym (append-nil old.notes.items)

-- the last set has only allowed atoms
pub finds_allowed : (q : ProblemParts) (s : FlowStmt) (old new : Finder) (set last : ℕ) → HasAllowedSet q old.diagrams set → FindsStmt q s old set new last → HasAllowedSet q new.diagrams last
finds_allowed q s old new set last has finds = let found = finds has.0 has.1 has.2 in (found.2.end, found.2.is_end, found.2.allowed)

pub flow_allowed : (q : ProblemParts) (f : FlowTree) (old new : Finder) (set last : ℕ) → HasAllowedSet q old.diagrams set → FindsFlow q f old set new last → HasAllowedSet q new.diagrams last
flow_allowed q f old new set last has finds = let found = finds has.0 has.1 has.2 in (found.2.end, found.2.is_end, found.2.allowed)

pub part_has : (q : ProblemParts) (old new : StepDiagramsParts) (set holds : ℕ) (b : TestTree) → HasAllowedSet q old set → SplitsHolds old set b new holds → HasAllowedSet q new holds
part_has q old new set holds b has splits = ((λ atom. has.0 atom && truth b atom), splits has.0 has.1, part_allowed q has.0 (truth b) has.2)

pub rest_has : (q : ProblemParts) (old new : StepDiagramsParts) (set fails : ℕ) (b : TestTree) → HasAllowedSet q old set → SplitsFails old set b new fails → HasAllowedSet q new fails
rest_has q old new set fails b has splits = ((λ atom. has.0 atom && not (truth b atom)), splits has.0 has.1, part_allowed q has.0 (λ atom. not (truth b atom)) has.2)

pub has_kept : (q : ProblemParts) (old new : StepDiagramsParts) (id : ℕ) → KeepsSteps old new → HasAllowedSet q old id → HasAllowedSet q new id
has_kept q old new id kept has = (has.0, set_kept old new kept id has.0 has.1, has.2)

module _ (q : ProblemParts) (old : Finder) (set : ℕ) where
  pub skip_finds : FindsStmt q skip old set old set
  skip_finds X is allowed = ([], plain_notes old old refl, skip_found q old.diagrams X set is allowed)

  pub abort_finds : (none : ℕ) → IsSetId old.diagrams none (λ atom. false) → FindsStmt q abort old set old none
  abort_finds none is_none X is allowed = ([], plain_notes old old refl, abort_found q old.diagrams X none is_none)

  pub assert_finds : (new : Finder) (b : TestTree) (holds : ℕ) → new.notes.items ≡ old.notes.items → SplitsHolds old.diagrams set b new.diagrams holds → FindsStmt q (assert b) old set new holds
  assert_finds new b holds same splits X is allowed = ([], plain_notes old new same, assert_found q new.diagrams X b holds allowed (splits X is))

  pub branch_finds : (n1 n2 n3 n4 : Finder) (b : TestTree) (f g : FlowTree) (holds fails first second after : ℕ) → n1.notes.items ≡ old.notes.items → n4.notes.items ≡ n3.notes.items
      → SplitsHolds old.diagrams set b n1.diagrams holds → SplitsFails old.diagrams set b n1.diagrams fails → KeepsSteps n1.diagrams n2.diagrams → KeepsSteps n2.diagrams n3.diagrams → KeepsSteps n3.diagrams n4.diagrams
      → FindsFlow q f n1 holds n2 first → FindsFlow q g n2 fails n3 second → IsStepDiagram n4.diagrams after (λ x y. step_value n3.diagrams first x y || step_value n3.diagrams second x y) → FindsStmt q (branch b f g) old set n4 after
  branch_finds n1 n2 n3 n4 b f g holds fails first second after start end is_holds is_fails k2 k3 k4 finds_f finds_g is_after X is allowed =
      let holds_1 = is_holds X is in
      let fails_2 = set_kept n1.diagrams n2.diagrams k2 fails _ (is_fails X is) in
      let p = finds_f (λ atom. X atom && truth b atom) holds_1 (part_allowed q X (truth b) allowed) in
      let r = finds_g (λ atom. X atom && not (truth b atom)) fails_2 (part_allowed q X (λ atom. not (truth b atom)) allowed) in
      let both = union_set n3.diagrams n4.diagrams first second after p.2.end r.2.end k4 (set_kept n2.diagrams n3.diagrams k3 first p.2.end p.2.is_end) r.2.is_end is_after in
      let first_kept = KeepsSteps-trans n2.diagrams n3.diagrams n4.diagrams k3 k4 in (
        holds ∷ (p.0 ++ fails ∷ r.0),
        end ∙ r.1 ∙ ap (λ (l : List ℕ). l ++ fails ∷ r.0) (p.1 ∙ ap (λ (l : List ℕ). l ++ holds ∷ p.0) start) ∙ append_assoc old.notes.items (holds ∷ p.0) (fails ∷ r.0),
        branch_found q b f g n2.diagrams n3.diagrams n4.diagrams X holds fails first second after p.0 r.0 first_kept k4 (set_kept n1.diagrams n2.diagrams k2 holds _ holds_1) (set_kept n2.diagrams n3.diagrams k3 fails _ fails_2) p.2 r.2 both,
      )

-- ---- a loop

pub loop_finds : (q : ProblemParts) (b : TestTree) (f : FlowTree) (entry n2 n3 : Finder) (mid : StepDiagramsParts) (set invariant enters leaves again : ℕ) → n3.diagrams.tests ≡ q.tests
    → GrowsFrom q (turn_term b f) entry.diagrams set mid invariant → SplitsHolds mid invariant b n2.diagrams enters → SplitsFails mid invariant b n2.diagrams leaves
    → KeepsSteps mid n2.diagrams → KeepsSteps n2.diagrams n3.diagrams → n2.notes.items ≡ entry.notes.items ++ invariant ∷ [] → FindsFlow q f n2 enters n3 again → Entails n3.diagrams again invariant
    → FindsStmt q (loop b f) entry set n3 leaves
loop_finds q b f entry n2 n3 mid set invariant enters leaves again tests grown is_enters is_leaves k2 k3 noted finds entails X is allowed =
    let g = grown X is allowed in
    let enters_2 = is_enters g.0 g.1 in
    let found = finds (λ atom. g.0 atom && truth b atom) enters_2 (part_allowed q g.0 (truth b) g.2.allowed) in (
      invariant ∷ enters ∷ found.0,
      found.1 ∙ ap (λ (l : List ℕ). l ++ enters ∷ found.0) noted ∙ append_assoc entry.notes.items (invariant ∷ []) (enters ∷ found.0),
      loop_found q b f n2.diagrams n3.diagrams X g.0 found.0 invariant enters again leaves k3 tests g.2 (set_kept mid n2.diagrams k2 invariant g.0 g.1) enters_2 (is_leaves g.0 g.1) found.2 entails,
    )
