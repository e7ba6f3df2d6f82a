-- Results of the finder for a statement, and for a list of statements.
use Rattle.std.specs.Prelude.{◌≡◌, ◌++◌, ◌∷◌, ℕ, List, drop}
use Rattle.kat_model.specs.Problems.{ProblemParts}
use Rattle.outline_rules.specs.StepFunctions.{StepDiagramsParts, KeepsSteps, AreStepDiagrams}
use Rattle.while_lang.specs.Flows.{FlowTree, FlowStmt}
use Rattle.while_lang.specs.FlowViews.{flows_tree}
use Rattle.while_lang.specs.declared.flow.Flow.{Flow}
use Rattle.while_lang.specs.Encoding.{stmt_terms}
use Rattle.goal_forms.specs.HypothesisForms.{allows}
use Rattle.hoare_outlines.specs.Working.AtomSets.{AtomSet, IsSetId, AreSetIds, IsAllowedSet}
use Rattle.hoare_outlines.specs.Working.Annotated.{Annotated, StmtAnnotated}
use Rattle.hoare_outlines.specs.Working.Reached.{Reached, ReachedInTurn, stmt_term}
use Rattle.hoare_outlines.specs.declared.finding.Finder.{Finder}

-- the diagrams are over the tests of the problem, and `allowed` is the set of the allowed atoms
pub record IsFinder (q : ProblemParts) (f : Finder) : Type 0 where
  pub sound : AreStepDiagrams f.diagrams
  pub tests : f.diagrams.tests ≡ q.tests
  pub allowed : IsSetId f.diagrams f.allowed (allows q.hyps)

-- the sets within a statement and the set after it, each atom of which is reached from the set before it
pub record StmtFound (q : ProblemParts) (s : FlowStmt) (d : StepDiagramsParts) (X : AtomSet) (ids : List ℕ) (last : ℕ) : Type 0 where
  pub sets : List AtomSet
  pub are_sets : AreSetIds d ids sets
  pub end : AtomSet
  pub is_end : IsSetId d last end
  pub allowed : IsAllowedSet q end
  pub annotated : StmtAnnotated q s X sets end
  pub reached : Reached q (stmt_term s) X end

-- the sets at the places of a list of statements, except its first place; the last set is reached from the first
pub record FlowFound (q : ProblemParts) (f : FlowTree) (d : StepDiagramsParts) (X : AtomSet) (ids : List ℕ) (last : ℕ) : Type 0 where
  pub sets : List AtomSet
  pub are_sets : AreSetIds d ids sets
  pub end : AtomSet
  pub is_end : IsSetId d last end
  pub allowed : IsAllowedSet q end
  pub annotated : Annotated q f X sets end
  pub reached : ReachedInTurn q (stmt_terms f) X end

-- the id is a set of allowed atoms
abbrev pub HasAllowedSet : ProblemParts → StepDiagramsParts → ℕ → Type 0
HasAllowedSet q d id = (X : AtomSet) × IsSetId d id X × IsAllowedSet q X

-- the finder adds the notes of the statement, whatever set of allowed atoms the id `set` is
abbrev pub FindsStmt : ProblemParts → FlowStmt → Finder → ℕ → Finder → ℕ → Type 0
FindsStmt q s old set new last =
    (X : AtomSet) → IsSetId old.diagrams set X → IsAllowedSet q X → (ids : List ℕ) × (new.notes.items ≡ old.notes.items ++ ids) × StmtFound q s new.diagrams X ids last

abbrev pub FindsFlow : ProblemParts → FlowTree → Finder → ℕ → Finder → ℕ → Type 0
FindsFlow q f old set new last =
    (X : AtomSet) → IsSetId old.diagrams set X → IsAllowedSet q X → (ids : List ℕ) × (new.notes.items ≡ old.notes.items ++ set ∷ ids) × FlowFound q f new.diagrams X ids last

-- the statements before place i are done: a result for the remaining statements completes a result for all
pub record FlowSoFar (q : ProblemParts) (items : List Flow) (i : ℕ) (entry : List ℕ) (f : Finder) (X : AtomSet) (reached : ℕ) : Type 0 where
  pub ids : List ℕ
  pub notes : f.notes.items ≡ entry ++ ids
  pub here : AtomSet
  pub is_here : IsSetId f.diagrams reached here
  pub allowed : IsAllowedSet q here
  pub whole : (d : StepDiagramsParts) → KeepsSteps f.diagrams d → (more : List ℕ) (last : ℕ) → FlowFound q (flows_tree (drop i items)) d here more last → FlowFound q (flows_tree items) d X (ids ++ more) last
