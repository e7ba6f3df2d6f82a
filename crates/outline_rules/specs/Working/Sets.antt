-- Sets of atoms as diagrams, and what checks of the sets show.
use Rattle.std.specs.Prelude.{◌≡◌, ◌<◌, ◌&&◌, ℕ, Bool, false, not, nat_lt, All, List, map, length, min, Option, Some, None, IsTrue}
use Rattle.kat_model.specs.Trees.{Term}
use Rattle.kat_model.specs.Members.{Has}
use Rattle.kat_model.specs.CourseOfValues.{course_of_values}
use Rattle.kat_model.specs.Problems.{ProblemParts, IsTestInRange}
use Rattle.kat_model.specs.Steps.{Atom}
use Rattle.outline_rules.specs.declared.moments.Moment.{Moment}
use Rattle.outline_rules.specs.Interleaved.{atom_at_moment}
use Rattle.outline_rules.specs.StepFunctions.{StepDiagramsParts, step_value, IsStepId, IsStepDiagram}
use Rattle.outline_rules.specs.declared.notes.NoteNode.{NoteNode}
use Rattle.outline_rules.specs.declared.notes.NoteNode.TheVariants.{False, True, Branch}
use Rattle.outline_rules.specs.NoteLists.{NotesParts, node_holds}
use Rattle.outline_rules.specs.Follows.{Condition, starts, implies, leads, ends, IsMet}
use Rattle.outline_rules.specs.Reasons.{IsLeastUnmet}
use Rattle.goal_forms.specs.HypothesisForms.{allows, some_rules_out}
use Rattle.outline_rules.specs.Working.Checks.{guard_tree, condition_of}
use Rattle.outline_rules.specs.declared.checks.Guard.{Guard}
use Rattle.outline_rules.specs.declared.checks.Check.{Check}
use Rattle.outline_rules.specs.declared.checking.MomentSets.{MomentSets}

-- the ids are the sets of the nodes at a moment, in order
pub record AreNodeSets (d : StepDiagramsParts) (moment : Moment) (nodes : List NoteNode) (ids : List ℕ) : Type 0 where
  pub count : length ids ≡ length nodes
  pub in_range : All (IsStepId d) ids
  pub values : (before after : Atom) → length before ≡ d.tests → length after ≡ d.tests
      → map (λ id. step_value d id before after) ids ≡ course_of_values (node_holds (atom_at_moment moment before after)) nodes

-- the sets at a moment are the set of the allowed atoms and the sets of the nodes of the notes
pub record AreMomentSets (d : StepDiagramsParts) (moment : Moment) (hyps : List Term) (ns : NotesParts) (s : MomentSets) : Type 0 where
  pub allowed : IsStepDiagram d s.allowed (λ before after. allows hyps (atom_at_moment moment before after))
  pub nodes : AreNodeSets d moment ns.nodes s.nodes.items

-- the second set has every allowed atom of the first at which the guard holds
abbrev pub EntailsUnder : StepDiagramsParts → ℕ → ℕ → ℕ → ℕ → Type 0
EntailsUnder d allowed from guard to =
    (before after : Atom) → length before ≡ d.tests → length after ≡ d.tests
    → IsTrue (step_value d allowed before after) → IsTrue (step_value d from before after) → IsTrue (step_value d guard before after) → IsTrue (step_value d to before after)

-- whether the node is a branch on a test that is `tests` or more
abbrev pub tests_out : ℕ → NoteNode → Bool
tests_out tests False = false
tests_out tests True = false
tests_out tests (Branch test low high) = not (nat_lt test tests)

-- the test of a node is below the number of tests, and the nodes that it names below the count
abbrev pub HasPartsInRange : ℕ → ℕ → NoteNode → Type 0
HasPartsInRange tests count False = Unit {0}
HasPartsInRange tests count True = Unit {0}
HasPartsInRange tests count (Branch test low high) = (test < tests) × (low < count) × (high < count)

-- the lesser of two numbers, or the only one, if any
abbrev pub lesser_of : Option ℕ → Option ℕ → Option ℕ
lesser_of None second = second
lesser_of (Some k) None = Some k
lesser_of (Some k) (Some l) = Some (min k l)

-- the tests of a condition are below n
abbrev pub IsConditionInRange : ℕ → Condition → Type 0
IsConditionInRange n (starts pre) = IsTestInRange n pre
IsConditionInRange n (implies from b to) = IsTestInRange n b
IsConditionInRange n (leads from a to) = Unit {0}
IsConditionInRange n (ends from post) = IsTestInRange n post

abbrev pub HasGuardInRange : ℕ → Guard → Type 0
HasGuardInRange n guard = IsTestInRange n (guard_tree guard)

abbrev pub HasCheckInRange : ℕ → Check → Type 0
HasCheckInRange n check = IsConditionInRange n (condition_of check)

-- `None` if all conditions of the list are met, else the least target of an unmet one
abbrev pub ShowsLeastUnmet : ProblemParts → (ℕ → Atom → Bool) → List Condition → Option ℕ → Type 0
ShowsLeastUnmet q note cs None = (c : Condition) → Has cs c → IsMet q note c
ShowsLeastUnmet q note cs (Some k) = IsLeastUnmet q note cs k

-- the step leads from a member of two sets, and no hypothesis rules it out
abbrev pub free_step : List Term → ℕ → (Atom → Bool) → (Atom → Bool) → Atom → Atom → Bool
free_step hyps a f g before after = (f before && g before) && not (some_rules_out hyps a before after)

-- the diagram is true, for every atom after the step, exactly at the atoms that the relation reaches
pub record AreEnds (tests : ℕ) (relation : Atom → Atom → Bool) (d : StepDiagramsParts) (id : ℕ) : Type 0 where
  pub in_range : IsStepId d id
  pub reached : (from to after : Atom) → length from ≡ tests → length to ≡ tests → length after ≡ tests → IsTrue (relation from to) → IsTrue (step_value d id to after)
  pub source : (to after : Atom) → length to ≡ tests → length after ≡ tests → IsTrue (step_value d id to after) → (from : Atom) × (length from ≡ tests) × IsTrue (relation from to)
