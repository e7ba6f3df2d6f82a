-- When the notes of an outline follow from each other by the rules of Hoare logic (Hoare 1969): the conditions of its
-- places, each with its target.
use Rattle.std.specs.Prelude.{◌≡◌, ◌<◌, ℕ, suc, Bool, false, List, [], ◌∷◌, ◌++◌, length, IsTrue}
use Rattle.kat_model.specs.Trees.{TestTree, top, complement}
use Rattle.kat_model.specs.Members.{Has}
use Rattle.kat_model.specs.Problems.{ProblemParts}
use Rattle.kat_model.specs.Steps.{Atom, truth}
use Rattle.while_lang.specs.Flows.{FlowTree, empty, skip_then, abort_then, assert_then, act_then, branch_then, loop_then}
use Rattle.outline_rules.specs.declared.notes.NoteNode.{NoteNode}
use Rattle.outline_rules.specs.declared.notes.NoteNode.TheVariants.{Branch}
use Rattle.outline_rules.specs.NoteLists.{NotesParts, note_holds}
use Rattle.goal_forms.specs.TestTerms.{IsAllowed, IsRuledOut}
use Rattle.outline_rules.specs.Tasks.{TaskParts}
use Rattle.outline_rules.specs.Places.{last_place, places}

-- a condition of an outline: the pre-condition implies the first note; a note and a test imply a note; an action leads
-- from a note to a note; a note implies the post-condition
pub data Condition : Type 0 where
  starts : (pre : TestTree) → Condition
  implies : (from : ℕ) (b : TestTree) (to : ℕ) → Condition
  leads : (from a to : ℕ) → Condition
  ends : (from : ℕ) (post : TestTree) → Condition

-- the conditions of a list of statements whose first place is n
abbrev pub conditions_from : FlowTree → ℕ → List Condition
conditions_from empty n = []
conditions_from (skip_then rest) n = implies n top (suc n) ∷ conditions_from rest (suc n)
conditions_from (abort_then rest) n = conditions_from rest (suc n)
conditions_from (assert_then b rest) n = implies n b (suc n) ∷ conditions_from rest (suc n)
conditions_from (act_then a rest) n = leads n a (suc n) ∷ conditions_from rest (suc n)
conditions_from (branch_then b f g rest) n =
    let first = suc n in
    let second = suc (last_place f first) in
    let after = suc (last_place g second) in
    implies n b first ∷ (conditions_from f first ++ implies n (complement b) second ∷ (conditions_from g second
    ++ implies (last_place f first) top after ∷ implies (last_place g second) top after ∷ conditions_from rest after))
conditions_from (loop_then b f rest) n =
    let invariant = suc n in
    let body = suc invariant in
    let after = suc (last_place f body) in
    implies n top invariant ∷ implies invariant b body ∷ (conditions_from f body
    ++ implies (last_place f body) top invariant ∷ implies invariant (complement b) after ∷ conditions_from rest after)

-- the conditions of a task
abbrev pub conditions : TaskParts → List Condition
conditions t = starts t.pre ∷ (conditions_from t.flow 0 ++ ends (last_place t.flow 0) t.post ∷ [])

-- the place of the note that a condition establishes; for the post-condition, the number of places
abbrev pub target : Condition → ℕ
target (starts pre) = 0
target (implies from b to) = to
target (leads from a to) = to
target (ends from post) = suc from

-- the condition is met by the values `note` at the places, at every allowed atom
abbrev pub IsMet : ProblemParts → (ℕ → Atom → Bool) → Condition → Type 0
IsMet q note (starts pre) =
    (atom : Atom) → length atom ≡ q.tests → IsAllowed q.hyps atom → IsTrue (truth pre atom) → IsTrue (note 0 atom)
IsMet q note (implies from b to) =
    (atom : Atom) → length atom ≡ q.tests → IsAllowed q.hyps atom → IsTrue (note from atom) → IsTrue (truth b atom) → IsTrue (note to atom)
IsMet q note (leads from a to) =
    (before after : Atom) → length before ≡ q.tests → length after ≡ q.tests → IsAllowed q.hyps before → IsAllowed q.hyps after
    → IsTrue (note from before) → note to after ≡ false → IsRuledOut q.hyps a before after
IsMet q note (ends from post) =
    (atom : Atom) → length atom ≡ q.tests → IsAllowed q.hyps atom → IsTrue (note from atom) → IsTrue (truth post atom)

-- the test of each branch is a test of the problem
abbrev pub HasTests : ℕ → List NoteNode → Type 0
HasTests tests nodes = (test low high : ℕ) → Has nodes (Branch test low high) → test < tests

-- the notes follow: their tests are tests of the problem, each place has a note, and each condition is met
pub record Follows (q : ProblemParts) (t : TaskParts) (ns : NotesParts) : Type 0 where
  pub tests : HasTests q.tests ns.nodes
  pub count : length ns.notes ≡ places t.flow
  pub met : (c : Condition) → Has (conditions t) c → IsMet q (note_holds ns) c
