-- Nodes that hold where diagrams are true: constants, branches, and nodes that are stored for later.
use Rattle.std.proofs.Common.{◌≡◌, ℕ, zero, suc, ◌<◌, inl, inr, ⊎_elim, List, [], ◌∷◌, ◌++◌, length, map, get_or, Bool, true, false, cond, Option, Some, None, IfSome, slice_get, slice_index_or, refl, sym, ap, ◌∙◌, subst}
use mathlib.Core.Path.{ap₂}
use Rattle.std.specs.Map.{lookup}
use Rattle.indexmap.specs.IndexMap.{insert_entry}
use Rattle.std.proofs.lemmas.Option.{slice_get_within}
use Rattle.kat_model.specs.Members.{Has}
use Rattle.kat_model.specs.Steps.{Atom}
use Rattle.outline_rules.specs.StepFunctions.{StepDiagramsParts, step_value, IsStepId, IsStepDiagram, KeepsSteps, Entails}
use Rattle.outline_rules.proofs.StepSets.{KeepsSteps-itself, KeepsSteps-trans, IsStepId-kept, step_value-kept}
use Rattle.outline_rules.specs.declared.notes.NoteNode.{NoteNode}
use Rattle.outline_rules.specs.declared.notes.NoteNode.TheVariants.{False, True, Branch}
use Rattle.outline_rules.specs.NoteLists.{NotesParts, AreNotes, holds_at}
use Rattle.outline_rules.specs.Follows.{HasTests}
use Rattle.hoare_outlines.specs.Working.Noted.{IsSetFrom, IsNodeFor, AreNoteNodes, AreKnown, AddsNodes, AreSets, AreNodesFor, NotesSets}
use Rattle.hoare_outlines.proofs.NodeLists.{node_later, holds-true, holds-false, holds-branch}
use Rattle.hoare_outlines.proofs.Dependences.{IsFixed, depends_none, chosen_value, one_value}

-- ---- constants

pub true_for : (old new : StepDiagramsParts) (always set k : ℕ) (nodes : List NoteNode) → KeepsSteps old new → IsStepId old set → IsStepDiagram old always (λ x y. true) → Entails old always set → slice_get nodes k ≡ Some True → IsNodeFor new nodes set k
true_for old new always set k nodes kept is is_always all at =
    record {
      is_id = IsStepId-kept old new kept set is;
      is_node = slice_get_within nodes k True at;
      holds = λ atom wide.
          let own = wide ∙ kept.tests in
          holds-true nodes k atom at ∙ sym (all atom atom own own (is_always.value atom atom own own)) ∙ sym (step_value-kept old new kept set is atom atom);
    }

pub false_for : (old new : StepDiagramsParts) (always set k : ℕ) (nodes : List NoteNode) → KeepsSteps old new → IsSetFrom old old.tests set → IsStepDiagram old always (λ x y. true) → (Entails old always set → ⊥) → slice_get nodes k ≡ Some False → IsNodeFor new nodes set k
false_for old new always set k nodes kept s is_always some at =
    record {
      is_id = IsStepId-kept old new kept set s.is_set.in_range;
      is_node = slice_get_within nodes k False at;
      holds = λ atom wide.
          let own = wide ∙ kept.tests in
          holds-false nodes k atom at ∙ sym (s.is_set.value atom atom own own ∙ never atom own (s.set atom) refl) ∙ sym (step_value-kept old new kept set s.is_set.in_range atom atom);
    }
  where
    never : (atom : Atom) → length atom ≡ old.tests → (b : Bool) → s.set atom ≡ b → s.set atom ≡ false
    never atom wide true e = absurd (some (λ x y lx ly h. s.is_set.value x y lx ly ∙ depends_none old.tests s.set x atom s.depends lx wide ∙ e))
    never atom wide false e = e

-- ---- by the value of a test

-- both values of the test give the same set
pub same_for : (old mid new later : StepDiagramsParts) (test set low high node : ℕ) (nodes : List NoteNode) → KeepsSteps old mid → KeepsSteps mid new → KeepsSteps new later → IsStepId old set
    → IsFixed old mid test false set low → IsFixed mid new test true set high → low ≡ high → IsNodeFor later nodes low node → IsNodeFor later nodes set node
same_for old mid new later test set low high node nodes first second rest is is_low is_high same found =
    let own = IsStepId-kept mid new second set (IsStepId-kept old mid first set is) in
    record {
      is_id = IsStepId-kept new later rest set own;
      is_node = found.is_node;
      holds = λ atom wide.
          let here = wide ∙ rest.tests in
          let low_id = IsStepId-kept mid new second low is_low.in_range in
          let chosen = chosen_value old mid new test set low high atom first second is is_low is_high here in
          let equal : step_value new high atom atom ≡ step_value new low atom atom = ap (λ id. step_value new id atom atom) (sym same) in
          found.holds atom wide ∙ step_value-kept new later rest low low_id atom atom ∙ one_value (get_or atom test false) _ _ _ equal chosen ∙ sym (step_value-kept new later rest set own atom atom);
    }

pub branch_for : (old mid new third fourth : StepDiagramsParts) (test set low high where_false where_true node : ℕ) (before all nodes : List NoteNode) → KeepsSteps old mid → KeepsSteps mid new → KeepsSteps new third → KeepsSteps third fourth → IsStepId old set
    → IsFixed old mid test false set low → IsFixed mid new test true set high → IsNodeFor third before low where_false → IsNodeFor fourth all high where_true → AddsNodes before all → AddsNodes all nodes
    → AreNoteNodes fourth.tests nodes → slice_get nodes node ≡ Some (Branch test where_false where_true) → IsNodeFor fourth nodes set node
branch_for old mid new third fourth test set low high where_false where_true node before all nodes first second k3 k4 is is_low is_high on_low on_high adds more rules at =
    let rest = KeepsSteps-trans new third fourth k3 k4 in
    let own = IsStepId-kept mid new second set (IsStepId-kept old mid first set is) in
    let low_id = IsStepId-kept mid new second low is_low.in_range in
    let low_node = node_later fourth fourth all nodes (KeepsSteps-itself fourth) more low where_false (node_later third fourth before all k4 adds low where_false on_low) in
    let high_node = node_later fourth fourth all nodes (KeepsSteps-itself fourth) more high where_true on_high in
    record {
      is_id = IsStepId-kept new fourth rest set own;
      is_node = slice_get_within nodes node (Branch test where_false where_true) at;
      holds = λ atom wide.
          let here = wide ∙ rest.tests in
          holds-branch nodes node test where_false where_true atom at (rules.ordered node _ at where_false (inl refl)) (rules.ordered node _ at where_true (inr (inl refl)))
          ∙ ap₂ (λ h l. cond (get_or atom test false) h l)
          (high_node.holds atom wide ∙ step_value-kept new fourth rest high is_high.in_range atom atom)
          (low_node.holds atom wide ∙ step_value-kept new fourth rest low low_id atom atom)
          ∙ chosen_value old mid new test set low high atom first second is is_low is_high here
          ∙ sym (step_value-kept new fourth rest set own atom atom);
    }

-- ---- stored nodes

module _ (eq : ℕ → ℕ → Bool) (same : (x y : ℕ) → eq x y ≡ true → x ≡ y) (nodes : List NoteNode) where
  looked_up : (d : StepDiagramsParts) (known : List (ℕ × ℕ)) (set node : ℕ) → AreKnown d nodes known → lookup (eq set) known ≡ Some node → IsNodeFor d nodes set node
  looked_up d [] set node are e = absurd cc
  looked_up d (entry ∷ known) set node are e = by_value (eq set entry.0) refl e (looked_up d known set node are.1)
    where
      by_value : (b : Bool) → eq set entry.0 ≡ b → cond b (Some entry.1) (lookup (eq set) known) ≡ Some node → (lookup (eq set) known ≡ Some node → IsNodeFor d nodes set node) → IsNodeFor d nodes set node
      by_value true p f later =
          let found : entry.1 ≡ node = cc in
          subst (λ i. IsNodeFor d nodes i node) (sym (same set entry.0 p)) (subst (λ n. IsNodeFor d nodes entry.0 n) found are.0)
      by_value false p f later = later f

  pub find_known : (known : List (ℕ × ℕ)) (set : ℕ) (found : Option ℕ) → found ≡ lookup (eq set) known → IfSome found (λ node. (d : StepDiagramsParts) → AreKnown d nodes known → IsNodeFor d nodes set node)
  find_known known set None e = tt
  find_known known set (Some node) e = λ d are. looked_up d known set node are (sym e)

  pub known_with : (d : StepDiagramsParts) (known new : List (ℕ × ℕ)) (set node : ℕ) → new ≡ insert_entry eq known set node → AreKnown d nodes known → IsNodeFor d nodes set node → AreKnown d nodes new
  known_with d known new set node e are own = subst (AreKnown d nodes) (sym e) (more known are)
    where
      more : (known : List (ℕ × ℕ)) → AreKnown d nodes known → AreKnown d nodes (insert_entry eq known set node)
      more [] h = (own, tt)
      more (entry ∷ known) h = by_value (eq set entry.0) refl (more known h.1)
        where
          by_value : (b : Bool) → eq set entry.0 ≡ b → AreKnown d nodes (insert_entry eq known set node) → AreKnown d nodes (cond b ((entry.0, node) ∷ known) (entry ∷ insert_entry eq known set node))
          by_value true p later = (subst (λ i. IsNodeFor d nodes i node) (same set entry.0 p) own, h.1)
          by_value false p later = (h.0, later)

-- ---- notes of sets

pub nodes_for_later : (old new : StepDiagramsParts) (nodes more : List NoteNode) (ids ns : List ℕ) → KeepsSteps old new → AddsNodes nodes more → AreNodesFor old nodes ids ns → AreNodesFor new more ids ns
nodes_for_later old new nodes more [] [] kept adds are = tt
nodes_for_later old new nodes more [] (n ∷ ns) kept adds are = absurd are
nodes_for_later old new nodes more (id ∷ ids) [] kept adds are = absurd are
nodes_for_later old new nodes more (id ∷ ids) (n ∷ ns) kept adds are = (node_later old new nodes more kept adds id n are.0, nodes_for_later old new nodes more ids ns kept adds are.1)

pub nodes_for_more : (d : StepDiagramsParts) (nodes : List NoteNode) (ids ns : List ℕ) (id n : ℕ) → AreNodesFor d nodes ids ns → IsNodeFor d nodes id n → AreNodesFor d nodes (ids ++ id ∷ []) (ns ++ n ∷ [])
nodes_for_more d nodes [] [] id n are is = (is, tt)
nodes_for_more d nodes [] (m ∷ ns) id n are is = absurd are
nodes_for_more d nodes (i ∷ ids) [] id n are is = absurd are
nodes_for_more d nodes (i ∷ ids) (m ∷ ns) id n are is = (are.0, nodes_for_more d nodes ids ns id n are.1 is)

nodes_count : (d : StepDiagramsParts) (nodes : List NoteNode) (ids ns : List ℕ) → AreNodesFor d nodes ids ns → length ns ≡ length ids
nodes_count d nodes [] [] are = refl
nodes_count d nodes [] (n ∷ ns) are = absurd are
nodes_count d nodes (id ∷ ids) [] are = absurd are
nodes_count d nodes (id ∷ ids) (n ∷ ns) are = ap suc (nodes_count d nodes ids ns are.1)

nodes_within : (d : StepDiagramsParts) (nodes : List NoteNode) (ids ns : List ℕ) (k : ℕ) → AreNodesFor d nodes ids ns → Has ns k → k < length nodes
nodes_within d nodes [] [] k are h = absurd h
nodes_within d nodes [] (n ∷ ns) k are h = absurd are
nodes_within d nodes (id ∷ ids) [] k are h = absurd are
nodes_within d nodes (id ∷ ids) (n ∷ ns) k are h = ⊎_elim (λ e. subst (λ m. m < length nodes) e are.0.is_node) (nodes_within d nodes ids ns k are.1) h

nodes_hold : (d : StepDiagramsParts) (nodes : List NoteNode) (ids ns : List ℕ) (place : ℕ) (atom : Atom) → length atom ≡ d.tests → AreNodesFor d nodes ids ns
    → slice_index_or (map (λ k. holds_at nodes k atom) ns) place false ≡ slice_index_or (map (λ id. step_value d id atom atom) ids) place false
nodes_hold d nodes [] [] place atom wide are = refl
nodes_hold d nodes [] (n ∷ ns) place atom wide are = absurd are
nodes_hold d nodes (id ∷ ids) [] place atom wide are = absurd are
nodes_hold d nodes (id ∷ ids) (n ∷ ns) zero atom wide are = are.0.holds atom wide
nodes_hold d nodes (id ∷ ids) (n ∷ ns) (suc place) atom wide are = nodes_hold d nodes ids ns place atom wide are.1

pub are_notes : (d : StepDiagramsParts) (nodes : List NoteNode) (ids ns : List ℕ) → AreNoteNodes d.tests nodes → AreNodesFor d nodes ids ns → AreNotes (record { nodes = nodes; notes = ns })
are_notes d nodes ids ns rules are = record { ordered = rules.ordered; once = rules.once; notes = λ k h. nodes_within d nodes ids ns k are h }

pub notes_sets : (d : StepDiagramsParts) (nodes : List NoteNode) (ids ns : List ℕ) → AreNoteNodes d.tests nodes → AreNodesFor d nodes ids ns → NotesSets d ids (record { nodes = nodes; notes = ns })
notes_sets d nodes ids ns rules are = record { tests = rules.in_range; count = nodes_count d nodes ids ns are; holds = λ place atom wide. nodes_hold d nodes ids ns place atom wide are }

-- notes of the sets are notes of the sets in an older collection
pub notes_older : (old new : StepDiagramsParts) (ids : List ℕ) (ns : NotesParts) → KeepsSteps old new → AreSets old ids → NotesSets new ids ns → NotesSets old ids ns
notes_older old new ids ns kept sets notes =
    record {
      tests = subst (λ n. HasTests n ns.nodes) kept.tests notes.tests;
      count = notes.count;
      holds = λ place atom wide. notes.holds place atom (wide ∙ sym kept.tests) ∙ ap (λ (vs : List Bool). slice_index_or vs place false) (same_values ids sets atom);
    }
  where
    same_values : (ids : List ℕ) → AreSets old ids → (atom : Atom) → map (λ id. step_value new id atom atom) ids ≡ map (λ id. step_value old id atom atom) ids
    same_values [] sets atom = refl
    same_values (id ∷ ids) sets atom = ap₂ (λ v vs. v ∷ vs) (step_value-kept old new kept id (sets id (inl refl)).1.in_range atom atom) (same_values ids (λ i h. sets i (inr h)) atom)
