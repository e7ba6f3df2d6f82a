-- Appending nodes to the nodes of notes: the rules that they keep, and where the nodes hold.
use Rattle.std.proofs.Common.{◌≡◌, ℕ, ◌+◌, ◌<◌, ◌≤◌, ◌⊎◌, inl, inr, ⊎_elim, List, [], ◌∷◌, ◌++◌, length, get_or, Bool, true, false, cond, if◌then◌else◌, Result, Ok, Err, Some, slice_get, refl, sym, ap, ◌∙◌, subst, arith, append-nil, length-append}
use Rattle.std.specs.Result.{IfOk, OnOk}
use Rattle.std.specs.List.{list_any}
use Rattle.indexmap.specs.IndexSet.{insert_key}
use Rattle.kat_model.specs.Members.{Has, HasNoDoubles}
use Rattle.kat_model.specs.Steps.{Atom}
use Rattle.kat_model.proofs.Lists.{has_append}
use Rattle.kat_model.proofs.Places.{slice_get_last}
use Rattle.kat_model.proofs.ValuesInOrder.{course_of_values-append, course_of_values-at}
use Rattle.outline_rules.specs.StepFunctions.{StepDiagramsParts, KeepsSteps}
use Rattle.outline_rules.proofs.StepSets.{IsStepId-kept, step_value-kept}
use Rattle.outline_rules.specs.declared.notes.NoteNode.{NoteNode}
use Rattle.outline_rules.specs.declared.notes.NoteNode.TheVariants.{False, True, Branch}
use Rattle.outline_rules.specs.NoteLists.{node_parts, node_holds, holds_at}
use Rattle.hoare_outlines.specs.Working.Noted.{IsNodeFor, AreNoteNodes, AreKnown, AddsNode, AddsNodes}

-- ---- what an insert does

insert_key_adds : (eq : NoteNode → NoteNode → Bool) (nodes : List NoteNode) (node : NoteNode) → AddsNode nodes (insert_key eq nodes node) node
insert_key_adds eq nodes node =
    elim (list_any (eq node) nodes) as (λ v. AddsNode nodes (if v then nodes else (nodes ++ node ∷ [])) node) [ true ↦ inl refl | false ↦ inr refl ]

pub inserted_adds : {T E : Type 0} (eq : NoteNode → NoteNode → Bool) (r : Result T E) (old new : List NoteNode) (node : NoteNode) → IfOk r (λ t. new ≡ insert_key eq old node) → OnOk r (AddsNode old new node)
inserted_adds eq (Ok t) old new node e = subst (λ l. AddsNode old l node) (sym e) (insert_key_adds eq old node)
inserted_adds eq (Err t) old new node e = tt

-- ---- the rules of nodes

pub adds_one : (old new : List NoteNode) (node : NoteNode) → AddsNode old new node → AddsNodes old new
adds_one old new node adds = ⊎_elim (λ e. ([], e ∙ sym (append-nil old))) (λ e. (node ∷ [], e)) adds

pub adds_itself : (nodes : List NoteNode) → AddsNodes nodes nodes
adds_itself nodes = ([], sym (append-nil nodes))

pub adds_longer : (old new : List NoteNode) → AddsNodes old new → length old ≤ length new
adds_longer old new adds = let e : length new ≡ length old + length adds.0 = ap length adds.1 ∙ length-append old adds.0 in omega (arith, e)

-- the tests of a node are tests of the problem
abbrev pub HasTestIn : ℕ → NoteNode → Type 0
HasTestIn tests node = (test low high : ℕ) → node ≡ Branch test low high → test < tests

-- the nodes that a node names are below `count`
abbrev pub NamesBelow : ℕ → NoteNode → Type 0
NamesBelow count node = (part : ℕ) → Has (node_parts node) part → part < count

pub nodes_with : (tests : ℕ) (old new : List NoteNode) (node : NoteNode) → AddsNode old new node → HasNoDoubles new → NamesBelow (length old) node → HasTestIn tests node → AreNoteNodes tests old → AreNoteNodes tests new
nodes_with tests old new node adds once names test are =
    record {
      ordered = λ k n e. ⊎_elim (λ same. are.ordered k n (subst (λ l. slice_get l k ≡ Some n) same e)) (λ more. last k n (slice_get_last old node k n (subst (λ l. slice_get l k ≡ Some n) more e))) adds;
      once = once;
      in_range = λ t low high h. ⊎_elim (λ same. are.in_range t low high (subst (λ l. Has l (Branch t low high)) same h)) (λ more. in_more t low high (has_append old (node ∷ []) (Branch t low high) (subst (λ l. Has l (Branch t low high)) more h))) adds;
    }
  where
    last : (k : ℕ) (n : NoteNode) → (slice_get old k ≡ Some n) ⊎ ((k ≡ length old) × (node ≡ n)) → NamesBelow k n
    last k n (inl e) = are.ordered k n e
    last k n (inr e) = subst (λ j. NamesBelow j n) (sym e.0) (subst (NamesBelow (length old)) e.1 names)

    in_more : (t low high : ℕ) → Has old (Branch t low high) ⊎ Has (node ∷ []) (Branch t low high) → t < tests
    in_more t low high (inl h) = are.in_range t low high h
    in_more t low high (inr h) = ⊎_elim (λ e. test t low high e) absurd h

-- ---- where nodes hold

pub holds-append : (nodes more : List NoteNode) (k : ℕ) (atom : Atom) → k < length nodes → holds_at (nodes ++ more) k atom ≡ holds_at nodes k atom
holds-append nodes more k atom lt = course_of_values-append (node_holds atom) nodes more false k lt

pub holds_later : (old new : List NoteNode) (k : ℕ) (atom : Atom) → AddsNodes old new → k < length old → holds_at new k atom ≡ holds_at old k atom
holds_later old new k atom adds lt = ap (λ l. holds_at l k atom) adds.1 ∙ holds-append old adds.0 k atom lt

pub holds-true : (nodes : List NoteNode) (k : ℕ) (atom : Atom) → slice_get nodes k ≡ Some True → holds_at nodes k atom ≡ true
holds-true nodes k atom at = (course_of_values-at (node_holds atom) false nodes k True at).here

pub holds-false : (nodes : List NoteNode) (k : ℕ) (atom : Atom) → slice_get nodes k ≡ Some False → holds_at nodes k atom ≡ false
holds-false nodes k atom at = (course_of_values-at (node_holds atom) false nodes k False at).here

pub holds-branch : (nodes : List NoteNode) (k test low high : ℕ) (atom : Atom) → slice_get nodes k ≡ Some (Branch test low high) → low < k → high < k
    → holds_at nodes k atom ≡ cond (get_or atom test false) (holds_at nodes high atom) (holds_at nodes low atom)
holds-branch nodes k test low high atom at below_low below_high =
    let step = course_of_values-at (node_holds atom) false nodes k (Branch test low high) at in
    step.here ∙ chosen (get_or atom test false) step.front step.before
  where
    chosen : (v : Bool) (front : List Bool) → ((j : ℕ) → j < k → get_or front j false ≡ holds_at nodes j atom) → get_or front (cond v high low) false ≡ cond v (holds_at nodes high atom) (holds_at nodes low atom)
    chosen true front before = before high below_high
    chosen false front before = before low below_low

module _ (old new : StepDiagramsParts) (nodes more : List NoteNode) (kept : KeepsSteps old new) (adds : AddsNodes nodes more) where
  pub node_later : (id node : ℕ) → IsNodeFor old nodes id node → IsNodeFor new more id node
  node_later id node is =
      record {
        is_id = IsStepId-kept old new kept id is.is_id;
        is_node = let longer = adds_longer nodes more adds in omega (arith, longer, is.is_node);
        holds = λ atom wide. holds_later nodes more node atom adds is.is_node ∙ is.holds atom (wide ∙ kept.tests) ∙ sym (step_value-kept old new kept id is.is_id atom atom);
      }

  pub known_later : (known : List (ℕ × ℕ)) → AreKnown old nodes known → AreKnown new more known
  known_later [] are = tt
  known_later (entry ∷ known) are = (node_later entry.0 entry.1 are.0, known_later known are.1)
