-- The sets of the nodes of notes, extended by one node at a time, and the sets of the notes.
use Rattle.std.proofs.Common.{◌≡◌, ℕ, zero, suc, ◌+◌, ◌<◌, inl, inr, All, List, [], ◌∷◌, ◌++◌, map, length, take, get_or, slice_get, Bool, true, false, if◌then◌else◌, Some, refl, sym, ap, ◌∙◌, subst, arith, length-append}
use mathlib.Core.Path.{ap₂}
use Rattle.std.specs.Option.{option_map}
use Rattle.std.proofs.lemmas.List.{map-append, get_or-map, take_more}
use Rattle.std.proofs.lemmas.List.Elements.{All-append}
use Rattle.std.proofs.lemmas.Option.{slice_get-get_or, slice_get-map, get_or_from_slice_get}
use Rattle.kat_model.proofs.Places.{has_at}
use Rattle.kat_model.specs.CourseOfValues.{continued, course_of_values}
use Rattle.kat_model.specs.Steps.{Atom}
use Rattle.outline_rules.specs.declared.moments.Moment.{Moment}
use Rattle.outline_rules.specs.Interleaved.{atom_at_moment}
use Rattle.outline_rules.specs.StepFunctions.{StepDiagramsParts, step_value, IsStepId, IsStepDiagram, KeepsSteps}
use Rattle.outline_rules.proofs.StepSets.{IsStepId-kept, step_value-kept, IsStepDiagram-kept}
use Rattle.outline_rules.specs.declared.notes.NoteNode.{NoteNode}
use Rattle.outline_rules.specs.declared.notes.NoteNode.TheVariants.{False, True, Branch}
use Rattle.outline_rules.specs.NoteLists.{NotesParts, node_holds, holds_at, note_holds, AreNotes}
use Rattle.kat_model.specs.Trees.{Term}
use Rattle.goal_forms.specs.HypothesisForms.{allows}
use Rattle.outline_rules.specs.Follows.{HasTests}
use Rattle.outline_rules.specs.Working.Sets.{HasPartsInRange, AreNodeSets, AreMomentSets}
use Rattle.outline_rules.specs.declared.checking.MomentSets.{MomentSets}

-- adding a value at the end of a list
continued-push : {X Y : Type 0} (step : List Y → X → Y) (values : List Y) (xs : List X) (x : X) → continued step values (xs ++ x ∷ []) ≡ continued step values xs ++ step (continued step values xs) x ∷ []
continued-push step values [] x = refl
continued-push step values (y ∷ xs) x = continued-push step (values ++ step values y ∷ []) xs x

pub course_of_values-push : {X Y : Type 0} (step : List Y → X → Y) (xs : List X) (x : X) → course_of_values step (xs ++ x ∷ []) ≡ course_of_values step xs ++ step (course_of_values step xs) x ∷ []
course_of_values-push step xs x = continued-push step [] xs x

-- ids keep their values
pub values_kept : (old new : StepDiagramsParts) (ids : List ℕ) (x y : Atom) → KeepsSteps old new → All (IsStepId old) ids → map (λ id. step_value new id x y) ids ≡ map (λ id. step_value old id x y) ids
values_kept old new [] x y kept all = refl
values_kept old new (id ∷ ids) x y kept all =
    ap₂ (λ v vs. v ∷ vs) (step_value-kept old new kept id (all 0 id (omega arith)) x y) (values_kept old new ids x y kept (λ k d lt. all (suc k) d (omega arith)))

pub ids_kept : (old new : StepDiagramsParts) (ids : List ℕ) → KeepsSteps old new → All (IsStepId old) ids → All (IsStepId new) ids
ids_kept old new ids kept all k d lt = IsStepId-kept old new kept (get_or ids k d) (all k d lt)

module _ (old new : StepDiagramsParts) (moment : Moment) (kept : KeepsSteps old new) where
  -- the sets of the nodes with an additional node
  pub sets_pushed : (done : List NoteNode) (ids : List ℕ) (node : NoteNode) (id : ℕ) → AreNodeSets old moment done ids
      → IsStepDiagram new id (λ x y. node_holds (atom_at_moment moment x y) (map (λ e. step_value old e x y) ids) node)
      → AreNodeSets new moment (done ++ node ∷ []) (ids ++ id ∷ [])
  sets_pushed done ids node id sets is =
      record {
        count = length-append ids (id ∷ []) ∙ ap (λ n. n + 1) sets.count ∙ sym (length-append done (node ∷ []));
        in_range = All-append (IsStepId new) ids (id ∷ []) (ids_kept old new ids kept sets.in_range) one;
        values = λ x y lx ly.
            let was = sets.values x y (lx ∙ kept.tests) (ly ∙ kept.tests) in
            map-append (λ e. step_value new e x y) ids (id ∷ [])
            ∙ ap₂ (λ vs v. vs ++ v ∷ []) (values_kept old new ids x y kept sets.in_range ∙ was) (is.value x y lx ly ∙ ap (λ vs. node_holds (atom_at_moment moment x y) vs node) was)
            ∙ sym (course_of_values-push (node_holds (atom_at_moment moment x y)) done node);
      }
    where
      one : All (IsStepId new) (id ∷ [])
      one zero d lt = is.in_range
      one (suc k) d lt = absurd (omega (arith, lt))

  -- the sets of the same nodes in newer diagrams
  pub sets_kept : (nodes : List NoteNode) (ids : List ℕ) → AreNodeSets old moment nodes ids → AreNodeSets new moment nodes ids
  sets_kept nodes ids sets =
      record {
        count = sets.count;
        in_range = ids_kept old new ids kept sets.in_range;
        values = λ x y lx ly. values_kept old new ids x y kept sets.in_range ∙ sets.values x y (lx ∙ kept.tests) (ly ∙ kept.tests);
      }

-- the sets at a moment in newer diagrams
pub moment_sets_kept : (old new : StepDiagramsParts) (moment : Moment) (hyps : List Term) (ns : NotesParts) (s : MomentSets) → KeepsSteps old new → AreMomentSets old moment hyps ns s → AreMomentSets new moment hyps ns s
moment_sets_kept old new moment hyps ns s kept sets =
    record {
      allowed = IsStepDiagram-kept old new kept s.allowed (λ x y. allows hyps (atom_at_moment moment x y)) sets.allowed;
      nodes = sets_kept old new moment kept ns.nodes s.nodes.items sets.nodes;
    }

-- the sets of no nodes
pub sets_none : (d : StepDiagramsParts) (moment : Moment) → AreNodeSets d moment [] []
sets_none d moment = record { count = refl; in_range = λ k id lt. absurd (omega (arith, lt)); values = λ x y lx ly. refl }

-- adding the next node of a list
pub sets_next : (old new : StepDiagramsParts) (moment : Moment) (items : List NoteNode) (ids earlier all : List ℕ) (i id : ℕ) → KeepsSteps old new → i < length items → earlier ≡ ids → all ≡ ids ++ id ∷ [] → AreNodeSets old moment (take i items) ids
    → IsStepDiagram new id (λ x y. node_holds (atom_at_moment moment x y) (map (λ e. step_value old e x y) earlier) (get_or items i False)) → AreNodeSets new moment (take (i + 1) items) all
sets_next old new moment items ids earlier all i id kept lt same more sets is =
    subst (λ l. AreNodeSets new moment (take (i + 1) items) l) (sym more)
    (subst (λ (l : List NoteNode). AreNodeSets new moment l (ids ++ id ∷ [])) (sym (take_more items i False lt))
    (sets_pushed old new moment kept (take i items) ids (get_or items i False) id sets
    (subst (λ (l : List ℕ). IsStepDiagram new id (λ x y. node_holds (atom_at_moment moment x y) (map (λ e. step_value old e x y) l) (get_or items i False))) same is)))

-- the test of a node of notes and the nodes that it names are in range
pub parts_in_range : (tests count : ℕ) (ns : NotesParts) (items : List NoteNode) (i : ℕ) → AreNotes ns → HasTests tests ns.nodes → items ≡ ns.nodes → i < length items → count ≡ i → HasPartsInRange tests count (get_or items i False)
parts_in_range tests count ns items i are has same lt e =
    subst (λ n. HasPartsInRange tests n (get_or items i False)) (sym e) (by_node (get_or items i False) (ap (λ (l : List NoteNode). slice_get l i) (sym same) ∙ slice_get-get_or items i False lt))
  where
    by_node : (n : NoteNode) → slice_get ns.nodes i ≡ Some n → HasPartsInRange tests i n
    by_node False e = tt
    by_node True e = tt
    by_node (Branch k x y) e = (has k x y (has_at ns.nodes i (Branch k x y) e), are.ordered i (Branch k x y) e x (inl refl), are.ordered i (Branch k x y) e y (inr (inl refl)))

pub value_at : (f : ℕ → Bool) (ids : List ℕ) (k : ℕ) (id : ℕ) → k < length ids → id ≡ get_or ids k id → f id ≡ get_or (map f ids) k false
value_at f ids k id lt is = ap f is ∙ sym (get_or-map f ids k id false lt)

-- the set of a note at its place
pub note_set_some : (d : StepDiagramsParts) (moment : Moment) (ns : NotesParts) (ids : List ℕ) (place k id : ℕ) → AreNotes ns → AreNodeSets d moment ns.nodes ids → slice_get ns.notes place ≡ Some k → k < length ids → id ≡ get_or ids k id
    → IsStepDiagram d id (λ x y. note_holds ns place (atom_at_moment moment x y))
note_set_some d moment ns ids place k id are sets at lt is =
    record {
      in_range = subst (IsStepId d) (sym is) (sets.in_range k id lt);
      value = λ x y lx ly.
          let atom : Atom = atom_at_moment moment x y in
          value_at (λ e. step_value d e x y) ids k id lt is ∙ ap (λ vs. get_or vs k false) (sets.values x y lx ly)
          ∙ sym (get_or_from_slice_get (map (λ n. holds_at ns.nodes n atom) ns.notes) place (holds_at ns.nodes k atom) false (slice_get-map (λ n. holds_at ns.nodes n atom) ns.notes place ∙ ap (option_map (λ n. holds_at ns.nodes n atom)) at));
    }

-- ---- a branch holds as its node for the value of its test

pub branch_holds : (atom : Atom) (earlier : List ℕ) (value : ℕ → Bool) (node : NoteNode) (test low high l h : ℕ) → node ≡ Branch test low high → low < length earlier → high < length earlier
    → l ≡ get_or earlier low l → h ≡ get_or earlier high h → (if get_or atom test false then value h else value l) ≡ node_holds atom (map value earlier) node
branch_holds atom earlier value node test low high l h is below_low below_high at_low at_high = rw is (by_value (get_or atom test false))
  where
    read : (k id : ℕ) → k < length earlier → id ≡ get_or earlier k id → value id ≡ get_or (map value earlier) k false
    read k id lt at = ap value at ∙ sym (get_or-map value earlier k id false lt)

    by_value : (b : Bool) → (if b then value h else value l) ≡ get_or (map value earlier) (if b then high else low) false
    by_value true = read high h below_high at_high
    by_value false = read low l below_low at_low
