-- The items of an action: the table of moves of both sides.
use Rattle.std.proofs.Common.{◌≡◌, ℕ, true, false, List, [], sym, ap, ◌∙◌, subst}
use Rattle.std.specs.List.Sorted.{IsStrictlySortedBy}
use Rattle.std.specs.Map.{keys_of}
use Rattle.std.specs.Ordering.{nat_cmp}
use Rattle.kat_model.specs.Members.{Has, SameMembers}
use Rattle.kat_model.specs.Steps.{Atom}
use Rattle.kat_model.proofs.Lists.{has_map}
use Rattle.term_nodes.specs.NumberSets.{are_ascending}
use Rattle.test_diagrams.specs.Functions.{DiagramsParts, value_of, IsAtomOf, IsDiagramId, IsDiagramOf}
use Rattle.partial_derivs.specs.declared.moves.Guarded.{Guarded}
use Rattle.partial_derivs.specs.Moves.{AreGuards, AreMerged}
use Rattle.walk_pairs.specs.declared.items.Item.{Item}
use Rattle.walk_pairs.specs.declared.items.Side.{Side}
use Rattle.walk_pairs.specs.declared.items.Side.TheVariants.{Left, Right}
use Rattle.walk_pairs.specs.Items.{guard_of, chosen, led, items_in, AreKeyed, found_item, item_in, last_guard, AddsMoves, AreItemsOf}
use Rattle.walk_pairs.proofs.SortedKeys.{sorted_ascending}
use Rattle.walk_pairs.proofs.ItemTables.{sorted_finds, targets_are_keys, chosen_item}
use Rattle.walk_pairs.proofs.LastGuards.{last_guard_all, led_last}

module _ (d : DiagramsParts) (left right : List Guarded) (act never : ℕ) (mid es : List (ℕ × Item)) (nowhere : IsDiagramOf d never (λ atom. false)) (first : AddsMoves never Left Right [] mid left act) (second : AddsMoves never Right Left mid es right act)
    (keyed : AreKeyed es) (sorted : IsStrictlySortedBy nat_cmp (keys_of es)) where
  -- the guards of an item are those of the last moves to its target
  left_guard : (t : ℕ) → guard_of Left (item_in never es t) ≡ last_guard left act t never
  left_guard t = second.kept t ∙ first.there t

  right_guard : (t : ℕ) → guard_of Right (item_in never es t) ≡ last_guard right act t never
  right_guard t = second.there t ∙ ap (last_guard right act t) (first.kept t)

  -- an item of the table is the item of its target
  item_found : (i : Item) → Has (items_in es) i → item_in never es i.target ≡ i
  item_found i h =
      let entry = has_map (λ (z : ℕ × Item). z.1) es i h in
      let key : entry.0.0 ≡ i.target = sym (keyed entry.0 entry.1) ∙ ap (λ (z : Item). z.target) entry.2 in
      ap (λ k. item_in never es k) (sym key) ∙ ap (λ o. found_item never entry.0.0 o) (sorted_finds es sorted entry.0 entry.1) ∙ entry.2

  same_on : (side : Side) (moves : List Guarded) → AreMerged moves → ((t : ℕ) → guard_of side (item_in never es t) ≡ last_guard moves act t never) → (atom : Atom) → IsAtomOf d atom
      → SameMembers (chosen d side (items_in es) atom) (led d moves act atom)
  same_on side moves merged guards atom fits t =
      let none : value_of d never atom ≡ false = nowhere.value atom fits in
      let here = chosen_item d side atom never es keyed sorted none t in
      let there = led_last d act atom t moves never merged none in
      let same : value_of d (guard_of side (item_in never es t)) atom ≡ value_of d (last_guard moves act t never) atom = ap (λ g. value_of d g atom) (guards t) in (
        (λ h. there.1 (sym same ∙ here.0 h)),
        (λ h. here.1 (same ∙ there.0 h)),
      )

  pub items_of_moves : AreGuards d left → AreGuards d right → AreMerged left → AreMerged right → AreItemsOf d left right act (items_in es)
  items_of_moves left_ids right_ids left_merged right_merged = record {
    are = record {
      lefts = λ i h. subst (IsDiagramId d) (sym (left_guard i.target) ∙ ap (λ (z : Item). z.left) (item_found i h)) (last_guard_all (IsDiagramId d) left act i.target never left_ids nowhere.in_range);
      rights = λ i h. subst (IsDiagramId d) (sym (right_guard i.target) ∙ ap (λ (z : Item). z.right) (item_found i h)) (last_guard_all (IsDiagramId d) right act i.target never right_ids nowhere.in_range);
      ascending = subst (λ ts. are_ascending ts ≡ true) (sym (targets_are_keys es keyed)) (sorted_ascending (keys_of es) sorted);
    };
    lefts = same_on Left left left_merged left_guard;
    rights = same_on Right right right_merged right_guard;
  }
