-- Items at an atom: a sure target of a side is chosen there, and a target chosen on only one side is open. If the
-- guards are constant, exactly the sure targets are chosen.
use Rattle.std.proofs.Common.{◌≡◌, ◌⊎◌, ℕ, inl, inr, ⊎_elim, List, refl, sym, ap, ◌∙◌, subst, Bool, true, false, not, ◌&&◌, nat_eq}
use Rattle.std.proofs.lemmas.Bool.{not-true, true≢false, eqb-true, eq-eqb, and_parts}
use Rattle.kat_model.specs.Trees.{Term}
use Rattle.kat_model.specs.Members.{Has, IsSubset, SameMembers}
use Rattle.kat_model.specs.Steps.{Atom}
use Rattle.kat_model.proofs.Lists.{has_map, map_has}
use Rattle.term_nodes.specs.NodeLists.{NodeParts}
use Rattle.term_nodes.specs.NodeTrees.{tree_at}
use Rattle.test_diagrams.specs.Functions.{DiagramsParts, value_of, IsDiagramId, IsAtomOf, IsConstant}
use Rattle.test_diagrams.specs.Reduced.{IsReduced}
use Rattle.test_diagrams.proofs.Apart.{same_function_same_id}
use Rattle.walk_pairs.specs.Covered.{IsBetween}
use Rattle.term_nodes.specs.NumberSets.{terms_of}
use Rattle.walk_pairs.specs.Items.{guard_of, guard_beyond, targets_under, is_open, open_targets, chosen}
use Rattle.walk_pairs.specs.Items.{AreEnds}
use Rattle.walk_pairs.specs.declared.items.Item.{Item}
use Rattle.walk_pairs.specs.declared.items.Ends.{Ends}
use Rattle.walk_pairs.specs.declared.items.Side.{Side}
use Rattle.walk_pairs.proofs.ItemTargets.{under_where, open_where, chosen_where, where_has, has_where}

pub terms_within : (store : NodeParts) (ks ls : List ℕ) → IsSubset ks ls → IsSubset (terms_of store ks) (terms_of store ls)
terms_within store ks ls s x h = let f = has_map (tree_at store) ks x h in subst (Has (terms_of store ls)) f.2 (map_has (tree_at store) ls f.0 (s f.0 f.1))

module _ (d : DiagramsParts) (ends : Ends) (are_ends : AreEnds d ends) (items : List Item) (atom : Atom) (fits : IsAtomOf d atom) where
  chosen_has : (side : Side) (i : Item) → Has items i → value_of d (guard_of side i) atom ≡ true → Has (chosen d side items atom) i.target
  chosen_has side i h e = subst (λ ts. Has ts i.target) (sym (chosen_where d side items atom)) (where_has (λ j. value_of d (guard_of side j) atom) items i h e)

  has_chosen : (side : Side) (t : ℕ) → Has (chosen d side items atom) t → (i : Item) × Has items i × (value_of d (guard_of side i) atom ≡ true) × (i.target ≡ t)
  has_chosen side t h = has_where (λ j. value_of d (guard_of side j) atom) items t (subst (λ ts. Has ts t) (chosen_where d side items atom) h)

  always_true : (g : ℕ) → g ≡ ends.always → value_of d g atom ≡ true
  always_true g e = ap (λ n. value_of d n atom) e ∙ are_ends.always.value atom fits

  never_false : (g : ℕ) → g ≡ ends.never → value_of d g atom ≡ false
  never_false g e = ap (λ n. value_of d n atom) e ∙ are_ends.never.value atom fits

  pub sure_chosen : (side : Side) → IsSubset (targets_under ends.always side items) (chosen d side items atom)
  sure_chosen side t h =
      let f = has_where (λ j. nat_eq (guard_of side j) ends.always) items t (subst (λ ts. Has ts t) (under_where ends.always side items) h) in
      subst (Has (chosen d side items atom)) f.3 (chosen_has side f.0 f.1 (always_true (guard_of side f.0) (eqb-true (guard_of side f.0) ends.always f.2)))

  module _ (side other : Side) (beyond : (i : Item) → guard_beyond side i ≡ guard_of other i) (alike : (i : Item) → i.left ≡ i.right → guard_of side i ≡ guard_of other i) where
    shut_chosen : (i : Item) → value_of d (guard_of side i) atom ≡ true → is_open ends.never ends.always side i ≡ false → value_of d (guard_of other i) atom ≡ true
    shut_chosen i v shut = go (nat_eq i.left i.right) (nat_eq (guard_of side i) ends.never) (nat_eq (guard_beyond side i) ends.always) refl refl refl shut
      where
        go : (a b c : Bool) → nat_eq i.left i.right ≡ a → nat_eq (guard_of side i) ends.never ≡ b → nat_eq (guard_beyond side i) ends.always ≡ c → (not a && (not b && not c)) ≡ false → value_of d (guard_of other i) atom ≡ true
        go true b c s t u e = ap (λ g. value_of d g atom) (sym (alike i (eqb-true i.left i.right s))) ∙ v
        go false true c s t u e = absurd (true≢false (sym v ∙ never_false (guard_of side i) (eqb-true (guard_of side i) ends.never t)))
        go false false true s t u e = always_true (guard_of other i) (sym (beyond i) ∙ eqb-true (guard_beyond side i) ends.always u)
        go false false false s t u e = absurd (true≢false e)

    pub chosen_reached : (t : ℕ) → Has (chosen d side items atom) t → Has (chosen d other items atom) t ⊎ Has (open_targets ends.never ends.always side items) t
    chosen_reached t h = let f = has_chosen side t h in go f.0 f.1 f.2 f.3 (is_open ends.never ends.always side f.0) refl
      where
        go : (i : Item) → Has items i → value_of d (guard_of side i) atom ≡ true → i.target ≡ t → (b : Bool) → is_open ends.never ends.always side i ≡ b → Has (chosen d other items atom) t ⊎ Has (open_targets ends.never ends.always side items) t
        go i m v same true e = inr (subst (Has (open_targets ends.never ends.always side items)) same (subst (λ ts. Has ts i.target) (sym (open_where ends.never ends.always side items)) (where_has (is_open ends.never ends.always side) items i m e)))
        go i m v same false e = inl (subst (Has (chosen d other items atom)) same (chosen_has other i m (shut_chosen i v e)))

    -- a set with the chosen terms lies between the sure and the open targets
    pub are_between : (store : NodeParts) (es fs : List Term) → SameMembers es (terms_of store (chosen d side items atom)) → SameMembers fs (terms_of store (chosen d other items atom)) → IsBetween (terms_of store (targets_under ends.always side items)) (terms_of store (open_targets ends.never ends.always side items)) es fs
    are_between store es fs s t = record {
      has = λ x h. (s x).1 (terms_within store (targets_under ends.always side items) (chosen d side items atom) (sure_chosen side) x h);
      only = λ x h.
          let f = has_map (tree_at store) (chosen d side items atom) x ((s x).0 h) in
          ⊎_elim
          (λ k. inl ((t x).1 (subst (Has (terms_of store (chosen d other items atom))) f.2 (map_has (tree_at store) (chosen d other items atom) f.0 k))))
          (λ o. inr (subst (Has (terms_of store (open_targets ends.never ends.always side items))) f.2 (map_has (tree_at store) (open_targets ends.never ends.always side items) f.0 o)))
          (chosen_reached f.0 f.1);
    }

  -- ---- when all guards are constant

  module _ (reduced : IsReduced d) (side : Side) (ids : (i : Item) → Has items i → IsDiagramId d (guard_of side i)) (constants : (i : Item) → Has items i → IsConstant d (guard_of side i)) where
    under_has : (i : Item) → Has items i → guard_of side i ≡ ends.always → Has (targets_under ends.always side items) i.target
    under_has i h e = subst (λ ts. Has ts i.target) (sym (under_where ends.always side items)) (where_has (λ j. nat_eq (guard_of side j) ends.always) items i h (eq-eqb (guard_of side i) ends.always e))

    is_always : (i : Item) → Has items i → value_of d (guard_of side i) atom ≡ true → guard_of side i ≡ ends.always
    is_always i h v =
        let c = constants i h in
        same_function_same_id d reduced (guard_of side i) ends.always (ids i h) are_ends.always.in_range (λ a w. c.value a w ∙ sym (c.value atom fits) ∙ v ∙ sym (are_ends.always.value a w))

    is_never : (i : Item) → Has items i → value_of d (guard_of side i) atom ≡ false → guard_of side i ≡ ends.never
    is_never i h v =
        let c = constants i h in
        same_function_same_id d reduced (guard_of side i) ends.never (ids i h) are_ends.never.in_range (λ a w. c.value a w ∙ sym (c.value atom fits) ∙ v ∙ sym (are_ends.never.value a w))

    pub chosen_sure : IsSubset (chosen d side items atom) (targets_under ends.always side items)
    chosen_sure t h = let f = has_chosen side t h in subst (Has (targets_under ends.always side items)) f.3 (under_has f.0 f.1 (is_always f.0 f.1 f.2))

    pub open_sure : IsSubset (open_targets ends.never ends.always side items) (targets_under ends.always side items)
    open_sure t h =
        let f = has_where (is_open ends.never ends.always side) items t (subst (λ ts. Has ts t) (open_where ends.never ends.always side items) h) in
        subst (Has (targets_under ends.always side items)) f.3 (go f.0 f.1 f.2 (value_of d (guard_of side f.0) atom) refl)
      where
        go : (i : Item) → Has items i → is_open ends.never ends.always side i ≡ true → (b : Bool) → value_of d (guard_of side i) atom ≡ b → Has (targets_under ends.always side items) i.target
        go i m o true v = under_has i m (is_always i m v)
        go i m o false v =
            let may = and_parts (not (nat_eq (guard_of side i) ends.never)) (not (nat_eq (guard_beyond side i) ends.always)) (and_parts (not (nat_eq i.left i.right)) (not (nat_eq (guard_of side i) ends.never) && not (nat_eq (guard_beyond side i) ends.always)) o).1 in
            absurd (true≢false (sym (eq-eqb (guard_of side i) ends.never (is_never i m v)) ∙ not-true (nat_eq (guard_of side i) ends.never) may.0))

    -- a set with the chosen terms has the sure targets
    pub same_sure : (store : NodeParts) (es : List Term) → SameMembers es (terms_of store (chosen d side items atom)) → SameMembers es (terms_of store (targets_under ends.always side items))
    same_sure store es s x = (
      (λ h. terms_within store (chosen d side items atom) (targets_under ends.always side items) chosen_sure x ((s x).0 h)),
      (λ h. (s x).1 (terms_within store (targets_under ends.always side items) (chosen d side items atom) (sure_chosen side) x h)),
    )
