-- Items with a test set to a value.
use Rattle.std.proofs.Common.{◌≡◌, ◌<◌, ◌+◌, ◌⊎◌, inl, inr, ⊎_elim, ℕ, zero, suc, Bool, true, false, cond, List, [], ◌∷◌, ◌++◌, length, get_or, take, set, refl, sym, ap, ◌∙◌, subst, arith, append-nil}
use Rattle.std.proofs.lemmas.List.{map-append}
use Rattle.kat_model.specs.Members.{Has}
use Rattle.kat_model.specs.Steps.{Atom}
use Rattle.kat_model.proofs.Lists.{has_left, has_right, has_append, has_map, map_has}
use Rattle.term_nodes.specs.NumberSets.{are_ascending}
use Rattle.test_diagrams.specs.Functions.{DiagramsParts, value_of, IsAtomOf, IsDiagramId, IsDiagramOf, IsIndependent, KeepsFunctions}
use Rattle.test_diagrams.proofs.Kept.{IsDiagramOf-kept}
use Rattle.partial_derivs.proofs.Items.{has_item, take_item}
use Rattle.walk_pairs.specs.declared.items.Item.{Item}
use Rattle.walk_pairs.specs.declared.items.Side.{Side}
use Rattle.walk_pairs.specs.declared.items.Side.TheVariants.{Left, Right}
use Rattle.walk_pairs.specs.Items.{targets_of, chosen, guard_of}
use Rattle.walk_pairs.proofs.FixedDiagrams.{IsFixedTo, fixed_independent}
use Rattle.walk_up_to.specs.Cases.{AreItemsWith, IsFixedItem}
use Rattle.certificate.proofs.Ascending.{ascending_tail, ascending_first, ascending_more}

-- ---- the chosen targets

chosen-append : (d : DiagramsParts) (side : Side) (xs ys : List Item) (atom : Atom) → chosen d side (xs ++ ys) atom ≡ chosen d side xs atom ++ chosen d side ys atom
chosen-append d side [] ys atom = refl
chosen-append d side (x ∷ xs) ys atom = go (chosen-append d side xs ys atom) (value_of d (guard_of side x) atom)
  where
    go : chosen d side (xs ++ ys) atom ≡ chosen d side xs atom ++ chosen d side ys atom → (b : Bool) → cond b (x.target ∷ chosen d side (xs ++ ys) atom) (chosen d side (xs ++ ys) atom) ≡ cond b (x.target ∷ chosen d side xs atom) (chosen d side xs atom) ++ chosen d side ys atom
    go rest true = ap (λ l. x.target ∷ l) rest
    go rest false = rest

guard_id : (d : DiagramsParts) (side : Side) (i : Item) → IsDiagramId d i.left → IsDiagramId d i.right → IsDiagramId d (guard_of side i)
guard_id d Left i left right = left
guard_id d Right i left right = right

chosen-kept : (d e : DiagramsParts) → KeepsFunctions d e → (side : Side) (xs : List Item) (atom : Atom) → ((i : Item) → Has xs i → IsDiagramId d (guard_of side i)) → chosen e side xs atom ≡ chosen d side xs atom
chosen-kept d e kept side [] atom ids = refl
chosen-kept d e kept side (x ∷ xs) atom ids =
    ap (λ b. cond b (x.target ∷ chosen e side xs atom) (chosen e side xs atom)) (kept.values (guard_of side x) (ids x (inl refl)) atom)
    ∙ ap (λ l. cond (value_of d (guard_of side x) atom) (x.target ∷ l) l) (chosen-kept d e kept side xs atom (λ i h. ids i (inr h)))

-- the targets of earlier items are smaller
earlier_less : (items : List Item) → are_ascending (targets_of items) ≡ true → (i : ℕ) (item : Item) → i < length items → item ≡ get_or items i item → (t : ℕ) → Has (targets_of (take i items)) t → t < item.target
earlier_less [] ascends i item lt is t h = absurd (omega (arith, lt))
earlier_less (y ∷ ys) ascends zero item lt is t h = absurd h
earlier_less (y ∷ ys) ascends (suc i) item lt is t h =
    let within : i < length ys = omega (arith, lt) in
    ⊎_elim
    (λ s. subst (λ z. z < item.target) s (ascending_first y.target (targets_of ys) ascends item.target (map_has (λ (x : Item). x.target) ys item (has_item ys i item within is))))
    (earlier_less ys (ascending_tail y.target (targets_of ys) ascends) i item within is t)
    h

-- ---- an additional item

module _ (c d e : DiagramsParts) (more : KeepsFunctions d e) (test : ℕ) (value : Bool) where
  -- collected items remain correct
  pub with_kept : (old new : List Item) → AreItemsWith c d old test value new → AreItemsWith c e old test value new
  with_kept old new gathered = record {
    are = record {
      lefts = λ i h. more.ids i.left (gathered.are.lefts i h);
      rights = λ i h. more.ids i.right (gathered.are.rights i h);
      ascending = gathered.are.ascending;
    };
    targets = gathered.targets;
    given = λ side atom fits. chosen-kept d e more side new atom (λ i h. guard_id d side i (gathered.are.lefts i h) (gathered.are.rights i h)) ∙ gathered.given side atom (fits ∙ more.tests);
    independent = λ k free i h.
        let before = gathered.independent k free i h in (
          independent-kept i.left k (gathered.are.lefts i h) before.0,
          independent-kept i.right k (gathered.are.rights i h) before.1,
        );
  }
    where
      independent-kept : (id k : ℕ) → IsDiagramId d id → IsIndependent d id k → IsIndependent e id k
      independent-kept id k there free atom fits b = more.values id there (set atom k b) ∙ free atom (fits ∙ more.tests) b ∙ sym (more.values id there atom)

  -- a guard that was fixed before the last diagrams were added
  pub fixed_later : (old id : ℕ) → IsFixedTo c d test value old id → IsFixedTo c e test value old id
  fixed_later old id is = IsDiagramOf-kept d e more id (λ atom. value_of c old (set atom test value)) is

  -- a guard of an id whose function was kept
  pub fixed_before : (kept : KeepsFunctions c d) (old id : ℕ) → IsDiagramId c old → IsFixedTo d e test value old id → IsFixedTo c e test value old id
  fixed_before kept old id there is = record {
    in_range = is.in_range;
    value = λ atom fits. is.value atom fits ∙ kept.values old there (set atom test value);
  }

module _ (c e : DiagramsParts) (tests : e.tests ≡ c.tests) (test : ℕ) (value : Bool) (items : List Item) (ascends : are_ascending (targets_of items) ≡ true) (i : ℕ) (item : Item)
    (lt : i < length items) (is : item ≡ get_or items i item) (new : List Item) (gathered : AreItemsWith c e (take i items) test value new) where
  front : take (i + 1) items ≡ take i items ++ item ∷ []
  front = take_item items i item lt is

  in_front : (x : Item) → Has (take i items) x → Has (take (i + 1) items) x
  in_front x h = subst (λ l. Has l x) (sym front) (has_left (take i items) (item ∷ []) x h)

  own : Has (take (i + 1) items) item
  own = subst (λ l. Has l item) (sym front) (has_right (take i items) (item ∷ []) item (inl refl))

  target_in_front : (t : ℕ) → Has (targets_of (take i items)) t → Has (targets_of (take (i + 1) items)) t
  target_in_front t h =
      let r = has_map (λ (x : Item). x.target) (take i items) t h in
      subst (Has (targets_of (take (i + 1) items))) r.2 (map_has (λ (x : Item). x.target) (take (i + 1) items) r.0 (in_front r.0 r.1))

  chosen_front : (side : Side) (atom : Atom) → chosen c side (take (i + 1) items) atom ≡ chosen c side (take i items) atom ++ chosen c side (item ∷ []) atom
  chosen_front side atom = ap (λ l. chosen c side l atom) front ∙ chosen-append c side (take i items) (item ∷ []) atom

  earlier_free : {k : ℕ} → ((x : Item) → Has (take (i + 1) items) x → IsFixedItem c k x) ⊎ (k ≡ test) → ((x : Item) → Has (take i items) x → IsFixedItem c k x) ⊎ (k ≡ test)
  earlier_free free = ⊎_elim (λ f. inl (λ x h. f x (in_front x h))) inr free

  -- an item that is kept, with its guards fixed
  pub with_item : (j : Item) → j.target ≡ item.target → IsFixedTo c e test value item.left j.left → IsFixedTo c e test value item.right j.right → AreItemsWith c e (take (i + 1) items) test value (new ++ j ∷ [])
  with_item j same left right = record {
    are = record {
      lefts = λ x h. ⊎_elim (gathered.are.lefts x) (λ r. ⊎_elim (λ s. subst (λ (z : Item). IsDiagramId e z.left) s left.in_range) absurd r) (has_append new (j ∷ []) x h);
      rights = λ x h. ⊎_elim (gathered.are.rights x) (λ r. ⊎_elim (λ s. subst (λ (z : Item). IsDiagramId e z.right) s right.in_range) absurd r) (has_append new (j ∷ []) x h);
      ascending = subst (λ ts. are_ascending ts ≡ true) (sym new_targets) (ascending_more (targets_of new) j.target gathered.are.ascending below);
    };
    targets = λ t h. ⊎_elim
        (λ r. target_in_front t (gathered.targets t r))
        (λ r. ⊎_elim (λ s. subst (Has (targets_of (take (i + 1) items))) (sym same ∙ s) (map_has (λ (x : Item). x.target) (take (i + 1) items) item own)) absurd r)
        (has_append (targets_of new) (j.target ∷ []) t (subst (λ ts. Has ts t) new_targets h));
    given = λ side atom fits.
        chosen-append e side new (j ∷ []) atom
        ∙ ap (λ l. l ++ chosen e side (j ∷ []) atom) (gathered.given side atom fits)
        ∙ ap (λ l. chosen c side (take i items) (set atom test value) ++ l) (last side atom fits)
        ∙ sym (chosen_front side (set atom test value));
    independent = λ k free x h. ⊎_elim
        (gathered.independent k (earlier_free free) x)
        (λ r. ⊎_elim
        (λ s. subst (IsFixedItem e k) s (
          fixed_independent c e test value item.left j.left k tests left (⊎_elim (λ f. inl (f item own).0) inr free),
          fixed_independent c e test value item.right j.right k tests right (⊎_elim (λ f. inl (f item own).1) inr free),
        ))
        absurd r)
        (has_append new (j ∷ []) x h);
  }
    where
      new_targets : targets_of (new ++ j ∷ []) ≡ targets_of new ++ j.target ∷ []
      new_targets = map-append (λ (x : Item). x.target) new (j ∷ [])

      below : (t : ℕ) → Has (targets_of new) t → t < j.target
      below t h = subst (λ z. t < z) (sym same) (earlier_less items ascends i item lt is t (gathered.targets t h))

      value_on : (side : Side) (atom : Atom) → IsAtomOf e atom → value_of e (guard_of side j) atom ≡ value_of c (guard_of side item) (set atom test value)
      value_on Left atom fits = left.value atom fits
      value_on Right atom fits = right.value atom fits

      last : (side : Side) (atom : Atom) → IsAtomOf e atom → chosen e side (j ∷ []) atom ≡ chosen c side (item ∷ []) (set atom test value)
      last side atom fits = ap (λ b. cond b (j.target ∷ []) []) (value_on side atom fits) ∙ ap (λ t. cond (value_of c (guard_of side item) (set atom test value)) (t ∷ []) []) same

  -- an item that is never reached with the test set
  pub with_none : ((side : Side) (atom : Atom) → IsAtomOf e atom → value_of c (guard_of side item) (set atom test value) ≡ false) → AreItemsWith c e (take (i + 1) items) test value new
  with_none nowhere = record {
    are = gathered.are;
    targets = λ t h. target_in_front t (gathered.targets t h);
    given = λ side atom fits.
        let none : chosen c side (item ∷ []) (set atom test value) ≡ [] = ap (λ b. cond b (item.target ∷ []) []) (nowhere side atom fits) in
        gathered.given side atom fits
        ∙ sym (append-nil (chosen c side (take i items) (set atom test value)))
        ∙ ap (λ l. chosen c side (take i items) (set atom test value) ++ l) (sym none)
        ∙ sym (chosen_front side (set atom test value));
    independent = λ k free x h. gathered.independent k (earlier_free free) x h;
  }

  -- an item whose guards are fixed to `never` is never reached
  pub with_unreached : (left right never : ℕ) → IsFixedTo c e test value item.left left → IsFixedTo c e test value item.right right → IsDiagramOf e never (λ atom. false) → left ≡ never → right ≡ never → AreItemsWith c e (take (i + 1) items) test value new
  with_unreached left right never is_left is_right nowhere same_left same_right = with_none on
    where
      on : (side : Side) (atom : Atom) → IsAtomOf e atom → value_of c (guard_of side item) (set atom test value) ≡ false
      on Left atom fits = sym (is_left.value atom fits) ∙ ap (λ g. value_of e g atom) same_left ∙ nowhere.value atom fits
      on Right atom fits = sym (is_right.value atom fits) ∙ ap (λ g. value_of e g atom) same_right ∙ nowhere.value atom fits
