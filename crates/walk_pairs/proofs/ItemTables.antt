-- Tables from targets to items.
use Rattle.std.proofs.Common.{◌≡◌, ◌↔◌, ◌⊎◌, inl, inr, ⊎_elim, ℕ, Bool, true, false, cond, List, [], ◌∷◌, Option, Some, None, refl, sym, ap, ◌∙◌, subst, arith}
use Rattle.std.proofs.lemmas.Bool.{false≢true}
use Rattle.std.proofs.lemmas.Cmp.{nat_cmp_total}
use Rattle.std.proofs.lemmas.Map.Lookups.{exact_unsigned}
use Rattle.std.proofs.lemmas.Map.Views.{tells_apart}
use Rattle.std.specs.List.{AllByRecursion}
use Rattle.std.specs.List.Sorted.{IsStrictlySortedBy}
use Rattle.std.specs.Map.{lookup, keys_of}
use Rattle.std.specs.BTreeMap.{is_at, insert_entry}
use Rattle.std.specs.Ordering.{nat_cmp, match_ordering}
use Rattle.std.specs.declared.cmp.Ordering.{Ordering}
use Rattle.std.specs.declared.cmp.Ordering.TheVariants.{Less, Equal, Greater}
use Rattle.kat_model.specs.Members.{Has}
use Rattle.kat_model.specs.Steps.{Atom}
use Rattle.kat_model.proofs.Lists.{has_map, map_has}
use Rattle.kat_model.proofs.SetKeys.{is_at_own}
use Rattle.test_diagrams.specs.Functions.{DiagramsParts, value_of}
use Rattle.partial_derivs.specs.declared.moves.Guarded.{Guarded}
use Rattle.partial_derivs.proofs.Entries.{lookup_has}
use Rattle.walk_pairs.specs.declared.items.Item.{Item}
use Rattle.walk_pairs.specs.declared.items.Side.{Side}
use Rattle.walk_pairs.specs.declared.items.Side.TheVariants.{Left, Right}
use Rattle.walk_pairs.specs.Items.{guard_of, opposite_of, with_guard, targets_of, chosen, items_in, AreKeyed, found_item, item_in, led_to, AddsTargets, AreLedTo}

-- the parts of an item with another guard on a side
pub with_guard_target : (side : Side) (i : Item) (guard : ℕ) → (with_guard side i guard).target ≡ i.target
with_guard_target Left i guard = refl
with_guard_target Right i guard = refl

pub with_guard_own : (side : Side) (i : Item) (guard : ℕ) → guard_of side (with_guard side i guard) ≡ guard
with_guard_own Left i guard = refl
with_guard_own Right i guard = refl

pub with_guard_other : (side : Side) (i : Item) (guard : ℕ) → guard_of (opposite_of side) (with_guard side i guard) ≡ guard_of (opposite_of side) i
with_guard_other Left i guard = refl
with_guard_other Right i guard = refl

-- a lookup returns an entry of the table
pub found_entry : (es : List (ℕ × Item)) (k : ℕ) (i : Item) → lookup (is_at (nat_cmp k)) es ≡ Some i → Has es (k, i)
found_entry es k i e = lookup_has (λ q. is_at (nat_cmp q)) (tells_apart exact_unsigned) k es i e

-- the item of a target has that target
pub item_target : (never : ℕ) (es : List (ℕ × Item)) (k : ℕ) → AreKeyed es → (item_in never es k).target ≡ k
item_target never es k keyed = go (lookup (is_at (nat_cmp k)) es) refl
  where
    go : (o : Option Item) → lookup (is_at (nat_cmp k)) es ≡ o → (found_item never k o).target ≡ k
    go None e = refl
    go (Some i) e = keyed (k, i) (found_entry es k i e)

-- an insert keeps the table keyed by target
pub keyed_insert : (k : ℕ) (v : Item) → v.target ≡ k → (es : List (ℕ × Item)) → AreKeyed es → AreKeyed (insert_entry nat_cmp es k v)
keyed_insert k v own [] keyed x h = ⊎_elim (λ s. subst (λ (z : ℕ × Item). z.1.target ≡ z.0) s own) absurd h
keyed_insert k v own (y ∷ es) keyed x h = go (nat_cmp k y.0) refl (keyed_insert k v own es (λ z m. keyed z (inr m)) x) h
  where
    go : (o : Ordering) → nat_cmp k y.0 ≡ o → (Has (insert_entry nat_cmp es k v) x → x.1.target ≡ x.0)
        → Has (match_ordering o ((k, v) ∷ y ∷ es) ((y.0, v) ∷ es) (y ∷ insert_entry nat_cmp es k v)) x → x.1.target ≡ x.0
    go Less e rest m = ⊎_elim (λ s. subst (λ (z : ℕ × Item). z.1.target ≡ z.0) s own) (keyed x) m
    go Equal e rest m =
        let same : k ≡ y.0 = grind (arith, e) in
        ⊎_elim (λ s. subst (λ (z : ℕ × Item). z.1.target ≡ z.0) s (own ∙ same)) (λ r. keyed x (inr r)) m
    go Greater e rest m = ⊎_elim (λ s. keyed x (inl s)) rest m

-- a key of a table after an insert is the inserted key or was a key before
key_put : (k : ℕ) (v : Item) (es : List (ℕ × Item)) (j : ℕ) → Has (keys_of (insert_entry nat_cmp es k v)) j → (k ≡ j) ⊎ Has (keys_of es) j
key_put k v [] j h = h
key_put k v (y ∷ es) j h = go (nat_cmp k y.0) (key_put k v es j) h
  where
    go : (o : Ordering) → (Has (keys_of (insert_entry nat_cmp es k v)) j → (k ≡ j) ⊎ Has (keys_of es) j)
        → Has (keys_of (match_ordering o ((k, v) ∷ y ∷ es) ((y.0, v) ∷ es) (y ∷ insert_entry nat_cmp es k v))) j → (k ≡ j) ⊎ Has (keys_of (y ∷ es)) j
    go Less rest m = m
    go Equal rest m = inr m
    go Greater rest m = ⊎_elim (λ s. inr (inl s)) (λ r. ⊎_elim (λ s. inl s) (λ t. inr (inr t)) (rest r)) m

-- so inserting an additional move adds at most the target of that move
pub target_put : (moves : List Guarded) (m : Guarded) → Has moves m → (old es new : List (ℕ × Item)) (v : Item) → new ≡ insert_entry nat_cmp es m.to v → AddsTargets old es moves → AddsTargets old new moves
target_put moves m member old es new v is before k h =
    ⊎_elim
    (λ s. inr (subst (Has (led_to moves)) s (map_has (λ (x : Guarded). x.to) moves m member)))
    (before k)
    (key_put m.to v es k (subst (λ l. Has (keys_of l) k) is h))

-- ---- tables whose keys ascend

all_less : (k : ℕ) (ks : List ℕ) → AllByRecursion (λ y. nat_cmp k y ≡ Less) ks → (y : ℕ) → Has ks y → nat_cmp k y ≡ Less
all_less k [] all y h = absurd h
all_less k (j ∷ ks) all y h = ⊎_elim (λ s. subst (λ z. nat_cmp k z ≡ Less) s all.0) (λ r. all_less k ks all.1 y r) h

-- a lookup finds each entry
pub sorted_finds : (es : List (ℕ × Item)) → IsStrictlySortedBy nat_cmp (keys_of es) → (x : ℕ × Item) → Has es x → lookup (is_at (nat_cmp x.0)) es ≡ Some x.1
unfolding IsStrictlySortedBy
sorted_finds [] s x h = absurd h
sorted_finds (e ∷ es) s x h =
    ⊎_elim
    (λ is. subst (λ (z : ℕ × Item). lookup (is_at (nat_cmp z.0)) (e ∷ es) ≡ Some z.1) is (ap (λ b. cond b (Some e.1) (lookup (is_at (nat_cmp e.0)) es)) (is_at_own nat_cmp_total e.0)))
    (λ r.
    let less = all_less e.0 (keys_of es) s.0 x.0 (map_has (λ (z : ℕ × Item). z.0) es x r) in
    let other : is_at (nat_cmp x.0) e.0 ≡ false = grind (arith, less) in
    ap (λ b. cond b (Some e.1) (lookup (is_at (nat_cmp x.0)) es)) other ∙ sorted_finds es s.1 x r)
    h

-- the targets of the items are the keys of the table
pub targets_are_keys : (es : List (ℕ × Item)) → AreKeyed es → targets_of (items_in es) ≡ keys_of es
targets_are_keys [] keyed = refl
targets_are_keys (e ∷ es) keyed = ap (λ t. t ∷ targets_of (items_in es)) (keyed e (inl refl)) ∙ ap (λ ts. e.0 ∷ ts) (targets_are_keys es (λ z m. keyed z (inr m)))

-- each item has the target of a move of one side
pub are_led_to : (left right : List Guarded) (mid es : List (ℕ × Item)) → AddsTargets [] mid left → AddsTargets mid es right → AreKeyed es → AreLedTo left right (items_in es)
are_led_to left right mid es first second keyed i h =
    let key : Has (keys_of es) i.target = subst (λ ts. Has ts i.target) (targets_are_keys es keyed) (map_has (λ (z : Item). z.target) (items_in es) i h) in
    ⊎_elim (λ m. ⊎_elim absurd (λ l. inl l) (first i.target m)) (λ r. inr r) (second i.target key)

-- ---- the targets at an atom

module _ (d : DiagramsParts) (side : Side) (atom : Atom) where
  chosen_has : (items : List Item) (i : Item) → Has items i → value_of d (guard_of side i) atom ≡ true → Has (chosen d side items atom) i.target
  chosen_has [] i h v = absurd h
  chosen_has (j ∷ items) i h v = go (λ r. chosen_has items i r v) (value_of d (guard_of side j) atom) refl
    where
      go : (Has items i → Has (chosen d side items atom) i.target) → (b : Bool) → value_of d (guard_of side j) atom ≡ b → Has (cond b (j.target ∷ chosen d side items atom) (chosen d side items atom)) i.target
      go rest true e = ⊎_elim (λ s. inl (ap (λ (z : Item). z.target) s)) (λ r. inr (rest r)) h
      go rest false e = ⊎_elim (λ s. absurd (false≢true (sym e ∙ subst (λ (z : Item). value_of d (guard_of side z) atom ≡ true) (sym s) v))) rest h

  has_chosen : (items : List Item) (t : ℕ) → Has (chosen d side items atom) t → (i : Item) × Has items i × (i.target ≡ t) × (value_of d (guard_of side i) atom ≡ true)
  has_chosen [] t h = absurd h
  has_chosen (j ∷ items) t h = go (λ m. let r = has_chosen items t m in (r.0, inr r.1, r.2, r.3)) (value_of d (guard_of side j) atom) refl h
    where
      go : (Has (chosen d side items atom) t → (i : Item) × Has (j ∷ items) i × (i.target ≡ t) × (value_of d (guard_of side i) atom ≡ true)) → (b : Bool) → value_of d (guard_of side j) atom ≡ b → Has (cond b (j.target ∷ chosen d side items atom) (chosen d side items atom)) t
          → (i : Item) × Has (j ∷ items) i × (i.target ≡ t) × (value_of d (guard_of side i) atom ≡ true)
      go later true e m = ⊎_elim (λ s. (j, inl refl, s, e)) later m
      go later false e m = later m

  -- a target is chosen at an atom if and only if the guard of its item is true there
  pub chosen_item : (never : ℕ) (es : List (ℕ × Item)) → AreKeyed es → IsStrictlySortedBy nat_cmp (keys_of es) → value_of d never atom ≡ false → (t : ℕ)
      → Has (chosen d side (items_in es) atom) t ↔ (value_of d (guard_of side (item_in never es t)) atom ≡ true)
  chosen_item never es keyed sorted nowhere t = (there, back)
    where
      by_side : (s : Side) (o : Option Item) → o ≡ None → guard_of s (found_item never t o) ≡ never
      by_side Left o e = ap (λ q. guard_of Left (found_item never t q)) e
      by_side Right o e = ap (λ q. guard_of Right (found_item never t q)) e

      there : Has (chosen d side (items_in es) atom) t → value_of d (guard_of side (item_in never es t)) atom ≡ true
      there h =
          let r = has_chosen (items_in es) t h in
          let entry = has_map (λ (z : ℕ × Item). z.1) es r.0 r.1 in
          let key : entry.0.0 ≡ t = sym (keyed entry.0 entry.1) ∙ ap (λ (z : Item). z.target) entry.2 ∙ r.2 in
          let found : lookup (is_at (nat_cmp t)) es ≡ Some r.0 = subst (λ k. lookup (is_at (nat_cmp k)) es ≡ Some entry.0.1) key (sorted_finds es sorted entry.0 entry.1) ∙ ap Some entry.2 in
          ap (λ o. value_of d (guard_of side (found_item never t o)) atom) found ∙ r.3

      back : value_of d (guard_of side (item_in never es t)) atom ≡ true → Has (chosen d side (items_in es) atom) t
      back v = go (lookup (is_at (nat_cmp t)) es) refl
        where
          go : (o : Option Item) → lookup (is_at (nat_cmp t)) es ≡ o → Has (chosen d side (items_in es) atom) t
          go None e = absurd (false≢true (sym nowhere ∙ ap (λ g. value_of d g atom) (sym (by_side side (lookup (is_at (nat_cmp t)) es) e)) ∙ v))
          go (Some i) e =
              let entry = found_entry es t i e in
              subst (λ k. Has (chosen d side (items_in es) atom) k) (keyed (t, i) entry)
              (chosen_has (items_in es) i (map_has (λ (z : ℕ × Item). z.1) es (t, i) entry) (ap (λ o. value_of d (guard_of side (found_item never t o)) atom) (sym e) ∙ v))
