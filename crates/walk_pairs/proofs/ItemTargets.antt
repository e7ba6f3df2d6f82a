-- The targets of items that satisfy a predicate on items.
use Rattle.std.proofs.Common.{◌≡◌, ◌<◌, ℕ, inl, inr, ⊎_elim, List, [], ◌∷◌, refl, sym, ap, subst, Bool, true, false, cond, nat_lt, nat_eq}
use Rattle.std.proofs.lemmas.Bool.{and_from, lt-ltb}
use Rattle.kat_model.specs.Members.{Has}
use Rattle.kat_model.specs.Steps.{Atom}
use Rattle.kat_model.proofs.Lists.{map_has}
use Rattle.term_nodes.specs.NumberSets.{are_ascending}
use Rattle.certificate.proofs.Ascending.{ascending_tail, ascending_first}
use Rattle.test_diagrams.specs.Functions.{DiagramsParts, value_of}
use Rattle.walk_pairs.specs.Items.{guard_of, targets_of, targets_under, is_open, open_targets, chosen}
use Rattle.walk_pairs.specs.declared.items.Item.{Item}
use Rattle.walk_pairs.specs.declared.items.Side.{Side}

-- the targets of the items that satisfy the predicate
abbrev pub targets_where : (Item → Bool) → List Item → List ℕ
targets_where p [] = []
targets_where p (i ∷ is) = cond (p i) (i.target ∷ targets_where p is) (targets_where p is)

pub under_where : (guard : ℕ) (side : Side) (is : List Item) → targets_under guard side is ≡ targets_where (λ i. nat_eq (guard_of side i) guard) is
under_where guard side [] = refl
under_where guard side (i ∷ is) = ap (λ ts. cond (nat_eq (guard_of side i) guard) (i.target ∷ ts) ts) (under_where guard side is)

pub open_where : (never always : ℕ) (side : Side) (is : List Item) → open_targets never always side is ≡ targets_where (is_open never always side) is
open_where never always side [] = refl
open_where never always side (i ∷ is) = ap (λ ts. cond (is_open never always side i) (i.target ∷ ts) ts) (open_where never always side is)

pub chosen_where : (d : DiagramsParts) (side : Side) (is : List Item) (atom : Atom) → chosen d side is atom ≡ targets_where (λ i. value_of d (guard_of side i) atom) is
chosen_where d side [] atom = refl
chosen_where d side (i ∷ is) atom = ap (λ ts. cond (value_of d (guard_of side i) atom) (i.target ∷ ts) ts) (chosen_where d side is atom)

module _ (p : Item → Bool) where
  pub where_has : (is : List Item) (i : Item) → Has is i → p i ≡ true → Has (targets_where p is) i.target
  where_has [] i h e = absurd h
  where_has (j ∷ is) i h e = ⊎_elim here (λ r. later (p j) (where_has is i r e)) h
    where
      later : (b : Bool) → Has (targets_where p is) i.target → Has (cond b (j.target ∷ targets_where p is) (targets_where p is)) i.target
      later true m = inr m
      later false m = m

      first : (b : Bool) → b ≡ true → Has (cond b (i.target ∷ targets_where p is) (targets_where p is)) i.target
      first true s = inl refl
      first false s = absurd cc

      here : j ≡ i → Has (cond (p j) (j.target ∷ targets_where p is) (targets_where p is)) i.target
      here same = subst (λ (z : Item). Has (cond (p z) (z.target ∷ targets_where p is) (targets_where p is)) i.target) (sym same) (first (p i) e)

  pub has_where : (is : List Item) (t : ℕ) → Has (targets_where p is) t → (i : Item) × Has is i × (p i ≡ true) × (i.target ≡ t)
  has_where [] t h = absurd h
  has_where (j ∷ is) t h = go (has_where is t) (p j) refl h
    where
      go : (Has (targets_where p is) t → (i : Item) × Has is i × (p i ≡ true) × (i.target ≡ t)) → (b : Bool) → p j ≡ b → Has (cond b (j.target ∷ targets_where p is) (targets_where p is)) t → (i : Item) × Has (j ∷ is) i × (p i ≡ true) × (i.target ≡ t)
      go rest true s m = ⊎_elim (λ same. (j, inl refl, s, same)) (λ r. let f = rest r in (f.0, inr f.1, f.2, f.3)) m
      go rest false s m = let f = rest m in (f.0, inr f.1, f.2, f.3)

-- ---- selected targets ascend if all do

above_ascending : (x : ℕ) (ks : List ℕ) → ((k : ℕ) → Has ks k → x < k) → are_ascending ks ≡ true → are_ascending (x ∷ ks) ≡ true
above_ascending x [] above e = refl
above_ascending x (y ∷ ks) above e = and_from (nat_lt x y) (are_ascending (y ∷ ks)) (lt-ltb x y (above y (inl refl))) e

pub where_ascending : (p : Item → Bool) (is : List Item) → are_ascending (targets_of is) ≡ true → are_ascending (targets_where p is) ≡ true
where_ascending p [] e = refl
where_ascending p (i ∷ is) e = go (p i) (where_ascending p is (ascending_tail i.target (targets_of is) e))
  where
    above : (k : ℕ) → Has (targets_where p is) k → i.target < k
    above k h =
        let f = has_where p is k h in
        subst (λ n. i.target < n) f.3 (ascending_first i.target (targets_of is) e f.0.target (map_has (λ (x : Item). x.target) is f.0 f.1))

    go : (b : Bool) → are_ascending (targets_where p is) ≡ true → are_ascending (cond b (i.target ∷ targets_where p is) (targets_where p is)) ≡ true
    go true rest = above_ascending i.target (targets_where p is) above rest
    go false rest = rest
