-- If each pair has the next sets of an earlier pair, the members of its sets are terms that steps lead to, so there are
-- few such pairs. This holds with and without tests.
use Rattle.std.proofs.Common.{◌≡◌, ◌+◌, ◌*◌, ◌^◌, ◌≤◌, ℕ, inl, inr, ⊎_elim, List, [], ◌∷◌, ◌++◌, length, refl, sym, subst}
use Rattle.std.proofs.lemmas.List.{length-map}
use Rattle.kat_model.specs.Trees.{Term, acts}
use Rattle.kat_model.specs.Members.{Has, IsSubset, SameMembers}
use Rattle.kat_model.specs.Steps.{Atom, next, set_next, reach}
use Rattle.kat_model.specs.Guarded.{IsGuarded, IsSingle}
use Rattle.kat_model.specs.Pairs.{SetPair, AllDiffer}
use Rattle.kat_model.specs.TestedPairs.{TestedPair, sets_of}
use Rattle.kat_model.specs.Laws.{AreReached, AreSingle}
use Rattle.kat_model.proofs.Lists.{has_append, has_flat_map, same_members_sym, same_members_trans}
use Rattle.kat_model.proofs.Reach.{next_reach, reach_next}
use Rattle.kat_model.proofs.Determined.{one_step_guarded, one_step_reached}
use Rattle.kat_model.proofs.SingleSets.{single_next}
use Rattle.kat_model.proofs.Bounds.{pairs_bound, single_pairs_bound}

-- under some atom some action leads from the sets of one pair to those of the other
pub record HasNextSets (from to : SetPair) : Type 0 where
  pub atom : Atom
  pub act : ℕ
  pub lefts : SameMembers (set_next from.left atom act) to.left
  pub rights : SameMembers (set_next from.right atom act) to.right

-- each of the pairs has the next sets of a pair before it
abbrev pub AreNextSets : List SetPair → List SetPair → Type 0
AreNextSets before [] = Unit {0}
AreNextSets before (p ∷ ps) = ((from : SetPair) × Has before from × HasNextSets from p) × AreNextSets (before ++ p ∷ []) ps

-- a property of pairs that steps keep
module _ (P : SetPair → Type 0) (kept : (from to : SetPair) → HasNextSets from to → P from → P to) where
  next_have : (before ps : List SetPair) → AreNextSets before ps → ((p : SetPair) → Has before p → P p) → (p : SetPair) → Has ps p → P p
  next_have before [] all each p h = absurd h
  next_have before (r ∷ ps) all each p h = ⊎_elim (λ e. subst P e own) (λ k. next_have (before ++ r ∷ []) ps all.1 more p k) h
    where
      own : P r
      own = let n = all.0 in kept n.0 r n.2 (each n.0 n.1)

      more : (s : SetPair) → Has (before ++ r ∷ []) s → P s
      more s k = ⊎_elim (each s) (λ m. ⊎_elim (λ e. subst P e own) (λ n. absurd n) m) (has_append before (r ∷ []) s k)

  pub all_have : (p : SetPair) (ps : List SetPair) → AreNextSets (p ∷ []) ps → P p → (r : SetPair) → Has (p ∷ ps) r → P r
  all_have p ps all own r h =
      ⊎_elim (λ e. subst P e own) (λ k. next_have (p ∷ []) ps all (λ s m. ⊎_elim (λ e. subst P e own) (λ n. absurd n) m) r k) h

pub next_within : (e : Term) (es fs : List Term) (atom : Atom) (a : ℕ) → SameMembers (set_next es atom a) fs → IsSubset es (e ∷ reach e) → IsSubset fs (e ∷ reach e)
next_within e es fs atom a same within y h =
    let r = has_flat_map (λ x. next x atom a) es y ((same y).1 h) in
    inr (⊎_elim (λ s. next_reach atom a e y (subst (λ x. Has (next x atom a) y) (sym s) r.2)) (λ k. reach_next atom a e r.0 y k r.2) (within r.0 r.1))

pub single_kept : (e : Term) → IsGuarded e → (es fs : List Term) (atom : Atom) (a : ℕ) → SameMembers (set_next es atom a) fs → IsSingle e es → IsSingle e fs
single_kept e g es fs atom a same s =
    let back = same_members_sym (set_next es atom a) fs same in
    ⊎_elim
    (λ none. inl (same_members_trans fs (set_next es atom a) [] back none))
    (λ r. inr (r.0, r.1, same_members_trans fs (set_next es atom a) (r.0 ∷ []) back r.2))
    (single_next e (one_step_guarded g) (one_step_reached g) es atom a s)

-- two terms, each as a singleton set
abbrev pub start_pair : Term → Term → SetPair
start_pair l r = record { left = l ∷ []; right = r ∷ [] }

-- the pairs after that of two terms
module _ (l r : Term) (rest : List SetPair) (all : AreNextSets (start_pair l r ∷ []) rest) where
  pub next_sets_reached : AreReached l r (start_pair l r ∷ rest)
  next_sets_reached =
      all_have (λ p. IsSubset p.left (l ∷ reach l) × IsSubset p.right (r ∷ reach r))
      (λ from to n h. (next_within l from.left to.left n.atom n.act n.lefts h.0, next_within r from.right to.right n.atom n.act n.rights h.1))
      (start_pair l r) rest all
      ((λ x h. ⊎_elim inl (λ n. absurd n) h), (λ x h. ⊎_elim inl (λ n. absurd n) h))

  pub next_sets_single : IsGuarded l → IsGuarded r → AreSingle l r (start_pair l r ∷ rest)
  next_sets_single left right =
      all_have (λ p. IsSingle l p.left × IsSingle r p.right)
      (λ from to n h. (single_kept l left from.left to.left n.atom n.act n.lefts h.0, single_kept r right from.right to.right n.atom n.act n.rights h.1))
      (start_pair l r) rest all
      (inr (l, inl refl, (λ x. ((λ h. h), (λ h. h)))), inr (r, inl refl, (λ x. ((λ h. h), (λ h. h)))))

-- the bounds also hold for pairs under tests, if no two of them have the same sets
module _ (l r : Term) (pairs : List TestedPair) (differ : AllDiffer (sets_of pairs)) where
  pub tested_pairs_bound : AreReached l r (sets_of pairs) → length pairs ≤ 2 ^ (acts l + 1) * 2 ^ (acts r + 1)
  tested_pairs_bound reached = rw (← length-map pairs (λ (p : TestedPair). p.sets)) (pairs_bound l r (sets_of pairs) differ reached)

  pub tested_single_bound : AreSingle l r (sets_of pairs) → length pairs ≤ (acts l + 2) * (acts r + 2)
  tested_single_bound single = rw (← length-map pairs (λ (p : TestedPair). p.sets)) (single_pairs_bound l r (sets_of pairs) differ single)

-- so the bounds hold if the sets are those of two terms and the next sets of earlier pairs
module _ (l r : Term) (pairs : List TestedPair) (differ : AllDiffer (sets_of pairs)) (rest : List SetPair)
    (first : sets_of pairs ≡ start_pair l r ∷ rest) (all : AreNextSets (start_pair l r ∷ []) rest) where
  pub reached_pairs_bound : length pairs ≤ 2 ^ (acts l + 1) * 2 ^ (acts r + 1)
  reached_pairs_bound = tested_pairs_bound l r pairs differ (rw first (next_sets_reached l r rest all))

  pub guarded_pairs_bound : IsGuarded l → IsGuarded r → length pairs ≤ (acts l + 2) * (acts r + 2)
  guarded_pairs_bound left right = tested_single_bound l r pairs differ (rw first (next_sets_single l r rest all left right))
