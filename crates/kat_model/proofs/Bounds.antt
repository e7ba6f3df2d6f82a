-- Bounds on the number of different pairs of sets over two terms.
use Rattle.std.proofs.Common.{◌≡◌, ◌+◌, ◌*◌, ◌^◌, ◌≤◌, inl, inr, ⊎_elim, List, [], ◌∷◌, map, length, refl, sym, ◌∙◌, subst, arith, Bool}
use Rattle.std.proofs.lemmas.List.{length-map}
use Rattle.kat_model.specs.Trees.{Term, acts}
use Rattle.kat_model.specs.Members.{Has, IsSubset, SameMembers}
use Rattle.kat_model.specs.Steps.{reach}
use Rattle.kat_model.specs.Pairs.{SetPair, has_term, AllDiffer}
use Rattle.kat_model.specs.Guarded.{IsSingle}
use Rattle.kat_model.specs.Laws.{AreReached, AreSingle}
use Rattle.kat_model.proofs.Lists.{map_has, same_members_sym, same_members_trans}
use Rattle.kat_model.proofs.SameTrees.{holds-true, has-holds}
use Rattle.kat_model.proofs.Reach.{length-reach}
use Rattle.kat_model.proofs.Counting.{AreDistinguished, distinguished_within, all_bits, length-all_bits, all_bits_has, all_pairs, length-all_pairs, all_pairs_has}

-- a list has a key for each set of a kind, and sets with the same key have the same members
record AreGiven {Y : Type 0} (ys : List Y) (Represents : Y → List Term → Type 0) (Kind : List Term → Type 0) : Type 0 where
  pub given : (es : List Term) → Kind es → (y : Y) × Has ys y × Represents y es
  pub same : (y : Y) (es fs : List Term) → Represents y es → Represents y fs → SameMembers es fs

-- the number of different pairs is at most the product of the numbers of keys of their sets
module _ {Y Z : Type 0} (ys : List Y) (zs : List Z) (Left : Y → List Term → Type 0) (Right : Z → List Term → Type 0) (KindLeft KindRight : List Term → Type 0) (lefts : AreGiven ys Left KindLeft) (rights : AreGiven zs Right KindRight) where
  abbrev ShowBoth : Y × Z → SetPair → Type 0
  ShowBoth k p = Left k.0 p.left × Right k.1 p.right

  apart : (pairs : List SetPair) → AllDiffer pairs → AreDistinguished ShowBoth pairs
  apart [] d = tt
  apart (p ∷ ps) d = (
    (λ k q h s t. d.0 (record { pair = q; listed = h; lefts = lefts.same k.0 p.left q.left s.0 t.0; rights = rights.same k.1 p.right q.right s.1 t.1 })),
    apart ps d.1,
  )

  pairs_within : (pairs : List SetPair) → AllDiffer pairs → ((p : SetPair) → Has pairs p → KindLeft p.left × KindRight p.right) → length pairs ≤ length ys * length zs
  pairs_within pairs d kinds =
      let bound = distinguished_within ShowBoth pairs (all_pairs ys zs) (apart pairs d) both in
      omega (arith, bound, length-all_pairs ys zs)
    where
      both : (p : SetPair) → Has pairs p → (k : Y × Z) × Has (all_pairs ys zs) k × ShowBoth k p
      both p h =
          let l = lefts.given p.left (kinds p h).0 in
          let r = rights.given p.right (kinds p h).1 in
          ((l.0, r.0), all_pairs_has ys zs l.0 r.0 l.1 r.1, (l.2, r.2))

-- the key of a set of these terms: which of the terms it contains
module _ (us : List Term) where
  abbrev HasThese : List Bool → List Term → Type 0
  HasThese bits es = IsSubset es us × (map (has_term es) us ≡ bits)

  holds-at : (vs es fs : List Term) (x : Term) → map (has_term es) vs ≡ map (has_term fs) vs → Has vs x → has_term es x ≡ has_term fs x
  holds-at [] es fs x e h = absurd h
  holds-at (v ∷ vs) es fs x e h =
      let first : has_term es v ≡ has_term fs v = cc in
      let rest : map (has_term es) vs ≡ map (has_term fs) vs = cc in
      ⊎_elim (λ s. subst (λ z. has_term es z ≡ has_term fs z) s first) (λ k. holds-at vs es fs x rest k) h

  same_these : (bits : List Bool) (es fs : List Term) → HasThese bits es → HasThese bits fs → SameMembers es fs
  same_these bits es fs h k x =
      let e = h.1 ∙ sym k.1 in (
        (λ m. holds-true fs x (sym (holds-at us es fs x e (h.0 x m)) ∙ has-holds es x m)),
        (λ m. holds-true es x (holds-at us es fs x e (k.0 x m) ∙ has-holds fs x m)),
      )

  subsets_given : AreGiven (all_bits (length us)) HasThese (λ es. IsSubset es us)
  subsets_given =
      record {
        given = λ es h. (map (has_term es) us, subst (λ n. Has (all_bits n) (map (has_term es) us)) (length-map us (has_term es)) (all_bits_has (map (has_term es) us)), (h, refl));
        same = same_these;
      }

-- the keys of sets with at most one member: the empty list, and lists of one member
abbrev singles_of : Term → List (List Term)
singles_of e = [] ∷ map (λ x. x ∷ []) (e ∷ reach e)

singles_given : (e : Term) → AreGiven (singles_of e) (λ fs es. SameMembers es fs) (IsSingle e)
singles_given e =
    record {
      given = λ es s. ⊎_elim (λ none. ([], inl refl, none)) (λ r. (r.0 ∷ [], inr (map_has (λ x. x ∷ []) (e ∷ reach e) r.0 r.1), r.2)) s;
      same = λ gs es fs h k. same_members_trans es gs fs h (same_members_sym fs gs k);
    }

module _ (l r : Term) (pairs : List SetPair) (differ : AllDiffer pairs) where
  pub pairs_bound : AreReached l r pairs → length pairs ≤ 2 ^ (acts l + 1) * 2 ^ (acts r + 1)
  pairs_bound reached =
      let bound = pairs_within (all_bits (length (l ∷ reach l))) (all_bits (length (r ∷ reach r))) _ _ _ _ (subsets_given (l ∷ reach l)) (subsets_given (r ∷ reach r)) pairs differ reached in
      let m : length (l ∷ reach l) ≡ acts l + 1 = omega (arith, length-reach l) in
      let n : length (r ∷ reach r) ≡ acts r + 1 = omega (arith, length-reach r) in
      rw (← length-all_bits (acts l + 1), ← length-all_bits (acts r + 1), ← m, ← n) bound

  pub single_pairs_bound : AreSingle l r pairs → length pairs ≤ (acts l + 2) * (acts r + 2)
  single_pairs_bound single =
      let bound = pairs_within (singles_of l) (singles_of r) _ _ _ _ (singles_given l) (singles_given r) pairs differ single in
      let m : length (singles_of l) ≡ acts l + 2 = omega (arith, length-map (l ∷ reach l) (λ x. x ∷ []), length-reach l) in
      let n : length (singles_of r) ≡ acts r + 2 = omega (arith, length-map (r ∷ reach r) (λ x. x ∷ []), length-reach r) in
      rw (← m, ← n) bound
