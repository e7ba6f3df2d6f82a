-- If sure terms cover the open ones, sets between them are congruent; if all terms are sure, this is also necessary.
use Rattle.std.proofs.Common.{◌⊎◌, inl, inr, ⊎_elim, List, Option, Some, None}
use Rattle.kat_model.specs.Trees.{Term}
use Rattle.kat_model.specs.Members.{Has, IsSubset, SameMembers}
use Rattle.kat_model.specs.Pairs.{SetPair, sat, BothUniversal, IsCongruent}
use Rattle.kat_model.proofs.Lists.{same_members_sym, same_members_trans}
use Rattle.kat_model.proofs.Saturation.{sat_keeps}
use Rattle.kat_model.proofs.Congruence.{sat_grows, sat_same, listed_same}
use Rattle.walk_pairs.specs.Covered.{IsBetween, HasUniversal, IsCovered}

pub universal_within : (universal : Option Term) (es fs : List Term) → IsSubset es fs → HasUniversal universal es → HasUniversal universal fs
universal_within None es fs s h = h
universal_within (Some u) es fs s h = s u h

both_universal : (universal : Option Term) (es fs : List Term) → HasUniversal universal es → HasUniversal universal fs → BothUniversal universal es fs
both_universal None es fs h k = h
both_universal (Some u) es fs h k = (h, k)

each_universal : (universal : Option Term) (es fs : List Term) → BothUniversal universal es fs → HasUniversal universal es × HasUniversal universal fs
each_universal None es fs h = absurd h
each_universal (Some u) es fs h = h

module _ (universal : Option Term) (pairs : List SetPair) where
  -- saturation by the pairs is monotone: a subset saturates to a subset
  pub sat_part : (es fs : List Term) → IsSubset es fs → IsSubset (sat pairs es) (sat pairs fs)
  sat_part es fs s = sat_grows pairs es fs (λ x h. sat_keeps pairs fs x (s x h))

  -- if each term of one set is in another set or in the saturation of a subset of it, the first saturates to no more
  -- than the second
  one_side : (es fs sure opened : List Term) → IsSubset sure fs → ((x : Term) → Has es x → Has fs x ⊎ Has opened x) → IsSubset opened (sat pairs sure) → IsSubset (sat pairs es) (sat pairs fs)
  one_side es fs sure opened s only made =
      sat_grows pairs es fs
      (λ x h. ⊎_elim (λ k. sat_keeps pairs fs x k) (λ o. sat_part sure fs s x (made x o)) (only x h))

  module _ (sure_left sure_right open_left open_right es fs : List Term) where
    pub covered_congruent : IsBetween sure_left open_left es fs → IsBetween sure_right open_right fs es → IsCovered universal pairs sure_left sure_right open_left open_right → IsCongruent universal pairs es fs
    covered_congruent left right c = ⊎_elim by_members by_universal c.lefts
      where
        own_left : HasUniversal universal (sat pairs sure_left) → HasUniversal universal (sat pairs es)
        own_left u = universal_within universal (sat pairs sure_left) (sat pairs es) (sat_part sure_left es left.has) u

        own_right : HasUniversal universal (sat pairs sure_right) → HasUniversal universal (sat pairs fs)
        own_right u = universal_within universal (sat pairs sure_right) (sat pairs fs) (sat_part sure_right fs right.has) u

        lefts_within : IsSubset open_left (sat pairs sure_right) → IsSubset (sat pairs es) (sat pairs fs)
        lefts_within m = one_side es fs sure_right open_left right.has left.only m

        rights_within : IsSubset open_right (sat pairs sure_left) → IsSubset (sat pairs fs) (sat pairs es)
        rights_within m = one_side fs es sure_left open_right left.has right.only m

        by_members : IsSubset open_left (sat pairs sure_right) → IsCongruent universal pairs es fs
        by_members m =
            ⊎_elim
            (λ n. inl (λ x. (lefts_within m x, rights_within n x)))
            (λ u. inr (both_universal universal (sat pairs es) (sat pairs fs) (own_left u) (universal_within universal (sat pairs es) (sat pairs fs) (lefts_within m) (own_left u))))
            c.rights

        by_universal : HasUniversal universal (sat pairs sure_right) → IsCongruent universal pairs es fs
        by_universal u =
            ⊎_elim
            (λ n. inr (both_universal universal (sat pairs es) (sat pairs fs) (universal_within universal (sat pairs fs) (sat pairs es) (rights_within n) (own_right u)) (own_right u)))
            (λ v. inr (both_universal universal (sat pairs es) (sat pairs fs) (own_left v) (own_right u)))
            c.rights

    pub congruent_covered : SameMembers sure_left es → SameMembers sure_right fs → IsSubset open_left es → IsSubset open_right fs → IsCongruent universal pairs es fs → IsCovered universal pairs sure_left sure_right open_left open_right
    congruent_covered left right opens_left opens_right c =
        let lefts = sat_same pairs sure_left es left in
        let rights = sat_same pairs sure_right fs right in
        ⊎_elim
        (λ s. record {
          lefts = inl (λ x h. (rights x).1 ((s x).0 (sat_keeps pairs es x (opens_left x h))));
          rights = inl (λ x h. (lefts x).1 ((s x).1 (sat_keeps pairs fs x (opens_right x h))));
        })
        (λ u.
        let each = each_universal universal (sat pairs es) (sat pairs fs) u in
        record {
          lefts = inr (universal_within universal (sat pairs fs) (sat pairs sure_right) (λ x. (rights x).1) each.1);
          rights = inr (universal_within universal (sat pairs es) (sat pairs sure_left) (λ x. (lefts x).1) each.0);
        })
        c

  -- congruence depends only on the members of the sets
  pub congruent_same : (es fs gs hs : List Term) → SameMembers es gs → SameMembers fs hs → IsCongruent universal pairs es fs → IsCongruent universal pairs gs hs
  congruent_same es fs gs hs s t c =
      let lefts = sat_same pairs es gs s in
      let rights = sat_same pairs fs hs t in
      ⊎_elim
      (λ m. inl (same_members_trans (sat pairs gs) (sat pairs es) (sat pairs hs) (same_members_sym (sat pairs es) (sat pairs gs) lefts) (same_members_trans (sat pairs es) (sat pairs fs) (sat pairs hs) m rights)))
      (λ u.
      let each = each_universal universal (sat pairs es) (sat pairs fs) u in
      inr (both_universal universal (sat pairs gs) (sat pairs hs) (universal_within universal (sat pairs es) (sat pairs gs) (λ x. (lefts x).0) each.0) (universal_within universal (sat pairs fs) (sat pairs hs) (λ x. (rights x).0) each.1)))
      c

  -- two sets with the members of a listed pair are congruent
  pub listed_congruent : (p : SetPair) (es fs : List Term) → Has pairs p → SameMembers es p.left → SameMembers fs p.right → IsCongruent universal pairs es fs
  listed_congruent p es fs h s t = inl (listed_same pairs es fs (record { pair = p; listed = h; lefts = s; rights = t }))
