-- Collecting ids with all their parts, the greatest id first.
use Rattle.std.proofs.Common.{◌≡◌, ◌<◌, ◌≤◌, ◌+◌, ℕ, ◌⊎◌, inl, inr, ⊎_elim, List, [], ◌∷◌, ◌++◌, length, get_or, drop, ◌↔◌, slice_get, Some, refl, sym, ap, ◌∙◌, subst, arith, true}
use Rattle.std.specs.List.{All}
use Rattle.std.specs.Ordering.{nat_cmp}
use Rattle.std.specs.BTreeSet.{insert_key}
use Rattle.std.specs.declared.cmp.Ordering.TheVariants.{Less}
use Rattle.std.proofs.lemmas.List.{drop_more, drop_all}
use Rattle.std.proofs.lemmas.Map.Lookups.{exact_unsigned}
use Rattle.std.proofs.lemmas.Option.{same_Some}
use Rattle.kat_model.specs.Members.{Has, SameMembers}
use Rattle.kat_model.proofs.Lists.{has_left, has_right, has_append}
use Rattle.kat_model.proofs.SetKeys.{inserted_has}
use Rattle.kat_model.proofs.NumberKeys.{all_of, bound_of, bound_above, bound_least}
use Rattle.term_nodes.specs.NumberSets.{are_ascending}
use Rattle.walk_pairs.specs.Needed.{IsPart, own, part, AreParts, AddsAll, members_of}
use Rattle.certificate.specs.PairParts.{PairParts}

-- ---- collecting

module _ (N : Type 0) (nodes : List N) (named : N → List ℕ) (from : List ℕ) where
  -- some ids are pending; the others are collected, and each of these is greater than all pending ids
  pub record IsGathering (pending all : List ℕ) : Type 0 where
    pub pending_there : (i : ℕ) → Has pending i → i < length nodes
    pub there : (i : ℕ) → Has all i → i < length nodes
    pub below : (i j : ℕ) → Has pending i → Has all j → i < j
    pub holds : (i : ℕ) → Has from i → Has pending i ⊎ Has all i
    pub parts : (i : ℕ) (node : N) → Has all i → slice_get nodes i ≡ Some node → (j : ℕ) → Has (named node) j → Has pending j ⊎ Has all j
    pub pending_only : (i : ℕ) → Has pending i → IsPart N nodes named from i
    pub only : (i : ℕ) → Has all i → IsPart N nodes named from i

  pub gathering_starts : ((i : ℕ) → Has from i → i < length nodes) → IsGathering from []
  gathering_starts h = record {
    pending_there = h;
    there = λ i k. absurd k;
    below = λ i j p k. absurd k;
    holds = λ i k. inl k;
    parts = λ i node k. absurd k;
    pending_only = λ i k. own i k;
    only = λ i k. absurd k;
  }

  pub gathering_ends : (all : List ℕ) → are_ascending all ≡ true → IsGathering [] all → AreParts N nodes named from all
  gathering_ends all ascends g = record {
    holds = λ i k. ⊎_elim absurd (λ h. h) (g.holds i k);
    there = g.there;
    ascending = ascends;
    parts = λ i node k e j h. ⊎_elim absurd (λ r. r) (g.parts i node k e j h);
    only = g.only;
  }

  module _ (pending rest next all : List ℕ) (k : ℕ) (node : N) (g : IsGathering pending all) (e : pending ≡ rest ++ k ∷ []) (less : All (λ q. nat_cmp q k ≡ Less) rest) (at : slice_get nodes k ≡ Some node)
      (smaller : (j : ℕ) → Has (named node) j → j < k) (adds : AddsAll rest next (named node)) where
    taken : Has pending k
    taken = subst (λ l. Has l k) (sym e) (has_right rest (k ∷ []) k (inl refl))

    old : (i : ℕ) → Has rest i → Has pending i
    old i h = subst (λ l. Has l i) (sym e) (has_left rest (k ∷ []) i h)

    under : (i : ℕ) → Has next i → i < k
    under i h = ⊎_elim (λ o. let l = all_of (λ q. nat_cmp q k ≡ Less) rest less i o in grind (arith, l)) (smaller i) ((adds i).0 h)

    into : (i : ℕ) → Has all i → Has (insert_key nat_cmp all k) i
    into i h = (inserted_has exact_unsigned k all i).1 (inl h)

    -- a pending id stays pending or is the one that was taken
    moved : (i : ℕ) → Has pending i → Has next i ⊎ Has (insert_key nat_cmp all k) i
    moved i h =
        ⊎_elim
        (λ o. inl ((adds i).1 (inl o)))
        (λ s. ⊎_elim (λ is. inr ((inserted_has exact_unsigned k all i).1 (inr is))) absurd s)
        (has_append rest (k ∷ []) i (subst (λ l. Has l i) e h))

    kept : (i : ℕ) → Has pending i ⊎ Has all i → Has next i ⊎ Has (insert_key nat_cmp all k) i
    kept i h = ⊎_elim (moved i) (λ o. inr (into i o)) h

    parts_kept : (i : ℕ) (n : N) → Has (insert_key nat_cmp all k) i → slice_get nodes i ≡ Some n → (j : ℕ) → Has (named n) j → Has next j ⊎ Has (insert_key nat_cmp all k) j
    parts_kept i n h f j m =
        ⊎_elim
        (λ o. kept j (g.parts i n o f j m))
        (λ s. let same : node ≡ n = same_Some node n (sym at ∙ ap (slice_get nodes) s ∙ f) in inl ((adds j).1 (inr (subst (λ x. Has (named x) j) (sym same) m))))
        ((inserted_has exact_unsigned k all i).0 h)

    -- the step takes the greatest pending id and adds its parts, which are smaller
    pub gathering_goes_on : (new : List ℕ) → new ≡ insert_key nat_cmp all k → IsGathering next new
    gathering_goes_on new inserted = subst (IsGathering next) (sym inserted) (record {
      pending_there = λ i h. let b = under i h in let c = g.pending_there k taken in omega (arith, b, c);
      there = λ i h. ⊎_elim (λ o. g.there i o) (λ s. subst (λ n. n < length nodes) s (g.pending_there k taken)) ((inserted_has exact_unsigned k all i).0 h);
      below = λ i j h m. ⊎_elim (λ o. let b = under i h in let c = g.below k j taken o in omega (arith, b, c)) (λ s. subst (λ n. i < n) s (under i h)) ((inserted_has exact_unsigned k all j).0 m);
      holds = λ i h. kept i (g.holds i h);
      parts = parts_kept;
      pending_only = λ i h. ⊎_elim (λ o. g.pending_only i (old i o)) (λ m. part i k node (g.pending_only k taken) at m) ((adds i).0 h);
      only = λ i h. ⊎_elim (λ o. g.only i o) (λ s. subst (IsPart N nodes named from) s (g.pending_only k taken)) ((inserted_has exact_unsigned k all i).0 h);
    })

    -- and lowers the bound of the pending ids
    pub gathering_falls : bound_of next < bound_of pending
    gathering_falls =
        let l = bound_least next k under in
        let b = bound_above pending k taken in
        omega (arith, l, b)

-- ---- the members of pairs

pub members_next : (all : List ℕ) (pairs : List PairParts) (i : ℕ) (p : PairParts) (old mid new : List ℕ) → i < length pairs → p ≡ get_or pairs i p → AddsAll old mid p.left → AddsAll mid new p.right
    → ((x : ℕ) → Has all x ↔ (Has old x ⊎ Has (members_of (drop i pairs)) x)) → (x : ℕ) → Has all x ↔ (Has new x ⊎ Has (members_of (drop (i + 1) pairs)) x)
members_next all pairs i p old mid new lt is left right before x =
    let step : members_of (drop i pairs) ≡ (p.left ++ p.right) ++ members_of (drop (i + 1) pairs) = ap members_of (drop_more pairs i p lt) ∙ ap (λ (q : PairParts). (q.left ++ q.right) ++ members_of (drop (i + 1) pairs)) (sym is) in
    let rest = members_of (drop (i + 1) pairs) in (
      (λ h. ⊎_elim
          (λ o. inl ((right x).1 (inl ((left x).1 (inl o)))))
          (λ m. ⊎_elim
          (λ own. inl (⊎_elim (λ a. (right x).1 (inl ((left x).1 (inr a)))) (λ b. (right x).1 (inr b)) (has_append p.left p.right x own)))
          inr
          (has_append (p.left ++ p.right) rest x (subst (λ l. Has l x) step m)))
          ((before x).0 h)),
      (λ h. (before x).1 (⊎_elim
          (λ n. ⊎_elim
          (λ m. ⊎_elim inl (λ a. inr (subst (λ l. Has l x) (sym step) (has_left (p.left ++ p.right) rest x (has_left p.left p.right x a)))) ((left x).0 m))
          (λ b. inr (subst (λ l. Has l x) (sym step) (has_left (p.left ++ p.right) rest x (has_right p.left p.right x b))))
          ((right x).0 n))
          (λ m. inr (subst (λ l. Has l x) (sym step) (has_right (p.left ++ p.right) rest x m)))
          h)),
    )

pub members_first : (pairs : List PairParts) (ks : List ℕ) → ks ≡ [] → (x : ℕ) → Has (members_of pairs) x ↔ (Has ks x ⊎ Has (members_of (drop 0 pairs)) x)
members_first pairs ks e x = (inr, (λ h. ⊎_elim (λ k. absurd (subst (λ l. Has l x) e k)) (λ m. m) h))

pub members_last : (pairs : List PairParts) (ks : List ℕ) (i : ℕ) → length pairs ≤ i → ((x : ℕ) → Has (members_of pairs) x ↔ (Has ks x ⊎ Has (members_of (drop i pairs)) x)) → SameMembers ks (members_of pairs)
members_last pairs ks i le before x = (
  (λ h. (before x).1 (inl h)),
  (λ h. ⊎_elim (λ k. k) (λ m. absurd (subst (λ l. Has (members_of l) x) (drop_all i pairs le) m)) ((before x).0 h)),
)

pub member_of : (pairs : List PairParts) (p : PairParts) → Has pairs p → (x : ℕ) → Has (p.left ++ p.right) x → Has (members_of pairs) x
member_of [] p h x m = absurd h
member_of (q ∷ ps) p h x m =
    ⊎_elim
    (λ s. has_left (q.left ++ q.right) (members_of ps) x (subst (λ (r : PairParts). Has (r.left ++ r.right) x) (sym s) m))
    (λ r. has_right (q.left ++ q.right) (members_of ps) x (member_of ps p r x m))
    h
