-- Marks that represent a set of terms, and their saturation.
use Rattle.std.proofs.Common.{◌≡◌, ◌↔◌, ℕ, zero, suc, ◌<◌, ◌⊎◌, inl, inr, ⊎_elim, List, [], ◌∷◌, ◌++◌, length, get_or, set, slice_get, replicate, refl, sym, ap, ◌∙◌, subst, arith, Bool, true, false, ◌||◌, cond, Some}
use Rattle.std.proofs.lemmas.Bool.{and_parts, and_from}
use Rattle.std.proofs.lemmas.Option.{slice_get-get_or, slice_get_within, get_or_from_slice_get}
use Rattle.std.proofs.Math.ListN.{length-set}
use Rattle.std.proofs.lemmas.List.{length-map, length-replicate}
use Rattle.kat_model.specs.Trees.{Term}
use Rattle.kat_model.specs.Members.{Has, IsSubset}
use Rattle.kat_model.specs.Pairs.{holds_all, with_pair, round, rounds, sat}
use Rattle.kat_model.proofs.Lists.{has_left, has_right, has_append}
use Rattle.kat_model.proofs.SameTrees.{holds_all-true, subset-holds_all}
use Rattle.kat_model.proofs.Places.{slice_get-set_same, slice_get-set_kept, slice_get-set_cases}
use Rattle.term_nodes.specs.NodeLists.{NodeParts, AreNodes, IsTerm}
use Rattle.term_nodes.specs.NodeTrees.{tree_at}
use Rattle.term_nodes.proofs.TermTrees.{one_id_a_tree}
use Rattle.walk_up_to.specs.Walks.{Entry, pairs_of}
use Rattle.term_nodes.specs.NumberSets.{terms_of}
use Rattle.walk_pairs.specs.declared.items.Side.{Side}
use Rattle.walk_up_to.specs.Listings.{IdEntry, set_on, set_across, pair_of, entry_of, entries_of}
use Rattle.walk_up_to.specs.Marks.{are_marked, with_marks, with_side_marked, with_pair_marked, round_marked, rounds_marked, saturated_marks}
use Rattle.kat_model.proofs.Options.{same_bool}

-- the numbers are ids of terms; and the ids of both sides of each pair
abbrev pub AreIds : NodeParts → List ℕ → Type 0
AreIds store ks = (k : ℕ) → Has ks k → IsTerm store k

abbrev pub ArePairIds : NodeParts → List IdEntry → Type 0
ArePairIds store ps = (p : IdEntry) → Has ps p → AreIds store p.left × AreIds store p.right

-- the marked ids are those of the terms of the list
abbrev pub MarksAre : NodeParts → List Bool → List Term → Type 0
MarksAre store marks es = (e : Term) → ((k : ℕ) × (slice_get marks k ≡ Some true) × (tree_at store k ≡ e)) ↔ Has es e

-- ---- an additional mark

pub length_with_marks : (marks : List Bool) (ks : List ℕ) → length (with_marks marks ks) ≡ length marks
length_with_marks marks [] = refl
length_with_marks marks (k ∷ ks) = length_with_marks (set marks k true) ks ∙ length-set marks k true

pub length_with_side : (side : Side) (marks : List Bool) (p : IdEntry) → length (with_side_marked side marks p) ≡ length marks
length_with_side side marks p = go (are_marked marks (set_on side p))
  where
    go : (b : Bool) → length (cond b (with_marks marks (set_across side p)) marks) ≡ length marks
    go true = length_with_marks marks (set_across side p)
    go false = refl

pub length_with_pair : (marks : List Bool) (p : IdEntry) → length (with_pair_marked marks p) ≡ length marks
length_with_pair marks p = go (are_marked marks p.left) (are_marked marks p.right)
  where
    go : (b c : Bool) → length (cond b (with_marks marks p.right) (cond c (with_marks marks p.left) marks)) ≡ length marks
    go true c = length_with_marks marks p.right
    go false true = length_with_marks marks p.left
    go false false = refl

pub length_round : (ps : List IdEntry) (marks : List Bool) → length (round_marked ps marks) ≡ length marks
length_round [] marks = refl
length_round (p ∷ ps) marks = length_round ps (with_pair_marked marks p) ∙ length_with_pair marks p

length_rounds : (n : ℕ) (ps : List IdEntry) (marks : List Bool) → length (rounds_marked n ps marks) ≡ length marks
length_rounds zero ps marks = refl
length_rounds (suc n) ps marks = length_rounds n ps (round_marked ps marks) ∙ length_round ps marks

pub saturated_length : (n : ℕ) (ps : List IdEntry) (ks : List ℕ) → length (saturated_marks n ps ks) ≡ n
saturated_length n ps ks = length_rounds (length ps) ps (with_marks (replicate n false) ks) ∙ length_with_marks (replicate n false) ks ∙ length-replicate n false

-- ---- marks and terms

module _ (store : NodeParts) (is : AreNodes store) where
  -- an id is marked if and only if its term is in the set
  pub marked_id : (marks : List Bool) (es : List Term) → length marks ≡ length store.terms → MarksAre store marks es → (k : ℕ) → IsTerm store k → (get_or marks k false ≡ true) ↔ Has es (tree_at store k)
  marked_id marks es l m k h = (
    (λ e. (m (tree_at store k)).0 (k, slice_get-get_or marks k false (omega (arith, l, h)) ∙ ap (λ (b : Bool). Some b) e, refl)),
    (λ s.
        let found = (m (tree_at store k)).1 s in
        let there : found.0 < length store.terms = subst (λ n. found.0 < n) l (slice_get_within marks found.0 true found.1) in
        let same : found.0 ≡ k = one_id_a_tree store is found.0 k there h found.2 in
        subst (λ j. get_or marks j false ≡ true) same (get_or_from_slice_get marks found.0 true false found.1)),
  )

  -- all ids are marked if and only if the set contains all their terms
  pub all_marked : (marks : List Bool) (es : List Term) → length marks ≡ length store.terms → MarksAre store marks es → (ks : List ℕ) → AreIds store ks → (are_marked marks ks ≡ true) ↔ IsSubset (terms_of store ks) es
  all_marked marks es l m ks below = (to ks below, from ks below)
    where
      to : (ks : List ℕ) → AreIds store ks → are_marked marks ks ≡ true → IsSubset (terms_of store ks) es
      to [] below e x h = absurd h
      to (k ∷ ks) below e x h =
          let parts = and_parts (get_or marks k false) (are_marked marks ks) e in
          ⊎_elim
          (λ s. subst (Has es) s ((marked_id marks es l m k (below k (inl refl))).0 parts.0))
          (λ r. to ks (λ j m. below j (inr m)) parts.1 x r)
          h

      from : (ks : List ℕ) → AreIds store ks → IsSubset (terms_of store ks) es → are_marked marks ks ≡ true
      from [] below s = refl
      from (k ∷ ks) below s =
          and_from (get_or marks k false) (are_marked marks ks)
          ((marked_id marks es l m k (below k (inl refl))).1 (s (tree_at store k) (inl refl)))
          (from ks (λ j m. below j (inr m)) (λ x h. s x (inr h)))

  one_more : (marks : List Bool) (es : List Term) (k : ℕ) → length marks ≡ length store.terms → MarksAre store marks es → IsTerm store k → MarksAre store (set marks k true) (tree_at store k ∷ es)
  one_more marks es k l m h e = (
    (λ f. ⊎_elim (λ s. inl (ap (tree_at store) (sym s) ∙ f.2)) (λ r. inr ((m e).0 (f.0, r, f.2))) (slice_get-set_cases marks k f.0 true true f.1)),
    (λ r. ⊎_elim (λ s. (k, slice_get-set_same marks k true (omega (arith, l, h)), s)) (λ q. let f = (m e).1 q in (f.0, slice_get-set_kept marks k f.0 true f.1, f.2)) r),
  )

  -- the marks with those of additional ids represent the set with their terms
  pub more_marks : (ks : List ℕ) (marks : List Bool) (es fs : List Term) → length marks ≡ length store.terms → AreIds store ks → MarksAre store marks es
      → ((e : Term) → Has fs e ↔ (Has es e ⊎ Has (terms_of store ks) e)) → MarksAre store (with_marks marks ks) fs
  more_marks [] marks es fs l below m same e = (
    (λ f. (same e).1 (inl ((m e).0 f))),
    (λ h. ⊎_elim (λ x. (m e).1 x) absurd ((same e).0 h)),
  )
  more_marks (k ∷ ks) marks es fs l below m same e =
      more_marks ks (set marks k true) (tree_at store k ∷ es) fs (length-set marks k true ∙ l) (λ j h. below j (inr h)) (one_more marks es k l m (below k (inl refl)))
      (λ x. (
        (λ h. ⊎_elim (λ a. inl (inr a)) (λ b. ⊎_elim (λ s. inl (inl s)) inr b) ((same x).0 h)),
        (λ h. (same x).1 (⊎_elim (λ a. ⊎_elim (λ s. inr (inl s)) inl a) (λ b. inr (inr b)) h)),
      ))
      e

  -- ---- saturation

  same_hold : (marks : List Bool) (es : List Term) → length marks ≡ length store.terms → MarksAre store marks es → (ks : List ℕ) → AreIds store ks → are_marked marks ks ≡ holds_all es (terms_of store ks)
  same_hold marks es l m ks below =
      let both = all_marked marks es l m ks below in
      same_bool (are_marked marks ks) (holds_all es (terms_of store ks)) (λ e. subset-holds_all es (terms_of store ks) (both.0 e)) (λ e. both.1 (holds_all-true es (terms_of store ks) e))

  pair_marked : (p : IdEntry) (marks : List Bool) (es : List Term) → length marks ≡ length store.terms → AreIds store p.left → AreIds store p.right → MarksAre store marks es → MarksAre store (with_pair_marked marks p) (with_pair es (pair_of store p))
  pair_marked p marks es l left right m =
      rw (← same_hold marks es l m p.left left, ← same_hold marks es l m p.right right) (go (are_marked marks p.left) (are_marked marks p.right) refl refl)
    where
      ls : List Term
      ls = terms_of store p.left

      rs : List Term
      rs = terms_of store p.right

      go : (a b : Bool) → are_marked marks p.left ≡ a → are_marked marks p.right ≡ b → MarksAre store (cond a (with_marks marks p.right) (cond b (with_marks marks p.left) marks)) (cond (a || b) (es ++ terms_of store p.left ++ terms_of store p.right) es)
      go true b e f =
          more_marks p.right marks es _ l right m
          (λ x. (
            (λ h. ⊎_elim (λ k. inl (⊎_elim (λ z. z) (λ z. (all_marked marks es l m p.left left).0 e x z) (has_append es (terms_of store p.left) x k))) inr (has_append (es ++ terms_of store p.left) (terms_of store p.right) x h)),
            (λ h. ⊎_elim (λ k. has_left (es ++ terms_of store p.left) (terms_of store p.right) x (has_left es (terms_of store p.left) x k)) (λ k. has_right (es ++ terms_of store p.left) (terms_of store p.right) x k) h),
          ))
      go false true e f =
          more_marks p.left marks es _ l left m
          (λ x. (
            (λ h. ⊎_elim (λ k. has_append es (terms_of store p.left) x k) (λ k. inl ((all_marked marks es l m p.right right).0 f x k)) (has_append (es ++ terms_of store p.left) (terms_of store p.right) x h)),
            (λ h. has_left (es ++ terms_of store p.left) (terms_of store p.right) x (⊎_elim (λ k. has_left es (terms_of store p.left) x k) (λ k. has_right es (terms_of store p.left) x k) h)),
          ))
      go false false e f = m

  round_marks : (ps : List IdEntry) (marks : List Bool) (es : List Term) → length marks ≡ length store.terms → ArePairIds store ps → MarksAre store marks es → MarksAre store (round_marked ps marks) (round (pairs_of (entries_of store ps)) es)
  round_marks [] marks es l below m = m
  round_marks (p ∷ ps) marks es l below m =
      round_marks ps (with_pair_marked marks p) _ (length_with_pair marks p ∙ l) (λ q h. below q (inr h)) (pair_marked p marks es l (below p (inl refl)).0 (below p (inl refl)).1 m)

  rounds_marks : (n : ℕ) (ps : List IdEntry) (marks : List Bool) (es : List Term) → length marks ≡ length store.terms → ArePairIds store ps → MarksAre store marks es → MarksAre store (rounds_marked n ps marks) (rounds n (pairs_of (entries_of store ps)) es)
  rounds_marks zero ps marks es l below m = m
  rounds_marks (suc n) ps marks es l below m = rounds_marks n ps (round_marked ps marks) _ (length_round ps marks ∙ l) below (round_marks ps marks es l below m)

  none_marked : (n k : ℕ) → slice_get (replicate n false) k ≡ Some true → ⊥
  none_marked zero k e = absurd cc
  none_marked (suc n) zero e = absurd cc
  none_marked (suc n) (suc k) e = none_marked n k e

  -- the computed marks represent the saturated set
  pub saturated_set : (ps : List IdEntry) (ks : List ℕ) → ArePairIds store ps → AreIds store ks → MarksAre store (saturated_marks (length store.terms) ps ks) (sat (pairs_of (entries_of store ps)) (terms_of store ks))
  saturated_set ps ks below low =
      subst (λ n. MarksAre store (saturated_marks (length store.terms) ps ks) (rounds n (pairs_of (entries_of store ps)) (terms_of store ks))) (sym (length-map (entries_of store ps) (λ (x : Entry). x.pair) ∙ length-map ps (entry_of store)))
      (rounds_marks (length ps) ps (with_marks (replicate (length store.terms) false) ks) (terms_of store ks) (length_with_marks (replicate (length store.terms) false) ks ∙ length-replicate (length store.terms) false) below
      (more_marks ks (replicate (length store.terms) false) [] (terms_of store ks) (length-replicate (length store.terms) false) low
      (λ e. ((λ f. absurd (none_marked (length store.terms) f.0 f.1)), absurd))
      (λ e. (inr, (λ h. ⊎_elim absurd (λ k. k) h)))))
