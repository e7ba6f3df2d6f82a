-- A worked example of bisimulations: p* = p*.p* by one pair of sets up to congruence (Bonchi and Pous 2013), which is
-- not a plain bisimulation, and by two pairs that are a plain bisimulation (Hopcroft and Karp 1971).
use Rattle.std.proofs.Common.{◌≡◌, ℕ, ◌<◌, true, false, inl, inr, ⊎_elim, List, [], ◌∷◌, length, Some, None, refl, sym, ◌∙◌, subst, arith}
use Rattle.std.proofs.lemmas.Bool.{true≢false}
use Rattle.kat_model.specs.Trees.{Term, one, product, star}
use Rattle.kat_model.specs.Members.{Has, SameMembers}
use Rattle.kat_model.specs.Steps.{Atom, set_out, set_next}
use Rattle.kat_model.specs.Problems.{ProblemParts}
use Rattle.kat_model.specs.Pairs.{has_term, holds_all, SetPair, sat, IsListed, IsCongruent, plain, up_to, AreMatched, IsBisimulation, AreAccepted, AllDiffer}
use Rattle.kat_model.proofs.Examples.{p, q}

abbrev once : Term
once = star p

abbrev twice : Term
twice = product (star p) (star p)

abbrev pair : List Term → List Term → SetPair
pair es fs = record { left = es; right = fs }

-- both sides as singleton sets
abbrev start : SetPair
start = pair (once ∷ []) (twice ∷ [])

-- the next sets of the pair, found by hand from the rules for products and stars

next_left : (atom : Atom) → set_next (once ∷ []) atom 0 ≡ once ∷ []
next_left atom = refl

next_right : (atom : Atom) → set_next (twice ∷ []) atom 0 ≡ twice ∷ once ∷ []
next_right atom = refl

-- membership in a set

holds_example : has_term (once ∷ twice ∷ []) twice ≡ true
holds_example = refl

holds_other : has_term (once ∷ twice ∷ []) p ≡ false
holds_other = refl

holds_all_example : holds_all (once ∷ twice ∷ []) (twice ∷ twice ∷ []) ≡ true
holds_all_example = refl

holds_all_part : holds_all (once ∷ twice ∷ []) (twice ∷ p ∷ []) ≡ false
holds_all_part = refl

-- a set that contains one side of the pair gains the other side

sat_left : sat (start ∷ []) (once ∷ []) ≡ once ∷ once ∷ twice ∷ []
sat_left = refl

sat_right : sat (start ∷ []) (twice ∷ once ∷ []) ≡ twice ∷ once ∷ once ∷ twice ∷ []
sat_right = refl

-- a part of a side is not sufficient
sat_part : sat (pair (p ∷ q ∷ []) (one ∷ []) ∷ []) (p ∷ []) ≡ p ∷ []
sat_part = refl

-- a set that contains neither side is unchanged
sat_other : sat (start ∷ []) (p ∷ []) ≡ p ∷ []
sat_other = refl

-- a pair that applies only after a later one is found in the second round; there are as many rounds as pairs
sat_rounds : sat (pair (q ∷ []) (one ∷ []) ∷ pair (p ∷ []) (q ∷ []) ∷ []) (p ∷ []) ≡ p ∷ p ∷ q ∷ q ∷ one ∷ p ∷ q ∷ []
sat_rounds = refl

-- without pairs, nothing is added
sat_nothing : sat [] (p ∷ q ∷ []) ≡ p ∷ q ∷ []
sat_nothing = refl

same_sets : SameMembers (sat (start ∷ []) (once ∷ [])) (sat (start ∷ []) (twice ∷ once ∷ []))
same_sets x = (
  (λ h. ⊎_elim (λ e. inr (inl e)) (λ k. ⊎_elim (λ e. inr (inl e)) (λ l. ⊎_elim inl absurd l) k) h),
  (λ h. ⊎_elim (λ e. inr (inr (inl e))) (λ k. ⊎_elim inl (λ l. ⊎_elim inl (λ m. inr (inr m)) l) k) h),
)

next_congruent : IsCongruent None (start ∷ []) (once ∷ []) (twice ∷ once ∷ [])
next_congruent = inl same_sets

-- without the pair the sets are not congruent
not_congruent : IsCongruent None [] (once ∷ []) (twice ∷ once ∷ []) → ⊥
not_congruent h = ⊎_elim (λ s. ⊎_elim (λ e. absurd cc) absurd ((s twice).1 (inl refl))) absurd h

-- but they are congruent if both contain the universal term
universal_congruent : IsCongruent (Some once) [] (once ∷ []) (twice ∷ once ∷ [])
universal_congruent = inr (inl refl, inr (inl refl))

one_pair_up_to : IsBisimulation up_to 0 1 None (start ∷ [])
one_pair_up_to = record { outputs = outputs; steps = steps }
  where
    outputs : (s : SetPair) → Has (start ∷ []) s → (atom : Atom) → length atom ≡ 0 → set_out s.left atom ≡ set_out s.right atom
    outputs s h atom long = ⊎_elim (λ e. subst (λ z. set_out z.left atom ≡ set_out z.right atom) e refl) absurd h

    steps : (s : SetPair) → Has (start ∷ []) s → (atom : Atom) → length atom ≡ 0 → (a : ℕ) → a < 1 → AreMatched up_to None (start ∷ []) (set_next s.left atom a) (set_next s.right atom a)
    steps s h atom long a la =
        let zeroth : 0 ≡ a = omega arith in
        ⊎_elim
        (λ e. subst (λ z. AreMatched up_to None (start ∷ []) (set_next z.left atom a) (set_next z.right atom a)) e
        (subst (λ k. AreMatched up_to None (start ∷ []) (set_next (once ∷ []) atom k) (set_next (twice ∷ []) atom k)) zeroth next_congruent))
        absurd h

abbrev poses : ProblemParts
poses = record { tests = 0; actions = 1; hyps = []; left = once; right = twice }

one_pair_accepted : AreAccepted up_to poses (start ∷ [])
one_pair_accepted = record { rest = []; first = refl; bisimulation = one_pair_up_to }

-- the first pair must be the two sides
other_start_refused : AreAccepted up_to poses (pair (once ∷ []) (once ∷ []) ∷ []) → ⊥
other_start_refused h =
    let listed : Has (pair (once ∷ []) (once ∷ []) ∷ []) start = subst (λ l. Has l start) (sym h.first) (inl refl) in
    ⊎_elim
    (λ e.
    let member : Has (twice ∷ []) once = subst (λ z. Has z.right once) e (inl refl) in
    ⊎_elim (λ d. absurd cc) absurd member)
    absurd listed

-- the sets of a pair must accept the same atoms: p* accepts an atom, and p does not
unlike_refused : IsBisimulation up_to 0 1 None (pair (once ∷ []) (p ∷ []) ∷ []) → ⊥
unlike_refused h = true≢false (h.outputs (pair (once ∷ []) (p ∷ [])) (inl refl) [] refl)

-- the right next set contains p*, and no listed right set does
one_pair_not_plain : IsBisimulation plain 0 1 None (start ∷ []) → ⊥
one_pair_not_plain h = ⊎_elim unlisted absurd (h.steps start (inl refl) [] refl 0 (omega arith))
  where
    unlisted : IsListed (start ∷ []) (once ∷ []) (twice ∷ once ∷ []) → ⊥
    unlisted l =
        ⊎_elim
        (λ e.
        let member : Has (twice ∷ []) once = subst (λ z. Has z.right once) (sym e) ((l.rights once).0 (inr (inl refl))) in
        ⊎_elim (λ d. absurd cc) absurd member)
        absurd l.listed

-- the next sets as a second pair

abbrev second : SetPair
second = pair (once ∷ []) (twice ∷ once ∷ [])

abbrev both : List SetPair
both = start ∷ second ∷ []

next_right_again : (atom : Atom) → set_next (twice ∷ once ∷ []) atom 0 ≡ twice ∷ once ∷ once ∷ []
next_right_again atom = refl

same_left : SameMembers (once ∷ []) (once ∷ [])
same_left x = ((λ h. h), (λ h. h))

-- a repeated member makes no difference
same_right : SameMembers (twice ∷ once ∷ once ∷ []) (twice ∷ once ∷ [])
same_right x = (
  (λ h. ⊎_elim inl (λ k. ⊎_elim (λ e. inr (inl e)) (λ l. inr l) k) h),
  (λ h. ⊎_elim inl (λ k. ⊎_elim (λ e. inr (inl e)) absurd k) h),
)

listed_first : IsListed both (once ∷ []) (twice ∷ once ∷ [])
listed_first = record { pair = second; listed = inr (inl refl); lefts = same_left; rights = λ x. ((λ h. h), (λ h. h)) }

listed_again : IsListed both (once ∷ []) (twice ∷ once ∷ once ∷ [])
listed_again = record { pair = second; listed = inr (inl refl); lefts = same_left; rights = same_right }

two_pairs_plain : IsBisimulation plain 0 1 None both
two_pairs_plain = record { outputs = outputs; steps = steps }
  where
    outputs : (s : SetPair) → Has both s → (atom : Atom) → length atom ≡ 0 → set_out s.left atom ≡ set_out s.right atom
    outputs s h atom long =
        let out : (z : SetPair) → set_out z.left atom ≡ true → set_out z.right atom ≡ true → z ≡ s → set_out s.left atom ≡ set_out s.right atom = λ z l r e. subst (λ y. set_out y.left atom ≡ set_out y.right atom) e (l ∙ sym r) in
        ⊎_elim (λ e. out start refl refl e) (λ k. ⊎_elim (λ e. out second refl refl e) absurd k) h

    IsMatched : SetPair → Atom → ℕ → Type 0
    IsMatched s atom a = AreMatched plain None both (set_next s.left atom a) (set_next s.right atom a)

    steps : (s : SetPair) → Has both s → (atom : Atom) → length atom ≡ 0 → (a : ℕ) → a < 1 → IsMatched s atom a
    steps s h atom long a la =
        let zeroth : 0 ≡ a = omega arith in
        let first : IsMatched start atom 0 = inl listed_first in
        let again : IsMatched second atom 0 = inl listed_again in
        ⊎_elim
        (λ e. subst (λ z. IsMatched z atom a) e (subst (IsMatched start atom) zeroth first))
        (λ k. ⊎_elim (λ e. subst (λ z. IsMatched z atom a) e (subst (IsMatched second atom) zeroth again)) absurd k)
        h

two_pairs_accepted : AreAccepted plain poses both
two_pairs_accepted = record { rest = second ∷ []; first = refl; bisimulation = two_pairs_plain }

-- sets that differ only in order and repetition are not different
pairs_not_different : AllDiffer (pair (once ∷ []) (twice ∷ once ∷ once ∷ []) ∷ second ∷ []) → ⊥
pairs_not_different d = d.0 (record { pair = second; listed = inl refl; lefts = same_left; rights = same_right })
