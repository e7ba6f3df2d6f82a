-- Results about sets of targets that pairs make congruent.
use Rattle.std.proofs.Common.{◌≡◌, ◌↔◌, ℕ, inl, ⊎_elim, List, [], ◌∷◌, refl, sym, ◌∙◌, subst, Bool, true, false, nat_eq, ◌&&◌, Option, Some, None}
use Rattle.std.specs.Cmp.Lexicographic.{pointwise}
use Rattle.std.proofs.lemmas.Bool.{and_parts, false≢true}
use Rattle.kat_model.specs.Members.{IsSubset}
use Rattle.kat_model.proofs.Lists.{has_any}
use Rattle.term_nodes.specs.NumberSets.{NumberPair}
use Rattle.cert_checker.specs.declared.sides.TargetSides.{TargetSides}
use Rattle.cert_checker.specs.Working.Reaching.{HoldsAll, IsReached, AreReached, IsReachedByBoth}
use Rattle.cert_checker.specs.Working.Matching.{lists, AreCovered}
use Rattle.cert_checker.proofs.ListedPairs.{same_pointwise}

-- replaces the lists in a result by equal lists
pub reached_as : (ps : List NumberPair) (b : Bool) (ks ks' ls ls' : List ℕ) → ks ≡ ks' → ls ≡ ls' → (b ≡ true) ↔ AreReached ps ks ls → (b ≡ true) ↔ AreReached ps ks' ls'
reached_as ps b ks ks' ls ls' e f h = subst (λ k. (b ≡ true) ↔ AreReached ps k ls') e (subst (λ l. (b ≡ true) ↔ AreReached ps ks l) f h)

module _ (ps : List NumberPair) where
  one_reached : (ks : List ℕ) (u : ℕ) → AreReached ps ks (u ∷ []) → IsReached ps ks u
  one_reached ks u h = h u (inl refl)

  reached_one : (ks : List ℕ) (u : ℕ) → IsReached ps ks u → AreReached ps ks (u ∷ [])
  reached_one ks u h k m = ⊎_elim (λ e. subst (IsReached ps ks) e h) absurd m

  module _ (universal : Option ℕ) (s : TargetSides) where
    -- a listed pair with exactly these sets covers the sides
    pub covered_listed : lists ps s.left.sure.items s.right.sure.items ≡ true → IsSubset s.left.alone.items s.left.sure.items → IsSubset s.right.alone.items s.right.sure.items → AreCovered ps universal s
    covered_listed e left right =
        let f = has_any (λ (p : NumberPair). pointwise nat_eq p.left s.left.sure.items && pointwise nat_eq p.right s.right.sure.items) ps e in
        let parts = and_parts (pointwise nat_eq f.0.left s.left.sure.items) (pointwise nat_eq f.0.right s.right.sure.items) f.2 in
        let lefts = same_pointwise f.0.left s.left.sure.items parts.0 in
        let rights = same_pointwise f.0.right s.right.sure.items parts.1 in
        inl (
          (λ k h set closed holds_all. subst (HoldsAll set) lefts ((closed f.0 f.1).1 (subst (HoldsAll set) (sym rights) holds_all)) k (left k h)),
          (λ k h set closed holds_all. subst (HoldsAll set) rights ((closed f.0 f.1).0 (subst (HoldsAll set) (sym lefts) holds_all)) k (right k h)),
        )

  -- the universal term, if there is one, is reached from both sets
  module _ (universal : Option ℕ) (ks ls : List ℕ) where
    pub both_none : ((u : ℕ) → universal ≡ Some u → ⊥) → (false ≡ true) ↔ IsReachedByBoth ps universal ks ls
    both_none none = ((λ e. absurd (false≢true e)), (λ h. absurd (go universal refl h)))
      where
        go : (o : Option ℕ) → universal ≡ o → IsReachedByBoth ps o ks ls → ⊥
        go None is h = h
        go (Some u) is h = none u is

    pub both_first : (u : ℕ) (a : Bool) → universal ≡ Some u → (a ≡ true) ↔ AreReached ps ks (u ∷ []) → a ≡ false → (false ≡ true) ↔ IsReachedByBoth ps universal ks ls
    both_first u a is given off = (
      (λ e. absurd (false≢true e)),
      (λ h. absurd (false≢true (sym off ∙ given.1 (reached_one ks u (subst (λ (o : Option ℕ). IsReachedByBoth ps o ks ls) is h).0)))),
    )

    pub both_second : (u : ℕ) (a b : Bool) → universal ≡ Some u → (a ≡ true) ↔ AreReached ps ks (u ∷ []) → a ≡ true → (b ≡ true) ↔ AreReached ps ls (u ∷ []) → (b ≡ true) ↔ IsReachedByBoth ps universal ks ls
    both_second u a b is given on given_too = (
      (λ e. subst (λ (o : Option ℕ). IsReachedByBoth ps o ks ls) (sym is) (one_reached ks u (given.0 on), one_reached ls u (given_too.0 e))),
      (λ h. given_too.1 (reached_one ls u (subst (λ (o : Option ℕ). IsReachedByBoth ps o ks ls) is h).1)),
    )
