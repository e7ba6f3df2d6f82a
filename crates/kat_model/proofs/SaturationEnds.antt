-- As many rounds as there are pairs are sufficient: in each round that adds something, the set gains both sides of an
-- additional pair.
use Rattle.std.proofs.Common.{◌≡◌, ℕ, ◌+◌, ◌<◌, ◌≤◌, zero, suc, ◌⊎◌, inl, inr, ⊎_elim, List, [], ◌∷◌, length, refl, sym, subst, Bool, true, false, not, ◌&&◌, cond, arith}
use Rattle.std.proofs.lemmas.Bool.{both_ways, and_parts, not-false}
use Rattle.kat_model.specs.Trees.{Term}
use Rattle.kat_model.specs.Members.{Has, IsSubset}
use Rattle.kat_model.specs.Pairs.{SetPair, holds_all, round, rounds, sat}
use Rattle.kat_model.proofs.SameTrees.{holds_all-true, subset-holds_all}
use Rattle.kat_model.proofs.Saturation.{IsClosed, HoldsSide, HoldsBoth, holds_both_more, round_keeps, round_has, rounds_keep, rounds_each}

-- the set does not contain both sides of the pair
abbrev lacks : List Term → SetPair → Bool
lacks es p = not (holds_all es p.left && holds_all es p.right)

-- the number of pairs of which the set does not contain both sides
abbrev lacking : List Term → List SetPair → ℕ
lacking es [] = 0
lacking es (p ∷ ps) = cond (lacks es p) 1 0 + lacking es ps

holds_both : (es : List Term) (p : SetPair) → lacks es p ≡ false → HoldsBoth es p
holds_both es p h =
    let s = and_parts (holds_all es p.left) (holds_all es p.right) (not-false _ h) in
    (holds_all-true es p.left s.0, holds_all-true es p.right s.1)

holds_both-lacks : (es : List Term) (p : SetPair) → HoldsBoth es p → lacks es p ≡ false
holds_both-lacks es p h = rw (subset-holds_all es p.left h.0, subset-holds_all es p.right h.1) refl

-- the set contains all of one side of the pair exactly when it contains all of the other side
abbrev IsClosedAt : List Term → SetPair → Type 0
IsClosedAt es p = (IsSubset p.left es → IsSubset p.right es) × (IsSubset p.right es → IsSubset p.left es)

-- the set is closed under the pair, or contains only one side of it
closed_at_cases : (es : List Term) (p : SetPair) → IsClosedAt es p ⊎ (HoldsSide es p × (lacks es p ≡ true))
closed_at_cases es p = go (holds_all es p.left) (holds_all es p.right) refl refl
  where
    never : (fs : List Term) → holds_all es fs ≡ false → IsSubset fs es → ⊥
    never fs e s = both_ways (holds_all es fs) e (subset-holds_all es fs s)

    go : (b c : Bool) → holds_all es p.left ≡ b → holds_all es p.right ≡ c → IsClosedAt es p ⊎ (HoldsSide es p × (lacks es p ≡ true))
    go true true l r = inl ((λ s. holds_all-true es p.right r), (λ s. holds_all-true es p.left l))
    go true false l r = inr (inl (holds_all-true es p.left l), rw (l, r) refl)
    go false true l r = inr (inr (holds_all-true es p.right r), rw l refl)
    go false false l r = inl ((λ s. absurd (never p.left l s)), (λ s. absurd (never p.right r s)))

-- the same for all pairs: a set is closed, or contains only one side of some pair
closed_cases : (ps : List SetPair) (es : List Term) → IsClosed ps es ⊎ ((p : SetPair) × Has ps p × HoldsSide es p × (lacks es p ≡ true))
closed_cases [] es = inl (λ p h. absurd h)
closed_cases (p ∷ ps) es =
    ⊎_elim
    (λ here.
    ⊎_elim
    (λ rest. inl (λ q h. ⊎_elim (λ e. subst (IsClosedAt es) e here) (rest q) h))
    (λ found. inr (found.0, inr found.1, found.2, found.3))
    (closed_cases ps es))
    (λ found. inr (p, inl refl, found.0, found.1))
    (closed_at_cases es p)

lacking-le-length : (es : List Term) (ps : List SetPair) → lacking es ps ≤ length ps
lacking-le-length es [] = omega arith
lacking-le-length es (p ∷ ps) = go (lacks es p) (lacking-le-length es ps)
  where
    go : (b : Bool) → lacking es ps ≤ length ps → cond b 1 0 + lacking es ps ≤ suc (length ps)
    go true h = omega arith
    go false h = omega arith

-- a larger set lacks fewer pairs
module _ (es fs : List Term) (larger : IsSubset es fs) where
  one_fewer : (p : SetPair) → cond (lacks fs p) 1 0 ≤ cond (lacks es p) 1 0
  one_fewer p = go (lacks es p) (lacks fs p) refl refl
    where
      go : (b c : Bool) → lacks es p ≡ b → lacks fs p ≡ c → cond c 1 0 ≤ cond b 1 0
      go true true l r = omega arith
      go true false l r = omega arith
      go false true l r = absurd (both_ways (lacks fs p) (holds_both-lacks fs p (holds_both_more es fs p larger (holds_both es p l))) r)
      go false false l r = omega arith

  lacking_fewer : (ps : List SetPair) → lacking fs ps ≤ lacking es ps
  lacking_fewer [] = omega arith
  lacking_fewer (p ∷ ps) = omega (arith, one_fewer p, lacking_fewer ps)

  one_less : (p : SetPair) → lacks es p ≡ true → HoldsBoth fs p → cond (lacks fs p) 1 0 < cond (lacks es p) 1 0
  one_less p l b = rw (l, holds_both-lacks fs p b) (omega arith)

  -- it lacks strictly fewer pairs if it contains both sides of an additional pair
  lacking_less : (ps : List SetPair) (p : SetPair) → Has ps p → lacks es p ≡ true → HoldsBoth fs p → lacking fs ps < lacking es ps
  lacking_less [] p h l b = absurd h
  lacking_less (q ∷ ps) p h l b =
      ⊎_elim
      (λ e. omega (arith, lacking_fewer ps, subst (λ z. cond (lacks fs z) 1 0 < cond (lacks es z) 1 0) (sym e) (one_less p l b)))
      (λ k. omega (arith, one_fewer q, lacking_less ps p k l b))
      h

-- a set is closed, or a round reduces the number of pairs that it lacks
round_cases : (ps : List SetPair) (es : List Term) → IsClosed ps es ⊎ (lacking (round ps es) ps < lacking es ps)
round_cases ps es =
    ⊎_elim
    inl
    (λ found. inr (lacking_less es (round ps es) (round_keeps ps es) ps found.0 found.1 found.3 (round_has ps es found.0 found.1 found.2)))
    (closed_cases ps es)

-- rounds do not change a closed set
rounds_closed : (n : ℕ) (ps : List SetPair) (es : List Term) → IsClosed ps es → IsClosed ps (rounds n ps es)
rounds_closed n ps es c p h = (
  (λ s x k. rounds_keep n ps es x ((c p h).0 (λ y l. back y (s y l)) x k)),
  (λ s x k. rounds_keep n ps es x ((c p h).1 (λ y l. back y (s y l)) x k)),
)
  where
    back : IsSubset (rounds n ps es) es
    back = rounds_each (Has es) n ps es c (λ x k. k)

-- n rounds close a set that lacks at most n pairs
rounds_end : (n : ℕ) (ps : List SetPair) (es : List Term) → lacking es ps ≤ n → IsClosed ps (rounds n ps es)
rounds_end zero ps es h = ⊎_elim (λ c. c) (λ l. absurd (omega arith)) (round_cases ps es)
rounds_end (suc n) ps es h =
    ⊎_elim (rounds_closed (suc n) ps es) (λ l. rounds_end n ps (round ps es) (omega arith)) (round_cases ps es)

-- the saturation of a set contains all of one side of a pair exactly when it contains all of the other side
pub sat_closed : (ps : List SetPair) (es : List Term) → IsClosed ps (sat ps es)
sat_closed ps es = rounds_end (length ps) ps es (lacking-le-length es ps)
