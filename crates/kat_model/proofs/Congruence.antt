-- Congruent sets, which the pairs saturate to the same set.
use Rattle.std.proofs.Common.{inl, inr, ⊎_elim, List, Option, Some, None}
use Rattle.kat_model.specs.Trees.{Term}
use Rattle.kat_model.specs.Members.{Has, IsSubset, SameMembers}
use Rattle.kat_model.specs.Pairs.{SetPair, sat, BothUniversal, IsListed, IsCongruent, Style, plain, up_to, AreMatched}
use Rattle.kat_model.proofs.Saturation.{IsClosed, sat_keeps, sat_each}
use Rattle.kat_model.proofs.SaturationEnds.{sat_closed}

-- a closed set that includes a set includes its saturation by the pairs
pub sat_least : (ps : List SetPair) (es fs : List Term) → IsClosed ps fs → IsSubset es fs → IsSubset (sat ps es) fs
sat_least ps es fs c s = sat_each (Has fs) ps es c s

-- so the saturation grows with the set, and depends only on its members
pub sat_grows : (ps : List SetPair) (es fs : List Term) → IsSubset es (sat ps fs) → IsSubset (sat ps es) (sat ps fs)
sat_grows ps es fs s = sat_least ps es (sat ps fs) (sat_closed ps fs) s

pub sat_same : (ps : List SetPair) (es fs : List Term) → SameMembers es fs → SameMembers (sat ps es) (sat ps fs)
sat_same ps es fs s x = (
  sat_grows ps es fs (λ y h. sat_keeps ps fs y ((s y).0 h)) x,
  sat_grows ps fs es (λ y h. sat_keeps ps es y ((s y).1 h)) x,
)

-- the sets of a listed pair are congruent
pub listed_same : (ps : List SetPair) (es fs : List Term) → IsListed ps es fs → SameMembers (sat ps es) (sat ps fs)
listed_same ps es fs l x = (
  sat_grows ps es fs (λ y h. (sat_closed ps fs l.pair l.listed).1 (λ z k. sat_keeps ps fs z ((l.rights z).1 k)) y ((l.lefts y).0 h)) x,
  sat_grows ps fs es (λ y h. (sat_closed ps es l.pair l.listed).0 (λ z k. sat_keeps ps es z ((l.lefts z).1 k)) y ((l.rights y).0 h)) x,
)

both_universal_more : (universal : Option Term) (es fs gs hs : List Term) → IsSubset es gs → IsSubset fs hs → BothUniversal universal es fs → BothUniversal universal gs hs
both_universal_more None es fs gs hs s t u = u
both_universal_more (Some u) es fs gs hs s t b = (s u b.0, t u b.1)

-- sets that are matched in either style are congruent
pub matched_congruent : (style : Style) (universal : Option Term) (ps : List SetPair) (es fs : List Term) → AreMatched style universal ps es fs → IsCongruent universal ps es fs
matched_congruent plain universal ps es fs m =
    ⊎_elim
    (λ l. inl (listed_same ps es fs l))
    (λ u. inr (both_universal_more universal es fs _ _ (sat_keeps ps es) (sat_keeps ps fs) u))
    m
matched_congruent up_to universal ps es fs m = m

-- more pairs give a larger saturation
module _ (ps qs : List SetPair) (more : IsSubset ps qs) where
  sat_more : (es : List Term) → IsSubset (sat ps es) (sat qs es)
  sat_more es = sat_least ps es (sat qs es) (λ p h. sat_closed qs es p (more p h)) (sat_keeps qs es)

  same_more : (es fs : List Term) → IsSubset (sat ps fs) (sat ps es) → IsSubset (sat qs fs) (sat qs es)
  same_more es fs s = sat_grows qs fs es (λ x h. sat_more es x (s x (sat_keeps ps fs x h)))

  -- so sets that are congruent under some of the pairs are congruent under all pairs
  pub congruent_more : (universal : Option Term) (es fs : List Term) → IsCongruent universal ps es fs → IsCongruent universal qs es fs
  congruent_more universal es fs c =
      ⊎_elim
      (λ s. inl (λ x. (same_more fs es (λ y. (s y).0) x, same_more es fs (λ y. (s y).1) x)))
      (λ u. inr (both_universal_more universal (sat ps es) (sat ps fs) _ _ (sat_more es) (sat_more fs) u))
      c
