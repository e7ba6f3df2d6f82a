-- Pairs without a redundant one are different, have their members among the terms that steps reach, and so are few.
use Rattle.std.proofs.Common.{◌≡◌, ◌+◌, ◌*◌, ◌≤◌, inl, inr, ⊎_elim, ℕ, List, [], ◌∷◌, ◌++◌, length, refl, sym, ap, subst}
use Rattle.kat_model.specs.Trees.{Term, acts}
use Rattle.kat_model.specs.Members.{Has, IsSubset, SameMembers}
use Rattle.kat_model.specs.Problems.{ProblemParts}
use Rattle.kat_model.specs.Steps.{Atom, set_next, reach}
use Rattle.kat_model.specs.Closed.{closed_under, closed}
use Rattle.kat_model.specs.Guarded.{IsGuarded, IsSingle}
use Rattle.kat_model.specs.Pairs.{SetPair, IsListed, AllDiffer}
use Rattle.kat_model.specs.Laws.{AreReached, AreSingle}
use Rattle.kat_model.proofs.Lists.{has_left, has_right, same_members_sym}
use Rattle.kat_model.proofs.Congruence.{listed_same}
use Rattle.kat_model.proofs.ReachedPairs.{next_within, single_kept}
use Rattle.kat_model.proofs.Bounds.{pairs_bound, single_pairs_bound}
use Rattle.certificate.specs.Decisions.{AreNeeded, HasNoRedundantPair, pair_limit}
use Rattle.walk_up_to.specs.Laws.{AreFew}
use Rattle.walk_up_to.specs.Walks.{closed_pair}
use Rattle.kat_model.proofs.Lists.{has_pushed}

-- ---- a property of pairs that the steps keep

module _ (q : ProblemParts) (P : SetPair → Type 0) (kept : (from to : SetPair) (atom : Atom) (a : ℕ) → SameMembers (set_next from.left atom a) to.left → SameMembers (set_next from.right atom a) to.right → P from → P to) where
  needed_have : (before ps : List SetPair) → AreNeeded q before ps → ((p : SetPair) → Has before p → P p) → (p : SetPair) → Has ps p → P p
  needed_have before [] all each p h = absurd h
  needed_have before (r ∷ ps) all each p h = ⊎_elim (λ e. subst P e own) (λ k. needed_have (before ++ r ∷ []) ps all.1 more p k) h
    where
      own : P r
      own = let n = all.0 in kept n.from r n.leads.atom n.leads.act n.leads.lefts n.leads.rights (each n.from n.earlier)

      more : (s : SetPair) → Has (before ++ r ∷ []) s → P s
      more s k = ⊎_elim (each s) (λ e. subst P e own) (has_pushed before r s k)

  pub all_have : (p : SetPair) (ps : List SetPair) → HasNoRedundantPair q (p ∷ ps) → P p → (r : SetPair) → Has (p ∷ ps) r → P r
  all_have p ps all own r h =
      ⊎_elim (λ e. subst P e own) (λ k. needed_have (p ∷ []) ps all (λ s m. ⊎_elim (λ e. subst P e own) (λ n. absurd n) m) r k) h

-- ---- the pairs are different

module _ (q : ProblemParts) where
  -- no pair has the sets of an earlier one
  not_again : (before ps : List SetPair) (p : SetPair) → AreNeeded q before ps → Has before p → IsListed ps p.left p.right → ⊥
  not_again before [] p all h l = l.listed
  not_again before (r ∷ ps) p all h l =
      ⊎_elim
      (λ e. all.0.fresh (inl (listed_same before r.left r.right (record { pair = p; listed = h; lefts = subst (λ (s : SetPair). SameMembers s.left p.left) (sym e) (same_members_sym p.left l.pair.left l.lefts); rights = subst (λ (s : SetPair). SameMembers s.right p.right) (sym e) (same_members_sym p.right l.pair.right l.rights) }))))
      (λ k. not_again (before ++ r ∷ []) ps p all.1 (has_left before (r ∷ []) p h) (record { pair = l.pair; listed = k; lefts = l.lefts; rights = l.rights }))
      l.listed

  needed_differ : (before ps : List SetPair) → AreNeeded q before ps → AllDiffer ps
  needed_differ before [] all = tt
  needed_differ before (p ∷ ps) all = (not_again (before ++ p ∷ []) ps p all.1 (has_right before (p ∷ []) p (inl refl)), needed_differ (before ++ p ∷ []) ps all.1)

  pub no_redundant_differ : (ps : List SetPair) → HasNoRedundantPair q ps → AllDiffer ps
  no_redundant_differ [] all = tt
  no_redundant_differ (p ∷ ps) all = (not_again (p ∷ []) ps p all (inl refl), needed_differ (p ∷ []) ps all)

-- ---- their members are among the terms that steps reach

module _ (q : ProblemParts) (ps : List SetPair) (all : HasNoRedundantPair q (closed_pair q ∷ ps)) where
  pub no_redundant_reached : AreReached (closed q).left (closed q).right (closed_pair q ∷ ps)
  no_redundant_reached =
      all_have q (λ p. IsSubset p.left ((closed q).left ∷ reach (closed q).left) × IsSubset p.right ((closed q).right ∷ reach (closed q).right))
      (λ from to atom a lefts rights h. (next_within (closed q).left from.left to.left atom a lefts h.0, next_within (closed q).right from.right to.right atom a rights h.1))
      (closed_pair q) ps all
      ((λ x h. ⊎_elim inl (λ n. absurd n) h), (λ x h. ⊎_elim inl (λ n. absurd n) h))

  pub no_redundant_few : length (closed_pair q ∷ ps) ≤ pair_limit q
  no_redundant_few = pairs_bound (closed q).left (closed q).right (closed_pair q ∷ ps) (no_redundant_differ q (closed_pair q ∷ ps) all) no_redundant_reached

-- ---- when both sides are guarded

-- pairs of which the first is that of two guarded sides
module _ (q : ProblemParts) (l r : Term) (left : IsGuarded l) (right : IsGuarded r) (ps : List SetPair) (all : HasNoRedundantPair q (record { left = l ∷ []; right = r ∷ [] } ∷ ps)) where
  sides_single : AreSingle l r (record { left = l ∷ []; right = r ∷ [] } ∷ ps)
  sides_single =
      all_have q (λ p. IsSingle l p.left × IsSingle r p.right)
      (λ from to atom a lefts rights h. (single_kept l left from.left to.left atom a lefts h.0, single_kept r right from.right to.right atom a rights h.1))
      (record { left = l ∷ []; right = r ∷ [] }) ps all
      (inr (l, inl refl, (λ x. ((λ h. h), (λ h. h)))), inr (r, inl refl, (λ x. ((λ h. h), (λ h. h)))))

  sides_few : length (record { left = l ∷ []; right = r ∷ [] } ∷ ps) ≤ (acts l + 2) * (acts r + 2)
  sides_few = single_pairs_bound l r (record { left = l ∷ []; right = r ∷ [] } ∷ ps) (no_redundant_differ q (record { left = l ∷ []; right = r ∷ [] } ∷ ps) all) sides_single

-- without hypotheses, the closed sides are the sides
pub guarded_few : (q : ProblemParts) (ps : List SetPair) → HasNoRedundantPair q (closed_pair q ∷ ps) → q.hyps ≡ [] → IsGuarded q.left → IsGuarded q.right → length (closed_pair q ∷ ps) ≤ (acts q.left + 2) * (acts q.right + 2)
guarded_few q ps all none left right =
    let same : closed_pair q ≡ record { left = q.left ∷ []; right = q.right ∷ [] } = ap (λ hs. pair_under hs) none in
    sides_few q q.left q.right left right ps (subst (λ (p : SetPair). HasNoRedundantPair q (p ∷ ps)) same all)
  where
    pair_under : List Term → SetPair
    pair_under hs = record { left = (closed_under q.actions hs q.left q.right).left ∷ []; right = (closed_under q.actions hs q.left q.right).right ∷ [] }

pub no_redundant_bounds : (q : ProblemParts) (rest : List SetPair) → HasNoRedundantPair q (closed_pair q ∷ rest) → AreFew q (closed_pair q ∷ rest)
no_redundant_bounds q rest all = record {
  differ = no_redundant_differ q (closed_pair q ∷ rest) all;
  reached = no_redundant_reached q rest all;
  few = no_redundant_few q rest all;
  guarded = guarded_few q rest all;
}
