-- The sets of the merged pairs of a walk are reached by steps from the closed sides, so the pairs are few.
use Rattle.std.proofs.Common.{◌≡◌, ◌<◌, inl, inr, ⊎_elim, ℕ, zero, suc, List, ◌∷◌, length, slice_get, Some, refl, sym, ap, ◌∙◌, subst, arith}
use Rattle.std.specs.Bool.{IsTrue}
use Rattle.std.proofs.lemmas.Option.{same_Some}
use Rattle.kat_model.specs.Trees.{Term}
use Rattle.kat_model.specs.Members.{Has}
use Rattle.kat_model.specs.Problems.{ProblemParts}
use Rattle.kat_model.specs.Steps.{Atom, truth, reach}
use Rattle.kat_model.specs.Closed.{closed}
use Rattle.kat_model.specs.Guarded.{IsGuarded, IsSingle}
use Rattle.kat_model.specs.Pairs.{SetPair, AllDiffer}
use Rattle.kat_model.specs.TestedPairs.{TestedPair, sets_of}
use Rattle.kat_model.proofs.Lists.{has_map}
use Rattle.kat_model.proofs.Places.{has_at, place_of_member}
use Rattle.kat_model.proofs.ReachedPairs.{single_kept, tested_pairs_bound, tested_single_bound}
use Rattle.walk_under.specs.TestedWalks.{TestedEntry, IsTestedWalk}
use Rattle.walk_under.specs.MergedPairs.{AreMergedPairs}
use Rattle.walk_under.specs.Laws.{AreFewPairs}
use Rattle.walk_under.proofs.WalkSteps.{first_entry}
use Rattle.walk_under.proofs.Few.{entry_reached}

module _ (shorts : List Term) (q : ProblemParts) (es : List TestedEntry) (done : ℕ) (walk : IsTestedWalk shorts q es done) where
  module _ (left : IsGuarded (closed q).left) (right : IsGuarded (closed q).right) where
    -- by induction on the place in the list
    single_below : (n k : ℕ) (e : TestedEntry) → k < n → slice_get es k ≡ Some e → IsSingle (closed q).left e.pair.left × IsSingle (closed q).right e.pair.right
    single_below zero k e l at = absurd (omega arith)
    single_below (suc n) zero e l at =
        subst (λ (x : TestedEntry). IsSingle (closed q).left x.pair.left × IsSingle (closed q).right x.pair.right) (same_Some (first_entry q walk.start) e (sym walk.first ∙ at))
        (inr ((closed q).left, inl refl, (λ x. ((λ h. h), (λ h. h)))), inr ((closed q).right, inl refl, (λ x. ((λ h. h), (λ h. h)))))
    single_below (suc n) (suc k) e l at =
        let c = walk.origins k e at in
        let before = single_below n c.origin.place c.from (let m = c.earlier in omega arith) c.at in
        let atom = c.somewhere in
        let source = c.sources atom.0 atom.1 atom.2 in (
          single_kept (closed q).left left c.from.pair.left e.pair.left source.before c.origin.act (c.region.lefts source.before source.of_tests source.there) before.0,
          single_kept (closed q).right right c.from.pair.right e.pair.right source.before c.origin.act (c.region.rights source.before source.of_tests source.there) before.1,
        )

  module _ (pairs : List TestedPair) (m : AreMergedPairs q es pairs) (differ : AllDiffer (sets_of pairs)) (somewhere : (p : TestedPair) → Has m.rest p → (atom : Atom) × (length atom ≡ q.tests) × IsTrue (truth p.test atom)) where
    -- each merged pair has the sets of an entry
    of_entry : (s : SetPair) → Has (sets_of pairs) s → (e : TestedEntry) × Has es e × (e.pair ≡ s)
    of_entry s h =
        let p = has_map (λ (x : TestedPair). x.sets) pairs s h in
        ⊎_elim
        (λ first. (first_entry q walk.start, has_at es 0 (first_entry q walk.start) walk.first, ap (λ (x : TestedPair). x.sets) first ∙ p.2))
        (λ rest.
        let atom = somewhere p.0 rest in
        let e = m.back p.0 p.1 atom.0 atom.1 atom.2 in
        (e.0, e.1, e.2 ∙ p.2))
        (subst (λ (l : List TestedPair). Has l p.0) m.first p.1)

    pub merged_few : AreFewPairs q pairs
    merged_few = record {
      all = tested_pairs_bound (closed q).left (closed q).right pairs differ
          (λ s h.
          let e = of_entry s h in
          let r = entry_reached shorts q es done walk e.0 e.1 in
          (subst (λ (x : SetPair). (y : Term) → Has x.left y → Has ((closed q).left ∷ reach (closed q).left) y) e.2 r.left, subst (λ (x : SetPair). (y : Term) → Has x.right y → Has ((closed q).right ∷ reach (closed q).right) y) e.2 r.right));
      guarded = λ left right.
          tested_single_bound (closed q).left (closed q).right pairs differ
          (λ s h.
          let e = of_entry s h in
          let k = place_of_member es e.0 e.1 in
          subst (λ (x : SetPair). IsSingle (closed q).left x.left × IsSingle (closed q).right x.right) e.2 (single_below left right (suc k.0) k.0 e.0 (omega arith) k.1));
    }
