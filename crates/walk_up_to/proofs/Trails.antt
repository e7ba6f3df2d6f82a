-- Each entry has a trail back to the first, and trails do not become shorter along the list: the walk is breadth first.
use Rattle.std.proofs.Common.{◌≡◌, ◌≤◌, ◌<◌, ℕ, zero, suc, List, [], ◌∷◌, length, slice_get, Option, Some, None, refl, sym, ap, ◌∙◌, subst, arith}
use Rattle.std.proofs.lemmas.Option.{slice_get_within, same_Some}
use Rattle.kat_model.specs.Members.{Has}
use Rattle.kat_model.specs.Problems.{ProblemParts}
use Rattle.walk_up_to.specs.Walks.{StepOrigin, Entry, IsNextOf, IsFoundBy, IsWalk, IsTrail}
use Rattle.kat_model.proofs.Places.{element_at, place_of_member}
use Rattle.walk_up_to.proofs.WalkSteps.{first_entry}

module _ (q : ProblemParts) (es : List Entry) (done : ℕ) (walk : IsWalk q es done) where
  -- the first entry has no origin, and every other entry has one
  first_has_none : (e : Entry) (o : StepOrigin) → slice_get es 0 ≡ Some e → e.origin ≡ Some o → ⊥
  first_has_none e o h is =
      let same : first_entry q ≡ e = same_Some (first_entry q) e (sym walk.first ∙ h) in
      let none : None ≡ Some o = ap (λ (x : Entry). x.origin) same ∙ is in
      cc

  pub origin_at : (k : ℕ) (e : Entry) (o : StepOrigin) → slice_get es k ≡ Some e → e.origin ≡ Some o → (from : Entry) × (slice_get es o.place ≡ Some from) × (o.place < k) × IsNextOf q.tests q.actions from.pair o.atom o.act e.pair
  origin_at zero e o at is = absurd (first_has_none e o at is)
  origin_at (suc k) e o at is =
      let c = walk.origins k e at in
      let same : c.origin ≡ o = same_Some c.origin o (sym c.is ∙ is) in
      let earlier : o.place ≤ k = subst (λ (x : StepOrigin). x.place ≤ k) same c.earlier in (
        c.from,
        subst (λ (x : StepOrigin). slice_get es x.place ≡ Some c.from) same c.at,
        omega arith,
        subst (λ (x : StepOrigin). IsNextOf q.tests q.actions c.from.pair x.atom x.act e.pair) same c.next,
      )

  pub no_origin_first : (k : ℕ) (e : Entry) → slice_get es k ≡ Some e → e.origin ≡ None → k ≡ 0
  no_origin_first zero e at is = refl
  no_origin_first (suc k) e at is = let c = walk.origins k e at in let none : None ≡ Some c.origin = sym is ∙ c.is in absurd cc

  pub no_longer_trail : (os ps : List StepOrigin) (i j : ℕ) → i ≤ j → IsTrail es i os → IsTrail es j ps → length os ≤ length ps
  no_longer_trail [] ps i j l t u = omega arith
  no_longer_trail (o ∷ os) [] i j l t u =
      let zero_place : i ≡ 0 = omega (arith, u) in
      absurd (first_has_none t.0.0 o (subst (λ n. slice_get es n ≡ Some t.0.0) zero_place t.0.1) t.0.2)
  no_longer_trail (o ∷ os) (p ∷ ps) i j l t u =
      let found : IsFoundBy p.place (Some o) = subst (IsFoundBy p.place) t.0.2 (walk.in_order i j t.0.0 u.0.0 p l t.0.1 u.0.1 u.0.2) in
      let shorter = no_longer_trail os ps o.place p.place found t.1 u.1 in
      omega arith

  -- each place below n has a trail
  trail_below : (n k : ℕ) → k < n → k < length es → (os : List StepOrigin) × IsTrail es k os
  trail_below zero k l within = absurd (omega arith)
  trail_below (suc n) zero l within = ([], refl)
  trail_below (suc n) (suc k) l within =
      let at = element_at es (suc k) within in
      let c = walk.origins k at.0 at.1 in
      let rest = trail_below n c.origin.place (let e = c.earlier in omega arith) (slice_get_within es c.origin.place c.from c.at) in
      (c.origin ∷ rest.0, ((at.0, at.1, c.is), rest.1))

  pub trail_of : (k : ℕ) → k < length es → (os : List StepOrigin) × IsTrail es k os
  trail_of k within = trail_below (suc k) k (omega arith) within

  -- an entry found by place k has a trail that is at most one step longer
  pub found_trail : (k : ℕ) (os : List StepOrigin) (e : Entry) → IsTrail es k os → Has es e → IsFoundBy k e.origin → (j : ℕ) × (slice_get es j ≡ Some e) × ((ps : List StepOrigin) × IsTrail es j ps × (length ps ≤ suc (length os)))
  found_trail k os e t h found = let place = place_of_member es e h in go e.origin place.0 refl found place.1
    where
      go : (r : Option StepOrigin) (j : ℕ) → e.origin ≡ r → IsFoundBy k r → slice_get es j ≡ Some e → (j : ℕ) × (slice_get es j ≡ Some e) × ((ps : List StepOrigin) × IsTrail es j ps × (length ps ≤ suc (length os)))
      go None j is by at = (j, at, ([], no_origin_first j e at is, omega arith))
      go (Some o) j is by at =
          let c = origin_at j e o at is in
          let rest = trail_of o.place (slice_get_within es o.place c.0 c.1) in
          let shorter = no_longer_trail rest.0 os o.place k by rest.1 t in
          (j, at, (o ∷ rest.0, ((e, at, is), rest.1), omega arith))
