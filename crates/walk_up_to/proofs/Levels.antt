-- The entries of smaller depth agree on all sufficiently short strings.
use Rattle.std.proofs.Common.{◌≡◌, ◌+◌, ◌<◌, inl, inr, ⊎_elim, ℕ, List, [], ◌∷◌, length, slice_get, Some, refl, sym, ◌∙◌, subst, arith}
use Rattle.kat_model.specs.Problems.{ProblemParts}
use Rattle.kat_model.specs.Steps.{Atom, set_next}
use Rattle.kat_model.specs.Strings.{Move, AreMoves, set_accepts}
use Rattle.kat_model.specs.Closed.{closed}
use Rattle.kat_model.specs.Pairs.{SetPair}
use Rattle.kat_model.proofs.Acceptance.{set_accepts-cons}
use Rattle.kat_model.proofs.Soundness.{AllAgree, closed_universal, congruent_accepts}
use Rattle.walk_up_to.specs.Walks.{StepOrigin, Entry, IsWalk, IsTrail}
use Rattle.walk_up_to.proofs.Trails.{no_longer_trail, found_trail}
use Rattle.std.proofs.lemmas.Bool.{cases_lt}

module _ (q : ProblemParts) (es : List Entry) (done : ℕ) (walk : IsWalk q es done) (last : List StepOrigin) (depth : IsTrail es done last) where
  -- an entry of smaller depth than the entry being processed has been processed
  is_processed : (k : ℕ) (os : List StepOrigin) → IsTrail es k os → length os < length last → k < done
  is_processed k os t l = ⊎_elim (λ h. h) (λ h. absurd (let longer = no_longer_trail q es done walk last os done k h depth t in omega arith)) (cases_lt k done)

  pub short_agree : (ms : List Move) (atom : Atom) (k : ℕ) (e : Entry) (os : List StepOrigin) → slice_get es k ≡ Some e → IsTrail es k os → length os + length ms < length last → length atom ≡ q.tests → AreMoves q.tests q.actions ms → set_accepts e.pair.left atom ms ≡ set_accepts e.pair.right atom ms
  short_agree [] atom k e os at t l wide are = (walk.processed k e (is_processed k os t (omega arith)) at).settled.outputs atom wide
  short_agree (m ∷ ms) atom k e os at t l wide are =
      let own = are m (inl refl) in
      let rest : AreMoves q.tests q.actions ms = λ n h. are n (inr h) in
      let c = walk.processed k e (is_processed k os t (omega arith)) at in
      let agree : AllAgree c.pairs m.atom ms = λ r h.
      let f = c.found r h in
      let j = found_trail q es done walk k os f.0 t f.1 f.3 in
      subst (λ (p : SetPair). set_accepts p.left m.atom ms ≡ set_accepts p.right m.atom ms) f.2
      (short_agree ms m.atom j.0 f.0 j.2.0 j.1 j.2.1 (let n = j.2.2 in omega arith) own.1 rest) in
      set_accepts-cons e.pair.left atom m ms
      ∙ congruent_accepts q.tests q.actions (closed q).universal c.pairs (set_next e.pair.left atom m.act) (set_next e.pair.right atom m.act) m.atom ms (closed_universal q.actions q.hyps q.left q.right) rest agree (c.settled.steps m.act own.0 atom wide)
      ∙ sym (set_accepts-cons e.pair.right atom m ms)
