-- Entries of smaller level agree on all sufficiently short allowed strings from their atoms.
use Rattle.std.proofs.Common.{◌≡◌, ◌+◌, ◌<◌, inl, inr, ⊎_elim, ℕ, List, [], ◌∷◌, length, slice_get, Some, refl, sym, ◌∙◌, subst, arith}
use Rattle.std.specs.Bool.{IsTrue}
use Rattle.kat_model.specs.Trees.{Term}
use Rattle.kat_model.specs.Problems.{ProblemParts}
use Rattle.kat_model.specs.Steps.{Atom, set_next}
use Rattle.kat_model.specs.Strings.{Move, AreMoves, set_accepts}
use Rattle.kat_model.specs.Closed.{closed}
use Rattle.kat_model.specs.Pairs.{SetPair}
use Rattle.kat_model.specs.AllowedMoves.{AreAllowed}
use Rattle.kat_model.proofs.Acceptance.{set_accepts-cons}
use Rattle.kat_model.proofs.Places.{place_of_member}
use Rattle.kat_model.proofs.Soundness.{AllAgree, closed_universal, congruent_accepts}
use Rattle.walk_under.specs.TestedWalks.{TestedEntry, IsTaken, IsTestedWalk}
use Rattle.std.proofs.lemmas.Bool.{cases_lt}

module _ (shorts : List Term) (q : ProblemParts) (es : List TestedEntry) (bound : ℕ) (taken : (k : ℕ) (e : TestedEntry) → slice_get es k ≡ Some e → e.level < bound → IsTaken shorts q es e) where
  -- if all entries below a level are processed, they agree on the allowed strings that end below it
  pub strings_agree : (ms : List Move) (atom : Atom) (k : ℕ) (e : TestedEntry) → slice_get es k ≡ Some e → IsTrue (e.test atom) → e.level + length ms < bound → length atom ≡ q.tests → AreMoves q.tests q.actions ms → AreAllowed shorts atom ms
      → set_accepts e.pair.left atom ms ≡ set_accepts e.pair.right atom ms
  strings_agree [] atom k e at there l wide are allowed = (taken k e at (omega arith)).outputs atom wide there
  strings_agree (m ∷ ms) atom k e at there l wide are allowed =
      let own = are m (inl refl) in
      let rest : AreMoves q.tests q.actions ms = λ n h. are n (inr h) in
      let j = (taken k e at (omega arith)).steps m.act own.0 atom wide there m.atom own.1 allowed.0 in
      let agree : AllAgree j.pairs m.atom ms = λ p h.
      let f = j.reached p h in
      let place = place_of_member es f.0 f.1 in
      subst (λ (s : SetPair). set_accepts s.left m.atom ms ≡ set_accepts s.right m.atom ms) f.2
      (strings_agree ms m.atom place.0 f.0 place.1 f.3 (let n = f.4 in omega arith) own.1 rest allowed.1) in
      set_accepts-cons e.pair.left atom m ms
      ∙ congruent_accepts q.tests q.actions (closed q).universal j.pairs (set_next e.pair.left atom m.act) (set_next e.pair.right atom m.act) m.atom ms (closed_universal q.actions q.hyps q.left q.right) rest agree j.congruent
      ∙ sym (set_accepts-cons e.pair.right atom m ms)

module _ (shorts : List Term) (q : ProblemParts) (es : List TestedEntry) (done : ℕ) (walk : IsTestedWalk shorts q es done) (last : TestedEntry) (here : slice_get es done ≡ Some last) where
  -- an entry of smaller level than the entry being processed has been processed
  is_taken : (k : ℕ) (e : TestedEntry) → slice_get es k ≡ Some e → e.level < last.level → k < done
  is_taken k e at l = ⊎_elim (λ h. h) (λ h. absurd (let later = walk.in_order done k last e h here at in omega arith)) (cases_lt k done)

  pub short_agree : (ms : List Move) (atom : Atom) (k : ℕ) (e : TestedEntry) → slice_get es k ≡ Some e → IsTrue (e.test atom) → e.level + length ms < last.level → length atom ≡ q.tests → AreMoves q.tests q.actions ms → AreAllowed shorts atom ms
      → set_accepts e.pair.left atom ms ≡ set_accepts e.pair.right atom ms
  short_agree = strings_agree shorts q es last.level (λ k e at l. walk.taken k e (is_taken k e at l) at)
