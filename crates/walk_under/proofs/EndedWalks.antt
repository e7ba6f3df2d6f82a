-- If a walk has processed all its entries, the merged pairs are a bisimulation under tests.
use Rattle.std.proofs.Common.{◌≡◌, ℕ, List, length, refl, ◌∙◌, subst}
use Rattle.std.proofs.lemmas.Option.{slice_get_within}
use Rattle.kat_model.specs.Trees.{Term}
use Rattle.kat_model.specs.Members.{Has, IsSubset}
use Rattle.kat_model.specs.Problems.{ProblemParts}
use Rattle.kat_model.specs.Steps.{Atom, set_out, set_next}
use Rattle.kat_model.specs.Closed.{closed}
use Rattle.kat_model.specs.Pairs.{SetPair, IsCongruent}
use Rattle.kat_model.specs.TestedPairs.{TestedPair, pairs_at, AreAcceptedUnder}
use Rattle.kat_model.proofs.Congruence.{congruent_more}
use Rattle.kat_model.proofs.PairsUnderTests.{pairs_at_has}
use Rattle.kat_model.proofs.Places.{has_at, place_of_member}
use Rattle.walk_under.specs.TestedWalks.{TestedEntry, AreJoined, IsTaken, IsTestedWalk}
use Rattle.walk_under.specs.MergedPairs.{AreMergedPairs}
use Rattle.walk_under.proofs.WalkSteps.{first_entry}

module _ (shorts : List Term) (q : ProblemParts) (es : List TestedEntry) (walk : IsTestedWalk shorts q es (length es)) (pairs : List TestedPair) (m : AreMergedPairs q es pairs) where
  taken : (e : TestedEntry) → Has es e → IsTaken shorts q es e
  taken e h = let k = place_of_member es e h in walk.taken k.0 e (slice_get_within es k.0 e k.1) k.1

  -- the pairs that join two sets are among the merged pairs at the atom
  among : (level : ℕ) (atom : Atom) (lefts rights : List Term) → length atom ≡ q.tests → (j : AreJoined q es level atom lefts rights) → IsSubset j.pairs (pairs_at pairs atom)
  among level atom lefts rights wide j s h =
      let r = j.reached s h in
      let p = m.there r.0 r.1 atom wide r.3 in
      subst (Has (pairs_at pairs atom)) (p.2 ∙ r.2) (pairs_at_has pairs atom p.0 p.1 p.3)

  pub ended_accepted : AreAcceptedUnder shorts q pairs
  ended_accepted = record {
    test = m.test;
    rest = m.rest;
    first = m.first;
    holds = λ atom wide allowed. m.whole (first_entry q walk.start) (has_at es 0 (first_entry q walk.start) walk.first) refl atom wide (walk.everywhere atom wide allowed);
    bisimulation = record {
      outputs = λ p h atom wide allowed there.
          let e = m.back p h atom wide there in
          subst (λ (s : SetPair). set_out s.left atom ≡ set_out s.right atom) e.2 ((taken e.0 e.1).outputs atom wide e.3);
      steps = λ p h atom wide there a below wide' allowed.
          let e = m.back p h atom wide there in
          let j = (taken e.0 e.1).steps a.act below atom wide e.3 a.atom wide' allowed in
          subst (λ (s : SetPair). IsCongruent (closed q).universal (pairs_at pairs a.atom) (set_next s.left atom a.act) (set_next s.right atom a.act)) e.2
          (congruent_more j.pairs (pairs_at pairs a.atom) (among _ a.atom _ _ wide' j) (closed q).universal (set_next e.0.pair.left atom a.act) (set_next e.0.pair.right atom a.act) j.congruent);
    };
  }
