-- The laws of walks. Each is the contract of a function of the crate with an empty body.
use Rattle.std.specs.Prelude.{◌≡◌, ◌≢◌, ◌≤◌, ◌<◌, ◌+◌, ◌*◌, ℕ, suc, List, [], ◌∷◌, ◌++◌, length, slice_get, Option, Some, None}
use Rattle.kat_model.specs.Trees.{Term, acts}
use Rattle.kat_model.specs.Members.{Has, IsSubset, SameMembers}
use Rattle.kat_model.specs.Problems.{ProblemParts, IsInRange, IsProblem}
use Rattle.kat_model.specs.Relations.{Same}
use Rattle.kat_model.specs.Steps.{Atom, set_out}
use Rattle.kat_model.specs.Closed.{closed}
use Rattle.kat_model.specs.Guarded.{IsGuarded}
use Rattle.kat_model.specs.Pairs.{SetPair, IsCongruent, up_to, AreAccepted, AllDiffer}
use Rattle.kat_model.specs.Laws.{AreReached}
use Rattle.term_nodes.specs.declared.TestNode.TheVariants.{Prim}
use Rattle.term_nodes.specs.declared.TermNode.TheVariants.{Act}
use Rattle.certificate.specs.declared.nodes.Style.TheVariants.{UpTo}
use Rattle.certificate.specs.Certs.{CertParts}
use Rattle.certificate.specs.Accepted.{set_pairs}
use Rattle.certificate.specs.Decisions.{HasNoRedundantPair, pair_limit, IsConcise, IsShortest}
use Rattle.walk_pairs.specs.Covered.{IsBetween, IsCovered}
use Rattle.walk_up_to.specs.Walks.{StepOrigin, Entry, pairs_of, closed_pair, IsNextOf, IsSettled, IsWalk, IsTrail, after_trail}

-- sets that are congruent under some pairs are congruent under more
abbrev pub MorePairs : Type 0
MorePairs = (universal : Option Term) (ps qs : List SetPair) (es fs : List Term) → IsCongruent universal ps es fs → IsCongruent universal (ps ++ qs) es fs

-- two sets between sure and open terms are congruent if the sure terms cover the open ones
abbrev pub CoveredAreCongruent : Type 0
CoveredAreCongruent =
    (universal : Option Term) (pairs : List SetPair) (sure_left sure_right open_left open_right es fs : List Term)
    → IsBetween sure_left open_left es fs
    → IsBetween sure_right open_right fs es
    → IsCovered universal pairs sure_left sure_right open_left open_right
    → IsCongruent universal pairs es fs

-- if all terms of two congruent sets are sure, the sure terms cover the open ones
abbrev pub CongruentAreCovered : Type 0
CongruentAreCovered =
    (universal : Option Term) (pairs : List SetPair) (sure_left sure_right open_left open_right es fs : List Term)
    → SameMembers sure_left es
    → SameMembers sure_right fs
    → IsSubset open_left es
    → IsSubset open_right fs
    → IsCongruent universal pairs es fs
    → IsCovered universal pairs sure_left sure_right open_left open_right

-- the start of a walk, and its continuation by a pair that is listed or processed
pub record WalkGoesOn (q : ProblemParts) : Type 0 where
  pub starts : IsWalk q (record { pair = closed_pair q; origin = None } ∷ []) 0
  pub lists : (es : List Entry) (done : ℕ) (from : Entry) (p : SetPair) (o : StepOrigin)
      → IsWalk q es done
      → slice_get es done ≡ Some from
      → o.place ≡ done
      → IsNextOf q.tests q.actions from.pair o.atom o.act p
      → (IsCongruent (closed q).universal (pairs_of es) p.left p.right → ⊥)
      → IsWalk q (es ++ record { pair = p; origin = Some o } ∷ []) done
  pub processes : (es : List Entry) (done : ℕ) (e : Entry) → IsWalk q es done → slice_get es done ≡ Some e → IsSettled q (pairs_of es) e.pair → IsWalk q es (suc done)

-- pairs that begin with the closed pair and have no redundant one are different, and their number is bounded
pub record AreFew (q : ProblemParts) (pairs : List SetPair) : Type 0 where
  pub differ : AllDiffer pairs
  pub reached : AreReached (closed q).left (closed q).right pairs
  pub few : length pairs ≤ pair_limit q
  pub guarded : q.hyps ≡ [] → IsGuarded q.left → IsGuarded q.right → length pairs ≤ (acts q.left + 2) * (acts q.right + 2)

abbrev pub NoRedundantAreFew : Type 0
NoRedundantAreFew = (q : ProblemParts) (rest : List SetPair) → HasNoRedundantPair q (closed_pair q ∷ rest) → AreFew q (closed_pair q ∷ rest)

abbrev pub WalksAreFew : Type 0
WalksAreFew = (q : ProblemParts) (es : List Entry) (done : ℕ) → IsWalk q es done → AreFew q (pairs_of es)

-- a walk that has processed all its pairs shows that the sides are the same
abbrev pub FinishedAreAccepted : Type 0
FinishedAreAccepted = (q : ProblemParts) (es : List Entry) → IsWalk q es (length es) → AreAccepted up_to q (pairs_of es) × Same q

-- a certificate of these pairs is concise
abbrev pub FinishedAreConcise : Type 0
FinishedAreConcise =
    (q : ProblemParts) (es : List Entry) (c : CertParts)
    → IsWalk q es (length es)
    → c.style ≡ UpTo
    → set_pairs c ≡ pairs_of es
    → ((k : ℕ) → Has c.test_nodes (Prim k) → k < q.tests)
    → ((a : ℕ) → Has c.term_nodes (Act a) → a < q.actions)
    → IsConcise q c

-- the terms of the pairs of a walk are in range of the problem
abbrev pub MembersAreInRange : Type 0
MembersAreInRange =
    (q : ProblemParts) (es : List Entry) (done : ℕ) (e : Entry) (x : Term) → IsProblem q → IsWalk q es done → Has es e → (Has e.pair.left x → IsInRange q.tests q.actions x) × (Has e.pair.right x → IsInRange q.tests q.actions x)

-- if the sets of the pair being processed differ at an atom, the steps to the pair and the atom are a shortest refuting
-- string
abbrev pub FoundAreShortest : Type 0
FoundAreShortest =
    (q : ProblemParts) (es : List Entry) (done : ℕ) (e : Entry) (os : List StepOrigin) (atom : Atom)
    → IsWalk q es done
    → slice_get es done ≡ Some e
    → IsTrail es done os
    → length atom ≡ q.tests
    → set_out e.pair.left atom ≢ set_out e.pair.right atom
    → IsShortest q (after_trail os (record { first = atom; rest = [] })) × (Same q → ⊥)

-- each listed pair has a trail
abbrev pub ListedHaveTrails : Type 0
ListedHaveTrails = (q : ProblemParts) (es : List Entry) (done : ℕ) → IsWalk q es done → (k : ℕ) (e : Entry) → slice_get es k ≡ Some e → (os : List StepOrigin) × IsTrail es k os

-- a concise certificate has few pairs if there are no hypotheses and both sides are guarded
abbrev pub ConciseAreFew : Type 0
ConciseAreFew = (q : ProblemParts) (c : CertParts) → IsConcise q c → q.hyps ≡ [] → IsGuarded q.left → IsGuarded q.right → length (set_pairs c) ≤ (acts q.left + 2) * (acts q.right + 2)
