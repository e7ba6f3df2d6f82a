-- Concise certificates of pairs under tests: all pairs have different sets, and each pair is reached by moves that
-- short hypotheses allow.
use Rattle.std.specs.Prelude.{◌≡◌, ◌≤◌, ◌<◌, ◌+◌, ◌*◌, ◌^◌, ℕ, List, [], ◌∷◌, ◌++◌, length, IsTrue}
use Rattle.kat_model.specs.Trees.{Term, acts}
use Rattle.kat_model.specs.Members.{Has, IsSubset, SameMembers}
use Rattle.kat_model.specs.Steps.{Atom, truth, set_next}
use Rattle.kat_model.specs.Strings.{Move}
use Rattle.kat_model.specs.Problems.{ProblemParts}
use Rattle.kat_model.specs.Guarded.{IsGuarded}
use Rattle.kat_model.specs.Pairs.{AllDiffer}
use Rattle.kat_model.specs.Degrees.{short_hyps, long_hyps, closed_long}
use Rattle.kat_model.specs.AllowedMoves.{IsAllowedAtom, IsAllowedMove}
use Rattle.kat_model.specs.TestedPairs.{TestedPair}
use Rattle.certificate.specs.declared.nodes.Style.TheVariants.{Under}
use Rattle.certificate.specs.Certs.{CertParts}
use Rattle.certificate.specs.Accepted.{set_pairs, tested_pairs, IsAccepted}

-- an allowed move from an atom that satisfies the test of the first pair leads from its sets to those of the second
pub record LeadsUnder (shorts : List Term) (tests actions : ℕ) (from to : TestedPair) : Type 0 where
  pub atom : Atom
  pub move : Move
  pub of_tests : length atom ≡ tests
  pub to_tests : length move.atom ≡ tests
  pub of_actions : move.act < actions
  pub there : IsTrue (truth from.test atom)
  pub allowed : IsAllowedMove shorts atom move
  pub lefts : SameMembers (set_next from.sets.left atom move.act) to.sets.left
  pub rights : SameMembers (set_next from.sets.right atom move.act) to.sets.right

-- the test of the pair is true at an allowed atom
pub record IsSomewhere (shorts : List Term) (tests : ℕ) (p : TestedPair) : Type 0 where
  pub atom : Atom
  pub of_tests : length atom ≡ tests
  pub allowed : IsAllowedAtom shorts atom
  pub holds : IsTrue (truth p.test atom)

-- an earlier pair leads to the pair, and the test of the pair is true at an allowed atom
pub record IsReachedPair (shorts : List Term) (tests actions : ℕ) (before : List TestedPair) (p : TestedPair) : Type 0 where
  pub from : TestedPair
  pub earlier : Has before from
  pub leads : LeadsUnder shorts tests actions from p
  pub somewhere : IsSomewhere shorts tests p

-- each of the pairs is reached after the earlier ones
abbrev pub AreReachedPairs : List Term → ℕ → ℕ → List TestedPair → List TestedPair → Type 0
AreReachedPairs shorts tests actions before [] = Unit {0}
AreReachedPairs shorts tests actions before (p ∷ ps) = IsReachedPair shorts tests actions before p × AreReachedPairs shorts tests actions (before ++ p ∷ []) ps

-- each pair after the first is reached
abbrev pub AreAllReached : List Term → ℕ → ℕ → List TestedPair → Type 0
AreAllReached shorts tests actions [] = Unit {0}
AreAllReached shorts tests actions (p ∷ ps) = AreReachedPairs shorts tests actions (p ∷ []) ps

-- The certificate is accepted, in the style of tests. Its pairs have different sets, and each is reached along moves
-- that some list of short hypotheses allows (all short ones, or fewer). Their number is bounded. The bound is lower if
-- both sides are guarded and no hypothesis is long.
pub record IsConciseUnder (q : ProblemParts) (c : CertParts) : Type 0 where
  pub accepted : IsAccepted q c
  pub under : c.style ≡ Under
  pub differ : AllDiffer (set_pairs c)
  pub counted : List Term
  pub fewer : IsSubset counted (short_hyps q)
  pub reached : AreAllReached counted q.tests q.actions (tested_pairs c)
  pub bounded : length (set_pairs c) ≤ 2 ^ (acts (closed_long q).left + 1) * 2 ^ (acts (closed_long q).right + 1)
  pub guarded : long_hyps q ≡ [] → IsGuarded q.left → IsGuarded q.right → length (set_pairs c) ≤ (acts q.left + 2) * (acts q.right + 2)
