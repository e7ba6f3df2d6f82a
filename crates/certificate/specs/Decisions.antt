-- The answers of the prover: a certificate without redundant pairs (Bonchi and Pous 2013), a certificate of pairs under
-- tests if some hypothesis is short, or a shortest string that refutes.
use Rattle.std.specs.Prelude.{◌≡◌, ◌⊎◌, ◌≤◌, ◌<◌, ◌+◌, ◌*◌, ◌^◌, ℕ, Bool, List, [], ◌∷◌, ◌++◌, length, IsTrue}
use Rattle.std.specs.List.{list_any}
use Rattle.kat_model.specs.Trees.{Term, acts}
use Rattle.kat_model.specs.Members.{Has, SameMembers}
use Rattle.kat_model.specs.Steps.{Atom, set_next}
use Rattle.kat_model.specs.Strings.{GuardedString}
use Rattle.kat_model.specs.Problems.{ProblemParts}
use Rattle.kat_model.specs.Relations.{Same}
use Rattle.kat_model.specs.Closed.{closed}
use Rattle.kat_model.specs.Pairs.{SetPair, IsCongruent, AllDiffer}
use Rattle.kat_model.specs.Degrees.{is_short}
use Rattle.string_tables.specs.Tables.{Refutes}
use Rattle.certificate.specs.declared.nodes.Style.TheVariants.{UpTo}
use Rattle.certificate.specs.declared.evidence.Evidence.{Evidence}
use Rattle.certificate.specs.declared.evidence.Evidence.TheVariants.{Equal, Different}
use Rattle.certificate.specs.Certs.{CertParts, nodes_of}
use Rattle.term_nodes.specs.NodeTrees.{trees}
use Rattle.certificate.specs.Accepted.{set_pairs, IsAccepted}
use Rattle.certificate.specs.UnderTests.{IsConciseUnder}

-- a step under some atom by some action leads from the sets of one pair to those of the other
pub record LeadsTo (tests actions : ℕ) (from to : SetPair) : Type 0 where
  pub atom : Atom
  pub act : ℕ
  pub of_tests : length atom ≡ tests
  pub of_actions : act < actions
  pub lefts : SameMembers (set_next from.left atom act) to.left
  pub rights : SameMembers (set_next from.right atom act) to.right

-- a step leads to the pair from an earlier one, and the pair is not congruent under the earlier ones
pub record IsNeeded (q : ProblemParts) (before : List SetPair) (p : SetPair) : Type 0 where
  pub from : SetPair
  pub earlier : Has before from
  pub leads : LeadsTo q.tests q.actions from p
  pub fresh : IsCongruent (closed q).universal before p.left p.right → ⊥

-- each of the pairs is needed after the earlier ones
abbrev pub AreNeeded : ProblemParts → List SetPair → List SetPair → Type 0
AreNeeded q before [] = Unit {0}
AreNeeded q before (p ∷ ps) = IsNeeded q before p × AreNeeded q (before ++ p ∷ []) ps

-- each pair after the first is needed
abbrev pub HasNoRedundantPair : ProblemParts → List SetPair → Type 0
HasNoRedundantPair q [] = Unit {0}
HasNoRedundantPair q (p ∷ ps) = AreNeeded q (p ∷ []) ps

-- the greatest possible number of pairs
abbrev pub pair_limit : ProblemParts → ℕ
pair_limit q = 2 ^ (acts (closed q).left + 1) * 2 ^ (acts (closed q).right + 1)

-- the certificate is accepted, its style is up to congruence, and none of its pairs is redundant
pub record IsConcise (q : ProblemParts) (c : CertParts) : Type 0 where
  pub accepted : IsAccepted q c
  pub up_to : c.style ≡ UpTo
  pub differ : AllDiffer (set_pairs c)
  pub needed : HasNoRedundantPair q (set_pairs c)
  pub bounded : length (set_pairs c) ≤ pair_limit q

-- whether some hypothesis is short, so that tests can replace it
abbrev pub has_short : ProblemParts → Bool
has_short q = list_any is_short q.hyps

-- the greatest number of pairs of a certificate without tests, if some hypothesis is short
abbrev pub untested_limit : ℕ
untested_limit = 2000

-- a certificate without tests; it has few pairs if some hypothesis is short
pub record IsUntestedAnswer (q : ProblemParts) (c : CertParts) : Type 0 where
  pub concise : IsConcise q c
  pub few : IsTrue (has_short q) → length (set_pairs c) ≤ untested_limit

-- a certificate of pairs under tests; some hypothesis is short
pub record IsTestedAnswer (q : ProblemParts) (c : CertParts) : Type 0 where
  pub concise : IsConciseUnder q c
  pub short : IsTrue (has_short q)

-- the certificate is an answer of the prover
abbrev pub IsAnswerCert : ProblemParts → CertParts → Type 0
IsAnswerCert q c = IsUntestedAnswer q c ⊎ IsTestedAnswer q c

-- the string refutes the question, and none with fewer moves does
pub record IsShortest (q : ProblemParts) (x : GuardedString) : Type 0 where
  pub refutes : Refutes q x
  pub fewest : (y : GuardedString) → Refutes q y → length x.rest ≤ length y.rest

-- the evidence is an answer of the prover to the question
abbrev pub IsDecision : ProblemParts → Evidence → Type 0
IsDecision q (Equal c) = Same q × IsAnswerCert q c
IsDecision q (Different x) = (Same q → ⊥) × IsShortest q x

-- the terms of the nodes of the evidence
abbrev pub node_terms : Evidence → List Term
node_terms (Equal c) = trees (nodes_of c)
node_terms (Different x) = []
