-- What evidence must show, and the first reason why it does not.
use Rattle.std.specs.Prelude.{◌≡◌, ◌⊎◌, ◌<◌, ◌≤◌, ℕ, suc, IsTrue, List, [], ◌∷◌, length, slice_get, Option, Some, None}
use Rattle.kat_model.specs.Trees.{TestTree}
use Rattle.kat_model.specs.Problems.{ProblemParts}
use Rattle.kat_model.specs.Steps.{Atom, truth, set_out, set_next}
use Rattle.kat_model.specs.Strings.{Move}
use Rattle.kat_model.specs.Closed.{closed}
use Rattle.kat_model.specs.Degrees.{short_hyps, closed_long}
use Rattle.kat_model.specs.AllowedMoves.{IsAllowedAtom, IsAllowedMove}
use Rattle.kat_model.specs.Pairs.{SetPair, plain, up_to, AreMatched, IsCongruent}
use Rattle.kat_model.specs.TestedPairs.{TestedPair, pairs_at}
use Rattle.string_tables.specs.Tables.{Refutes}
use Rattle.string_tables.specs.Findings.{IsFinding}
use Rattle.string_tables.specs.declared.finding.Finding.{Finding}
use Rattle.string_tables.specs.declared.finding.Finding.TheVariants.{Refutes as FoundRefutes, Shape as FoundShape, HypBroken as FoundHypBroken, EndsAgree as FoundEndsAgree}
use Rattle.term_nodes.specs.declared.TestNode.TheVariants.{Prim}
use Rattle.term_nodes.specs.declared.TermNode.TheVariants.{Act}
use Rattle.certificate.specs.declared.evidence.Evidence.{Evidence}
use Rattle.certificate.specs.declared.evidence.Evidence.TheVariants.{Equal, Different}
use Rattle.certificate.specs.declared.nodes.Style.{Style}
use Rattle.certificate.specs.declared.nodes.Style.TheVariants.{Plain, UpTo, Under}
use Rattle.certificate.specs.Certs.{CertParts}
use Rattle.certificate.specs.Accepted.{set_pairs, tested_pairs, IsAccepted}
use Rattle.cert_checker.specs.AtomOrder.{IsLess}
use Rattle.cert_checker.specs.declared.answer.Reason.{Reason}
use Rattle.cert_checker.specs.declared.answer.Reason.TheVariants.{FirstPair, Output, Missing, MissingTo, Shape, HypBroken, EndsAgree, TestNode, TermNode}
use Rattle.cert_checker.specs.declared.answer.Answer.{Answer}
use Rattle.cert_checker.specs.declared.answer.Answer.TheVariants.{Accepted, Rejected}

-- the evidence shows its claim: the certificate is accepted, or the string refutes the problem
abbrev pub Shows : ProblemParts → Evidence → Type 0
Shows q (Equal c) = IsAccepted q c
Shows q (Different x) = Refutes q x

-- the first pair is the two closed sides, each as a set of one term
abbrev pub BeginsWithSides : ProblemParts → List SetPair → Type 0
BeginsWithSides q pairs = (rest : List SetPair) × (pairs ≡ record { left = (closed q).left ∷ []; right = (closed q).right ∷ [] } ∷ rest)

-- in the style of tests, the first pair is the closed sides for the long hypotheses, under a test that is true at each
-- allowed atom
abbrev pub BeginsUnderTest : ProblemParts → List TestedPair → Type 0
BeginsUnderTest q pairs =
    (test : TestTree) × (rest : List TestedPair)
    × (pairs ≡ record { sets = record { left = (closed_long q).left ∷ []; right = (closed_long q).right ∷ [] }; test = test } ∷ rest)
    × ((atom : Atom) → length atom ≡ q.tests → IsAllowedAtom (short_hyps q) atom → IsTrue (truth test atom))

abbrev pub Begins : Style → ProblemParts → CertParts → Type 0
Begins Plain q c = BeginsWithSides q (set_pairs c)
Begins UpTo q c = BeginsWithSides q (set_pairs c)
Begins Under q c = BeginsUnderTest q (tested_pairs c)

-- both sets of the pair accept the atom, or neither does
abbrev pub AcceptAlike : SetPair → Atom → Type 0
AcceptAlike p atom = set_out p.left atom ≡ set_out p.right atom

-- the sets of a pair accept alike at each atom; in the style of tests, at each allowed atom that satisfies the pair's
-- test
abbrev pub OutputsHold : Style → ProblemParts → TestedPair → Atom → Type 0
OutputsHold Plain q p atom = AcceptAlike p.sets atom
OutputsHold UpTo q p atom = AcceptAlike p.sets atom
OutputsHold Under q p atom = IsAllowedAtom (short_hyps q) atom → IsTrue (truth p.test atom) → AcceptAlike p.sets atom

-- the listed pairs match the sets that the pair leads to by the action
abbrev pub StepHolds : Style → ProblemParts → CertParts → TestedPair → Atom → ℕ → Type 0
StepHolds Plain q c p atom a = AreMatched plain (closed q).universal (set_pairs c) (set_next p.sets.left atom a) (set_next p.sets.right atom a)
StepHolds UpTo q c p atom a = AreMatched up_to (closed q).universal (set_pairs c) (set_next p.sets.left atom a) (set_next p.sets.right atom a)
StepHolds Under q c p atom a = Unit {0}

-- in the style of tests, for each atom that satisfies the pair's test and each allowed move: the pairs whose test is
-- true at the end of the move match the sets
abbrev pub MoveHolds : Style → ProblemParts → CertParts → TestedPair → Atom → Move → Type 0
MoveHolds Plain q c p atom m = Unit {0}
MoveHolds UpTo q c p atom m = Unit {0}
MoveHolds Under q c p atom m =
    IsTrue (truth p.test atom) → IsAllowedMove (short_hyps q) atom m
    → IsCongruent (closed_long q).universal (pairs_at (tested_pairs c) m.atom) (set_next p.sets.left atom m.act) (set_next p.sets.right atom m.act)

-- the certificate fails by the reason
abbrev pub FailsBy : ProblemParts → CertParts → Reason → Type 0
FailsBy q c (TestNode k) = (i : ℕ) × (slice_get c.test_nodes k ≡ Some (Prim i)) × (q.tests ≤ i)
FailsBy q c (TermNode k) = (a : ℕ) × (slice_get c.term_nodes k ≡ Some (Act a)) × (q.actions ≤ a)
FailsBy q c FirstPair = Begins c.style q c → ⊥
FailsBy q c (Output k atom) =
    (p : TestedPair) × (slice_get (tested_pairs c) k ≡ Some p) × (length atom ≡ q.tests) × (OutputsHold c.style q p atom → ⊥)
FailsBy q c (Missing k atom a) =
    (p : TestedPair) × (slice_get (tested_pairs c) k ≡ Some p) × (length atom ≡ q.tests) × (a < q.actions) × (StepHolds c.style q c p atom a → ⊥)
FailsBy q c (MissingTo k atom a to) =
    (p : TestedPair) × (slice_get (tested_pairs c) k ≡ Some p) × (length atom ≡ q.tests) × (a < q.actions) × (length to ≡ q.tests)
    × (MoveHolds c.style q c p atom (record { act = a; atom = to }) → ⊥)
FailsBy q c (Shape k) = ⊥
FailsBy q c (HypBroken h i j) = ⊥
FailsBy q c EndsAgree = ⊥

-- the position of a reason in the order: its stage, its node or pair, its atom, outputs before actions, and for an
-- action the atom after it
pub record Turn : Type 0 where
  pub stage : ℕ
  pub number : ℕ
  pub atom : Atom
  pub action : ℕ
  pub to : Atom

abbrev pub turn_of : Reason → Turn
turn_of (TestNode k) = record { stage = 0; number = k; atom = []; action = 0; to = [] }
turn_of (TermNode k) = record { stage = 1; number = k; atom = []; action = 0; to = [] }
turn_of FirstPair = record { stage = 2; number = 0; atom = []; action = 0; to = [] }
turn_of (Output k atom) = record { stage = 3; number = k; atom = atom; action = 0; to = [] }
turn_of (Missing k atom a) = record { stage = 3; number = k; atom = atom; action = suc a; to = [] }
turn_of (MissingTo k atom a to) = record { stage = 3; number = k; atom = atom; action = suc a; to = to }
turn_of (Shape k) = record { stage = 4; number = k; atom = []; action = 0; to = [] }
turn_of (HypBroken h i j) = record { stage = 5; number = h; atom = []; action = 0; to = [] }
turn_of EndsAgree = record { stage = 6; number = 0; atom = []; action = 0; to = [] }

-- the order is lexicographic in stage, number, atom, action and the atom after the action
abbrev pub IsEarlier : Turn → Turn → Type 0
IsEarlier s t =
    (s.stage < t.stage)
    ⊎ ((s.stage ≡ t.stage) × ((s.number < t.number)
    ⊎ ((s.number ≡ t.number) × (IsLess s.atom t.atom
    ⊎ ((s.atom ≡ t.atom) × ((s.action < t.action)
    ⊎ ((s.action ≡ t.action) × IsLess s.to t.to)))))))

-- the certificate fails by the reason, and by no earlier one
pub record FailsFirstBy (q : ProblemParts) (c : CertParts) (r : Reason) : Type 0 where
  pub fails : FailsBy q c r
  pub first : (s : Reason) → IsEarlier (turn_of s) (turn_of r) → FailsBy q c s → ⊥

-- the reason why a string with this finding does not refute, if there is one
abbrev pub finding_reason : Finding → Option Reason
finding_reason (FoundRefutes b) = None
finding_reason (FoundShape k) = Some (Shape k)
finding_reason (FoundHypBroken h i j) = Some (HypBroken h i j)
finding_reason (FoundEndsAgree b) = Some EndsAgree

-- the first reason why the evidence does not show its claim
abbrev pub IsFoundBy : ProblemParts → Evidence → Reason → Type 0
IsFoundBy q (Equal c) r = FailsFirstBy q c r
IsFoundBy q (Different x) r = (f : Finding) × IsFinding q x f × (finding_reason f ≡ Some r)

-- the answer to evidence: accepted if it shows its claim, otherwise rejected with the first reason
abbrev pub IsAnswer : ProblemParts → Evidence → Answer → Type 0
IsAnswer q e Accepted = Shows q e
IsAnswer q e (Rejected r) = (Shows q e → ⊥) × IsFoundBy q e r
