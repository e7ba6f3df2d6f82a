-- The first place at which the pairs of a certificate fail. At a pair and an atom, outputs have turn 0, and each action
-- has its number plus 1.
use Rattle.std.specs.Prelude.{◌≡◌, ◌<◌, ◌+◌, ◌⊎◌, ℕ, Bool, List, length, take, drop, slice_get, Option, Some, None}
use Rattle.kat_model.specs.Problems.{ProblemParts}
use Rattle.kat_model.specs.Steps.{Atom}
use Rattle.kat_model.specs.TestedPairs.{TestedPair}
use Rattle.certificate.specs.declared.nodes.Style.{Style}
use Rattle.certificate.specs.declared.nodes.Style.TheVariants.{Plain, UpTo, Under}
use Rattle.certificate.specs.PairParts.{PairParts}
use Rattle.certificate.specs.Certs.{CertParts, nodes_of}
use Rattle.certificate.specs.Accepted.{tested_pair_of, tested_pairs}
use Rattle.cert_checker.specs.declared.places.Place.{Place}
use Rattle.cert_checker.specs.declared.answer.Reason.{Reason}
use Rattle.cert_checker.specs.declared.answer.Reason.TheVariants.{FirstPair, Output, Missing, MissingTo, Shape, HypBroken, EndsAgree, TestNode, TermNode}
use Rattle.cert_checker.specs.Answers.{Turn, turn_of, IsEarlier, FailsBy, OutputsHold, StepHolds, MoveHolds}

-- the reason at a pair and an atom, for outputs or for an action; only the style of tests gives the atom after the
-- action
abbrev pub reason_at : Style → ℕ → List Bool → Option ℕ → List Bool → Reason
reason_at s k atom None to = Output k atom
reason_at Plain k atom (Some a) to = Missing k atom a
reason_at UpTo k atom (Some a) to = Missing k atom a
reason_at Under k atom (Some a) to = MissingTo k atom a to

abbrev pub place_reason : Style → Place → Reason
place_reason s p = reason_at s p.pair p.atom.items p.action p.to.items

-- the turn of outputs, and of an action
abbrev pub turn_number : Option ℕ → ℕ
turn_number None = 0
turn_number (Some a) = a + 1

-- the position of a place in the order
abbrev pub turn_at : Place → Turn
turn_at p = record { stage = 3; number = p.pair; atom = p.atom.items; action = turn_number p.action; to = p.to.items }

-- the result is the only place or, of two, one that the other does not precede
abbrev pub IsLeastOf : Option Place → Option Place → Option Place → Type 0
IsLeastOf None o r = r ≡ o
IsLeastOf (Some x) None r = r ≡ Some x
IsLeastOf (Some x) (Some y) r =
    ((r ≡ Some x) × (IsEarlier (turn_at y) (turn_at x) → ⊥))
    ⊎ ((r ≡ Some y) × (IsEarlier (turn_at x) (turn_at y) → ⊥))

-- what must hold of a pair at two atoms, for its outputs or for an action
abbrev pub TurnHolds : Style → ProblemParts → CertParts → TestedPair → Option ℕ → Atom → Atom → Type 0
TurnHolds s q c p None atom to = OutputsHold s q p atom
TurnHolds Plain q c p (Some a) atom to = StepHolds Plain q c p atom a
TurnHolds UpTo q c p (Some a) atom to = StepHolds UpTo q c p atom a
TurnHolds Under q c p (Some a) atom to = MoveHolds Under q c p atom (record { act = a; atom = to })

-- the condition of a turn holds for the pair at two concatenated atoms
abbrev pub PairHolds : ProblemParts → CertParts → Option ℕ → PairParts → Atom → Type 0
PairHolds q c action p x = TurnHolds c.style q c (tested_pair_of (nodes_of c) p) action (take q.tests x) (drop q.tests x)

-- the reason is that of a pair, at one of these turns
abbrev pub IsAmong : (ℕ → Type 0) → Reason → Type 0
IsAmong T r = ((turn_of r).stage ≡ 3) × T (turn_of r).action

-- the pairs do not fail by the reason
abbrev pub Passes : ProblemParts → CertParts → Reason → Type 0
Passes q c (Output k atom) = (p : TestedPair) → slice_get (tested_pairs c) k ≡ Some p → length atom ≡ q.tests → OutputsHold c.style q p atom
Passes q c (Missing k atom a) = (p : TestedPair) → slice_get (tested_pairs c) k ≡ Some p → length atom ≡ q.tests → a < q.actions → StepHolds c.style q c p atom a
Passes q c (MissingTo k atom a to) =
    (p : TestedPair) → slice_get (tested_pairs c) k ≡ Some p → length atom ≡ q.tests → a < q.actions → length to ≡ q.tests
    → MoveHolds c.style q c p atom (record { act = a; atom = to })
Passes q c FirstPair = Unit {0}
Passes q c (Shape k) = Unit {0}
Passes q c (HypBroken h i j) = Unit {0}
Passes q c EndsAgree = Unit {0}
Passes q c (TestNode k) = Unit {0}
Passes q c (TermNode k) = Unit {0}

-- the first reason of these turns by which the certificate fails, or none if it fails by no such reason
abbrev pub IsFirstOf : ProblemParts → CertParts → (ℕ → Type 0) → Option Reason → Type 0
IsFirstOf q c T None = (s : Reason) → IsAmong T s → Passes q c s
IsFirstOf q c T (Some r) = IsAmong T r × FailsBy q c r × ((s : Reason) → IsAmong T s → IsEarlier (turn_of s) (turn_of r) → FailsBy q c s → ⊥)
