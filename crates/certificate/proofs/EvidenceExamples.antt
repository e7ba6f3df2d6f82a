-- Worked examples of evidence: the evidence that texts give, the first faults of other texts, and the trees of nodes.
use Rattle.std.proofs.Common.{◌≡◌, inl, inr, ⊎_elim, List, [], ◌∷◌, length, true, false, Some, None, Ok, codes, refl, sym, subst, arith}
use Rattle.std.specs.Bool.{IsTrue}
use Rattle.std.proofs.lemmas.Bool.{true≢false}
use Rattle.kat_model.specs.Trees.{TestTree, top, prim, complement, Term, one, test, act, sum, product, star}
use Rattle.kat_model.specs.Members.{Has}
use Rattle.kat_model.specs.Steps.{Atom, truth, set_out}
use Rattle.kat_model.specs.Problems.{ProblemParts}
use Rattle.kat_model.specs.Pairs.{IsCongruent}
use Rattle.kat_model.specs.Degrees.{short_hyps, long_hyps, with_hyps}
use Rattle.kat_model.specs.AllowedMoves.{IsAllowedAtom, IsAllowedMove}
use Rattle.kat_model.specs.TestedPairs.{TestedPair, pairs_at, AreAcceptedUnder}
use Rattle.kat_model.proofs.Congruence.{listed_same}
use Rattle.kat_model.proofs.TestedPairExamples.{moves_to, IsMatched, one_action_steps}
use Rattle.term_nodes.specs.declared.TestNode.TheVariants.{True, Prim}
use Rattle.term_nodes.specs.declared.TermNode.TheVariants.{One, Test, Act, Sum, Seq, Star}
use Rattle.certificate.specs.declared.nodes.Style.TheVariants.{Plain, Under}
use Rattle.certificate.specs.declared.evidence.Evidence.TheVariants.{Equal, Different}
use Rattle.certificate.specs.declared.evidence.EvidenceFault.TheVariants.{Header, Line, NodeOrder, DoubleNode, SetOrder, NumberTooWide, Truncated, Trailing}
use Rattle.term_nodes.specs.NodeTrees.{test_trees, trees}
use Rattle.certificate.specs.Certs.{CertParts}
use Rattle.certificate.specs.Texts.{text_of}
use Rattle.certificate.specs.Faults.{answer_of, line_fault}
use Rattle.certificate.specs.Accepted.{set_pairs, tested_pairs, IsAccepted}
use Rattle.line_format.proofs.WholeTexts.{read_given}
use Rattle.certificate.proofs.EvidenceTexts.{text_laws}

-- b = b

abbrev one_test : CertParts
one_test = record { style = Plain; test_nodes = Prim 0 ∷ []; term_nodes = Test 0 ∷ []; pairs = record { left = 0 ∷ []; right = 0 ∷ []; test = None } ∷ [] }

one_test_read : answer_of (codes "kat 1 equal\nT prim 0\nE test 0\nP 0 | 0\nend\n") ≡ Ok (Equal one_test)
one_test_read = refl

one_test_text : codes "kat 1 equal\nT prim 0\nE test 0\nP 0 | 0\nend\n" ≡ text_of (Equal one_test)
one_test_text = (read_given text_laws _ (Equal one_test) one_test_read).1

one_test_pairs : set_pairs one_test ≡ record { left = test (prim 0) ∷ []; right = test (prim 0) ∷ [] } ∷ []
unfolding test_trees trees
one_test_pairs = refl

-- (p + q)* = (p*.q)*.p*

abbrev p : Term
p = act 0

abbrev q : Term
q = act 1

abbrev denesting : CertParts
denesting =
    record {
      style = Plain;
      test_nodes = [];
      term_nodes = Act 0 ∷ Act 1 ∷ Sum 0 1 ∷ Star 2 ∷ Star 0 ∷ Seq 4 1 ∷ Star 5 ∷ Seq 6 4 ∷ Seq 5 6 ∷ Seq 8 4 ∷ [];
      pairs = record { left = 3 ∷ []; right = 7 ∷ []; test = None } ∷ record { left = 3 ∷ []; right = 4 ∷ 9 ∷ []; test = None } ∷ [];
    }

abbrev nested : Term
nested = star (product (star p) q)

denesting_pairs : set_pairs denesting ≡ record { left = star (sum p q) ∷ []; right = product nested (star p) ∷ [] } ∷ record { left = star (sum p q) ∷ []; right = star p ∷ product (product (product (star p) q) nested) (star p) ∷ [] } ∷ []
unfolding test_trees trees
denesting_pairs = refl

-- p = p.b, given the hypothesis p.!b = 0, which says that b holds after each p: the second pair must hold only there

abbrev b : TestTree
b = prim 0

abbrev lasting : CertParts
lasting =
    record {
      style = Under;
      test_nodes = True ∷ Prim 0 ∷ [];
      term_nodes = Act 0 ∷ Test 1 ∷ Seq 0 1 ∷ One ∷ [];
      pairs = record { left = 0 ∷ []; right = 2 ∷ []; test = Some 0 } ∷ record { left = 3 ∷ []; right = 1 ∷ []; test = Some 1 } ∷ [];
    }

lasting_read : answer_of (codes "kat 1 equal under\nT true\nT prim 0\nE act 0\nE test 1\nE seq 0 1\nE one\nP 0 | 2 | 0\nP 3 | 1 | 1\nend\n") ≡ Ok (Equal lasting)
lasting_read = refl

lasting_text : codes "kat 1 equal under\nT true\nT prim 0\nE act 0\nE test 1\nE seq 0 1\nE one\nP 0 | 2 | 0\nP 3 | 1 | 1\nend\n" ≡ text_of (Equal lasting)
lasting_text = (read_given text_laws _ (Equal lasting) lasting_read).1

abbrev first : TestedPair
first = record { sets = record { left = p ∷ []; right = product p (test b) ∷ [] }; test = top }

abbrev second : TestedPair
second = record { sets = record { left = one ∷ []; right = test b ∷ [] }; test = b }

abbrev both : List TestedPair
both = first ∷ second ∷ []

lasting_pairs : tested_pairs lasting ≡ both
unfolding test_trees trees
lasting_pairs = refl

abbrev hyps : List Term
hyps = product p (test (complement b)) ∷ []

abbrev poses : ProblemParts
poses = record { tests = 1; actions = 1; hyps = hyps; left = p; right = product p (test b) }

-- after p, where b holds, the second pair is available
after_p : (atom after : Atom) → IsAllowedMove hyps atom (moves_to after) → IsCongruent None (pairs_at both after) (one ∷ []) (test b ∷ [])
after_p atom [] m = absurd (true≢false m.move)
after_p atom (false ∷ after) m = absurd (true≢false m.move)
after_p atom (true ∷ after) m =
    inl (listed_same (pairs_at both (true ∷ after)) (one ∷ []) (test b ∷ []) (record { pair = second.sets; listed = inr (inl refl); lefts = λ x. ((λ h. h), (λ h. h)); rights = λ x. ((λ h. h), (λ h. h)) }))

both_accepted : AreAcceptedUnder (short_hyps poses) (with_hyps poses (long_hyps poses)) both
both_accepted = record { test = top; rest = second ∷ []; first = refl; holds = λ atom wide allowed. refl; bisimulation = record { outputs = outputs; steps = one_action_steps hyps both steps } }
  where
    IsAlike : TestedPair → Atom → Type 0
    IsAlike s atom = IsTrue (truth s.test atom) → set_out s.sets.left atom ≡ set_out s.sets.right atom

    outputs : (s : TestedPair) → Has both s → (atom : Atom) → length atom ≡ 1 → IsAllowedAtom hyps atom → IsAlike s atom
    outputs s h atom wide allowed =
        ⊎_elim (λ e. subst (λ z. IsAlike z atom) e (λ t. refl)) (λ k. ⊎_elim (λ e. subst (λ z. IsAlike z atom) e (λ t. rw t refl)) absurd k) h

    steps : (s : TestedPair) → Has both s → (atom after : Atom) → IsAllowedMove hyps atom (moves_to after) → IsMatched both s atom (moves_to after)
    steps s h atom after allowed =
        ⊎_elim
        (λ e. subst (λ z. IsMatched both z atom (moves_to after)) e (after_p atom after allowed))
        (λ k. ⊎_elim (λ e. subst (λ z. IsMatched both z atom (moves_to after)) e (inl (λ x. ((λ h. h), (λ h. h))))) absurd k)
        h

lasting_accepted : IsAccepted poses lasting
lasting_accepted =
    record {
      tests = λ k h. ⊎_elim (λ e. cc) (λ r. ⊎_elim (λ e. let same : 0 ≡ k = cc in omega (arith, same)) absurd r) h;
      actions = λ a h. ⊎_elim (λ e. let same : 0 ≡ a = cc in omega (arith, same)) (λ r. ⊎_elim (λ e. cc) (λ s. ⊎_elim (λ e. cc) (λ t. ⊎_elim (λ e. cc) absurd t) s) r) h;
      pairs = subst (AreAcceptedUnder (short_hyps poses) (with_hyps poses (long_hyps poses))) (sym lasting_pairs) both_accepted;
    }

-- two tests, and a step of action 0

step_read : answer_of (codes "kat 1 different\nA 10\nM 0 00\nend\n") ≡ Ok (Different (record { first = true ∷ false ∷ []; rest = record { act = 0; atom = false ∷ false ∷ [] } ∷ [] }))
step_read = refl

-- no tests

bare_read : answer_of (codes "kat 1 different\nA\nM 3\nend\n") ≡ Ok (Different (record { first = []; rest = record { act = 3; atom = [] } ∷ [] }))
bare_read = refl

-- first faults

header : line_fault (codes "kat 3 equal\nend\n") ≡ Some Header
header = refl

leading_zero : line_fault (codes "kat 1 equal\nE act 01\nend\n") ≡ Some (Line 2)
leading_zero = refl

itself : line_fault (codes "kat 1 equal\nE star 0\nend\n") ≡ Some (NodeOrder 2)
itself = refl

twice : line_fault (codes "kat 1 equal\nE one\nE one\nend\n") ≡ Some (DoubleNode 3)
twice = refl

descending : line_fault (codes "kat 1 equal\nE zero\nE one\nP 1 0 |\nend\n") ≡ Some (SetOrder 4)
descending = refl

wide : line_fault (codes "kat 1 equal\nE act 18446744073709551616\nend\n") ≡ Some (NumberTooWide 2)
wide = refl

nothing_there : line_fault [] ≡ Some Truncated
nothing_there = refl

one_more : line_fault (codes "kat 1 equal\nend\n\n") ≡ Some (Trailing 3)
one_more = refl

-- a pair under tests has a test, and no other pair has one, whatever the numbers
lacks_test : line_fault (codes "kat 1 equal under\nT true\nE one\nP 18446744073709551616 | 0\nend\n") ≡ Some (Line 4)
lacks_test = refl

has_test : line_fault (codes "kat 2 equal\nT true\nE one\nP 18446744073709551616 | 0 | 0\nend\n") ≡ Some (Line 4)
has_test = refl

wide_test : line_fault (codes "kat 1 equal under\nT true\nE one\nP 0 | 0 | 18446744073709551616\nend\n") ≡ Some (NumberTooWide 4)
wide_test = refl

no_test : line_fault (codes "kat 1 equal under\nT true\nE one\nP 0 | 0 | 1\nend\n") ≡ Some (NodeOrder 4)
no_test = refl

one_test_alone : line_fault (codes "kat 1 equal under\nT true\nE one\nP 0 | 0 |\nend\n") ≡ Some (Line 4)
one_test_alone = refl

-- a test node after a term node has no form, whatever its numbers
out_of_place : line_fault (codes "kat 1 equal\nE zero\nT prim 18446744073709551616\n") ≡ Some (Line 3)
out_of_place = refl

-- the second line of a string is its first atom
no_atom : line_fault (codes "kat 1 different\nend\n") ≡ Some (Line 2)
no_atom = refl

-- a trailing blank is not allowed
blank : line_fault (codes "kat 1 different\nA \n") ≡ Some (Line 2)
blank = refl
