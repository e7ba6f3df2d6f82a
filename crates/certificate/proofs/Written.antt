-- A certificate is evidence of the program if its tests, its actions and its numbers of nodes are numbers of the
-- program.
use Rattle.std.proofs.Common.{◌<◌, ◌^◌, ℕ, ⊎_elim, ◌++◌, map, length, subst, arith}
use Rattle.std.proofs.lemmas.Option.{slice_get_within}
use Rattle.kat_model.specs.Members.{Has}
use Rattle.kat_model.proofs.Lists.{has_append, has_map}
use Rattle.kat_model.proofs.Places.{place_of_member}
use Rattle.term_nodes.specs.declared.TestNode.{TestNode}
use Rattle.term_nodes.specs.declared.TestNode.TheVariants.{False, True, Prim, Not, And, Or}
use Rattle.term_nodes.specs.declared.TermNode.{TermNode}
use Rattle.term_nodes.specs.declared.TermNode.TheVariants.{Zero, One, Test, Act, Sum, Seq, Star}
use Rattle.certificate.specs.declared.entry.Entry.{Entry}
use Rattle.certificate.specs.declared.entry.Entry.TheVariants.{TestLine, TermLine, PairLine}
use Rattle.certificate.specs.declared.evidence.Evidence.TheVariants.{Equal}
use Rattle.term_nodes.specs.Nodes.{test_parts, term_parts}
use Rattle.certificate.specs.PairParts.{PairParts}
use Rattle.certificate.specs.Certs.{CertParts, IsCert}
use Rattle.certificate.specs.Texts.{test_numbers, term_numbers, maybe_one, entries_of, IsNarrow, IsEvidence}
use Rattle.term_nodes.proofs.Parts.{IsTestOver-part, IsOver-part, IsOver-test, below_has}
use Rattle.certificate.proofs.Growth.{test_below}

module _ (c : CertParts) (cert : IsCert c)
    (prims : (k : ℕ) → Has c.test_nodes (Prim k) → k < 2 ^ 64) (acts : (a : ℕ) → Has c.term_nodes (Act a) → a < 2 ^ 64)
    (tests : length c.test_nodes < 2 ^ 64) (terms : length c.term_nodes < 2 ^ 64) where
  test_part : (n : TestNode ℕ) → Has c.test_nodes n → (k : ℕ) → Has (test_parts n) k → k < 2 ^ 64
  test_part n h k m =
      let at = place_of_member c.test_nodes n h in
      let low = IsTestOver-part at.0 n (cert.nodes.tests_ordered at.0 n at.1) k m in
      let within = slice_get_within c.test_nodes at.0 n at.1 in
      omega (arith, low, within, tests)

  test_line : (n : TestNode ℕ) → Has c.test_nodes n → (k : ℕ) → Has (test_numbers n) k → k < 2 ^ 64
  test_line False h k m = absurd m
  test_line True h k m = absurd m
  test_line (Prim j) h k m = ⊎_elim (λ e. subst (λ i. i < 2 ^ 64) e (prims j h)) absurd m
  test_line (Not x) h k m = test_part (Not x) h k m
  test_line (And x y) h k m = test_part (And x y) h k m
  test_line (Or x y) h k m = test_part (Or x y) h k m

  term_part : (n : TermNode ℕ ℕ) → Has c.term_nodes n → (k : ℕ) → Has (term_parts n) k → k < 2 ^ 64
  term_part n h k m =
      let at = place_of_member c.term_nodes n h in
      let low = IsOver-part (length c.test_nodes) at.0 n (cert.nodes.terms_ordered at.0 n at.1) k m in
      let within = slice_get_within c.term_nodes at.0 n at.1 in
      omega (arith, low, within, terms)

  term_line : (n : TermNode ℕ ℕ) → Has c.term_nodes n → (k : ℕ) → Has (term_numbers n) k → k < 2 ^ 64
  term_line Zero h k m = absurd m
  term_line One h k m = absurd m
  term_line (Test x) h k m = let at = place_of_member c.term_nodes (Test x) h in
      let low = IsOver-test (length c.test_nodes) at.0 (Test x) (cert.nodes.terms_ordered at.0 (Test x) at.1) k m in omega (arith, low, tests)
  term_line (Act a) h k m = ⊎_elim (λ e. subst (λ i. i < 2 ^ 64) e (acts a h)) absurd m
  term_line (Sum x y) h k m = term_part (Sum x y) h k m
  term_line (Seq x y) h k m = term_part (Seq x y) h k m
  term_line (Star x) h k m = term_part (Star x) h k m

  pair_line : (p : PairParts) → Has c.pairs p → (k : ℕ) → Has (p.left ++ (p.right ++ maybe_one p.test)) k → k < 2 ^ 64
  pair_line p h k m =
      let pair = cert.pairs p h in
      ⊎_elim
      (λ l. let low = below_has (length c.term_nodes) p.left pair.left.there k l in omega (arith, low, terms))
      (λ s.
      ⊎_elim
      (λ r. let low = below_has (length c.term_nodes) p.right pair.right.there k r in omega (arith, low, terms))
      (λ t. let low = below_has (length c.test_nodes) (maybe_one p.test) (test_below c.style (length c.test_nodes) p.test pair.test) k t in omega (arith, low, tests))
      (has_append p.right (maybe_one p.test) k s))
      (has_append p.left (p.right ++ maybe_one p.test) k m)

  are_narrow : (e : Entry) → Has (entries_of c) e → IsNarrow e
  are_narrow e h =
      ⊎_elim
      (λ t. let r = has_map TestLine c.test_nodes e t in subst IsNarrow r.2 (test_line r.0 r.1))
      (λ m.
      ⊎_elim
      (λ t. let r = has_map TermLine c.term_nodes e t in subst IsNarrow r.2 (term_line r.0 r.1))
      (λ p. let r = has_map PairLine c.pairs e p in subst IsNarrow r.2 (pair_line r.0 r.1))
      (has_append (map TermLine c.term_nodes) (map PairLine c.pairs) e m))
      (has_append (map TestLine c.test_nodes) (map TermLine c.term_nodes ++ map PairLine c.pairs) e h)

  pub cert_is_evidence : IsEvidence (Equal c)
  cert_is_evidence = (cert, are_narrow)
