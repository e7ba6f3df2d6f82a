-- A certificate with an additional entry that has no fault keeps the rules.
use Rattle.std.proofs.Common.{◌≡◌, ℕ, ◌≤◌, ◌<◌, inl, ⊎_elim, List, [], ◌∷◌, ◌++◌, length, true, not, ◌&&◌, eqb, nat_lt, Option, Some, None, refl, sym, ap, ◌∙◌, subst, arith, eqb-true, eq-eqb}
use mathlib.Core.Path.{ap₂}
use Rattle.std.proofs.lemmas.Bool.{and_parts}
use Rattle.std.proofs.lemmas.List.Folds.{list_all-append}
use Rattle.kat_model.specs.Members.{Has}
use Rattle.std.proofs.lemmas.List.{length_push}
use Rattle.kat_model.proofs.Lists.{has_pushed}
use Rattle.line_format.proofs.KnownLines.{lacks_any}
use Rattle.line_format.proofs.LineTests.{Passes}
use Rattle.term_nodes.specs.declared.TestNode.{TestNode}
use Rattle.term_nodes.specs.declared.TestNode.TheVariants.{False, True, Prim, Not, And, Or}
use Rattle.term_nodes.specs.declared.TermNode.{TermNode}
use Rattle.term_nodes.specs.declared.TermNode.TheVariants.{Zero, One, Test, Act, Sum, Seq, Star}
use Rattle.certificate.specs.declared.entry.Entry.{Entry}
use Rattle.certificate.specs.declared.entry.Entry.TheVariants.{TestLine, TermLine, PairLine}
use Rattle.term_nodes.specs.Nodes.{test_parts, term_parts, tests_of_term, same_test_node, same_term_node}
use Rattle.term_nodes.specs.NumberSets.{are_below, are_ascending, IsNumberSet}
use Rattle.term_nodes.proofs.Parts.{parts-IsTestOver, parts-IsOver, below_has, has_below, below_more}
use Rattle.term_nodes.proofs.Insertions.{test_pushed, term_pushed}
use Rattle.certificate.specs.declared.nodes.Style.{Style}
use Rattle.certificate.specs.declared.nodes.Style.TheVariants.{Plain, UpTo, Under}
use Rattle.certificate.specs.PairParts.{PairParts}
use Rattle.certificate.specs.Certs.{CertParts, HasItsTest, IsPairOf, IsCert, nodes_of}
use Rattle.certificate.specs.Texts.{maybe_one}
use Rattle.certificate.specs.Faults.{pair_section, has_tests, is_section_allowed, with_entry, entry_format}

-- ---- equal nodes

same_numbers : {N : Type 0} (made : ℕ → ℕ → N) (w x y z : ℕ) → (eqb w y && eqb x z) ≡ true → made w x ≡ made y z
same_numbers made w x y z e = let p = and_parts (eqb w y) (eqb x z) e in ap₂ made (eqb-true w y p.0) (eqb-true x z p.1)

pub same_test_equal : (m n : TestNode ℕ) → same_test_node m n ≡ true → m ≡ n
same_test_equal False False e = refl
same_test_equal True True e = refl
same_test_equal (Prim k) (Prim l) e = ap Prim (eqb-true k l e)
same_test_equal (Not x) (Not y) e = ap Not (eqb-true x y e)
same_test_equal (And w x) (And y z) e = same_numbers And w x y z e
same_test_equal (Or w x) (Or y z) e = same_numbers Or w x y z e
same_test_equal m n e = cc

two_equal : (x y : ℕ) → (eqb x x && eqb y y) ≡ true
two_equal x y = rw (eq-eqb x x refl, eq-eqb y y refl) refl

pub test_same_itself : (n : TestNode ℕ) → same_test_node n n ≡ true
test_same_itself False = refl
test_same_itself True = refl
test_same_itself (Prim k) = eq-eqb k k refl
test_same_itself (Not x) = eq-eqb x x refl
test_same_itself (And x y) = two_equal x y
test_same_itself (Or x y) = two_equal x y

pub same_term_equal : (m n : TermNode ℕ ℕ) → same_term_node m n ≡ true → m ≡ n
same_term_equal Zero Zero e = refl
same_term_equal One One e = refl
same_term_equal (Test x) (Test y) e = ap Test (eqb-true x y e)
same_term_equal (Act a) (Act b) e = ap Act (eqb-true a b e)
same_term_equal (Sum w x) (Sum y z) e = same_numbers Sum w x y z e
same_term_equal (Seq w x) (Seq y z) e = same_numbers Seq w x y z e
same_term_equal (Star x) (Star y) e = ap Star (eqb-true x y e)
same_term_equal m n e = cc

pub term_same_itself : (n : TermNode ℕ ℕ) → same_term_node n n ≡ true
term_same_itself Zero = refl
term_same_itself One = refl
term_same_itself (Test x) = eq-eqb x x refl
term_same_itself (Act a) = eq-eqb a a refl
term_same_itself (Sum x y) = two_equal x y
term_same_itself (Seq x y) = two_equal x y
term_same_itself (Star x) = eq-eqb x x refl

-- ---- an additional entry

pub set_more : (m n : ℕ) (ks : List ℕ) → m ≤ n → IsNumberSet m ks → IsNumberSet n ks
set_more m n ks le s = record { there = below_more m n ks le s.there; ascending = s.ascending }

-- ---- the test of a pair

its_none : (style : Style) (n : ℕ) → not (has_tests style) ≡ true → HasItsTest style n None
its_none Plain n e = refl
its_none UpTo n e = refl
its_none Under n e = cc

its_some : (style : Style) (n k : ℕ) → has_tests style ≡ true → k < n → HasItsTest style n (Some k)
its_some Plain n k e below = cc
its_some UpTo n k e below = cc
its_some Under n k e below = (k, refl, below)

-- a pair that is allowed in its section, and whose test is a test node, has the test that its style requires
pub its_test : (c : CertParts) (n : ℕ) (t : Option ℕ) → is_section_allowed c (pair_section t) ≡ true → are_below n (maybe_one t) ≡ true → HasItsTest c.style n t
its_test c n None allowed below = its_none c.style n allowed
its_test c n (Some k) allowed below = its_some c.style n k allowed (below_has n (k ∷ []) below k (inl refl))

style_allows : (c : CertParts) (style : Style) (n : ℕ) (t : Option ℕ) → c.style ≡ style → HasItsTest style n t → is_section_allowed c (pair_section t) ≡ true
style_allows c Plain n None e its = rw e refl
style_allows c Plain n (Some k) e its = cc
style_allows c UpTo n None e its = rw e refl
style_allows c UpTo n (Some k) e its = cc
style_allows c Under n None e its = let clash = its.1 in cc
style_allows c Under n (Some k) e its = rw e refl

pub test_allowed : (c : CertParts) (n : ℕ) (t : Option ℕ) → HasItsTest c.style n t → is_section_allowed c (pair_section t) ≡ true
test_allowed c n t its = style_allows c c.style n t refl its

pub test_below : (style : Style) (n : ℕ) (t : Option ℕ) → HasItsTest style n t → are_below n (maybe_one t) ≡ true
test_below style n None its = refl
test_below Plain n (Some k) its = cc
test_below UpTo n (Some k) its = cc
test_below Under n (Some k) its =
    let is = its.1 in
    let same : its.0 ≡ k = cc in
    has_below n (k ∷ []) (λ j h. ⊎_elim (λ e. subst (λ i. i < n) (same ∙ e) its.2) absurd h)

-- the same for a larger number of test nodes
its_test_more : (style : Style) (m n : ℕ) (t : Option ℕ) → m ≤ n → HasItsTest style m t → HasItsTest style n t
its_test_more Plain m n t le its = its
its_test_more UpTo m n t le its = its
its_test_more Under m n t le its = (its.0, its.1, (let low = its.2 in omega (arith, le, low)))

pub cert_grown : (c : CertParts) (e : Entry) → IsCert c → Passes entry_format c e → IsCert (with_entry c e)
cert_grown c (TestLine n) cert p =
    let earlier = (and_parts (are_below (length c.test_nodes) (test_parts n)) _ p.earlier).0 in
    record {
      nodes = test_pushed (nodes_of c) n cert.nodes (parts-IsTestOver (length c.test_nodes) n (below_has (length c.test_nodes) (test_parts n) earlier)) (lacks_any same_test_node same_test_equal test_same_itself c.test_nodes n p.new);
      pairs = λ q h.
          let old = cert.pairs q h in
          let more : length c.test_nodes ≤ length (c.test_nodes ++ n ∷ []) = omega (arith, length_push c.test_nodes n) in
          record { left = old.left; right = old.right; test = its_test_more c.style _ _ q.test more old.test };
    }
cert_grown c (TermLine n) cert p =
    let earlier = and_parts (are_below (length c.test_nodes) (tests_of_term n)) (are_below (length c.term_nodes) (term_parts n)) p.earlier in
    let over = parts-IsOver (length c.test_nodes) (length c.term_nodes) n (below_has (length c.test_nodes) (tests_of_term n) earlier.0) (below_has (length c.term_nodes) (term_parts n) earlier.1) in
    record {
      nodes = term_pushed (nodes_of c) n cert.nodes over (lacks_any same_term_node same_term_equal term_same_itself c.term_nodes n p.new);
      pairs = λ q h.
          let old = cert.pairs q h in
          let more : length c.term_nodes ≤ length (c.term_nodes ++ n ∷ []) = omega (arith, length_push c.term_nodes n) in
          record { left = set_more _ _ q.left more old.left; right = set_more _ _ q.right more old.right; test = old.test };
    }
cert_grown c (PairLine q) cert p =
    let earlier = and_parts (are_below (length c.test_nodes) (maybe_one q.test)) (are_below (length c.term_nodes) (q.left ++ q.right)) p.earlier in
    let there = and_parts (are_below (length c.term_nodes) q.left) (are_below (length c.term_nodes) q.right) (sym (list_all-append (λ k. nat_lt k (length c.term_nodes)) q.left q.right) ∙ earlier.1) in
    let ascend = and_parts (are_ascending q.left) (are_ascending q.right) p.last in
    let pair : IsPairOf (with_entry c (PairLine q)) q =
    record {
      left = record { there = there.0; ascending = ascend.0 };
      right = record { there = there.1; ascending = ascend.1 };
      test = its_test c (length c.test_nodes) q.test p.allowed earlier.0;
    } in
    let olds : (r : PairParts) → Has c.pairs r → IsPairOf (with_entry c (PairLine q)) r = λ r h. let old = cert.pairs r h in record { left = old.left; right = old.right; test = old.test } in
    record {
      nodes = cert.nodes;
      pairs = λ r h. ⊎_elim (olds r) (λ e. subst (IsPairOf (with_entry c (PairLine q))) e pair) (has_pushed c.pairs q r h);
    }
