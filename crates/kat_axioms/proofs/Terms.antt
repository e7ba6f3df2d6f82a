-- Terms modulo provable equality are a Kleene algebra, in which tests that are true at the same atoms are equal and the
-- hypotheses are 0.
use Rattle.std.proofs.Common.{◌≡◌, length, Bool, true, false, ◌||◌, refl, sym}
use Rattle.std.proofs.lemmas.Bool.{and_from}
use Rattle.kat_model.specs.Trees.{Term, zero, one, sum, product, star, is_test}
use Rattle.kat_model.specs.Members.{Has}
use Rattle.kat_model.specs.Problems.{ProblemParts}
use Rattle.kat_model.specs.Steps.{Atom, out}
use Rattle.kat_model.proofs.Places.{place_of_member}
use Rattle.chain_rules.specs.Chains.{equation}
use Rattle.chain_rules.specs.declared.chain.Axiom.TheVariants.{Assoc, Comm, Idem, Zero, SeqAssoc, OneLeft, OneRight, ZeroLeft, ZeroRight, DistLeft, DistRight, UnfoldLeft, UnfoldRight, Bool as ByBool, Hyp, Lfp, Rfp}
use Rattle.kat_axioms.specs.Algebras.{Operations, IsBelow, IsKleeneAlgebra, KleeneAlgebra}
use Rattle.kat_axioms.specs.Derivations.{Proves, itself, symmetric, transitive, sums, products, stars, axiom_without, axiom_with}

-- the terms of a question, with provable equality
abbrev pub term_operations : ProblemParts → Operations {0}
term_operations q = record { Carrier = Term; Equal = Proves q; zero = zero; one = one; sum = sum; product = product; star = star }

module _ (q : ProblemParts) where
  pub terms_are_kleene : IsKleeneAlgebra (term_operations q)
  terms_are_kleene = record {
    congruence = record {
      itself = λ x. itself x;
      symmetric = λ x y p. symmetric p;
      transitive = λ x y z p r. transitive p r;
      sums = λ x y z w p r. sums p r;
      products = λ x y z w p r. products p r;
      stars = λ x y p. stars p;
    };
    semiring = record {
      sum_assoc = λ x y z. axiom_without Assoc (equation (sum x (sum y z)) (sum (sum x y) z)) (record { x = x; y = y; z = z; sides = refl; premise = refl });
      sum_comm = λ x y. axiom_without Comm (equation (sum x y) (sum y x)) (record { x = x; y = y; z = x; sides = refl; premise = refl });
      sum_idem = λ x. axiom_without Idem (equation (sum x x) x) (record { x = x; y = x; z = x; sides = refl; premise = refl });
      sum_zero = λ x. axiom_without Zero (equation (sum x zero) x) (record { x = x; y = x; z = x; sides = refl; premise = refl });
      product_assoc = λ x y z. axiom_without SeqAssoc (equation (product x (product y z)) (product (product x y) z)) (record { x = x; y = y; z = z; sides = refl; premise = refl });
      one_left = λ x. axiom_without OneLeft (equation (product one x) x) (record { x = x; y = x; z = x; sides = refl; premise = refl });
      one_right = λ x. axiom_without OneRight (equation (product x one) x) (record { x = x; y = x; z = x; sides = refl; premise = refl });
      zero_left = λ x. axiom_without ZeroLeft (equation (product zero x) zero) (record { x = x; y = x; z = x; sides = refl; premise = refl });
      zero_right = λ x. axiom_without ZeroRight (equation (product x zero) zero) (record { x = x; y = x; z = x; sides = refl; premise = refl });
      dist_left = λ x y z. axiom_without DistLeft (equation (product x (sum y z)) (sum (product x y) (product x z))) (record { x = x; y = y; z = z; sides = refl; premise = refl });
      dist_right = λ x y z. axiom_without DistRight (equation (product (sum x y) z) (sum (product x z) (product y z))) (record { x = x; y = y; z = z; sides = refl; premise = refl });
    };
    unfold_left = λ x. axiom_without UnfoldLeft (equation (star x) (sum one (product x (star x)))) (record { x = x; y = x; z = x; sides = refl; premise = refl });
    unfold_right = λ x. axiom_without UnfoldRight (equation (star x) (sum one (product (star x) x))) (record { x = x; y = x; z = x; sides = refl; premise = refl });
    least_left = λ p s r h. axiom_with Lfp (equation (sum (sum s (product p r)) r) r) (equation (sum (product (star p) s) r) r) (record { x = p; y = s; z = r; sides = refl; premise = refl }) h;
    least_right = λ p s r h. axiom_with Rfp (equation (sum (sum s (product r p)) r) r) (equation (sum (product s (star p)) r) r) (record { x = p; y = s; z = r; sides = refl; premise = refl }) h;
  }

  abbrev pub terms : KleeneAlgebra {0}
  terms = record { operations = term_operations q; laws = terms_are_kleene }

  -- tests that are true at the same atoms are equal
  pub equal_tests : (e f : Term) → is_test e ≡ true → is_test f ≡ true → ((atom : Atom) → length atom ≡ q.tests → out e atom ≡ out f atom) → Proves q e f
  equal_tests e f t u same = axiom_without ByBool (equation e f) (refl, record { left = t; right = u; same = same })

  or_implied : (a b : Bool) → (a ≡ true → b ≡ true) → (a || b) ≡ b
  or_implied true b h = sym (h refl)
  or_implied false b h = refl

  -- a test that is true at fewer atoms is below
  pub test_below : (e f : Term) → is_test e ≡ true → is_test f ≡ true → ((atom : Atom) → length atom ≡ q.tests → out e atom ≡ true → out f atom ≡ true) → IsBelow (term_operations q) e f
  test_below e f t u implied =
      equal_tests (sum e f) f (and_from (is_test e) (is_test f) t u) u (λ atom wide. or_implied (out e atom) (out f atom) (implied atom wide))

  -- a hypothesis is 0
  pub hyp_zero : (h : Term) → Has q.hyps h → Proves q h zero
  hyp_zero h has = let k = place_of_member q.hyps h has in axiom_without (Hyp k.0) (equation h zero) (refl, k.1, refl)
