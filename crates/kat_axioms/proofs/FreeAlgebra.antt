-- Terms modulo derivable equality are a Kleene algebra with tests in which each term denotes itself and the hypotheses are
-- 0. So what holds in every algebra in which the hypotheses are 0 has a chain.
use Rattle.std.proofs.Common.{◌≡◌, true, not, ◌&&◌, ◌||◌, refl, ap, ◌∙◌}
use Rattle.std.proofs.lemmas.Bool.{and_from}
use Rattle.std.proofs.Math.Bool.{and_comm, or-and_distrib_left, or-not_self, and-not_self}
use mathlib.Core.Path.{ap₂}
use Rattle.kat_model.specs.Trees.{TestTree, bottom, top, prim, complement, meet, join, Term, zero, one, test, act, sum, product, star, is_test}
use Rattle.kat_model.specs.Problems.{ProblemParts}
use Rattle.kat_model.specs.Steps.{Atom, truth, out}
use Rattle.kat_axioms.specs.Algebras.{IsBooleanAlgebra}
use Rattle.kat_axioms.specs.Meanings.{Interpretation, test_value, value, AreZero, HoldsIn}
use Rattle.kat_axioms.specs.Derivations.{Proves, itself, symmetric, transitive, sums, products, stars}
use Rattle.kat_axioms.specs.Laws.{HasChain}
use Rattle.kat_axioms.proofs.Terms.{term_operations, terms, equal_tests, hyp_zero}
use Rattle.kat_axioms.proofs.BooleanValues.{tree_of, truth-tree_of, value_is_test}
use Rattle.kat_axioms.proofs.Chains.{proves_has_chain}

module _ (q : ProblemParts) where
  abbrev pub complement_of : Term → Term
  complement_of e = test (complement (tree_of e))

  pub terms_are_boolean : IsBooleanAlgebra (term_operations q) (λ e. is_test e ≡ true) complement_of
  terms_are_boolean = record {
    zero_is_test = refl;
    one_is_test = refl;
    sum_is_test = λ b c s t. and_from (is_test b) (is_test c) s t;
    product_is_test = λ b c s t. and_from (is_test b) (is_test c) s t;
    complement_is_test = λ b t. refl;
    product_comm = λ b c s t.
        equal_tests q (product b c) (product c b) (and_from (is_test b) (is_test c) s t) (and_from (is_test c) (is_test b) t s) (λ atom wide. and_comm (out b atom) (out c atom));
    sum_dist = λ b c d s t u.
        equal_tests q (sum b (product c d)) (product (sum b c) (sum b d)) (and_from (is_test b) _ s (and_from (is_test c) (is_test d) t u))
        (and_from _ _ (and_from (is_test b) (is_test c) s t) (and_from (is_test b) (is_test d) s u)) (λ atom wide. or-and_distrib_left (out b atom) (out c atom) (out d atom));
    sum_complement = λ b t.
        equal_tests q (sum b (complement_of b)) one (and_from (is_test b) true t refl) refl (λ atom wide. ap (λ x. out b atom || not x) (truth-tree_of b atom t) ∙ or-not_self (out b atom));
    product_complement = λ b t.
        equal_tests q (product b (complement_of b)) zero (and_from (is_test b) true t refl) refl (λ atom wide. ap (λ x. out b atom && not x) (truth-tree_of b atom t) ∙ and-not_self (out b atom));
  }

  -- each primitive test and each action denotes itself
  abbrev pub term_interpretation : Interpretation {0}
  term_interpretation = record {
    algebra = record { kleene = terms q; IsTest = λ e. is_test e ≡ true; complement = complement_of; boolean = terms_are_boolean };
    actions = λ a. act a;
    tests = λ k. test (prim k);
    are_tests = λ k. refl;
  }

  out-test_value : (b : TestTree) (atom : Atom) → out (test_value term_interpretation b) atom ≡ truth b atom
  out-test_value bottom atom = refl
  out-test_value top atom = refl
  out-test_value (prim k) atom = refl
  out-test_value (complement b) atom =
      ap not (truth-tree_of (test_value term_interpretation b) atom (value_is_test term_interpretation b) ∙ out-test_value b atom)
  out-test_value (meet b c) atom = ap₂ (λ x y. x && y) (out-test_value b atom) (out-test_value c atom)
  out-test_value (join b c) atom = ap₂ (λ x y. x || y) (out-test_value b atom) (out-test_value c atom)

  -- so does each term
  value_itself : (e : Term) → Proves q (value term_interpretation e) e
  value_itself zero = itself zero
  value_itself one = itself one
  value_itself (test b) = equal_tests q (test_value term_interpretation b) (test b) (value_is_test term_interpretation b) refl (λ atom wide. out-test_value b atom)
  value_itself (act a) = itself (act a)
  value_itself (sum e f) = sums (value_itself e) (value_itself f)
  value_itself (product e f) = products (value_itself e) (value_itself f)
  value_itself (star e) = stars (value_itself e)

  pub hyps_denote_zero : AreZero term_interpretation q.hyps
  hyps_denote_zero e h = transitive (value_itself e) (hyp_zero q e h)

  -- what holds in this algebra has a chain
  pub holds_has_chain : HoldsIn term_interpretation q → HasChain q
  holds_has_chain h = proves_has_chain q (transitive (symmetric (value_itself q.left)) (transitive h (value_itself q.right)))

  -- what holds in every algebra under each interpretation by which the hypotheses are 0 has a chain
  pub algebras_give_chains : ((I : Interpretation {0}) → AreZero I q.hyps → HoldsIn I q) → HasChain q
  algebras_give_chains each = holds_has_chain (each term_interpretation hyps_denote_zero)
