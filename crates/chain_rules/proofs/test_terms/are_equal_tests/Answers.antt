use Rattle.std.proofs.Common.{◌↔◌, ℕ, IfOk, subst}
use Rattle.std.specs.Bool.{IsTrue}
use Rattle.kat_model.specs.Trees.{kat_tree}
use Rattle.chain_rules.specs.Chains.{equation}
use Rattle.chain_rules.specs.Axioms.{AreEqualTests}
use Rattle.chain_rules.proofs.test_terms.are_equal_tests.Goals as goal

pub returns : goal.returns
returns c =
    subst (λ (n : ℕ). IfOk c.have_one_diagram.result (λ same. IsTrue same ↔ AreEqualTests n (equation (kat_tree c.args.left.now) (kat_tree c.args.right.now))))
    c.in_ok-diagrams.ensures.tests c.have_one_diagram.ensures
