use Rattle.kat_model.specs.Trees.{kat_tree}
use Rattle.chain_rules.specs.Chains.{equation}
use Rattle.chain_rules.proofs.Instances.{plain_instances}
use Rattle.chain_rules.proofs.InstanceChecks.{bool_instances}
use Rattle.chain_rules.proofs.lines.is_plain_instance.Goals as goal

pub returns-in-Bool : goal.returns-in-Bool
returns-in-Bool c =
    bool_instances c.args.problem.now c.args.rule c.tests.result (equation (kat_tree c.args.left.now) (kat_tree c.args.right.now))
    c.are_equal_tests.result c.in-Bool.is c.tests.ensures.value c.are_equal_tests.ensures

pub returns-in_default : goal.returns-in_default
returns-in_default c =
    let fit = plain_instances c.args.problem.now c.args.rule (kat_tree c.args.left.now) (kat_tree c.args.right.now) c.in_default.not-Bool c.in_default.not-Hyp in
    ((λ h. fit.0 (c.fits.ensures.0 h)), (λ h. c.fits.ensures.1 (fit.1 h)))
