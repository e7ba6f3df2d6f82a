use Rattle.std.proofs.Common.{◌↔◌, Option, IfOk, sym, subst}
use Rattle.std.specs.Bool.{IsTrue}
use Rattle.kat_model.specs.Trees.{kat_tree}
use Rattle.chain_rules.specs.Chains.{Equation, equation}
use Rattle.chain_rules.specs.Axioms.{IsInstance}
use Rattle.chain_rules.proofs.InstanceChecks.{no_premise}
use Rattle.chain_rules.proofs.lines.is_instance.Goals as goal

pub returns-in_default-2 : goal.returns-in_default-2
returns-in_default-2 c =
    subst (λ (o : Option Equation). IfOk c.is_plain_instance.result (λ fits. IsTrue fits ↔ IsInstance c.args.problem.now c.args.rule o (equation (kat_tree c.args.left.now) (kat_tree c.args.right.now))))
    (sym (no_premise c.args.premise c.is_some.result c.is_some.ensures c.if-is_some.false)) c.is_plain_instance.ensures
