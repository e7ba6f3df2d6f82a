use Rattle.std.proofs.Common.{sym}
use Rattle.kat_model.specs.Trees.{kat_tree}
use Rattle.kat_model.proofs.Ranges.{IsInRange-HasTestsBelow}
use Rattle.chain_rules.proofs.LineLists.{subterm_in_range}
use Rattle.chain_rules.proofs.lines.holds.Goals as goal

pub is_instance_either_way-requires-clause-x : goal.is_instance_either_way-requires-clause-x
is_instance_either_way-requires-clause-x c =
    IsInRange-HasTestsBelow c.args.problem.now.tests c.args.problem.now.actions (kat_tree c.in-Some.x.now)
    (subterm_in_range c.args.problem.now.tests c.args.problem.now.actions c.deref-2.result.now (kat_tree c.args.before.now) (kat_tree c.in-Some.x.now) (sym c.in-Some.ensures) c.requires.before)

pub is_instance_either_way-requires-clause-y : goal.is_instance_either_way-requires-clause-y
is_instance_either_way-requires-clause-y c =
    IsInRange-HasTestsBelow c.args.problem.now.tests c.args.problem.now.actions (kat_tree c.in-Some-subterm.y.now)
    (subterm_in_range c.args.problem.now.tests c.args.problem.now.actions c.deref-3.result.now (kat_tree c.args.line.now.next) (kat_tree c.in-Some-subterm.y.now) (sym c.in-Some-subterm.ensures) c.requires.after)
