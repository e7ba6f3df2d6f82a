use Rattle.std.proofs.Common.{◌≤◌}
use Rattle.flow_ways.specs.declared.condition.FlowCond.{size-FlowCond}
use Rattle.flow_ways.proofs.condition.FlowCond.+drop.Given as goal

abbrev pub invariant-loop-self : goal.invariant-loop-self
invariant-loop-self l = size-FlowCond l.self ≤ size-FlowCond l.initial.self
