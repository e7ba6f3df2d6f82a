use Rattle.std.proofs.Common.{◌-◌, length, drop, take, sym, ◌∙◌}
use mathlib.Core.Path.{ap₂}
use Rattle.flow_matches.specs.Working.SameNodes.{same_nodes}
use Rattle.flow_matches.proofs.SameNodes.{next_same}
use Rattle.flow_matches.proofs.same.are_same_nodes.Goals as goal

pub nodes-preserved : goal.nodes-preserved
nodes-preserved c =
    let left = c.nodes.rest.now in
    ap₂ (λ k others. same_nodes k (take (length left - 1) (drop 1 left)) others) c.with_operands-pending.ensures c.without_first-others.ensures
    ∙ next_same c.nodes.pending left c.in-Some.field-0-1.now c.nodes.others.now c.in-Some.node.now _ c.in-Some.ensures.cases.0 c.if-pending-eq0.false (sym c.is_same_first-same.ensures ∙ c.if-not-same.false) c.nodes.invariant
