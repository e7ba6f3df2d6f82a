use Rattle.std.specs.List.{flat_map}
use Rattle.abstraction.specs.Derived.{assignment_facts}
use Rattle.abstraction.proofs.GatheredRows.{gathered_none, gathered_all, gathered_more}
use Rattle.abstraction.proofs.hypotheses.add_facts_of_assignments.Goals as goal

pub loop-action-preserved : goal.loop-action-preserved
loop-action-preserved c =
    gathered_more (λ a. flat_map (assignment_facts c.args.tables.now a) c.args.rows.now) c.args.actions.now c.loop-action.action-index c.action-item.result c.loop-action-test.true c.action-item.is
    c.args.hyps.now.items c.loop-action.hyps.items c.add_facts_of_assignment.new.hyps.items c.in_ok-add_facts_of_assignment.ensures c.loop-action.invariant

pub loop-action-init : goal.loop-action-init
loop-action-init c = gathered_none (λ a. flat_map (assignment_facts c.args.tables.now a) c.args.rows.now) c.args.actions.now c.args.hyps.now.items

pub returns : goal.returns
returns c =
    gathered_all (λ a. flat_map (assignment_facts c.args.tables.now a) c.args.rows.now) c.args.actions.now c.loop-action.action-index c.loop-action-test.false
    c.args.hyps.now.items c.loop-action.hyps.items c.loop-action.invariant
