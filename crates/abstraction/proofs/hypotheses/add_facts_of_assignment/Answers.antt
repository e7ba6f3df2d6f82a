use Rattle.abstraction.specs.Derived.{assignment_facts}
use Rattle.abstraction.proofs.GatheredRows.{gathered_none, gathered_all, gathered_more}
use Rattle.abstraction.proofs.hypotheses.add_facts_of_assignment.Goals as goal

pub loop-row-preserved : goal.loop-row-preserved
loop-row-preserved c =
    gathered_more (assignment_facts c.args.tables.now c.args.action.now) c.args.rows.now c.loop-row.row-index c.row-item.result c.loop-row-test.true c.row-item.is
    c.args.hyps.now.items c.loop-row.hyps.items c.add_assignment_facts.new.hyps.items c.in_ok-add_assignment_facts.ensures c.loop-row.invariant

pub loop-row-init : goal.loop-row-init
loop-row-init c = gathered_none (assignment_facts c.args.tables.now c.args.action.now) c.args.rows.now c.args.hyps.now.items

pub returns : goal.returns
returns c =
    gathered_all (assignment_facts c.args.tables.now c.args.action.now) c.args.rows.now c.loop-row.row-index c.loop-row-test.false
    c.args.hyps.now.items c.loop-row.hyps.items c.loop-row.invariant
