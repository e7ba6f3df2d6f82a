use Rattle.kat_model.specs.Stores.{modulus}
use Rattle.abstraction.specs.Facts.{three_way_fact}
use Rattle.abstraction.proofs.GatheredRows.{gathered_none, gathered_all, gathered_more}
use Rattle.abstraction.proofs.hypotheses.add_three_way_facts_of_pair.Goals as goal

pub loop-third-preserved : goal.loop-third-preserved
loop-third-preserved c =
    gathered_more (three_way_fact (modulus c.args.width) c.args.first.now c.args.second.now) c.args.rows.now c.loop-third.third-index c.third-item.result c.loop-third-test.true c.third-item.is
    c.args.hyps.now.items c.loop-third.hyps.items c.add_three_way_fact.new.hyps.items c.in_ok-add_three_way_fact.ensures c.loop-third.invariant

pub loop-third-init : goal.loop-third-init
loop-third-init c = gathered_none (three_way_fact (modulus c.args.width) c.args.first.now c.args.second.now) c.args.rows.now c.args.hyps.now.items

pub returns : goal.returns
returns c =
    gathered_all (three_way_fact (modulus c.args.width) c.args.first.now c.args.second.now) c.args.rows.now c.loop-third.third-index c.loop-third-test.false
    c.args.hyps.now.items c.loop-third.hyps.items c.loop-third.invariant
