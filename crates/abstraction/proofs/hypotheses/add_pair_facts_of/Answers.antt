use Rattle.kat_model.specs.Stores.{modulus}
use Rattle.abstraction.specs.Working.PairFacts.{pair_fact}
use Rattle.abstraction.proofs.GatheredRows.{gathered_none, gathered_all, gathered_more}
use Rattle.abstraction.proofs.hypotheses.add_pair_facts_of.Goals as goal

pub loop-second-preserved : goal.loop-second-preserved
loop-second-preserved c =
    gathered_more (pair_fact c.args.fact (modulus c.args.width) c.args.first.now) c.args.rows.now c.loop-second.second-index c.second-item.result c.loop-second-test.true c.second-item.is
    c.args.hyps.now.items c.loop-second.hyps.items c.add_pair_fact.new.hyps.items c.in_ok-add_pair_fact.ensures c.loop-second.invariant

pub loop-second-init : goal.loop-second-init
loop-second-init c = gathered_none (pair_fact c.args.fact (modulus c.args.width) c.args.first.now) c.args.rows.now c.args.hyps.now.items

pub returns : goal.returns
returns c =
    gathered_all (pair_fact c.args.fact (modulus c.args.width) c.args.first.now) c.args.rows.now c.loop-second.second-index c.loop-second-test.false
    c.args.hyps.now.items c.loop-second.hyps.items c.loop-second.invariant
