use Rattle.std.specs.List.{flat_map}
use Rattle.kat_model.specs.Stores.{modulus}
use Rattle.abstraction.specs.Facts.{three_way_fact}
use Rattle.abstraction.proofs.GatheredRows.{gathered_none, gathered_all, gathered_more}
use Rattle.abstraction.proofs.hypotheses.add_three_way_facts_of.Goals as goal

pub loop-second-preserved : goal.loop-second-preserved
loop-second-preserved c =
    gathered_more (λ b. flat_map (three_way_fact (modulus c.args.width) c.args.first.now b) c.args.rows.now) c.args.rows.now c.loop-second.second-index c.second-item.result c.loop-second-test.true c.second-item.is
    c.args.hyps.now.items c.loop-second.hyps.items c.add_three_way_facts_of_pair.new.hyps.items c.in_ok-add_three_way_facts_of_pair.ensures c.loop-second.invariant

pub loop-second-init : goal.loop-second-init
loop-second-init c = gathered_none (λ b. flat_map (three_way_fact (modulus c.args.width) c.args.first.now b) c.args.rows.now) c.args.rows.now c.args.hyps.now.items

pub returns : goal.returns
returns c =
    gathered_all (λ b. flat_map (three_way_fact (modulus c.args.width) c.args.first.now b) c.args.rows.now) c.args.rows.now c.loop-second.second-index c.loop-second-test.false
    c.args.hyps.now.items c.loop-second.hyps.items c.loop-second.invariant
