use Rattle.kat_model.specs.Stores.{modulus}
use Rattle.abstraction.specs.Facts.{three_way_fact}
use Rattle.abstraction.specs.Derived.{of_pairs}
use Rattle.abstraction.proofs.GatheredRows.{gathered_none, gathered_all, gathered_more}
use Rattle.abstraction.proofs.hypotheses.add_three_way_facts.Goals as goal

pub loop-first-preserved : goal.loop-first-preserved
loop-first-preserved c =
    gathered_more (λ a. of_pairs (three_way_fact (modulus c.args.width) a) c.args.rows.now c.args.rows.now) c.args.rows.now c.loop-first.first-index c.first-item.result c.loop-first-test.true c.first-item.is
    c.args.hyps.now.items c.loop-first.hyps.items c.add_three_way_facts_of.new.hyps.items c.in_ok-add_three_way_facts_of.ensures c.loop-first.invariant

pub loop-first-init : goal.loop-first-init
loop-first-init c = gathered_none (λ a. of_pairs (three_way_fact (modulus c.args.width) a) c.args.rows.now c.args.rows.now) c.args.rows.now c.args.hyps.now.items

pub returns : goal.returns
returns c =
    gathered_all (λ a. of_pairs (three_way_fact (modulus c.args.width) a) c.args.rows.now c.args.rows.now) c.args.rows.now c.loop-first.first-index c.loop-first-test.false
    c.args.hyps.now.items c.loop-first.hyps.items c.loop-first.invariant
