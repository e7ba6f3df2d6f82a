use Rattle.std.proofs.Common.{ap}
use Rattle.std.proofs.lemmas.Result.{on_ok_weaker}
use Rattle.kat_model.specs.Stores.{modulus}
use Rattle.abstraction.proofs.JoinedHypotheses.{facts_joined}
use Rattle.abstraction.proofs.hypotheses.add_facts.Goals as goal

pub returns : goal.returns
returns c =
    on_ok_weaker c.add_three_way_facts.result
    (λ six.
    facts_joined c.args.tables.now (modulus c.tables.inside.width) c.args.actions.now c.args.rows.now c.args.hyps.now.items c.add_facts_of_assignments.new.hyps.items
    c.add_pair_facts.new.hyps.items c.add_pair_facts-2.new.hyps.items c.add_pair_facts-3.new.hyps.items c.add_pair_facts-4.new.hyps.items c.add_pair_facts-5.new.hyps.items
    c.add_three_way_facts.new.hyps.items (ap (λ t. modulus t.width) c.tables.view_is)
    c.in_ok-add_facts_of_assignments.ensures c.in_ok-add_pair_facts.ensures c.in_ok-add_pair_facts-2.ensures c.in_ok-add_pair_facts-3.ensures
    c.in_ok-add_pair_facts-4.ensures c.in_ok-add_pair_facts-5.ensures six)
    c.add_three_way_facts.ensures
