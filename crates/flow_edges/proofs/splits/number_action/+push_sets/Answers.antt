use Rattle.std.proofs.Common.{map}
use Rattle.std.proofs.lemmas.Result.{on_ok_weaker}
use Rattle.flow_ways.specs.ActionTrees.{set_tree}
use Rattle.flow_edges.specs.CellTests.{cell_test_tree}
use Rattle.flow_edges.proofs.SplitLists.{set_then}
use Rattle.flow_edges.proofs.splits.number_action.+push_sets.Goals as goal

pub push_sets_then-returns-clause-made : goal.push_sets_then-returns-clause-made
push_sets_then-returns-clause-made t c =
    on_ok_weaker c.push_sets.result
    (set_then c.args.split.now.sorts.now (cell_test_tree c.args.split.now.test.now) c.args.number c.args.others.now (map set_tree c.args.rest.now) (set_tree c.args.new)
    (map set_tree c.args.list.now.items) (map set_tree c.push_set.new.list.items) (map set_tree c.push_sets.new.list.items) c.in_ok-push_set.ensures)
    c.push_sets.ensures.made

pub push_sets_then-returns-clause-fits : goal.push_sets_then-returns-clause-fits
push_sets_then-returns-clause-fits t c = c.push_sets.ensures.fits

pub push_sets_then-returns-clause-refused : goal.push_sets_then-returns-clause-refused
push_sets_then-returns-clause-refused t c = c.push_sets.ensures.refused
