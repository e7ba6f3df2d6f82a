use Rattle.std.proofs.Common.{refl, map, ap, ◌∙◌}
use Rattle.flow_model.specs.Polish.{statement_of, graph_of}
use Rattle.flow_model.specs.WholeGraphs.{are_whole_blocks}
use Rattle.flow_matches.specs.Working.WholeSides.{are_whole_statements}
use Rattle.flow_matches.proofs.SideGraphs.{start_is, whole_graph}
use Rattle.flow_matches.proofs.side.side_graph.Goals as goal

pub returns-clause-graph : goal.returns-clause-graph
returns-clause-graph c = λ s is.
    whole_graph c.args.side.now c.args.blocks.now s is (graph_of c.push_block.new.list.items) (graph_of c.push_inside.new.list.items) (graph_of c.push_arrivals.new.list.items)
    (start_is s c.args.blocks.now c.args.side.now is (graph_of c.new-list.result.items) (graph_of c.push_block.new.list.items) _ _ (c.in_ok-statements.ensures.trees ∙ ap (map statement_of) c.deref.ensures.value) (c.first_point.ensures s c.args.blocks.now is) (ap graph_of c.new-list.ensures.items) c.in_ok-push_block.ensures.added)
    (c.in_ok-push_inside.ensures.added s is)
    c.in_ok-push_arrivals.ensures.added

pub returns-clause-whole : goal.returns-clause-whole
returns-clause-whole c = λ blocks side.
    c.in_ok-push_arrivals.ensures.whole side.leaves
    (c.in_ok-push_inside.ensures.whole blocks
    (c.in_ok-push_block.ensures.whole (c.in_ok-statements.ensures.whole ∙ ap are_whole_statements c.deref.ensures.value ∙ side.opening) refl (ap are_whole_blocks c.new-list.ensures.items)))
