use Rattle.std.proofs.Common.{map, ap, ◌∙◌}
use Rattle.std.proofs.lemmas.Bool.{and_parts}
use Rattle.flow_model.specs.Polish.{statement_of, graph_of}
use Rattle.flow_model.specs.WholeGraphs.{is_whole_jump}
use Rattle.flow_matches.specs.Working.WholeSides.{are_whole_statements}
use Rattle.flow_matches.proofs.SideGraphs.{copy_is}
use Rattle.flow_matches.proofs.side.push_copy.Goals as goal

pub returns-clause-added : goal.returns-clause-added
returns-clause-added c = λ s blocks is.
    copy_is s c.args.block.now (graph_of c.args.list.now.items) _ _ _ (c.in_ok-statements.ensures.trees ∙ ap (map statement_of) c.deref.ensures.value) (c.in_ok-jump.ensures.jump s blocks is) c.in_ok-push_block.ensures.added

pub returns-clause-whole : goal.returns-clause-whole
returns-clause-whole c = λ block.
    let parts = and_parts (are_whole_statements c.args.block.now.statements.items) (is_whole_jump c.args.block.now.jump) block in
    c.in_ok-push_block.ensures.whole (c.in_ok-statements.ensures.whole ∙ ap are_whole_statements c.deref.ensures.value ∙ parts.0) (c.in_ok-jump.ensures.whole ∙ parts.1)
