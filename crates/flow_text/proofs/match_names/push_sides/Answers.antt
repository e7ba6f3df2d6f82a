use Rattle.flow_text.specs.MatchViews.{names_parts}
use Rattle.flow_text.proofs.MatchNameSteps.{both_added}
use Rattle.flow_text.proofs.match_names.push_sides.Goals as goal

pub returns : goal.returns
returns c =
    both_added (names_parts c.args.names.now.items) (names_parts c.push_expression.new.names.items) (names_parts c.push_expression-2.new.names.items) _ _ c.in_ok-push_expression.ensures c.in_ok-push_expression-2.ensures
