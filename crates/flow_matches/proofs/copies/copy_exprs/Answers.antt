use Rattle.std.proofs.Common.{◌&&◌, ap, ◌∙◌}
use Rattle.flow_model.specs.WholeGraphs.{are_whole_exprs}
use Rattle.flow_matches.proofs.copies.copy_exprs.Goals as goal

pub returns-clause-whole : goal.returns-clause-whole
returns-clause-whole c = c.in_ok-push_exprs.ensures.whole ∙ ap (λ es. are_whole_exprs es && are_whole_exprs c.args.values.now) c.new-copies.ensures.items
