use Rattle.std.proofs.Common.{[], ◌∷◌, ◌++◌, ap, ◌∙◌}
use Rattle.std.proofs.lemmas.Bool.{and_from}
use Rattle.flow_model.specs.declared.graph.CondNode.TheVariants.{Always}
use Rattle.flow_model.specs.WholeGraphs.{are_whole_exprs, is_whole_cond}
use Rattle.flow_matches.proofs.leaves.leave_after.Goals as goal

pub returns-clause-whole : goal.returns-clause-whole
returns-clause-whole c = λ own.
    and_from (is_whole_cond c.append.new.list.items) (are_whole_exprs c.in_ok-results.results.items)
    (ap is_whole_cond (c.in_ok-append.ensures ∙ ap (λ l. l ++ Always ∷ []) c.new-condition.ensures.items))
    (c.in_ok-results.ensures.whole own)
