use Rattle.std.proofs.Common.{ap, ◌∙◌}
use Rattle.std.proofs.lemmas.Bool.{and_from}
use Rattle.flow_model.specs.WholeGraphs.{are_whole_exprs, is_whole_cond}
use Rattle.flow_model.specs.WholeMatches.{are_whole_equations}
use Rattle.flow_matches.proofs.WholeParts.{keeping_whole, condition_whole}
use Rattle.flow_matches.proofs.leaves.leave_before.Goals as goal

pub returns-clause-whole : goal.returns-clause-whole
returns-clause-whole c = λ own.
    let m = c.args.own.now in
    and_from (is_whole_cond c.in_ok-condition.condition.items) (are_whole_exprs c.in_ok-results.results.items)
    (c.in_ok-condition.ensures.whole (ap are_whole_equations c.deref.ensures.value ∙ keeping_whole m own) (ap is_whole_cond c.deref-2.ensures.value ∙ condition_whole m own))
    (c.in_ok-results.ensures.whole own)
