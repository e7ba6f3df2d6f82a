use Rattle.std.proofs.Common.{ap, ◌∙◌}
use Rattle.flow_model.specs.declared.graph.Statement.TheVariants.{Claim}
use Rattle.flow_model.specs.WholeGraphs.{is_whole_cond, is_whole_statement}
use Rattle.flow_model.specs.WholeMatches.{are_whole_equations}
use Rattle.flow_matches.specs.Working.WholeSides.{are_whole_statements}
use Rattle.flow_matches.proofs.WholeParts.{all_pushed, keeping_whole, condition_whole}
use Rattle.flow_matches.proofs.interface.opening.Goals as goal

pub returns-clause-whole : goal.returns-clause-whole
returns-clause-whole c = λ own equations.
    let m = c.args.own.now in
    let first = c.push.new.self.items in
    let second = c.push-2.new.self.items in
    let known = c.in_ok-known.ensures.whole (ap are_whole_equations c.deref.ensures.value ∙ keeping_whole m own) (ap is_whole_cond c.deref-2.ensures.value ∙ condition_whole m own) in
    let keeping = c.in_ok-assignment.ensures.whole (ap are_whole_equations c.deref-3.ensures.value ∙ keeping_whole m own) in
    all_pushed is_whole_statement second c.push-3.new.self.items c.in_ok-assignment-2.field-0 c.in_ok-push-3.ensures.items
    (all_pushed is_whole_statement first second c.in_ok-assignment.field-0 c.in_ok-push-2.ensures.items
    (all_pushed is_whole_statement c.new-list.result.items first (Claim c.in_ok-known.known) c.in_ok-push.ensures.items (ap are_whole_statements c.new-list.ensures.items) known)
    keeping)
    (c.in_ok-assignment-2.ensures.whole equations)
