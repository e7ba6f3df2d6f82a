use Rattle.std.proofs.lemmas.Bool.{and_from}
use Rattle.flow_model.specs.WholeGraphs.{is_whole_jump, is_whole_block}
use Rattle.flow_matches.specs.Working.WholeSides.{are_whole_statements}
use Rattle.flow_matches.proofs.WholeParts.{all_pushed}
use Rattle.flow_matches.proofs.side.push_block.Goals as goal

pub returns-clause-whole : goal.returns-clause-whole
returns-clause-whole c = λ statements jump old.
    all_pushed is_whole_block c.args.list.now.items c.push.new.self.items _ c.in_ok-push.ensures.items old (and_from (are_whole_statements c.args.statements.items) (is_whole_jump c.args.jump) statements jump)
