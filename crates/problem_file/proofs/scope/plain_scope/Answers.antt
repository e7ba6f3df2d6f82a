use Rattle.problem_file.proofs.ScopeNames.{plain_from}
use Rattle.problem_file.proofs.scope.plain_scope.Goals as goal

pub returns : goal.returns
returns c = plain_from c.args.tests c.args.actions c.requires.tests c.requires.actions c.numbered_scope.result c.numbered_scope.ensures
