use Rattle.text_parser.proofs.ScopeLemmas.{world_empty}
use Rattle.text_parser.proofs.scope.Scope.new.Goals as goal

pub invariant_of-result : goal.invariant_of-result
invariant_of-result c = rw (c.new.ensures, c.new-2.ensures.items) world_empty
