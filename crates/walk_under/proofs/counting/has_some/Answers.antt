use Rattle.std.proofs.Common.{length}
use Rattle.std.proofs.lemmas.Bool.{ltb-true, lt-ltb}
use Rattle.walk_under.proofs.counting.has_some.Goals as goal

pub returns : goal.returns
returns c = ((λ t. ltb-true 0 (length c.args.places.now) t), (λ l. lt-ltb 0 (length c.args.places.now) l))
