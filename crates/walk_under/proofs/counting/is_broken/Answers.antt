use Rattle.std.proofs.Common.{sym, ◌∙◌}
use Rattle.std.proofs.lemmas.Bool.{false≢true}
use Rattle.walk_under.proofs.counting.is_broken.Goals as goal

pub returns-then-counted : goal.returns-then-counted
returns-then-counted c = ((λ t. absurd (false≢true t)), (λ p. absurd (false≢true (sym p.0 ∙ c.if-counted.true))))

pub returns : goal.returns
returns c = ((λ t. (c.if-counted.false, c.is_broken_by.ensures.0 t)), (λ p. c.is_broken_by.ensures.1 p.1))
