use Rattle.std.proofs.lemmas.Bool.{false≢true}
use Rattle.std.proofs.lemmas.Result.{IfOk-weaker}
use Rattle.walk_under.proofs.deciding.is_answer.Goals as goal

pub returns-then-not-alike-clause-count : goal.returns-then-not-alike-clause-count
returns-then-not-alike-clause-count c t = absurd (false≢true t)

pub returns-then-not-alike-clause-refutes : goal.returns-then-not-alike-clause-refutes
returns-then-not-alike-clause-refutes c t = absurd (false≢true t)

pub returns-clause-count : goal.returns-clause-count
returns-clause-count c = IfOk-weaker c.refutes.result _ _ (λ shown is t. c.has_as_many-alike.ensures c.if-not-alike.false) c.refutes.ensures

pub returns-clause-refutes : goal.returns-clause-refutes
returns-clause-refutes c = IfOk-weaker c.refutes.result _ _ (λ shown is t. is.0 t) c.refutes.ensures
