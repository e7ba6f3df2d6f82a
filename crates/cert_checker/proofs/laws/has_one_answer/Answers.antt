use Rattle.cert_checker.proofs.OneAnswer.{one_answer}
use Rattle.cert_checker.proofs.laws.has_one_answer.Goals as goal

pub returns : goal.returns
returns c = one_answer
