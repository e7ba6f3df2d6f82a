use Rattle.gkat_front.proofs.OneAnswer.{have_one_answer}
use Rattle.gkat_front.proofs.laws.have_one_answer.Goals as goal

pub returns : goal.returns
returns c = have_one_answer
