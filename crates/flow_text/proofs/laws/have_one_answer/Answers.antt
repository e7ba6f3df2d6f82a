use Rattle.flow_text.proofs.OneAnswer.{have_one_answer}
use Rattle.flow_text.proofs.laws.have_one_answer.Goals as goal

pub returns : goal.returns
returns c = have_one_answer
