use Rattle.chain_proofs.proofs.OneAnswer.{have_one_answer}
use Rattle.chain_proofs.proofs.laws.have_one_answer.Goals as goal

pub returns : goal.returns
returns c = have_one_answer
