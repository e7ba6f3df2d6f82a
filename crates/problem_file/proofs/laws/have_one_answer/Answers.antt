use Rattle.problem_file.proofs.OneAnswer.{have_one_answer, all_have_one_answer}
use Rattle.problem_file.proofs.laws.have_one_answer.Goals as goal

pub returns-clause-one : goal.returns-clause-one
returns-clause-one c = have_one_answer

pub returns-clause-all : goal.returns-clause-all
returns-clause-all c = all_have_one_answer
