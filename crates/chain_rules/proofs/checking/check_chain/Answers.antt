use Rattle.chain_rules.proofs.CheckedChains.{sound_answer}
use Rattle.chain_rules.proofs.checking.check_chain.Goals as goal

pub returns-clause-sound : goal.returns-clause-sound
returns-clause-sound c = sound_answer c.args.problem.now c.args.chain.now c.in_ok-answer.answer c.in_ok-answer.ensures
