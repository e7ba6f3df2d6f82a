use Rattle.while_lang.proofs.LoopsAgain.{loops_again}
use Rattle.while_lang.proofs.laws.loops_unfold.Goals as goal

pub returns : goal.returns
returns c w b p rest s k t = loops_again w b p rest s k t
