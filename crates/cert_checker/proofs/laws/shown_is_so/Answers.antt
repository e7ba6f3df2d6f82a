use Rattle.cert_checker.proofs.OneAnswer.{shown_so}
use Rattle.cert_checker.proofs.laws.shown_is_so.Goals as goal

pub returns : goal.returns
returns c = shown_so
