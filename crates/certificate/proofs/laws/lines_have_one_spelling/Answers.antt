use Rattle.certificate.proofs.Exactness.{lines_have_one_spelling_lem}
use Rattle.certificate.proofs.laws.lines_have_one_spelling.Goals as goal

pub returns : goal.returns
returns c = lines_have_one_spelling_lem
