use Rattle.one_loop.proofs.FormMeanings.{form_ends}
use Rattle.one_loop.proofs.laws.forms_end_as_programs.Goals as goal

pub returns : goal.returns
returns c w p q v form s u k from number = form_ends w p q v form s u k from number
