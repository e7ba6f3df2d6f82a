use Rattle.text_print.proofs.NameOf.{name_is, no_name}
use Rattle.text_print.proofs.print.name_of.Goals as goal

pub returns-in-Some : goal.returns-in-Some
returns-in-Some c = name_is c.args.scope.now c.args.meaning c.in-Some.name.now c.in-Some.ensures.named

pub returns-in-None : goal.returns-in-None
returns-in-None c = no_name c.args.scope.now c.args.meaning c.in-None.ensures.unnamed
