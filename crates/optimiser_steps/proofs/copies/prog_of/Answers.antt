use Rattle.std.proofs.Common.{◌∙◌}
use Rattle.while_lang.proofs.ProgramLists.{listed_stmts}
use Rattle.optimiser_steps.proofs.copies.prog_of.Goals as goal

pub returns : goal.returns
returns c = listed_stmts c.in_ok-copies_of.field-0.items ∙ c.in_ok-copies_of.ensures
