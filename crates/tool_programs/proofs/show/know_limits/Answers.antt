use Rattle.std.proofs.Common.{subst}
use Rattle.kat_model.specs.Problems.{IsProblem}
use Rattle.text_parser.specs.ScopeParts.{IsWellFormed}
use Rattle.while_lang.specs.Files.{FileParts}
use Rattle.abstraction.specs.Abstracts.{AbstractParts}
use Rattle.tool_programs.proofs.show.know_limits.Goals as goal

pub returns-clause-well_formed : goal.returns-clause-well_formed
returns-clause-well_formed c = subst (λ (f : FileParts). IsWellFormed f.scope) c.file.view_is c.find.ensures.well_formed

pub returns-clause-problem : goal.returns-clause-problem
returns-clause-problem c = subst (λ (a : AbstractParts). IsProblem a.problem) c.shown.view_is c.left.ensures.within
