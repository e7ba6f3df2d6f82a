use Rattle.std.proofs.Common.{rules}
use Rattle.tool_inputs.specs.TextProblem.{IsFaulty}
use Rattle.tool_inputs.specs.Steps.{IsRefusal}
use Rattle.tool_inputs.specs.ReplySpecs.{Yields}
use Rattle.tool_inputs.proofs.Ranges.{numbers_in_range}
use Rattle.tool_try.specs.declared.concrete.ConcreteFile.{ConcreteFile}
use Rattle.tool_try.proofs.ConcreteFiles.{no_file, file_shown}
use Rattle.tool_try.proofs.concrete.concrete_in.Goals as goal

pub concrete_file-requires : goal.concrete_file-requires
concrete_file-requires c = numbers_in_range c.args.text.now c.in_ok-file.file c.in_ok-file.ensures

pub returns-in_err-file : goal.returns-in_err-file
returns-in_err-file c =
    let r : Yields {T = ConcreteFile} (λ s. ⊥) (IsRefusal (IsFaulty c.args.text.now)) c.from_residual.result = search rules in
    no_file c.args.text.now c.from_residual.result r

pub returns : goal.returns
returns c = file_shown c.args.text.now c.in_ok-file.file c.in_ok-file.ensures c.concrete_file.result c.concrete_file.ensures
