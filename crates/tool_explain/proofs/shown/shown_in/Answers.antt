use Rattle.std.proofs.Common.{rules}
use Rattle.tool_inputs.specs.TextProblem.{IsFaulty}
use Rattle.tool_inputs.specs.Steps.{IsRefusal}
use Rattle.tool_inputs.specs.ReplySpecs.{Yields}
use Rattle.tool_inputs.proofs.Ranges.{numbers_in_range}
use Rattle.tool_explain.specs.declared.shown.ShownFile.{ShownFile}
use Rattle.tool_explain.proofs.ShownFiles.{no_file, file_shown}
use Rattle.tool_explain.proofs.shown.shown_in.Goals as goal

pub shown_file-requires : goal.shown_file-requires
shown_file-requires c = numbers_in_range c.args.text.now c.in_ok-file.file c.in_ok-file.ensures

pub returns-in_err-file : goal.returns-in_err-file
returns-in_err-file c =
    let r : Yields {T = ShownFile} (λ s. ⊥) (IsRefusal (IsFaulty c.args.text.now)) c.from_residual.result = search rules in
    no_file c.args.text.now c.from_residual.result r

pub returns : goal.returns
returns c = file_shown c.args.text.now c.in_ok-file.file c.in_ok-file.ensures c.shown_file.result c.shown_file.ensures
