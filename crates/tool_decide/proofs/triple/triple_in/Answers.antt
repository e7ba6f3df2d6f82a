use Rattle.std.proofs.Common.{rules}
use Rattle.tool_decide.specs.declared.triple.Triple.{Triple}
use Rattle.tool_inputs.specs.TextProblem.{IsFaulty}
use Rattle.tool_inputs.specs.Steps.{IsRefusal}
use Rattle.tool_inputs.specs.ReplySpecs.{Yields}
use Rattle.tool_inputs.proofs.Ranges.{numbers_in_range}
use Rattle.tool_decide.specs.Working.TextTriples.{no_file, file_posed}
use Rattle.tool_decide.proofs.triple.triple_in.Goals as goal

pub file_triple-requires : goal.file_triple-requires
file_triple-requires c = numbers_in_range c.args.text.now c.in_ok-file.file c.in_ok-file.ensures

pub returns-in_err-file : goal.returns-in_err-file
returns-in_err-file c =
    let r : Yields {T = Triple} (λ t. ⊥) (IsRefusal (IsFaulty c.args.text.now)) c.from_residual.result = search rules in
    no_file c.args.text.now c.from_residual.result r

pub returns : goal.returns
returns c = file_posed c.args.text.now c.in_ok-file.file c.in_ok-file.ensures c.file_triple.result c.file_triple.ensures
