use Rattle.std.proofs.Common.{rules}
use Rattle.tool_decide.specs.declared.triple.Triple.{Triple}
use Rattle.tool_inputs.specs.TextProblem.{HasNoAbstraction}
use Rattle.tool_inputs.specs.Steps.{IsRefusal}
use Rattle.tool_inputs.specs.ReplySpecs.{Yields}
use Rattle.tool_decide.specs.Working.TextTriples.{no_abstract}
use Rattle.tool_decide.proofs.triple.file_triple.Goals as goal

pub returns-in_err-shown : goal.returns-in_err-shown
returns-in_err-shown c =
    let r : Yields {T = Triple} (λ t. ⊥) (IsRefusal (HasNoAbstraction c.args.file.now)) c.from_residual.result = search rules in
    no_abstract c.args.file.now c.from_residual.result r
