use Rattle.std.proofs.Common.{rules}
use Rattle.tool_inputs.specs.TextProblem.{HasNoAbstraction}
use Rattle.tool_inputs.specs.Steps.{IsRefusal}
use Rattle.tool_inputs.specs.ReplySpecs.{Yields}
use Rattle.tool_try.specs.declared.concrete.ConcreteFile.{ConcreteFile}
use Rattle.tool_try.proofs.ConcreteFiles.{no_abstract}
use Rattle.tool_try.proofs.concrete.concrete_file.Goals as goal

pub returns-in_err-shown : goal.returns-in_err-shown
returns-in_err-shown c =
    let r : Yields {T = ConcreteFile} (λ s. ⊥) (IsRefusal (HasNoAbstraction c.args.file)) c.from_residual.result = search rules in
    no_abstract c.args.file (c.concrete.ensures.0 c.if-not-concrete.false) c.from_residual.result r
