use Rattle.std.proofs.Common.{subst}
use Rattle.while_lang.specs.Files.{FileParts}
use Rattle.tool_programs.specs.Running.{HasRun}
use Rattle.tool_programs.proofs.RunOutcomes.{outcome_reached}
use Rattle.tool_programs.proofs.running.outcome_reply.Goals as goal

pub returns : goal.returns
returns c =
    let o = c.run-outcome.result in
    let t = c.run-outcome.new.store in
    subst (λ (f : FileParts). HasRun f c.args.turns c.args.prog.now c.args.store c.outcome_status.result c.in_ok-outcome_line.field-0.items) c.file.view_is
    (record {
      outcome = o;
      store = t;
      reached = outcome_reached c.file.inside.width c.args.prog.now c.args.store c.args.turns o t c.run-outcome.ensures.done c.run-outcome.ensures.stuck c.run-outcome.ensures.more;
      has_status = c.outcome_status.ensures;
      printed = c.in_ok-outcome_line.ensures;
    })
