use Rattle.tool_inputs.specs.Steps.{IsRefusal}
use Rattle.tool_decide.specs.Triples.{ReportsNotSimple}
use Rattle.tool_inputs.proofs.ReplySpecs.{EndsWith-weaker}
use Rattle.tool_decide.proofs.triple.test_hypotheses.Goals as goal

pub returns-in-Some : goal.returns-in-Some
returns-in-Some c =
    EndsWith-weaker _ (IsRefusal (ReportsNotSimple c.args.problem.now.hyps))
    (λ status output h. (h.0, record { hyp = c.in-Some.hyp; least = c.in-Some.ensures.least; printed = h.1 }))
    c.not_simple_end.result c.not_simple_end.ensures
