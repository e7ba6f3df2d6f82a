use Rattle.std.proofs.Common.{◌<◌, ◌^◌, length, ap, ◌∙◌, subst}
use Rattle.tool_decide.proofs.Decided.{equal_evidence, different_evidence}
use Rattle.tool_decide.proofs.decide.know_numbers.Goals as goal

pub returns-in-Equal : goal.returns-in-Equal
returns-in-Equal c =
    let cert = c.in-Equal.cert in
    let tests : length cert.test_nodes < 2 ^ 64 = subst (λ n. n < 2 ^ 64) (c.count.ensures ∙ ap (λ l. length l) c.test_nodes.ensures.value) c.count.type_inv in
    let terms : length cert.term_nodes < 2 ^ 64 = subst (λ n. n < 2 ^ 64) (c.count-in-Equal.ensures ∙ ap (λ l. length l) c.term_nodes.ensures.value) c.count-in-Equal.type_inv in
    equal_evidence c.args.problem.now c.tests.ensures.within c.args.evidence.now c.requires cert c.in-Equal.is c.test_nodes.ensures.rules tests terms

pub returns-in-Different : goal.returns-in-Different
returns-in-Different c = different_evidence c.args.problem.now c.tests.ensures.within c.args.evidence.now c.requires c.in-Different.field-0 c.in-Different.is
