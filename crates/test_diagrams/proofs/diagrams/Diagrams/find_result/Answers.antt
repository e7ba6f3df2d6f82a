use Rattle.std.proofs.Common.{rules, ◌∙◌, subst}
use Rattle.std.specs.Prelude.{IfSome}
use Rattle.test_diagrams.specs.Operations.{IsResult}
use Rattle.test_diagrams.specs.contracts.diagrams.OperationPartialEq.TheImpl.{eq-value}
use Rattle.test_diagrams.proofs.Results.{results_give}
use Rattle.test_diagrams.proofs.diagrams.Diagrams.find_result.Goals as goal

pub returns-clause-result : goal.returns-clause-result
returns-clause-result c =
    subst (λ d. IfSome c.copied.result (IsResult d c.args.operation.now)) c.self.view_is
    (results_give _ eq-value.it _ _ c.copied.result c.self.invariant.results (c.copied.ensures ∙ c.get.ensures.value) (λ x y e. search rules))
