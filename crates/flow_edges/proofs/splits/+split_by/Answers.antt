use Rattle.std.proofs.Common.{◌<◌, List, length, map, subst}
use Rattle.std.proofs.lemmas.Result.{IfErr-weaker}
use Rattle.flow_ways.specs.declared.limits.TheConstants.{MAX_WAYS}
use Rattle.flow_problem.specs.Edges.{Edge}
use Rattle.flow_problem.specs.Splits.{split_edges}
use Rattle.flow_edges.specs.CellTests.{cell_test_tree}
use Rattle.flow_edges.proofs.splits.+split_by.Goals as goal

pub split_by_from-returns-clause-few : goal.split_by_from-returns-clause-few
split_by_from-returns-clause-few t c = c.split_by.ensures.few

pub split_by_from-returns-clause-many : goal.split_by_from-returns-clause-many
split_by_from-returns-clause-many t c =
    IfErr-weaker c.split_by.result _ _
    (λ fault many is. subst (λ (es : List Edge). MAX_WAYS < length (split_edges c.args.sorts.now (map cell_test_tree c.args.rest.now) es)) c.in_ok-edges.ensures (many is))
    c.split_by.ensures.many
