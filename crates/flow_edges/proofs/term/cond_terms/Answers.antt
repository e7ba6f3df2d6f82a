use Rattle.std.proofs.Common.{ap, map, ◌∙◌, take_all}
use Rattle.kat_model.specs.Trees.{test, kat_tree}
use Rattle.flow_forms.specs.Comparisons.{comparison_tree}
use Rattle.flow_ways.specs.Conditions.{FlowCondTree}
use Rattle.flow_ways.specs.CondTrees.{cond_tree}
use Rattle.flow_problem.specs.EdgeTerms.{test_of_cond}
use Rattle.flow_edges.proofs.MappedLists.{mapped_more}
use Rattle.flow_edges.proofs.term.cond_terms.Goals as goal

pub loop-cond-preserved : goal.loop-cond-preserved
loop-cond-preserved c =
    mapped_more (λ (b : FlowCondTree). test (test_of_cond (map comparison_tree c.args.tests.now) b)) cond_tree kat_tree c.args.conds.now c.loop-cond.cond-index c.cond-item.result _ _ _
    c.loop-cond-test.true c.loop-cond.invariant c.in_ok-append.ensures
    (ap test (c.in_ok-test.ensures ∙ ap (λ b. test_of_cond (map comparison_tree c.args.tests.now) (cond_tree b)) c.cond-item.is))

pub returns : goal.returns
returns c =
    c.loop-cond.invariant
    ∙ ap (λ bs. map (λ b. test (test_of_cond (map comparison_tree c.args.tests.now) b)) (map cond_tree bs)) (take_all c.loop-cond.cond-index c.args.conds.now c.loop-cond-test.false)
