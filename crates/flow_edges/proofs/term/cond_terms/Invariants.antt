use Rattle.std.proofs.Common.{◌≡◌, map, take}
use Rattle.kat_model.specs.Trees.{test, kat_tree}
use Rattle.flow_forms.specs.Comparisons.{comparison_tree}
use Rattle.flow_ways.specs.CondTrees.{cond_tree}
use Rattle.flow_problem.specs.EdgeTerms.{test_of_cond}
use Rattle.flow_edges.proofs.term.cond_terms.Given as goal

-- the tests so far
abbrev pub invariant-loop-cond : goal.invariant-loop-cond
invariant-loop-cond l = map kat_tree l.list.items ≡ map (λ b. test (test_of_cond (map comparison_tree l.tests) b)) (map cond_tree (take l.cond-index l.conds))
