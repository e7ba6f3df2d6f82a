use Rattle.std.proofs.Common.{map, flat_map}
use Rattle.std.proofs.lemmas.Result.{on_ok_weaker}
use Rattle.kat_model.specs.declared.limits.TheConstants.{MAX_TESTS}
use Rattle.flow_forms.specs.Comparisons.{comparison_tree, is_same_comparison}
use Rattle.flow_ways.specs.CondTrees.{cond_tree}
use Rattle.flow_problem.specs.EdgeTerms.{comparisons_of}
use Rattle.flow_edges.proofs.TableRows.{first_then}
use Rattle.flow_edges.proofs.comparisons.+add_conds.Goals as goal

pub add_conds_from-returns : goal.add_conds_from-returns
add_conds_from-returns t c =
    on_ok_weaker c.add_conds.result
    (first_then is_same_comparison MAX_TESTS (map comparison_tree c.args.rows.now.items) (map comparison_tree c.add_cond.new.rows.items) (map comparison_tree c.add_conds.new.rows.items)
    (comparisons_of (cond_tree c.args.cond.now)) (flat_map comparisons_of (map cond_tree c.args.rest.now)) c.in_ok-add_cond.ensures)
    c.add_conds.ensures
