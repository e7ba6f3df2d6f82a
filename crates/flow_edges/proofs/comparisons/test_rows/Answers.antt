use Rattle.std.proofs.Common.{◌≤◌, ◌<◌, ◌++◌, length, refl, arith}
use Rattle.std.specs.List.{flat_map}
use Rattle.kat_model.specs.declared.limits.TheConstants.{MAX_TESTS}
use Rattle.flow_forms.specs.Comparisons.{comparison_tree, is_same_comparison}
use Rattle.flow_problem.specs.EdgeTerms.{edge_comparisons}
use Rattle.flow_edges.specs.GraphRows.{row_edges}
use Rattle.flow_edges.proofs.TableRows.{all_rows, more_rows}
use Rattle.flow_edges.proofs.comparisons.test_rows.Goals as goal

pub returns-clause-made : goal.returns-clause-made
returns-clause-made c =
    let few : length c.in_ok-rows.rows.items ≤ MAX_TESTS = omega (arith, c.len.ensures, c.if-len-gt-MAX_TESTS.false) in
    all_rows is_same_comparison MAX_TESTS comparison_tree c.in_ok-rows.rows.items (flat_map edge_comparisons (flat_map row_edges c.args.before.now ++ flat_map row_edges c.args.after.now)) (length c.in_ok-rows.rows.items)
    c.in_ok-rows.ensures refl few

pub returns-then-len-gt-MAX_TESTS-clause-many : goal.returns-then-len-gt-MAX_TESTS-clause-many
returns-then-len-gt-MAX_TESTS-clause-many c =
    let many : MAX_TESTS < length c.in_ok-rows.rows.items = omega (arith, c.len.ensures, c.if-len-gt-MAX_TESTS.true) in
    λ fault. more_rows is_same_comparison MAX_TESTS comparison_tree c.in_ok-rows.rows.items (flat_map edge_comparisons (flat_map row_edges c.args.before.now ++ flat_map row_edges c.args.after.now)) (length c.in_ok-rows.rows.items)
    c.in_ok-rows.ensures refl many
