use Rattle.std.proofs.Common.{◌≤◌, ◌<◌, ◌++◌, length, refl, arith}
use Rattle.std.specs.List.{flat_map}
use Rattle.kat_model.specs.declared.limits.TheConstants.{MAX_ACTIONS}
use Rattle.flow_problem.specs.Edges.{is_same_action}
use Rattle.flow_edges.specs.EdgeViews.{flow_action}
use Rattle.flow_problem.specs.EdgeTerms.{edge_actions}
use Rattle.flow_edges.specs.GraphRows.{row_edges}
use Rattle.flow_edges.proofs.TableRows.{all_rows, more_rows}
use Rattle.flow_edges.proofs.actions.action_rows.Goals as goal

pub returns-clause-made : goal.returns-clause-made
returns-clause-made c =
    let few : length c.in_ok-rows.rows.items ≤ MAX_ACTIONS = omega (arith, c.len.ensures, c.if-len-gt-MAX_ACTIONS.false) in
    all_rows is_same_action MAX_ACTIONS flow_action c.in_ok-rows.rows.items (flat_map edge_actions (flat_map row_edges c.args.before.now ++ flat_map row_edges c.args.after.now)) (length c.in_ok-rows.rows.items)
    c.in_ok-rows.ensures refl few

pub returns-then-len-gt-MAX_ACTIONS-clause-many : goal.returns-then-len-gt-MAX_ACTIONS-clause-many
returns-then-len-gt-MAX_ACTIONS-clause-many c =
    let many : MAX_ACTIONS < length c.in_ok-rows.rows.items = omega (arith, c.len.ensures, c.if-len-gt-MAX_ACTIONS.true) in
    λ fault. more_rows is_same_action MAX_ACTIONS flow_action c.in_ok-rows.rows.items (flat_map edge_actions (flat_map row_edges c.args.before.now ++ flat_map row_edges c.args.after.now)) (length c.in_ok-rows.rows.items)
    c.in_ok-rows.ensures refl many
