use Rattle.std.proofs.Common.{map, refl}
use Rattle.kat_model.specs.Trees.{kat_tree}
use Rattle.flow_forms.specs.Comparisons.{comparison_tree}
use Rattle.flow_edges.specs.EdgeViews.{flow_action}
use Rattle.flow_abstraction.specs.HypothesisViews.{flow_rule}
use Rattle.flow_print.specs.NameTables.{names_of}
use Rattle.flow_print.proofs.WrittenTexts.{flow_written}
use Rattle.flow_print.proofs.text.text_in.Goals as goal

pub returns : goal.returns
returns c =
    flow_written (names_of c.args.names.now.variables.now c.args.names.now.sorts.now c.args.names.now.functions.now) c.args.plain.now (map flow_rule c.args.rules.now)
    (record { problem = c.args.problem.now; tests = map comparison_tree c.args.tests.now; actions = map flow_action c.args.actions.now })
    c.args.problem.now.tests c.args.problem.now.actions c.tests.result c.actions.result (kat_tree c.left.result.now) (kat_tree c.right.result.now)
    c.new-out.result.items c.put_test_comments.new.out.items c.put_tests.new.out.items c.put_action_comments.new.out.items c.put_actions.new.out.items c.put_hyps.new.out.items c.put_goal.new.out.items
    c.left.ensures.within c.requires refl refl c.tests.ensures.value c.actions.ensures.value c.left.ensures.value c.right.ensures.value
    c.new-out.ensures.items c.in_ok-put_test_comments.ensures c.in_ok-put_tests.ensures c.in_ok-put_action_comments.ensures c.in_ok-put_actions.ensures c.in_ok-put_hyps.ensures c.in_ok-put_goal.ensures
