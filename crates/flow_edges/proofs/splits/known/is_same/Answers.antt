use Rattle.flow_forms.specs.Comparisons.{comparison_tree}
use Rattle.flow_forms.proofs.SameComparisons.{same_answers}
use Rattle.flow_edges.proofs.splits.known.is_same.Goals as goal

pub returns : goal.returns
returns c =
    same_answers c.same_comparison.result (comparison_tree c.args.left.now) (comparison_tree c.args.right.now) c.same_comparison.ensures
