use Rattle.std.proofs.Common.{ap, ◌∙◌}
use mathlib.Core.Path.{ap₂}
use Rattle.while_lang.specs.FlowViews.{flows_tree}
use Rattle.bench_problems.specs.Generator.{followed_by}
use Rattle.bench_problems.proofs.DrawnPrograms.{flows_tree-append}
use Rattle.bench_problems.proofs.blocks.join.Goals as goal

pub returns : goal.returns
returns c =
    ap flows_tree c.in_ok-append.ensures.items ∙ flows_tree-append c.first.inside.list.items c.second.inside.list.items ∙ ap₂ followed_by c.first.view_is c.second.view_is
