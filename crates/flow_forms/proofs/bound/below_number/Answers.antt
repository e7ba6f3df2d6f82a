use Rattle.std.proofs.Common.{◌≡◌, ◌∙◌}
use Rattle.std.proofs.lemmas.Result.{IfOk-weaker}
use Rattle.flow_forms.specs.Forms.{form_tree}
use Rattle.flow_forms.specs.Comparisons.{BoundTree, literal_tree, settled_bound, below_number}
use Rattle.flow_forms.specs.Equations.{bound_tree}
use Rattle.flow_forms.proofs.Bounds.{three_bounds}
use Rattle.flow_forms.proofs.bound.below_number.Goals as goal

pub returns : goal.returns
returns c =
    let a : BoundTree = record { width = c.args.width; form = form_tree c.args.form; number = c.args.number } in
    let d : BoundTree = bound_tree c.in_ok-third.third in
    let made : settled_bound d.width d.form d.number ≡ below_number a.width a.form a.number =
    three_bounds a (bound_tree c.in_ok-first.first) (bound_tree c.in_ok-second.second) d c.in_ok-first.ensures c.in_ok-second.ensures c.in_ok-third.ensures in
    IfOk-weaker c.settled.result (λ l. literal_tree l ≡ settled_bound d.width d.form d.number) (λ l. literal_tree l ≡ below_number a.width a.form a.number) (λ l q. q ∙ made) c.settled.ensures
