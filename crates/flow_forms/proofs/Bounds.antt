-- Three steps of a bound.
use Rattle.std.proofs.Common.{◌≡◌, ◌∙◌, ap}
use Rattle.flow_forms.specs.Comparisons.{BoundTree, FlowLiteralTree, narrower_bound, settled_bound, below_number}

abbrev step : BoundTree → BoundTree
step b = narrower_bound b.width b.form b.number

abbrev settle : BoundTree → FlowLiteralTree
settle b = settled_bound b.width b.form b.number

pub three_bounds : (a b c d : BoundTree) → b ≡ narrower_bound a.width a.form a.number → c ≡ narrower_bound b.width b.form b.number → d ≡ narrower_bound c.width c.form c.number → settled_bound d.width d.form d.number ≡ below_number a.width a.form a.number
three_bounds a b c d p q r = ap settle (r ∙ ap step (q ∙ ap step p))
