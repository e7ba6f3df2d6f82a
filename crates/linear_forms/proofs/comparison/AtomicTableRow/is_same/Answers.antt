use Rattle.std.proofs.lemmas.Bool.Decides.{same_from_decides}
use Rattle.linear_forms.specs.Sameness.{is_same_comparison}
use Rattle.linear_forms.proofs.Sameness.{is_same_comparison-decides}
use Rattle.linear_forms.proofs.comparison.AtomicTableRow.is_same.Goals as goal

pub returns : goal.returns
returns c =
    same_from_decides c.same_atomic.result (is_same_comparison c.args.self.now c.args.other.now) c.same_atomic.ensures
    (is_same_comparison-decides c.args.self.now c.args.other.now)
