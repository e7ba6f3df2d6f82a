use Rattle.kat_model.proofs.ClosedDifferences.{differ_by_allowed}
use Rattle.kat_model.proofs.laws.differ_where_allowed.Goals as goal

pub returns : goal.returns
returns c q shorts longs atom ms split are = differ_by_allowed q.tests q.actions q.left q.right atom ms are q.hyps shorts longs split
