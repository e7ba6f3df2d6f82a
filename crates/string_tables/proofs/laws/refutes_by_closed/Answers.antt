use Rattle.string_tables.proofs.Elimination.{refuted_differ, differ_refuted}
use Rattle.string_tables.proofs.laws.refutes_by_closed.Goals as goal

pub returns : goal.returns
returns c q x = (refuted_differ q x, (λ h. differ_refuted q x h.0 h.1))
