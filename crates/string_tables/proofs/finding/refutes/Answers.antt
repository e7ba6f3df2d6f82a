use Rattle.std.proofs.Common.{refl}
use Rattle.std.proofs.lemmas.Bool.{false≢true}
use Rattle.string_tables.proofs.Ends.{refuted_by, not_refuted}
use Rattle.string_tables.proofs.finding.refutes.Goals as goal

pub returns-in-Refutes : goal.returns-in-Refutes
returns-in-Refutes c =
    ((λ _. refuted_by c.args.problem.now c.args.string.now c.in-Refutes.field-0 (rw c.in-Refutes.is at c.in_ok-verdict.ensures)), (λ _. refl))

pub returns-in_default : goal.returns-in_default
returns-in_default c = (
  (λ no_truth. absurd (false≢true no_truth)),
  (λ r. absurd (not_refuted c.args.problem.now c.args.string.now c.in_ok-verdict.field-0 c.in_default.not-Refutes c.in_ok-verdict.ensures r)),
)
