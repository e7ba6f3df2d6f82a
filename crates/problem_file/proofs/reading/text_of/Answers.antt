use Rattle.std.proofs.Common.{refl, sym, subst, arith}
use Rattle.std.specs.Str.{IsValidUpTo}
use Rattle.problem_file.specs.FirstFaults.{not_utf8}
use Rattle.problem_file.proofs.reading.text_of.Goals as goal

pub returns-in-Err-clause-fault : goal.returns-in-Err-clause-fault
returns-in-Err-clause-fault c =
    not_utf8 c.valid_up_to.result refl (omega (arith, c.if-bytes-gt-MAX_LEN.false)) (subst (IsValidUpTo c.args.bytes.now) (sym c.valid_up_to.ensures) c.in-Err.ensures.cases.1)
