use Rattle.std.proofs.Common.{ℕ}
use Rattle.lrat_checker.specs.CnfTexts.{after_variables}
use Rattle.lrat_checker.specs.Working.ReadTexts.{left_of, last_of}
use Rattle.lrat_checker.specs.declared.cnf_text.CnfHeader.{CnfHeader}
use Rattle.lrat_checker.proofs.ReadSteps.{cnf_fault_passes}
use Rattle.lrat_checker.proofs.cnf_text.read_after_variables.Goals as goal

pub returns-in-Err-clause-value : goal.returns-in-Err-clause-value
returns-in-Err-clause-value c = λ more.
    let old = c.args.words.now in
    let mid = c.read_count.new.words in
    let whole = after_variables (last_of old) more c.args.variables (left_of old) in
    cnf_fault_passes whole whole c.in-Err.fault (λ (k : ℕ). more c.args.variables k (left_of mid)) (λ (h : CnfHeader). more h.variables h.count (left_of mid)) (λ e. e) (c.in-Err.ensures.value (more c.args.variables))

pub returns-in-Ok-clause-value : goal.returns-in-Ok-clause-value
returns-in-Ok-clause-value c = λ more. c.in-Ok.ensures.value (more c.args.variables)
