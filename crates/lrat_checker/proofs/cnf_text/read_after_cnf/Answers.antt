use Rattle.std.proofs.Common.{◌≡◌, ℕ, sym, subst}
use Rattle.lrat_checker.specs.CnfTexts.{CnfAnswer, after_cnf, after_variables}
use Rattle.lrat_checker.specs.Answers.{CnfGives}
use Rattle.lrat_checker.specs.Working.ReadTexts.{left_of, last_of}
use Rattle.lrat_checker.specs.declared.cnf_text.CnfHeader.{CnfHeader}
use Rattle.lrat_checker.proofs.ReadSteps.{cnf_fault_passes}
use Rattle.lrat_checker.proofs.cnf_text.read_after_cnf.Goals as goal

pub returns-in-Err-clause-value : goal.returns-in-Err-clause-value
returns-in-Err-clause-value c = λ more.
    let old = c.args.words.now in
    let mid = c.read_count.new.words in
    let whole = after_cnf (last_of old) more (left_of old) in
    cnf_fault_passes whole whole c.in-Err.fault (λ (k : ℕ). after_variables (last_of old) more k (left_of mid)) (λ (h : CnfHeader). more h.variables h.count (left_of mid)) (λ e. e) (c.in-Err.ensures.value (after_variables (last_of old) more))

pub returns-in-Ok-clause-value : goal.returns-in-Ok-clause-value
returns-in-Ok-clause-value c = λ more.
    let old = c.args.words.now in
    let mid = c.read_count.new.words in
    let next : CnfHeader → CnfAnswer = λ h. more h.variables h.count (left_of c.read_after_variables.new.words) in
    let first : after_cnf (last_of old) more (left_of old) ≡ after_variables (last_of old) more c.in-Ok.variables (left_of mid) = c.in-Ok.ensures.value (after_variables (last_of old) more) in
    subst (λ a. CnfGives a c.read_after_variables.result next) (sym first) (subst (λ (n : ℕ). CnfGives (after_variables n more c.in-Ok.variables (left_of mid)) c.read_after_variables.result next) c.in-Ok.ensures.last (c.read_after_variables.ensures.value more))
