use Rattle.std.proofs.Common.{◌≡◌, List, ℕ, Result, Err, IfErr, inr, sym, subst, ap, ◌∙◌}
use Rattle.std.proofs.lemmas.Result.{err_from_is_err_and}
use Rattle.text_parser.specs.declared.fault.TextFault.{TextFault}
use Rattle.text_parser.specs.declared.fault.TextFault.TheVariants.{NoMemory}
use Rattle.problem_file.specs.FirstFaults.{no_text}
use Rattle.chain_rules.specs.Chains.{ChainTree}
use Rattle.chain_proofs.specs.Reads.{Reads, Answers}
use Rattle.chain_proofs.proofs.OneAnswer.{only_memory}
use Rattle.chain_proofs.proofs.TextRanges.{answered_in_range}
use Rattle.chain_proofs.proofs.reading.read_chain.Goals as goal

pub returns-in_err-text-clause-answers : goal.returns-in_err-text-clause-answers
returns-in_err-text-clause-answers c =
    let answer = err_from_is_err_and c.from_residual.result c.from_residual.ensures.1 in
    subst (Answers c.args.tests c.args.actions c.args.bytes.now) (sym (answer.1 ∙ ap (λ (f : TextFault). Err f) answer.2)) (inr (no_text c.in_err-text.ensures.fault))

pub returns-in_err-text-clause-only : goal.returns-in_err-text-clause-only
returns-in_err-text-clause-only c chain denotes =
    let answer = err_from_is_err_and c.from_residual.result c.from_residual.ensures.1 in
    subst (λ (r : Result ChainTree TextFault). IfErr r (λ e. e ≡ NoMemory)) (sym (answer.1 ∙ ap (λ (e : TextFault). Err e) answer.2)) (only_memory c.args.tests c.args.actions c.args.bytes.now chain (Err c.in_err-text.field-0.0) denotes (inr (no_text c.in_err-text.ensures.fault)))

pub returns-clause-only : goal.returns-clause-only
returns-clause-only c chain denotes = only_memory c.args.tests c.args.actions c.in_ok-text.text.now chain c.read_text.result (subst (λ bytes. Reads c.args.tests c.args.actions bytes chain) (sym c.in_ok-text.ensures.text) denotes) c.read_text.ensures

pub returns-clause-in_range : goal.returns-clause-in_range
returns-clause-in_range c = answered_in_range c.args.tests c.args.actions c.in_ok-text.text.now c.read_text.result c.read_text.ensures

pub returns-clause-answers : goal.returns-clause-answers
returns-clause-answers c = subst (λ (bytes : List ℕ). Answers c.args.tests c.args.actions bytes c.read_text.result) c.in_ok-text.ensures.text c.read_text.ensures
