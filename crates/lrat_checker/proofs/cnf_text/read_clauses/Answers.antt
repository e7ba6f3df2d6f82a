use Rattle.std.proofs.Common.{◌≡◌, ℕ, List, sym, ◌∙◌, subst, Ok}
use mathlib.Core.Path.{ap₂}
use Rattle.lrat_checker.specs.Words.{WordParts, words_of, last_line}
use Rattle.lrat_checker.specs.CnfTexts.{after_header, clauses_from, cnf_of}
use Rattle.lrat_checker.specs.CnfParts.{CnfParts}
use Rattle.lrat_checker.specs.Answers.{ReadsCnf}
use Rattle.lrat_checker.specs.Working.ReadTexts.{left_of, last_of}
use Rattle.lrat_checker.specs.declared.cnf_text.CnfHeader.{CnfHeader}
use Rattle.lrat_checker.proofs.ReadSteps.{cnf_fault_passes}
use Rattle.lrat_checker.proofs.cnf_text.read_clauses.Goals as goal

-- the whole text, of which no word was read
whole_text : (bytes : List ℕ) (last : ℕ) (left : List WordParts) → left ≡ words_of bytes → last ≡ last_line bytes → after_header last (clauses_from last) left ≡ cnf_of bytes
whole_text bytes last left words end = ap₂ (λ (n : ℕ) (ws : List WordParts). after_header n (clauses_from n) ws) end words

pub returns-in-Err : goal.returns-in-Err
returns-in-Err c =
    let old = c.words_in-words.result in
    let mid = c.read_header.new.words in
    let last = last_of old in
    let whole = whole_text c.args.bytes.now last (left_of old) c.words_in-words.ensures.words c.words_in-words.ensures.last in
    cnf_fault_passes (after_header last (clauses_from last) (left_of old)) (cnf_of c.args.bytes.now) c.in-Err.fault (λ (h : CnfHeader). clauses_from last h.variables h.count (left_of mid)) (λ (f : CnfParts). Ok f) (λ e. sym whole ∙ e) (c.in-Err.ensures.value (clauses_from last))

pub returns-in-Ok : goal.returns-in-Ok
returns-in-Ok c =
    let old = c.words_in-words.result in
    let mid = c.read_header.new.words in
    let last = last_of old in
    let h = c.in-Ok.header in
    let whole = whole_text c.args.bytes.now last (left_of old) c.words_in-words.ensures.words c.words_in-words.ensures.last in
    let body = subst (λ (n : ℕ). ReadsCnf (clauses_from n h.variables h.count (left_of mid)) c.read_body.result) c.in-Ok.ensures.last c.read_body.ensures in
    subst (λ a. ReadsCnf a c.read_body.result) (sym (c.in-Ok.ensures.value (clauses_from last)) ∙ whole) body
