use Rattle.std.proofs.Common.{ℕ, sym, subst}
use Rattle.lrat_checker.specs.CnfTexts.{CnfAnswer}
use Rattle.lrat_checker.specs.Answers.{CnfGives}
use Rattle.lrat_checker.specs.Working.WordLists.{word_of}
use Rattle.lrat_checker.specs.Working.ReadTexts.{left_of, last_of}
use Rattle.lrat_checker.proofs.HeaderSteps.{count_some}
use Rattle.lrat_checker.proofs.cnf_text.read_count.Goals as goal

pub returns-in-Some-clause-value : goal.returns-in-Some-clause-value
returns-in-Some-clause-value c = λ more.
    let old = c.args.words.now in
    let left = left_of c.next_word.new.words in
    let next : ℕ → CnfAnswer = λ k. more k left in
    subst (λ a. CnfGives a c.count_of.result next) (sym (count_some c.args.most (last_of old) more (left_of old) left (word_of c.in-Some.word) c.in-Some.ensures.next)) (c.count_of.ensures.value next)
