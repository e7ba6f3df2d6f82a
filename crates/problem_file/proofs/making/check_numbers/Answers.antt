use Rattle.std.proofs.Common.{◌≤◌, length, arith}
use Rattle.std.proofs.lemmas.Result.{err_from_is_err_and}
use Rattle.text_parser.specs.Lexemes.{lexemes}
use Rattle.problem_file.proofs.Lists.{lexemes_length}
use Rattle.problem_file.proofs.NumberChecks.{numbers_go, numbers_fail}
use Rattle.problem_file.proofs.making.check_numbers.Goals as goal

pub returns-in_err-check_number : goal.returns-in_err-check_number
returns-in_err-check_number c =
    let ts = lexemes c.args.toks.now in
    let within : c.args.end ≤ length ts = omega (arith, lexemes_length c.args.toks.now, c.requires.within) in
    let p = err_from_is_err_and c.from_residual.result c.from_residual.ensures.1 in
    rw (p.1, p.2) (numbers_fail c.args.width ts c.args.from c.numbers.at c.args.end c.numbers-test.true within c.numbers.invariant.1 _ c.in_err-check_number.ensures)

pub numbers-preserved : goal.numbers-preserved
numbers-preserved c =
    let ts = lexemes c.args.toks.now in
    let within : c.args.end ≤ length ts = omega (arith, lexemes_length c.args.toks.now, c.requires.within) in
    (omega (arith, c.numbers-test.true), numbers_go c.args.width ts c.args.from c.numbers.at c.args.end c.numbers-test.true within c.numbers.invariant.1 c.in_ok-check_number.ensures)
