use Rattle.std.proofs.Common.{◌-◌, length, arith, length-drop}
use Rattle.lrat_checker.proofs.GapSplits.{from_none, from_some}
use Rattle.lrat_checker.proofs.words.from_word.Goals as goal

pub returns-in-None : goal.returns-in-None
returns-in-None c = from_none c.args.line.now c.in-None.ensures

pub returns-in-Some : goal.returns-in-Some
returns-in-Some c =
    let line = c.args.line.now in
    from_some line c.in-Some.start (length line - c.in-Some.start) c.in-Some.ensures (omega (arith, length-drop c.in-Some.start line)) (omega (arith, length-drop c.in-Some.start line))
