use Rattle.std.proofs.Common.{◌+◌, ◌-◌, ◌<◌, length, sym, ◌∙◌, arith, length-drop}
use Rattle.lrat_checker.proofs.GapSplits.{word_at_gap, word_at_end, shorter_after, some_from}
use Rattle.lrat_checker.proofs.words.first_word.Goals as goal

pub returns-in-None-clause-some : goal.returns-in-None-clause-some
returns-in-None-clause-some c =
    let rest = c.from_word-rest.result.now in
    let some : 0 < length rest = some_from (length rest) c.if-is_empty.ensures in
    record {
      parts = sym c.from_word-rest.ensures.parts ∙ word_at_end rest some c.in-None.ensures;
      shorter = omega (arith, some, c.from_word-rest.ensures.within);
    }

pub returns-in-Some-clause-some : goal.returns-in-Some-clause-some
returns-in-Some-clause-some c =
    let rest = c.from_word-rest.result.now in
    let end = c.in-Some.end in
    record {
      parts = sym c.from_word-rest.ensures.parts ∙ word_at_gap rest end (length rest - (end + 1)) c.from_word-rest.ensures.begins c.in-Some.ensures (omega (arith, length-drop (end + 1) rest));
      shorter = shorter_after rest end c.args.line.now c.in-Some.ensures c.from_word-rest.ensures.within;
    }
