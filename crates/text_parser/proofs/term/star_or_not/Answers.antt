use Rattle.std.proofs.Common.{◌+◌, drop}
use Rattle.text_parser.specs.Lexemes.{lexemes, text_at}
use Rattle.text_parser.specs.Terms.{star_or_not}
use Rattle.text_parser.proofs.PartFaults.{end_made}
use Rattle.text_parser.proofs.TermSteps.{star_seen}
use Rattle.text_parser.proofs.term.star_or_not.Goals as goal

pub returns-in-Some-Star-default-clause-value : goal.returns-in-Some-Star-default-clause-value
returns-in-Some-Star-default-clause-value g c =
    let x = g.R.Reading.actions c.args.reading.now in
    let ts = lexemes c.args.toks.now in
    let us = drop c.args.i ts in
    let t = g.R.Reading.term c.args.operand in
    let seen = c.in-Some-Star-default in
    end_made g.R.Reading.memory g.R.Reading.term ts (c.args.i + 1) c.with_end.result c.starred.result (x.starred c.args.context seen.at t) (star_or_not x c.args.context t us) c.with_end.ensures c.starred.ensures
    (star_seen x c.args.context t us seen.field-0-0 seen.at (text_at c.args.toks.now c.args.i) (drop (c.args.i + 1) ts) seen.ensures.0 seen.field-0-0-is)
