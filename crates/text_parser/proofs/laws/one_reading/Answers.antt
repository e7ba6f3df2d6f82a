use Rattle.text_parser.proofs.Readings.{one_lexing, one_bad, not_both, some_reading}
use Rattle.text_parser.proofs.laws.one_reading.Goals as goal

pub returns-clause-tokens : goal.returns-clause-tokens
returns-clause-tokens c = one_lexing

pub returns-clause-places : goal.returns-clause-places
returns-clause-places c = one_bad

pub returns-clause-either : goal.returns-clause-either
returns-clause-either c = not_both

pub returns-clause-some : goal.returns-clause-some
returns-clause-some c = some_reading
