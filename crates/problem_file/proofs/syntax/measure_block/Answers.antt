use Rattle.std.proofs.Common.{drop}
use Rattle.text_parser.specs.Lexemes.{lexemes}
use Rattle.problem_file.proofs.BlockEnds.{block_ends, block_fails}
use Rattle.problem_file.proofs.syntax.measure_block.Goals as goal

pub returns-in-Ok-clause-value : goal.returns-in-Ok-clause-value
returns-in-Ok-clause-value c = block_ends (lexemes c.args.toks.now) (drop c.args.from (lexemes c.args.toks.now)) c.in-Ok.end c.in-Ok.ensures.value

pub returns-in-Err-clause-value : goal.returns-in-Err-clause-value
returns-in-Err-clause-value c = block_fails (lexemes c.args.toks.now) (drop c.args.from (lexemes c.args.toks.now)) c.in-Err.fault c.in-Err.ensures.value c.in-Err.ensures.fault
