use Rattle.text_parser.proofs.Scanned.{terms_taken, conds_taken, exprs_taken}
use Rattle.text_parser.proofs.laws.grammar_is_scanned.Goals as goal

pub returns-clause-terms : goal.returns-clause-terms
returns-clause-terms c = terms_taken

pub returns-clause-conds : goal.returns-clause-conds
returns-clause-conds c = conds_taken

pub returns-clause-exprs : goal.returns-clause-exprs
returns-clause-exprs c = exprs_taken
