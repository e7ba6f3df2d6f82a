use Rattle.text_parser.specs.Phrases.{term, cond, expr}
use Rattle.text_parser.specs.Scans.{scan_term, scan_cond, scan_expr}
use Rattle.text_parser.proofs.Scanned.{terms_taken, conds_taken, exprs_taken}
use Rattle.text_parser.proofs.Longest.{longest, ended}
use Rattle.text_parser.proofs.laws.phrases_end.Goals as goal

pub returns-clause-longest : goal.returns-clause-longest
returns-clause-longest c x p ts e = longest p ts e

pub returns-clause-terms : goal.returns-clause-terms
returns-clause-terms c = ended term scan_term terms_taken

pub returns-clause-conds : goal.returns-clause-conds
returns-clause-conds c = ended cond scan_cond conds_taken

pub returns-clause-exprs : goal.returns-clause-exprs
returns-clause-exprs c = ended expr scan_expr exprs_taken
