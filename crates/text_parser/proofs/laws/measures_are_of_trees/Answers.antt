use Rattle.text_parser.proofs.Measured.{term_measured, cond_measured, expr_measured}
use Rattle.text_parser.proofs.laws.measures_are_of_trees.Goals as goal

pub returns-clause-terms : goal.returns-clause-terms
returns-clause-terms c w d p m none e = term_measured w d p m none e

pub returns-clause-conds : goal.returns-clause-conds
returns-clause-conds c w d p m e = cond_measured w d p m e

pub returns-clause-exprs : goal.returns-clause-exprs
returns-clause-exprs c w d p m e = expr_measured w d p m e
