use Rattle.text_parser.proofs.Measured.{term_decided, cond_decided, expr_decided}
use Rattle.text_parser.proofs.laws.sound_phrases_are_measured.Goals as goal

pub returns-clause-terms : goal.returns-clause-terms
returns-clause-terms c w d p = term_decided w d p

pub returns-clause-conds : goal.returns-clause-conds
returns-clause-conds c w d p = cond_decided w d p

pub returns-clause-exprs : goal.returns-clause-exprs
returns-clause-exprs c w d p = expr_decided w d p
