-- A pass with any actions gives the fold of the actions over the phrase.
use Rattle.text_parser.specs.Actions.{Actions}
use Rattle.text_parser.specs.Exprs.{sums}
use Rattle.text_parser.specs.Conds.{disjunction}
use Rattle.text_parser.specs.Terms.{choice}
use Rattle.text_parser.proofs.ParserCompleteness.{term_parsed, cond_parsed, expr_parsed}
use Rattle.text_parser.proofs.ParserSoundness.{expr_found, cond_found, term_found}
use Rattle.text_parser.specs.Laws.{PassesPhrases}

pub phrases_passed : {E B L T M : Type 0} → (g : Actions E B L T M) → PassesPhrases g
phrases_passed g = record {
  terms = λ c p ts o h. term_parsed g p c ts o h;
  conds = λ c p ts o h. cond_parsed g p c ts o h;
  exprs = λ c p ts o h. expr_parsed g p c ts o h;
  read_terms = λ c ts rest t e. term_found g choice c ts (t, rest) e;
  read_conds = λ c ts rest b e. cond_found g.conds disjunction c ts (b, rest) e;
  read_exprs = λ c ts rest v e. expr_found g.conds.exprs sums c ts (v, rest) e;
}
