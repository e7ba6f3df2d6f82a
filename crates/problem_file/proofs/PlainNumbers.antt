-- A phrase in which comparisons are not allowed has no number except 0 and 1.
use Rattle.std.proofs.Common.{◌≡◌, List, true, false, sym, ◌∙◌}
use Rattle.std.proofs.lemmas.Bool.{false≢true}
use Rattle.kat_model.specs.declared.expression.Width.{Width}
use Rattle.text_parser.specs.declared.terminal.Terminal.TheVariants.{Minus, Dot, Plus, Star, Or, And, Compares, RoundClose, SquareClose}
use Rattle.text_parser.specs.declared.reading.Context.{Context}
use Rattle.text_parser.specs.Lexemes.{Lexeme}
use Rattle.text_parser.specs.Phrases.{Symbol, Phrase, one_prod, more_prods, one_star, more_stars, bare, starred, zero_unit, one_unit, name_unit, not_unit, square_unit, round_unit, one_conj, more_conjs, one_lit, more_lits, true_lit, false_lit, name_lit, not_lit, round_lit, relation_lit, one_mul, more_muls, one_fac, more_facs, zero_fac, one_fac_number, number_fac, wide_fac, name_fac, round_fac, cons_token, yield_before, IsWithinLimits}
use Rattle.text_parser.specs.ScopeParts.{ScopeParts}
use Rattle.text_parser.specs.Sound.{inside, inside_not, IsSound}
use Rattle.problem_file.specs.Numbers.{AreNarrow}

module _ (v : Width) where
  pub narrow : (w : ScopeParts) (c : Context) {x : Symbol} (p : Phrase x) → IsSound w c p → IsWithinLimits c.depth p → c.compares ≡ false → (ts : List Lexeme) → AreNarrow v ts → AreNarrow v (yield_before p ts)
  narrow w c (one_prod p) s f n ts h = narrow w c p s f n ts h
  narrow w c (more_prods p l t) s f n ts h = narrow w c p s.0 f.0 n (cons_token Plus l (yield_before t ts)) (tt, narrow w c t s.1 f.1 n ts h)
  narrow w c (one_star p) s f n ts h = narrow w c p s f n ts h
  narrow w c (more_stars p l t) s f n ts h = narrow w c p s.0 f.0 n (cons_token Dot l (yield_before t ts)) (tt, narrow w c t s.1 f.1 n ts h)
  narrow w c (bare u) s f n ts h = narrow w c u s f n ts h
  narrow w c (starred u l) s f n ts h = narrow w c u s.1 f n (cons_token Star l ts) (tt, h)
  narrow w c (zero_unit l) s f n ts h = (tt, h)
  narrow w c (one_unit l) s f n ts h = (tt, h)
  narrow w c (name_unit l) s f n ts h = (tt, h)
  narrow w c (not_unit l u) s f n ts h = (tt, narrow w (inside_not c) u s f.1 n ts h)
  narrow w c (square_unit l b r) s f n ts h = (tt, narrow w (inside c) b s f.1 n (cons_token SquareClose r ts) (tt, h))
  narrow w c (round_unit l t r) s f n ts h = (tt, narrow w (inside c) t s f.1 n (cons_token RoundClose r ts) (tt, h))
  narrow w c (one_conj b) s f n ts h = narrow w c b s f n ts h
  narrow w c (more_conjs b l d) s f n ts h = narrow w c b s.0 f.0 n (cons_token Or l (yield_before d ts)) (tt, narrow w c d s.1 f.1 n ts h)
  narrow w c (one_lit x) s f n ts h = narrow w c x s f n ts h
  narrow w c (more_lits x l b) s f n ts h = narrow w c x s.0 f.0 n (cons_token And l (yield_before b ts)) (tt, narrow w c b s.1 f.1 n ts h)
  narrow w c (true_lit l) s f n ts h = (tt, h)
  narrow w c (false_lit l) s f n ts h = (tt, h)
  narrow w c (name_lit l) s f n ts h = (tt, h)
  narrow w c (not_lit l x) s f n ts h = (tt, narrow w (inside_not c) x s f.1 n ts h)
  narrow w c (round_lit l b r) s f n ts h = (tt, narrow w (inside c) b s f.1 n (cons_token RoundClose r ts) (tt, h))
  narrow w c (relation_lit e l r g) s f n ts h = narrow w c e s.0 f.0 n (cons_token (Compares r) l (yield_before g ts)) (tt, narrow w c g s.1 f.1 n ts h)
  narrow w c (one_mul m) s f n ts h = narrow w c m s f n ts h
  narrow w c (more_muls m l true e) s f n ts h = narrow w c m s.0 f.0 n (cons_token Minus l (yield_before e ts)) (tt, narrow w c e s.1 f.1 n ts h)
  narrow w c (more_muls m l false e) s f n ts h = narrow w c m s.0 f.0 n (cons_token Plus l (yield_before e ts)) (tt, narrow w c e s.1 f.1 n ts h)
  narrow w c (one_fac x) s f n ts h = narrow w c x s f n ts h
  narrow w c (more_facs x l m) s f n ts h = narrow w c x s.0 f.0 n (cons_token Star l (yield_before m ts)) (tt, narrow w c m s.1 f.1 n ts h)
  narrow w c (zero_fac l) s f n ts h = (tt, h)
  narrow w c (one_fac_number l) s f n ts h = (tt, h)
  narrow w c (number_fac l k) s f n ts h = absurd (false≢true (sym n ∙ s))
  narrow w c (wide_fac l) s f n ts h = absurd f
  narrow w c (name_fac l) s f n ts h = (tt, h)
  narrow w c (round_fac l e r) s f n ts h = (tt, narrow w (inside c) e s f.1 n (cons_token RoundClose r ts) (tt, h))
