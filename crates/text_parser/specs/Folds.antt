-- The fold of the actions over a phrase, from left to right, or the first fault.
use Rattle.std.specs.Prelude.{Bool, if◌then◌else◌, Result, Ok, Err}
use Rattle.text_parser.specs.declared.fault.TextFault.{TextFault}
use Rattle.text_parser.specs.declared.fault.TextFault.TheVariants.{NumberTooWide}
use Rattle.text_parser.specs.declared.reading.Context.{Context}
use Rattle.text_parser.specs.declared.reading.Operator.{Operator}
use Rattle.text_parser.specs.declared.reading.Operator.TheVariants.{Add, Subtract, Multiply}
use Rattle.text_parser.specs.Parsed.{◌>>=◌}
use Rattle.text_parser.specs.Actions.{Actions, enter, enter_not}
use Rattle.text_parser.specs.Phrases.{Symbol, term, prod, star, unit, cond, conj, lit, expr, mul, fac, Phrase, one_prod, more_prods, one_star, more_stars, bare, starred, zero_unit, one_unit, name_unit, not_unit, square_unit, round_unit, one_conj, more_conjs, one_lit, more_lits, true_lit, false_lit, name_lit, not_lit, round_lit, relation_lit, one_mul, more_muls, one_fac, more_facs, zero_fac, one_fac_number, number_fac, wide_fac, name_fac, round_fac}

-- the operator of a `-` or a `+`
abbrev pub operator_of : Bool → Operator
operator_of minus = if minus then Subtract else Add

-- the result for a phrase of a symbol; for a list, a function of how its first part joins what precedes it
abbrev pub Folded : (E B L T M : Type 0) → Symbol → Type 0
Folded E B L T M term = (T → M) → Result T TextFault
Folded E B L T M prod = (T → M) → Result T TextFault
Folded E B L T M star = Result T TextFault
Folded E B L T M unit = Result T TextFault
Folded E B L T M cond = (B → L) → Result B TextFault
Folded E B L T M conj = (B → L) → Result B TextFault
Folded E B L T M lit = Result B TextFault
Folded E B L T M expr = (E → E) → Result E TextFault
Folded E B L T M mul = (E → E) → Result E TextFault
Folded E B L T M fac = Result E TextFault

-- by the form of the phrase
abbrev pub fold : {E B L T M : Type 0} → Actions E B L T M → Context → {x : Symbol} → Phrase x → Folded E B L T M x
fold g c (one_prod p) = λ k. fold g c p g.one_of >>= λ v. Ok (g.sum (k v))
fold g c (more_prods p l t) = λ k. fold g c p g.one_of >>= λ v. fold g c t (g.more (k v))
fold g c (one_star s) = λ k. fold g c s >>= λ v. Ok (g.product (k v))
fold g c (more_stars s l p) = λ k. fold g c s >>= λ v. fold g c p (g.more (k v))
fold g c (bare u) = fold g c u
fold g c (starred u l) = fold g c u >>= g.starred c l.at
fold g c (zero_unit l) = Ok g.zero
fold g c (one_unit l) = Ok g.one
fold g c (name_unit l) = g.named c l.at l.text
fold g c (not_unit l u) = enter_not c l.at >>= λ d. fold g d u >>= λ v. Ok (g.negated v)
fold g c (square_unit l b r) = enter c l.at >>= λ d. fold g d b g.conds.one_of >>= λ v. Ok (g.tested v)
fold g c (round_unit l t r) = enter c l.at >>= λ d. fold g d t g.one_of >>= λ v. Ok (g.enclosed v)
fold g c (one_conj b) = λ k. fold g c b g.conds.one_of >>= λ v. Ok (g.conds.any (k v))
fold g c (more_conjs b l d) = λ k. fold g c b g.conds.one_of >>= λ v. fold g c d (g.conds.more (k v))
fold g c (one_lit x) = λ k. fold g c x >>= λ v. Ok (g.conds.all (k v))
fold g c (more_lits x l b) = λ k. fold g c x >>= λ v. fold g c b (g.conds.more (k v))
fold g c (true_lit l) = Ok g.conds.always
fold g c (false_lit l) = Ok g.conds.never
fold g c (name_lit l) = g.conds.named c l.at l.text
fold g c (not_lit l x) = enter_not c l.at >>= λ d. fold g d x >>= λ v. Ok (g.conds.negated v)
fold g c (round_lit l b r) = enter c l.at >>= λ d. fold g d b g.conds.one_of >>= λ v. Ok (g.conds.enclosed v)
fold g c (relation_lit e l r f) = fold g c e (λ v. v) >>= λ v. fold g c f (λ w. w) >>= λ w. Ok (g.conds.compare r v w)
fold g c (one_mul m) = λ k. fold g c m (λ v. v) >>= λ v. Ok (k v)
fold g c (more_muls m l minus e) = λ k. fold g c m (λ v. v) >>= λ v. fold g c e (g.conds.exprs.join (operator_of minus) (k v))
fold g c (one_fac x) = λ k. fold g c x >>= λ v. Ok (k v)
fold g c (more_facs x l m) = λ k. fold g c x >>= λ v. fold g c m (g.conds.exprs.join Multiply (k v))
fold g c (zero_fac l) = g.conds.exprs.number c l.at 0
fold g c (one_fac_number l) = g.conds.exprs.number c l.at 1
fold g c (number_fac l n) = g.conds.exprs.number c l.at n
fold g c (wide_fac l) = Err (NumberTooWide l.at)
fold g c (name_fac l) = g.conds.exprs.variable c l.at l.text
fold g c (round_fac l e r) = enter c l.at >>= λ d. fold g d e (λ v. v) >>= λ v. Ok (g.conds.exprs.enclosed v)
