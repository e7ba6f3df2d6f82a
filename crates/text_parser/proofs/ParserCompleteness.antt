-- Parsing the tokens of a phrase gives the fold of the phrase.
use Rattle.std.proofs.Common.{◌≡◌, List, Bool, true, false, Result, Ok, Err, refl, ap, ◌∙◌}
use Rattle.text_parser.specs.declared.fault.TextFault.{TextFault}
use Rattle.text_parser.specs.declared.terminal.Terminal.{Terminal}
use Rattle.text_parser.specs.declared.terminal.Terminal.TheVariants.{RoundClose, SquareClose, Star, Plus, Dot, And, Or, Compares}
use Rattle.text_parser.specs.declared.reading.Context.{Context}
use Rattle.text_parser.specs.declared.reading.Operator.TheVariants.{Multiply}
use Rattle.text_parser.specs.Lexemes.{Lexeme, heads, is_sum, is_terminal}
use Rattle.text_parser.specs.Parsed.{Parsed, ◌>>=◌, before, change, then_expects}
use Rattle.text_parser.specs.Actions.{Actions, enter, enter_not}
use Rattle.text_parser.specs.Exprs.{operator_at, sums, sums_after, products, products_after, factor, parse_expr}
use Rattle.text_parser.specs.Conds.{relation, comparison, disjunction, disjunction_after, conjunction, conjunction_after, literal, literal_by, parse_cond}
use Rattle.text_parser.specs.Terms.{choice, choice_after, sequence, sequence_after, unit as unit_aim, star_or_not, parse_term}
use Rattle.text_parser.specs.Phrases.{Symbol, term, prod, star, unit, cond, conj, lit, expr, mul, fac, Leaf, Phrase, one_prod, more_prods, one_star, more_stars, bare, starred, zero_unit, one_unit, name_unit, not_unit, square_unit, round_unit, one_conj, more_conjs, one_lit, more_lits, true_lit, false_lit, name_lit, not_lit, round_lit, relation_lit, one_mul, more_muls, one_fac, more_facs, zero_fac, one_fac_number, number_fac, wide_fac, name_fac, round_fac, cons_token, sum_terminal, yield_before, BeginsExpr, MeetsLookahead, IsLongest}
use Rattle.text_parser.specs.Folds.{operator_of, Folded, fold}
use Rattle.text_parser.proofs.ExprSteps.{expr_step}
use Rattle.text_parser.proofs.CondSteps.{cond_step}
use Rattle.text_parser.proofs.TermSteps.{term_step}

-- the value of a part, then the rest
pub then_rest : {V W : Type 0} (ts us : List Lexeme) (v : Result V TextFault) (k : V × List Lexeme → Parsed W) (l : V → Result W TextFault) → ((x : V) → k (x, ts) ≡ before us (l x)) → (before ts v >>= k) ≡ before us (v >>= l)
then_rest ts us (Ok v) k l h = h v
then_rest ts us (Err e) k l h = refl

regroup : {X Y Z : Type 0} (r : Result X TextFault) (k : X → Result Y TextFault) (l : Y → Result Z TextFault) → (r >>= λ x. k x >>= l) ≡ ((r >>= k) >>= l)
regroup (Ok x) k l = refl
regroup (Err e) k l = refl

-- a check, then the rest
pub checked : {A W : Type 0} (ts : List Lexeme) (r : Result A TextFault) (k : A → Parsed W) (l : A → Result W TextFault) → ((x : A) → k x ≡ before ts (l x)) → (r >>= k) ≡ before ts (r >>= l)
checked ts (Ok x) k l h = h x
checked ts (Err e) k l h = refl

pub changed : {V W : Type 0} (ts : List Lexeme) (f : V → W) (v : Result V TextFault) → change f (before ts v) ≡ before ts (v >>= λ x. Ok (f x))
changed ts f (Ok v) = refl
changed ts f (Err e) = refl

-- a value, then the token that must follow it
pub closed : {V : Type 0} (s : Terminal) (l : Leaf) (ts : List Lexeme) (v : Result V TextFault) → is_terminal s s ≡ true → then_expects (is_terminal s) (before (cons_token s l ts) v) ≡ before ts v
closed s l ts (Ok v) same = rw same refl
closed s l ts (Err e) same = refl

sum_joins : (minus : Bool) (l : Leaf) (ts : List Lexeme) → heads is_sum (cons_token (sum_terminal minus) l ts) ≡ true
sum_joins true l ts = refl
sum_joins false l ts = refl

operator_is : (minus : Bool) (l : Leaf) (ts : List Lexeme) → operator_at (cons_token (sum_terminal minus) l ts) ≡ operator_of minus
operator_is true l ts = refl
operator_is false l ts = refl

module _ {E B L T M : Type 0} (g : Actions E B L T M) where
  abbrev from_products : Context → (E → E) → List Lexeme → Parsed E
  from_products c k ms = parse_expr g.conds.exprs products c ms >>= λ x. parse_expr g.conds.exprs (sums_after (k x.0)) c x.1

  abbrev from_factors : Context → (E → E) → List Lexeme → Parsed E
  from_factors c k ms = parse_expr g.conds.exprs factor c ms >>= λ x. parse_expr g.conds.exprs (products_after (k x.0)) c x.1

  abbrev from_conjunctions : Context → (B → L) → List Lexeme → Parsed B
  from_conjunctions c k ms = parse_cond g.conds conjunction c ms >>= λ x. parse_cond g.conds (disjunction_after (k x.0)) c x.1

  abbrev from_literals : Context → (B → L) → List Lexeme → Parsed B
  from_literals c k ms = parse_cond g.conds literal c ms >>= λ x. parse_cond g.conds (conjunction_after (k x.0)) c x.1

  abbrev from_sequences : Context → (T → M) → List Lexeme → Parsed T
  from_sequences c k ms = parse_term g sequence c ms >>= λ x. parse_term g (choice_after (k x.0)) c x.1

  abbrev from_units : Context → (T → M) → List Lexeme → Parsed T
  from_units c k ms = parse_term g unit_aim c ms >>= λ x. star_or_not g c x.0 x.1 >>= λ y. parse_term g (sequence_after (k y.0)) c y.1

  abbrev starred_unit : Context → List Lexeme → Parsed T
  starred_unit c ms = parse_term g unit_aim c ms >>= λ x. star_or_not g c x.0 x.1

  abbrev Reads : (x : Symbol) → Context → List Lexeme → List Lexeme → Folded E B L T M x → Type 0
  Reads term c ms ts v = (k : T → M) → from_sequences c k ms ≡ before ts (v k)
  Reads prod c ms ts v = (k : T → M) → from_units c k ms ≡ before ts (v k)
  Reads star c ms ts v = starred_unit c ms ≡ before ts v
  Reads unit c ms ts v = parse_term g unit_aim c ms ≡ before ts v
  Reads cond c ms ts v = (k : B → L) → from_conjunctions c k ms ≡ before ts (v k)
  Reads conj c ms ts v = (k : B → L) → from_literals c k ms ≡ before ts (v k)
  Reads lit c ms ts v = parse_cond g.conds literal c ms ≡ before ts v
  Reads expr c ms ts v = (k : E → E) → from_products c k ms ≡ before ts (v k)
  Reads mul c ms ts v = (k : E → E) → from_factors c k ms ≡ before ts (v k)
  Reads fac c ms ts v = parse_expr g.conds.exprs factor c ms ≡ before ts v

  unstarred : (c : Context) (t : T) (ts : List Lexeme) → heads (is_terminal Star) ts ≡ false → star_or_not g c t ts ≡ Ok (t, ts)
  unstarred c t ts e = rw e refl

  unstarred_kept : (c : Context) (ts : List Lexeme) (v : Result T TextFault) → heads (is_terminal Star) ts ≡ false → (before ts v >>= λ x. star_or_not g c x.0 x.1) ≡ before ts v
  unstarred_kept c ts (Ok v) e = unstarred c v ts e
  unstarred_kept c ts (Err x) e = refl

  -- after a unit with its star, the rest of the list continues or ends
  sequences_go : (c : Context) (k : T → M) (ms ts : List Lexeme) (v : Result T TextFault) → starred_unit c ms ≡ before ts v → from_units c k ms ≡ (before ts v >>= λ y. parse_term g (sequence_after (k y.0)) c y.1)
  sequences_go c k ms ts v h = regroup (parse_term g unit_aim c ms) (λ x. star_or_not g c x.0 x.1) (λ y. parse_term g (sequence_after (k y.0)) c y.1) ∙ ap (λ (m : Parsed T). m >>= λ y. parse_term g (sequence_after (k y.0)) c y.1) h

  pub sequence_is : (c : Context) (ms ts : List Lexeme) (v : (T → M) → Result T TextFault) → ((k : T → M) → from_units c k ms ≡ before ts (v k)) → parse_term g sequence c ms ≡ before ts (v g.one_of)
  sequence_is c ms ts v h = term_step g sequence c ms ∙ h g.one_of

  pub conjunction_is : (c : Context) (ms ts : List Lexeme) (v : (B → L) → Result B TextFault) → ((k : B → L) → from_literals c k ms ≡ before ts (v k)) → parse_cond g.conds conjunction c ms ≡ before ts (v g.conds.one_of)
  conjunction_is c ms ts v h = cond_step g.conds conjunction c ms ∙ h g.conds.one_of

  pub disjunction_is : (c : Context) (ms ts : List Lexeme) (v : (B → L) → Result B TextFault) → ((k : B → L) → from_conjunctions c k ms ≡ before ts (v k)) → parse_cond g.conds disjunction c ms ≡ before ts (v g.conds.one_of)
  disjunction_is c ms ts v h = cond_step g.conds disjunction c ms ∙ h g.conds.one_of

  pub products_is : (c : Context) (ms ts : List Lexeme) (v : (E → E) → Result E TextFault) → ((k : E → E) → from_factors c k ms ≡ before ts (v k)) → parse_expr g.conds.exprs products c ms ≡ before ts (v (λ e. e))
  products_is c ms ts v h = expr_step g.conds.exprs products c ms ∙ h (λ e. e)

  pub sums_is : (c : Context) (ms ts : List Lexeme) (v : (E → E) → Result E TextFault) → ((k : E → E) → from_products c k ms ≡ before ts (v k)) → parse_expr g.conds.exprs sums c ms ≡ before ts (v (λ e. e))
  sums_is c ms ts v h = expr_step g.conds.exprs sums c ms ∙ h (λ e. e)

  -- an expression at the start of a condition is read as a comparison
  factor_compared : (q : Phrase fac) (c : Context) (ts : List Lexeme) → BeginsExpr (yield_before q ts) → literal_by g.conds (parse_cond g.conds) c (yield_before q ts) ≡ comparison g.conds c (yield_before q ts)
  factor_compared (zero_fac l) c ts h = refl
  factor_compared (one_fac_number l) c ts h = refl
  factor_compared (number_fac l n) c ts h = refl
  factor_compared (wide_fac l) c ts h = refl
  factor_compared (name_fac l) c ts h = rw h refl
  factor_compared (round_fac l e r) c ts h = rw h refl

  product_compared : (m : Phrase mul) (c : Context) (ts : List Lexeme) → BeginsExpr (yield_before m ts) → literal_by g.conds (parse_cond g.conds) c (yield_before m ts) ≡ comparison g.conds c (yield_before m ts)
  product_compared (one_fac q) c ts h = factor_compared q c ts h
  product_compared (more_facs q l m) c ts h = factor_compared q c (cons_token Star l (yield_before m ts)) h

  compared : (e : Phrase expr) (c : Context) (ts : List Lexeme) → BeginsExpr (yield_before e ts) → literal_by g.conds (parse_cond g.conds) c (yield_before e ts) ≡ comparison g.conds c (yield_before e ts)
  compared (one_mul m) c ts h = product_compared m c ts h
  compared (more_muls m l minus e) c ts h = product_compared m c (cons_token (sum_terminal minus) l (yield_before e ts)) h

  pub parsed : {x : Symbol} (p : Phrase x) (c : Context) (ts : List Lexeme) → MeetsLookahead p ts → IsLongest p ts → Reads x c (yield_before p ts) ts (fold g c p)
  parsed (one_prod p) c ts o h = λ k. ap (λ (m : Parsed T). m >>= λ x. parse_term g (choice_after (k x.0)) c x.1) (sequence_is c (yield_before p ts) ts (fold g c p) (parsed p c ts o h.1))
      ∙ then_rest ts ts (fold g c p g.one_of) (λ x. parse_term g (choice_after (k x.0)) c x.1) (λ v. Ok (g.sum (k v))) (λ v. term_step g (choice_after (k v)) c ts ∙ rw (h.0) refl)
  parsed (more_prods p l t) c ts o h = λ k. let us = cons_token Plus l (yield_before t ts) in
      ap (λ (m : Parsed T). m >>= λ x. parse_term g (choice_after (k x.0)) c x.1) (sequence_is c (yield_before p us) us (fold g c p) (parsed p c us o.0 h.0))
      ∙ then_rest us ts (fold g c p g.one_of) (λ x. parse_term g (choice_after (k x.0)) c x.1) (λ v. fold g c t (g.more (k v))) (λ v. term_step g (choice_after (k v)) c us ∙ parsed t c ts o.1 h.1 (g.more (k v)))
  parsed (one_star x) c ts o h = λ k. sequences_go c k (yield_before x ts) ts (fold g c x) (parsed x c ts o h.1)
      ∙ then_rest ts ts (fold g c x) (λ y. parse_term g (sequence_after (k y.0)) c y.1) (λ v. Ok (g.product (k v))) (λ v. term_step g (sequence_after (k v)) c ts ∙ rw (h.0) refl)
  parsed (more_stars x l p) c ts o h = λ k. let us = cons_token Dot l (yield_before p ts) in
      sequences_go c k (yield_before x us) us (fold g c x) (parsed x c us o.0 h.0)
      ∙ then_rest us ts (fold g c x) (λ y. parse_term g (sequence_after (k y.0)) c y.1) (λ v. fold g c p (g.more (k v))) (λ v. term_step g (sequence_after (k v)) c us ∙ parsed p c ts o.1 h.1 (g.more (k v)))
  parsed (bare u) c ts o h = ap (λ (m : Parsed T). m >>= λ x. star_or_not g c x.0 x.1) (parsed u c ts o h.1) ∙ unstarred_kept c ts (fold g c u) h.0
  parsed (starred u l) c ts o h = ap (λ (m : Parsed T). m >>= λ x. star_or_not g c x.0 x.1) (parsed u c (cons_token Star l ts) o h)
      ∙ then_rest (cons_token Star l ts) ts (fold g c u) (λ x. star_or_not g c x.0 x.1) (g.starred c l.at) (λ v. refl)
  parsed (zero_unit l) c ts o h = term_step g unit_aim c _
  parsed (one_unit l) c ts o h = term_step g unit_aim c _
  parsed (name_unit l) c ts o h = term_step g unit_aim c _
  parsed (not_unit l u) c ts o h = term_step g unit_aim c _ ∙ checked ts (enter_not c l.at) (λ d. change g.negated (parse_term g unit_aim d (yield_before u ts))) (λ d. fold g d u >>= λ v. Ok (g.negated v))
      (λ d. ap (change g.negated) (parsed u d ts o h) ∙ changed ts g.negated (fold g d u))
  parsed (square_unit l b r) c ts o h = let us = cons_token SquareClose r ts in
      term_step g unit_aim c _ ∙ checked ts (enter c l.at) (λ d. change g.tested (then_expects (is_terminal SquareClose) (parse_cond g.conds disjunction d (yield_before b us)))) (λ d. fold g d b g.conds.one_of >>= λ v. Ok (g.tested v))
      (λ d. ap (λ (m : Parsed B). change g.tested (then_expects (is_terminal SquareClose) m)) (disjunction_is d (yield_before b us) us (fold g d b) (parsed b d us o h)) ∙ ap (change g.tested) (closed SquareClose r ts (fold g d b g.conds.one_of) refl) ∙ changed ts g.tested (fold g d b g.conds.one_of))
  parsed (round_unit l t r) c ts o h = let us = cons_token RoundClose r ts in
      term_step g unit_aim c _ ∙ checked ts (enter c l.at) (λ d. change g.enclosed (then_expects (is_terminal RoundClose) (parse_term g choice d (yield_before t us)))) (λ d. fold g d t g.one_of >>= λ v. Ok (g.enclosed v))
      (λ d. ap (λ (m : Parsed T). change g.enclosed (then_expects (is_terminal RoundClose) m)) (term_step g choice d (yield_before t us) ∙ parsed t d us o h g.one_of) ∙ ap (change g.enclosed) (closed RoundClose r ts (fold g d t g.one_of) refl) ∙ changed ts g.enclosed (fold g d t g.one_of))
  parsed (one_conj b) c ts o h = λ k. ap (λ (m : Parsed B). m >>= λ x. parse_cond g.conds (disjunction_after (k x.0)) c x.1) (conjunction_is c (yield_before b ts) ts (fold g c b) (parsed b c ts o h.1))
      ∙ then_rest ts ts (fold g c b g.conds.one_of) (λ x. parse_cond g.conds (disjunction_after (k x.0)) c x.1) (λ v. Ok (g.conds.any (k v))) (λ v. cond_step g.conds (disjunction_after (k v)) c ts ∙ rw (h.0) refl)
  parsed (more_conjs b l d) c ts o h = λ k. let us = cons_token Or l (yield_before d ts) in
      ap (λ (m : Parsed B). m >>= λ x. parse_cond g.conds (disjunction_after (k x.0)) c x.1) (conjunction_is c (yield_before b us) us (fold g c b) (parsed b c us o.0 h.0))
      ∙ then_rest us ts (fold g c b g.conds.one_of) (λ x. parse_cond g.conds (disjunction_after (k x.0)) c x.1) (λ v. fold g c d (g.conds.more (k v))) (λ v. cond_step g.conds (disjunction_after (k v)) c us ∙ parsed d c ts o.1 h.1 (g.conds.more (k v)))
  parsed (one_lit x) c ts o h = λ k. ap (λ (m : Parsed B). m >>= λ y. parse_cond g.conds (conjunction_after (k y.0)) c y.1) (parsed x c ts o h.1)
      ∙ then_rest ts ts (fold g c x) (λ y. parse_cond g.conds (conjunction_after (k y.0)) c y.1) (λ v. Ok (g.conds.all (k v))) (λ v. cond_step g.conds (conjunction_after (k v)) c ts ∙ rw (h.0) refl)
  parsed (more_lits x l b) c ts o h = λ k. let us = cons_token And l (yield_before b ts) in
      ap (λ (m : Parsed B). m >>= λ y. parse_cond g.conds (conjunction_after (k y.0)) c y.1) (parsed x c us o.0 h.0)
      ∙ then_rest us ts (fold g c x) (λ y. parse_cond g.conds (conjunction_after (k y.0)) c y.1) (λ v. fold g c b (g.conds.more (k v))) (λ v. cond_step g.conds (conjunction_after (k v)) c us ∙ parsed b c ts o.1 h.1 (g.conds.more (k v)))
  parsed (true_lit l) c ts o h = cond_step g.conds literal c _
  parsed (false_lit l) c ts o h = cond_step g.conds literal c _
  parsed (name_lit l) c ts o h = cond_step g.conds literal c _ ∙ rw o refl
  parsed (not_lit l x) c ts o h = cond_step g.conds literal c _ ∙ checked ts (enter_not c l.at) (λ d. change g.conds.negated (parse_cond g.conds literal d (yield_before x ts))) (λ d. fold g d x >>= λ v. Ok (g.conds.negated v))
      (λ d. ap (change g.conds.negated) (parsed x d ts o h) ∙ changed ts g.conds.negated (fold g d x))
  parsed (round_lit l b r) c ts o h = let us = cons_token RoundClose r ts in
      cond_step g.conds literal c _ ∙ rw (o.0) (checked ts (enter c l.at) (λ d. change g.conds.enclosed (then_expects (is_terminal RoundClose) (parse_cond g.conds disjunction d (yield_before b us)))) (λ d. fold g d b g.conds.one_of >>= λ v. Ok (g.conds.enclosed v))
      (λ d. ap (λ (m : Parsed B). change g.conds.enclosed (then_expects (is_terminal RoundClose) m)) (disjunction_is d (yield_before b us) us (fold g d b) (parsed b d us o.1 h)) ∙ ap (change g.conds.enclosed) (closed RoundClose r ts (fold g d b g.conds.one_of) refl) ∙ changed ts g.conds.enclosed (fold g d b g.conds.one_of)))
  parsed (relation_lit e l r f) c ts o h = let us = cons_token (Compares r) l (yield_before f ts) in
      cond_step g.conds literal c _ ∙ compared e c us o.0
      ∙ ap (λ (m : Parsed E). m >>= λ x. relation x.1 >>= λ r. parse_expr g.conds.exprs sums c r.1 >>= λ y. Ok (g.conds.compare r.0 x.0 y.0, y.1)) (sums_is c (yield_before e us) us (fold g c e) (parsed e c us o.1 h.0))
      ∙ then_rest us ts (fold g c e (λ v. v)) (λ x. relation x.1 >>= λ r. parse_expr g.conds.exprs sums c r.1 >>= λ y. Ok (g.conds.compare r.0 x.0 y.0, y.1)) (λ v. fold g c f (λ w. w) >>= λ w. Ok (g.conds.compare r v w))
      (λ v. ap (λ (m : Parsed E). m >>= λ y. Ok (g.conds.compare r v y.0, y.1)) (sums_is c (yield_before f ts) ts (fold g c f) (parsed f c ts o.2 h.1))
      ∙ then_rest ts ts (fold g c f (λ w. w)) (λ y. Ok (g.conds.compare r v y.0, y.1)) (λ w. Ok (g.conds.compare r v w)) (λ w. refl))
  parsed (one_mul m) c ts o h = λ k. ap (λ (s : Parsed E). s >>= λ x. parse_expr g.conds.exprs (sums_after (k x.0)) c x.1) (products_is c (yield_before m ts) ts (fold g c m) (parsed m c ts o h.1))
      ∙ then_rest ts ts (fold g c m (λ v. v)) (λ x. parse_expr g.conds.exprs (sums_after (k x.0)) c x.1) (λ v. Ok (k v)) (λ v. expr_step g.conds.exprs (sums_after (k v)) c ts ∙ rw (h.0) refl)
  parsed (more_muls m l minus e) c ts o h = λ k. let us = cons_token (sum_terminal minus) l (yield_before e ts) in
      ap (λ (s : Parsed E). s >>= λ x. parse_expr g.conds.exprs (sums_after (k x.0)) c x.1) (products_is c (yield_before m us) us (fold g c m) (parsed m c us o.0 h.0))
      ∙ then_rest us ts (fold g c m (λ v. v)) (λ x. parse_expr g.conds.exprs (sums_after (k x.0)) c x.1) (λ v. fold g c e (g.conds.exprs.join (operator_of minus) (k v)))
      (λ v. expr_step g.conds.exprs (sums_after (k v)) c us ∙ rw (sum_joins minus l (yield_before e ts), operator_is minus l (yield_before e ts)) (parsed e c ts o.1 h.1 (g.conds.exprs.join (operator_of minus) (k v))))
  parsed (one_fac x) c ts o h = λ k. ap (λ (s : Parsed E). s >>= λ y. parse_expr g.conds.exprs (products_after (k y.0)) c y.1) (parsed x c ts o h.1)
      ∙ then_rest ts ts (fold g c x) (λ y. parse_expr g.conds.exprs (products_after (k y.0)) c y.1) (λ v. Ok (k v)) (λ v. expr_step g.conds.exprs (products_after (k v)) c ts ∙ rw (h.0) refl)
  parsed (more_facs x l m) c ts o h = λ k. let us = cons_token Star l (yield_before m ts) in
      ap (λ (s : Parsed E). s >>= λ y. parse_expr g.conds.exprs (products_after (k y.0)) c y.1) (parsed x c us o.0 h.0)
      ∙ then_rest us ts (fold g c x) (λ y. parse_expr g.conds.exprs (products_after (k y.0)) c y.1) (λ v. fold g c m (g.conds.exprs.join Multiply (k v))) (λ v. expr_step g.conds.exprs (products_after (k v)) c us ∙ parsed m c ts o.1 h.1 (g.conds.exprs.join Multiply (k v)))
  parsed (zero_fac l) c ts o h = expr_step g.conds.exprs factor c _
  parsed (one_fac_number l) c ts o h = expr_step g.conds.exprs factor c _
  parsed (number_fac l n) c ts o h = expr_step g.conds.exprs factor c _
  parsed (wide_fac l) c ts o h = expr_step g.conds.exprs factor c _
  parsed (name_fac l) c ts o h = expr_step g.conds.exprs factor c _
  parsed (round_fac l e r) c ts o h = let us = cons_token RoundClose r ts in
      expr_step g.conds.exprs factor c _ ∙ checked ts (enter c l.at) (λ d. change g.conds.exprs.enclosed (then_expects (is_terminal RoundClose) (parse_expr g.conds.exprs sums d (yield_before e us)))) (λ d. fold g d e (λ v. v) >>= λ v. Ok (g.conds.exprs.enclosed v))
      (λ d. ap (λ (m : Parsed E). change g.conds.exprs.enclosed (then_expects (is_terminal RoundClose) m)) (sums_is d (yield_before e us) us (fold g d e) (parsed e d us o h)) ∙ ap (change g.conds.exprs.enclosed) (closed RoundClose r ts (fold g d e (λ v. v)) refl) ∙ changed ts g.conds.exprs.enclosed (fold g d e (λ v. v)))

  pub term_parsed : (p : Phrase term) (c : Context) (ts : List Lexeme) → MeetsLookahead p ts → IsLongest p ts → parse_term g choice c (yield_before p ts) ≡ before ts (fold g c p g.one_of)
  term_parsed p c ts o h = term_step g choice c (yield_before p ts) ∙ parsed p c ts o h g.one_of

  pub cond_parsed : (p : Phrase cond) (c : Context) (ts : List Lexeme) → MeetsLookahead p ts → IsLongest p ts → parse_cond g.conds disjunction c (yield_before p ts) ≡ before ts (fold g c p g.conds.one_of)
  cond_parsed p c ts o h = disjunction_is c (yield_before p ts) ts (fold g c p) (parsed p c ts o h)

  pub expr_parsed : (p : Phrase expr) (c : Context) (ts : List Lexeme) → MeetsLookahead p ts → IsLongest p ts → parse_expr g.conds.exprs sums c (yield_before p ts) ≡ before ts (fold g c p (λ e. e))
  expr_parsed p c ts o h = sums_is c (yield_before p ts) ts (fold g c p) (parsed p c ts o h)
