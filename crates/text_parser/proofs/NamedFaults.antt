-- A fault is never `NoMemory`: each parser needs fewer steps than it has.
use Rattle.std.proofs.Common.{◌≡◌, ℕ, zero, suc, ◌+◌, ◌*◌, ◌<◌, ◌≤◌, List, [], ◌∷◌, length, Bool, true, false, cond, nat_lt, Result, Ok, Err, refl, arith, drop}
use Rattle.kat_model.specs.declared.limits.TheConstants.{MAX_OPEN}
use Rattle.text_parser.specs.declared.fault.TextFault.{TextFault}
use Rattle.text_parser.specs.declared.fault.TextFault.TheVariants.{NoMemory, Syntax, TooDeep}
use Rattle.text_parser.specs.declared.terminal.Terminal.{Terminal}
use Rattle.text_parser.specs.declared.terminal.Terminal.TheVariants.{RoundOpen, RoundClose, SquareOpen, SquareClose, Bang, Star, Plus, Dot, And, Or, Compares, Zero, One, Number, WideNumber, True, False, Name}
use Rattle.text_parser.specs.declared.reading.Context.{Context}
use Rattle.text_parser.specs.declared.reading.Operator.TheVariants.{Multiply}
use Rattle.text_parser.specs.Lexemes.{Lexeme, lexeme, heads, is_sum, is_terminal}
use Rattle.text_parser.specs.Parsed.{Parsed, ◌>>=◌, before, change, expects, then_expects, place_of}
use Rattle.text_parser.specs.Actions.{ExprActions, CondActions, Actions, context, enter, enter_not}
use Rattle.text_parser.specs.Exprs as exprs
use Rattle.text_parser.specs.Exprs.{ExprParser, sums, sums_after, products, products_after, factor, ExprAim, operator_at, factor_by, expr_by, expr_within, parse_expr}
use Rattle.text_parser.specs.Conds as conds
use Rattle.text_parser.specs.Conds.{CondParser, CondAim, disjunction, disjunction_after, conjunction, conjunction_after, literal, index_after_matching, begins_expr, relation, comparison, literal_by, cond_by, cond_within, parse_cond}
use Rattle.text_parser.specs.Terms as terms
use Rattle.text_parser.specs.Terms.{TermParser, TermAim, choice, choice_after, sequence, sequence_after, unit, bracket, unit_by, star_or_not, term_by, term_within, parse_term}
use Rattle.text_parser.proofs.Within.{Within, headed}
use Rattle.text_parser.proofs.ExprSteps as expr_steps
use Rattle.text_parser.proofs.CondSteps as cond_steps
use Rattle.text_parser.proofs.TermSteps as term_steps

-- any fault except `NoMemory`
abbrev pub IsNamedFault : TextFault → Type 0
IsNamedFault NoMemory = ⊥
IsNamedFault e = Unit {0}

-- a value, or any fault except `NoMemory`
abbrev pub IsNamed : {V : Type 0} → Result V TextFault → Type 0
IsNamed (Ok v) = Unit {0}
IsNamed (Err e) = IsNamedFault e

pub then_named : {A B : Type 0} (s : Result A TextFault) (k : A → Result B TextFault) → IsNamed s → ((x : A) → IsNamed (k x)) → IsNamed (s >>= k)
then_named (Ok x) k h g = g x
then_named (Err e) k h g = h

-- likewise if the first parser leaves fewer than `n` tokens
pub bind_named : {V B : Type 0} (n : ℕ) (s : Parsed V) (k : V × List Lexeme → Result B TextFault) → IsNamed s → Within n s → ((x : V × List Lexeme) → length x.1 < n → IsNamed (k x)) → IsNamed (s >>= k)
bind_named n (Ok x) k h w g = g x w
bind_named n (Err e) k h w g = h

pub if_named : {V : Type 0} (b : Bool) (x y : Result V TextFault) → (b ≡ true → IsNamed x) → (b ≡ false → IsNamed y) → IsNamed (cond b x y)
if_named true x y f g = f refl
if_named false x y f g = g refl

pub before_named : {V : Type 0} (ts : List Lexeme) (m : Result V TextFault) → IsNamed m → IsNamed (before ts m)
before_named ts (Ok v) h = tt
before_named ts (Err e) h = h

pub change_named : {V W : Type 0} (f : V → W) (m : Parsed V) → IsNamed m → IsNamed (change f m)
change_named f (Ok x) h = tt
change_named f (Err e) h = h

pub expects_named : (p : Terminal → Bool) (ts : List Lexeme) → IsNamed (expects p ts)
expects_named p [] = tt
expects_named p (lexeme s at text ∷ ts) = if_named (p s) (Ok ts) (Err (Syntax at)) (λ e. tt) (λ e. tt)

pub then_expects_named : {V : Type 0} (p : Terminal → Bool) (m : Parsed V) → IsNamed m → IsNamed (then_expects p m)
then_expects_named p m h = then_named m (λ x. expects p x.1 >>= λ r. Ok (x.0, r)) h (λ x. then_named (expects p x.1) (λ r. Ok (x.0, r)) (expects_named p x.1) (λ r. tt))

enter_named : (c : Context) (at : ℕ) → IsNamed (enter c at)
enter_named c at = if_named (nat_lt c.depth MAX_OPEN) (Ok (context (c.depth + 1) c.negated c.compares)) (Err (TooDeep at)) (λ e. tt) (λ e. tt)

enter_not_named : (c : Context) (at : ℕ) → IsNamed (enter_not c at)
enter_not_named c at = if_named (nat_lt c.depth MAX_OPEN) (Ok (context (c.depth + 1) true c.compares)) (Err (TooDeep at)) (λ e. tt) (λ e. tt)

-- ---- expressions

-- no action fails with `NoMemory`
pub record NameExprs {E : Type 0} (g : ExprActions E) : Type 0 where
  pub number : (c : Context) (at n : ℕ) → IsNamed (g.number c at n)
  pub variable : (c : Context) (at : ℕ) (text : List ℕ) → IsNamed (g.variable c at text)

module _ {E : Type 0} (g : ExprActions E) (names : NameExprs g) where
  abbrev NamesBelow : ExprParser E → ℕ → Type 0
  NamesBelow f n = (x : ExprAim E) (c : Context) (ts : List Lexeme) → exprs.steps x ts < n → IsNamed (f x c ts)

  factor_named : (f : ExprParser E) (c : Context) (ts : List Lexeme) → NamesBelow f (8 * length ts) → IsNamed (factor_by g f c ts)
  factor_named f c [] a = tt
  factor_named f c (lexeme Zero at text ∷ ts) a = before_named ts (g.number c at 0) (names.number c at 0)
  factor_named f c (lexeme One at text ∷ ts) a = before_named ts (g.number c at 1) (names.number c at 1)
  factor_named f c (lexeme (Number n) at text ∷ ts) a = before_named ts (g.number c at n) (names.number c at n)
  factor_named f c (lexeme Name at text ∷ ts) a = before_named ts (g.variable c at text) (names.variable c at text)
  factor_named f c (lexeme RoundOpen at text ∷ ts) a =
      then_named (enter c at) (λ d. change g.enclosed (then_expects (is_terminal RoundClose) (f sums d ts))) (enter_named c at)
      (λ d. change_named g.enclosed (then_expects (is_terminal RoundClose) (f sums d ts)) (then_expects_named (is_terminal RoundClose) (f sums d ts) (a sums d ts (omega arith))))
  factor_named f c (lexeme _ at text ∷ ts) a = tt

  after_named : (f : ExprParser E) → expr_steps.IsShort f → (x : ExprAim E) (y : E → ExprAim E) → expr_steps.slack x ≡ 0 → ((e : E) → exprs.rank (y e) ≤ 3) → (c : Context) (ts : List Lexeme) → IsNamed (f x c ts) → NamesBelow f (8 * length ts) → IsNamed (f x c ts >>= λ v. f (y v.0) c v.1)
  after_named f s x y still three c ts first a = bind_named (length ts + expr_steps.slack x) (f x c ts) (λ v. f (y v.0) c v.1) first (s x c ts) (λ v lt. a (y v.0) c v.1 (omega (arith, still, three v.0)))

  step_named : (f : ExprParser E) → expr_steps.IsShort f → (x : ExprAim E) (c : Context) (ts : List Lexeme) → NamesBelow f (exprs.steps x ts) → IsNamed (expr_by g f x c ts)
  step_named f s sums c ts a = after_named f s products (λ e. sums_after e) refl (λ e. omega arith) c ts (a products c ts (omega arith)) (λ x d us lt. a x d us (omega arith))
  step_named f s (sums_after e) c ts a = if_named (heads is_sum ts) _ (Ok (e, ts)) (λ k. let lt = headed is_sum ts k in
      after_named f s products (λ v. sums_after (g.join (operator_at ts) e v)) refl (λ v. omega arith) c (drop 1 ts) (a products c (drop 1 ts) (omega arith)) (λ x d us le. a x d us (omega arith))) (λ k. tt)
  step_named f s products c ts a = after_named f s factor (λ e. products_after e) refl (λ e. omega arith) c ts (a factor c ts (omega arith)) (λ x d us lt. a x d us (omega arith))
  step_named f s (products_after e) c ts a = if_named (heads (is_terminal Star) ts) _ (Ok (e, ts)) (λ k. let lt = headed (is_terminal Star) ts k in
      after_named f s factor (λ v. products_after (g.join Multiply e v)) refl (λ v. omega arith) c (drop 1 ts) (a factor c (drop 1 ts) (omega arith)) (λ x d us le. a x d us (omega arith))) (λ k. tt)
  step_named f s factor c ts a = factor_named f c ts (λ x d us lt. a x d us (omega arith))

  within_named : (n : ℕ) (x : ExprAim E) (c : Context) (ts : List Lexeme) → exprs.steps x ts < n → IsNamed (expr_within g n x c ts)
  unfolding expr_within
  within_named zero x c ts lt = absurd (omega arith)
  within_named (suc n) x c ts lt = step_named (expr_within g n) (expr_steps.within_short g n) x c ts (λ y d us below. within_named n y d us (omega arith))

  pub expr_named : (x : ExprAim E) (c : Context) (ts : List Lexeme) → IsNamed (parse_expr g x c ts)
  unfolding parse_expr
  expr_named x c ts = within_named (suc (exprs.steps x ts)) x c ts (omega arith)

-- ---- conditions

pub record NameConds {E B L : Type 0} (g : CondActions E B L) : Type 0 where
  pub exprs : NameExprs g.exprs
  pub named : (c : Context) (at : ℕ) (text : List ℕ) → IsNamed (g.named c at text)

relation_named : (ts : List Lexeme) → IsNamed (relation ts)
relation_named [] = tt
relation_named (lexeme (Compares r) at text ∷ ts) = tt
relation_named (lexeme _ at text ∷ ts) = tt

module _ {E B L : Type 0} (g : CondActions E B L) (names : NameConds g) where
  abbrev CondsBelow : CondParser B L → ℕ → Type 0
  CondsBelow f n = (x : CondAim L) (c : Context) (ts : List Lexeme) → conds.steps x ts < n → IsNamed (f x c ts)

  comparison_named : (c : Context) (ts : List Lexeme) → IsNamed (comparison g c ts)
  comparison_named c ts =
      then_named (parse_expr g.exprs sums c ts) _ (expr_named g.exprs names.exprs sums c ts)
      (λ x. then_named (relation x.1) _ (relation_named x.1)
      (λ r. then_named (parse_expr g.exprs sums c r.1) _ (expr_named g.exprs names.exprs sums c r.1) (λ y. tt)))

  parenthesis_named : (f : CondParser B L) (c : Context) (at : ℕ) (ts : List Lexeme) → CondsBelow f (8 * suc (length ts)) → IsNamed (conds.parenthesis g f c at ts)
  parenthesis_named f c at ts a =
      then_named (enter c at) (λ d. change g.enclosed (then_expects (is_terminal RoundClose) (f disjunction d ts))) (enter_named c at)
      (λ d. change_named g.enclosed (then_expects (is_terminal RoundClose) (f disjunction d ts)) (then_expects_named (is_terminal RoundClose) (f disjunction d ts) (a disjunction d ts (omega arith))))

  literal_named : (f : CondParser B L) (c : Context) (ts : List Lexeme) → CondsBelow f (8 * length ts) → IsNamed (literal_by g f c ts)
  literal_named f c [] a = tt
  literal_named f c (lexeme True at text ∷ ts) a = tt
  literal_named f c (lexeme False at text ∷ ts) a = tt
  literal_named f c (lexeme Bang at text ∷ ts) a =
      then_named (enter_not c at) (λ d. change g.negated (f literal d ts)) (enter_not_named c at)
      (λ d. change_named g.negated (f literal d ts) (a literal d ts (omega arith)))
  literal_named f c (lexeme Name at text ∷ ts) a = if_named (begins_expr ts) (comparison g c (lexeme Name at text ∷ ts)) (before ts (g.named c at text)) (λ h. comparison_named c (lexeme Name at text ∷ ts)) (λ h. before_named ts (g.named c at text) (names.named c at text))
  literal_named f c (lexeme RoundOpen at text ∷ ts) a = if_named (begins_expr (index_after_matching 0 ts)) (comparison g c (lexeme RoundOpen at text ∷ ts)) (conds.parenthesis g f c at ts) (λ h. comparison_named c (lexeme RoundOpen at text ∷ ts)) (λ h. parenthesis_named f c at ts (λ x d us lt. a x d us (omega arith)))
  literal_named f c (lexeme Zero at text ∷ ts) a = comparison_named c (lexeme Zero at text ∷ ts)
  literal_named f c (lexeme One at text ∷ ts) a = comparison_named c (lexeme One at text ∷ ts)
  literal_named f c (lexeme (Number n) at text ∷ ts) a = comparison_named c (lexeme (Number n) at text ∷ ts)
  literal_named f c (lexeme WideNumber at text ∷ ts) a = comparison_named c (lexeme WideNumber at text ∷ ts)
  literal_named f c (lexeme _ at text ∷ ts) a = tt

  conds_after_named : (f : CondParser B L) → cond_steps.IsShort f → (x : CondAim L) (y : B → CondAim L) → cond_steps.slack x ≡ 0 → ((b : B) → conds.rank (y b) ≤ 3) → (c : Context) (ts : List Lexeme) → IsNamed (f x c ts) → CondsBelow f (8 * length ts) → IsNamed (f x c ts >>= λ v. f (y v.0) c v.1)
  conds_after_named f s x y still three c ts first a = bind_named (length ts + cond_steps.slack x) (f x c ts) (λ v. f (y v.0) c v.1) first (s x c ts) (λ v lt. a (y v.0) c v.1 (omega (arith, still, three v.0)))

  cond_step_named : (f : CondParser B L) → cond_steps.IsShort f → (x : CondAim L) (c : Context) (ts : List Lexeme) → CondsBelow f (conds.steps x ts) → IsNamed (cond_by g f x c ts)
  cond_step_named f s disjunction c ts a = conds_after_named f s conjunction (λ b. disjunction_after (g.one_of b)) refl (λ b. omega arith) c ts (a conjunction c ts (omega arith)) (λ x d us lt. a x d us (omega arith))
  cond_step_named f s (disjunction_after l) c ts a = if_named (heads (is_terminal Or) ts) _ (Ok (g.any l, ts)) (λ k. let lt = headed (is_terminal Or) ts k in
      conds_after_named f s conjunction (λ b. disjunction_after (g.more l b)) refl (λ b. omega arith) c (drop 1 ts) (a conjunction c (drop 1 ts) (omega arith)) (λ x d us le. a x d us (omega arith))) (λ k. tt)
  cond_step_named f s conjunction c ts a = conds_after_named f s literal (λ b. conjunction_after (g.one_of b)) refl (λ b. omega arith) c ts (a literal c ts (omega arith)) (λ x d us lt. a x d us (omega arith))
  cond_step_named f s (conjunction_after l) c ts a = if_named (heads (is_terminal And) ts) _ (Ok (g.all l, ts)) (λ k. let lt = headed (is_terminal And) ts k in
      conds_after_named f s literal (λ b. conjunction_after (g.more l b)) refl (λ b. omega arith) c (drop 1 ts) (a literal c (drop 1 ts) (omega arith)) (λ x d us le. a x d us (omega arith))) (λ k. tt)
  cond_step_named f s literal c ts a = literal_named f c ts (λ x d us lt. a x d us (omega arith))

  conds_within_named : (n : ℕ) (x : CondAim L) (c : Context) (ts : List Lexeme) → conds.steps x ts < n → IsNamed (cond_within g n x c ts)
  unfolding cond_within
  conds_within_named zero x c ts lt = absurd (omega arith)
  conds_within_named (suc n) x c ts lt = cond_step_named (cond_within g n) (cond_steps.within_short g n) x c ts (λ y d us below. conds_within_named n y d us (omega arith))

  pub cond_named : (x : CondAim L) (c : Context) (ts : List Lexeme) → IsNamed (parse_cond g x c ts)
  unfolding parse_cond
  cond_named x c ts = conds_within_named (suc (conds.steps x ts)) x c ts (omega arith)

-- ---- terms

pub record NameTerms {E B L T M : Type 0} (g : Actions E B L T M) : Type 0 where
  pub conds : NameConds g.conds
  pub named : (c : Context) (at : ℕ) (text : List ℕ) → IsNamed (g.named c at text)
  pub starred : (c : Context) (at : ℕ) (t : T) → IsNamed (g.starred c at t)

module _ {E B L T M : Type 0} (g : Actions E B L T M) (names : NameTerms g) where
  abbrev TermsBelow : TermParser T M → ℕ → Type 0
  TermsBelow f n = (x : TermAim M) (c : Context) (ts : List Lexeme) → terms.steps x ts < n → IsNamed (f x c ts)

  bracket_named : (c : Context) (at : ℕ) (ts : List Lexeme) → IsNamed (bracket g c at ts)
  bracket_named c at ts =
      then_named (enter c at) (λ d. change g.tested (then_expects (is_terminal SquareClose) (parse_cond g.conds disjunction d ts))) (enter_named c at)
      (λ d. change_named g.tested (then_expects (is_terminal SquareClose) (parse_cond g.conds disjunction d ts)) (then_expects_named (is_terminal SquareClose) (parse_cond g.conds disjunction d ts) (cond_named g.conds names.conds disjunction d ts)))

  unit_named : (f : TermParser T M) (c : Context) (ts : List Lexeme) → TermsBelow f (8 * length ts) → IsNamed (unit_by g f c ts)
  unit_named f c [] a = tt
  unit_named f c (lexeme Zero at text ∷ ts) a = tt
  unit_named f c (lexeme One at text ∷ ts) a = tt
  unit_named f c (lexeme Name at text ∷ ts) a = before_named ts (g.named c at text) (names.named c at text)
  unit_named f c (lexeme Bang at text ∷ ts) a =
      then_named (enter_not c at) (λ d. change g.negated (f unit d ts)) (enter_not_named c at)
      (λ d. change_named g.negated (f unit d ts) (a unit d ts (omega arith)))
  unit_named f c (lexeme SquareOpen at text ∷ ts) a = bracket_named c at ts
  unit_named f c (lexeme RoundOpen at text ∷ ts) a =
      then_named (enter c at) (λ d. change g.enclosed (then_expects (is_terminal RoundClose) (f choice d ts))) (enter_named c at)
      (λ d. change_named g.enclosed (then_expects (is_terminal RoundClose) (f choice d ts)) (then_expects_named (is_terminal RoundClose) (f choice d ts) (a choice d ts (omega arith))))
  unit_named f c (lexeme _ at text ∷ ts) a = tt

  star_named : (c : Context) (t : T) (ts : List Lexeme) → IsNamed (star_or_not g c t ts)
  star_named c t ts = if_named (heads (is_terminal Star) ts) (before (drop 1 ts) (g.starred c (place_of ts) t)) (Ok (t, ts)) (λ e. before_named (drop 1 ts) (g.starred c (place_of ts) t) (names.starred c (place_of ts) t)) (λ e. tt)

  choice_named : (f : TermParser T M) → term_steps.IsShort f → (y : T → TermAim M) → ((t : T) → terms.rank (y t) ≤ 3) → (c : Context) (ts : List Lexeme) → IsNamed (f sequence c ts) → TermsBelow f (8 * length ts) → IsNamed (f sequence c ts >>= λ v. f (y v.0) c v.1)
  choice_named f s y three c ts first a = bind_named (length ts + 0) (f sequence c ts) (λ v. f (y v.0) c v.1) first (s sequence c ts) (λ v lt. a (y v.0) c v.1 (omega (arith, three v.0)))

  sequence_named : (f : TermParser T M) → term_steps.IsShort f → (y : T → TermAim M) → ((t : T) → terms.rank (y t) ≤ 3) → (c : Context) (ts : List Lexeme) → IsNamed (f unit c ts) → TermsBelow f (8 * length ts) → IsNamed (f unit c ts >>= λ x. star_or_not g c x.0 x.1 >>= λ v. f (y v.0) c v.1)
  sequence_named f s y three c ts first a = bind_named (length ts + 0) (f unit c ts) (λ x. star_or_not g c x.0 x.1 >>= λ v. f (y v.0) c v.1) first (s unit c ts)
      (λ x lt. bind_named (length ts) (star_or_not g c x.0 x.1) (λ v. f (y v.0) c v.1) (star_named c x.0 x.1) (term_steps.star_short g c x.0 x.1 (length ts) (omega arith))
      (λ v le. a (y v.0) c v.1 (omega (arith, three v.0))))

  term_step_named : (f : TermParser T M) → term_steps.IsShort f → (x : TermAim M) (c : Context) (ts : List Lexeme) → TermsBelow f (terms.steps x ts) → IsNamed (term_by g f x c ts)
  term_step_named f s choice c ts a = choice_named f s (λ t. choice_after (g.one_of t)) (λ t. omega arith) c ts (a sequence c ts (omega arith)) (λ x d us lt. a x d us (omega arith))
  term_step_named f s (choice_after m) c ts a = if_named (heads (is_terminal Plus) ts) _ (Ok (g.sum m, ts)) (λ k. let lt = headed (is_terminal Plus) ts k in
      choice_named f s (λ t. choice_after (g.more m t)) (λ t. omega arith) c (drop 1 ts) (a sequence c (drop 1 ts) (omega arith)) (λ x d us le. a x d us (omega arith))) (λ k. tt)
  term_step_named f s sequence c ts a = sequence_named f s (λ t. sequence_after (g.one_of t)) (λ t. omega arith) c ts (a unit c ts (omega arith)) (λ x d us lt. a x d us (omega arith))
  term_step_named f s (sequence_after m) c ts a = if_named (heads (is_terminal Dot) ts) _ (Ok (g.product m, ts)) (λ k. let lt = headed (is_terminal Dot) ts k in
      sequence_named f s (λ t. sequence_after (g.more m t)) (λ t. omega arith) c (drop 1 ts) (a unit c (drop 1 ts) (omega arith)) (λ x d us le. a x d us (omega arith))) (λ k. tt)
  term_step_named f s unit c ts a = unit_named f c ts (λ x d us lt. a x d us (omega arith))

  terms_within_named : (n : ℕ) (x : TermAim M) (c : Context) (ts : List Lexeme) → terms.steps x ts < n → IsNamed (term_within g n x c ts)
  unfolding term_within
  terms_within_named zero x c ts lt = absurd (omega arith)
  terms_within_named (suc n) x c ts lt = term_step_named (term_within g n) (term_steps.within_short g n) x c ts (λ y d us below. terms_within_named n y d us (omega arith))

  pub term_named : (x : TermAim M) (c : Context) (ts : List Lexeme) → IsNamed (parse_term g x c ts)
  unfolding parse_term
  term_named x c ts = terms_within_named (suc (terms.steps x ts)) x c ts (omega arith)
