-- The tokens that a parser reads are a phrase.
use Rattle.std.proofs.Common.{◌≡◌, ℕ, zero, suc, ◌+◌, ◌<◌, List, [], ◌∷◌, Bool, true, false, cond as if_true, nat_lt, Result, Ok, Err, refl, ap, sym, subst, ◌∙◌, inl, inr, ◌⊎◌, drop}
use Rattle.std.proofs.lemmas.Bool.{ltb-true}
use Rattle.kat_model.specs.declared.limits.TheConstants.{MAX_OPEN}
use Rattle.kat_model.specs.declared.expression.Rel.{Rel}
use Rattle.text_parser.specs.declared.fault.TextFault.{TextFault}
use Rattle.text_parser.specs.declared.fault.TextFault.TheVariants.{TooDeep}
use Rattle.text_parser.specs.declared.terminal.Terminal.{Terminal}
use Rattle.text_parser.specs.declared.terminal.Terminal.TheVariants.{RoundOpen, RoundClose, SquareOpen, SquareClose, Bang, Star, Plus, Minus, Dot, And, Or, Compares, Zero, One, Number, WideNumber, True, False, Name}
use Rattle.text_parser.specs.declared.reading.Context.{Context}
use Rattle.text_parser.specs.Lexemes.{Lexeme, lexeme, heads, is_sum, is_terminal}
use Rattle.text_parser.specs.Parsed.{Parsed, ◌>>=◌, before, change, expects, then_expects}
use Rattle.text_parser.specs.Actions.{ExprActions, CondActions, Actions, context, enter, enter_not}
use Rattle.text_parser.specs.Exprs.{ExprAim, sums, sums_after, products, products_after, factor, ExprParser, factor_by, expr_by, expr_within, parse_expr}
use Rattle.text_parser.specs.Conds.{index_after_matching, begins_expr, relation, comparison, CondAim, disjunction, disjunction_after, conjunction, conjunction_after, literal, CondParser, literal_by, cond_by, cond_within, parse_cond, parenthesis as cond_parenthesis, negation as cond_negation}
use Rattle.text_parser.specs.Terms.{TermAim, choice, choice_after, sequence, sequence_after, unit as unit_aim, TermParser, star_or_not, unit_by, term_by, term_within, parse_term, parenthesis as term_parenthesis, negation as term_negation, bracket}
use Rattle.text_parser.proofs.TerminalEquality.{terminal_is, expects_ok}
use Rattle.text_parser.specs.Phrases.{Symbol, term, prod, star, unit, cond, conj, lit, expr, mul, fac, Leaf, one_prod, more_prods, one_star, more_stars, bare, starred, zero_unit, one_unit, name_unit, not_unit, square_unit, round_unit, one_conj, more_conjs, one_lit, more_lits, true_lit, false_lit, name_lit, not_lit, round_lit, relation_lit, one_mul, more_muls, one_fac, more_facs, zero_fac, one_fac_number, number_fac, name_fac, round_fac, cons_token, sum_terminal, yield_before, BeginsExpr, IsPhrase}

abbrev pub leaf : ℕ → List ℕ → Leaf
leaf at text = record { at = at; text = text }

pub bind_ok : {A B : Type 0} (s : Result A TextFault) (k : A → Result B TextFault) (q : B) → (s >>= k) ≡ Ok q → (r : A) × (s ≡ Ok r) × (k r ≡ Ok q)
bind_ok (Ok r) k q e = (r, refl, e)
bind_ok (Err x) k q e = absurd cc

-- cases of which branch gave the result
pub chosen : {V : Type 0} {X : Type 0} (b : Bool) (s t : Parsed V) (q : V × List Lexeme) → (b ≡ true → s ≡ Ok q → X) → (b ≡ false → t ≡ Ok q → X) → if_true b s t ≡ Ok q → X
chosen true s t q f g e = f refl e
chosen false s t q f g e = g refl e

entered : (d : ℕ) (x y : Context) (at : ℕ) → if_true (nat_lt d MAX_OPEN) (Ok x) (Err (TooDeep at)) ≡ Ok y → (d < MAX_OPEN) × (x ≡ y)
entered d x y at e = by_depth (nat_lt d MAX_OPEN) refl e where
  by_depth : (b : Bool) → nat_lt d MAX_OPEN ≡ b → if_true b (Ok x) (Err (TooDeep at)) ≡ Ok y → (d < MAX_OPEN) × (x ≡ y)
  by_depth true lt h = (ltb-true d MAX_OPEN lt, cc)
  by_depth false lt h = absurd cc

enter_ok : (c d : Context) (at : ℕ) → enter c at ≡ Ok d → (c.depth < MAX_OPEN) × (d.depth ≡ c.depth + 1)
enter_ok c d at e = let h = entered c.depth (context (c.depth + 1) c.negated c.compares) d at e in (h.0, sym (ap (λ (x : Context). x.depth) h.1))

enter_not_ok : (c d : Context) (at : ℕ) → enter_not c at ≡ Ok d → (c.depth < MAX_OPEN) × (d.depth ≡ c.depth + 1)
enter_not_ok c d at e = let h = entered c.depth (context (c.depth + 1) true c.compares) d at e in (h.0, sym (ap (λ (x : Context). x.depth) h.1))

abbrev rest_of : {V : Type 0} → Parsed V → List Lexeme
rest_of (Ok x) = x.1
rest_of (Err e) = []

pub changed_ok : {V W : Type 0} (f : V → W) (m : Parsed V) (w : W) (rest : List Lexeme) → change f m ≡ Ok (w, rest) → (v : V) × (m ≡ Ok (v, rest))
changed_ok f (Ok x) w rest e = let same : x.1 ≡ rest = ap rest_of e in (x.0, ap (λ r. Ok (x.0, r)) same)
changed_ok f (Err x) w rest e = absurd cc

pub before_ok : {V : Type 0} (ts : List Lexeme) (m : Result V TextFault) (v : V) (rest : List Lexeme) → before ts m ≡ Ok (v, rest) → ts ≡ rest
before_ok ts (Ok x) v rest e = ap rest_of e
before_ok ts (Err x) v rest e = absurd cc

-- a value was read, then one token of terminal `s`
pub expected_ok : {V : Type 0} (s : Terminal) (m : Parsed V) (y : V × List Lexeme) → then_expects (is_terminal s) m ≡ Ok y → (l : Leaf) × (m ≡ Ok (y.0, cons_token s l y.1))
expected_ok {V} s (Ok x) y e =
    let a = bind_ok (expects (is_terminal s) x.1) (λ r. Ok (x.0, r)) y e in
    let h = expects_ok s x.1 a.0 a.1 in
    let same : (x.0, a.0) ≡ y = ap (value_or y) a.2 in
    (h.0, ap (λ q. Ok (x.0, q)) h.1 ∙ ap (λ (z : V × List Lexeme). Ok (z.0, cons_token s h.0 z.1)) same)
  where
    value_or : V × List Lexeme → Parsed V → V × List Lexeme
    value_or z (Ok v) = v
    value_or z (Err f) = z
expected_ok s (Err x) y e = absurd cc

-- a value was read inside, then the token that closes it
closed_ok : {V W : Type 0} (s : Terminal) (f : V → W) (m : Parsed V) (w : W) (rest : List Lexeme) → change f (then_expects (is_terminal s) m) ≡ Ok (w, rest)
    → (v : V) × (l : Leaf) × (m ≡ Ok (v, cons_token s l rest))
closed_ok s f m w rest e =
    let a = changed_ok f (then_expects (is_terminal s) m) w rest e in
    let b = expected_ok s m (a.0, rest) a.1 in
    (a.0, b.0, b.1)

-- a phrase one level deeper
inner : (x : Symbol) (d e : ℕ) (ts rest : List Lexeme) → e ≡ d + 1 → IsPhrase x e ts rest → IsPhrase x (d + 1) ts rest
inner x d e ts rest same p = subst (λ (n : ℕ). IsPhrase x n ts rest) same p

-- the rest of a list after its first part: either nothing, or a terminal of `p` and a phrase of `x`
abbrev pub Tail : Symbol → (Terminal → Bool) → ℕ → List Lexeme → List Lexeme → Type 0
Tail x p d ts rest = ((ts ≡ rest) × (heads p rest ≡ false)) ⊎ ((s : Terminal) × (l : Leaf) × (us : List Lexeme) × (ts ≡ cons_token s l us) × (p s ≡ true) × IsPhrase x d us rest)

headed : (p : Terminal → Bool) (ts : List Lexeme) → heads p ts ≡ true → (s : Terminal) × (l : Leaf) × (ts ≡ cons_token s l (drop 1 ts)) × (p s ≡ true)
headed p [] e = absurd cc
headed p (lexeme s at text ∷ ts) e = (s, leaf at text, refl, e)

-- the first token is of terminal `s`
pub terminal_headed : (s : Terminal) (ts : List Lexeme) → heads (is_terminal s) ts ≡ true → (l : Leaf) × (ts ≡ cons_token s l (drop 1 ts))
terminal_headed s [] e = absurd cc
terminal_headed s (lexeme x at text ∷ ts) e = (leaf at text, rw (terminal_is s x e) refl)

no_more : {V : Type 0} (x : Symbol) (p : Terminal → Bool) (d : ℕ) (y z : V × List Lexeme) → heads p y.1 ≡ false → ◌≡◌ {A = Parsed V} (Ok y) (Ok z) → Tail x p d y.1 z.1
no_more x p d y z h e = let same : y.1 ≡ z.1 = ap rest_of e in inl (same, subst (λ (us : List Lexeme). heads p us ≡ false) same h)

go_on : (x : Symbol) (p : Terminal → Bool) (d : ℕ) (ts rest : List Lexeme) → heads p ts ≡ true → IsPhrase x d (drop 1 ts) rest → Tail x p d ts rest
go_on x p d ts rest h q = let k = headed p ts h in inr (k.0, k.1, drop 1 ts, k.2, k.3, q)

sum_is : (s : Terminal) → is_sum s ≡ true → (minus : Bool) × (s ≡ sum_terminal minus)
sum_is Plus e = (false, refl)
sum_is Minus e = (true, refl)
sum_is _ e = absurd cc

put_is : (s s0 : Terminal) (l : Leaf) (ts us vs : List Lexeme) → ts ≡ cons_token s l us → s ≡ s0 → us ≡ vs → ts ≡ cons_token s0 l vs
put_is s s0 l ts us vs e f g = rw (e, f, g) refl

-- ---- a phrase between parentheses or brackets, and under a `!`

round_fac_found : (d at : ℕ) (text : List ℕ) (ts rest : List Lexeme) (l : Leaf) → d < MAX_OPEN → IsPhrase expr (d + 1) ts (cons_token RoundClose l rest) → IsPhrase fac d (lexeme RoundOpen at text ∷ ts) rest
round_fac_found d at text ts rest l lt p = record { phrase = round_fac (leaf at text) p.phrase l; spelled = ap (λ (x : List Lexeme). lexeme RoundOpen at text ∷ x) p.spelled; obeys = p.obeys; longest = p.longest; fits = (lt, p.fits) }

round_lit_found : (d at : ℕ) (text : List ℕ) (ts rest : List Lexeme) (l : Leaf) → d < MAX_OPEN → begins_expr (index_after_matching 0 ts) ≡ false → IsPhrase cond (d + 1) ts (cons_token RoundClose l rest) → IsPhrase lit d (lexeme RoundOpen at text ∷ ts) rest
round_lit_found d at text ts rest l lt no_expr p = record {
  phrase = round_lit (leaf at text) p.phrase l;
  spelled = ap (λ (x : List Lexeme). lexeme RoundOpen at text ∷ x) p.spelled;
  obeys = (subst (λ (u : List Lexeme). begins_expr (index_after_matching 0 u) ≡ false) p.spelled no_expr, p.obeys);
  longest = p.longest;
  fits = (lt, p.fits);
}

round_unit_found : (d at : ℕ) (text : List ℕ) (ts rest : List Lexeme) (l : Leaf) → d < MAX_OPEN → IsPhrase term (d + 1) ts (cons_token RoundClose l rest) → IsPhrase unit d (lexeme RoundOpen at text ∷ ts) rest
round_unit_found d at text ts rest l lt p = record { phrase = round_unit (leaf at text) p.phrase l; spelled = ap (λ (x : List Lexeme). lexeme RoundOpen at text ∷ x) p.spelled; obeys = p.obeys; longest = p.longest; fits = (lt, p.fits) }

square_unit_found : (d at : ℕ) (text : List ℕ) (ts rest : List Lexeme) (l : Leaf) → d < MAX_OPEN → IsPhrase cond (d + 1) ts (cons_token SquareClose l rest) → IsPhrase unit d (lexeme SquareOpen at text ∷ ts) rest
square_unit_found d at text ts rest l lt p = record { phrase = square_unit (leaf at text) p.phrase l; spelled = ap (λ (x : List Lexeme). lexeme SquareOpen at text ∷ x) p.spelled; obeys = p.obeys; longest = p.longest; fits = (lt, p.fits) }

not_lit_found : (d at : ℕ) (text : List ℕ) (ts rest : List Lexeme) → d < MAX_OPEN → IsPhrase lit (d + 1) ts rest → IsPhrase lit d (lexeme Bang at text ∷ ts) rest
not_lit_found d at text ts rest lt p = record { phrase = not_lit (leaf at text) p.phrase; spelled = ap (λ (x : List Lexeme). lexeme Bang at text ∷ x) p.spelled; obeys = p.obeys; longest = p.longest; fits = (lt, p.fits) }

not_unit_found : (d at : ℕ) (text : List ℕ) (ts rest : List Lexeme) → d < MAX_OPEN → IsPhrase unit (d + 1) ts rest → IsPhrase unit d (lexeme Bang at text ∷ ts) rest
not_unit_found d at text ts rest lt p = record { phrase = not_unit (leaf at text) p.phrase; spelled = ap (λ (x : List Lexeme). lexeme Bang at text ∷ x) p.spelled; obeys = p.obeys; longest = p.longest; fits = (lt, p.fits) }

-- ---- a part and the rest of its list

mul_tailed : (d : ℕ) (ts mid rest : List Lexeme) → IsPhrase fac d ts mid → Tail mul (is_terminal Star) d mid rest → IsPhrase mul d ts rest
mul_tailed d ts mid rest q (inl h) = let k : IsPhrase fac d ts rest = subst (IsPhrase fac d ts) h.0 q in
    record { phrase = one_fac k.phrase; spelled = k.spelled; obeys = k.obeys; longest = (h.1, k.longest); fits = k.fits }
mul_tailed d ts mid rest q (inr h) = let t = h.5 in
    let e : mid ≡ cons_token Star h.1 (yield_before t.phrase rest) = put_is h.0 Star h.1 mid h.2 (yield_before t.phrase rest) h.3 (terminal_is Star h.0 h.4) t.spelled in
    let k : IsPhrase fac d ts (cons_token Star h.1 (yield_before t.phrase rest)) = subst (IsPhrase fac d ts) e q in
    record { phrase = more_facs k.phrase h.1 t.phrase; spelled = k.spelled; obeys = (k.obeys, t.obeys); longest = (k.longest, t.longest); fits = (k.fits, t.fits) }

expr_tailed : (d : ℕ) (ts mid rest : List Lexeme) → IsPhrase mul d ts mid → Tail expr is_sum d mid rest → IsPhrase expr d ts rest
expr_tailed d ts mid rest q (inl h) = let k : IsPhrase mul d ts rest = subst (IsPhrase mul d ts) h.0 q in
    record { phrase = one_mul k.phrase; spelled = k.spelled; obeys = k.obeys; longest = (h.1, k.longest); fits = k.fits }
expr_tailed d ts mid rest q (inr h) = let t = h.5 in
    let s = sum_is h.0 h.4 in
    let e : mid ≡ cons_token (sum_terminal s.0) h.1 (yield_before t.phrase rest) = put_is h.0 (sum_terminal s.0) h.1 mid h.2 (yield_before t.phrase rest) h.3 s.1 t.spelled in
    let k : IsPhrase mul d ts (cons_token (sum_terminal s.0) h.1 (yield_before t.phrase rest)) = subst (IsPhrase mul d ts) e q in
    record { phrase = more_muls k.phrase h.1 s.0 t.phrase; spelled = k.spelled; obeys = (k.obeys, t.obeys); longest = (k.longest, t.longest); fits = (k.fits, t.fits) }

conj_tailed : (d : ℕ) (ts mid rest : List Lexeme) → IsPhrase lit d ts mid → Tail conj (is_terminal And) d mid rest → IsPhrase conj d ts rest
conj_tailed d ts mid rest q (inl h) = let k : IsPhrase lit d ts rest = subst (IsPhrase lit d ts) h.0 q in
    record { phrase = one_lit k.phrase; spelled = k.spelled; obeys = k.obeys; longest = (h.1, k.longest); fits = k.fits }
conj_tailed d ts mid rest q (inr h) = let t = h.5 in
    let e : mid ≡ cons_token And h.1 (yield_before t.phrase rest) = put_is h.0 And h.1 mid h.2 (yield_before t.phrase rest) h.3 (terminal_is And h.0 h.4) t.spelled in
    let k : IsPhrase lit d ts (cons_token And h.1 (yield_before t.phrase rest)) = subst (IsPhrase lit d ts) e q in
    record { phrase = more_lits k.phrase h.1 t.phrase; spelled = k.spelled; obeys = (k.obeys, t.obeys); longest = (k.longest, t.longest); fits = (k.fits, t.fits) }

cond_tailed : (d : ℕ) (ts mid rest : List Lexeme) → IsPhrase conj d ts mid → Tail cond (is_terminal Or) d mid rest → IsPhrase cond d ts rest
cond_tailed d ts mid rest q (inl h) = let k : IsPhrase conj d ts rest = subst (IsPhrase conj d ts) h.0 q in
    record { phrase = one_conj k.phrase; spelled = k.spelled; obeys = k.obeys; longest = (h.1, k.longest); fits = k.fits }
cond_tailed d ts mid rest q (inr h) = let t = h.5 in
    let e : mid ≡ cons_token Or h.1 (yield_before t.phrase rest) = put_is h.0 Or h.1 mid h.2 (yield_before t.phrase rest) h.3 (terminal_is Or h.0 h.4) t.spelled in
    let k : IsPhrase conj d ts (cons_token Or h.1 (yield_before t.phrase rest)) = subst (IsPhrase conj d ts) e q in
    record { phrase = more_conjs k.phrase h.1 t.phrase; spelled = k.spelled; obeys = (k.obeys, t.obeys); longest = (k.longest, t.longest); fits = (k.fits, t.fits) }

prod_tailed : (d : ℕ) (ts mid rest : List Lexeme) → IsPhrase star d ts mid → Tail prod (is_terminal Dot) d mid rest → IsPhrase prod d ts rest
prod_tailed d ts mid rest q (inl h) = let k : IsPhrase star d ts rest = subst (IsPhrase star d ts) h.0 q in
    record { phrase = one_star k.phrase; spelled = k.spelled; obeys = k.obeys; longest = (h.1, k.longest); fits = k.fits }
prod_tailed d ts mid rest q (inr h) = let t = h.5 in
    let e : mid ≡ cons_token Dot h.1 (yield_before t.phrase rest) = put_is h.0 Dot h.1 mid h.2 (yield_before t.phrase rest) h.3 (terminal_is Dot h.0 h.4) t.spelled in
    let k : IsPhrase star d ts (cons_token Dot h.1 (yield_before t.phrase rest)) = subst (IsPhrase star d ts) e q in
    record { phrase = more_stars k.phrase h.1 t.phrase; spelled = k.spelled; obeys = (k.obeys, t.obeys); longest = (k.longest, t.longest); fits = (k.fits, t.fits) }

term_tailed : (d : ℕ) (ts mid rest : List Lexeme) → IsPhrase prod d ts mid → Tail term (is_terminal Plus) d mid rest → IsPhrase term d ts rest
term_tailed d ts mid rest q (inl h) = let k : IsPhrase prod d ts rest = subst (IsPhrase prod d ts) h.0 q in
    record { phrase = one_prod k.phrase; spelled = k.spelled; obeys = k.obeys; longest = (h.1, k.longest); fits = k.fits }
term_tailed d ts mid rest q (inr h) = let t = h.5 in
    let e : mid ≡ cons_token Plus h.1 (yield_before t.phrase rest) = put_is h.0 Plus h.1 mid h.2 (yield_before t.phrase rest) h.3 (terminal_is Plus h.0 h.4) t.spelled in
    let k : IsPhrase prod d ts (cons_token Plus h.1 (yield_before t.phrase rest)) = subst (IsPhrase prod d ts) e q in
    record { phrase = more_prods k.phrase h.1 t.phrase; spelled = k.spelled; obeys = (k.obeys, t.obeys); longest = (k.longest, t.longest); fits = (k.fits, t.fits) }

-- ---- expressions

module _ {E : Type 0} (g : ExprActions E) where
  abbrev pub ExprFound : ExprAim E → ℕ → List Lexeme → List Lexeme → Type 0
  ExprFound sums d ts rest = IsPhrase expr d ts rest
  ExprFound (sums_after e) d ts rest = Tail expr is_sum d ts rest
  ExprFound products d ts rest = IsPhrase mul d ts rest
  ExprFound (products_after e) d ts rest = Tail mul (is_terminal Star) d ts rest
  ExprFound factor d ts rest = IsPhrase fac d ts rest

  abbrev pub ExprFinds : ExprParser E → Type 0
  ExprFinds f = (x : ExprAim E) (c : Context) (ts : List Lexeme) (y : E × List Lexeme) → f x c ts ≡ Ok y → ExprFound x c.depth ts y.1

  factor_finds : (f : ExprParser E) → ExprFinds f → (c : Context) (ts : List Lexeme) (y : E × List Lexeme) → factor_by g f c ts ≡ Ok y → IsPhrase fac c.depth ts y.1
  factor_finds f s c [] y e = absurd cc
  factor_finds f s c (lexeme Zero at text ∷ ts) y e = record { phrase = zero_fac (leaf at text); spelled = ap (λ (x : List Lexeme). lexeme Zero at text ∷ x) (before_ok ts (g.number c at 0) y.0 y.1 e); obeys = tt; longest = tt; fits = tt }
  factor_finds f s c (lexeme One at text ∷ ts) y e = record { phrase = one_fac_number (leaf at text); spelled = ap (λ (x : List Lexeme). lexeme One at text ∷ x) (before_ok ts (g.number c at 1) y.0 y.1 e); obeys = tt; longest = tt; fits = tt }
  factor_finds f s c (lexeme (Number n) at text ∷ ts) y e = record { phrase = number_fac (leaf at text) n; spelled = ap (λ (x : List Lexeme). lexeme (Number n) at text ∷ x) (before_ok ts (g.number c at n) y.0 y.1 e); obeys = tt; longest = tt; fits = tt }
  factor_finds f s c (lexeme Name at text ∷ ts) y e = record { phrase = name_fac (leaf at text); spelled = ap (λ (x : List Lexeme). lexeme Name at text ∷ x) (before_ok ts (g.variable c at text) y.0 y.1 e); obeys = tt; longest = tt; fits = tt }
  factor_finds f s c (lexeme RoundOpen at text ∷ ts) y e =
      let b = bind_ok (enter c at) (λ d. change g.enclosed (then_expects (is_terminal RoundClose) (f sums d ts))) y e in
      let n = enter_ok c b.0 at b.1 in
      let k = closed_ok RoundClose g.enclosed (f sums b.0 ts) y.0 y.1 b.2 in
      round_fac_found c.depth at text ts y.1 k.1 n.0 (inner expr c.depth b.0.depth ts (cons_token RoundClose k.1 y.1) n.1 (s sums b.0 ts (k.0, cons_token RoundClose k.1 y.1) k.2))
  factor_finds f s c (lexeme _ at text ∷ ts) y e = absurd cc

  expr_finds : (f : ExprParser E) → ExprFinds f → ExprFinds (expr_by g f)
  expr_finds f s sums c ts y e = let b = bind_ok (f products c ts) (λ x. f (sums_after x.0) c x.1) y e in
      expr_tailed c.depth ts b.0.1 y.1 (s products c ts b.0 b.1) (s (sums_after b.0.0) c b.0.1 y b.2)
  expr_finds f s (sums_after v) c ts y e = chosen (heads is_sum ts) _ (Ok (v, ts)) y
      (λ h k. let b = bind_ok (f products c (drop 1 ts)) _ y k in
      go_on expr is_sum c.depth ts y.1 h (expr_tailed c.depth (drop 1 ts) b.0.1 y.1 (s products c (drop 1 ts) b.0 b.1) (s (sums_after _) c b.0.1 y b.2)))
      (λ h k. no_more expr is_sum c.depth (v, ts) y h k) e
  expr_finds f s products c ts y e = let b = bind_ok (f factor c ts) (λ x. f (products_after x.0) c x.1) y e in
      mul_tailed c.depth ts b.0.1 y.1 (s factor c ts b.0 b.1) (s (products_after b.0.0) c b.0.1 y b.2)
  expr_finds f s (products_after v) c ts y e = chosen (heads (is_terminal Star) ts) _ (Ok (v, ts)) y
      (λ h k. let b = bind_ok (f factor c (drop 1 ts)) _ y k in
      go_on mul (is_terminal Star) c.depth ts y.1 h (mul_tailed c.depth (drop 1 ts) b.0.1 y.1 (s factor c (drop 1 ts) b.0 b.1) (s (products_after _) c b.0.1 y b.2)))
      (λ h k. no_more mul (is_terminal Star) c.depth (v, ts) y h k) e
  expr_finds f s factor c ts y e = factor_finds f s c ts y e

  within_finds : (n : ℕ) → ExprFinds (expr_within g n)
  unfolding expr_within
  within_finds zero x c ts y e = absurd cc
  within_finds (suc n) x c ts y e = expr_finds (expr_within g n) (within_finds n) x c ts y e

  pub expr_found : ExprFinds (parse_expr g)
  unfolding parse_expr
  expr_found x c ts y e = within_finds _ x c ts y e

-- ---- conditions

relation_ok : (ts : List Lexeme) (y : Rel × List Lexeme) → relation ts ≡ Ok y → (l : Leaf) × (ts ≡ cons_token (Compares y.0) l y.1)
relation_ok [] y e = absurd cc
relation_ok (lexeme (Compares r) at text ∷ ts) y e =
    let same : ts ≡ y.1 = ap rest_of e in
    let kind : r ≡ y.0 = ap first_of e in
    (leaf at text, rw (same, kind) refl) where
      first_of : Parsed Rel → Rel
      first_of (Ok x) = x.0
      first_of (Err x) = r
relation_ok (lexeme _ at text ∷ ts) y e = absurd cc

-- an expression, a relation and an expression form a literal
relation_lit_found : (d : ℕ) (ts mid us rest : List Lexeme) (l : Leaf) (r : Rel) → BeginsExpr ts → IsPhrase expr d ts mid → mid ≡ cons_token (Compares r) l us → IsPhrase expr d us rest → IsPhrase lit d ts rest
relation_lit_found d ts mid us rest l r begins p e q =
    let moved : mid ≡ cons_token (Compares r) l (yield_before q.phrase rest) = put_is (Compares r) (Compares r) l mid us (yield_before q.phrase rest) e refl q.spelled in
    let k : IsPhrase expr d ts (cons_token (Compares r) l (yield_before q.phrase rest)) = subst (IsPhrase expr d ts) moved p in
    record {
      phrase = relation_lit k.phrase l r q.phrase;
      spelled = k.spelled;
      obeys = (subst BeginsExpr k.spelled begins, k.obeys, q.obeys);
      longest = (k.longest, q.longest);
      fits = (k.fits, q.fits);
    }

module _ {E B L : Type 0} (g : CondActions E B L) where
  comparison_finds : (c : Context) (ts : List Lexeme) (y : B × List Lexeme) → BeginsExpr ts → comparison g c ts ≡ Ok y → IsPhrase lit c.depth ts y.1
  comparison_finds c ts y begins e =
      let a = bind_ok (parse_expr g.exprs sums c ts) (λ x. relation x.1 >>= λ r. parse_expr g.exprs sums c r.1 >>= λ z. Ok (g.compare r.0 x.0 z.0, z.1)) y e in
      let b = bind_ok (relation a.0.1) (λ r. parse_expr g.exprs sums c r.1 >>= λ z. Ok (g.compare r.0 a.0.0 z.0, z.1)) y a.2 in
      let d = changed_ok (λ z. g.compare b.0.0 a.0.0 z) (parse_expr g.exprs sums c b.0.1) y.0 y.1 b.2 in
      let w = relation_ok a.0.1 b.0 b.1 in
      relation_lit_found c.depth ts a.0.1 b.0.1 y.1 w.0 b.0.0 begins (expr_found g.exprs sums c ts a.0 a.1) w.1 (expr_found g.exprs sums c b.0.1 (d.0, y.1) d.1)

  abbrev pub CondFound : CondAim L → ℕ → List Lexeme → List Lexeme → Type 0
  CondFound disjunction d ts rest = IsPhrase cond d ts rest
  CondFound (disjunction_after l) d ts rest = Tail cond (is_terminal Or) d ts rest
  CondFound conjunction d ts rest = IsPhrase conj d ts rest
  CondFound (conjunction_after l) d ts rest = Tail conj (is_terminal And) d ts rest
  CondFound literal d ts rest = IsPhrase lit d ts rest

  abbrev pub CondFinds : CondParser B L → Type 0
  CondFinds f = (x : CondAim L) (c : Context) (ts : List Lexeme) (y : B × List Lexeme) → f x c ts ≡ Ok y → CondFound x c.depth ts y.1

  parenthesis_finds : (f : CondParser B L) → CondFinds f → (c : Context) (at : ℕ) (text : List ℕ) (ts : List Lexeme) (y : B × List Lexeme) → begins_expr (index_after_matching 0 ts) ≡ false → cond_parenthesis g f c at ts ≡ Ok y → IsPhrase lit c.depth (lexeme RoundOpen at text ∷ ts) y.1
  parenthesis_finds f s c at text ts y no_expr e =
      let b = bind_ok (enter c at) (λ d. change g.enclosed (then_expects (is_terminal RoundClose) (f disjunction d ts))) y e in
      let n = enter_ok c b.0 at b.1 in
      let k = closed_ok RoundClose g.enclosed (f disjunction b.0 ts) y.0 y.1 b.2 in
      round_lit_found c.depth at text ts y.1 k.1 n.0 no_expr (inner cond c.depth b.0.depth ts (cons_token RoundClose k.1 y.1) n.1 (s disjunction b.0 ts (k.0, cons_token RoundClose k.1 y.1) k.2))

  negation_finds : (f : CondParser B L) → CondFinds f → (c : Context) (at : ℕ) (text : List ℕ) (ts : List Lexeme) (y : B × List Lexeme) → cond_negation g f c at ts ≡ Ok y → IsPhrase lit c.depth (lexeme Bang at text ∷ ts) y.1
  negation_finds f s c at text ts y e =
      let b = bind_ok (enter_not c at) (λ d. change g.negated (f literal d ts)) y e in
      let n = enter_not_ok c b.0 at b.1 in
      let k = changed_ok g.negated (f literal b.0 ts) y.0 y.1 b.2 in
      not_lit_found c.depth at text ts y.1 n.0 (inner lit c.depth b.0.depth ts y.1 n.1 (s literal b.0 ts (k.0, y.1) k.1))

  literal_finds : (f : CondParser B L) → CondFinds f → (c : Context) (ts : List Lexeme) (y : B × List Lexeme) → literal_by g f c ts ≡ Ok y → IsPhrase lit c.depth ts y.1
  literal_finds f s c [] y e = absurd cc
  literal_finds f s c (lexeme True at text ∷ ts) y e = record { phrase = true_lit (leaf at text); spelled = ap (λ (x : List Lexeme). lexeme True at text ∷ x) (ap rest_of e); obeys = tt; longest = tt; fits = tt }
  literal_finds f s c (lexeme False at text ∷ ts) y e = record { phrase = false_lit (leaf at text); spelled = ap (λ (x : List Lexeme). lexeme False at text ∷ x) (ap rest_of e); obeys = tt; longest = tt; fits = tt }
  literal_finds f s c (lexeme Bang at text ∷ ts) y e = negation_finds f s c at text ts y e
  literal_finds f s c (lexeme Name at text ∷ ts) y e = chosen (begins_expr ts) (comparison g c (lexeme Name at text ∷ ts)) (before ts (g.named c at text)) y
      (λ h k. comparison_finds c (lexeme Name at text ∷ ts) y h k)
      (λ h k. let same : ts ≡ y.1 = before_ok ts (g.named c at text) y.0 y.1 k in record { phrase = name_lit (leaf at text); spelled = ap (λ (x : List Lexeme). lexeme Name at text ∷ x) same; obeys = subst (λ (u : List Lexeme). begins_expr u ≡ false) same h; longest = tt; fits = tt })
      e
  literal_finds f s c (lexeme RoundOpen at text ∷ ts) y e = chosen (begins_expr (index_after_matching 0 ts)) (comparison g c (lexeme RoundOpen at text ∷ ts)) (cond_parenthesis g f c at ts) y
      (λ h k. comparison_finds c (lexeme RoundOpen at text ∷ ts) y h k)
      (λ h k. parenthesis_finds f s c at text ts y h k)
      e
  literal_finds f s c (lexeme Zero at text ∷ ts) y e = comparison_finds c (lexeme Zero at text ∷ ts) y tt e
  literal_finds f s c (lexeme One at text ∷ ts) y e = comparison_finds c (lexeme One at text ∷ ts) y tt e
  literal_finds f s c (lexeme (Number n) at text ∷ ts) y e = comparison_finds c (lexeme (Number n) at text ∷ ts) y tt e
  literal_finds f s c (lexeme WideNumber at text ∷ ts) y e = comparison_finds c (lexeme WideNumber at text ∷ ts) y tt e
  literal_finds f s c (lexeme _ at text ∷ ts) y e = absurd cc

  cond_finds : (f : CondParser B L) → CondFinds f → CondFinds (cond_by g f)
  cond_finds f s disjunction c ts y e = let b = bind_ok (f conjunction c ts) (λ x. f (disjunction_after (g.one_of x.0)) c x.1) y e in
      cond_tailed c.depth ts b.0.1 y.1 (s conjunction c ts b.0 b.1) (s (disjunction_after _) c b.0.1 y b.2)
  cond_finds f s (disjunction_after l) c ts y e = chosen (heads (is_terminal Or) ts) _ (Ok (g.any l, ts)) y
      (λ h k. let b = bind_ok (f conjunction c (drop 1 ts)) _ y k in
      go_on cond (is_terminal Or) c.depth ts y.1 h (cond_tailed c.depth (drop 1 ts) b.0.1 y.1 (s conjunction c (drop 1 ts) b.0 b.1) (s (disjunction_after _) c b.0.1 y b.2)))
      (λ h k. no_more cond (is_terminal Or) c.depth (g.any l, ts) y h k) e
  cond_finds f s conjunction c ts y e = let b = bind_ok (f literal c ts) (λ x. f (conjunction_after (g.one_of x.0)) c x.1) y e in
      conj_tailed c.depth ts b.0.1 y.1 (s literal c ts b.0 b.1) (s (conjunction_after _) c b.0.1 y b.2)
  cond_finds f s (conjunction_after l) c ts y e = chosen (heads (is_terminal And) ts) _ (Ok (g.all l, ts)) y
      (λ h k. let b = bind_ok (f literal c (drop 1 ts)) _ y k in
      go_on conj (is_terminal And) c.depth ts y.1 h (conj_tailed c.depth (drop 1 ts) b.0.1 y.1 (s literal c (drop 1 ts) b.0 b.1) (s (conjunction_after _) c b.0.1 y b.2)))
      (λ h k. no_more conj (is_terminal And) c.depth (g.all l, ts) y h k) e
  cond_finds f s literal c ts y e = literal_finds f s c ts y e

  within_conds : (n : ℕ) → CondFinds (cond_within g n)
  unfolding cond_within
  within_conds zero x c ts y e = absurd cc
  within_conds (suc n) x c ts y e = cond_finds (cond_within g n) (within_conds n) x c ts y e

  pub cond_found : CondFinds (parse_cond g)
  unfolding parse_cond
  cond_found x c ts y e = within_conds _ x c ts y e

-- ---- terms

module _ {E B L T M : Type 0} (g : Actions E B L T M) where
  abbrev pub TermFound : TermAim M → ℕ → List Lexeme → List Lexeme → Type 0
  TermFound choice d ts rest = IsPhrase term d ts rest
  TermFound (choice_after m) d ts rest = Tail term (is_terminal Plus) d ts rest
  TermFound sequence d ts rest = IsPhrase prod d ts rest
  TermFound (sequence_after m) d ts rest = Tail prod (is_terminal Dot) d ts rest
  TermFound unit_aim d ts rest = IsPhrase unit d ts rest

  abbrev pub TermFinds : TermParser T M → Type 0
  TermFinds f = (x : TermAim M) (c : Context) (ts : List Lexeme) (y : T × List Lexeme) → f x c ts ≡ Ok y → TermFound x c.depth ts y.1

  round_finds : (f : TermParser T M) → TermFinds f → (c : Context) (at : ℕ) (text : List ℕ) (ts : List Lexeme) (y : T × List Lexeme) → term_parenthesis g f c at ts ≡ Ok y → IsPhrase unit c.depth (lexeme RoundOpen at text ∷ ts) y.1
  round_finds f s c at text ts y e =
      let b = bind_ok (enter c at) (λ d. change g.enclosed (then_expects (is_terminal RoundClose) (f choice d ts))) y e in
      let n = enter_ok c b.0 at b.1 in
      let k = closed_ok RoundClose g.enclosed (f choice b.0 ts) y.0 y.1 b.2 in
      round_unit_found c.depth at text ts y.1 k.1 n.0 (inner term c.depth b.0.depth ts (cons_token RoundClose k.1 y.1) n.1 (s choice b.0 ts (k.0, cons_token RoundClose k.1 y.1) k.2))

  square_finds : (c : Context) (at : ℕ) (text : List ℕ) (ts : List Lexeme) (y : T × List Lexeme) → bracket g c at ts ≡ Ok y → IsPhrase unit c.depth (lexeme SquareOpen at text ∷ ts) y.1
  square_finds c at text ts y e =
      let b = bind_ok (enter c at) (λ d. change g.tested (then_expects (is_terminal SquareClose) (parse_cond g.conds disjunction d ts))) y e in
      let n = enter_ok c b.0 at b.1 in
      let k = closed_ok SquareClose g.tested (parse_cond g.conds disjunction b.0 ts) y.0 y.1 b.2 in
      square_unit_found c.depth at text ts y.1 k.1 n.0 (inner cond c.depth b.0.depth ts (cons_token SquareClose k.1 y.1) n.1 (cond_found g.conds disjunction b.0 ts (k.0, cons_token SquareClose k.1 y.1) k.2))

  not_finds : (f : TermParser T M) → TermFinds f → (c : Context) (at : ℕ) (text : List ℕ) (ts : List Lexeme) (y : T × List Lexeme) → term_negation g f c at ts ≡ Ok y → IsPhrase unit c.depth (lexeme Bang at text ∷ ts) y.1
  not_finds f s c at text ts y e =
      let b = bind_ok (enter_not c at) (λ d. change g.negated (f unit_aim d ts)) y e in
      let n = enter_not_ok c b.0 at b.1 in
      let k = changed_ok g.negated (f unit_aim b.0 ts) y.0 y.1 b.2 in
      not_unit_found c.depth at text ts y.1 n.0 (inner unit c.depth b.0.depth ts y.1 n.1 (s unit_aim b.0 ts (k.0, y.1) k.1))

  unit_finds : (f : TermParser T M) → TermFinds f → (c : Context) (ts : List Lexeme) (y : T × List Lexeme) → unit_by g f c ts ≡ Ok y → IsPhrase unit c.depth ts y.1
  unit_finds f s c [] y e = absurd cc
  unit_finds f s c (lexeme Zero at text ∷ ts) y e = record { phrase = zero_unit (leaf at text); spelled = ap (λ (x : List Lexeme). lexeme Zero at text ∷ x) (ap rest_of e); obeys = tt; longest = tt; fits = tt }
  unit_finds f s c (lexeme One at text ∷ ts) y e = record { phrase = one_unit (leaf at text); spelled = ap (λ (x : List Lexeme). lexeme One at text ∷ x) (ap rest_of e); obeys = tt; longest = tt; fits = tt }
  unit_finds f s c (lexeme Name at text ∷ ts) y e = record { phrase = name_unit (leaf at text); spelled = ap (λ (x : List Lexeme). lexeme Name at text ∷ x) (before_ok ts (g.named c at text) y.0 y.1 e); obeys = tt; longest = tt; fits = tt }
  unit_finds f s c (lexeme Bang at text ∷ ts) y e = not_finds f s c at text ts y e
  unit_finds f s c (lexeme SquareOpen at text ∷ ts) y e = square_finds c at text ts y e
  unit_finds f s c (lexeme RoundOpen at text ∷ ts) y e = round_finds f s c at text ts y e
  unit_finds f s c (lexeme _ at text ∷ ts) y e = absurd cc

  star_finds : (d : ℕ) (c : Context) (t : T) (ts mid : List Lexeme) (y : T × List Lexeme) → IsPhrase unit d ts mid → star_or_not g c t mid ≡ Ok y → IsPhrase star d ts y.1
  star_finds d c t ts mid y q e = chosen (heads (is_terminal Star) mid) _ (Ok (t, mid)) y
      (λ h k. let w = headed (is_terminal Star) mid h in
      let same : drop 1 mid ≡ y.1 = before_ok (drop 1 mid) (g.starred c _ t) y.0 y.1 k in
      let moved : mid ≡ cons_token Star w.1 y.1 = put_is w.0 Star w.1 mid (drop 1 mid) y.1 w.2 (terminal_is Star w.0 w.3) same in
      let p : IsPhrase unit d ts (cons_token Star w.1 y.1) = subst (IsPhrase unit d ts) moved q in
      record { phrase = starred p.phrase w.1; spelled = p.spelled; obeys = p.obeys; longest = p.longest; fits = p.fits })
      (λ h k. let same : mid ≡ y.1 = ap rest_of k in
      let p : IsPhrase unit d ts y.1 = subst (IsPhrase unit d ts) same q in
      record { phrase = bare p.phrase; spelled = p.spelled; obeys = p.obeys; longest = (subst (λ (us : List Lexeme). heads (is_terminal Star) us ≡ false) same h, p.longest); fits = p.fits })
      e

  -- a unit with its star, then the rest of its list
  sequence_finds : (f : TermParser T M) → TermFinds f → (k : T → M) (c : Context) (ts : List Lexeme) (y : T × List Lexeme) → (f unit_aim c ts >>= λ x. star_or_not g c x.0 x.1 >>= λ z. f (sequence_after (k z.0)) c z.1) ≡ Ok y → IsPhrase prod c.depth ts y.1
  sequence_finds f s k c ts y e =
      let a = bind_ok (f unit_aim c ts) (λ x. star_or_not g c x.0 x.1 >>= λ z. f (sequence_after (k z.0)) c z.1) y e in
      let b = bind_ok (star_or_not g c a.0.0 a.0.1) (λ z. f (sequence_after (k z.0)) c z.1) y a.2 in
      prod_tailed c.depth ts b.0.1 y.1 (star_finds c.depth c a.0.0 ts a.0.1 b.0 (s unit_aim c ts a.0 a.1) b.1) (s (sequence_after (k b.0.0)) c b.0.1 y b.2)

  term_finds : (f : TermParser T M) → TermFinds f → TermFinds (term_by g f)
  term_finds f s choice c ts y e = let b = bind_ok (f sequence c ts) (λ x. f (choice_after (g.one_of x.0)) c x.1) y e in
      term_tailed c.depth ts b.0.1 y.1 (s sequence c ts b.0 b.1) (s (choice_after _) c b.0.1 y b.2)
  term_finds f s (choice_after m) c ts y e = chosen (heads (is_terminal Plus) ts) _ (Ok (g.sum m, ts)) y
      (λ h k. let b = bind_ok (f sequence c (drop 1 ts)) _ y k in
      go_on term (is_terminal Plus) c.depth ts y.1 h (term_tailed c.depth (drop 1 ts) b.0.1 y.1 (s sequence c (drop 1 ts) b.0 b.1) (s (choice_after _) c b.0.1 y b.2)))
      (λ h k. no_more term (is_terminal Plus) c.depth (g.sum m, ts) y h k) e
  term_finds f s sequence c ts y e = sequence_finds f s g.one_of c ts y e
  term_finds f s (sequence_after m) c ts y e = chosen (heads (is_terminal Dot) ts) _ (Ok (g.product m, ts)) y
      (λ h k. go_on prod (is_terminal Dot) c.depth ts y.1 h (sequence_finds f s (g.more m) c (drop 1 ts) y k))
      (λ h k. no_more prod (is_terminal Dot) c.depth (g.product m, ts) y h k) e
  term_finds f s unit_aim c ts y e = unit_finds f s c ts y e

  within_terms : (n : ℕ) → TermFinds (term_within g n)
  unfolding term_within
  within_terms zero x c ts y e = absurd cc
  within_terms (suc n) x c ts y e = term_finds (term_within g n) (within_terms n) x c ts y e

  pub term_found : TermFinds (parse_term g)
  unfolding parse_term
  term_found x c ts y e = within_terms _ x c ts y e
