-- The syntax check reports only syntax faults, each at a token or after the last.
use Rattle.std.proofs.Common.{◌≡◌, ℕ, zero, suc, ◌+◌, ◌*◌, ◌<◌, ◌≤◌, List, [], ◌∷◌, length, Bool, true, false, cond, nat_lt, Result, Ok, Err, inl, inr, refl, ap, subst, ◌∙◌, arith, drop}
use Rattle.std.specs.Prelude.{IfErr}
use Rattle.std.proofs.lemmas.List.{drop-drop}
use Rattle.kat_model.specs.declared.limits.TheConstants.{MAX_OPEN}
use Rattle.text_parser.specs.declared.fault.TextFault.{TextFault}
use Rattle.text_parser.specs.declared.fault.TextFault.TheVariants.{Syntax, TooDeep, NumberTooWide}
use Rattle.text_parser.specs.declared.terminal.Terminal.{Terminal}
use Rattle.text_parser.specs.declared.terminal.Terminal.TheVariants.{RoundOpen, RoundClose, SquareOpen, SquareClose, Bang, Star, Plus, Dot, And, Or, Compares, Zero, One, Number, WideNumber, True, False, Name}
use Rattle.text_parser.specs.declared.reading.Context.{Context}
use Rattle.text_parser.specs.Lexemes.{Lexeme, lexeme, heads, is_sum, is_terminal}
use Rattle.text_parser.specs.Parsed.{Parsed, ◌>>=◌, change, expects, then_expects, Expects}
use Rattle.text_parser.specs.Actions.{context, enter, enter_not}
use Rattle.text_parser.specs.Exprs.{ExprAim, sums, sums_after, products, products_after, factor, ExprParser, factor_by, expr_by, steps as expr_steps, expr_within, parse_expr}
use Rattle.text_parser.specs.Conds.{index_after_matching, begins_expr, relation, comparison, CondAim, disjunction, disjunction_after, conjunction, conjunction_after, literal, CondParser, literal_by, cond_by, steps as cond_steps, cond_within, parse_cond}
use Rattle.text_parser.specs.Terms.{TermAim, choice, choice_after, sequence, sequence_after, unit, TermParser, star_or_not, unit_by, term_by, steps as term_steps, term_within, parse_term}
use Rattle.text_parser.specs.Scans.{scanning_exprs, scanning_conds, scanning, scan_term, scan_cond, scan_expr}
use Rattle.text_parser.specs.Faults.{opens, is_wide, OccursAt, IsSyntaxFault, AnswersFaults}
use Rattle.text_parser.proofs.Within.{Within, headed}
use Rattle.text_parser.proofs.ExprSteps as exprs
use Rattle.text_parser.proofs.CondSteps as conds
use Rattle.text_parser.proofs.TermSteps as terms

-- the remaining tokens are a suffix of `ts`, or the fault is a syntax fault of `ts`
abbrev Sound : {V : Type 0} → List Lexeme → Parsed V → Type 0
Sound ts (Ok x) = (n : ℕ) × (x.1 ≡ drop n ts)
Sound ts (Err e) = IsSyntaxFault ts e

lift_place : (p : Terminal → Bool) (at n : ℕ) (ts : List Lexeme) → OccursAt p at (drop n ts) → OccursAt p at ts
lift_place p at zero ts h = h
lift_place p at (suc n) [] h = h
lift_place p at (suc n) (lexeme s place text ∷ ts) h = inr (lift_place p at n ts h)

lift_fault : (n : ℕ) (ts : List Lexeme) (e : TextFault) → IsSyntaxFault (drop n ts) e → IsSyntaxFault ts e
lift_fault n ts (Syntax at) (inl h) = inl h
lift_fault n ts (Syntax at) (inr h) = inr (lift_place (λ s. true) at n ts h)
lift_fault n ts (TooDeep at) h = lift_place opens at n ts h
lift_fault n ts (NumberTooWide at) h = lift_place is_wide at n ts h
lift_fault n ts _ h = h

-- what is sound for a suffix is sound for all tokens
lift : {V : Type 0} (n : ℕ) (ts us : List Lexeme) → us ≡ drop n ts → (s : Parsed V) → Sound us s → Sound ts s
lift n ts us e (Ok y) h = (n + h.0, h.1 ∙ ap (drop h.0) e ∙ drop-drop h.0 n ts)
lift n ts us e (Err x) h = lift_fault n ts x (subst (λ (v : List Lexeme). IsSyntaxFault v x) e h)

bind_sound : {V W : Type 0} (n : ℕ) (ts : List Lexeme) (s : Parsed V) (k : V × List Lexeme → Parsed W) → Within n s → Sound ts s → ((x : V × List Lexeme) → length x.1 < n → Sound x.1 (k x)) → Sound ts (s >>= k)
bind_sound n ts (Ok x) k w h g = lift h.0 ts x.1 h.1 (k x) (g x w)
bind_sound n ts (Err e) k w h g = h

if_sound : {V : Type 0} (ts : List Lexeme) (b : Bool) (x y : Parsed V) → (b ≡ true → Sound ts x) → (b ≡ false → Sound ts y) → Sound ts (cond b x y)
if_sound ts true x y p q = p refl
if_sound ts false x y p q = q refl

change_sound : {V W : Type 0} (ts : List Lexeme) (f : V → W) (s : Parsed V) → Sound ts s → Sound ts (change f s)
change_sound ts f (Ok x) h = h
change_sound ts f (Err e) h = h

expected_sound : {V : Type 0} (p : Terminal → Bool) (v : V) (ts : List Lexeme) → Sound ts (expects p ts >>= λ r. Ok (v, r))
expected_sound p v [] = inl refl
expected_sound p v (lexeme s at text ∷ ts) = elim (p s) as (λ b. Sound (lexeme s at text ∷ ts) (cond b (Ok ts) (Err (Syntax at)) >>= λ r. Ok (v, r))) [ true ↦ (1, refl) | false ↦ inr (inl (refl, refl)) ]

then_expects_sound : {V : Type 0} (p : Terminal → Bool) (ts : List Lexeme) (s : Parsed V) → Sound ts s → Sound ts (then_expects p s)
then_expects_sound p ts (Ok x) h = lift h.0 ts x.1 h.1 (expects p x.1 >>= λ r. Ok (x.0, r)) (expected_sound p x.0 x.1)
then_expects_sound p ts (Err e) h = h

enter_sound : {V : Type 0} (ts : List Lexeme) (c : Context) (at : ℕ) (k : Context → Parsed V) → OccursAt opens at ts → ((d : Context) → Sound ts (k d)) → Sound ts (enter c at >>= k)
enter_sound ts c at k h g = elim (nat_lt c.depth MAX_OPEN) as (λ b. Sound ts (cond b (Ok (context (c.depth + 1) c.negated c.compares)) (Err (TooDeep at)) >>= k)) [ true ↦ g _ | false ↦ h ]

enter_not_sound : {V : Type 0} (ts : List Lexeme) (c : Context) (at : ℕ) (k : Context → Parsed V) → OccursAt opens at ts → ((d : Context) → Sound ts (k d)) → Sound ts (enter_not c at >>= k)
enter_not_sound ts c at k h g = elim (nat_lt c.depth MAX_OPEN) as (λ b. Sound ts (cond b (Ok (context (c.depth + 1) true c.compares)) (Err (TooDeep at)) >>= k)) [ true ↦ g _ | false ↦ h ]

-- ---- expressions

abbrev ExprBelow : ExprParser (Unit {0}) → ℕ → Type 0
ExprBelow f n = (x : ExprAim (Unit {0})) (c : Context) (ts : List Lexeme) → expr_steps x ts < n → Sound ts (f x c ts)

factor_sound : (f : ExprParser (Unit {0})) (c : Context) (ts : List Lexeme) → ExprBelow f (8 * length ts) → Sound ts (factor_by scanning_exprs f c ts)
factor_sound f c [] a = inl refl
factor_sound f c (lexeme Zero at text ∷ ts) a = (1, refl)
factor_sound f c (lexeme One at text ∷ ts) a = (1, refl)
factor_sound f c (lexeme (Number n) at text ∷ ts) a = (1, refl)
factor_sound f c (lexeme WideNumber at text ∷ ts) a = inl (refl, refl)
factor_sound f c (lexeme Name at text ∷ ts) a = (1, refl)
factor_sound f c (lexeme RoundOpen at text ∷ ts) a = enter_sound (lexeme RoundOpen at text ∷ ts) c at (λ d. change scanning_exprs.enclosed (then_expects (is_terminal RoundClose) (f sums d ts))) (inl (refl, refl))
    (λ d. lift 1 (lexeme RoundOpen at text ∷ ts) ts refl (change scanning_exprs.enclosed (then_expects (is_terminal RoundClose) (f sums d ts))) (change_sound ts scanning_exprs.enclosed (then_expects (is_terminal RoundClose) (f sums d ts)) (then_expects_sound (is_terminal RoundClose) ts (f sums d ts) (a sums d ts (omega arith)))))
factor_sound f c (lexeme _ at text ∷ ts) a = inr (inl (refl, refl))

-- a part and the rest of its list
expr_list_sound : (f : ExprParser (Unit {0})) → exprs.IsShort f → (x y : ExprAim (Unit {0})) → exprs.slack x ≡ 0 → expr_steps y [] ≤ 3 → (c : Context) (ts : List Lexeme) → Sound ts (f x c ts) → ExprBelow f (8 * length ts) → Sound ts (f x c ts >>= λ v. f y c v.1)
expr_list_sound f s x y still three c ts first a = bind_sound (length ts + exprs.slack x) ts (f x c ts) (λ v. f y c v.1) (s x c ts) first (λ v lt. a y c v.1 (omega (arith, still, three)))

-- the parts after a terminal
expr_more_sound : (f : ExprParser (Unit {0})) → exprs.IsShort f → (x y : ExprAim (Unit {0})) → exprs.slack x ≡ 0 → expr_steps x [] ≤ 2 → expr_steps y [] ≤ 3 → (p : Terminal → Bool) (c : Context) (ts : List Lexeme) → heads p ts ≡ true → ExprBelow f (8 * length ts) → Sound ts (f x c (drop 1 ts) >>= λ v. f y c v.1)
expr_more_sound f s x y still two three p c ts k a = let lt = headed p ts k in
    lift 1 ts (drop 1 ts) refl (f x c (drop 1 ts) >>= λ v. f y c v.1) (expr_list_sound f s x y still three c (drop 1 ts) (a x c (drop 1 ts) (omega (arith, two, lt))) (λ z d us le. a z d us (omega arith)))

expr_sound : (f : ExprParser (Unit {0})) → exprs.IsShort f → (x : ExprAim (Unit {0})) (c : Context) (ts : List Lexeme) → ExprBelow f (expr_steps x ts) → Sound ts (expr_by scanning_exprs f x c ts)
expr_sound f s sums c ts a = expr_list_sound f s products (sums_after tt) refl (omega arith) c ts (a products c ts (omega arith)) (λ x d us lt. a x d us (omega arith))
expr_sound f s (sums_after e) c ts a = if_sound ts (heads is_sum ts) (f products c (drop 1 ts) >>= λ v. f (sums_after tt) c v.1) (Ok (e, ts))
    (λ k. expr_more_sound f s products (sums_after tt) refl (omega arith) (omega arith) is_sum c ts k (λ x d us lt. a x d us (omega arith))) (λ k. (0, refl))
expr_sound f s products c ts a = expr_list_sound f s factor (products_after tt) refl (omega arith) c ts (a factor c ts (omega arith)) (λ x d us lt. a x d us (omega arith))
expr_sound f s (products_after e) c ts a = if_sound ts (heads (is_terminal Star) ts) (f factor c (drop 1 ts) >>= λ v. f (products_after tt) c v.1) (Ok (e, ts))
    (λ k. expr_more_sound f s factor (products_after tt) refl (omega arith) (omega arith) (is_terminal Star) c ts k (λ x d us lt. a x d us (omega arith))) (λ k. (0, refl))
expr_sound f s factor c ts a = factor_sound f c ts (λ x d us lt. a x d us (omega arith))

expr_within_sound : (n : ℕ) → ExprBelow (expr_within scanning_exprs n) n
unfolding expr_within
expr_within_sound zero x c ts lt = absurd (omega arith)
expr_within_sound (suc n) x c ts lt = expr_sound (expr_within scanning_exprs n) (exprs.within_short scanning_exprs n) x c ts (λ y d us le. expr_within_sound n y d us (omega arith))

expr_scan_sound : (x : ExprAim (Unit {0})) (c : Context) (ts : List Lexeme) → Sound ts (parse_expr scanning_exprs x c ts)
unfolding parse_expr
expr_scan_sound x c ts = expr_within_sound (suc (expr_steps x ts)) x c ts (omega arith)

-- ---- conditions

abbrev CondBelow : CondParser (Unit {0}) (Unit {0}) → ℕ → Type 0
CondBelow f n = (x : CondAim (Unit {0})) (c : Context) (ts : List Lexeme) → cond_steps x ts < n → Sound ts (f x c ts)

relation_sound : (ts : List Lexeme) → Sound ts (relation ts)
relation_sound [] = inl refl
relation_sound (lexeme (Compares r) at text ∷ ts) = (1, refl)
relation_sound (lexeme _ at text ∷ ts) = inr (inl (refl, refl))

comparison_sound : (c : Context) (ts : List Lexeme) → Sound ts (comparison scanning_conds c ts)
comparison_sound c ts = bind_sound (length ts + 0) ts (parse_expr scanning_exprs sums c ts) (λ x. relation x.1 >>= λ r. parse_expr scanning_exprs sums c r.1 >>= λ y. Ok (tt, y.1)) (exprs.expr_read_short scanning_exprs sums c ts) (expr_scan_sound sums c ts)
    (λ x lt. bind_sound (length x.1) x.1 (relation x.1) (λ r. parse_expr scanning_exprs sums c r.1 >>= λ y. Ok (tt, y.1)) (conds.relation_short x.1) (relation_sound x.1)
    (λ r le. change_sound r.1 (λ e. tt) (parse_expr scanning_exprs sums c r.1) (expr_scan_sound sums c r.1)))

literal_sound : (f : CondParser (Unit {0}) (Unit {0})) (c : Context) (ts : List Lexeme) → CondBelow f (8 * length ts) → Sound ts (literal_by scanning_conds f c ts)
literal_sound f c [] a = inl refl
literal_sound f c (lexeme True at text ∷ ts) a = (1, refl)
literal_sound f c (lexeme False at text ∷ ts) a = (1, refl)
literal_sound f c (lexeme Bang at text ∷ ts) a = enter_not_sound (lexeme Bang at text ∷ ts) c at (λ d. change scanning_conds.negated (f literal d ts)) (inl (refl, refl))
    (λ d. lift 1 (lexeme Bang at text ∷ ts) ts refl (change scanning_conds.negated (f literal d ts)) (change_sound ts scanning_conds.negated (f literal d ts) (a literal d ts (omega arith))))
literal_sound f c (lexeme Name at text ∷ ts) a = if_sound (lexeme Name at text ∷ ts) (begins_expr ts) (comparison scanning_conds c (lexeme Name at text ∷ ts)) (Ok (tt, ts)) (λ h. comparison_sound c (lexeme Name at text ∷ ts)) (λ h. (1, refl))
literal_sound f c (lexeme RoundOpen at text ∷ ts) a = if_sound (lexeme RoundOpen at text ∷ ts) (begins_expr (index_after_matching 0 ts)) (comparison scanning_conds c (lexeme RoundOpen at text ∷ ts)) (enter c at >>= λ d. change scanning_conds.enclosed (then_expects (is_terminal RoundClose) (f disjunction d ts)))
    (λ h. comparison_sound c (lexeme RoundOpen at text ∷ ts))
    (λ h. enter_sound (lexeme RoundOpen at text ∷ ts) c at (λ d. change scanning_conds.enclosed (then_expects (is_terminal RoundClose) (f disjunction d ts))) (inl (refl, refl))
    (λ d. lift 1 (lexeme RoundOpen at text ∷ ts) ts refl (change scanning_conds.enclosed (then_expects (is_terminal RoundClose) (f disjunction d ts))) (change_sound ts scanning_conds.enclosed (then_expects (is_terminal RoundClose) (f disjunction d ts)) (then_expects_sound (is_terminal RoundClose) ts (f disjunction d ts) (a disjunction d ts (omega arith))))))
literal_sound f c (lexeme Zero at text ∷ ts) a = comparison_sound c (lexeme Zero at text ∷ ts)
literal_sound f c (lexeme One at text ∷ ts) a = comparison_sound c (lexeme One at text ∷ ts)
literal_sound f c (lexeme (Number n) at text ∷ ts) a = comparison_sound c (lexeme (Number n) at text ∷ ts)
literal_sound f c (lexeme WideNumber at text ∷ ts) a = comparison_sound c (lexeme WideNumber at text ∷ ts)
literal_sound f c (lexeme _ at text ∷ ts) a = inr (inl (refl, refl))

-- a part and the rest of its list
cond_list_sound : (f : CondParser (Unit {0}) (Unit {0})) → conds.IsShort f → (x y : CondAim (Unit {0})) → conds.slack x ≡ 0 → cond_steps y [] ≤ 3 → (c : Context) (ts : List Lexeme) → Sound ts (f x c ts) → CondBelow f (8 * length ts) → Sound ts (f x c ts >>= λ v. f y c v.1)
cond_list_sound f s x y still three c ts first a = bind_sound (length ts + conds.slack x) ts (f x c ts) (λ v. f y c v.1) (s x c ts) first (λ v lt. a y c v.1 (omega (arith, still, three)))

-- the parts after a terminal
cond_more_sound : (f : CondParser (Unit {0}) (Unit {0})) → conds.IsShort f → (x y : CondAim (Unit {0})) → conds.slack x ≡ 0 → cond_steps x [] ≤ 2 → cond_steps y [] ≤ 3 → (p : Terminal → Bool) (c : Context) (ts : List Lexeme) → heads p ts ≡ true → CondBelow f (8 * length ts) → Sound ts (f x c (drop 1 ts) >>= λ v. f y c v.1)
cond_more_sound f s x y still two three p c ts k a = let lt = headed p ts k in
    lift 1 ts (drop 1 ts) refl (f x c (drop 1 ts) >>= λ v. f y c v.1) (cond_list_sound f s x y still three c (drop 1 ts) (a x c (drop 1 ts) (omega (arith, two, lt))) (λ z d us le. a z d us (omega arith)))

cond_sound : (f : CondParser (Unit {0}) (Unit {0})) → conds.IsShort f → (x : CondAim (Unit {0})) (c : Context) (ts : List Lexeme) → CondBelow f (cond_steps x ts) → Sound ts (cond_by scanning_conds f x c ts)
cond_sound f s disjunction c ts a = cond_list_sound f s conjunction (disjunction_after tt) refl (omega arith) c ts (a conjunction c ts (omega arith)) (λ x d us lt. a x d us (omega arith))
cond_sound f s (disjunction_after l) c ts a = if_sound ts (heads (is_terminal Or) ts) (f conjunction c (drop 1 ts) >>= λ v. f (disjunction_after tt) c v.1) (Ok (tt, ts))
    (λ k. cond_more_sound f s conjunction (disjunction_after tt) refl (omega arith) (omega arith) (is_terminal Or) c ts k (λ x d us lt. a x d us (omega arith))) (λ k. (0, refl))
cond_sound f s conjunction c ts a = cond_list_sound f s literal (conjunction_after tt) refl (omega arith) c ts (a literal c ts (omega arith)) (λ x d us lt. a x d us (omega arith))
cond_sound f s (conjunction_after l) c ts a = if_sound ts (heads (is_terminal And) ts) (f literal c (drop 1 ts) >>= λ v. f (conjunction_after tt) c v.1) (Ok (tt, ts))
    (λ k. cond_more_sound f s literal (conjunction_after tt) refl (omega arith) (omega arith) (is_terminal And) c ts k (λ x d us lt. a x d us (omega arith))) (λ k. (0, refl))
cond_sound f s literal c ts a = literal_sound f c ts (λ x d us lt. a x d us (omega arith))

cond_within_sound : (n : ℕ) → CondBelow (cond_within scanning_conds n) n
unfolding cond_within
cond_within_sound zero x c ts lt = absurd (omega arith)
cond_within_sound (suc n) x c ts lt = cond_sound (cond_within scanning_conds n) (conds.within_short scanning_conds n) x c ts (λ y d us le. cond_within_sound n y d us (omega arith))

cond_scan_sound : (x : CondAim (Unit {0})) (c : Context) (ts : List Lexeme) → Sound ts (parse_cond scanning_conds x c ts)
unfolding parse_cond
cond_scan_sound x c ts = cond_within_sound (suc (cond_steps x ts)) x c ts (omega arith)

-- ---- terms

abbrev TermBelow : TermParser (Unit {0}) (Unit {0}) → ℕ → Type 0
TermBelow f n = (x : TermAim (Unit {0})) (c : Context) (ts : List Lexeme) → term_steps x ts < n → Sound ts (f x c ts)

unit_sound : (f : TermParser (Unit {0}) (Unit {0})) (c : Context) (ts : List Lexeme) → TermBelow f (8 * length ts) → Sound ts (unit_by scanning f c ts)
unit_sound f c [] a = inl refl
unit_sound f c (lexeme Zero at text ∷ ts) a = (1, refl)
unit_sound f c (lexeme One at text ∷ ts) a = (1, refl)
unit_sound f c (lexeme Name at text ∷ ts) a = (1, refl)
unit_sound f c (lexeme Bang at text ∷ ts) a = enter_not_sound (lexeme Bang at text ∷ ts) c at (λ d. change scanning.negated (f unit d ts)) (inl (refl, refl))
    (λ d. lift 1 (lexeme Bang at text ∷ ts) ts refl (change scanning.negated (f unit d ts)) (change_sound ts scanning.negated (f unit d ts) (a unit d ts (omega arith))))
unit_sound f c (lexeme SquareOpen at text ∷ ts) a = enter_sound (lexeme SquareOpen at text ∷ ts) c at (λ d. change scanning.tested (then_expects (is_terminal SquareClose) (parse_cond scanning_conds disjunction d ts))) (inl (refl, refl))
    (λ d. lift 1 (lexeme SquareOpen at text ∷ ts) ts refl (change scanning.tested (then_expects (is_terminal SquareClose) (parse_cond scanning_conds disjunction d ts))) (change_sound ts scanning.tested (then_expects (is_terminal SquareClose) (parse_cond scanning_conds disjunction d ts)) (then_expects_sound (is_terminal SquareClose) ts (parse_cond scanning_conds disjunction d ts) (cond_scan_sound disjunction d ts))))
unit_sound f c (lexeme RoundOpen at text ∷ ts) a = enter_sound (lexeme RoundOpen at text ∷ ts) c at (λ d. change scanning.enclosed (then_expects (is_terminal RoundClose) (f choice d ts))) (inl (refl, refl))
    (λ d. lift 1 (lexeme RoundOpen at text ∷ ts) ts refl (change scanning.enclosed (then_expects (is_terminal RoundClose) (f choice d ts))) (change_sound ts scanning.enclosed (then_expects (is_terminal RoundClose) (f choice d ts)) (then_expects_sound (is_terminal RoundClose) ts (f choice d ts) (a choice d ts (omega arith)))))
unit_sound f c (lexeme _ at text ∷ ts) a = inr (inl (refl, refl))

star_sound : (c : Context) (t : Unit {0}) (ts : List Lexeme) → Sound ts (star_or_not scanning c t ts)
star_sound c t ts = if_sound ts (heads (is_terminal Star) ts) (Ok (tt, drop 1 ts)) (Ok (t, ts)) (λ k. (1, refl)) (λ k. (0, refl))

-- a product and the rest of its list
choice_list_sound : (f : TermParser (Unit {0}) (Unit {0})) → terms.IsShort f → (c : Context) (ts : List Lexeme) → Sound ts (f sequence c ts) → TermBelow f (8 * length ts) → Sound ts (f sequence c ts >>= λ v. f (choice_after tt) c v.1)
choice_list_sound f s c ts first a = bind_sound (length ts + 0) ts (f sequence c ts) (λ v. f (choice_after tt) c v.1) (s sequence c ts) first (λ v lt. a (choice_after tt) c v.1 (omega arith))

-- a unit with its star and the rest of its list
sequence_list_sound : (f : TermParser (Unit {0}) (Unit {0})) → terms.IsShort f → (c : Context) (ts : List Lexeme) → Sound ts (f unit c ts) → TermBelow f (8 * length ts) → Sound ts (f unit c ts >>= λ x. star_or_not scanning c x.0 x.1 >>= λ v. f (sequence_after tt) c v.1)
sequence_list_sound f s c ts first a = bind_sound (length ts + 0) ts (f unit c ts) (λ x. star_or_not scanning c x.0 x.1 >>= λ v. f (sequence_after tt) c v.1) (s unit c ts) first
    (λ x lt. bind_sound (length ts) x.1 (star_or_not scanning c x.0 x.1) (λ v. f (sequence_after tt) c v.1) (terms.star_short scanning c x.0 x.1 (length ts) (omega arith)) (star_sound c x.0 x.1) (λ v le. a (sequence_after tt) c v.1 (omega arith)))

term_sound : (f : TermParser (Unit {0}) (Unit {0})) → terms.IsShort f → (x : TermAim (Unit {0})) (c : Context) (ts : List Lexeme) → TermBelow f (term_steps x ts) → Sound ts (term_by scanning f x c ts)
term_sound f s choice c ts a = choice_list_sound f s c ts (a sequence c ts (omega arith)) (λ x d us lt. a x d us (omega arith))
term_sound f s (choice_after m) c ts a = if_sound ts (heads (is_terminal Plus) ts) (f sequence c (drop 1 ts) >>= λ v. f (choice_after tt) c v.1) (Ok (tt, ts))
    (λ k. let lt = headed (is_terminal Plus) ts k in lift 1 ts (drop 1 ts) refl (f sequence c (drop 1 ts) >>= λ v. f (choice_after tt) c v.1) (choice_list_sound f s c (drop 1 ts) (a sequence c (drop 1 ts) (omega arith)) (λ x d us le. a x d us (omega arith))))
    (λ k. (0, refl))
term_sound f s sequence c ts a = sequence_list_sound f s c ts (a unit c ts (omega arith)) (λ x d us lt. a x d us (omega arith))
term_sound f s (sequence_after m) c ts a = if_sound ts (heads (is_terminal Dot) ts) (f unit c (drop 1 ts) >>= λ x. star_or_not scanning c x.0 x.1 >>= λ v. f (sequence_after tt) c v.1) (Ok (tt, ts))
    (λ k. let lt = headed (is_terminal Dot) ts k in lift 1 ts (drop 1 ts) refl (f unit c (drop 1 ts) >>= λ x. star_or_not scanning c x.0 x.1 >>= λ v. f (sequence_after tt) c v.1) (sequence_list_sound f s c (drop 1 ts) (a unit c (drop 1 ts) (omega arith)) (λ x d us le. a x d us (omega arith))))
    (λ k. (0, refl))
term_sound f s unit c ts a = unit_sound f c ts (λ x d us lt. a x d us (omega arith))

term_within_sound : (n : ℕ) → TermBelow (term_within scanning n) n
unfolding term_within
term_within_sound zero x c ts lt = absurd (omega arith)
term_within_sound (suc n) x c ts lt = term_sound (term_within scanning n) (terms.within_short scanning n) x c ts (λ y d us le. term_within_sound n y d us (omega arith))

term_scan_sound : (x : TermAim (Unit {0})) (c : Context) (ts : List Lexeme) → Sound ts (parse_term scanning x c ts)
unfolding parse_term
term_scan_sound x c ts = term_within_sound (suc (term_steps x ts)) x c ts (omega arith)

-- the fault of a parse that fails
fault_of : {V : Type 0} (ts : List Lexeme) (s : Parsed V) (e : TextFault) → Sound ts s → (s >>= λ x. Ok x.1) ≡ Err e → IsSyntaxFault ts e
fault_of ts (Ok x) e h same = absurd cc
fault_of ts (Err f) e h same = let is : f ≡ e = cc in subst (IsSyntaxFault ts) is h

pub term_faults : AnswersFaults scan_term
term_faults d ts e same = let c = context d false true in fault_of ts (parse_term scanning choice c ts) e (term_scan_sound choice c ts) same

pub cond_faults : AnswersFaults scan_cond
cond_faults d ts e same = let c = context d false true in fault_of ts (parse_cond scanning_conds disjunction c ts) e (cond_scan_sound disjunction c ts) same

pub expr_faults : AnswersFaults scan_expr
expr_faults d ts e same = let c = context d false true in fault_of ts (parse_expr scanning_exprs sums c ts) e (expr_scan_sound sums c ts) same

-- a call with the result of the syntax check reports only syntax faults
pub answers_fault : (scan : ℕ → List Lexeme → Result (List Lexeme) TextFault) → AnswersFaults scan → (d : ℕ) (all ts : List Lexeme) (r : Result ℕ TextFault) → Expects all r (scan d ts) → IfErr r (λ e. IsSyntaxFault ts e)
answers_fault scan faults d all ts (Ok i) h = tt
answers_fault scan faults d all ts (Err e) h = faults d ts e h
