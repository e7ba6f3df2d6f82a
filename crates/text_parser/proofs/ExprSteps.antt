-- The equation of the expression parser, without a number of steps.
use Rattle.std.proofs.Common.{◌≡◌, ℕ, zero, suc, ◌+◌, ◌*◌, ◌<◌, ◌≤◌, List, [], ◌∷◌, length, true, false, Result, Ok, Err, refl, ap, ◌∙◌, arith, drop, length-drop}
use Rattle.text_parser.specs.declared.fault.TextFault.{TextFault}
use Rattle.text_parser.specs.declared.fault.TextFault.TheVariants.{Syntax}
use Rattle.text_parser.specs.declared.terminal.Terminal.{Terminal}
use Rattle.text_parser.specs.declared.terminal.Terminal.TheVariants.{RoundOpen, RoundClose, Star, Zero, One, Number, WideNumber, Name}
use Rattle.text_parser.specs.declared.reading.Context.{Context}
use Rattle.text_parser.specs.declared.reading.Operator.TheVariants.{Multiply}
use Rattle.text_parser.specs.Lexemes.{Lexeme, lexeme, heads, is_sum, is_terminal}
use Rattle.text_parser.specs.Parsed.{Parsed, ◌>>=◌, place_of, change, expects, then_expects}
use Rattle.text_parser.specs.Actions.{ExprActions, enter}
use Rattle.text_parser.specs.Exprs.{operator_at, ExprAim, sums, sums_after, products, products_after, factor, ExprParser, parenthesis, factor_by, expr_by, rank, steps, expr_within, parse_expr}
use Rattle.text_parser.proofs.TokenPlaces.{next_drop}
use Rattle.text_parser.proofs.PartFaults.{closed_same}
use Rattle.text_parser.proofs.Within.{Within, bind_within, if_within, weaken, before_within, enter_within, change_within, then_expects_within, headed, bind_same, if_same, enter_same}

-- 1 if the aim may consume no token, else 0
abbrev pub slack : {E : Type 0} → ExprAim E → ℕ
slack (sums_after e) = 1
slack (products_after e) = 1
slack _ = 0

abbrev pub IsShort : {E : Type 0} → ExprParser E → Type 0
IsShort {E} f = (x : ExprAim E) (c : Context) (ts : List Lexeme) → Within (length ts + slack x) (f x c ts)

factor_short : {E : Type 0} (g : ExprActions E) (f : ExprParser E) → IsShort f → (c : Context) (ts : List Lexeme) → Within (length ts) (factor_by g f c ts)
factor_short g f s c [] = tt
factor_short g f s c (lexeme Zero at text ∷ ts) = before_within _ ts (g.number c at 0) (omega arith)
factor_short g f s c (lexeme One at text ∷ ts) = before_within _ ts (g.number c at 1) (omega arith)
factor_short g f s c (lexeme (Number n) at text ∷ ts) = before_within _ ts (g.number c at n) (omega arith)
factor_short g f s c (lexeme Name at text ∷ ts) = before_within _ ts (g.variable c at text) (omega arith)
factor_short g f s c (lexeme RoundOpen at text ∷ ts) = enter_within (suc (length ts)) (enter c at) (λ d. change g.enclosed (then_expects (is_terminal RoundClose) (f sums d ts)))
    (λ d. change_within (suc (length ts)) g.enclosed (then_expects (is_terminal RoundClose) (f sums d ts)) (then_expects_within (is_terminal RoundClose) (suc (length ts)) (f sums d ts) (weaken (length ts + 0) (suc (length ts)) (f sums d ts) (omega arith) (s sums d ts))))
factor_short g f s c (lexeme _ at text ∷ ts) = tt

-- a part and the rest of its list consume at least one token
after_short : {E : Type 0} (f : ExprParser E) → IsShort f → (x : ExprAim E) (y : E → ExprAim E) → slack x ≡ 0 → ((e : E) → slack (y e) ≡ 1) → (c : Context) (ts : List Lexeme) → Within (length ts) (f x c ts >>= λ v. f (y v.0) c v.1)
after_short f s x y still one c ts = bind_within (length ts + slack x) (length ts) (f x c ts) (λ v. f (y v.0) c v.1) (s x c ts)
    (λ v lt. weaken (length v.1 + slack (y v.0)) (length ts) (f (y v.0) c v.1) (omega (arith, still, one v.0)) (s (y v.0) c v.1))

expr_short : {E : Type 0} (g : ExprActions E) (f : ExprParser E) → IsShort f → IsShort (expr_by g f)
expr_short g f s sums c ts = weaken (length ts) (length ts + 0) _ (omega arith) (after_short f s products (λ e. sums_after e) refl (λ e. refl) c ts)
expr_short g f s (sums_after e) c ts = if_within (length ts + 1) (heads is_sum ts) _ (Ok (e, ts))
    (λ h. weaken (length (drop 1 ts)) (length ts + 1) _ (omega (arith, length-drop 1 ts)) (after_short f s products (λ v. sums_after (g.join (operator_at ts) e v)) refl (λ e. refl) c (drop 1 ts)))
    (λ h. omega arith)
expr_short g f s products c ts = weaken (length ts) (length ts + 0) _ (omega arith) (after_short f s factor (λ e. products_after e) refl (λ e. refl) c ts)
expr_short g f s (products_after e) c ts = if_within (length ts + 1) (heads (is_terminal Star) ts) _ (Ok (e, ts))
    (λ h. weaken (length (drop 1 ts)) (length ts + 1) _ (omega (arith, length-drop 1 ts)) (after_short f s factor (λ v. products_after (g.join Multiply e v)) refl (λ e. refl) c (drop 1 ts)))
    (λ h. omega arith)
expr_short g f s factor c ts = weaken (length ts) (length ts + 0) (factor_by g f c ts) (omega arith) (factor_short g f s c ts)

pub within_short : {E : Type 0} (g : ExprActions E) (n : ℕ) → IsShort (expr_within g n)
unfolding expr_within
within_short g zero x c ts = tt
within_short g (suc n) x c ts = expr_short g (expr_within g n) (within_short g n) x c ts

abbrev Same : {E : Type 0} → ExprParser E → ExprParser E → ℕ → Type 0
Same {E} f h n = (x : ExprAim E) (c : Context) (ts : List Lexeme) → steps x ts < n → f x c ts ≡ h x c ts

factor_same : {E : Type 0} (g : ExprActions E) (f h : ExprParser E) (c : Context) (ts : List Lexeme) → Same f h (8 * length ts) → factor_by g f c ts ≡ factor_by g h c ts
factor_same g f h c [] a = refl
factor_same g f h c (lexeme Zero at text ∷ ts) a = refl
factor_same g f h c (lexeme One at text ∷ ts) a = refl
factor_same g f h c (lexeme (Number n) at text ∷ ts) a = refl
factor_same g f h c (lexeme Name at text ∷ ts) a = refl
factor_same g f h c (lexeme RoundOpen at text ∷ ts) a = enter_same (enter c at) _ _ (λ d. ap (λ (m : Parsed _). change g.enclosed (then_expects (is_terminal RoundClose) m)) (a sums d ts (omega arith)))
factor_same g f h c (lexeme _ at text ∷ ts) a = refl

after_same : {E : Type 0} (f h : ExprParser E) → IsShort f → (x : ExprAim E) (y : E → ExprAim E) → slack x ≡ 0 → ((e : E) → rank (y e) ≤ 3) → rank x ≤ 2 → (c : Context) (ts : List Lexeme) → f x c ts ≡ h x c ts → Same f h (8 * length ts) → (f x c ts >>= λ v. f (y v.0) c v.1) ≡ (h x c ts >>= λ v. h (y v.0) c v.1)
after_same f h s x y still three two c ts first a = bind_same (length ts + slack x) (f x c ts) (h x c ts) (λ v. f (y v.0) c v.1) (λ v. h (y v.0) c v.1) first (s x c ts) (λ v lt. a (y v.0) c v.1 (omega (arith, still, three v.0)))

expr_same : {E : Type 0} (g : ExprActions E) (f h : ExprParser E) → IsShort f → (x : ExprAim E) (c : Context) (ts : List Lexeme) → Same f h (steps x ts) → expr_by g f x c ts ≡ expr_by g h x c ts
expr_same g f h s sums c ts a = after_same f h s products (λ e. sums_after e) refl (λ e. omega arith) (omega arith) c ts (a products c ts (omega arith)) (λ x d us lt. a x d us (omega arith))
expr_same g f h s (sums_after e) c ts a = if_same (heads is_sum ts) _ _ _ (λ k. let lt = headed is_sum ts k in
    after_same f h s products (λ v. sums_after (g.join (operator_at ts) e v)) refl (λ v. omega arith) (omega arith) c (drop 1 ts) (a products c (drop 1 ts) (omega arith)) (λ x d us le. a x d us (omega arith)))
expr_same g f h s products c ts a = after_same f h s factor (λ e. products_after e) refl (λ e. omega arith) (omega arith) c ts (a factor c ts (omega arith)) (λ x d us lt. a x d us (omega arith))
expr_same g f h s (products_after e) c ts a = if_same (heads (is_terminal Star) ts) _ _ _ (λ k. let lt = headed (is_terminal Star) ts k in
    after_same f h s factor (λ v. products_after (g.join Multiply e v)) refl (λ v. omega arith) (omega arith) c (drop 1 ts) (a factor c (drop 1 ts) (omega arith)) (λ x d us le. a x d us (omega arith)))
expr_same g f h s factor c ts a = factor_same g f h c ts (λ x d us lt. a x d us (omega arith))

enough : {E : Type 0} (g : ExprActions E) (n m : ℕ) (x : ExprAim E) (c : Context) (ts : List Lexeme) → steps x ts < n → steps x ts < m → expr_within g n x c ts ≡ expr_within g m x c ts
unfolding expr_within
enough g zero m x c ts p q = absurd (omega arith)
enough g (suc n) zero x c ts p q = absurd (omega arith)
enough g (suc n) (suc m) x c ts p q = expr_same g (expr_within g n) (expr_within g m) (within_short g n) x c ts (λ y d us lt. enough g n m y d us (omega arith) (omega arith))

pub expr_step : {E : Type 0} (g : ExprActions E) (x : ExprAim E) (c : Context) (ts : List Lexeme) → parse_expr g x c ts ≡ expr_by g (parse_expr g) x c ts
unfolding parse_expr expr_within
expr_step g x c ts = expr_same g (expr_within g (steps x ts)) (parse_expr g) (within_short g (steps x ts)) x c ts (λ y d us lt. enough g (steps x ts) (suc (steps y us)) y d us lt (omega arith))

-- what a list reads, by what its parts read

pub sums_first : {E : Type 0} (g : ExprActions E) (c : Context) (ts : List Lexeme) (x : E × List Lexeme) → parse_expr g products c ts ≡ Ok x → parse_expr g (sums_after x.0) c x.1 ≡ parse_expr g sums c ts
sums_first g c ts x h = rw (expr_step g sums c ts, h) refl

pub sums_fault : {E : Type 0} (g : ExprActions E) (c : Context) (ts : List Lexeme) (f : TextFault) → parse_expr g products c ts ≡ Err f → parse_expr g sums c ts ≡ Err f
sums_fault g c ts f h = rw (expr_step g sums c ts, h) refl

sums_more : {E : Type 0} (g : ExprActions E) (e : E) (c : Context) (n : ℕ) (ts : List Lexeme) → heads is_sum (drop n ts) ≡ true → parse_expr g (sums_after e) c (drop n ts) ≡ (parse_expr g products c (drop (n + 1) ts) >>= λ x. parse_expr g (sums_after (g.join (operator_at (drop n ts)) e x.0)) c x.1)
sums_more g e c n ts more = rw (expr_step g (sums_after e) c (drop n ts), more, next_drop n ts) refl

pub sums_next : {E : Type 0} (g : ExprActions E) (e : E) (c : Context) (n : ℕ) (ts : List Lexeme) (x : E × List Lexeme) (v : E) → heads is_sum (drop n ts) ≡ true → parse_expr g products c (drop (n + 1) ts) ≡ Ok x → ◌≡◌ {A = Result E TextFault} (Ok (g.join (operator_at (drop n ts)) e x.0)) (Ok v) → parse_expr g (sums_after v) c x.1 ≡ parse_expr g (sums_after e) c (drop n ts)
sums_next g e c n ts x v more h made =
    let joined : g.join (operator_at (drop n ts)) e x.0 ≡ v = cc in
    rw (sums_more g e c n ts more, h, joined) refl

pub sums_next_fault : {E : Type 0} (g : ExprActions E) (e : E) (c : Context) (n : ℕ) (ts : List Lexeme) (f : TextFault) → heads is_sum (drop n ts) ≡ true → parse_expr g products c (drop (n + 1) ts) ≡ Err f → parse_expr g (sums_after e) c (drop n ts) ≡ Err f
sums_next_fault g e c n ts f more h = rw (sums_more g e c n ts more, h) refl

pub sums_end : {E : Type 0} (g : ExprActions E) (e : E) (c : Context) (ts : List Lexeme) → heads is_sum ts ≡ false → parse_expr g (sums_after e) c ts ≡ Ok (e, ts)
sums_end g e c ts done = rw (expr_step g (sums_after e) c ts, done) refl

pub products_first : {E : Type 0} (g : ExprActions E) (c : Context) (ts : List Lexeme) (x : E × List Lexeme) → parse_expr g factor c ts ≡ Ok x → parse_expr g (products_after x.0) c x.1 ≡ parse_expr g products c ts
products_first g c ts x h = rw (expr_step g products c ts, h) refl

pub products_fault : {E : Type 0} (g : ExprActions E) (c : Context) (ts : List Lexeme) (f : TextFault) → parse_expr g factor c ts ≡ Err f → parse_expr g products c ts ≡ Err f
products_fault g c ts f h = rw (expr_step g products c ts, h) refl

products_more : {E : Type 0} (g : ExprActions E) (e : E) (c : Context) (n : ℕ) (ts : List Lexeme) → heads (is_terminal Star) (drop n ts) ≡ true → parse_expr g (products_after e) c (drop n ts) ≡ (parse_expr g factor c (drop (n + 1) ts) >>= λ x. parse_expr g (products_after (g.join Multiply e x.0)) c x.1)
products_more g e c n ts more = rw (expr_step g (products_after e) c (drop n ts), more, next_drop n ts) refl

pub products_next : {E : Type 0} (g : ExprActions E) (e : E) (c : Context) (n : ℕ) (ts : List Lexeme) (x : E × List Lexeme) (v : E) → heads (is_terminal Star) (drop n ts) ≡ true → parse_expr g factor c (drop (n + 1) ts) ≡ Ok x → ◌≡◌ {A = Result E TextFault} (Ok (g.join Multiply e x.0)) (Ok v) → parse_expr g (products_after v) c x.1 ≡ parse_expr g (products_after e) c (drop n ts)
products_next g e c n ts x v more h made =
    let joined : g.join Multiply e x.0 ≡ v = cc in
    rw (products_more g e c n ts more, h, joined) refl

pub products_next_fault : {E : Type 0} (g : ExprActions E) (e : E) (c : Context) (n : ℕ) (ts : List Lexeme) (f : TextFault) → heads (is_terminal Star) (drop n ts) ≡ true → parse_expr g factor c (drop (n + 1) ts) ≡ Err f → parse_expr g (products_after e) c (drop n ts) ≡ Err f
products_next_fault g e c n ts f more h = rw (products_more g e c n ts more, h) refl

pub products_end : {E : Type 0} (g : ExprActions E) (e : E) (c : Context) (ts : List Lexeme) → heads (is_terminal Star) ts ≡ false → parse_expr g (products_after e) c ts ≡ Ok (e, ts)
products_end g e c ts done = rw (expr_step g (products_after e) c ts, done) refl

-- what a factor reads, by its first token

pub factor_none : {E : Type 0} (g : ExprActions E) (c : Context) (ts : List Lexeme) → ts ≡ [] → parse_expr g factor c ts ≡ Err (Syntax (place_of ts))
factor_none g c ts none = rw none (expr_step g factor c [])

pub factor_seen : {E : Type 0} (g : ExprActions E) (c : Context) (ts : List Lexeme) (s t : Terminal) (at : ℕ) (text : List ℕ) (us : List Lexeme) → ts ≡ lexeme s at text ∷ us → s ≡ t → parse_expr g factor c ts ≡ factor_by g (parse_expr g) c (lexeme t at text ∷ us)
factor_seen g c ts s t at text us seen is = rw (seen, is) (expr_step g factor c (lexeme t at text ∷ us))

other_factor : {E : Type 0} (g : ExprActions E) (f : ExprParser E) (c : Context) (s : Terminal) (at : ℕ) (text : List ℕ) (us : List Lexeme) → (s ≡ RoundOpen → ⊥) → (s ≡ Zero → ⊥) → (s ≡ One → ⊥) → ((n : ℕ) → s ≡ Number n → ⊥) → (s ≡ WideNumber → ⊥) → (s ≡ Name → ⊥) → factor_by g f c (lexeme s at text ∷ us) ≡ Err (Syntax at)
other_factor g f c RoundOpen at text us a b d e h i = absurd (a refl)
other_factor g f c Zero at text us a b d e h i = absurd (b refl)
other_factor g f c One at text us a b d e h i = absurd (d refl)
other_factor g f c (Number n) at text us a b d e h i = absurd (e n refl)
other_factor g f c WideNumber at text us a b d e h i = absurd (h refl)
other_factor g f c Name at text us a b d e h i = absurd (i refl)
other_factor g f c _ at text us a b d e h i = refl

pub factor_other : {E : Type 0} (g : ExprActions E) (c : Context) (ts : List Lexeme) (s : Terminal) (at : ℕ) (text : List ℕ) (us : List Lexeme) → ts ≡ lexeme s at text ∷ us → (s ≡ RoundOpen → ⊥) → (s ≡ Zero → ⊥) → (s ≡ One → ⊥) → ((n : ℕ) → s ≡ Number n → ⊥) → (s ≡ WideNumber → ⊥) → (s ≡ Name → ⊥) → parse_expr g factor c ts ≡ Err (Syntax at)
factor_other g c ts s at text us seen a b d e h i = rw seen (expr_step g factor c (lexeme s at text ∷ us) ∙ other_factor g (parse_expr g) c s at text us a b d e h i)

-- what a parenthesis reads

pub parenthesis_refused : {E : Type 0} (g : ExprActions E) (f : ExprParser E) (c : Context) (at : ℕ) (ts : List Lexeme) (e : TextFault) → enter c at ≡ Err e → parenthesis g f c at ts ≡ Err e
parenthesis_refused g f c at ts e refused = rw refused refl

pub parenthesis_fault : {E : Type 0} (g : ExprActions E) (f : ExprParser E) (c d : Context) (at : ℕ) (ts : List Lexeme) (e : TextFault) → enter c at ≡ Ok d → f sums d ts ≡ Err e → parenthesis g f c at ts ≡ Err e
parenthesis_fault g f c d at ts e entered h = rw (entered, h) refl

pub parenthesis_read : {E : Type 0} (g : ExprActions E) (f : ExprParser E) (c d : Context) (at : ℕ) (ts : List Lexeme) (x : E × List Lexeme) → enter c at ≡ Ok d → f sums d ts ≡ Ok x → parenthesis g f c at ts ≡ then_expects (is_terminal RoundClose) (Ok (g.enclosed x.0, x.1))
parenthesis_read g f c d at ts x entered h = rw (entered, h) (closed_same g.enclosed x.0 (g.enclosed x.0) (expects (is_terminal RoundClose) x.1) refl)

-- the parser consumes at least one token, or none for the rest of a list
pub expr_read_short : {E : Type 0} (g : ExprActions E) → IsShort (parse_expr g)
unfolding parse_expr
expr_read_short g x c ts = within_short g (suc (steps x ts)) x c ts
