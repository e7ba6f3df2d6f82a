-- The equation of the condition parser, without a number of steps.
use Rattle.std.proofs.Common.{◌≡◌, ℕ, zero, suc, ◌+◌, ◌*◌, ◌<◌, ◌≤◌, List, [], ◌∷◌, length, true, false, Result, Ok, Err, ◌⊎◌, inl, inr, refl, ap, ◌∙◌, arith, drop, length-drop}
use Rattle.kat_model.specs.declared.expression.Rel.{Rel}
use Rattle.std.proofs.lemmas.Bool.{cond-true, cond-false}
use Rattle.text_parser.specs.declared.fault.TextFault.{TextFault}
use Rattle.text_parser.specs.declared.fault.TextFault.TheVariants.{Syntax}
use Rattle.text_parser.specs.declared.terminal.Terminal.{Terminal}
use Rattle.text_parser.specs.declared.terminal.Terminal.TheVariants.{RoundOpen, RoundClose, Bang, And, Or, Compares, Zero, One, Number, WideNumber, True, False, Name}
use Rattle.text_parser.specs.declared.reading.Context.{Context}
use Rattle.text_parser.specs.Lexemes.{Lexeme, lexeme, heads, is_terminal}
use Rattle.text_parser.specs.Parsed.{Parsed, ◌>>=◌, place_of, before, change, expects, then_expects}
use Rattle.text_parser.specs.Actions.{CondActions, enter, enter_not}
use Rattle.text_parser.specs.Exprs.{parse_expr, sums}
use Rattle.text_parser.specs.Conds.{index_after_matching, begins_expr, CondAim, disjunction, disjunction_after, conjunction, conjunction_after, literal, CondParser, relation, comparison, parenthesis, negation, literal_by, cond_by, rank, steps, cond_within, parse_cond}
use Rattle.text_parser.proofs.TokenPlaces.{next_drop}
use Rattle.text_parser.proofs.PartFaults.{closed_same}
use Rattle.text_parser.proofs.Within.{Within, bind_within, if_within, weaken, before_within, enter_within, change_within, then_expects_within, headed, bind_same, if_same, else_same, enter_same}
use Rattle.text_parser.proofs.ExprSteps.{expr_read_short}

-- 1 if the aim may consume no token, else 0
abbrev pub slack : {L : Type 0} → CondAim L → ℕ
slack (disjunction_after l) = 1
slack (conjunction_after l) = 1
slack _ = 0

abbrev pub IsShort : {B L : Type 0} → CondParser B L → Type 0
IsShort {B} {L} f = (x : CondAim L) (c : Context) (ts : List Lexeme) → Within (length ts + slack x) (f x c ts)

pub relation_short : (ts : List Lexeme) → Within (length ts) (relation ts)
relation_short [] = tt
relation_short (lexeme (Compares r) at text ∷ ts) = omega arith
relation_short (lexeme _ at text ∷ ts) = tt

pub comparison_short : {E B L : Type 0} (g : CondActions E B L) (c : Context) (ts : List Lexeme) → Within (length ts) (comparison g c ts)
comparison_short g c ts = bind_within (length ts + 0) (length ts) (parse_expr g.exprs sums c ts) (λ x. relation x.1 >>= λ r. parse_expr g.exprs sums c r.1 >>= λ y. Ok (g.compare r.0 x.0 y.0, y.1)) (expr_read_short g.exprs sums c ts)
    (λ x lt. bind_within (length x.1) (length ts) (relation x.1) (λ r. parse_expr g.exprs sums c r.1 >>= λ y. Ok (g.compare r.0 x.0 y.0, y.1)) (relation_short x.1)
    (λ r le. bind_within (length r.1 + 0) (length ts) (parse_expr g.exprs sums c r.1) (λ y. Ok (g.compare r.0 x.0 y.0, y.1)) (expr_read_short g.exprs sums c r.1) (λ y l. omega arith)))

parenthesis_short : {E B L : Type 0} (g : CondActions E B L) (f : CondParser B L) → IsShort f → (c : Context) (at : ℕ) (ts : List Lexeme) → Within (suc (length ts)) (parenthesis g f c at ts)
parenthesis_short g f s c at ts = enter_within (suc (length ts)) (enter c at) (λ d. change g.enclosed (then_expects (is_terminal RoundClose) (f disjunction d ts)))
    (λ d. change_within (suc (length ts)) g.enclosed (then_expects (is_terminal RoundClose) (f disjunction d ts)) (then_expects_within (is_terminal RoundClose) (suc (length ts)) (f disjunction d ts) (weaken (length ts + 0) (suc (length ts)) (f disjunction d ts) (omega arith) (s disjunction d ts))))

negation_short : {E B L : Type 0} (g : CondActions E B L) (f : CondParser B L) → IsShort f → (c : Context) (at : ℕ) (ts : List Lexeme) → Within (suc (length ts)) (negation g f c at ts)
negation_short g f s c at ts = enter_within (suc (length ts)) (enter_not c at) (λ d. change g.negated (f literal d ts))
    (λ d. change_within (suc (length ts)) g.negated (f literal d ts) (weaken (length ts + 0) (suc (length ts)) (f literal d ts) (omega arith) (s literal d ts)))

literal_short : {E B L : Type 0} (g : CondActions E B L) (f : CondParser B L) → IsShort f → (c : Context) (ts : List Lexeme) → Within (length ts) (literal_by g f c ts)
literal_short g f s c [] = tt
literal_short g f s c (lexeme True at text ∷ ts) = omega arith
literal_short g f s c (lexeme False at text ∷ ts) = omega arith
literal_short g f s c (lexeme Bang at text ∷ ts) = negation_short g f s c at ts
literal_short g f s c (lexeme Name at text ∷ ts) = if_within (suc (length ts)) (begins_expr ts) (comparison g c (lexeme Name at text ∷ ts)) (before ts (g.named c at text)) (λ h. comparison_short g c (lexeme Name at text ∷ ts)) (λ h. before_within (suc (length ts)) ts (g.named c at text) (omega arith))
literal_short g f s c (lexeme RoundOpen at text ∷ ts) = if_within (suc (length ts)) (begins_expr (index_after_matching 0 ts)) (comparison g c (lexeme RoundOpen at text ∷ ts)) (parenthesis g f c at ts) (λ h. comparison_short g c (lexeme RoundOpen at text ∷ ts)) (λ h. parenthesis_short g f s c at ts)
literal_short g f s c (lexeme Zero at text ∷ ts) = comparison_short g c (lexeme Zero at text ∷ ts)
literal_short g f s c (lexeme One at text ∷ ts) = comparison_short g c (lexeme One at text ∷ ts)
literal_short g f s c (lexeme (Number n) at text ∷ ts) = comparison_short g c (lexeme (Number n) at text ∷ ts)
literal_short g f s c (lexeme WideNumber at text ∷ ts) = comparison_short g c (lexeme WideNumber at text ∷ ts)
literal_short g f s c (lexeme _ at text ∷ ts) = tt

-- a part and the rest of its list consume at least one token
after_short : {B L : Type 0} (f : CondParser B L) → IsShort f → (x : CondAim L) (y : B → CondAim L) → slack x ≡ 0 → ((b : B) → slack (y b) ≡ 1) → (c : Context) (ts : List Lexeme) → Within (length ts) (f x c ts >>= λ v. f (y v.0) c v.1)
after_short f s x y still one c ts = bind_within (length ts + slack x) (length ts) (f x c ts) (λ v. f (y v.0) c v.1) (s x c ts)
    (λ v lt. weaken (length v.1 + slack (y v.0)) (length ts) (f (y v.0) c v.1) (omega (arith, still, one v.0)) (s (y v.0) c v.1))

cond_short : {E B L : Type 0} (g : CondActions E B L) (f : CondParser B L) → IsShort f → IsShort (cond_by g f)
cond_short g f s disjunction c ts = weaken (length ts) (length ts + 0) _ (omega arith) (after_short f s conjunction (λ b. disjunction_after (g.one_of b)) refl (λ b. refl) c ts)
cond_short g f s (disjunction_after l) c ts = if_within (length ts + 1) (heads (is_terminal Or) ts) _ (Ok (g.any l, ts))
    (λ h. weaken (length (drop 1 ts)) (length ts + 1) _ (omega (arith, length-drop 1 ts)) (after_short f s conjunction (λ b. disjunction_after (g.more l b)) refl (λ b. refl) c (drop 1 ts)))
    (λ h. omega arith)
cond_short g f s conjunction c ts = weaken (length ts) (length ts + 0) _ (omega arith) (after_short f s literal (λ b. conjunction_after (g.one_of b)) refl (λ b. refl) c ts)
cond_short g f s (conjunction_after l) c ts = if_within (length ts + 1) (heads (is_terminal And) ts) _ (Ok (g.all l, ts))
    (λ h. weaken (length (drop 1 ts)) (length ts + 1) _ (omega (arith, length-drop 1 ts)) (after_short f s literal (λ b. conjunction_after (g.more l b)) refl (λ b. refl) c (drop 1 ts)))
    (λ h. omega arith)
cond_short g f s literal c ts = weaken (length ts) (length ts + 0) (literal_by g f c ts) (omega arith) (literal_short g f s c ts)

pub within_short : {E B L : Type 0} (g : CondActions E B L) (n : ℕ) → IsShort (cond_within g n)
unfolding cond_within
within_short g zero x c ts = tt
within_short g (suc n) x c ts = cond_short g (cond_within g n) (within_short g n) x c ts

abbrev Same : {B L : Type 0} → CondParser B L → CondParser B L → ℕ → Type 0
Same {B} {L} f h n = (x : CondAim L) (c : Context) (ts : List Lexeme) → steps x ts < n → f x c ts ≡ h x c ts

parenthesis_same : {E B L : Type 0} (g : CondActions E B L) (f h : CondParser B L) (c : Context) (at : ℕ) (ts : List Lexeme) → Same f h (8 * suc (length ts)) → parenthesis g f c at ts ≡ parenthesis g h c at ts
parenthesis_same g f h c at ts a = enter_same (enter c at) _ _ (λ d. ap (λ (m : Parsed _). change g.enclosed (then_expects (is_terminal RoundClose) m)) (a disjunction d ts (omega arith)))

literal_same : {E B L : Type 0} (g : CondActions E B L) (f h : CondParser B L) (c : Context) (ts : List Lexeme) → Same f h (8 * length ts) → literal_by g f c ts ≡ literal_by g h c ts
literal_same g f h c [] a = refl
literal_same g f h c (lexeme True at text ∷ ts) a = refl
literal_same g f h c (lexeme False at text ∷ ts) a = refl
literal_same g f h c (lexeme Bang at text ∷ ts) a = enter_same (enter_not c at) _ _ (λ d. ap (change g.negated) (a literal d ts (omega arith)))
literal_same g f h c (lexeme Name at text ∷ ts) a = refl
literal_same g f h c (lexeme RoundOpen at text ∷ ts) a = else_same (begins_expr (index_after_matching 0 ts)) _ _ _ (parenthesis_same g f h c at ts (λ x d us lt. a x d us (omega arith)))
literal_same g f h c (lexeme Zero at text ∷ ts) a = refl
literal_same g f h c (lexeme One at text ∷ ts) a = refl
literal_same g f h c (lexeme (Number n) at text ∷ ts) a = refl
literal_same g f h c (lexeme WideNumber at text ∷ ts) a = refl
literal_same g f h c (lexeme _ at text ∷ ts) a = refl

after_same : {B L : Type 0} (f h : CondParser B L) → IsShort f → (x : CondAim L) (y : B → CondAim L) → slack x ≡ 0 → ((b : B) → rank (y b) ≤ 3) → (c : Context) (ts : List Lexeme) → f x c ts ≡ h x c ts → Same f h (8 * length ts) → (f x c ts >>= λ v. f (y v.0) c v.1) ≡ (h x c ts >>= λ v. h (y v.0) c v.1)
after_same f h s x y still three c ts first a = bind_same (length ts + slack x) (f x c ts) (h x c ts) (λ v. f (y v.0) c v.1) (λ v. h (y v.0) c v.1) first (s x c ts) (λ v lt. a (y v.0) c v.1 (omega (arith, still, three v.0)))

cond_same : {E B L : Type 0} (g : CondActions E B L) (f h : CondParser B L) → IsShort f → (x : CondAim L) (c : Context) (ts : List Lexeme) → Same f h (steps x ts) → cond_by g f x c ts ≡ cond_by g h x c ts
cond_same g f h s disjunction c ts a = after_same f h s conjunction (λ b. disjunction_after (g.one_of b)) refl (λ b. omega arith) c ts (a conjunction c ts (omega arith)) (λ x d us lt. a x d us (omega arith))
cond_same g f h s (disjunction_after l) c ts a = if_same (heads (is_terminal Or) ts) _ _ _ (λ k. let lt = headed (is_terminal Or) ts k in
    after_same f h s conjunction (λ b. disjunction_after (g.more l b)) refl (λ b. omega arith) c (drop 1 ts) (a conjunction c (drop 1 ts) (omega arith)) (λ x d us le. a x d us (omega arith)))
cond_same g f h s conjunction c ts a = after_same f h s literal (λ b. conjunction_after (g.one_of b)) refl (λ b. omega arith) c ts (a literal c ts (omega arith)) (λ x d us lt. a x d us (omega arith))
cond_same g f h s (conjunction_after l) c ts a = if_same (heads (is_terminal And) ts) _ _ _ (λ k. let lt = headed (is_terminal And) ts k in
    after_same f h s literal (λ b. conjunction_after (g.more l b)) refl (λ b. omega arith) c (drop 1 ts) (a literal c (drop 1 ts) (omega arith)) (λ x d us le. a x d us (omega arith)))
cond_same g f h s literal c ts a = literal_same g f h c ts (λ x d us lt. a x d us (omega arith))

enough : {E B L : Type 0} (g : CondActions E B L) (n m : ℕ) (x : CondAim L) (c : Context) (ts : List Lexeme) → steps x ts < n → steps x ts < m → cond_within g n x c ts ≡ cond_within g m x c ts
unfolding cond_within
enough g zero m x c ts p q = absurd (omega arith)
enough g (suc n) zero x c ts p q = absurd (omega arith)
enough g (suc n) (suc m) x c ts p q = cond_same g (cond_within g n) (cond_within g m) (within_short g n) x c ts (λ y d us lt. enough g n m y d us (omega arith) (omega arith))

pub cond_step : {E B L : Type 0} (g : CondActions E B L) (x : CondAim L) (c : Context) (ts : List Lexeme) → parse_cond g x c ts ≡ cond_by g (parse_cond g) x c ts
unfolding parse_cond cond_within
cond_step g x c ts = cond_same g (cond_within g (steps x ts)) (parse_cond g) (within_short g (steps x ts)) x c ts (λ y d us lt. enough g (steps x ts) (suc (steps y us)) y d us lt (omega arith))

-- what a list reads, by what its parts read

pub disjunction_first : {E B L : Type 0} (g : CondActions E B L) (c : Context) (ts : List Lexeme) (x : B × List Lexeme) (l : L) → parse_cond g conjunction c ts ≡ Ok x → ◌≡◌ {A = Result L TextFault} (Ok (g.one_of x.0)) (Ok l) → parse_cond g (disjunction_after l) c x.1 ≡ parse_cond g disjunction c ts
disjunction_first g c ts x l h made =
    let same : g.one_of x.0 ≡ l = cc in
    rw (cond_step g disjunction c ts, h, same) refl

pub disjunction_fault : {E B L : Type 0} (g : CondActions E B L) (c : Context) (ts : List Lexeme) (f : TextFault) → parse_cond g conjunction c ts ≡ Err f → parse_cond g disjunction c ts ≡ Err f
disjunction_fault g c ts f h = rw (cond_step g disjunction c ts, h) refl

disjunction_more : {E B L : Type 0} (g : CondActions E B L) (l : L) (c : Context) (n : ℕ) (ts : List Lexeme) → heads (is_terminal Or) (drop n ts) ≡ true → parse_cond g (disjunction_after l) c (drop n ts) ≡ (parse_cond g conjunction c (drop (n + 1) ts) >>= λ x. parse_cond g (disjunction_after (g.more l x.0)) c x.1)
disjunction_more g l c n ts more = rw (cond_step g (disjunction_after l) c (drop n ts), more, next_drop n ts) refl

pub disjunction_next : {E B L : Type 0} (g : CondActions E B L) (l : L) (c : Context) (n : ℕ) (ts : List Lexeme) (x : B × List Lexeme) (m : L) → heads (is_terminal Or) (drop n ts) ≡ true → parse_cond g conjunction c (drop (n + 1) ts) ≡ Ok x → ◌≡◌ {A = Result L TextFault} (Ok (g.more l x.0)) (Ok m) → parse_cond g (disjunction_after m) c x.1 ≡ parse_cond g (disjunction_after l) c (drop n ts)
disjunction_next g l c n ts x m more h made =
    let same : g.more l x.0 ≡ m = cc in
    rw (disjunction_more g l c n ts more, h, same) refl

pub disjunction_next_fault : {E B L : Type 0} (g : CondActions E B L) (l : L) (c : Context) (n : ℕ) (ts : List Lexeme) (f : TextFault) → heads (is_terminal Or) (drop n ts) ≡ true → parse_cond g conjunction c (drop (n + 1) ts) ≡ Err f → parse_cond g (disjunction_after l) c (drop n ts) ≡ Err f
disjunction_next_fault g l c n ts f more h = rw (disjunction_more g l c n ts more, h) refl

pub disjunction_end : {E B L : Type 0} (g : CondActions E B L) (l : L) (c : Context) (ts : List Lexeme) (b : B) → heads (is_terminal Or) ts ≡ false → ◌≡◌ {A = Result B TextFault} (Ok (g.any l)) (Ok b) → parse_cond g (disjunction_after l) c ts ≡ Ok (b, ts)
disjunction_end g l c ts b done made =
    let same : g.any l ≡ b = cc in
    rw (cond_step g (disjunction_after l) c ts, done, same) refl

pub conjunction_first : {E B L : Type 0} (g : CondActions E B L) (c : Context) (ts : List Lexeme) (x : B × List Lexeme) (l : L) → parse_cond g literal c ts ≡ Ok x → ◌≡◌ {A = Result L TextFault} (Ok (g.one_of x.0)) (Ok l) → parse_cond g (conjunction_after l) c x.1 ≡ parse_cond g conjunction c ts
conjunction_first g c ts x l h made =
    let same : g.one_of x.0 ≡ l = cc in
    rw (cond_step g conjunction c ts, h, same) refl

pub conjunction_fault : {E B L : Type 0} (g : CondActions E B L) (c : Context) (ts : List Lexeme) (f : TextFault) → parse_cond g literal c ts ≡ Err f → parse_cond g conjunction c ts ≡ Err f
conjunction_fault g c ts f h = rw (cond_step g conjunction c ts, h) refl

conjunction_more : {E B L : Type 0} (g : CondActions E B L) (l : L) (c : Context) (n : ℕ) (ts : List Lexeme) → heads (is_terminal And) (drop n ts) ≡ true → parse_cond g (conjunction_after l) c (drop n ts) ≡ (parse_cond g literal c (drop (n + 1) ts) >>= λ x. parse_cond g (conjunction_after (g.more l x.0)) c x.1)
conjunction_more g l c n ts more = rw (cond_step g (conjunction_after l) c (drop n ts), more, next_drop n ts) refl

pub conjunction_next : {E B L : Type 0} (g : CondActions E B L) (l : L) (c : Context) (n : ℕ) (ts : List Lexeme) (x : B × List Lexeme) (m : L) → heads (is_terminal And) (drop n ts) ≡ true → parse_cond g literal c (drop (n + 1) ts) ≡ Ok x → ◌≡◌ {A = Result L TextFault} (Ok (g.more l x.0)) (Ok m) → parse_cond g (conjunction_after m) c x.1 ≡ parse_cond g (conjunction_after l) c (drop n ts)
conjunction_next g l c n ts x m more h made =
    let same : g.more l x.0 ≡ m = cc in
    rw (conjunction_more g l c n ts more, h, same) refl

pub conjunction_next_fault : {E B L : Type 0} (g : CondActions E B L) (l : L) (c : Context) (n : ℕ) (ts : List Lexeme) (f : TextFault) → heads (is_terminal And) (drop n ts) ≡ true → parse_cond g literal c (drop (n + 1) ts) ≡ Err f → parse_cond g (conjunction_after l) c (drop n ts) ≡ Err f
conjunction_next_fault g l c n ts f more h = rw (conjunction_more g l c n ts more, h) refl

pub conjunction_end : {E B L : Type 0} (g : CondActions E B L) (l : L) (c : Context) (ts : List Lexeme) (b : B) → heads (is_terminal And) ts ≡ false → ◌≡◌ {A = Result B TextFault} (Ok (g.all l)) (Ok b) → parse_cond g (conjunction_after l) c ts ≡ Ok (b, ts)
conjunction_end g l c ts b done made =
    let same : g.all l ≡ b = cc in
    rw (cond_step g (conjunction_after l) c ts, done, same) refl

-- what a literal reads, by its first token

pub literal_none : {E B L : Type 0} (g : CondActions E B L) (c : Context) (ts : List Lexeme) → ts ≡ [] → parse_cond g literal c ts ≡ Err (Syntax (place_of ts))
literal_none g c ts none = rw none (cond_step g literal c [])

pub literal_seen : {E B L : Type 0} (g : CondActions E B L) (c : Context) (ts : List Lexeme) (s t : Terminal) (at : ℕ) (text : List ℕ) (us : List Lexeme) → ts ≡ lexeme s at text ∷ us → s ≡ t → parse_cond g literal c ts ≡ literal_by g (parse_cond g) c (lexeme t at text ∷ us)
literal_seen g c ts s t at text us seen is = rw (seen, is) (cond_step g literal c (lexeme t at text ∷ us))

pub name_compared : {E B L : Type 0} (g : CondActions E B L) (c : Context) (ts : List Lexeme) (s : Terminal) (at : ℕ) (text : List ℕ) (us : List Lexeme) → ts ≡ lexeme s at text ∷ us → s ≡ Name → begins_expr us ≡ true → parse_cond g literal c ts ≡ comparison g c ts
name_compared g c ts s at text us seen is compares = rw (seen, is) (cond_step g literal c (lexeme Name at text ∷ us) ∙ cond-true (begins_expr us) (comparison g c (lexeme Name at text ∷ us)) (before us (g.named c at text)) compares)

pub name_alone : {E B L : Type 0} (g : CondActions E B L) (c : Context) (ts : List Lexeme) (s : Terminal) (at : ℕ) (text : List ℕ) (us : List Lexeme) → ts ≡ lexeme s at text ∷ us → s ≡ Name → begins_expr us ≡ false → parse_cond g literal c ts ≡ before us (g.named c at text)
name_alone g c ts s at text us seen is alone = literal_seen g c ts s Name at text us seen is ∙ cond-false (begins_expr us) (comparison g c (lexeme Name at text ∷ us)) (before us (g.named c at text)) alone

pub round_compared : {E B L : Type 0} (g : CondActions E B L) (c : Context) (ts : List Lexeme) (s : Terminal) (at : ℕ) (text : List ℕ) (us : List Lexeme) → ts ≡ lexeme s at text ∷ us → s ≡ RoundOpen → begins_expr (index_after_matching 0 us) ≡ true → parse_cond g literal c ts ≡ comparison g c ts
round_compared g c ts s at text us seen is compares = rw (seen, is) (cond_step g literal c (lexeme RoundOpen at text ∷ us) ∙ cond-true (begins_expr (index_after_matching 0 us)) (comparison g c (lexeme RoundOpen at text ∷ us)) (parenthesis g (parse_cond g) c at us) compares)

pub round_alone : {E B L : Type 0} (g : CondActions E B L) (c : Context) (ts : List Lexeme) (s : Terminal) (at : ℕ) (text : List ℕ) (us : List Lexeme) → ts ≡ lexeme s at text ∷ us → s ≡ RoundOpen → begins_expr (index_after_matching 0 us) ≡ false → parse_cond g literal c ts ≡ parenthesis g (parse_cond g) c at us
round_alone g c ts s at text us seen is alone = literal_seen g c ts s RoundOpen at text us seen is ∙ cond-false (begins_expr (index_after_matching 0 us)) (comparison g c (lexeme RoundOpen at text ∷ us)) (parenthesis g (parse_cond g) c at us) alone

pub number_compared : {E B L : Type 0} (g : CondActions E B L) (c : Context) (ts : List Lexeme) (s : Terminal) (at : ℕ) (text : List ℕ) (us : List Lexeme) → ts ≡ lexeme s at text ∷ us → (s ≡ Zero) ⊎ ((s ≡ One) ⊎ (((n : ℕ) × (s ≡ Number n)) ⊎ (s ≡ WideNumber))) → parse_cond g literal c ts ≡ comparison g c ts
number_compared g c ts s at text us seen (inl is) = rw (seen, is) (cond_step g literal c (lexeme Zero at text ∷ us))
number_compared g c ts s at text us seen (inr (inl is)) = rw (seen, is) (cond_step g literal c (lexeme One at text ∷ us))
number_compared g c ts s at text us seen (inr (inr (inl is))) = rw (seen, is.1) (cond_step g literal c (lexeme (Number is.0) at text ∷ us))
number_compared g c ts s at text us seen (inr (inr (inr is))) = rw (seen, is) (cond_step g literal c (lexeme WideNumber at text ∷ us))

other_literal : {E B L : Type 0} (g : CondActions E B L) (f : CondParser B L) (c : Context) (s : Terminal) (at : ℕ) (text : List ℕ) (us : List Lexeme) → (s ≡ RoundOpen → ⊥) → (s ≡ Bang → ⊥) → (s ≡ Zero → ⊥) → (s ≡ One → ⊥) → ((n : ℕ) → s ≡ Number n → ⊥) → (s ≡ WideNumber → ⊥) → (s ≡ True → ⊥) → (s ≡ False → ⊥) → (s ≡ Name → ⊥) → literal_by g f c (lexeme s at text ∷ us) ≡ Err (Syntax at)
other_literal g f c RoundOpen at text us a b d e h i j k l = absurd (a refl)
other_literal g f c Bang at text us a b d e h i j k l = absurd (b refl)
other_literal g f c Zero at text us a b d e h i j k l = absurd (d refl)
other_literal g f c One at text us a b d e h i j k l = absurd (e refl)
other_literal g f c (Number n) at text us a b d e h i j k l = absurd (h n refl)
other_literal g f c WideNumber at text us a b d e h i j k l = absurd (i refl)
other_literal g f c True at text us a b d e h i j k l = absurd (j refl)
other_literal g f c False at text us a b d e h i j k l = absurd (k refl)
other_literal g f c Name at text us a b d e h i j k l = absurd (l refl)
other_literal g f c _ at text us a b d e h i j k l = refl

pub literal_other : {E B L : Type 0} (g : CondActions E B L) (c : Context) (ts : List Lexeme) (s : Terminal) (at : ℕ) (text : List ℕ) (us : List Lexeme) → ts ≡ lexeme s at text ∷ us → (s ≡ RoundOpen → ⊥) → (s ≡ Bang → ⊥) → (s ≡ Zero → ⊥) → (s ≡ One → ⊥) → ((n : ℕ) → s ≡ Number n → ⊥) → (s ≡ WideNumber → ⊥) → (s ≡ True → ⊥) → (s ≡ False → ⊥) → (s ≡ Name → ⊥) → parse_cond g literal c ts ≡ Err (Syntax at)
literal_other g c ts s at text us seen a b d e h i j k l = rw seen (cond_step g literal c (lexeme s at text ∷ us) ∙ other_literal g (parse_cond g) c s at text us a b d e h i j k l)

-- what a comparison reads, by what its parts read

pub comparison_left : {E B L : Type 0} (g : CondActions E B L) (c : Context) (ts : List Lexeme) (e : TextFault) → parse_expr g.exprs sums c ts ≡ Err e → comparison g c ts ≡ Err e
comparison_left g c ts e h = rw h refl

pub comparison_relation : {E B L : Type 0} (g : CondActions E B L) (c : Context) (ts : List Lexeme) (x : E × List Lexeme) (e : TextFault) → parse_expr g.exprs sums c ts ≡ Ok x → relation x.1 ≡ Err e → comparison g c ts ≡ Err e
comparison_relation g c ts x e left h = rw (left, h) refl

pub comparison_right : {E B L : Type 0} (g : CondActions E B L) (c : Context) (ts : List Lexeme) (x : E × List Lexeme) (r : Rel × List Lexeme) (e : TextFault) → parse_expr g.exprs sums c ts ≡ Ok x → relation x.1 ≡ Ok r → parse_expr g.exprs sums c r.1 ≡ Err e → comparison g c ts ≡ Err e
comparison_right g c ts x r e left between h = rw (left, between, h) refl

pub comparison_made : {E B L : Type 0} (g : CondActions E B L) (c : Context) (ts : List Lexeme) (x : E × List Lexeme) (r : Rel × List Lexeme) (y : E × List Lexeme) (v : B) → parse_expr g.exprs sums c ts ≡ Ok x → relation x.1 ≡ Ok r → parse_expr g.exprs sums c r.1 ≡ Ok y → v ≡ g.compare r.0 x.0 y.0 → comparison g c ts ≡ Ok (v, y.1)
comparison_made g c ts x r y v left between right is = rw (left, between, right, is) refl

-- what a `!` and a parenthesis read

pub negation_refused : {E B L : Type 0} (g : CondActions E B L) (f : CondParser B L) (c : Context) (at : ℕ) (ts : List Lexeme) (e : TextFault) → enter_not c at ≡ Err e → negation g f c at ts ≡ Err e
negation_refused g f c at ts e refused = rw refused refl

pub negation_fault : {E B L : Type 0} (g : CondActions E B L) (f : CondParser B L) (c d : Context) (at : ℕ) (ts : List Lexeme) (e : TextFault) → enter_not c at ≡ Ok d → f literal d ts ≡ Err e → negation g f c at ts ≡ Err e
negation_fault g f c d at ts e entered h = rw (entered, h) refl

pub negation_made : {E B L : Type 0} (g : CondActions E B L) (f : CondParser B L) (c d : Context) (at : ℕ) (ts : List Lexeme) (x : B × List Lexeme) (v : B) → enter_not c at ≡ Ok d → f literal d ts ≡ Ok x → ◌≡◌ {A = Result B TextFault} (Ok (g.negated x.0)) (Ok v) → negation g f c at ts ≡ Ok (v, x.1)
negation_made g f c d at ts x v entered h made =
    let same : g.negated x.0 ≡ v = cc in
    rw (entered, h, same) refl

pub parenthesis_refused : {E B L : Type 0} (g : CondActions E B L) (f : CondParser B L) (c : Context) (at : ℕ) (ts : List Lexeme) (e : TextFault) → enter c at ≡ Err e → parenthesis g f c at ts ≡ Err e
parenthesis_refused g f c at ts e refused = rw refused refl

pub parenthesis_fault : {E B L : Type 0} (g : CondActions E B L) (f : CondParser B L) (c d : Context) (at : ℕ) (ts : List Lexeme) (e : TextFault) → enter c at ≡ Ok d → f disjunction d ts ≡ Err e → parenthesis g f c at ts ≡ Err e
parenthesis_fault g f c d at ts e entered h = rw (entered, h) refl

pub parenthesis_read : {E B L : Type 0} (g : CondActions E B L) (f : CondParser B L) (c d : Context) (at : ℕ) (ts : List Lexeme) (x : B × List Lexeme) → enter c at ≡ Ok d → f disjunction d ts ≡ Ok x → parenthesis g f c at ts ≡ then_expects (is_terminal RoundClose) (Ok (g.enclosed x.0, x.1))
parenthesis_read g f c d at ts x entered h = rw (entered, h) (closed_same g.enclosed x.0 (g.enclosed x.0) (expects (is_terminal RoundClose) x.1) refl)

-- the parser consumes at least one token, or none for the rest of a list
pub cond_read_short : {E B L : Type 0} (g : CondActions E B L) → IsShort (parse_cond g)
unfolding parse_cond
cond_read_short g x c ts = within_short g (suc (steps x ts)) x c ts
