-- The equation of the term parser, without a number of steps.
use Rattle.std.proofs.Common.{◌≡◌, ℕ, zero, suc, ◌+◌, ◌*◌, ◌<◌, ◌≤◌, List, [], ◌∷◌, length, true, false, Result, Ok, Err, refl, ap, ◌∙◌, arith, drop, length-drop}
use Rattle.text_parser.specs.declared.fault.TextFault.{TextFault}
use Rattle.text_parser.specs.declared.fault.TextFault.TheVariants.{Syntax}
use Rattle.text_parser.specs.declared.terminal.Terminal.{Terminal}
use Rattle.text_parser.specs.declared.terminal.Terminal.TheVariants.{RoundOpen, RoundClose, SquareOpen, SquareClose, Bang, Star, Plus, Dot, Zero, One, Name}
use Rattle.text_parser.specs.declared.reading.Context.{Context}
use Rattle.text_parser.specs.Lexemes.{Lexeme, lexeme, heads, is_terminal}
use Rattle.text_parser.specs.Parsed.{Parsed, ◌>>=◌, before, place_of, change, expects, then_expects}
use Rattle.text_parser.specs.Actions.{Actions, enter, enter_not}
use Rattle.text_parser.specs.Conds.{parse_cond, disjunction}
use Rattle.text_parser.specs.Terms.{TermAim, choice, choice_after, sequence, sequence_after, unit, TermParser, parenthesis, bracket, negation, unit_by, star_or_not, term_by, rank, steps, term_within, parse_term}
use Rattle.text_parser.proofs.TokenPlaces.{next_drop}
use Rattle.text_parser.proofs.PartFaults.{closed_same}
use Rattle.text_parser.proofs.Within.{Within, bind_within, if_within, weaken, before_within, enter_within, change_within, then_expects_within, headed, bind_same, if_same, enter_same}
use Rattle.text_parser.proofs.CondSteps.{cond_read_short}

-- 1 if the aim may consume no token, else 0
abbrev pub slack : {M : Type 0} → TermAim M → ℕ
slack (choice_after m) = 1
slack (sequence_after m) = 1
slack _ = 0

abbrev pub IsShort : {T M : Type 0} → TermParser T M → Type 0
IsShort {T} {M} f = (x : TermAim M) (c : Context) (ts : List Lexeme) → Within (length ts + slack x) (f x c ts)

parenthesis_short : {E B L T M : Type 0} (g : Actions E B L T M) (f : TermParser T M) → IsShort f → (c : Context) (at : ℕ) (ts : List Lexeme) → Within (suc (length ts)) (parenthesis g f c at ts)
parenthesis_short g f s c at ts = enter_within (suc (length ts)) (enter c at) (λ d. change g.enclosed (then_expects (is_terminal RoundClose) (f choice d ts)))
    (λ d. change_within (suc (length ts)) g.enclosed (then_expects (is_terminal RoundClose) (f choice d ts)) (then_expects_within (is_terminal RoundClose) (suc (length ts)) (f choice d ts) (weaken (length ts + 0) (suc (length ts)) (f choice d ts) (omega arith) (s choice d ts))))

bracket_short : {E B L T M : Type 0} (g : Actions E B L T M) (c : Context) (at : ℕ) (ts : List Lexeme) → Within (suc (length ts)) (bracket g c at ts)
bracket_short g c at ts = enter_within (suc (length ts)) (enter c at) (λ d. change g.tested (then_expects (is_terminal SquareClose) (parse_cond g.conds disjunction d ts)))
    (λ d. change_within (suc (length ts)) g.tested (then_expects (is_terminal SquareClose) (parse_cond g.conds disjunction d ts)) (then_expects_within (is_terminal SquareClose) (suc (length ts)) (parse_cond g.conds disjunction d ts) (weaken (length ts + 0) (suc (length ts)) (parse_cond g.conds disjunction d ts) (omega arith) (cond_read_short g.conds disjunction d ts))))

negation_short : {E B L T M : Type 0} (g : Actions E B L T M) (f : TermParser T M) → IsShort f → (c : Context) (at : ℕ) (ts : List Lexeme) → Within (suc (length ts)) (negation g f c at ts)
negation_short g f s c at ts = enter_within (suc (length ts)) (enter_not c at) (λ d. change g.negated (f unit d ts))
    (λ d. change_within (suc (length ts)) g.negated (f unit d ts) (weaken (length ts + 0) (suc (length ts)) (f unit d ts) (omega arith) (s unit d ts)))

unit_short : {E B L T M : Type 0} (g : Actions E B L T M) (f : TermParser T M) → IsShort f → (c : Context) (ts : List Lexeme) → Within (length ts) (unit_by g f c ts)
unit_short g f s c [] = tt
unit_short g f s c (lexeme Zero at text ∷ ts) = omega arith
unit_short g f s c (lexeme One at text ∷ ts) = omega arith
unit_short g f s c (lexeme Name at text ∷ ts) = before_within _ ts (g.named c at text) (omega arith)
unit_short g f s c (lexeme Bang at text ∷ ts) = negation_short g f s c at ts
unit_short g f s c (lexeme SquareOpen at text ∷ ts) = bracket_short g c at ts
unit_short g f s c (lexeme RoundOpen at text ∷ ts) = parenthesis_short g f s c at ts
unit_short g f s c (lexeme _ at text ∷ ts) = tt

pub star_short : {E B L T M : Type 0} (g : Actions E B L T M) (c : Context) (t : T) (ts : List Lexeme) (n : ℕ) → length ts < n → Within n (star_or_not g c t ts)
star_short g c t ts n lt = if_within n (heads (is_terminal Star) ts) (before (drop 1 ts) (g.starred c (place_of ts) t)) (Ok (t, ts)) (λ e. before_within n (drop 1 ts) (g.starred c (place_of ts) t) (omega (arith, length-drop 1 ts))) (λ e. lt)

-- a part and the rest of its list consume at least one token
choice_short : {T M : Type 0} (f : TermParser T M) → IsShort f → (y : T → TermAim M) → ((t : T) → slack (y t) ≡ 1) → (c : Context) (ts : List Lexeme) → Within (length ts) (f sequence c ts >>= λ v. f (y v.0) c v.1)
choice_short f s y one c ts = bind_within (length ts + 0) (length ts) (f sequence c ts) (λ v. f (y v.0) c v.1) (s sequence c ts)
    (λ v lt. weaken (length v.1 + slack (y v.0)) (length ts) (f (y v.0) c v.1) (omega (arith, one v.0)) (s (y v.0) c v.1))

sequence_short : {E B L T M : Type 0} (g : Actions E B L T M) (f : TermParser T M) → IsShort f → (y : T → TermAim M) → ((t : T) → slack (y t) ≡ 1) → (c : Context) (ts : List Lexeme) → Within (length ts) (f unit c ts >>= λ x. star_or_not g c x.0 x.1 >>= λ v. f (y v.0) c v.1)
sequence_short g f s y one c ts = bind_within (length ts + 0) (length ts) (f unit c ts) (λ x. star_or_not g c x.0 x.1 >>= λ v. f (y v.0) c v.1) (s unit c ts)
    (λ x lt. bind_within (length ts) (length ts) (star_or_not g c x.0 x.1) (λ v. f (y v.0) c v.1) (star_short g c x.0 x.1 (length ts) (omega arith))
    (λ v le. weaken (length v.1 + slack (y v.0)) (length ts) (f (y v.0) c v.1) (omega (arith, one v.0)) (s (y v.0) c v.1)))

term_short : {E B L T M : Type 0} (g : Actions E B L T M) (f : TermParser T M) → IsShort f → IsShort (term_by g f)
term_short g f s choice c ts = weaken (length ts) (length ts + 0) _ (omega arith) (choice_short f s (λ t. choice_after (g.one_of t)) (λ t. refl) c ts)
term_short g f s (choice_after m) c ts = if_within (length ts + 1) (heads (is_terminal Plus) ts) _ (Ok (g.sum m, ts))
    (λ h. weaken (length (drop 1 ts)) (length ts + 1) _ (omega (arith, length-drop 1 ts)) (choice_short f s (λ t. choice_after (g.more m t)) (λ t. refl) c (drop 1 ts)))
    (λ h. omega arith)
term_short g f s sequence c ts = weaken (length ts) (length ts + 0) _ (omega arith) (sequence_short g f s (λ t. sequence_after (g.one_of t)) (λ t. refl) c ts)
term_short g f s (sequence_after m) c ts = if_within (length ts + 1) (heads (is_terminal Dot) ts) _ (Ok (g.product m, ts))
    (λ h. weaken (length (drop 1 ts)) (length ts + 1) _ (omega (arith, length-drop 1 ts)) (sequence_short g f s (λ t. sequence_after (g.more m t)) (λ t. refl) c (drop 1 ts)))
    (λ h. omega arith)
term_short g f s unit c ts = weaken (length ts) (length ts + 0) (unit_by g f c ts) (omega arith) (unit_short g f s c ts)

pub within_short : {E B L T M : Type 0} (g : Actions E B L T M) (n : ℕ) → IsShort (term_within g n)
unfolding term_within
within_short g zero x c ts = tt
within_short g (suc n) x c ts = term_short g (term_within g n) (within_short g n) x c ts

abbrev Same : {T M : Type 0} → TermParser T M → TermParser T M → ℕ → Type 0
Same {T} {M} f h n = (x : TermAim M) (c : Context) (ts : List Lexeme) → steps x ts < n → f x c ts ≡ h x c ts

unit_same : {E B L T M : Type 0} (g : Actions E B L T M) (f h : TermParser T M) (c : Context) (ts : List Lexeme) → Same f h (8 * length ts) → unit_by g f c ts ≡ unit_by g h c ts
unit_same g f h c [] a = refl
unit_same g f h c (lexeme Zero at text ∷ ts) a = refl
unit_same g f h c (lexeme One at text ∷ ts) a = refl
unit_same g f h c (lexeme Name at text ∷ ts) a = refl
unit_same g f h c (lexeme Bang at text ∷ ts) a = enter_same (enter_not c at) _ _ (λ d. ap (change g.negated) (a unit d ts (omega arith)))
unit_same g f h c (lexeme SquareOpen at text ∷ ts) a = refl
unit_same g f h c (lexeme RoundOpen at text ∷ ts) a = enter_same (enter c at) _ _ (λ d. ap (λ (m : Parsed _). change g.enclosed (then_expects (is_terminal RoundClose) m)) (a choice d ts (omega arith)))
unit_same g f h c (lexeme _ at text ∷ ts) a = refl

choice_same : {T M : Type 0} (f h : TermParser T M) → IsShort f → (y : T → TermAim M) → ((t : T) → rank (y t) ≤ 3) → (c : Context) (ts : List Lexeme) → f sequence c ts ≡ h sequence c ts → Same f h (8 * length ts) → (f sequence c ts >>= λ v. f (y v.0) c v.1) ≡ (h sequence c ts >>= λ v. h (y v.0) c v.1)
choice_same f h s y three c ts first a = bind_same (length ts + 0) (f sequence c ts) (h sequence c ts) (λ v. f (y v.0) c v.1) (λ v. h (y v.0) c v.1) first (s sequence c ts) (λ v lt. a (y v.0) c v.1 (omega (arith, three v.0)))

sequence_same : {E B L T M : Type 0} (g : Actions E B L T M) (f h : TermParser T M) → IsShort f → (y : T → TermAim M) → ((t : T) → rank (y t) ≤ 3) → (c : Context) (ts : List Lexeme) → f unit c ts ≡ h unit c ts → Same f h (8 * length ts) → (f unit c ts >>= λ x. star_or_not g c x.0 x.1 >>= λ v. f (y v.0) c v.1) ≡ (h unit c ts >>= λ x. star_or_not g c x.0 x.1 >>= λ v. h (y v.0) c v.1)
sequence_same g f h s y three c ts first a = bind_same (length ts + 0) (f unit c ts) (h unit c ts) (λ x. star_or_not g c x.0 x.1 >>= λ v. f (y v.0) c v.1) (λ x. star_or_not g c x.0 x.1 >>= λ v. h (y v.0) c v.1) first (s unit c ts)
    (λ x lt. bind_same (length ts) (star_or_not g c x.0 x.1) (star_or_not g c x.0 x.1) (λ v. f (y v.0) c v.1) (λ v. h (y v.0) c v.1) refl (star_short g c x.0 x.1 (length ts) (omega arith)) (λ v le. a (y v.0) c v.1 (omega (arith, three v.0))))

term_same : {E B L T M : Type 0} (g : Actions E B L T M) (f h : TermParser T M) → IsShort f → (x : TermAim M) (c : Context) (ts : List Lexeme) → Same f h (steps x ts) → term_by g f x c ts ≡ term_by g h x c ts
term_same g f h s choice c ts a = choice_same f h s (λ t. choice_after (g.one_of t)) (λ t. omega arith) c ts (a sequence c ts (omega arith)) (λ x d us lt. a x d us (omega arith))
term_same g f h s (choice_after m) c ts a = if_same (heads (is_terminal Plus) ts) _ _ _ (λ k. let lt = headed (is_terminal Plus) ts k in
    choice_same f h s (λ t. choice_after (g.more m t)) (λ t. omega arith) c (drop 1 ts) (a sequence c (drop 1 ts) (omega arith)) (λ x d us le. a x d us (omega arith)))
term_same g f h s sequence c ts a = sequence_same g f h s (λ t. sequence_after (g.one_of t)) (λ t. omega arith) c ts (a unit c ts (omega arith)) (λ x d us lt. a x d us (omega arith))
term_same g f h s (sequence_after m) c ts a = if_same (heads (is_terminal Dot) ts) _ _ _ (λ k. let lt = headed (is_terminal Dot) ts k in
    sequence_same g f h s (λ t. sequence_after (g.more m t)) (λ t. omega arith) c (drop 1 ts) (a unit c (drop 1 ts) (omega arith)) (λ x d us le. a x d us (omega arith)))
term_same g f h s unit c ts a = unit_same g f h c ts (λ x d us lt. a x d us (omega arith))

enough : {E B L T M : Type 0} (g : Actions E B L T M) (n m : ℕ) (x : TermAim M) (c : Context) (ts : List Lexeme) → steps x ts < n → steps x ts < m → term_within g n x c ts ≡ term_within g m x c ts
unfolding term_within
enough g zero m x c ts p q = absurd (omega arith)
enough g (suc n) zero x c ts p q = absurd (omega arith)
enough g (suc n) (suc m) x c ts p q = term_same g (term_within g n) (term_within g m) (within_short g n) x c ts (λ y d us lt. enough g n m y d us (omega arith) (omega arith))

pub term_step : {E B L T M : Type 0} (g : Actions E B L T M) (x : TermAim M) (c : Context) (ts : List Lexeme) → parse_term g x c ts ≡ term_by g (parse_term g) x c ts
unfolding parse_term term_within
term_step g x c ts = term_same g (term_within g (steps x ts)) (parse_term g) (within_short g (steps x ts)) x c ts (λ y d us lt. enough g (steps x ts) (suc (steps y us)) y d us lt (omega arith))

-- what a list reads, by what its parts read

pub choice_first : {E B L T M : Type 0} (g : Actions E B L T M) (c : Context) (ts : List Lexeme) (x : T × List Lexeme) (l : M) → parse_term g sequence c ts ≡ Ok x → ◌≡◌ {A = Result M TextFault} (Ok (g.one_of x.0)) (Ok l) → parse_term g (choice_after l) c x.1 ≡ parse_term g choice c ts
choice_first g c ts x l h made =
    let same : g.one_of x.0 ≡ l = cc in
    rw (term_step g choice c ts, h, same) refl

pub choice_fault : {E B L T M : Type 0} (g : Actions E B L T M) (c : Context) (ts : List Lexeme) (f : TextFault) → parse_term g sequence c ts ≡ Err f → parse_term g choice c ts ≡ Err f
choice_fault g c ts f h = rw (term_step g choice c ts, h) refl

choice_more : {E B L T M : Type 0} (g : Actions E B L T M) (l : M) (c : Context) (n : ℕ) (ts : List Lexeme) → heads (is_terminal Plus) (drop n ts) ≡ true → parse_term g (choice_after l) c (drop n ts) ≡ (parse_term g sequence c (drop (n + 1) ts) >>= λ x. parse_term g (choice_after (g.more l x.0)) c x.1)
choice_more g l c n ts more = rw (term_step g (choice_after l) c (drop n ts), more, next_drop n ts) refl

pub choice_next : {E B L T M : Type 0} (g : Actions E B L T M) (l : M) (c : Context) (n : ℕ) (ts : List Lexeme) (x : T × List Lexeme) (m : M) → heads (is_terminal Plus) (drop n ts) ≡ true → parse_term g sequence c (drop (n + 1) ts) ≡ Ok x → ◌≡◌ {A = Result M TextFault} (Ok (g.more l x.0)) (Ok m) → parse_term g (choice_after m) c x.1 ≡ parse_term g (choice_after l) c (drop n ts)
choice_next g l c n ts x m more h made =
    let same : g.more l x.0 ≡ m = cc in
    rw (choice_more g l c n ts more, h, same) refl

pub choice_next_fault : {E B L T M : Type 0} (g : Actions E B L T M) (l : M) (c : Context) (n : ℕ) (ts : List Lexeme) (f : TextFault) → heads (is_terminal Plus) (drop n ts) ≡ true → parse_term g sequence c (drop (n + 1) ts) ≡ Err f → parse_term g (choice_after l) c (drop n ts) ≡ Err f
choice_next_fault g l c n ts f more h = rw (choice_more g l c n ts more, h) refl

pub choice_end : {E B L T M : Type 0} (g : Actions E B L T M) (l : M) (c : Context) (ts : List Lexeme) (b : T) → heads (is_terminal Plus) ts ≡ false → ◌≡◌ {A = Result T TextFault} (Ok (g.sum l)) (Ok b) → parse_term g (choice_after l) c ts ≡ Ok (b, ts)
choice_end g l c ts b done made =
    let same : g.sum l ≡ b = cc in
    rw (term_step g (choice_after l) c ts, done, same) refl

pub sequence_first : {E B L T M : Type 0} (g : Actions E B L T M) (c : Context) (ts : List Lexeme) (x y : T × List Lexeme) (l : M) → parse_term g unit c ts ≡ Ok x → star_or_not g c x.0 x.1 ≡ Ok y → ◌≡◌ {A = Result M TextFault} (Ok (g.one_of y.0)) (Ok l) → parse_term g (sequence_after l) c y.1 ≡ parse_term g sequence c ts
sequence_first g c ts x y l h starred made =
    let same : g.one_of y.0 ≡ l = cc in
    rw (term_step g sequence c ts, h, starred, same) refl

pub sequence_fault : {E B L T M : Type 0} (g : Actions E B L T M) (c : Context) (ts : List Lexeme) (f : TextFault) → parse_term g unit c ts ≡ Err f → parse_term g sequence c ts ≡ Err f
sequence_fault g c ts f h = rw (term_step g sequence c ts, h) refl

pub sequence_star_fault : {E B L T M : Type 0} (g : Actions E B L T M) (c : Context) (ts : List Lexeme) (x : T × List Lexeme) (f : TextFault) → parse_term g unit c ts ≡ Ok x → star_or_not g c x.0 x.1 ≡ Err f → parse_term g sequence c ts ≡ Err f
sequence_star_fault g c ts x f h starred = rw (term_step g sequence c ts, h, starred) refl

sequence_more : {E B L T M : Type 0} (g : Actions E B L T M) (l : M) (c : Context) (n : ℕ) (ts : List Lexeme) → heads (is_terminal Dot) (drop n ts) ≡ true → parse_term g (sequence_after l) c (drop n ts) ≡ (parse_term g unit c (drop (n + 1) ts) >>= λ x. star_or_not g c x.0 x.1 >>= λ y. parse_term g (sequence_after (g.more l y.0)) c y.1)
sequence_more g l c n ts more = rw (term_step g (sequence_after l) c (drop n ts), more, next_drop n ts) refl

pub sequence_next : {E B L T M : Type 0} (g : Actions E B L T M) (l : M) (c : Context) (n : ℕ) (ts : List Lexeme) (x y : T × List Lexeme) (m : M) → heads (is_terminal Dot) (drop n ts) ≡ true → parse_term g unit c (drop (n + 1) ts) ≡ Ok x → star_or_not g c x.0 x.1 ≡ Ok y → ◌≡◌ {A = Result M TextFault} (Ok (g.more l y.0)) (Ok m) → parse_term g (sequence_after m) c y.1 ≡ parse_term g (sequence_after l) c (drop n ts)
sequence_next g l c n ts x y m more h starred made =
    let same : g.more l y.0 ≡ m = cc in
    rw (sequence_more g l c n ts more, h, starred, same) refl

pub sequence_next_fault : {E B L T M : Type 0} (g : Actions E B L T M) (l : M) (c : Context) (n : ℕ) (ts : List Lexeme) (f : TextFault) → heads (is_terminal Dot) (drop n ts) ≡ true → parse_term g unit c (drop (n + 1) ts) ≡ Err f → parse_term g (sequence_after l) c (drop n ts) ≡ Err f
sequence_next_fault g l c n ts f more h = rw (sequence_more g l c n ts more, h) refl

pub sequence_next_star_fault : {E B L T M : Type 0} (g : Actions E B L T M) (l : M) (c : Context) (n : ℕ) (ts : List Lexeme) (x : T × List Lexeme) (f : TextFault) → heads (is_terminal Dot) (drop n ts) ≡ true → parse_term g unit c (drop (n + 1) ts) ≡ Ok x → star_or_not g c x.0 x.1 ≡ Err f → parse_term g (sequence_after l) c (drop n ts) ≡ Err f
sequence_next_star_fault g l c n ts x f more h starred = rw (sequence_more g l c n ts more, h, starred) refl

pub sequence_end : {E B L T M : Type 0} (g : Actions E B L T M) (l : M) (c : Context) (ts : List Lexeme) (b : T) → heads (is_terminal Dot) ts ≡ false → ◌≡◌ {A = Result T TextFault} (Ok (g.product l)) (Ok b) → parse_term g (sequence_after l) c ts ≡ Ok (b, ts)
sequence_end g l c ts b done made =
    let same : g.product l ≡ b = cc in
    rw (term_step g (sequence_after l) c ts, done, same) refl

pub star_seen : {E B L T M : Type 0} (g : Actions E B L T M) (c : Context) (t : T) (ts : List Lexeme) (s : Terminal) (at : ℕ) (text : List ℕ) (us : List Lexeme) → ts ≡ lexeme s at text ∷ us → s ≡ Star → star_or_not g c t ts ≡ before us (g.starred c at t)
star_seen g c t ts s at text us seen is = rw (seen, is) refl

-- what a unit reads, by its first token

pub unit_none : {E B L T M : Type 0} (g : Actions E B L T M) (c : Context) (ts : List Lexeme) → ts ≡ [] → parse_term g unit c ts ≡ Err (Syntax (place_of ts))
unit_none g c ts none = rw none (term_step g unit c [])

pub unit_seen : {E B L T M : Type 0} (g : Actions E B L T M) (c : Context) (ts : List Lexeme) (s t : Terminal) (at : ℕ) (text : List ℕ) (us : List Lexeme) → ts ≡ lexeme s at text ∷ us → s ≡ t → parse_term g unit c ts ≡ unit_by g (parse_term g) c (lexeme t at text ∷ us)
unit_seen g c ts s t at text us seen is = rw (seen, is) (term_step g unit c (lexeme t at text ∷ us))

other_unit : {E B L T M : Type 0} (g : Actions E B L T M) (f : TermParser T M) (c : Context) (s : Terminal) (at : ℕ) (text : List ℕ) (us : List Lexeme) → (s ≡ RoundOpen → ⊥) → (s ≡ SquareOpen → ⊥) → (s ≡ Bang → ⊥) → (s ≡ Zero → ⊥) → (s ≡ One → ⊥) → (s ≡ Name → ⊥) → unit_by g f c (lexeme s at text ∷ us) ≡ Err (Syntax at)
other_unit g f c RoundOpen at text us a b d e h i = absurd (a refl)
other_unit g f c SquareOpen at text us a b d e h i = absurd (b refl)
other_unit g f c Bang at text us a b d e h i = absurd (d refl)
other_unit g f c Zero at text us a b d e h i = absurd (e refl)
other_unit g f c One at text us a b d e h i = absurd (h refl)
other_unit g f c Name at text us a b d e h i = absurd (i refl)
other_unit g f c _ at text us a b d e h i = refl

pub unit_other : {E B L T M : Type 0} (g : Actions E B L T M) (c : Context) (ts : List Lexeme) (s : Terminal) (at : ℕ) (text : List ℕ) (us : List Lexeme) → ts ≡ lexeme s at text ∷ us → (s ≡ RoundOpen → ⊥) → (s ≡ SquareOpen → ⊥) → (s ≡ Bang → ⊥) → (s ≡ Zero → ⊥) → (s ≡ One → ⊥) → (s ≡ Name → ⊥) → parse_term g unit c ts ≡ Err (Syntax at)
unit_other g c ts s at text us seen a b d e h i = rw seen (term_step g unit c (lexeme s at text ∷ us) ∙ other_unit g (parse_term g) c s at text us a b d e h i)

-- what a `!` and a parenthesis read

pub negation_refused : {E B L T M : Type 0} (g : Actions E B L T M) (f : TermParser T M) (c : Context) (at : ℕ) (ts : List Lexeme) (e : TextFault) → enter_not c at ≡ Err e → negation g f c at ts ≡ Err e
negation_refused g f c at ts e refused = rw refused refl

pub negation_fault : {E B L T M : Type 0} (g : Actions E B L T M) (f : TermParser T M) (c d : Context) (at : ℕ) (ts : List Lexeme) (e : TextFault) → enter_not c at ≡ Ok d → f unit d ts ≡ Err e → negation g f c at ts ≡ Err e
negation_fault g f c d at ts e entered h = rw (entered, h) refl

pub negation_made : {E B L T M : Type 0} (g : Actions E B L T M) (f : TermParser T M) (c d : Context) (at : ℕ) (ts : List Lexeme) (x : T × List Lexeme) (v : T) → enter_not c at ≡ Ok d → f unit d ts ≡ Ok x → ◌≡◌ {A = Result T TextFault} (Ok (g.negated x.0)) (Ok v) → negation g f c at ts ≡ Ok (v, x.1)
negation_made g f c d at ts x v entered h made =
    let same : g.negated x.0 ≡ v = cc in
    rw (entered, h, same) refl

pub parenthesis_refused : {E B L T M : Type 0} (g : Actions E B L T M) (f : TermParser T M) (c : Context) (at : ℕ) (ts : List Lexeme) (e : TextFault) → enter c at ≡ Err e → parenthesis g f c at ts ≡ Err e
parenthesis_refused g f c at ts e refused = rw refused refl

pub parenthesis_fault : {E B L T M : Type 0} (g : Actions E B L T M) (f : TermParser T M) (c d : Context) (at : ℕ) (ts : List Lexeme) (e : TextFault) → enter c at ≡ Ok d → f choice d ts ≡ Err e → parenthesis g f c at ts ≡ Err e
parenthesis_fault g f c d at ts e entered h = rw (entered, h) refl

pub parenthesis_read : {E B L T M : Type 0} (g : Actions E B L T M) (f : TermParser T M) (c d : Context) (at : ℕ) (ts : List Lexeme) (x : T × List Lexeme) → enter c at ≡ Ok d → f choice d ts ≡ Ok x → parenthesis g f c at ts ≡ then_expects (is_terminal RoundClose) (Ok (g.enclosed x.0, x.1))
parenthesis_read g f c d at ts x entered h = rw (entered, h) (closed_same g.enclosed x.0 (g.enclosed x.0) (expects (is_terminal RoundClose) x.1) refl)

-- what a bracket reads

pub bracket_refused : {E B L T M : Type 0} (g : Actions E B L T M) (c : Context) (at : ℕ) (ts : List Lexeme) (e : TextFault) → enter c at ≡ Err e → bracket g c at ts ≡ Err e
bracket_refused g c at ts e refused = rw refused refl

pub bracket_fault : {E B L T M : Type 0} (g : Actions E B L T M) (c d : Context) (at : ℕ) (ts : List Lexeme) (e : TextFault) → enter c at ≡ Ok d → parse_cond g.conds disjunction d ts ≡ Err e → bracket g c at ts ≡ Err e
bracket_fault g c d at ts e entered h = rw (entered, h) refl

pub bracket_open : {E B L T M : Type 0} (g : Actions E B L T M) (c d : Context) (at : ℕ) (ts : List Lexeme) (x : B × List Lexeme) (e : TextFault) → enter c at ≡ Ok d → parse_cond g.conds disjunction d ts ≡ Ok x → expects (is_terminal SquareClose) x.1 ≡ Err e → bracket g c at ts ≡ Err e
bracket_open g c d at ts x e entered h missing = rw (entered, h, missing) refl

pub bracket_closed : {E B L T M : Type 0} (g : Actions E B L T M) (c d : Context) (at : ℕ) (ts : List Lexeme) (x : B × List Lexeme) (us : List Lexeme) (v : T) → enter c at ≡ Ok d → parse_cond g.conds disjunction d ts ≡ Ok x → expects (is_terminal SquareClose) x.1 ≡ Ok us → ◌≡◌ {A = Result T TextFault} (Ok (g.tested x.0)) (Ok v) → bracket g c at ts ≡ Ok (v, us)
bracket_closed g c d at ts x us v entered h closed made =
    let same : g.tested x.0 ≡ v = cc in
    rw (entered, h, closed, same) refl

-- the parser consumes at least one token, or none for the rest of a list
pub term_read_short : {E B L T M : Type 0} (g : Actions E B L T M) → IsShort (parse_term g)
unfolding parse_term
term_read_short g x c ts = within_short g (suc (steps x ts)) x c ts
