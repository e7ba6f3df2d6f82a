-- Two sets of actions that are related part by part give related results for each phrase.
use Rattle.std.proofs.Common.{ℕ, List, true, false, cond, nat_lt, Result, Ok, Err}
use Rattle.kat_model.specs.declared.limits.TheConstants.{MAX_OPEN}
use Rattle.kat_model.specs.declared.expression.Rel.{Rel}
use Rattle.text_parser.specs.declared.fault.TextFault.{TextFault}
use Rattle.text_parser.specs.declared.fault.TextFault.TheVariants.{TooDeep}
use Rattle.text_parser.specs.declared.reading.Context.{Context}
use Rattle.text_parser.specs.declared.reading.Operator.{Operator}
use Rattle.text_parser.specs.declared.reading.Operator.TheVariants.{Multiply}
use Rattle.text_parser.specs.Parsed.{◌>>=◌}
use Rattle.text_parser.specs.Actions.{Actions}
use Rattle.text_parser.specs.Phrases.{Symbol, term, prod, star, unit, cond as cond_symbol, conj, lit, expr, mul, fac, Phrase, one_prod, more_prods, one_star, more_stars, bare, starred, zero_unit, one_unit, name_unit, not_unit, square_unit, round_unit, one_conj, more_conjs, one_lit, more_lits, true_lit, false_lit, name_lit, not_lit, round_lit, relation_lit, one_mul, more_muls, one_fac, more_facs, zero_fac, one_fac_number, number_fac, wide_fac, name_fac, round_fac}
use Rattle.text_parser.specs.Folds.{operator_of, Folded, fold}
use Rattle.text_parser.specs.Sound.{inside, inside_not}

-- if the first result is a value, so is the second, and the values are related
abbrev pub Both : {A B : Type 0} → (A → B → Type 0) → Result A TextFault → Result B TextFault → Type 0
Both R (Ok x) (Ok y) = R x y
Both R (Ok x) (Err e) = ⊥
Both R (Err e) s = Unit {0}

pub both_then : {A B A' B' : Type 0} (R : A → A' → Type 0) (S : B → B' → Type 0) (r : Result A TextFault) (s : Result A' TextFault) (f : A → Result B TextFault) (g : A' → Result B' TextFault) → Both R r s → ((x : A) (y : A') → R x y → Both S (f x) (g y)) → Both S (r >>= f) (s >>= g)
both_then R S (Ok x) (Ok y) f g h k = k x y h
both_then R S (Ok x) (Err e) f g h k = absurd h
both_then R S (Err e) s f g h k = tt

both_inside : {A B : Type 0} (S : A → B → Type 0) (c d : Context) (at : ℕ) (f : Context → Result A TextFault) (g : Context → Result B TextFault) → Both S (f d) (g d) → Both S (cond (nat_lt c.depth MAX_OPEN) (Ok d) (Err (TooDeep at)) >>= f) (cond (nat_lt c.depth MAX_OPEN) (Ok d) (Err (TooDeep at)) >>= g)
both_inside S c d at f g h = elim (nat_lt c.depth MAX_OPEN) as (λ b. Both S (cond b (Ok d) (Err (TooDeep at)) >>= f) (cond b (Ok d) (Err (TooDeep at)) >>= g)) [ true ↦ h | false ↦ tt ]

module _ {E B L T M E' B' L' T' M' : Type 0} (RE : Context → E → E' → Type 0) (RB : Context → B → B' → Type 0) (RL : Context → L → L' → Type 0) (RT : Context → T → T' → Type 0) (RM : Context → M → M' → Type 0) (g : Actions E B L T M) (h : Actions E' B' L' T' M') where
  -- the actions are related at each part
  pub record AreRelated : Type 0 where
    pub number : (c : Context) (at n : ℕ) → Both (RE c) (g.conds.exprs.number c at n) (h.conds.exprs.number c at n)
    pub variable : (c : Context) (at : ℕ) (text : List ℕ) → Both (RE c) (g.conds.exprs.variable c at text) (h.conds.exprs.variable c at text)
    pub join : (c : Context) (o : Operator) (x y : E) (x' y' : E') → RE c x x' → RE c y y' → RE c (g.conds.exprs.join o x y) (h.conds.exprs.join o x' y')
    pub enclosed_expr : (c : Context) (x : E) (x' : E') → RE (inside c) x x' → RE c (g.conds.exprs.enclosed x) (h.conds.exprs.enclosed x')
    pub always : (c : Context) → RB c g.conds.always h.conds.always
    pub never : (c : Context) → RB c g.conds.never h.conds.never
    pub named_cond : (c : Context) (at : ℕ) (text : List ℕ) → Both (RB c) (g.conds.named c at text) (h.conds.named c at text)
    pub compare : (c : Context) (r : Rel) (x y : E) (x' y' : E') → RE c x x' → RE c y y' → RB c (g.conds.compare r x y) (h.conds.compare r x' y')
    pub negated_cond : (c : Context) (b : B) (b' : B') → RB (inside_not c) b b' → RB c (g.conds.negated b) (h.conds.negated b')
    pub enclosed_cond : (c : Context) (b : B) (b' : B') → RB (inside c) b b' → RB c (g.conds.enclosed b) (h.conds.enclosed b')
    pub one_cond : (c : Context) (b : B) (b' : B') → RB c b b' → RL c (g.conds.one_of b) (h.conds.one_of b')
    pub more_conds : (c : Context) (l : L) (l' : L') (b : B) (b' : B') → RL c l l' → RB c b b' → RL c (g.conds.more l b) (h.conds.more l' b')
    pub all : (c : Context) (l : L) (l' : L') → RL c l l' → RB c (g.conds.all l) (h.conds.all l')
    pub any : (c : Context) (l : L) (l' : L') → RL c l l' → RB c (g.conds.any l) (h.conds.any l')
    pub zero : (c : Context) → RT c g.zero h.zero
    pub one : (c : Context) → RT c g.one h.one
    pub named : (c : Context) (at : ℕ) (text : List ℕ) → Both (RT c) (g.named c at text) (h.named c at text)
    pub negated : (c : Context) (t : T) (t' : T') → RT (inside_not c) t t' → RT c (g.negated t) (h.negated t')
    pub tested : (c : Context) (b : B) (b' : B') → RB (inside c) b b' → RT c (g.tested b) (h.tested b')
    pub enclosed : (c : Context) (t : T) (t' : T') → RT (inside c) t t' → RT c (g.enclosed t) (h.enclosed t')
    pub starred : (c : Context) (at : ℕ) (t : T) (t' : T') → RT c t t' → Both (RT c) (g.starred c at t) (h.starred c at t')
    pub one_term : (c : Context) (t : T) (t' : T') → RT c t t' → RM c (g.one_of t) (h.one_of t')
    pub more_terms : (c : Context) (m : M) (m' : M') (t : T) (t' : T') → RM c m m' → RT c t t' → RM c (g.more m t) (h.more m' t')
    pub sum : (c : Context) (m : M) (m' : M') → RM c m m' → RT c (g.sum m) (h.sum m')
    pub product : (c : Context) (m : M) (m' : M') → RM c m m' → RT c (g.product m) (h.product m')

  -- related functions that join a part to what precedes it
  abbrev JoinE : Context → (E → E) → (E' → E') → Type 0
  JoinE c k l = (x : E) (x' : E') → RE c x x' → RE c (k x) (l x')

  abbrev JoinB : Context → (B → L) → (B' → L') → Type 0
  JoinB c k l = (x : B) (x' : B') → RB c x x' → RL c (k x) (l x')

  abbrev JoinT : Context → (T → M) → (T' → M') → Type 0
  JoinT c k l = (x : T) (x' : T') → RT c x x' → RM c (k x) (l x')

  abbrev pub Relates : (x : Symbol) → Context → Folded E B L T M x → Folded E' B' L' T' M' x → Type 0
  Relates term c v v' = (k : T → M) (l : T' → M') → JoinT c k l → Both (RT c) (v k) (v' l)
  Relates prod c v v' = (k : T → M) (l : T' → M') → JoinT c k l → Both (RT c) (v k) (v' l)
  Relates star c v v' = Both (RT c) v v'
  Relates unit c v v' = Both (RT c) v v'
  Relates cond_symbol c v v' = (k : B → L) (l : B' → L') → JoinB c k l → Both (RB c) (v k) (v' l)
  Relates conj c v v' = (k : B → L) (l : B' → L') → JoinB c k l → Both (RB c) (v k) (v' l)
  Relates lit c v v' = Both (RB c) v v'
  Relates expr c v v' = (k : E → E) (l : E' → E') → JoinE c k l → Both (RE c) (v k) (v' l)
  Relates mul c v v' = (k : E → E) (l : E' → E') → JoinE c k l → Both (RE c) (v k) (v' l)
  Relates fac c v v' = Both (RE c) v v'

  module _ (r : AreRelated) where
    pub related : {x : Symbol} (p : Phrase x) (c : Context) → Relates x c (fold g c p) (fold h c p)
    related (one_prod p) c = λ k l j. both_then (RT c) (RT c) (fold g c p g.one_of) (fold h c p h.one_of) (λ v. Ok (g.sum (k v))) (λ v. Ok (h.sum (l v))) (related p c g.one_of h.one_of (r.one_term c)) (λ x y q. r.sum c (k x) (l y) (j x y q))
    related (more_prods p m t) c = λ k l j. both_then (RT c) (RT c) (fold g c p g.one_of) (fold h c p h.one_of) (λ v. fold g c t (g.more (k v))) (λ v. fold h c t (h.more (l v))) (related p c g.one_of h.one_of (r.one_term c)) (λ x y q. related t c (g.more (k x)) (h.more (l y)) (λ u v e. r.more_terms c (k x) (l y) u v (j x y q) e))
    related (one_star s) c = λ k l j. both_then (RT c) (RT c) (fold g c s) (fold h c s) (λ v. Ok (g.product (k v))) (λ v. Ok (h.product (l v))) (related s c) (λ x y q. r.product c (k x) (l y) (j x y q))
    related (more_stars s m p) c = λ k l j. both_then (RT c) (RT c) (fold g c s) (fold h c s) (λ v. fold g c p (g.more (k v))) (λ v. fold h c p (h.more (l v))) (related s c) (λ x y q. related p c (g.more (k x)) (h.more (l y)) (λ u v e. r.more_terms c (k x) (l y) u v (j x y q) e))
    related (bare u) c = related u c
    related (starred u m) c = both_then (RT c) (RT c) (fold g c u) (fold h c u) (g.starred c m.at) (h.starred c m.at) (related u c) (λ x y q. r.starred c m.at x y q)
    related (zero_unit m) c = r.zero c
    related (one_unit m) c = r.one c
    related (name_unit m) c = r.named c m.at m.text
    related (not_unit m u) c = both_inside (RT c) c (inside_not c) m.at (λ d. fold g d u >>= λ v. Ok (g.negated v)) (λ d. fold h d u >>= λ v. Ok (h.negated v))
        (both_then (RT (inside_not c)) (RT c) (fold g (inside_not c) u) (fold h (inside_not c) u) (λ v. Ok (g.negated v)) (λ v. Ok (h.negated v)) (related u (inside_not c)) (λ x y q. r.negated c x y q))
    related (square_unit m b n) c = both_inside (RT c) c (inside c) m.at (λ d. fold g d b g.conds.one_of >>= λ v. Ok (g.tested v)) (λ d. fold h d b h.conds.one_of >>= λ v. Ok (h.tested v))
        (both_then (RB (inside c)) (RT c) (fold g (inside c) b g.conds.one_of) (fold h (inside c) b h.conds.one_of) (λ v. Ok (g.tested v)) (λ v. Ok (h.tested v)) (related b (inside c) g.conds.one_of h.conds.one_of (r.one_cond (inside c))) (λ x y q. r.tested c x y q))
    related (round_unit m t n) c = both_inside (RT c) c (inside c) m.at (λ d. fold g d t g.one_of >>= λ v. Ok (g.enclosed v)) (λ d. fold h d t h.one_of >>= λ v. Ok (h.enclosed v))
        (both_then (RT (inside c)) (RT c) (fold g (inside c) t g.one_of) (fold h (inside c) t h.one_of) (λ v. Ok (g.enclosed v)) (λ v. Ok (h.enclosed v)) (related t (inside c) g.one_of h.one_of (r.one_term (inside c))) (λ x y q. r.enclosed c x y q))
    related (one_conj b) c = λ k l j. both_then (RB c) (RB c) (fold g c b g.conds.one_of) (fold h c b h.conds.one_of) (λ v. Ok (g.conds.any (k v))) (λ v. Ok (h.conds.any (l v))) (related b c g.conds.one_of h.conds.one_of (r.one_cond c)) (λ x y q. r.any c (k x) (l y) (j x y q))
    related (more_conjs b m t) c = λ k l j. both_then (RB c) (RB c) (fold g c b g.conds.one_of) (fold h c b h.conds.one_of) (λ v. fold g c t (g.conds.more (k v))) (λ v. fold h c t (h.conds.more (l v))) (related b c g.conds.one_of h.conds.one_of (r.one_cond c)) (λ x y q. related t c (g.conds.more (k x)) (h.conds.more (l y)) (λ u v e. r.more_conds c (k x) (l y) u v (j x y q) e))
    related (one_lit s) c = λ k l j. both_then (RB c) (RB c) (fold g c s) (fold h c s) (λ v. Ok (g.conds.all (k v))) (λ v. Ok (h.conds.all (l v))) (related s c) (λ x y q. r.all c (k x) (l y) (j x y q))
    related (more_lits s m p) c = λ k l j. both_then (RB c) (RB c) (fold g c s) (fold h c s) (λ v. fold g c p (g.conds.more (k v))) (λ v. fold h c p (h.conds.more (l v))) (related s c) (λ x y q. related p c (g.conds.more (k x)) (h.conds.more (l y)) (λ u v e. r.more_conds c (k x) (l y) u v (j x y q) e))
    related (true_lit m) c = r.always c
    related (false_lit m) c = r.never c
    related (name_lit m) c = r.named_cond c m.at m.text
    related (not_lit m u) c = both_inside (RB c) c (inside_not c) m.at (λ d. fold g d u >>= λ v. Ok (g.conds.negated v)) (λ d. fold h d u >>= λ v. Ok (h.conds.negated v))
        (both_then (RB (inside_not c)) (RB c) (fold g (inside_not c) u) (fold h (inside_not c) u) (λ v. Ok (g.conds.negated v)) (λ v. Ok (h.conds.negated v)) (related u (inside_not c)) (λ x y q. r.negated_cond c x y q))
    related (round_lit m b n) c = both_inside (RB c) c (inside c) m.at (λ d. fold g d b g.conds.one_of >>= λ v. Ok (g.conds.enclosed v)) (λ d. fold h d b h.conds.one_of >>= λ v. Ok (h.conds.enclosed v))
        (both_then (RB (inside c)) (RB c) (fold g (inside c) b g.conds.one_of) (fold h (inside c) b h.conds.one_of) (λ v. Ok (g.conds.enclosed v)) (λ v. Ok (h.conds.enclosed v)) (related b (inside c) g.conds.one_of h.conds.one_of (r.one_cond (inside c))) (λ x y q. r.enclosed_cond c x y q))
    related (relation_lit e m s f) c = both_then (RE c) (RB c) (fold g c e (λ v. v)) (fold h c e (λ v. v)) (λ v. fold g c f (λ u. u) >>= λ u. Ok (g.conds.compare s v u)) (λ v. fold h c f (λ u. u) >>= λ u. Ok (h.conds.compare s v u)) (related e c (λ v. v) (λ v. v) (λ x y q. q))
        (λ x y q. both_then (RE c) (RB c) (fold g c f (λ u. u)) (fold h c f (λ u. u)) (λ u. Ok (g.conds.compare s x u)) (λ u. Ok (h.conds.compare s y u)) (related f c (λ v. v) (λ v. v) (λ u v e. e)) (λ u v e. r.compare c s x u y v q e))
    related (one_mul p) c = λ k l j. both_then (RE c) (RE c) (fold g c p (λ v. v)) (fold h c p (λ v. v)) (λ v. Ok (k v)) (λ v. Ok (l v)) (related p c (λ v. v) (λ v. v) (λ x y q. q)) (λ x y q. j x y q)
    related (more_muls p m minus t) c = λ k l j. both_then (RE c) (RE c) (fold g c p (λ v. v)) (fold h c p (λ v. v)) (λ v. fold g c t (g.conds.exprs.join (operator_of minus) (k v))) (λ v. fold h c t (h.conds.exprs.join (operator_of minus) (l v))) (related p c (λ v. v) (λ v. v) (λ x y q. q)) (λ x y q. related t c (g.conds.exprs.join (operator_of minus) (k x)) (h.conds.exprs.join (operator_of minus) (l y)) (λ u v e. r.join c (operator_of minus) (k x) u (l y) v (j x y q) e))
    related (one_fac s) c = λ k l j. both_then (RE c) (RE c) (fold g c s) (fold h c s) (λ v. Ok (k v)) (λ v. Ok (l v)) (related s c) (λ x y q. j x y q)
    related (more_facs s m p) c = λ k l j. both_then (RE c) (RE c) (fold g c s) (fold h c s) (λ v. fold g c p (g.conds.exprs.join Multiply (k v))) (λ v. fold h c p (h.conds.exprs.join Multiply (l v))) (related s c) (λ x y q. related p c (g.conds.exprs.join Multiply (k x)) (h.conds.exprs.join Multiply (l y)) (λ u v e. r.join c Multiply (k x) u (l y) v (j x y q) e))
    related (zero_fac m) c = r.number c m.at 0
    related (one_fac_number m) c = r.number c m.at 1
    related (number_fac m n) c = r.number c m.at n
    related (wide_fac m) c = tt
    related (name_fac m) c = r.variable c m.at m.text
    related (round_fac m e n) c = both_inside (RE c) c (inside c) m.at (λ d. fold g d e (λ v. v) >>= λ v. Ok (g.conds.exprs.enclosed v)) (λ d. fold h d e (λ v. v) >>= λ v. Ok (h.conds.exprs.enclosed v))
        (both_then (RE (inside c)) (RE c) (fold g (inside c) e (λ v. v)) (fold h (inside c) e (λ v. v)) (λ v. Ok (g.conds.exprs.enclosed v)) (λ v. Ok (h.conds.exprs.enclosed v)) (related e (inside c) (λ v. v) (λ v. v) (λ x y q. q)) (λ x y q. r.enclosed_expr c x y q))
