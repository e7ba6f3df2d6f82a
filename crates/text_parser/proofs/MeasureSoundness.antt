-- Measuring a phrase succeeds exactly when the phrase is sound and within the limits; then it gives the nesting of the
-- phrase.
use Rattle.std.proofs.Common.{◌≡◌, ◌≤◌, ◌<◌, ◌+◌, ℕ, max, min, Bool, true, false, cond, nat_lt, slice_get, Option, Some, None, Result, Ok, Err, refl, ap, ◌∙◌, arith}
use Rattle.std.proofs.lemmas.Bool.{both_ways, ltb-true, ltb-false}
use Rattle.kat_model.specs.declared.limits.TheConstants.{MAX_OPEN}
use Rattle.kat_model.specs.Trees.{term_size, test_size, is_test}
use Rattle.text_parser.specs.declared.fault.TextFault.{TextFault}
use Rattle.text_parser.specs.declared.fault.TextFault.TheVariants.{Sort, TooDeep}
use Rattle.text_parser.specs.declared.reading.Context.{Context}
use Rattle.text_parser.specs.Parsed.{◌>>=◌}
use Rattle.text_parser.specs.Phrases.{Symbol, term, prod, star, unit, cond as cond_symbol, conj, lit, expr, mul, fac, Phrase, one_prod, more_prods, one_star, more_stars, bare, starred, zero_unit, one_unit, name_unit, not_unit, square_unit, round_unit, one_conj, more_conjs, one_lit, more_lits, true_lit, false_lit, name_lit, not_lit, round_lit, relation_lit, one_mul, more_muls, one_fac, more_facs, zero_fac, one_fac_number, number_fac, wide_fac, name_fac, round_fac, IsWithinLimits}
use Rattle.text_parser.specs.Folds.{Folded, fold}
use Rattle.text_parser.specs.declared.meaning.Meaning.{Meaning}
use Rattle.text_parser.specs.declared.meaning.Meaning.TheVariants.{Test, Action, Var, Term as TermName, Prog}
use Rattle.text_parser.specs.declared.extent.Extent.{Extent}
use Rattle.text_parser.specs.Sizes.{as_test}
use Rattle.text_parser.specs.ScopeParts.{Definition, ScopeParts, meaning}
use Rattle.text_parser.specs.Measuring.{limited, deeper, linked, topped, compare, negated, tested, starred as star_extent, variable_extent, condition_extent, defined_extent, name_extent, extents}
use Rattle.text_parser.specs.Sound.{inside, inside_not, IsUsable, IsTermName, IsCondName, IsExprName, IsSound, defined_nesting, name_nesting, nesting}

-- the result is an extent exactly when `P` holds, and its nesting is then `n`, capped at `MAX_OPEN + 1`
abbrev pub Judged : Result Extent TextFault → Type 0 → ℕ → Type 0
Judged (Ok m) P n = P × (m.nesting ≡ min n (MAX_OPEN + 1))
Judged (Err e) P n = P → ⊥

pub settled : (r : Result Extent TextFault) (P Q : Type 0) (n k : ℕ) → (P → Q) → (Q → P) → n ≡ k → Judged r P n → Judged r Q k
settled (Ok m) P Q n k f g e h = (f h.0, h.1 ∙ ap (λ (i : ℕ). min i (MAX_OPEN + 1)) e)
settled (Err x) P Q n k f g e h = λ q. h (g q)

-- the first part of a list, with nothing before it
pub first : (r : Result Extent TextFault) (P : Type 0) (n : ℕ) → Judged r P (max 0 n) → Judged r P n
first r P n h = settled r P P (max 0 n) n (λ p. p) (λ p. p) (omega arith) h

-- `k` joins a part to a list of nesting `a`
abbrev pub Adds : (Extent → Extent) → ℕ → Type 0
Adds k a = (v : Extent) (n : ℕ) → v.nesting ≡ min n (MAX_OPEN + 1) → (k v).nesting ≡ min (max a n) (MAX_OPEN + 1)

pub adds_none : Adds (λ m. m) 0
adds_none v n e = omega arith

adds_linked : (x : Extent) (a : ℕ) → x.nesting ≡ min a (MAX_OPEN + 1) → Adds (linked x) a
adds_linked x a e v n f = omega arith

pub prefixed : (s : Result Extent TextFault) (P Q : Type 0) (n : ℕ) → P → Judged s Q n → Judged s (P × Q) n
prefixed (Ok m) P Q n p h = ((p, h.0), h.1)
prefixed (Err e) P Q n p h = λ x. h x.1

-- a part, then another part
pub then_judged : (r : Result Extent TextFault) (next : Extent → Result Extent TextFault) (P Q : Type 0) (n k : ℕ) → Judged r P n → ((m : Extent) → m.nesting ≡ min n (MAX_OPEN + 1) → Judged (next m) Q k) → Judged (r >>= next) (P × Q) k
then_judged (Ok m) next P Q n k h g = prefixed (next m) P Q k h.0 (g m h.1)
then_judged (Err e) next P Q n k h g = λ x. h x.0

pub changed : (r : Result Extent TextFault) (f : Extent → Extent) (P : Type 0) (n k : ℕ) → ((m : Extent) → m.nesting ≡ min n (MAX_OPEN + 1) → (f m).nesting ≡ min k (MAX_OPEN + 1)) → Judged r P n → Judged (r >>= λ v. Ok (f v)) P k
changed (Ok m) f P n k g h = (h.0, g m h.1)
changed (Err e) f P n k g h = h

-- the last part of a list
last : (r : Result Extent TextFault) (k : Extent → Extent) (a n : ℕ) (P : Type 0) → Adds k a → Judged r P n → Judged (r >>= λ v. Ok (k v)) P (max a n)
last r k a n P d h = changed r k P n (max a n) (λ m e. d m n e) h

-- a part of a list, then the rest of the list
more : (r : Result Extent TextFault) (next : Extent → Result Extent TextFault) (k : Extent → Extent) (a n i : ℕ) (S F S' F' : Type 0)
    → Adds k a → Judged r (S × F) n → ((x : Extent) (b : ℕ) → x.nesting ≡ min b (MAX_OPEN + 1) → Judged (next x) (S' × F') (max b i))
    → Judged (r >>= λ v. next (k v)) ((S × S') × (F × F')) (max a (max n i))
more r next k a n i S F S' F' d h g =
    settled (r >>= λ v. next (k v)) ((S × F) × (S' × F')) ((S × S') × (F × F')) (max (max a n) i) (max a (max n i))
    (λ x. ((x.0.0, x.1.0), (x.0.1, x.1.1))) (λ x. ((x.0.0, x.1.0), (x.0.1, x.1.1))) (omega arith)
    (then_judged r (λ v. next (k v)) (S × F) (S' × F') n (max (max a n) i) h (λ m e. g (k m) (max a n) (d m n e)))

-- the inside of a construct
entered : (c d : Context) (at : ℕ) (f : Context → Result Extent TextFault) (S F : Type 0) (n : ℕ) → Judged (f d) (S × F) n → Judged (cond (nat_lt c.depth MAX_OPEN) (Ok d) (Err (TooDeep at)) >>= f) (S × ((c.depth < MAX_OPEN) × F)) n
entered c d at f S F n h = by_depth (nat_lt c.depth MAX_OPEN) refl where
  by_depth : (b : Bool) → nat_lt c.depth MAX_OPEN ≡ b → Judged (cond b (Ok d) (Err (TooDeep at)) >>= f) (S × ((c.depth < MAX_OPEN) × F)) n
  by_depth true e = settled (f d) (S × F) (S × ((c.depth < MAX_OPEN) × F)) n n (λ x. (x.0, (ltb-true c.depth MAX_OPEN e, x.1))) (λ x. (x.0, x.1.1)) refl h
  by_depth false e = λ x. let lt : c.depth < MAX_OPEN = x.1.0 in let le : MAX_OPEN ≤ c.depth = ltb-false c.depth MAX_OPEN e in absurd (omega arith)

-- ---- names, numbers and stars

compares_judged : (c : Context) (at : ℕ) → Judged (cond c.compares (Ok (limited 1 0 0)) (Err (Sort at))) (c.compares ≡ true) 0
compares_judged c at = by_place c.compares refl where
  by_place : (b : Bool) → c.compares ≡ b → Judged (cond b (Ok (limited 1 0 0)) (Err (Sort at))) (c.compares ≡ true) 0
  by_place true e = (e, refl)
  by_place false e = λ x. both_ways c.compares e x

number_judged : (c : Context) (at : ℕ) → Judged (cond c.compares (Ok (limited 1 0 0)) (Err (Sort at))) ((c.compares ≡ true) × Unit {0}) 0
number_judged c at = settled (cond c.compares (Ok (limited 1 0 0)) (Err (Sort at))) (c.compares ≡ true) ((c.compares ≡ true) × Unit {0}) 0 0 (λ x. (x, tt)) (λ x. x.0) refl (compares_judged c at)

variable_judged : (c : Context) (at : ℕ) (o : Option Meaning) → Judged (variable_extent c at o) (((c.compares ≡ true) × IsExprName o) × Unit {0}) 0
variable_judged c at None = λ x. x.0.1
variable_judged c at (Some (Test k)) = λ x. x.0.1
variable_judged c at (Some (Action a)) = λ x. x.0.1
variable_judged c at (Some (Var k)) = settled (cond c.compares (Ok (limited 1 0 0)) (Err (Sort at))) (c.compares ≡ true) (((c.compares ≡ true) × Unit {0}) × Unit {0}) 0 0 (λ x. ((x, tt), tt)) (λ x. x.0.0) refl (compares_judged c at)
variable_judged c at (Some (TermName i)) = λ x. x.0.1
variable_judged c at (Some (Prog i)) = λ x. x.0.1

condition_judged : (at : ℕ) (o : Option Meaning) → Judged (condition_extent at o) (IsCondName o × Unit {0}) 0
condition_judged at None = λ x. x.0
condition_judged at (Some (Test k)) = ((tt, tt), refl)
condition_judged at (Some (Action a)) = λ x. x.0
condition_judged at (Some (Var k)) = λ x. x.0
condition_judged at (Some (TermName i)) = λ x. x.0
condition_judged at (Some (Prog i)) = λ x. x.0

deep_judged : (c : Context) (at : ℕ) (m : Extent) (n : ℕ) → m.nesting ≡ min n (MAX_OPEN + 1) → Judged (cond (nat_lt MAX_OPEN (c.depth + n)) (Err (TooDeep at)) (Ok m)) (c.depth + n ≤ MAX_OPEN) n
deep_judged c at m n given = by_depth (nat_lt MAX_OPEN (c.depth + n)) refl where
  by_depth : (b : Bool) → nat_lt MAX_OPEN (c.depth + n) ≡ b → Judged (cond b (Err (TooDeep at)) (Ok m)) (c.depth + n ≤ MAX_OPEN) n
  by_depth true e = λ le. let lt : MAX_OPEN < c.depth + n = ltb-true MAX_OPEN (c.depth + n) e in absurd (omega arith)
  by_depth false e = (ltb-false MAX_OPEN (c.depth + n) e, given)

abbrev Suits : Context → Definition → Type 0
Suits c d = ((c.negated ≡ true → is_test d.tree ≡ true) × (c.depth + d.nesting ≤ MAX_OPEN)) × Unit {0}

usable_judged : (c : Context) (at : ℕ) (d : Definition) (r : Result Extent TextFault) → Judged r (c.depth + d.nesting ≤ MAX_OPEN) d.nesting → Judged (cond c.negated (cond (is_test d.tree) r (Err (Sort at))) r) (Suits c d) d.nesting
usable_judged c at d r h = by_sort c.negated refl (is_test d.tree) refl where
  by_sort : (b : Bool) → c.negated ≡ b → (t : Bool) → is_test d.tree ≡ t → Judged (cond b (cond t r (Err (Sort at))) r) (Suits c d) d.nesting
  by_sort true e true f = settled r (c.depth + d.nesting ≤ MAX_OPEN) (Suits c d) d.nesting d.nesting (λ le. (((λ n. f), le), tt)) (λ x. x.0.1) refl h
  by_sort true e false f = λ x. both_ways (is_test d.tree) f (x.0.0 e)
  by_sort false e t f = settled r (c.depth + d.nesting ≤ MAX_OPEN) (Suits c d) d.nesting d.nesting (λ le. (((λ n. absurd (both_ways c.negated e n)), le), tt)) (λ x. x.0.1) refl h

abbrev pub extent_of : Definition → Extent
extent_of d = limited (term_size d.tree) (test_size (as_test d.tree)) d.nesting

defined_judged : (c : Context) (at : ℕ) (o : Option Definition) → Judged (defined_extent c at o) (IsUsable c o × Unit {0}) (defined_nesting o)
defined_judged c at None = ((tt, tt), refl)
defined_judged c at (Some d) = usable_judged c at d (cond (nat_lt MAX_OPEN (c.depth + d.nesting)) (Err (TooDeep at)) (Ok (extent_of d))) (deep_judged c at (extent_of d) d.nesting refl)

action_judged : (c : Context) (at : ℕ) → Judged (cond c.negated (Err (Sort at)) (Ok (limited 1 1 0))) ((c.negated ≡ false) × Unit {0}) 0
action_judged c at = by_place c.negated refl where
  by_place : (b : Bool) → c.negated ≡ b → Judged (cond b (Err (Sort at)) (Ok (limited 1 1 0))) ((c.negated ≡ false) × Unit {0}) 0
  by_place true e = λ x. both_ways c.negated x.0 e
  by_place false e = ((e, tt), refl)

name_judged : (w : ScopeParts) (c : Context) (at : ℕ) (o : Option Meaning) → Judged (name_extent w c at o) (IsTermName w c o × Unit {0}) (name_nesting w o)
name_judged w c at None = λ x. x.0
name_judged w c at (Some (Test k)) = ((tt, tt), refl)
name_judged w c at (Some (Action a)) = action_judged c at
name_judged w c at (Some (Var k)) = λ x. x.0
name_judged w c at (Some (TermName i)) = defined_judged c at (slice_get w.terms i)
name_judged w c at (Some (Prog i)) = λ x. x.0

star_judged : (c : Context) (at : ℕ) (r : Result Extent TextFault) (S F : Type 0) (n : ℕ) → Judged r (S × F) n → Judged (r >>= star_extent c at) (((c.negated ≡ false) × S) × F) n
star_judged c at (Ok m) S F n h = by_place c.negated refl where
  by_place : (b : Bool) → c.negated ≡ b → Judged (cond b (Err (Sort at)) (Ok (topped m))) (((c.negated ≡ false) × S) × F) n
  by_place true e = λ x. both_ways c.negated x.0.0 e
  by_place false e = (((e, h.0.0), h.0.1), omega (arith, h.1))
star_judged c at (Err x) S F n h = λ p. h (p.0.1, p.1)

-- ---- phrases

module _ (w : ScopeParts) where
  abbrev Judges : (x : Symbol) → Context → Phrase x → Folded Extent Extent Extent Extent Extent x → Type 0
  Judges term c p v = (k : Extent → Extent) (a : ℕ) → Adds k a → Judged (v k) (IsSound w c p × IsWithinLimits c.depth p) (max a (nesting w p))
  Judges prod c p v = (k : Extent → Extent) (a : ℕ) → Adds k a → Judged (v k) (IsSound w c p × IsWithinLimits c.depth p) (max a (nesting w p))
  Judges star c p v = Judged v (IsSound w c p × IsWithinLimits c.depth p) (nesting w p)
  Judges unit c p v = Judged v (IsSound w c p × IsWithinLimits c.depth p) (nesting w p)
  Judges cond_symbol c p v = (k : Extent → Extent) (a : ℕ) → Adds k a → Judged (v k) (IsSound w c p × IsWithinLimits c.depth p) (max a (nesting w p))
  Judges conj c p v = (k : Extent → Extent) (a : ℕ) → Adds k a → Judged (v k) (IsSound w c p × IsWithinLimits c.depth p) (max a (nesting w p))
  Judges lit c p v = Judged v (IsSound w c p × IsWithinLimits c.depth p) (nesting w p)
  Judges expr c p v = (k : Extent → Extent) (a : ℕ) → Adds k a → Judged (v k) (IsSound w c p × IsWithinLimits c.depth p) (max a (nesting w p))
  Judges mul c p v = (k : Extent → Extent) (a : ℕ) → Adds k a → Judged (v k) (IsSound w c p × IsWithinLimits c.depth p) (max a (nesting w p))
  Judges fac c p v = Judged v (IsSound w c p × IsWithinLimits c.depth p) (nesting w p)

  pub judged : {x : Symbol} (p : Phrase x) (c : Context) → Judges x c p (fold (extents w) c p)
  judged (one_prod p) c = λ k a d. last (fold (extents w) c p (λ m. m)) k a (nesting w p) (IsSound w c p × IsWithinLimits c.depth p) d (first (fold (extents w) c p (λ m. m)) (IsSound w c p × IsWithinLimits c.depth p) (nesting w p) (judged p c (λ m. m) 0 adds_none))
  judged (more_prods p l t) c = λ k a d.
      more (fold (extents w) c p (λ m. m)) (λ x. fold (extents w) c t (linked x)) k a (nesting w p) (nesting w t) (IsSound w c p) (IsWithinLimits c.depth p) (IsSound w c t) (IsWithinLimits c.depth t) d
      (first (fold (extents w) c p (λ m. m)) (IsSound w c p × IsWithinLimits c.depth p) (nesting w p) (judged p c (λ m. m) 0 adds_none))
      (λ x b e. judged t c (linked x) b (adds_linked x b e))
  judged (one_star s) c = λ k a d. last (fold (extents w) c s) k a (nesting w s) (IsSound w c s × IsWithinLimits c.depth s) d (judged s c)
  judged (more_stars s l p) c = λ k a d.
      more (fold (extents w) c s) (λ x. fold (extents w) c p (linked x)) k a (nesting w s) (nesting w p) (IsSound w c s) (IsWithinLimits c.depth s) (IsSound w c p) (IsWithinLimits c.depth p) d
      (judged s c)
      (λ x b e. judged p c (linked x) b (adds_linked x b e))
  judged (bare u) c = judged u c
  judged (starred u l) c = star_judged c l.at (fold (extents w) c u) (IsSound w c u) (IsWithinLimits c.depth u) (nesting w u) (judged u c)
  judged (zero_unit l) c = ((tt, tt), refl)
  judged (one_unit l) c = ((tt, tt), refl)
  judged (name_unit l) c = name_judged w c l.at (meaning w l.text)
  judged (not_unit l u) c =
      entered c (inside_not c) l.at (λ d. fold (extents w) d u >>= λ v. Ok (negated v)) (IsSound w (inside_not c) u) (IsWithinLimits (c.depth + 1) u) (nesting w u + 1)
      (changed (fold (extents w) (inside_not c) u) negated (IsSound w (inside_not c) u × IsWithinLimits (c.depth + 1) u) (nesting w u) (nesting w u + 1) (λ m e. omega arith) (judged u (inside_not c)))
  judged (square_unit l b r) c =
      entered c (inside c) l.at (λ d. fold (extents w) d b (λ m. m) >>= λ v. Ok (tested v)) (IsSound w (inside c) b) (IsWithinLimits (c.depth + 1) b) (nesting w b + 1)
      (changed (fold (extents w) (inside c) b (λ m. m)) tested (IsSound w (inside c) b × IsWithinLimits (c.depth + 1) b) (nesting w b) (nesting w b + 1) (λ m e. omega arith)
      (first (fold (extents w) (inside c) b (λ m. m)) (IsSound w (inside c) b × IsWithinLimits (c.depth + 1) b) (nesting w b) (judged b (inside c) (λ m. m) 0 adds_none)))
  judged (round_unit l t r) c =
      entered c (inside c) l.at (λ d. fold (extents w) d t (λ m. m) >>= λ v. Ok (deeper v)) (IsSound w (inside c) t) (IsWithinLimits (c.depth + 1) t) (nesting w t + 1)
      (changed (fold (extents w) (inside c) t (λ m. m)) deeper (IsSound w (inside c) t × IsWithinLimits (c.depth + 1) t) (nesting w t) (nesting w t + 1) (λ m e. omega arith)
      (first (fold (extents w) (inside c) t (λ m. m)) (IsSound w (inside c) t × IsWithinLimits (c.depth + 1) t) (nesting w t) (judged t (inside c) (λ m. m) 0 adds_none)))
  judged (one_conj b) c = λ k a d. last (fold (extents w) c b (λ m. m)) k a (nesting w b) (IsSound w c b × IsWithinLimits c.depth b) d (first (fold (extents w) c b (λ m. m)) (IsSound w c b × IsWithinLimits c.depth b) (nesting w b) (judged b c (λ m. m) 0 adds_none))
  judged (more_conjs b l t) c = λ k a d.
      more (fold (extents w) c b (λ m. m)) (λ x. fold (extents w) c t (linked x)) k a (nesting w b) (nesting w t) (IsSound w c b) (IsWithinLimits c.depth b) (IsSound w c t) (IsWithinLimits c.depth t) d
      (first (fold (extents w) c b (λ m. m)) (IsSound w c b × IsWithinLimits c.depth b) (nesting w b) (judged b c (λ m. m) 0 adds_none))
      (λ x b e. judged t c (linked x) b (adds_linked x b e))
  judged (one_lit x) c = λ k a d. last (fold (extents w) c x) k a (nesting w x) (IsSound w c x × IsWithinLimits c.depth x) d (judged x c)
  judged (more_lits s l p) c = λ k a d.
      more (fold (extents w) c s) (λ x. fold (extents w) c p (linked x)) k a (nesting w s) (nesting w p) (IsSound w c s) (IsWithinLimits c.depth s) (IsSound w c p) (IsWithinLimits c.depth p) d
      (judged s c)
      (λ x b e. judged p c (linked x) b (adds_linked x b e))
  judged (true_lit l) c = ((tt, tt), refl)
  judged (false_lit l) c = ((tt, tt), refl)
  judged (name_lit l) c = condition_judged l.at (meaning w l.text)
  judged (not_lit l x) c =
      entered c (inside_not c) l.at (λ d. fold (extents w) d x >>= λ v. Ok (deeper (topped v))) (IsSound w (inside_not c) x) (IsWithinLimits (c.depth + 1) x) (nesting w x + 1)
      (changed (fold (extents w) (inside_not c) x) (λ v. deeper (topped v)) (IsSound w (inside_not c) x × IsWithinLimits (c.depth + 1) x) (nesting w x) (nesting w x + 1) (λ m e. omega arith) (judged x (inside_not c)))
  judged (round_lit l b r) c =
      entered c (inside c) l.at (λ d. fold (extents w) d b (λ m. m) >>= λ v. Ok (deeper v)) (IsSound w (inside c) b) (IsWithinLimits (c.depth + 1) b) (nesting w b + 1)
      (changed (fold (extents w) (inside c) b (λ m. m)) deeper (IsSound w (inside c) b × IsWithinLimits (c.depth + 1) b) (nesting w b) (nesting w b + 1) (λ m e. omega arith)
      (first (fold (extents w) (inside c) b (λ m. m)) (IsSound w (inside c) b × IsWithinLimits (c.depth + 1) b) (nesting w b) (judged b (inside c) (λ m. m) 0 adds_none)))
  judged (relation_lit e l r f) c =
      settled (fold (extents w) c e (λ m. m) >>= λ v. fold (extents w) c f (λ m. m) >>= λ u. Ok (compare v u)) ((IsSound w c e × IsWithinLimits c.depth e) × (IsSound w c f × IsWithinLimits c.depth f)) ((IsSound w c e × IsSound w c f) × (IsWithinLimits c.depth e × IsWithinLimits c.depth f)) (max (nesting w e) (nesting w f)) (max (nesting w e) (nesting w f))
      (λ x. ((x.0.0, x.1.0), (x.0.1, x.1.1))) (λ x. ((x.0.0, x.1.0), (x.0.1, x.1.1))) refl
      (then_judged (fold (extents w) c e (λ m. m)) (λ v. fold (extents w) c f (λ m. m) >>= λ u. Ok (compare v u)) (IsSound w c e × IsWithinLimits c.depth e) (IsSound w c f × IsWithinLimits c.depth f) (nesting w e) (max (nesting w e) (nesting w f))
      (first (fold (extents w) c e (λ m. m)) (IsSound w c e × IsWithinLimits c.depth e) (nesting w e) (judged e c (λ m. m) 0 adds_none))
      (λ m same. changed (fold (extents w) c f (λ m. m)) (compare m) (IsSound w c f × IsWithinLimits c.depth f) (nesting w f) (max (nesting w e) (nesting w f)) (λ u given. omega arith)
      (first (fold (extents w) c f (λ m. m)) (IsSound w c f × IsWithinLimits c.depth f) (nesting w f) (judged f c (λ m. m) 0 adds_none))))
  judged (one_mul p) c = λ k a d. last (fold (extents w) c p (λ m. m)) k a (nesting w p) (IsSound w c p × IsWithinLimits c.depth p) d (first (fold (extents w) c p (λ m. m)) (IsSound w c p × IsWithinLimits c.depth p) (nesting w p) (judged p c (λ m. m) 0 adds_none))
  judged (more_muls p l minus t) c = λ k a d.
      more (fold (extents w) c p (λ m. m)) (λ x. fold (extents w) c t (linked x)) k a (nesting w p) (nesting w t) (IsSound w c p) (IsWithinLimits c.depth p) (IsSound w c t) (IsWithinLimits c.depth t) d
      (first (fold (extents w) c p (λ m. m)) (IsSound w c p × IsWithinLimits c.depth p) (nesting w p) (judged p c (λ m. m) 0 adds_none))
      (λ x b e. judged t c (linked x) b (adds_linked x b e))
  judged (one_fac x) c = λ k a d. last (fold (extents w) c x) k a (nesting w x) (IsSound w c x × IsWithinLimits c.depth x) d (judged x c)
  judged (more_facs s l p) c = λ k a d.
      more (fold (extents w) c s) (λ x. fold (extents w) c p (linked x)) k a (nesting w s) (nesting w p) (IsSound w c s) (IsWithinLimits c.depth s) (IsSound w c p) (IsWithinLimits c.depth p) d
      (judged s c)
      (λ x b e. judged p c (linked x) b (adds_linked x b e))
  judged (zero_fac l) c = number_judged c l.at
  judged (one_fac_number l) c = number_judged c l.at
  judged (number_fac l n) c = number_judged c l.at
  judged (wide_fac l) c = λ x. x.1
  judged (name_fac l) c = variable_judged c l.at (meaning w l.text)
  judged (round_fac l e r) c =
      entered c (inside c) l.at (λ d. fold (extents w) d e (λ m. m) >>= λ v. Ok (deeper v)) (IsSound w (inside c) e) (IsWithinLimits (c.depth + 1) e) (nesting w e + 1)
      (changed (fold (extents w) (inside c) e (λ m. m)) deeper (IsSound w (inside c) e × IsWithinLimits (c.depth + 1) e) (nesting w e) (nesting w e + 1) (λ m e. omega arith)
      (first (fold (extents w) (inside c) e (λ m. m)) (IsSound w (inside c) e × IsWithinLimits (c.depth + 1) e) (nesting w e) (judged e (inside c) (λ m. m) 0 adds_none)))
