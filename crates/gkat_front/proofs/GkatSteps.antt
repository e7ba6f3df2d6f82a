-- The equation of reading an expression, without the bound on steps.
use Rattle.std.proofs.Common.{◌≡◌, ℕ, zero, suc, ◌+◌, ◌<◌, List, [], ◌∷◌, length, if◌then◌else◌, Ok, refl, ap, arith, drop}
use Rattle.text_parser.specs.declared.terminal.Terminal.TheVariants.{RoundOpen, RoundClose, SquareOpen, SquareClose, Plus, Dot, Zero, One, Name, Separator}
use Rattle.text_parser.specs.declared.terminal.Separator.TheVariants.{Caret}
use Rattle.text_parser.specs.Lexemes.{Lexeme, lexeme, heads, is_terminal}
use Rattle.text_parser.specs.Parsed.{Parsed, ◌>>=◌, change, then_expects, place_of}
use Rattle.text_parser.proofs.Within.{Within, bind_within, if_within, weaken, before_within, enter_within, change_within, then_expects_within, headed, bind_same, if_same, enter_same}
use Rattle.while_lang.specs.Blocks.{enter}
use Rattle.while_lang.proofs.BlockSteps.{expected_within, expected_same}
use Rattle.gkat_front.specs.GkatActions.{GkatActions}
use Rattle.gkat_front.specs.GkatWalks.{GkatAim, whole, factors_after, GkatParser, guard_by, round_by, unit_by, loop_by, factor_by, product_by, choice_by, gkat_by, gkat_within, parse_gkat}

-- ---- reading consumes at least one token, unless the phrase may be empty

abbrev pub bound : {P : Type 0} → GkatAim P → ℕ → ℕ
bound whole n = n
bound (factors_after p) n = n + 1

abbrev pub IsShort : {P V : Type 0} → GkatParser P V → Type 0
IsShort {P} {V} f = (x : GkatAim P) (d : ℕ) (ts : List Lexeme) → Within (bound x (length ts)) (f x d ts)

module _ {C P V : Type 0} (g : GkatActions C P V) where
  pub guard_short : (d : ℕ) (ts : List Lexeme) → Within (length ts) (guard_by g d ts)
  guard_short d ts =
      expected_within (is_terminal SquareOpen) (length ts) ts _
      (λ a lt. enter_within (length ts) (enter d (place_of ts)) _
      (λ e. then_expects_within (is_terminal SquareClose) (length ts) (g.cond e a) (weaken (length a) (length ts) (g.cond e a) (omega arith) (g.shorter e a))))

  pub loop_short : (d : ℕ) (v : V) (ts : List Lexeme) → Within (length ts + 1) (loop_by g d v ts)
  loop_short d v ts =
      if_within (length ts + 1) (heads (is_terminal (Separator Caret)) ts) (change (λ c. g.loop c v) (guard_by g d (drop 1 ts))) (Ok (v, ts))
      (λ h. let lt = headed (is_terminal (Separator Caret)) ts h in
      change_within (length ts + 1) (λ c. g.loop c v) (guard_by g d (drop 1 ts)) (weaken (length (drop 1 ts)) (length ts + 1) (guard_by g d (drop 1 ts)) (omega arith) (guard_short d (drop 1 ts))))
      (λ h. omega arith)

  module _ (f : GkatParser P V) (s : IsShort f) where
    pub round_short : (d : ℕ) (ts : List Lexeme) → Within (length ts) (round_by f d ts)
    round_short d ts =
        expected_within (is_terminal RoundOpen) (length ts) ts _
        (λ a lt. enter_within (length ts) (enter d (place_of ts)) _
        (λ e. then_expects_within (is_terminal RoundClose) (length ts) (f whole e a) (weaken (length a) (length ts) (f whole e a) (omega arith) (s whole e a))))

    pub unit_short : (d : ℕ) (ts : List Lexeme) → Within (length ts) (unit_by g f d ts)
    unit_short d [] = tt
    unit_short d (lexeme Zero at text ∷ ts) = omega arith
    unit_short d (lexeme One at text ∷ ts) = omega arith
    unit_short d (lexeme Name at text ∷ ts) = before_within (length (lexeme Name at text ∷ ts)) ts (g.name at text) (omega arith)
    unit_short d (lexeme SquareOpen at text ∷ ts) =
        let us = lexeme SquareOpen at text ∷ ts in change_within (length us) g.test (guard_by g d us) (guard_short d us)
    unit_short d (lexeme RoundOpen at text ∷ ts) = round_short d (lexeme RoundOpen at text ∷ ts)
    unit_short d (lexeme _ at text ∷ ts) = tt

    pub factor_short : (d : ℕ) (ts : List Lexeme) → Within (length ts) (factor_by g f d ts)
    factor_short d ts =
        bind_within (length ts) (length ts) (unit_by g f d ts) _ (unit_short d ts)
        (λ x lt. weaken (length x.1 + 1) (length ts) (loop_by g d x.0 x.1) (omega arith) (loop_short d x.0 x.1))

    pub product_short : (d : ℕ) (ts : List Lexeme) → Within (length ts) (product_by g f d ts)
    product_short d ts =
        bind_within (length ts) (length ts) (factor_by g f d ts) _ (factor_short d ts)
        (λ x lt. weaken (length x.1 + 1) (length ts) (f (factors_after (g.first x.0)) d x.1) (omega arith) (s (factors_after (g.first x.0)) d x.1))

    pub choice_short : (d : ℕ) (v : V) (ts : List Lexeme) → Within (length ts + 1) (choice_by g f d v ts)
    choice_short d v ts =
        if_within (length ts + 1) (heads (is_terminal Plus) ts) (guard_by g d (drop 1 ts) >>= λ c. change (λ w. g.choice c.0 v w) (product_by g f d c.1)) (Ok (v, ts))
        (λ h. let lt = headed (is_terminal Plus) ts h in
        bind_within (length (drop 1 ts)) (length ts + 1) (guard_by g d (drop 1 ts)) _ (guard_short d (drop 1 ts))
        (λ c less. change_within (length ts + 1) (λ w. g.choice c.0 v w) (product_by g f d c.1) (weaken (length c.1) (length ts + 1) (product_by g f d c.1) (omega arith) (product_short d c.1))))
        (λ h. omega arith)

    gkat_short : IsShort (gkat_by g f)
    gkat_short whole d ts =
        bind_within (length ts) (length ts) (product_by g f d ts) _ (product_short d ts)
        (λ x lt. weaken (length x.1 + 1) (length ts) (choice_by g f d x.0 x.1) (omega arith) (choice_short d x.0 x.1))
    gkat_short (factors_after p) d ts =
        if_within (length ts + 1) (heads (is_terminal Dot) ts) (factor_by g f d (drop 1 ts) >>= λ x. f (factors_after (g.more p x.0)) d x.1) (Ok (g.product p, ts))
        (λ h. let lt = headed (is_terminal Dot) ts h in
        bind_within (length (drop 1 ts)) (length ts + 1) (factor_by g f d (drop 1 ts)) _ (factor_short d (drop 1 ts))
        (λ x less. weaken (length x.1 + 1) (length ts + 1) (f (factors_after (g.more p x.0)) d x.1) (omega arith) (s (factors_after (g.more p x.0)) d x.1)))
        (λ h. omega arith)

  pub within_short : (n : ℕ) → IsShort (gkat_within g n)
  unfolding gkat_within
  within_short zero x d ts = tt
  within_short (suc n) x d ts = gkat_short (gkat_within g n) (within_short n) x d ts

  -- ---- readers that agree on fewer tokens agree

  abbrev Same : GkatParser P V → GkatParser P V → ℕ → Type 0
  Same f h n = (x : GkatAim P) (d : ℕ) (ts : List Lexeme) → length ts < n → f x d ts ≡ h x d ts

  module _ (f h : GkatParser P V) (s : IsShort f) where
    round_same : (d : ℕ) (ts : List Lexeme) → Same f h (length ts) → round_by f d ts ≡ round_by h d ts
    round_same d ts a =
        expected_same (is_terminal RoundOpen) ts _ _ (λ us lt. enter_same (enter d (place_of ts)) _ _ (λ e. ap (then_expects (is_terminal RoundClose)) (a whole e us lt)))

    unit_same : (d : ℕ) (ts : List Lexeme) → Same f h (length ts) → unit_by g f d ts ≡ unit_by g h d ts
    unit_same d [] a = refl
    unit_same d (lexeme RoundOpen at text ∷ ts) a = round_same d (lexeme RoundOpen at text ∷ ts) a
    unit_same d (lexeme _ at text ∷ ts) a = refl

    factor_same : (d : ℕ) (ts : List Lexeme) → Same f h (length ts) → factor_by g f d ts ≡ factor_by g h d ts
    factor_same d ts a = ap (λ (m : Parsed V). m >>= λ x. loop_by g d x.0 x.1) (unit_same d ts a)

    product_same : (d : ℕ) (ts : List Lexeme) → Same f h (length ts) → product_by g f d ts ≡ product_by g h d ts
    product_same d ts a =
        bind_same (length ts) (factor_by g f d ts) (factor_by g h d ts) _ _ (factor_same d ts a) (factor_short f s d ts)
        (λ x lt. a (factors_after (g.first x.0)) d x.1 lt)

    choice_same : (d : ℕ) (v : V) (ts : List Lexeme) → Same f h (length ts) → choice_by g f d v ts ≡ choice_by g h d v ts
    choice_same d v ts a =
        if_same (heads (is_terminal Plus) ts) _ (Ok (v, ts)) _
        (λ e. let lt = headed (is_terminal Plus) ts e in
        bind_same (length (drop 1 ts)) (guard_by g d (drop 1 ts)) (guard_by g d (drop 1 ts)) _ _ refl (guard_short d (drop 1 ts))
        (λ c less. ap (change (λ w. g.choice c.0 v w)) (product_same d c.1 (λ x b us fewer. a x b us (omega arith)))))

    gkat_same : (x : GkatAim P) (d : ℕ) (ts : List Lexeme) → Same f h (length ts) → gkat_by g f x d ts ≡ gkat_by g h x d ts
    gkat_same whole d ts a =
        bind_same (length ts) (product_by g f d ts) (product_by g h d ts) _ _ (product_same d ts a) (product_short f s d ts)
        (λ x lt. choice_same d x.0 x.1 (λ y b us fewer. a y b us (omega arith)))
    gkat_same (factors_after p) d ts a =
        if_same (heads (is_terminal Dot) ts) _ (Ok (g.product p, ts)) _
        (λ e. let lt = headed (is_terminal Dot) ts e in
        bind_same (length (drop 1 ts)) (factor_by g f d (drop 1 ts)) (factor_by g h d (drop 1 ts)) _ _
        (factor_same d (drop 1 ts) (λ y b us fewer. a y b us (omega arith))) (factor_short f s d (drop 1 ts))
        (λ x less. a (factors_after (g.more p x.0)) d x.1 (omega arith)))

  enough : (n m : ℕ) (x : GkatAim P) (d : ℕ) (ts : List Lexeme) → length ts < n → length ts < m → gkat_within g n x d ts ≡ gkat_within g m x d ts
  unfolding gkat_within
  enough zero m x d ts p q = absurd (omega arith)
  enough (suc n) zero x d ts p q = absurd (omega arith)
  enough (suc n) (suc m) x d ts p q = gkat_same (gkat_within g n) (gkat_within g m) (within_short n) x d ts (λ y e us lt. enough n m y e us (omega arith) (omega arith))

pub gkat_step : {C P V : Type 0} (g : GkatActions C P V) (x : GkatAim P) (d : ℕ) (ts : List Lexeme) → parse_gkat g x d ts ≡ gkat_by g (parse_gkat g) x d ts
unfolding parse_gkat gkat_within
gkat_step g x d ts = gkat_same g (gkat_within g (length ts)) (parse_gkat g) (within_short g (length ts)) x d ts (λ y e us lt. enough g (length ts) (suc (length us)) y e us lt (omega arith))

-- the equation at each aim, for searches that shall not unfold the aims inside it
pub whole_step : {C P V : Type 0} (g : GkatActions C P V) (d : ℕ) (ts : List Lexeme) → parse_gkat g whole d ts ≡ (product_by g (parse_gkat g) d ts >>= λ x. choice_by g (parse_gkat g) d x.0 x.1)
whole_step g d ts = gkat_step g whole d ts

pub factors_after_step : {C P V : Type 0} (g : GkatActions C P V) (p : P) (d : ℕ) (ts : List Lexeme) → parse_gkat g (factors_after p) d ts ≡ (if heads (is_terminal Dot) ts then (factor_by g (parse_gkat g) d (drop 1 ts) >>= λ x. parse_gkat g (factors_after (g.more p x.0)) d x.1) else Ok (g.product p, ts))
factors_after_step g p d ts = gkat_step g (factors_after p) d ts

-- reading consumes tokens
pub gkat_read_short : {C P V : Type 0} (g : GkatActions C P V) → IsShort (parse_gkat g)
unfolding parse_gkat
gkat_read_short g x d ts = within_short g (suc (length ts)) x d ts
