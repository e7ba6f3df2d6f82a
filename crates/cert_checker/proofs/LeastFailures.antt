-- The least failure among the atoms that extend the decided tests, by cases on an additional test.
use Rattle.std.proofs.Common.{◌≡◌, ℕ, zero, suc, ◌<◌, ◌⊎◌, inl, inr, ⊎_elim, List, [], ◌∷◌, length, set as slice_set, refl, sym, ap, ◌∙◌, subst, arith, Bool, true, false, Option, Some, None, Bor, IfSome, MatchBool}
use Rattle.std.proofs.lemmas.List.{set-set}
use Rattle.std.specs.Option.{option_or, option_map, option_copied}
use Rattle.std.specs.Ordering.{bool_cmp, is_le, is_some_and}
use Rattle.std.specs.Cmp.Lexicographic.{slice_partial_cmp}
use Rattle.kat_model.specs.Steps.{Atom}
use Rattle.cert_checker.specs.AtomOrder.{IsLess}
use Rattle.cert_checker.specs.Cases.{Extends, IsOpen}
use Rattle.cert_checker.specs.LeastFailures.{open_count, least_of, IsBelow, IsFirstFailure}

-- ---- the order of atoms

less_or_not : (xs ys : Atom) → IsLess xs ys ⊎ (IsLess xs ys → ⊥)
less_or_not [] ys = inr (λ h. h)
less_or_not (x ∷ xs) [] = inr (λ h. h)
less_or_not (false ∷ xs) (true ∷ ys) = inl tt
less_or_not (true ∷ xs) (false ∷ ys) = inr (λ h. h)
less_or_not (false ∷ xs) (false ∷ ys) = less_or_not xs ys
less_or_not (true ∷ xs) (true ∷ ys) = less_or_not xs ys

-- whether the first is at most the second, in the derived order
abbrev pub at_most : Atom → Atom → Bool
at_most xs ys = is_some_and is_le (slice_partial_cmp (λ x y. Some (bool_cmp x y)) xs ys)

at_most_not_less : (xs ys : Atom) → at_most xs ys ≡ true → IsLess ys xs → ⊥
at_most_not_less [] [] e h = h
at_most_not_less [] (y ∷ ys) e h = h
at_most_not_less (x ∷ xs) [] e h = h
at_most_not_less (false ∷ xs) (false ∷ ys) e h = at_most_not_less xs ys e h
at_most_not_less (false ∷ xs) (true ∷ ys) e h = h
at_most_not_less (true ∷ xs) (false ∷ ys) e h = absurd cc
at_most_not_less (true ∷ xs) (true ∷ ys) e h = at_most_not_less xs ys e h

above_less : (xs ys : Atom) → length xs ≡ length ys → at_most xs ys ≡ false → IsLess ys xs
above_less [] [] l e = absurd cc
above_less [] (y ∷ ys) l e = absurd cc
above_less (x ∷ xs) [] l e = absurd (omega (arith, l))
above_less (false ∷ xs) (false ∷ ys) l e = above_less xs ys (omega (arith, l)) e
above_less (false ∷ xs) (true ∷ ys) l e = absurd cc
above_less (true ∷ xs) (false ∷ ys) l e = tt
above_less (true ∷ xs) (true ∷ ys) l e = above_less xs ys (omega (arith, l)) e

-- whether a bound of the same length is at most the values
pub past_by : (bound least : Atom) (r : Bool) → length bound ≡ length least → r ≡ at_most bound least → MatchBool r (IsLess least bound → ⊥) (IsLess least bound)
past_by bound least true long e = at_most_not_less bound least (sym e)
past_by bound least false long e = above_less bound least long (sym e)

pub less_trans : (xs ys zs : Atom) → IsLess xs ys → IsLess ys zs → IsLess xs zs
less_trans [] ys zs h k = absurd h
less_trans (x ∷ xs) [] zs h k = absurd h
less_trans (x ∷ xs) (y ∷ ys) [] h k = absurd k
less_trans (false ∷ xs) (false ∷ ys) (false ∷ zs) h k = less_trans xs ys zs h k
less_trans (false ∷ xs) (false ∷ ys) (true ∷ zs) h k = tt
less_trans (false ∷ xs) (true ∷ ys) (false ∷ zs) h k = absurd k
less_trans (false ∷ xs) (true ∷ ys) (true ∷ zs) h k = tt
less_trans (true ∷ xs) (false ∷ ys) (z ∷ zs) h k = absurd h
less_trans (true ∷ xs) (true ∷ ys) (false ∷ zs) h k = absurd k
less_trans (true ∷ xs) (true ∷ ys) (true ∷ zs) h k = less_trans xs ys zs h k

-- two atoms of the same length are equal, or one is less than the other
pub less_total : (xs ys : Atom) → length xs ≡ length ys → IsLess xs ys ⊎ ((xs ≡ ys) ⊎ IsLess ys xs)
less_total [] [] l = inr (inl refl)
less_total [] (y ∷ ys) l = absurd (omega (arith, l))
less_total (x ∷ xs) [] l = absurd (omega (arith, l))
less_total (false ∷ xs) (true ∷ ys) l = inl tt
less_total (true ∷ xs) (false ∷ ys) l = inr (inr tt)
less_total (false ∷ xs) (false ∷ ys) l =
    ⊎_elim inl (λ r. inr (⊎_elim (λ e. inl (ap (λ zs. false ∷ zs) e)) inr r)) (less_total xs ys (omega (arith, l)))
less_total (true ∷ xs) (true ∷ ys) l =
    ⊎_elim inl (λ r. inr (⊎_elim (λ e. inl (ap (λ zs. true ∷ zs) e)) inr r)) (less_total xs ys (omega (arith, l)))

-- ---- atoms with decided tests

pub extends_length : (ds : List (Option Bool)) (atom : Atom) → Extends ds atom → length atom ≡ length ds
extends_length [] [] h = refl
extends_length [] (b ∷ bs) h = absurd h
extends_length (d ∷ ds) [] h = absurd h
extends_length (None ∷ ds) (b ∷ bs) h = ap suc (extends_length ds bs h)
extends_length (Some c ∷ ds) (b ∷ bs) h = ap suc (extends_length ds bs h.1)

-- each atom that extends the decisions with an additional test extends the original decisions
extends_before : (ds : List (Option Bool)) (k : ℕ) (b : Bool) (atom : Atom) → IsOpen ds k → Extends (slice_set ds k (Some b)) atom → Extends ds atom
extends_before [] k b atom undecided h = absurd cc
extends_before (d ∷ ds) k b [] undecided h = absurd (none d ds k b h)
  where
    none : (d : Option Bool) (ds : List (Option Bool)) (k : ℕ) (b : Bool) → Extends (slice_set (d ∷ ds) k (Some b)) [] → ⊥
    none d ds zero b h = h
    none d ds (suc k) b h = h
extends_before (None ∷ ds) zero b (c ∷ atom) undecided h = h.1
extends_before (Some a ∷ ds) zero b (c ∷ atom) undecided h = absurd cc
extends_before (None ∷ ds) (suc k) b (c ∷ atom) undecided h = extends_before ds k b atom undecided h
extends_before (Some a ∷ ds) (suc k) b (c ∷ atom) undecided h = (h.0, extends_before ds k b atom undecided h.1)

-- and each atom that extends the original decisions has the additional test false or true
extends_cases : (ds : List (Option Bool)) (k : ℕ) (atom : Atom) → IsOpen ds k → Extends ds atom → Extends (slice_set ds k (Some false)) atom ⊎ Extends (slice_set ds k (Some true)) atom
extends_cases [] k atom undecided h = absurd cc
extends_cases (d ∷ ds) k [] undecided h = absurd h
extends_cases (None ∷ ds) zero (false ∷ atom) undecided h = inl (refl, h)
extends_cases (None ∷ ds) zero (true ∷ atom) undecided h = inr (refl, h)
extends_cases (Some a ∷ ds) zero (c ∷ atom) undecided h = absurd cc
extends_cases (None ∷ ds) (suc k) (c ∷ atom) undecided h = extends_cases ds k atom undecided h
extends_cases (Some a ∷ ds) (suc k) (c ∷ atom) undecided h = ⊎_elim (λ l. inl (h.0, l)) (λ r. inr (h.0, r)) (extends_cases ds k atom undecided h.1)

-- ---- if all atoms fail

pub least_extends : (ds : List (Option Bool)) → Extends ds (least_of ds)
least_extends [] = tt
least_extends (None ∷ ds) = least_extends ds
least_extends (Some b ∷ ds) = (refl, least_extends ds)

least_is_least : (ds : List (Option Bool)) (atom : Atom) → Extends ds atom → IsLess atom (least_of ds) → ⊥
least_is_least [] [] h l = l
least_is_least [] (b ∷ bs) h l = h
least_is_least (d ∷ ds) [] h l = h
least_is_least (None ∷ ds) (false ∷ bs) h l = least_is_least ds bs h l
least_is_least (None ∷ ds) (true ∷ bs) h l = l
least_is_least (Some false ∷ ds) (false ∷ bs) h l = least_is_least ds bs h.1 l
least_is_least (Some false ∷ ds) (true ∷ bs) h l = l
least_is_least (Some true ∷ ds) (false ∷ bs) h l = let e : true ≡ false = h.0 in absurd cc
least_is_least (Some true ∷ ds) (true ∷ bs) h l = least_is_least ds bs h.1 l

module _ (P : Atom → Type 0) where
  -- the property holds if the atom is below the bound
  abbrev pub Below : Option Atom → Atom → Type 0
  Below bound x = IsBelow bound x → P x

  pub all_fail : (ds : List (Option Bool)) (bound : Option Atom) → IsBelow bound (least_of ds) → ((atom : Atom) → Extends ds atom → P atom → ⊥) → IsFirstFailure (Below bound) ds (Some (least_of ds))
  all_fail ds bound below fail = record {
    within = least_extends ds;
    fails = λ h. fail (least_of ds) (least_extends ds) (h below);
    least = λ other h l. absurd (least_is_least ds other h l);
  }

  -- if the least atom that extends the decisions is not below the bound, no such atom is
  pub none_below : (ds : List (Option Bool)) (bound : Option Atom) → (IsBelow bound (least_of ds) → ⊥) → IsFirstFailure (Below bound) ds None
  none_below ds None never atom h low = absurd (never tt)
  none_below ds (Some bound) never atom h low =
      absurd (⊎_elim
      (λ l. least_is_least ds atom h l)
      (λ r. ⊎_elim (λ same. never (subst (λ z. IsLess z bound) same low)) (λ l. never (less_trans (least_of ds) atom bound l low)) r)
      (less_total atom (least_of ds) (extends_length ds atom h ∙ sym (extends_length ds (least_of ds) (least_extends ds)))))

  -- a failure is below the bound
  failure_below : (ds : List (Option Bool)) (bound : Option Atom) (x : Atom) → IsFirstFailure (Below bound) ds (Some x) → IsBelow bound x
  failure_below ds None x f = tt
  failure_below ds (Some v) x f = ⊎_elim (λ l. l) (λ n. absurd (f.fails (λ l. absurd (n l)))) (less_or_not x v)

  below_trans : (bound : Option Atom) (y x : Atom) → IsLess y x → IsBelow bound x → IsBelow bound y
  below_trans None y x l h = tt
  below_trans (Some v) y x l h = less_trans y x v l h

  -- ---- by cases on an additional test; the second case searches below the result of the first

  lesser_first : (ds : List (Option Bool)) (k : ℕ) (bound o p : Option Atom) → IsOpen ds k → IsFirstFailure (Below bound) (slice_set ds k (Some false)) o → IsFirstFailure (Below (option_or o bound)) (slice_set ds k (Some true)) p → IsFirstFailure (Below bound) ds (option_or p o)
  lesser_first ds k bound None None undecided low high = λ atom h. ⊎_elim (low atom) (high atom) (extends_cases ds k atom undecided h)
  lesser_first ds k bound None (Some y) undecided low high = record {
    within = extends_before ds k true y undecided high.within;
    fails = high.fails;
    least = λ other h l. ⊎_elim (low other) (λ r. high.least other r l) (extends_cases ds k other undecided h);
  }
  lesser_first ds k bound (Some x) None undecided low high = record {
    within = extends_before ds k false x undecided low.within;
    fails = low.fails;
    least = λ other h l. ⊎_elim (λ r. low.least other r l) (λ r below. high other r l) (extends_cases ds k other undecided h);
  }
  lesser_first ds k bound (Some x) (Some y) undecided low high = record {
    within = extends_before ds k true y undecided high.within;
    fails = λ h. high.fails (λ l. h (below_trans bound y x l (failure_below (slice_set ds k (Some false)) bound x low)));
    least = λ other h l. ⊎_elim (λ r. low.least other r (less_trans other y x l lower)) (λ r below. high.least other r l (less_trans other y x l lower)) (extends_cases ds k other undecided h);
  }
    where
      lower : IsLess y x
      lower = failure_below (slice_set ds k (Some true)) (Some x) y high

  -- without a bound
  pub unbounded : (ds : List (Option Bool)) (o : Option Atom) → IsFirstFailure (Below None) ds o → IsFirstFailure P ds o
  unbounded ds None f = λ atom h. f atom h tt
  unbounded ds (Some x) f = record { within = f.within; fails = λ p. f.fails (λ l. p); least = λ other h l. f.least other h l tt }

-- ---- an additional test is decided, and then open again

pub decided_fewer : (ds : List (Option Bool)) (k : ℕ) (b : Bool) → IsOpen ds k → open_count (slice_set ds k (Some b)) < open_count ds
decided_fewer [] k b undecided = absurd cc
decided_fewer (None ∷ ds) zero b undecided = omega arith
decided_fewer (Some a ∷ ds) zero b undecided = absurd cc
decided_fewer (None ∷ ds) (suc k) b undecided = omega (arith, decided_fewer ds k b undecided)
decided_fewer (Some a ∷ ds) (suc k) b undecided = decided_fewer ds k b undecided

open_again : (ds : List (Option Bool)) (k : ℕ) → IsOpen ds k → slice_set ds k None ≡ ds
open_again [] k undecided = refl
open_again (None ∷ ds) zero undecided = refl
open_again (Some a ∷ ds) zero undecided = absurd cc
open_again (d ∷ ds) (suc k) undecided = ap (λ l. d ∷ l) (open_again ds k undecided)

pub restored : (ds low high : List (Option Bool)) (k : ℕ) → IsOpen ds k → low ≡ slice_set ds k (Some false) → high ≡ slice_set low k (Some true) → slice_set high k None ≡ ds
restored ds low high k undecided e f =
    ap (λ l. slice_set l k None) (f ∙ ap (λ l. slice_set l k (Some true)) e ∙ set-set ds k (Some false) (Some true)) ∙ set-set ds k (Some true) None ∙ open_again ds k undecided

-- ---- the result of both halves of a search

options_or : {X Y : Type 0} (f : X → Y) (o p : Option X) → option_map f (option_or o p) ≡ option_or (option_map f o) (option_map f p)
options_or f None p = refl
options_or f (Some x) p = refl

pub searched : (P : Atom → Type 0) {V : Type 0} (items : V → Atom) (ds : List (Option Bool)) (k : ℕ) (bound : Option Atom) (low high : Option V) → IsOpen ds k → IsFirstFailure (Below P bound) (slice_set ds k (Some false)) (option_map items low)
    → IsFirstFailure (Below P (option_or (option_map items low) bound)) (slice_set ds k (Some true)) (option_map items high) → IsFirstFailure (Below P bound) ds (option_map items (option_or high low))
searched P items ds k bound low high undecided first second =
    subst (IsFirstFailure (Below P bound) ds) (sym (options_or items high low)) (lesser_first P ds k bound (option_map items low) (option_map items high) undecided first second)

pub second_half : (P : Atom → Type 0) {V : Type 0} (items : V → Atom) (ds first : List (Option Bool)) (k : ℕ) (bound own : Option Atom) (low high : Option V) → first ≡ slice_set ds k (Some false) → own ≡ option_or (option_map items low) bound
    → IsFirstFailure (Below P own) (slice_set first k (Some true)) (option_map items high) → IsFirstFailure (Below P (option_or (option_map items low) bound)) (slice_set ds k (Some true)) (option_map items high)
second_half P items ds first k bound own low high e f given =
    subst (λ l. IsFirstFailure (Below P (option_or (option_map items low) bound)) l (option_map items high)) (ap (λ l. slice_set l k (Some true)) e ∙ set-set ds k (Some false) (Some true))
    (subst (λ b. IsFirstFailure (Below P b) (slice_set first k (Some true)) (option_map items high)) f given)

-- ---- the bound of the second half: the result of the first, or the old bound

pub or_bound : {V : Type 0} (items : V → Atom) (r : Option (Bor V)) (low : Option V) (bound : Option (Bor V)) → option_copied r ≡ low → option_map (λ (b : Bor V). items b.now) (option_or r bound) ≡ option_or (option_map items low) (option_map (λ (b : Bor V). items b.now) bound)
or_bound {V} items None low bound e = ap (λ o. option_or (option_map items o) (option_map (λ (b : Bor V). items b.now) bound)) e
or_bound {V} items (Some x) low bound e = ap (λ o. option_or (option_map items o) (option_map (λ (b : Bor V). items b.now) bound)) e

-- a failure has one value for each test
pub failure_long : (P : Atom → Type 0) {V : Type 0} (items : V → Atom) (ds : List (Option Bool)) (o : Option V) → IsFirstFailure P ds (option_map items o) → IfSome o (λ v. length (items v) ≡ length ds)
failure_long P items ds None f = tt
failure_long P items ds (Some v) f = extends_length ds (items v) f.within

pub or_long : {V : Type 0} (items : V → Atom) (n : ℕ) (r : Option (Bor V)) (low : Option V) (bound : Option (Bor V)) → option_copied r ≡ low → IfSome low (λ v. length (items v) ≡ n) → IfSome bound (λ b. length (items b.now) ≡ n) → IfSome (option_or r bound) (λ b. length (items b.now) ≡ n)
or_long items n None low bound e found old = old
or_long items n (Some x) low bound e found old = subst (λ o. IfSome o (λ v. length (items v) ≡ n)) (sym e) found
