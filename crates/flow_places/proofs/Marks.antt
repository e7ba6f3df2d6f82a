-- Marks of variables in lists of truth values.
use Rattle.std.proofs.Common.{◌≡◌, ◌⊎◌, inl, inr, ℕ, zero, suc, ◌<◌, Bool, true, false, not, ◌&&◌, ◌||◌, nat_eq, List, [], ◌∷◌, length, set, slice_index_or, refl, sym, ◌∙◌, ap, subst}
use Rattle.std.proofs.lemmas.List.{get_or-set_same, get_or-set_other}
use Rattle.std.proofs.lemmas.Bool.{false≢true, cases_eq, eq-eqb, ne_eqb}
use Rattle.flow_ways.specs.Liveness.{is_target}
use Rattle.flow_places.specs.Tables.{same_mark}

or_true : (b : Bool) → (b || true) ≡ true
or_true true = refl
or_true false = refl

or_assoc : (a b c : Bool) → (b || (a || c)) ≡ ((a || b) || c)
or_assoc true b c = or_true b
or_assoc false b c = refl

-- one variable is marked
pub marked : (row : List Bool) (k x : ℕ) → x < length row → slice_index_or (set row k true) x false ≡ (nat_eq k x || slice_index_or row x false)
marked row k x h = by_cases (cases_eq x k)
  where
    by_cases : (x ≡ k) ⊎ (x ≡ k → ⊥) → slice_index_or (set row k true) x false ≡ (nat_eq k x || slice_index_or row x false)
    by_cases (inl e) =
        subst (λ j. slice_index_or (set row j true) x false ≡ (nat_eq j x || slice_index_or row x false)) e
        (get_or-set_same row x true false h ∙ sym (ap (λ b. b || slice_index_or row x false) (eq-eqb x x refl)))
    by_cases (inr ne) =
        get_or-set_other row k x true false ne ∙ sym (ap (λ b. b || slice_index_or row x false) (ne_eqb k x (λ e. ne (sym e))))

-- what is marked in two steps
pub marked_twice : (a b : Bool) (old mid new : Bool) → mid ≡ (a || old) → new ≡ (b || mid) → new ≡ ((a || b) || old)
marked_twice a b old mid new e f = f ∙ ap (λ m. b || m) e ∙ or_assoc a b old

pub none_read : (row : List Bool) (x : ℕ) → slice_index_or row x false ≡ (false || slice_index_or row x false)
none_read row x = refl

set_false : (row : List Bool) (k : ℕ) → slice_index_or (set row k false) k false ≡ false
set_false [] k = refl
set_false (b ∷ row) zero = refl
set_false (b ∷ row) (suc k) = set_false row k

one_unmarked : (row : List Bool) (k x : ℕ) → slice_index_or (set row k false) x false ≡ (not (nat_eq k x) && slice_index_or row x false)
one_unmarked row k x = by_cases (cases_eq x k)
  where
    by_cases : (x ≡ k) ⊎ (x ≡ k → ⊥) → slice_index_or (set row k false) x false ≡ (not (nat_eq k x) && slice_index_or row x false)
    by_cases (inl e) =
        subst (λ j. slice_index_or (set row j false) x false ≡ (not (nat_eq j x) && slice_index_or row x false)) e
        (set_false row x ∙ sym (ap (λ b. not b && slice_index_or row x false) (eq-eqb x x refl)))
    by_cases (inr ne) =
        get_or-set_other row k x false false ne ∙ sym (ap (λ b. not b && slice_index_or row x false) (ne_eqb k x (λ e. ne (sym e))))

not_both : (a b c : Bool) → (not b && (not a && c)) ≡ (not (a || b) && c)
not_both true true c = refl
not_both true false c = refl
not_both false true c = refl
not_both false false c = refl

pub unmarked : (row : List Bool) (k x : ℕ) (ks : List ℕ) (new : Bool) → new ≡ (not (is_target x ks) && slice_index_or (set row k false) x false) → new ≡ (not (is_target x (k ∷ ks)) && slice_index_or row x false)
unmarked row k x ks new e =
    e ∙ ap (λ b. not (is_target x ks) && b) (one_unmarked row k x) ∙ not_both (nat_eq k x) (is_target x ks) (slice_index_or row x false)

pub same_marks : (a b r : Bool) → r ≡ same_mark a b → r ≡ true → a ≡ b
same_marks true b r e t = sym t ∙ e
same_marks false true r e t = absurd (false≢true (sym e ∙ t))
same_marks false false r e t = refl
