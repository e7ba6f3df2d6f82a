-- The answer of a check of neighbours is whether a list ascends.
use Rattle.std.proofs.Common.{◌≡◌, ℕ, zero, suc, ◌+◌, ◌<◌, List, [], ◌∷◌, length, get_or, Bool, true, false, nat_lt, refl, sym, subst, arith}
use Rattle.std.specs.List.{AllAdjacentBelow, IsAllAdjacentAnswer}
use Rattle.std.proofs.lemmas.Bool.{and_from, and_left, and_right}
use Rattle.term_nodes.specs.NumberSets.{are_ascending}

later_pair : (b : Bool) (x y : ℕ) (ks : List ℕ) (k d : ℕ) → b ≡ nat_lt (get_or (x ∷ y ∷ ks) (suc k) d) (get_or (x ∷ y ∷ ks) (suc k + 1) d) → b ≡ nat_lt (get_or (y ∷ ks) k d) (get_or (y ∷ ks) (k + 1) d)
later_pair b x y ks k d e =
    let place : suc k + 1 ≡ suc (k + 1) = omega arith in
    subst (λ j. b ≡ nat_lt (get_or (y ∷ ks) k d) (get_or (x ∷ y ∷ ks) j d)) place e

ascends : (ks : List ℕ) → AllAdjacentBelow (λ x y. true ≡ nat_lt x y) ks (length ks) → true ≡ are_ascending ks
ascends [] each = refl
ascends (x ∷ []) each = refl
ascends (x ∷ y ∷ ks) each =
    sym (and_from (nat_lt x y) (are_ascending (y ∷ ks)) (sym (each 0 0 (omega arith))) (sym (ascends (y ∷ ks) (λ k d h. later_pair true x y ks k d (each (suc k) d (omega arith))))))

falls : (ks : List ℕ) (k : ℕ) → k + 1 < length ks → ((d : ℕ) → false ≡ nat_lt (get_or ks k d) (get_or ks (k + 1) d)) → false ≡ are_ascending ks
falls [] k h pair = absurd (omega arith)
falls (x ∷ []) k h pair = absurd (omega arith)
falls (x ∷ y ∷ ks) zero h pair = sym (and_left (nat_lt x y) (are_ascending (y ∷ ks)) (sym (pair 0)))
falls (x ∷ y ∷ ks) (suc k) h pair = sym (and_right (nat_lt x y) (are_ascending (y ∷ ks)) (sym (falls (y ∷ ks) k (omega arith) (λ d. later_pair false x y ks k d (pair d)))))

pub ascending_answer : (ks : List ℕ) (b : Bool) → IsAllAdjacentAnswer (λ x y c. c ≡ nat_lt x y) ks b → b ≡ are_ascending ks
ascending_answer ks true each = ascends ks each
ascending_answer ks false pair = falls ks pair.0 pair.1 pair.2
