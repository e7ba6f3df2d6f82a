-- How the coefficients of a form compare with their negatives, term by term.
use Rattle.std.proofs.Common.{ℕ, zero, suc, ◌≡◌, ◌<◌, false, List, [], ◌∷◌, length, drop, get_or, map, refl, arith, Ordering, nat_cmp}
use Rattle.std.specs.Ordering.{ordering_then}
use Rattle.std.specs.Cmp.Lexicographic.{slice_cmp}
use Rattle.linear_forms.specs.Forms.{FormTree, var, product, TermTree, form_of, with_term}
use Rattle.linear_forms.specs.Comparisons.{coefficients, negative_number, is_constant}

abbrev pub sign_cmp : ℕ → FormTree → Ordering
sign_cmp m f = slice_cmp nat_cmp (coefficients f) (map (negative_number m) (coefficients f))

sign_cmp-with_term : (m : ℕ) (x : TermTree) (rest : FormTree) → sign_cmp m (with_term x rest) ≡ ordering_then (nat_cmp x.1 (negative_number m x.1)) (sign_cmp m rest)
sign_cmp-with_term m (var k, t) rest = refl
sign_cmp-with_term m (product f g, t) rest = refl

pub sign_cmp-drop : (m i : ℕ) (xs : List TermTree) (c : ℕ) (x : TermTree) → i < length xs → x ≡ get_or xs i x →
    sign_cmp m (form_of (drop i xs) c) ≡ ordering_then (nat_cmp x.1 (negative_number m x.1)) (sign_cmp m (form_of (drop (suc i) xs) c))
sign_cmp-drop m i [] c x p e = absurd (omega (arith, p))
sign_cmp-drop m zero (y ∷ xs) c x p e = rw (e) (sign_cmp-with_term m y (form_of xs c))
sign_cmp-drop m (suc i) (y ∷ xs) c x p e = sign_cmp-drop m i xs c x (omega (arith, p)) e

-- a form with a term is not constant
pub is_constant-varying : (xs : List TermTree) (c d : ℕ) → 0 < length xs → is_constant (form_of xs c) d ≡ false
is_constant-varying [] c d p = absurd (omega (arith, p))
is_constant-varying ((var k, t) ∷ xs) c d p = refl
is_constant-varying ((product f g, t) ∷ xs) c d p = refl
