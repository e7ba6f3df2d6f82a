-- The order of forms, computed from their lists.
use Rattle.std.proofs.Common.{ℕ, zero, suc, ◌≡◌, ◌<◌, ◌≤◌, List, [], ◌∷◌, length, drop, min, refl, ◌∙◌, arith, get_or, true, not, Ordering, Less, Equal, Greater, nat_cmp}
use Rattle.std.proofs.lemmas.Bool.Decides.{nat_tests}
use Rattle.std.specs.Ordering.{ordering_then, ordering_index}
use Rattle.std.specs.Bool.{◌==◌}
use Rattle.linear_forms.specs.Forms.{TermTree, var, product, form_of}
use Rattle.linear_forms.specs.Order.{form_cmp, mono_cmp}

-- the order of forms, by their lists of terms and their constants
abbrev pub terms_cmp : List TermTree → ℕ → List TermTree → ℕ → Ordering
terms_cmp [] c [] d = nat_cmp c d
terms_cmp [] c (y ∷ ys) d = Less
terms_cmp (x ∷ xs) c [] d = Greater
terms_cmp (x ∷ xs) c (y ∷ ys) d = ordering_then (mono_cmp x.0 y.0) (ordering_then (nat_cmp x.1 y.1) (terms_cmp xs c ys d))

pub form_cmp-form_of : (xs : List TermTree) (c : ℕ) (ys : List TermTree) (d : ℕ) → form_cmp (form_of xs c) (form_of ys d) ≡ terms_cmp xs c ys d
form_cmp-form_of [] c [] d = refl
form_cmp-form_of [] c ((var k, u) ∷ ys) d = refl
form_cmp-form_of [] c ((product f g, u) ∷ ys) d = refl
form_cmp-form_of ((var j, t) ∷ xs) c [] d = refl
form_cmp-form_of ((product f g, t) ∷ xs) c [] d = refl
form_cmp-form_of ((var j, t) ∷ xs) c ((var k, u) ∷ ys) d = rw (form_cmp-form_of xs c ys d) refl
form_cmp-form_of ((var j, t) ∷ xs) c ((product f g, u) ∷ ys) d = refl
form_cmp-form_of ((product e b, t) ∷ xs) c ((var k, u) ∷ ys) d = refl
form_cmp-form_of ((product e b, t) ∷ xs) c ((product f g, u) ∷ ys) d = rw (form_cmp-form_of xs c ys d) refl

-- at the end of one list, the lengths and the constants decide
pub at_end : (i : ℕ) (xs : List TermTree) (c : ℕ) (ys : List TermTree) (d : ℕ) → i ≤ length xs → i ≤ length ys → min (length xs) (length ys) ≤ i →
    terms_cmp (drop i xs) c (drop i ys) d ≡ ordering_then (nat_cmp (length xs) (length ys)) (nat_cmp c d)
at_end zero [] c [] d p q r = refl
at_end zero [] c (y ∷ ys) d p q r = let e : nat_cmp 0 (suc (length ys)) ≡ Less = grind (arith, nat_tests) in rw (e) refl
at_end zero (x ∷ xs) c [] d p q r = let e : nat_cmp (suc (length xs)) 0 ≡ Greater = grind (arith, nat_tests) in rw (e) refl
at_end zero (x ∷ xs) c (y ∷ ys) d p q r = absurd (omega (arith, r))
at_end (suc i) [] c ys d p q r = absurd (omega (arith, p))
at_end (suc i) (x ∷ xs) c [] d p q r = absurd (omega (arith, q))
at_end (suc i) (x ∷ xs) c (y ∷ ys) d p q r =
    at_end i xs c ys d (omega (arith, p)) (omega (arith, q)) (omega (arith, r)) ∙ rw (same_order) refl
  where
    same_order : nat_cmp (suc (length xs)) (suc (length ys)) ≡ nat_cmp (length xs) (length ys)
    same_order = grind (arith, nat_tests)

-- if both lists continue, their next terms decide first
pub next_terms : (i : ℕ) (xs : List TermTree) (c : ℕ) (ys : List TermTree) (d : ℕ) (x y : TermTree) → i < length xs → i < length ys → x ≡ get_or xs i x → y ≡ get_or ys i y →
    terms_cmp (drop i xs) c (drop i ys) d ≡ ordering_then (mono_cmp x.0 y.0) (ordering_then (nat_cmp x.1 y.1) (terms_cmp (drop (suc i) xs) c (drop (suc i) ys) d))
next_terms i [] c ys d x y p q e f = absurd (omega (arith, p))
next_terms i (z ∷ xs) c [] d x y p q e f = absurd (omega (arith, q))
next_terms zero (z ∷ xs) c (w ∷ ys) d x y p q e f = rw (e, f) refl
next_terms (suc i) (z ∷ xs) c (w ∷ ys) d x y p q e f = next_terms i xs c ys d x y (omega (arith, p)) (omega (arith, q)) e f

pub differs : (p n r : Ordering) → true ≡ not (ordering_index (ordering_then p n) == 1) → ordering_then p n ≡ ordering_then p (ordering_then n r)
differs Less n r h = refl
differs Equal Less r h = refl
differs Equal Equal r h = absurd cc
differs Equal Greater r h = refl
differs Greater n r h = refl
