-- A form with a variable replaced, term by term.
use Rattle.std.proofs.Common.{ℕ, zero, suc, ◌≡◌, ◌<◌, List, [], ◌∷◌, length, drop, get_or, refl, arith}
use Rattle.linear_forms.specs.Forms.{FormTree, var, product, TermTree, form_of, with_term}
use Rattle.linear_forms.specs.Arithmetic.{form_sum, multiple}
use Rattle.linear_forms.specs.Substitution.{replaced, mono_replaced}

pub replaced-with_term : (m j : ℕ) (by : FormTree) (x : TermTree) (rest : FormTree) → replaced m j by (with_term x rest) ≡ form_sum m (multiple m x.1 (mono_replaced m j by x.0)) (replaced m j by rest)
replaced-with_term m j by (var k, t) rest = refl
replaced-with_term m j by (product f g, t) rest = refl

pub replaced-drop : (m j : ℕ) (by : FormTree) (i : ℕ) (xs : List TermTree) (c : ℕ) (x : TermTree) → i < length xs → x ≡ get_or xs i x →
    replaced m j by (form_of (drop i xs) c) ≡ form_sum m (multiple m x.1 (mono_replaced m j by x.0)) (replaced m j by (form_of (drop (suc i) xs) c))
replaced-drop m j by i [] c x p e = absurd (omega (arith, p))
replaced-drop m j by zero (y ∷ xs) c x p e = rw (e) (replaced-with_term m j by y (form_of xs c))
replaced-drop m j by (suc i) (y ∷ xs) c x p e = replaced-drop m j by i xs c x (omega (arith, p)) e
