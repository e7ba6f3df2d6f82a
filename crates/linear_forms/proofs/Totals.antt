-- The value of a form, summed term by term.
use Rattle.std.proofs.Common.{ℕ, zero, suc, ◌≡◌, ◌+◌, ◌*◌, ◌%◌, ◌<◌, List, [], ◌∷◌, get_or, drop, length, refl, ◌∙◌, ap, arith}
use Rattle.std.proofs.lemmas.Nat.{mul-mod_second}
use Rattle.kat_model.specs.Stores.{Store}
use Rattle.linear_forms.specs.Forms.{TermTree, form_of}
use Rattle.linear_forms.specs.Values.{polynomial, mono_polynomial}
use Rattle.linear_forms.proofs.Modulo.{cong_add, cong_cut}
use Rattle.linear_forms.proofs.Polynomials.{terms_polynomial, polynomial-form_of}

pub total_begun : (m : ℕ) (s : Store) (xs : List TermTree) (c : ℕ) → ((c % m) % m ≡ c % m) × ((c % m + terms_polynomial s xs) % m ≡ polynomial s (form_of xs c) % m)
total_begun m s xs c =
    (cong_cut m c, cong_add m _ _ (terms_polynomial s xs) (terms_polynomial s xs) (cong_cut m c) refl ∙ ap (λ n. n % m) (omega (arith, polynomial-form_of s xs c)))

terms_polynomial-drop : (s : Store) (i : ℕ) (xs : List TermTree) (x : TermTree) → i < length xs → x ≡ get_or xs i x →
    terms_polynomial s (drop i xs) ≡ x.1 * mono_polynomial s x.0 + terms_polynomial s (drop (suc i) xs)
terms_polynomial-drop s i [] x p e = absurd (omega (arith, p))
terms_polynomial-drop s zero (y ∷ xs) x p e = rw (e) refl
terms_polynomial-drop s (suc i) (y ∷ xs) x p e = terms_polynomial-drop s i xs x (omega (arith, p)) e

pub total_more : (m : ℕ) (s : Store) (total i : ℕ) (xs : List TermTree) (all : ℕ) (x : TermTree) → i < length xs → x ≡ get_or xs i x →
    (total + terms_polynomial s (drop i xs)) % m ≡ all % m →
    ((total + (x.1 * (mono_polynomial s x.0 % m)) % m) % m + terms_polynomial s (drop (i + 1) xs)) % m ≡ all % m
total_more m s total i xs all x p e h =
    let n : i + 1 ≡ suc i = omega arith in rw (n) (cong_add m _ _ (terms_polynomial s (drop (suc i) xs)) (terms_polynomial s (drop (suc i) xs))
    (cong_cut m (total + (x.1 * (mono_polynomial s x.0 % m)) % m)
    ∙ cong_add m total total ((x.1 * (mono_polynomial s x.0 % m)) % m) (x.1 * mono_polynomial s x.0) refl
    (cong_cut m (x.1 * (mono_polynomial s x.0 % m)) ∙ mul-mod_second x.1 (mono_polynomial s x.0) m)) refl
    ∙ ap (λ n. n % m) (omega (arith, terms_polynomial-drop s i xs x p e)) ∙ h)
