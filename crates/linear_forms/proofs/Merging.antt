-- Steps of merging and of multiplying lists of terms.
use Rattle.std.proofs.Common.{ℕ, ◌≡◌, List, [], ◌∷◌, ◌++◌, length, refl, sym, ◌∙◌, arith, append-nil, reverse, ◌⊎◌, inl, inr, nat_eq, Bool, true, false, if◌then◌else◌}
use Rattle.linear_forms.specs.Forms.{MonoTree, TermTree}
use Rattle.linear_forms.specs.Arithmetic.{put_nonzero, merge, scale}

pub merge-none : (m : ℕ) (xs : List TermTree) → merge m xs [] ≡ xs
merge-none m [] = refl
merge-none m (x ∷ xs) = refl

pub put_nonzero-append : (p : MonoTree) (t : ℕ) (xs : List TermTree) → put_nonzero p t [] ++ xs ≡ put_nonzero p t xs
put_nonzero-append p t xs = by_truth (nat_eq t 0)
  where
    by_truth : (b : Bool) → (if b then [] else (p, t) ∷ []) ++ xs ≡ (if b then xs else (p, t) ∷ xs)
    by_truth true = refl
    by_truth false = refl

-- at the end of one list, the merging is the rest of both
pub merge_at_end : (m : ℕ) (xs ys : List TermTree) → (xs ≡ []) ⊎ (ys ≡ []) → xs ++ ys ≡ merge m xs ys
merge_at_end m xs ys (inl e) = rw (e) refl
merge_at_end m [] ys (inr e) = refl
merge_at_end m (x ∷ xs) ys (inr e) = rw (e, append-nil (x ∷ xs)) refl

pub none_reversed : (xs : List TermTree) → length xs ≡ 0 → reverse xs ≡ []
none_reversed [] e = refl
none_reversed (x ∷ xs) e = absurd (omega (arith, e))

-- if no term remains to be multiplied, the list is complete
pub scale_at_end : (m a : ℕ) (to rest all : List TermTree) → to ++ scale m a rest ≡ all → length rest ≡ 0 → to ≡ all
scale_at_end m a to [] all h e = sym (append-nil to) ∙ h
scale_at_end m a to (x ∷ rest) all h e = absurd (omega (arith, e))
