-- One step of the merging of two lists of terms.
use Rattle.std.specs.Prelude.{ℕ, ◌+◌, ◌%◌, List, [], ◌∷◌}
use Rattle.std.proofs.Common.{Ordering, Equal}
use Rattle.linear_forms.specs.Forms.{TermTree}
use Rattle.linear_forms.specs.Order.{mono_cmp}
use Rattle.linear_forms.specs.Arithmetic.{put_nonzero}

-- the order of the first monomials of two lists
abbrev pub first_order : List TermTree → List TermTree → Ordering
first_order [] ys = Equal
first_order (x ∷ xs) [] = Equal
first_order (x ∷ xs) (y ∷ ys) = mono_cmp x.0 y.0

-- the first terms of two lists, which have the same monomial, as one term, or no term if its coefficient is 0
abbrev pub first_joined : ℕ → List TermTree → List TermTree → List TermTree
first_joined m [] ys = []
first_joined m (x ∷ xs) [] = []
first_joined m (x ∷ xs) (y ∷ ys) = put_nonzero x.0 ((x.1 + y.1) % m) []
