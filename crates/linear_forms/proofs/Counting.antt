-- The number of nodes of a form, counted term by term.
use Rattle.std.proofs.Common.{ℕ, ◌≡◌, ◌+◌, ◌-◌, ◌^◌, ◌<◌, min, List, [], ◌∷◌, drop, arith}
use Rattle.linear_forms.specs.Forms.{TermTree, var, product, form_of, form_nodes, mono_nodes}

-- the nodes of the monomials of a list of terms
abbrev pub terms_nodes : List TermTree → ℕ
terms_nodes [] = 0
terms_nodes (x ∷ xs) = mono_nodes x.0 + terms_nodes xs

pub form_nodes-form_of : (xs : List TermTree) (c : ℕ) → form_nodes (form_of xs c) ≡ 1 + terms_nodes xs
form_nodes-form_of [] c = omega arith
form_nodes-form_of ((var k, t) ∷ xs) c = omega (arith, form_nodes-form_of xs c)
form_nodes-form_of ((product f g, t) ∷ xs) c = omega (arith, form_nodes-form_of xs c)

-- a count at the end of the list is complete
pub counted_all : (total n all : ℕ) (xs : List TermTree) → min (total + terms_nodes (drop n xs)) (2 ^ 64 - 1) ≡ min all (2 ^ 64 - 1) → drop n xs ≡ [] → total < 2 ^ 64 → total ≡ min all (2 ^ 64 - 1)
counted_all total n all xs whole none fits = grind (arith, none, whole)
