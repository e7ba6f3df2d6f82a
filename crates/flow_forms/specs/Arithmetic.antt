-- Arithmetic on forms modulo m. A cell in the place of a sum or of a product is the sum or product of this cell alone.
use Rattle.std.specs.Prelude.{ℕ, ◌+◌, ◌-◌, ◌*◌, ◌%◌, nat_eq, if◌then◌else◌}
use Rattle.linear_forms.specs.Arithmetic.{by_order}
use Rattle.flow_forms.specs.Forms.{FlowFormTree, constant, term, one, factor}
use Rattle.flow_forms.specs.Order.{form_cmp}

-- a term before a sum, or only the sum if the coefficient is 0
abbrev pub nonzero_term : ℕ → FlowFormTree → FlowFormTree → FlowFormTree
nonzero_term t p rest = if nat_eq t 0 then rest else term t p rest

-- a sum with a number added
abbrev pub plus_constant : ℕ → ℕ → FlowFormTree → FlowFormTree
plus_constant m c (constant d) = constant ((c + d) % m)
plus_constant m c (term t p rest) = term t p (plus_constant m c rest)
plus_constant m c f = term 1 (factor f one) (constant (c % m))

-- a term before a sum, added to another sum; `add_rest` adds the former sum
abbrev pub term_onto : ℕ → ℕ → FlowFormTree → (FlowFormTree → FlowFormTree) → FlowFormTree → FlowFormTree
term_onto m t p add_rest (term u q other) =
    by_order (form_cmp p q)
    (term t p (add_rest (term u q other)))
    (nonzero_term ((t + u) % m) p (add_rest other))
    (term u q (term_onto m t p add_rest other))
term_onto m t p add_rest g = term t p (add_rest g)

-- the sum of two forms: terms in ascending order of their products, without those whose coefficients become 0
abbrev pub form_sum : ℕ → FlowFormTree → FlowFormTree → FlowFormTree
form_sum m (constant c) g = plus_constant m c g
form_sum m (term t p rest) g = term_onto m t p (form_sum m rest) g
form_sum m f g = term_onto m 1 (factor f one) (plus_constant m 0) g

-- a form multiplied by a number
abbrev pub multiple : ℕ → ℕ → FlowFormTree → FlowFormTree
multiple m a (constant c) = constant ((a * c) % m)
multiple m a (term t p rest) = nonzero_term ((a * t) % m) p (multiple m a rest)
multiple m a f = nonzero_term (a % m) (factor f one) (constant 0)

-- -f: m - 1 times f
abbrev pub negative : ℕ → FlowFormTree → FlowFormTree
negative m f = multiple m (m - 1) f

abbrev pub form_difference : ℕ → FlowFormTree → FlowFormTree → FlowFormTree
form_difference m f g = form_sum m f (negative m g)

-- a cell before a product, times another product; `join_rest` multiplies by the former product
abbrev pub cell_onto : FlowFormTree → (FlowFormTree → FlowFormTree) → FlowFormTree → FlowFormTree
cell_onto c join_rest (factor d ds) =
    by_order (form_cmp c d)
    (factor c (join_rest (factor d ds)))
    (factor c (join_rest (factor d ds)))
    (factor d (cell_onto c join_rest ds))
cell_onto c join_rest q = factor c (join_rest q)

-- the product of two products: their cells in ascending order
abbrev pub joined : FlowFormTree → FlowFormTree → FlowFormTree
joined one q = q
joined (factor c cs) q = cell_onto c (joined cs) q
joined f q = cell_onto f (λ p. p) q

-- a term times a sum
abbrev pub term_times : ℕ → ℕ → FlowFormTree → FlowFormTree → FlowFormTree
term_times m t p (constant d) = nonzero_term ((t * d) % m) p (constant 0)
term_times m t p (term u q rest) =
    form_sum m (nonzero_term ((t * u) % m) (joined p q) (constant 0)) (term_times m t p rest)
term_times m t p f = nonzero_term (t % m) (joined p (factor f one)) (constant 0)

-- the product of two forms, multiplied out
abbrev pub form_product : ℕ → FlowFormTree → FlowFormTree → FlowFormTree
form_product m (constant c) g = multiple m c g
form_product m (term t p rest) g = form_sum m (term_times m t p g) (form_product m rest g)
form_product m f g = term_times m 1 (factor f one) g
