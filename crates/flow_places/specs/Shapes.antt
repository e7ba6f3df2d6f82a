-- Sizes of sums and products of terms, without the terms.
use Rattle.std.specs.Prelude.{ℕ, ◌+◌, true, false, List, [], ◌∷◌, if◌then◌else◌}
use Rattle.kat_model.specs.Trees.{Term, term_size}
use Rattle.kat_model.specs.Problems.{counted}
use Rattle.flow_places.specs.Elimination.{is_nought, is_unit}
use Rattle.flow_places.specs.declared.shape.Shape.{Shape}

abbrev pub shape_of : Term → Shape
shape_of e = record { is_zero = is_nought e; is_one = is_unit e; size = counted (term_size e) }

abbrev pub zero_shape : Shape
zero_shape = record { is_zero = true; is_one = false; size = 1 }

abbrev pub shape_joined : Shape → Shape → Shape
shape_joined a b = record { is_zero = false; is_one = false; size = counted (a.size + b.size + 1) }

abbrev pub shape_plus : Shape → Shape → Shape
shape_plus a b = if a.is_zero then b else if b.is_zero then a else shape_joined a b

abbrev pub shape_times : Shape → Shape → Shape
shape_times a b =
    if a.is_zero then zero_shape
    else if b.is_zero then zero_shape
    else if a.is_one then b
    else if b.is_one then a
    else shape_joined a b

abbrev pub shape_repeated : Shape → Shape
shape_repeated a =
    if a.is_zero then record { is_zero = false; is_one = true; size = 1 }
    else record { is_zero = false; is_one = false; size = counted (a.size + 1) }

-- the size of a term with the way to a place, around it and on
abbrev pub way_shape : Term → Shape → Shape → Term → Shape
way_shape own to around onward = shape_plus (shape_of own) (shape_times to (shape_times around (shape_of onward)))

-- the same of each term of a row, together
abbrev pub ways_size : Shape → Shape → List Term → List Term → ℕ
ways_size to around [] onward = 0
ways_size to around (e ∷ es) [] = 0
ways_size to around (e ∷ es) (f ∷ fs) = counted ((way_shape e to around f).size + ways_size to around es fs)
