-- The lengths of sums and products, by which merging ends.
use Rattle.std.proofs.Common.{ℕ, ◌+◌}
use Rattle.flow_forms.specs.Forms.{FlowFormTree, constant, term, one, factor}

-- the number of terms of a sum; a cell counts as a term
abbrev pub term_count : FlowFormTree → ℕ
term_count (constant c) = 0
term_count (term t p rest) = term_count rest + 1
term_count f = 1

-- the number of cells of a product
abbrev pub cell_count : FlowFormTree → ℕ
cell_count one = 0
cell_count (factor c rest) = cell_count rest + 1
cell_count f = 1
