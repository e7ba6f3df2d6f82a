-- Ways that are split by tests of a cell for a number.
use Rattle.std.specs.Prelude.{ℕ, suc, ◌-◌, ◌%◌, ◌++◌, Bool, true, false, ◌&&◌, ◌||◌, nat_eq, nat_lt, List, [], ◌∷◌, length, map, flat_map, slice_get, Option, Some, None, if◌then◌else◌}
use Rattle.std.specs.List.{list_any, list_all}
use Rattle.std.specs.Ordering.{is_eq}
use Rattle.kat_model.specs.Stores.{modulus}
use Rattle.kat_model.specs.declared.expression.Width.{Width}
use Rattle.flow_model.specs.declared.sort.Sort.{Sort}
use Rattle.flow_model.specs.declared.sort.Sort.TheVariants.{Number, Opaque}
use Rattle.flow_forms.specs.Forms.{FlowFormTree, constant, term, one, factor, variable, applied, converted, no_arguments, argument}
use Rattle.flow_forms.specs.Order.{form_cmp}
use Rattle.flow_forms.specs.Conversions.{is_same_width, is_one}
use Rattle.flow_forms.specs.Expressions.{form_of_cell}
use Rattle.flow_forms.specs.Comparisons.{FlowComparisonTree, zero_form, less_form, same_form}
use Rattle.flow_forms.specs.Substitution.{place_of, substituted, substitution_fits}
use Rattle.flow_ways.specs.Conditions.{FlowCondTree, atom, negation, Fact, facts_of, value_known}
use Rattle.flow_ways.specs.Ways.{own_forms_from}
use Rattle.flow_problem.specs.Edges.{FlowActionTree, assigned, given, Edge}

-- ---- tests of a cell for a number

-- that a cell of a width is a number
pub record CellTest : Type 0 where
  pub comparison : FlowComparisonTree
  pub width : Width
  pub cell : FlowFormTree
  pub number : ℕ

abbrev pub is_number_of : Width → Option Sort → Bool
is_number_of w None = false
is_number_of w (Some (Number v)) = is_same_width v w
is_number_of w (Some (Opaque k)) = false

-- whether a cell is a number of the width
abbrev pub is_cell_of : List Sort → Width → FlowFormTree → Bool
is_cell_of sorts w (variable k) = is_number_of w (slice_get sorts k)
is_cell_of sorts w (applied f result args) = is_number_of w (Some result)
is_cell_of sorts w (converted signed from to f) = is_same_width to w
is_cell_of sorts w f = false

abbrev pub cell_test_if : Bool → Width → FlowFormTree → FlowFormTree → ℕ → List CellTest
cell_test_if b w f c n = if b then record { comparison = zero_form w f; width = w; cell = c; number = n } ∷ [] else []

-- that t times the cell c plus the number d is 0, where t is 1 or -1
abbrev pub signed_cell_test : List Sort → Width → FlowFormTree → ℕ → FlowFormTree → ℕ → List CellTest
signed_cell_test sorts w f t c d =
    if nat_eq t 1 then cell_test_if (is_cell_of sorts w c) w f c ((modulus w - d % modulus w) % modulus w)
    else cell_test_if (nat_eq t (modulus w - 1) && is_cell_of sorts w c) w f c (d % modulus w)

abbrev pub product_test : List Sort → Width → FlowFormTree → ℕ → FlowFormTree → ℕ → List CellTest
product_test sorts w f t (factor c rest) d = if is_one rest then signed_cell_test sorts w f t c d else []
product_test sorts w f t p d = []

abbrev pub sum_test : List Sort → Width → FlowFormTree → List CellTest
sum_test sorts w (term t p (constant d)) = product_test sorts w (term t p (constant d)) t p d
sum_test sorts w f = []

abbrev pub cell_test : List Sort → FlowComparisonTree → List CellTest
cell_test sorts (zero_form w f) = sum_test sorts w f
cell_test sorts (less_form w f g) = []
cell_test sorts (same_form f g) = []

abbrev pub cell_tests : List Sort → List FlowComparisonTree → List CellTest
cell_tests sorts cs = flat_map (cell_test sorts) cs

-- ---- a number in the place of a cell

abbrev pub is_same_cell : FlowFormTree → FlowFormTree → Bool
is_same_cell c d = is_eq (form_cmp c d)

-- whether a form has the cell, or a part of it has
abbrev pub has_cell : FlowFormTree → FlowFormTree → Bool
has_cell x (constant c) = false
has_cell x (term t p rest) = has_cell x p || has_cell x rest
has_cell x one = false
has_cell x (factor c rest) = has_cell x c || has_cell x rest
has_cell x (variable k) = is_same_cell x (variable k)
has_cell x (applied f result args) = is_same_cell x (applied f result args) || has_cell x args
has_cell x (converted signed from to f) = is_same_cell x (converted signed from to f) || has_cell x f
has_cell x no_arguments = false
has_cell x (argument sort f rest) = has_cell x f || has_cell x rest

-- a form with a new variable, number n, in the place of the cell x; a variable that there is not is 0
abbrev pub named : FlowFormTree → ℕ → FlowFormTree → FlowFormTree
named x n (constant c) = constant c
named x n (term t p rest) = term t (named x n p) (named x n rest)
named x n one = one
named x n (factor c rest) = factor (named x n c) (named x n rest)
named x n (variable k) = if is_same_cell x (variable k) then variable n else if nat_lt k n then variable k else constant 0
named x n (applied f result args) = if is_same_cell x (applied f result args) then variable n else applied f result (named x n args)
named x n (converted signed from to f) = if is_same_cell x (converted signed from to f) then variable n else converted signed from to (named x n f)
named x n no_arguments = no_arguments
named x n (argument sort f rest) = argument sort (named x n f) (named x n rest)

-- the variables with the new one, which has the number
abbrev pub sorts_with : List Sort → CellTest → List Sort
sorts_with sorts x = sorts ++ Number x.width ∷ []

abbrev pub forms_with : List Sort → CellTest → List FlowFormTree
forms_with sorts x = own_forms_from 0 sorts ++ constant x.number ∷ []

-- a form of a sort with the number in the place of the cell
abbrev pub with_cell_number : List Sort → CellTest → Sort → FlowFormTree → FlowFormTree
with_cell_number sorts x sort f = substituted (sorts_with sorts x) (forms_with sorts x) (place_of sort) (named x.cell (length sorts) f)

abbrev pub number_fits : List Sort → CellTest → Sort → FlowFormTree → Bool
number_fits sorts x sort f = substitution_fits (sorts_with sorts x) (forms_with sorts x) (place_of sort) (named x.cell (length sorts) f)

-- ---- actions

abbrev pub set_has : FlowFormTree → Option FlowFormTree → Bool
set_has x None = false
set_has x (Some f) = has_cell x f

-- whether an action reads the cell
abbrev pub action_reads : FlowFormTree → FlowActionTree → Bool
action_reads x (assigned os) = list_any (set_has x) os
action_reads x (given rs) = list_any (λ r. has_cell x r.1) rs

abbrev pub set_fits : List Sort → CellTest → Sort → Option FlowFormTree → Bool
set_fits sorts x sort None = true
set_fits sorts x sort (Some f) = number_fits sorts x sort f

abbrev pub sets_fit : List Sort → CellTest → List Sort → List (Option FlowFormTree) → Bool
sets_fit all x (sort ∷ sorts) (o ∷ os) = set_fits all x sort o && sets_fit all x sorts os
sets_fit all x sorts os = true

abbrev pub action_fits : List Sort → CellTest → FlowActionTree → Bool
action_fits sorts x (assigned os) = sets_fit sorts x sorts os
action_fits sorts x (given rs) = list_all (λ r. number_fits sorts x r.0 r.1) rs

-- what variable k is set to where the cell is the number; what it is already goes
abbrev pub set_if_other : FlowFormTree → FlowFormTree → Option FlowFormTree
set_if_other own f = if is_eq (form_cmp f own) then None else Some f

abbrev pub set_with : List Sort → CellTest → ℕ → Sort → Option FlowFormTree → Option FlowFormTree
set_with all x k sort None = None
set_with all x k sort (Some f) = set_if_other (with_cell_number all x sort (form_of_cell sort (variable k))) (with_cell_number all x sort f)

abbrev pub sets_with : List Sort → CellTest → ℕ → List Sort → List (Option FlowFormTree) → List (Option FlowFormTree)
sets_with all x k (sort ∷ sorts) (o ∷ os) = set_with all x k sort o ∷ sets_with all x (suc k) sorts os
sets_with all x k sorts os = []

abbrev pub action_with : List Sort → CellTest → FlowActionTree → FlowActionTree
action_with sorts x (assigned os) = assigned (sets_with sorts x 0 sorts os)
action_with sorts x (given rs) = given (map (λ r. (r.0, with_cell_number sorts x r.0 r.1)) rs)

-- ---- edges

-- an edge with more tests, and with the number in the place of the cell, or unchanged
abbrev pub edge_where_equal : List Sort → CellTest → List FlowCondTree → Edge → Edge
edge_where_equal sorts x bs e = record { tests = e.tests ++ bs; action = action_with sorts x e.action; target = e.target }

abbrev pub edge_where_other : List FlowCondTree → Edge → Edge
edge_where_other bs e = record { tests = e.tests ++ bs; action = e.action; target = e.target }

-- by what the tests of the edge say of the test
abbrev pub edges_by : List Sort → CellTest → Edge → Option Bool → List Edge
edges_by sorts x e None = edge_where_equal sorts x (atom x.comparison ∷ []) e ∷ edge_where_other (negation (atom x.comparison) ∷ []) e ∷ []
edges_by sorts x e (Some true) = edge_where_equal sorts x [] e ∷ []
edges_by sorts x e (Some false) = e ∷ []

abbrev pub facts_of_all : List FlowCondTree → List Fact
facts_of_all [] = []
facts_of_all (b ∷ bs) = facts_of b true ++ facts_of_all bs

-- an edge whose action reads the cell is split, unless a form would be too large
abbrev pub split_edge : List Sort → CellTest → Edge → List Edge
split_edge sorts x e =
    if action_reads x.cell e.action && action_fits sorts x e.action then edges_by sorts x e (value_known (facts_of_all e.tests) x.comparison) else e ∷ []

-- each edge split by each test in order, and each that came out by the later ones
abbrev pub split_edges : List Sort → List CellTest → List Edge → List Edge
split_edges sorts [] es = es
split_edges sorts (x ∷ xs) es = split_edges sorts xs (flat_map (split_edge sorts x) es)
