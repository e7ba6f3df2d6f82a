-- Facts of arithmetic about some comparisons of a table together, each as a term that relates no stores.
use Rattle.std.specs.Prelude.{ℕ, List, [], ◌∷◌, Bool, true, false, not, ◌&&◌, ◌||◌, nat_eq, nat_lt, if◌then◌else◌, ◌++◌}
use Rattle.kat_model.specs.Trees.{Term, test, prim, complement, product}
use Rattle.linear_forms.specs.Forms.{FormTree, constant}
use Rattle.linear_forms.specs.Arithmetic.{form_sum, form_difference}
use Rattle.linear_forms.specs.Comparisons.{canonical}
use Rattle.linear_forms.specs.declared.comparison.Atomic.{Atomic}
use Rattle.linear_forms.specs.declared.comparison.Atomic.TheVariants.{Zero, Less}
use Rattle.abstraction.specs.declared.rule.Rule.{Rule}
use Rattle.abstraction.specs.declared.rule.Rule.TheVariants.{F1, F2, F3, F4, F5, F6}
use Rattle.linear_forms.specs.Sameness.{is_same_form}

-- a term that is stated or derived to be 0, and the reason
pub record Hypothesis : Type 0 where
  pub rule : Rule
  pub term : Term

-- a comparison with its number among the tests
abbrev pub TestRowOf : Type 0
TestRowOf = ℕ × Atomic

-- tests i and j exclude one another; test i implies test j
abbrev pub excludes : ℕ → ℕ → Term
excludes i j = product (test (prim i)) (test (prim j))

abbrev pub implies : ℕ → ℕ → Term
implies i j = product (test (prim i)) (test (complement (prim j)))

-- a list with the hypothesis, if the condition holds
abbrev pub fact_if : Bool → Rule → Term → List Hypothesis
fact_if b rule term = if b then record { rule = rule; term = term } ∷ [] else []

-- whether the form is a constant other than 0
abbrev pub is_nonzero : FormTree → Bool
is_nonzero (constant c) = not (nat_eq c 0)
is_nonzero f = false

-- whether both forms are constants, and the first is less than the second
abbrev pub are_less : FormTree → FormTree → Bool
are_less (constant c) (constant d) = nat_lt c d
are_less f g = false

-- F1: f and g, whose difference or sum is a constant other than 0, are not both 0
abbrev pub apart_fact : ℕ → TestRowOf → TestRowOf → List Hypothesis
apart_fact m (i, Zero f) (j, Zero g) =
    fact_if (nat_lt i j && (is_nonzero (form_difference m f g) || is_nonzero (form_sum m f g))) (F1 i j) (excludes i j)
apart_fact m a b = []

-- F2: f < g and g < f do not both hold
abbrev pub order_fact : TestRowOf → TestRowOf → List Hypothesis
order_fact (i, Less f g) (j, Less d e) = fact_if (nat_lt i j && (is_same_form f e && is_same_form g d)) (F2 i j) (excludes i j)
order_fact a b = []

-- F3: f < g and f = g do not both hold
abbrev pub equality_fact : ℕ → TestRowOf → TestRowOf → List Hypothesis
equality_fact m (i, Less f g) (j, Zero z) = fact_if (is_same_form z (canonical m (form_difference m f g))) (F3 i j) (excludes i j)
equality_fact m a b = []

-- F4: f < c implies f < d if c < d
abbrev pub bound_fact : TestRowOf → TestRowOf → List Hypothesis
bound_fact (i, Less f c) (j, Less g d) = fact_if (is_same_form f g && are_less c d) (F4 i j) (implies i j)
bound_fact a b = []

-- F5: if z = 0 makes f the constant c, it decides whether f < d
abbrev pub decided_by : ℕ → ℕ → FormTree → FormTree → List Hypothesis
decided_by i j (constant c) (constant d) = fact_if true (F5 i j) (if nat_lt c d then implies i j else excludes i j)
decided_by i j f g = []

-- if z = 0, f equals the difference f - z and the sum f + z
abbrev pub constant_fact : ℕ → TestRowOf → TestRowOf → List Hypothesis
constant_fact m (i, Zero z) (j, Less f d) = decided_by i j (form_difference m f z) d ++ decided_by i j (form_sum m f z) d
constant_fact m a b = []

-- F6: one of f < g, g < f and f = g holds
abbrev pub one_holds : ℕ → ℕ → ℕ → Term
one_holds i j k = product (test (complement (prim i))) (product (test (complement (prim j))) (test (complement (prim k))))

abbrev pub three_way_fact : ℕ → TestRowOf → TestRowOf → TestRowOf → List Hypothesis
three_way_fact m (i, Less f g) (j, Less d e) (k, Zero z) =
    fact_if ((nat_lt i j && (is_same_form f e && is_same_form g d)) && is_same_form z (canonical m (form_difference m f g))) (F6 i j k) (one_holds i j k)
three_way_fact m a b c = []
