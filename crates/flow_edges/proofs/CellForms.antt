-- Cells and sums of the program.
use Rattle.std.proofs.Common.{◌≡◌, ℕ, Bool, true, false, IsTrue, ◌↔◌, List, refl, sym, subst}
use Rattle.kat_model.specs.declared.expression.Width.{Width}
use Rattle.flow_model.specs.declared.sort.Sort.{Sort}
use Rattle.flow_forms.specs.Forms.{FlowFormTree, constant, term, one, factor, variable, applied, converted, no_arguments, argument}
use Rattle.flow_forms.proofs.SameComparisons.{one_form, own_test}
use Rattle.flow_problem.specs.Splits.{is_same_cell, sum_test}
use Rattle.flow_edges.specs.CellTests.{tested_sum}

-- the test of equality is the test of the order
pub cell_answers : (r : Bool) (c d : FlowFormTree) → IsTrue r ↔ (c ≡ d) → r ≡ is_same_cell c d
cell_answers true c d h = sym (subst (λ e. is_same_cell c e ≡ true) (h.0 refl) (own_test c))
cell_answers false c d h = by_test (is_same_cell c d) (one_form c d)
  where
    by_test : (b : Bool) → (b ≡ true → c ≡ d) → false ≡ b
    by_test true k = h.1 (k refl)
    by_test false k = refl

pub sum_tested : (sorts : List Sort) (w : Width) (t : ℕ) (p rest : FlowFormTree) → tested_sum sorts w (term t p rest) t p rest ≡ sum_test sorts w (term t p rest)
sum_tested sorts w t p (constant d) = refl
sum_tested sorts w t p (term u q r) = refl
sum_tested sorts w t p one = refl
sum_tested sorts w t p (factor c r) = refl
sum_tested sorts w t p (variable k) = refl
sum_tested sorts w t p (applied f result args) = refl
sum_tested sorts w t p (converted signed from to f) = refl
sum_tested sorts w t p no_arguments = refl
sum_tested sorts w t p (argument sort f r) = refl
