-- Tests of cells of the program.
use Rattle.std.specs.Prelude.{ℕ, List, [], ◌∷◌, Option, Some, None}
use Rattle.kat_model.specs.declared.expression.Width.{Width}
use Rattle.flow_model.specs.declared.sort.Sort.{Sort}
use Rattle.flow_forms.specs.Forms.{FlowFormTree, constant, form_tree}
use Rattle.flow_forms.specs.Comparisons.{comparison_tree}
use Rattle.flow_problem.specs.Splits.{CellTest, product_test}
use Rattle.flow_edges.specs.declared.splits.cell_test.CellTest.{CellTest as ACellTest}

abbrev pub cell_test_tree : ACellTest → CellTest
cell_test_tree x = record { comparison = comparison_tree x.comparison; width = x.width; cell = form_tree x.cell; number = x.number }

abbrev pub test_if_any : Option ACellTest → List CellTest
test_if_any None = []
test_if_any (Some x) = cell_test_tree x ∷ []

-- the test that the form f is 0, where f is t times the product p, and a rest
abbrev pub tested_sum : List Sort → Width → FlowFormTree → ℕ → FlowFormTree → FlowFormTree → List CellTest
tested_sum sorts w f t p (constant d) = product_test sorts w f t p d
tested_sum sorts w f t p rest = []
