-- What holds of comparisons of the program after parallel assignments.
use Rattle.std.specs.Prelude.{◌≡◌, ℕ, suc, Bool, List, ◌∷◌, map, Option, option_map, Result, IfOk, Vec}
use Rattle.std.specs.declared.alloc.Global.{Global}
use Rattle.flow_model.specs.declared.sort.Sort.{Sort}
use Rattle.flow_forms.specs.declared.form.FlowForm.{FlowForm}
use Rattle.flow_forms.specs.declared.comparison.FlowComparison.{FlowComparison}
use Rattle.flow_forms.specs.declared.comparison.FlowLiteral.{FlowLiteral}
use Rattle.flow_forms.specs.Forms.{FlowFormTree, form_tree}
use Rattle.flow_forms.specs.Comparisons.{FlowLiteralTree, comparison_tree, literal_tree}
use Rattle.flow_forms.specs.Substitution.{comparison_after}
use Rattle.flow_ways.specs.ActionTrees.{set_tree}
use Rattle.flow_problem.specs.Substitutions.{comparison_has, some_set, comparison_fits, literal_if_fits, literal_after, forms_from}
use Rattle.flow_edges.specs.Working.Views.{Appends}
use Rattle.flow_abstraction.specs.LiteralsWith.{literal_with}

abbrev pub MakesLiteral : {E : Type 0} → Result (Option FlowLiteral) E → Option FlowLiteralTree → Type 0
MakesLiteral result literal = IfOk result (λ made. option_map literal_tree made ≡ literal)

abbrev pub AddsForms : {E : Type 0} → Result (Unit {0}) E → Vec FlowForm Global → Vec FlowForm Global → List FlowFormTree → Type 0
AddsForms result old new more = Appends form_tree result old new more

-- a comparison with forms in place of its variables, and whether these forms are not too large
abbrev pub literal_by : List Sort → List FlowForm → FlowComparison → FlowLiteralTree
literal_by sorts forms comparison = comparison_after sorts (map form_tree forms) (comparison_tree comparison)

abbrev pub fits_by : List Sort → List FlowForm → FlowComparison → Bool
fits_by sorts forms comparison = comparison_fits sorts (map form_tree forms) (comparison_tree comparison)

abbrev pub literal_if_it_fits : List Sort → List FlowForm → FlowComparison → Option FlowLiteralTree
literal_if_it_fits sorts forms comparison = literal_if_fits (fits_by sorts forms comparison) (literal_by sorts forms comparison)

-- the condition before an assignment, by its forms after it or by what it sets
abbrev pub literal_where : List Sort → List (Option FlowForm) → List FlowForm → FlowComparison → Option FlowLiteralTree
literal_where sorts sets forms comparison = literal_with sorts (map set_tree sets) (map form_tree forms) (comparison_tree comparison)

abbrev pub literal_of_sets : List Sort → List (Option FlowForm) → FlowComparison → Option FlowLiteralTree
literal_of_sets sorts sets comparison = literal_after sorts (map set_tree sets) (comparison_tree comparison)

-- the forms of the variables from a number on
abbrev pub forms_at : ℕ → List Sort → List (Option FlowForm) → List FlowFormTree
forms_at number sorts sets = forms_from number sorts (map set_tree sets)

abbrev pub forms_then : FlowForm → ℕ → List Sort → List (Option FlowForm) → List FlowFormTree
forms_then form number others sets = form_tree form ∷ forms_at (suc number) others sets

-- whether a comparison has some of the variables from a number on that are set
abbrev pub some_set_in : FlowComparison → ℕ → List (Option FlowForm) → Bool
some_set_in comparison number sets = some_set (λ x. comparison_has x (comparison_tree comparison)) number (map set_tree sets)
