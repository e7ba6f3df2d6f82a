-- What holds after a parallel assignment, with the forms of the variables after it.
use Rattle.std.specs.Prelude.{List, [], ◌∷◌, ◌++◌, Option, Some, if◌then◌else◌}
use Rattle.flow_model.specs.declared.sort.Sort.{Sort}
use Rattle.flow_forms.specs.Forms.{FlowFormTree}
use Rattle.flow_forms.specs.Comparisons.{FlowComparisonTree, FlowLiteralTree, holding}
use Rattle.flow_forms.specs.Substitution.{comparison_after}
use Rattle.flow_problem.specs.Substitutions.{sets_cell_of, comparison_fits, literal_if_fits}
use Rattle.flow_problem.specs.FlowRounds.{comparisons_if_any}

-- `literal_after`, where the forms of the variables are given
abbrev pub literal_with : List Sort → List (Option FlowFormTree) → List FlowFormTree → FlowComparisonTree → Option FlowLiteralTree
literal_with sorts os env c =
    if sets_cell_of os c then literal_if_fits (comparison_fits sorts env c) (comparison_after sorts env c) else Some (holding c)

-- the comparisons that hold before the assignment exactly where those of a list, or their opposites, hold after it
abbrev pub comparisons_with : List Sort → List (Option FlowFormTree) → List FlowFormTree → List FlowComparisonTree → List FlowComparisonTree
comparisons_with sorts os env [] = []
comparisons_with sorts os env (c ∷ cs) = comparisons_if_any (literal_with sorts os env c) ++ comparisons_with sorts os env cs
