-- Matches of the program whose expressions and conditions in Polish notation are one tree each.
use Rattle.std.specs.Prelude.{◌≡◌, Bool, true, ◌&&◌, List}
use Rattle.std.specs.List.{list_all}
use Rattle.flow_model.specs.declared.block_match.Equation.{Equation}
use Rattle.flow_model.specs.declared.block_match.BlockMatch.{BlockMatch}
use Rattle.flow_model.specs.WholeGraphs.{is_whole_expr, is_whole_cond}

abbrev pub are_whole_equations : List Equation → Bool
are_whole_equations qs = list_all (λ q. is_whole_expr q.expression.items) qs

abbrev pub is_whole_match : BlockMatch → Bool
is_whole_match m =
    are_whole_equations m.forth.items && (are_whole_equations m.back.items && (are_whole_equations m.keeping.items && is_whole_cond m.condition.items))

abbrev pub IsWholeMatch : BlockMatch → Type 0
IsWholeMatch m = is_whole_match m ≡ true
