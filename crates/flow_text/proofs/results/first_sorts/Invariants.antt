use Rattle.std.proofs.Common.{◌≡◌, ◌++◌, drop, take}
use Rattle.flow_text.specs.Checking.{first_sorts}
use Rattle.flow_text.specs.ScopeViews.{sight_parts}
use Rattle.flow_syntax.specs.SyntaxViews.{exprs_syntax}
use Rattle.flow_text.proofs.results.first_sorts.Given as goal

-- the sorts so far, and those of the places that are left
abbrev pub invariant-loop-sort : goal.invariant-loop-sort
invariant-loop-sort l =
    take l.sort-index l.sorts ++ first_sorts (sight_parts l.visible_names) (drop l.sort-index l.sorts) (exprs_syntax l.rest) ≡ first_sorts (sight_parts l.visible_names) l.fn.sorts (exprs_syntax l.fn.exprs)
