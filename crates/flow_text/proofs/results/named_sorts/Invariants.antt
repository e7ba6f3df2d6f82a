use Rattle.std.proofs.Common.{◌≡◌, ◌++◌, length}
use Rattle.flow_text.specs.Checking.{named_sorts}
use Rattle.flow_text.specs.ScopeViews.{sight_parts}
use Rattle.flow_syntax.specs.SyntaxViews.{exprs_syntax}
use Rattle.flow_text.proofs.results.named_sorts.Given as goal

-- the sorts so far, and those of the expressions that are left
abbrev pub invariant-exprs : goal.invariant-exprs
invariant-exprs l = l.known.items ++ named_sorts (sight_parts l.visible_names) (exprs_syntax l.rest) ≡ named_sorts (sight_parts l.visible_names) (exprs_syntax l.fn.exprs)

abbrev pub decreases-exprs : goal.decreases-exprs
decreases-exprs l = length l.rest
