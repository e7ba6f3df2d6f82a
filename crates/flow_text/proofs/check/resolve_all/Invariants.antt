use Rattle.std.proofs.Common.{◌≡◌, drop}
use Rattle.flow_text.specs.Trees.{values_of}
use Rattle.flow_text.specs.Checking.{expressions_after, expressions_of}
use Rattle.flow_text.specs.ScopeViews.{sight_parts}
use Rattle.flow_syntax.specs.SyntaxViews.{exprs_syntax}
use Rattle.flow_text.proofs.check.resolve_all.Given as goal

-- the expressions so far, and those of the sorts that are left
abbrev pub invariant-loop-sort : goal.invariant-loop-sort
invariant-loop-sort l =
    expressions_after (sight_parts l.visible_names) (values_of l.values.items) (drop l.sort-index l.sorts) (exprs_syntax l.rest)
    ≡ expressions_of (sight_parts l.visible_names) l.sorts (exprs_syntax l.fn.exprs)
