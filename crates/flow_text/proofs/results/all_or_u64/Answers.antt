use Rattle.std.proofs.Common.{[], ◌∷◌, ◌++◌, ap, ◌∙◌, take_all}
use Rattle.flow_text.specs.Resolving.{sort_or_u64}
use Rattle.flow_text.specs.Checking.{sorts_or_u64}
use Rattle.flow_text.proofs.MappedLists.{mapped_more}
use Rattle.flow_text.proofs.results.all_or_u64.Goals as goal

pub loop-sort-preserved : goal.loop-sort-preserved
loop-sort-preserved c = mapped_more sort_or_u64 c.args.sorts.now c.loop-sort.sort-index _ _ _ c.loop-sort-test.true c.loop-sort.invariant (c.in_ok-append.ensures ∙ ap (λ x. c.loop-sort.known.items ++ x ∷ []) c.sort_or_u64.ensures)

pub returns : goal.returns
returns c = c.loop-sort.invariant ∙ ap sorts_or_u64 (take_all c.loop-sort.sort-index c.args.sorts.now c.loop-sort-test.false)
