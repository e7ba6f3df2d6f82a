use Rattle.std.proofs.Common.{sym, arith}
use Rattle.std.proofs.lemmas.List.FromFn.{map-range_with_len_more}
use Rattle.abstraction.specs.declared.rows.ActionRow.TheVariants.{Named}
use Rattle.abstraction.proofs.file_abstract.declared_actions.Goals as goal

pub loop-k-preserved : goal.loop-k-preserved
loop-k-preserved c =
    rw (c.in_ok-push.ensures.items, c.loop-k.invariant) (sym (map-range_with_len_more (λ k. Named k) 0 c.loop-k.k c.loop-k.k (omega arith)))
