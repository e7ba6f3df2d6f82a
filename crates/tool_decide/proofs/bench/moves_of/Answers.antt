use Rattle.std.proofs.Common.{length, ap, ◌∙◌}
use Rattle.kat_model.specs.Strings.{GuardedString}
use Rattle.tool_decide.proofs.BenchReplies.{decided_fewest}
use Rattle.tool_decide.proofs.bench.moves_of.Goals as goal

pub returns : goal.returns
returns c =
    decided_fewest _ _ _ _ _ c.in_ok-decide.ensures c.in_ok-problem.ensures c.in-Different.is
    (ap (λ l. length l) c.as_slice.ensures ∙ ap (λ (x : GuardedString). length x.rest) c.string.view_is)
