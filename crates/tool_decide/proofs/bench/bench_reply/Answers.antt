use Rattle.tool_decide.proofs.BenchReplies.{bench_reply}
use Rattle.tool_decide.proofs.bench.bench_reply.Goals as goal

pub returns : goal.returns
returns c =
    let tally = c.in_ok-tally.tally in
    bench_reply c.args.count.number c.in_ok-tally_line.field-0.items
    (record { equal = tally.equal; different = tally.different; moves = tally.moves; is_tally = c.in_ok-tally.ensures.is_tally; printed = c.in_ok-tally_line.ensures })
