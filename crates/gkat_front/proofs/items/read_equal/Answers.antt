use Rattle.std.proofs.Common.{◌<◌, ◌≤◌, length, drop, refl, arith}
use Rattle.text_parser.specs.Lexemes.{lexemes}
use Rattle.problem_file.proofs.ReadFaults.{made_ends, made_within}
use Rattle.gkat_front.specs.Items.{equal_by}
use Rattle.gkat_front.proofs.items.read_equal.Goals as goal

pub returns-clause-value : goal.returns-clause-value
returns-clause-value g c =
    let a = g.R.GkatItemReading.actions in
    let s = g.R.GkatItemReading.state c.args.reading.now in
    let all = lexemes c.args.toks.now in
    let ts = drop c.args.from all in
    made_ends g.R.GkatItemReading.memory all (g.R.GkatItemReading.state c.pose.new.self) c.in_ok-end.end c.pose.result c.and.result (a.pose s c.args.at (g.R.GkatItemReading.expr c.in_ok-left.left) (g.R.GkatItemReading.expr c.in_ok-left.right)) (equal_by a s c.args.at ts) c.and.ensures c.pose.ensures
    (rw (c.in_ok-begin_equal.ensures, c.in_ok-left.ensures.value, c.in_ok-end.ensures.value) refl)

pub returns-clause-goes : goal.returns-clause-goes
returns-clause-goes g c = made_within (λ end. (c.args.from < end) × (end ≤ length c.args.toks.now)) c.in_ok-end.end c.pose.result c.and.result c.and.ensures (omega (arith, c.in_ok-left.ensures.goes.0, c.in_ok-end.ensures.goes.0), omega (arith, c.in_ok-end.ensures.goes.0, c.in_ok-end.ensures.goes.1))
