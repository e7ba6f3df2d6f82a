use Rattle.std.proofs.Common.{◌≡◌, ◌+◌, ◌<◌, ◌≤◌, drop, false, Ok, Err, refl, length, arith}
use Rattle.text_parser.specs.declared.terminal.Terminal.TheVariants.{Separator}
use Rattle.text_parser.specs.declared.terminal.Separator.TheVariants.{Semicolon}
use Rattle.text_parser.specs.Lexemes.{lexemes, is_terminal}
use Rattle.text_parser.specs.Parsed.{then_expects}
use Rattle.text_parser.proofs.TokenPlaces.{next_drop}
use Rattle.problem_file.specs.Items.{triple_by, hyp_by}
use Rattle.problem_file.specs.Working.Walks.{triple_of}
use Rattle.problem_file.proofs.FollowedParts.{followed_reads}
use Rattle.problem_file.proofs.ReadFaults.{read_fault, check_fault, fault_ends, made_ends, made_within}
use Rattle.problem_file.proofs.items.read_hyp.Goals as goal

pub returns-in_err-begin_hyp-clause-value : goal.returns-in_err-begin_hyp-clause-value
returns-in_err-begin_hyp-clause-value g c =
    let a = g.R.ItemReading.actions in
    let s = g.R.ItemReading.state c.args.reading.now in
    let all = lexemes c.args.toks.now in
    let ts = drop c.args.from all in
    let given = check_fault (a.begin_hyp s c.args.at) c.in_err-begin_hyp.field-0.0 c.in_err-begin_hyp.ensures in
    fault_ends g.R.ItemReading.memory all s (hyp_by a s c.args.at ts) c.in_err-begin_hyp.field-0.0 c.from_residual.result c.from_residual.ensures.1 given.0 (rw (given.1) refl)

pub returns-then-not-is_at-clause-value : goal.returns-then-not-is_at-clause-value
returns-then-not-is_at-clause-value g c =
    rw (c.in_ok-begin_hyp.ensures, ← c.if-not-is_at.ensures.value) c.read_zero.ensures.value

pub returns-in_err-triple-clause-value : goal.returns-in_err-triple-clause-value
returns-in_err-triple-clause-value g c =
    let a = g.R.ItemReading.actions in
    let s = g.R.ItemReading.state c.args.reading.now in
    let all = lexemes c.args.toks.now in
    let ts = drop c.args.from all in
    let e = c.in_err-triple.field-0.0 in
    let p = is_terminal (Separator Semicolon) in
    let m = triple_by a s false (drop (c.args.from + 1) all) in
    let given = read_fault (triple_of all) all (then_expects p m) e (followed_reads (triple_of all) all p c.triple_at-triple.result (Err e) m c.triple_at-triple.ensures.value c.in_err-triple.ensures.value) in
    fault_ends g.R.ItemReading.memory all s (hyp_by a s c.args.at ts) e c.from_residual-in_err-triple.result c.from_residual-in_err-triple.ensures.1 given.0
    (rw (c.in_ok-begin_hyp.ensures, ← c.if-not-is_at.ensures.value, next_drop c.args.from all, given.1) refl)

pub returns-clause-value : goal.returns-clause-value
returns-clause-value g c =
    let a = g.R.ItemReading.actions in
    let s = g.R.ItemReading.state c.args.reading.now in
    let all = lexemes c.args.toks.now in
    let ts = drop c.args.from all in
    let end = c.in_ok-triple.end in
    let x = triple_of all c.in_ok-triple.triple in
    let p = is_terminal (Separator Semicolon) in
    let m = triple_by a s false (drop (c.args.from + 1) all) in
    let read : then_expects p m ≡ Ok (x, drop end all) = followed_reads (triple_of all) all p c.triple_at-triple.result (Ok (c.in_ok-triple.triple, end)) m c.triple_at-triple.ensures.value c.in_ok-triple.ensures.value in
    made_ends g.R.ItemReading.memory all (g.R.ItemReading.state c.state_triple.new.self) end c.state_triple.result c.and.result (a.state_triple s c.args.at x) (hyp_by a s c.args.at ts) c.and.ensures c.state_triple.ensures
    (rw (c.in_ok-begin_hyp.ensures, ← c.if-not-is_at.ensures.value, next_drop c.args.from all, read) refl)

pub returns-clause-goes : goal.returns-clause-goes
returns-clause-goes g c =
    let ends = c.in_ok-triple.ensures.goes (c.args.from + 1) c.triple_at-triple.ensures.goes in
    made_within (λ end. (c.args.from < end) × (end ≤ length c.args.toks.now)) c.in_ok-triple.end c.state_triple.result c.and.result c.and.ensures (omega (arith, ends.0), ends.1)
