use Rattle.std.proofs.Common.{◌≡◌, ◌+◌, ◌<◌, drop, refl, length}
use Rattle.text_parser.specs.Lexemes.{lexemes}
use Rattle.text_parser.proofs.TokenPlaces.{next_drop}
use Rattle.problem_file.specs.Items.{name_at, at_name}
use Rattle.problem_file.proofs.NameWalks.{name_at_named}
use Rattle.problem_file.proofs.ReadFaults.{named_fault, fault_ends, made_ends, made_within}
use Rattle.problem_file.proofs.items.read_name.Goals as goal

pub returns-in_err-name-clause-value : goal.returns-in_err-name-clause-value
returns-in_err-name-clause-value g c =
    let a = g.R.ItemReading.actions in
    let s = g.R.ItemReading.state c.args.reading.now in
    let all = lexemes c.args.toks.now in
    let ts = drop c.args.from all in
    let given = named_fault (name_at ts) c.in_err-name.field-0.0 (name_at_named ts) c.in_err-name.ensures.fault in
    fault_ends g.R.ItemReading.memory all s (at_name (a.declare c.args.what s) ts) c.in_err-name.field-0.0 c.from_residual.result c.from_residual.ensures.1 given.0 (rw (given.1) refl)

pub returns-clause-value : goal.returns-clause-value
returns-clause-value g c =
    let a = g.R.ItemReading.actions in
    let s = g.R.ItemReading.state c.args.reading.now in
    let all = lexemes c.args.toks.now in
    let ts = drop c.args.from all in
    made_ends g.R.ItemReading.memory all (g.R.ItemReading.state c.declare.new.self) (c.args.from + 1) c.declare.result c.and.result (a.declare c.args.what s c.in_ok-name.name.now.at c.in_ok-name.name.now.text.now) (at_name (a.declare c.args.what s) ts) c.and.ensures c.declare.ensures
    (rw (c.in_ok-name.ensures.found, next_drop c.args.from all) refl)

pub returns-clause-goes : goal.returns-clause-goes
returns-clause-goes g c = made_within (λ end. (end ≡ c.args.from + 1) × (c.args.from < length c.args.toks.now)) (c.args.from + 1) c.declare.result c.and.result c.and.ensures (refl, c.in_ok-name.ensures.within)
