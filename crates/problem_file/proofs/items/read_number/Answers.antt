use Rattle.std.proofs.Common.{◌≡◌, ◌+◌, ◌<◌, drop, refl, sym, length}
use Rattle.text_parser.specs.Lexemes.{lexemes}
use Rattle.text_parser.proofs.TokenPlaces.{next_drop}
use Rattle.problem_file.specs.Items.{number_at, at_number}
use Rattle.problem_file.proofs.NamedItems.{number_at_named}
use Rattle.problem_file.proofs.ReadFaults.{named_fault, fault_ends, made_ends, made_within}
use Rattle.problem_file.proofs.items.read_number.Goals as goal

pub returns-in_err-number-clause-value : goal.returns-in_err-number-clause-value
returns-in_err-number-clause-value g c =
    let a = g.R.ItemReading.actions in
    let s = g.R.ItemReading.state c.args.reading.now in
    let all = lexemes c.args.toks.now in
    let ts = drop c.args.from all in
    let given = named_fault (number_at ts) c.in_err-number.field-0.0 (number_at_named ts) (sym c.in_err-number.ensures.value) in
    fault_ends g.R.ItemReading.memory all s (at_number (a.set c.args.what s) ts) c.in_err-number.field-0.0 c.from_residual.result c.from_residual.ensures.1 given.0 (rw (given.1) refl)

pub returns-clause-value : goal.returns-clause-value
returns-clause-value g c =
    let a = g.R.ItemReading.actions in
    let s = g.R.ItemReading.state c.args.reading.now in
    let all = lexemes c.args.toks.now in
    let ts = drop c.args.from all in
    made_ends g.R.ItemReading.memory all (g.R.ItemReading.state c.set.new.self) (c.args.from + 1) c.set.result c.and.result (a.set c.args.what s c.place_at-place.result c.in_ok-number.number) (at_number (a.set c.args.what s) ts) c.and.ensures c.set.ensures
    (rw (← c.in_ok-number.ensures.value, ← c.place_at-place.ensures, next_drop c.args.from all) refl)

pub returns-clause-goes : goal.returns-clause-goes
returns-clause-goes g c = made_within (λ end. (end ≡ c.args.from + 1) × (c.args.from < length c.args.toks.now)) (c.args.from + 1) c.set.result c.and.result c.and.ensures (refl, c.in_ok-number.ensures.within)
