use Rattle.std.proofs.Common.{◌≡◌, ◌+◌, ◌<◌, length, drop, refl}
use Rattle.text_parser.specs.Lexemes.{lexemes}
use Rattle.text_parser.proofs.TokenPlaces.{next_drop}
use Rattle.problem_file.specs.Items.{at_name}
use Rattle.problem_file.proofs.ReadFaults.{made_ends, made_within}
use Rattle.gkat_front.specs.Working.Declarations.{declare_by}
use Rattle.gkat_front.proofs.items.read_name.Goals as goal

pub returns-clause-value : goal.returns-clause-value
returns-clause-value g c =
    let f = declare_by g.R.GkatItemReading.actions c.args.what (g.R.GkatItemReading.state c.args.reading.now) in
    let all = lexemes c.args.toks.now in
    let ts = drop c.args.from all in
    made_ends g.R.GkatItemReading.memory all (g.R.GkatItemReading.state c.declare.new.self) (c.args.from + 1) c.declare.result c.and.result (f c.in_ok-name.name.now.at c.in_ok-name.name.now.text.now) (at_name f ts) c.and.ensures c.declare.ensures
    (rw (c.in_ok-name.ensures.found, next_drop c.args.from all) refl)

pub returns-clause-goes : goal.returns-clause-goes
returns-clause-goes g c = made_within (λ end. (end ≡ c.args.from + 1) × (c.args.from < length c.args.toks.now)) (c.args.from + 1) c.declare.result c.and.result c.and.ensures (refl, c.in_ok-name.ensures.within)
