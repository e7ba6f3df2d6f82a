use Rattle.std.proofs.Common.{◌<◌, length, drop, sym, arith, List}
use Rattle.text_parser.specs.Lexemes.{Lexeme, lexemes}
use Rattle.text_parser.proofs.TokenPlaces.{next_drop}
use Rattle.problem_file.proofs.Lists.{names_go, drop_less, lexemes_length}
use Rattle.gkat_front.specs.Working.Declarations.{declare_by}
use Rattle.gkat_front.proofs.items.read_names.Goals as goal

pub names-preserved : goal.names-preserved
names-preserved g c =
    let ms : List Lexeme = lexemes c.args.toks.now in
    let less : length (drop c.in_ok-at.at ms) < length (drop c.names.at ms) = drop_less c.names.at c.in_ok-at.at ms (omega (arith, c.in_ok-at.ensures.goes.0)) (omega (arith, lexemes_length c.args.toks.now, c.in_ok-at.ensures.goes.1)) in
    let go = names_go (declare_by g.R.GkatItemReading.actions c.args.what) (g.R.GkatItemReading.state c.names.reading) (g.R.GkatItemReading.state c.read_name.new.reading) (drop c.names.at ms) (drop c.in_ok-at.at ms) _ c.names.invariant.left c.in_ok-at.ensures.value (sym c.if-not-is_at.ensures.value) less in
    record {
      place = omega (arith, c.names.invariant.place, c.in_ok-at.ensures.goes.0);
      left = rw (← next_drop c.in_ok-at.at ms) go;
    }
