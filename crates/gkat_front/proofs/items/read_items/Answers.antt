use Rattle.std.proofs.Common.{◌<◌, List, length, drop, length-drop, Err, sym, subst, ap, ◌∙◌, arith}
use Rattle.std.proofs.lemmas.Result.{err_from_is_err_and}
use Rattle.text_parser.specs.declared.fault.TextFault.{TextFault}
use Rattle.text_parser.specs.Lexemes.{Lexeme, lexemes}
use Rattle.gkat_front.specs.Items.{item_by, items_by}
use Rattle.problem_file.specs.Working.Walks.{Does}
use Rattle.problem_file.proofs.Lists.{items_go, item_fails, drop_less, lexemes_length}
use Rattle.gkat_front.proofs.items.read_items.Goals as goal

pub items-preserved : goal.items-preserved
items-preserved g c =
    let ts = c.args.toks.now in
    let ms : List Lexeme = lexemes ts in
    let count = lexemes_length ts in
    let goes = c.in_ok-at.ensures.goes in
    let some : 0 < length (drop c.items.at ms) = omega (arith, length-drop c.items.at ms, count, c.items-test.true) in
    let less : length (drop c.in_ok-at.at ms) < length (drop c.items.at ms) = drop_less c.items.at c.in_ok-at.at ms goes.0 (omega (arith, count, c.items-test.true)) in
    record {
      place = goes.1;
      left = items_go (item_by g.R.GkatItemReading.actions) (g.R.GkatItemReading.state c.items.reading) (g.R.GkatItemReading.state c.read_item.new.reading) (drop c.items.at ms) (drop c.in_ok-at.at ms) _ c.items.invariant.left some c.in_ok-at.ensures.value less;
    }

pub returns-in_err-at : goal.returns-in_err-at
returns-in_err-at g c =
    let ts = c.args.toks.now in
    let ms : List Lexeme = lexemes ts in
    let some : 0 < length (drop c.items.at ms) = omega (arith, length-drop c.items.at ms, lexemes_length ts, c.items-test.true) in
    let answer = err_from_is_err_and c.from_residual.result c.from_residual.ensures.1 in
    subst
    (λ r. Does g.R.GkatItemReading.memory r (g.R.GkatItemReading.state c.read_item.new.reading) (items_by g.R.GkatItemReading.actions (g.R.GkatItemReading.state c.args.reading.now) ms))
    (sym (answer.1 ∙ ap (λ (f : TextFault). Err f) answer.2))
    (item_fails (item_by g.R.GkatItemReading.actions) g.R.GkatItemReading.memory (g.R.GkatItemReading.state c.items.reading) (g.R.GkatItemReading.state c.read_item.new.reading) ts c.items.at (items_by g.R.GkatItemReading.actions (g.R.GkatItemReading.state c.args.reading.now) ms) c.in_err-at.field-0.0 c.items.invariant.left some c.in_err-at.ensures.value)
