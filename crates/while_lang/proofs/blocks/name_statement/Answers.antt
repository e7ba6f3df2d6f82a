use Rattle.std.proofs.Common.{◌+◌, drop, sym, subst}
use Rattle.text_parser.specs.Lexemes.{lexemes}
use Rattle.text_parser.proofs.TokenPlaces.{next_drop}
use Rattle.while_lang.specs.Blocks.{named_by}
use Rattle.while_lang.specs.Working.Appending.{Appends}
use Rattle.while_lang.proofs.BlockParts.{named_assign, named_ended, ended_appends}
use Rattle.while_lang.proofs.blocks.name_statement.Goals as goal

pub returns-then-is_at-clause-value : goal.returns-then-is_at-clause-value
returns-then-is_at-clause-value g c =
    let a = g.R.BlockReading.actions c.args.reading.now in
    let all = lexemes c.args.toks.now in
    let ts = drop c.args.from all in
    let s = g.R.BlockReading.stmts c.args.list.now in
    subst (λ m. Appends g.R.BlockReading.memory (g.R.BlockReading.stmts c.assignment.new.list) all c.assignment.result m) (sym (named_assign a c.args.depth ts s c.args.at c.args.name.now (sym c.if-is_at.ensures.value) (drop (c.args.from + 1) all) (next_drop c.args.from all))) c.assignment.ensures.value

pub returns-clause-value : goal.returns-clause-value
returns-clause-value g c =
    let a = g.R.BlockReading.actions c.args.reading.now in
    let all = lexemes c.args.toks.now in
    let ts = drop c.args.from all in
    let s = g.R.BlockReading.stmts c.args.list.now in
    ended_appends g.R.BlockReading.memory (g.R.BlockReading.stmts c.named.new.list) all ts c.named.result (a.named c.args.depth c.args.at c.args.name.now s) c.ended.result (named_by a s c.args.depth c.args.at c.args.name.now ts) c.ended.ensures.value c.named.ensures
    (named_ended a c.args.depth ts s c.args.at c.args.name.now (sym c.if-is_at.ensures.value))
