use Rattle.std.proofs.Common.{◌≡◌, ◌+◌, ◌<◌, length, drop}
use Rattle.text_parser.specs.Lexemes.{lexemes}
use Rattle.while_lang.proofs.BlockParts.{passed, ends_after}
use Rattle.while_lang.proofs.blocks.ended.Goals as goal

pub returns-clause-value : goal.returns-clause-value
returns-clause-value c =
    let all = lexemes c.args.toks.now in
    ends_after all (drop c.args.from all) c.args.made c.expect.result c.and.result c.and.ensures c.expect.ensures.value

pub returns-clause-goes : goal.returns-clause-goes
returns-clause-goes c = passed (λ end. (end ≡ c.args.from + 1) × (c.args.from < length c.args.toks.now)) c.args.made c.expect.result c.and.result c.and.ensures c.expect.ensures.goes
