use Rattle.std.proofs.Common.{[], ◌∷◌, ◌∙◌}
use Rattle.text_parser.proofs.Seen.{symbol_seen}
use Rattle.text_parser.proofs.terminal.is_symbol_at.Goals as goal

pub returns-in-Some : goal.returns-in-Some
returns-in-Some c =
    let h = c.in-Some.ensures.lookup in
    c.is_symbol.ensures ∙ symbol_seen (c.args.symbol ∷ []) c.args.toks.now c.args.i c.in-Some.token.now h.1 h.3.0
