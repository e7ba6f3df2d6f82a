use Rattle.std.proofs.Common.{rules}
use Rattle.std.proofs.lemmas.Fn.{always_returns_same}
use Rattle.text_parser.proofs.NameRuns.{ends_run, run_to, run_whole}
use Rattle.text_parser.proofs.lexer.name_len.Goals as goal

pub returns-in-Some : goal.returns-in-Some
returns-in-Some c =
    let found = c.in-Some.ensures.cases in
    run_to _ _ _ found.3.0 found.3 (found.1 ends_run (always_returns_same _ _ _ (λ a r f k. search rules)))

pub returns-in-None : goal.returns-in-None
returns-in-None c = run_whole _ (c.in-None.ensures.cases ends_run (always_returns_same _ _ _ (λ a r f k. search rules)))
