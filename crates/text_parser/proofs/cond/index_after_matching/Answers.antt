use Rattle.std.proofs.Common.{drop, arith}
use Rattle.text_parser.specs.Lexemes.{lexemes}
use Rattle.text_parser.proofs.TokenPlaces.{next_drop}
use Rattle.text_parser.proofs.Parentheses.{inner_opened, inner_closed, other_passed}
use Rattle.text_parser.proofs.cond.index_after_matching.Goals as goal
use Rattle.text_parser.proofs.cond.index_after_matching.Goals.{then-is_round_open_at, else-is_round_open_at+then-is_round_close_at+else-open-eq0, else-is_round_open_at+else-is_round_close_at}

pub loop-i-preserved : goal.loop-i-preserved
loop-i-preserved c =
    let n = c.loop-i.open in
    let ts = drop c.loop-i.i (lexemes c.args.toks.now) in
    let next = next_drop c.loop-i.i (lexemes c.args.toks.now) in
    elim c.if-is_round_open_at.branch [
      | then-is_round_open_at w ↦ (omega arith, cc (next, inner_opened n ts (cc)))
      | else-is_round_open_at+then-is_round_close_at+else-open-eq0 w ↦ (omega arith, cc (next, inner_closed n ts w.if-open-eq0.false (cc) (cc)))
      | else-is_round_open_at+else-is_round_close_at w ↦ (omega arith, cc (next, other_passed n ts (cc) (cc)))
    ]
