use Rattle.std.proofs.Common.{◌+◌, suc, ◌++◌, refl}
use Rattle.kat_report.specs.Replays.{position_line, move_line, moves_text}
use Rattle.kat_report.proofs.WrittenLists.{member_written, members_written, moves-cons}
use Rattle.kat_report.proofs.replay.put_moves.Goals as goal

pub loop-k-preserved : goal.loop-k-preserved
loop-k-preserved c =
    member_written (λ n m. move_line m.act ++ position_line (n + 1) m.atom) (λ n ms. moves_text (suc n) ms) moves-cons c.args.moves.now c.loop-k.k c.index-moves-k.result c.index-moves-k.result _ c.loop-k.out.items c.put_move.new.out.items
    c.loop-k-test.true c.index-moves-k.is c.in_ok-put_move.ensures c.loop-k.invariant

pub returns : goal.returns
returns c =
    members_written (λ n m. move_line m.act ++ position_line (n + 1) m.atom) (λ n ms. moves_text (suc n) ms) (λ n. refl) c.args.moves.now c.loop-k.k _ c.loop-k.out.items c.loop-k-test.false c.loop-k.invariant
