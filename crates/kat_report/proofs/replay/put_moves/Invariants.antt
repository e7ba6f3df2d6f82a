use Rattle.std.proofs.Common.{◌≡◌, ◌++◌, suc, drop}
use Rattle.kat_report.specs.Replays.{moves_text}
use Rattle.kat_report.proofs.replay.put_moves.Given as goal

-- the moves so far, and the remaining moves
abbrev pub invariant-loop-k : goal.invariant-loop-k
invariant-loop-k l = l.out.items ++ moves_text (suc l.k) (drop l.k l.moves) ≡ l.initial.out.items ++ moves_text 1 l.moves
