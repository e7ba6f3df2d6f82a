use Rattle.std.proofs.Common.{◌≡◌, ◌++◌, drop}
use Rattle.kat_model.specs.Stores.{modulus}
use Rattle.text_print.specs.Printing.{name_of}
use Rattle.tool_explain.specs.Differences.{moves_text}
use Rattle.tool_explain.proofs.states.put_moves.Given as goal

-- the moves so far, and the remaining moves from the last state
abbrev pub invariant-loop-k : goal.invariant-loop-k
invariant-loop-k l =
    l.out.items ++ moves_text (modulus l.shown.width) (name_of l.scope) l.shown l.k l.before (drop l.k l.moves)
    ≡ l.initial.out.items ++ moves_text (modulus l.shown.width) (name_of l.scope) l.shown 0 l.first l.moves
