use Rattle.std.proofs.Common.{◌≡◌, ◌++◌, ◌+◌, drop, subst, sym}
use Rattle.kat_model.specs.Stores.{modulus}
use Rattle.kat_model.specs.Steps.{Atom}
use Rattle.text_print.specs.Printing.{name_of}
use Rattle.tool_explain.specs.Differences.{moves_text}
use Rattle.tool_explain.proofs.WrittenStates.{move_written, no_move_left}
use Rattle.tool_explain.proofs.states.put_moves.Goals as goal

pub loop-k-preserved : goal.loop-k-preserved
loop-k-preserved c =
    let m = modulus c.args.shown.now.width in
    let names = name_of c.args.scope.now in
    let all = c.args.out.now.items ++ moves_text m names c.args.shown.now 0 c.args.first.now c.args.moves.now in
    subst (λ (atom : Atom). c.put_move.new.out.items ++ moves_text m names c.args.shown.now (c.loop-k.k + 1) atom (drop (c.loop-k.k + 1) c.args.moves.now) ≡ all) (sym c.atom_of-before.ensures)
    (move_written m names c.args.shown.now c.loop-k.k c.loop-k.before.now c.index-moves-k.result c.args.moves.now all c.loop-k.out.items c.put_move.new.out.items
    c.loop-k-test.true c.index-moves-k.is c.in_ok-put_move.ensures c.loop-k.invariant)

pub returns : goal.returns
returns c =
    no_move_left (modulus c.args.shown.now.width) (name_of c.args.scope.now) c.args.shown.now c.loop-k.k c.loop-k.before.now c.args.moves.now _ c.loop-k.out.items c.loop-k-test.false c.loop-k.invariant
