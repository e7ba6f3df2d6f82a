use Rattle.std.proofs.Common.{◌≡◌, ◌++◌, ◌+◌, Bool, drop, true, subst, sym, arith}
use Rattle.kat_model.specs.Stores.{modulus}
use Rattle.text_print.specs.Printing.{name_of}
use Rattle.tool_explain.specs.Differences.{changes_text}
use Rattle.tool_explain.proofs.WrittenStates.{change_written, no_change_left}
use Rattle.tool_explain.proofs.states.put_changes.Goals as goal

pub loop-k-preserved : goal.loop-k-preserved
loop-k-preserved c =
    let m = modulus c.args.width in
    let names = name_of c.args.scope.now in
    let rows = c.args.rows.now in
    let before = c.args.before.now in
    let atom = c.args.atom.now in
    let k = c.loop-k.k in
    let all = c.args.out.now.items ++ changes_text m names true rows before atom in
    subst (λ (first : Bool). c.put_change.new.out.items ++ changes_text m names first (drop (k + 1) rows) (drop (k + 1) before) (drop (k + 1) atom) ≡ all) (sym c.none_changed-first.ensures)
    (change_written m names c.loop-k.first rows before atom k c.index-rows-k.result all c.loop-k.out.items c.put_change.new.out.items
    (omega (arith, c.loop-k-test.true, c.min.ensures, c.min-count.ensures)) (omega (arith, c.loop-k-test.true, c.min.ensures, c.min-count.ensures)) (omega (arith, c.loop-k-test.true, c.min-count.ensures))
    c.index-rows-k.is c.in_ok-put_change.ensures c.loop-k.invariant)

pub returns : goal.returns
returns c =
    no_change_left (modulus c.args.width) (name_of c.args.scope.now) c.loop-k.first c.args.rows.now c.args.before.now c.args.atom.now c.loop-k.k _ c.loop-k.out.items
    (omega (arith, c.min.ensures, c.min-count.ensures)) c.loop-k.invariant
