use Rattle.std.proofs.Common.{◌++◌, true, inl, inr}
use Rattle.kat_model.specs.Stores.{modulus}
use Rattle.text_print.specs.Printing.{name_of}
use Rattle.tool_explain.specs.Differences.{literals_text}
use Rattle.tool_explain.proofs.WrittenStates.{literal_written, no_row_left, no_value_left}
use Rattle.tool_explain.proofs.states.put_literals.Goals as goal

pub loop-row-preserved : goal.loop-row-preserved
loop-row-preserved c =
    let m = modulus c.args.width in
    let names = name_of c.args.scope.now in
    literal_written m names c.loop-row.first c.in-Some.row.now c.loop-row.row-iterator.a.rest.now c.next.new.self.a.rest.now
    c.in-Some.value.now c.loop-row.row-iterator.b.rest.now c.next.new.self.b.rest.now
    (c.args.out.now.items ++ literals_text m names true c.args.rows.now c.args.atom.now) c.loop-row.out.items c.put_comma.new.out.items c.put_literal.new.out.items
    c.in-Some.ensures.steps.0 c.in-Some.ensures.steps.1 c.in_ok-put_comma.ensures c.in_ok-put_literal.ensures c.loop-row.invariant

pub returns : goal.returns
returns c =
    let m = modulus c.args.width in
    let names = name_of c.args.scope.now in
    elim c.in-None.ensures.steps [
      | inl none ↦ no_row_left m names c.loop-row.first c.loop-row.row-iterator.a.rest.now c.loop-row.row-iterator.b.rest.now _ c.loop-row.out.items none.1.0 c.loop-row.invariant
      | inr none ↦ no_value_left m names c.loop-row.first c.loop-row.row-iterator.a.rest.now c.loop-row.row-iterator.b.rest.now _ c.loop-row.out.items none.1.0 c.loop-row.invariant
    ]
