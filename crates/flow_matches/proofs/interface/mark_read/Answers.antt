use Rattle.std.proofs.Common.{◌≡◌, ap, sym, subst, ◌∙◌, false, length, slice_index_or, map, take, drop, ◌++◌, take_all, arith}
use Rattle.flow_model.specs.Matches.{Equation, equation_of}
use Rattle.flow_ways.specs.Liveness.{reads}
use Rattle.flow_pieces.specs.Matches.{equations_read}
use Rattle.flow_matches.specs.Working.SideViews.{HasMarks}
use Rattle.flow_matches.proofs.EquationLists.{reads_one, marks_next, read_here, written_back}
use Rattle.flow_matches.proofs.interface.mark_read.Goals as goal

pub loop-equation-preserved : goal.loop-equation-preserved
loop-equation-preserved c =
    let items = c.loop-equation.marks.items in
    let new = c.mark_expr.new.live in
    let item = c.equation-item.result in
    let whole : length items ≡ c.loop-equation.marks.len = omega (arith, c.loop-equation.marks.ok.0) in
    let long : length new ≡ c.loop-equation.marks.len = omega (arith, c.mark_expr.auto.live, ap length c.deref_mut.ensures.value, c.loop-equation.marks.ok.0) in
    let back : take c.loop-equation.marks.len (new ++ drop (length new) items) ≡ new = written_back new items c.loop-equation.marks.len long whole in
    marks_next equations_read (λ (e : Equation) x. reads x e.expression) reads_one c.args.equations.now c.loop-equation.equation-index item item c.args.marks.now.items items _
    c.loop-equation-test.true c.loop-equation.invariant
    (ap length back ∙ long ∙ sym whole)
    (λ x lt. ap (λ l. slice_index_or l x false) back ∙ read_here c.deref.result.now item.expression.items items c.deref_mut.result.now new c.deref.ensures.value c.deref_mut.ensures.value c.mark_expr.ensures x lt)
    c.equation-item.is

pub returns : goal.returns
returns c =
    subst (λ es. HasMarks (equations_read (map equation_of es)) c.args.marks.now.items c.loop-equation.marks.items) (take_all c.loop-equation.equation-index c.args.equations.now c.loop-equation-test.false) c.loop-equation.invariant
