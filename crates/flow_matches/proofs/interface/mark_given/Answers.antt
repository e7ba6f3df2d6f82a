use Rattle.std.proofs.Common.{ap, subst, ◌∙◌, true, false, nat_eq, length, slice_index_or, map, take_all}
use Rattle.std.proofs.lemmas.List.{length-set}
use Rattle.flow_model.specs.Matches.{Equation, equation_of}
use Rattle.flow_places.proofs.Marks.{marked}
use Rattle.flow_pieces.specs.Matches.{gives}
use Rattle.flow_matches.specs.Working.SideViews.{HasMarks}
use Rattle.flow_matches.proofs.EquationLists.{gives_one, marks_next}
use Rattle.flow_matches.proofs.interface.mark_given.Goals as goal

pub loop-equation-preserved : goal.loop-equation-preserved
loop-equation-preserved c =
    marks_next gives (λ (e : Equation) x. nat_eq e.variable x) gives_one c.args.equations.now c.loop-equation.equation-index c.equation-item.result c.equation-item.result c.args.marks.now.items c.loop-equation.marks.items _
    c.loop-equation-test.true c.loop-equation.invariant
    (ap length c.mark.ensures ∙ length-set c.loop-equation.marks.items c.equation-item.result.variable true)
    (λ x lt. ap (λ l. slice_index_or l x false) c.mark.ensures ∙ marked c.loop-equation.marks.items c.equation-item.result.variable x lt)
    c.equation-item.is

pub returns : goal.returns
returns c =
    subst (λ es. HasMarks (gives (map equation_of es)) c.args.marks.now.items c.loop-equation.marks.items) (take_all c.loop-equation.equation-index c.args.equations.now c.loop-equation-test.false) c.loop-equation.invariant
