use Rattle.std.proofs.Common.{◌≡◌, subst, map, replicate, false}
use Rattle.flow_model.specs.Matches.{equation_of, match_of}
use Rattle.flow_pieces.specs.Matches.{gives, equations_read}
use Rattle.flow_matches.specs.Working.SideViews.{HasMarks}
use Rattle.flow_matches.proofs.EquationLists.{shared_marks}
use Rattle.flow_matches.proofs.interface.equation_marks.Goals as goal

pub returns : goal.returns
returns c = λ x lt.
    let own = c.args.own.now in
    let none = c.in_ok-marks.marks.items in
    let first = c.mark_given.new.marks.items in
    let second = c.mark_given-2.new.marks.items in
    let third = c.mark_read.new.marks.items in
    let forth : HasMarks (gives (map equation_of own.forth.items)) none first = subst (λ es. HasMarks (gives (map equation_of es)) none first) c.deref.ensures.value c.mark_given.ensures in
    let back : HasMarks (gives (map equation_of own.back.items)) first second = subst (λ es. HasMarks (gives (map equation_of es)) first second) c.deref-2.ensures.value c.mark_given-2.ensures in
    let read : HasMarks (equations_read (map equation_of own.back.items)) second third = subst (λ es. HasMarks (equations_read (map equation_of es)) second third) c.deref-3.ensures.value c.mark_read.ensures in
    let fresh : none ≡ replicate c.args.variables false = c.in_ok-marks.ensures in
    shared_marks (match_of own) c.args.variables x none first second third lt fresh forth back read
