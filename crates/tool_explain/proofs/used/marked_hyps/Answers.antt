use Rattle.std.proofs.Common.{[], ◌∷◌, map, inl, inr, ap}
use Rattle.std.proofs.lemmas.List.{nil_from_length, map-append}
use Rattle.kat_model.specs.Trees.{kat_tree}
use Rattle.tool_explain.specs.Used.{marked}
use Rattle.tool_explain.proofs.MarkedLists.{member_kept, member_left, no_mark_left, no_member_left}
use Rattle.tool_explain.proofs.used.marked_hyps.Goals as goal

pub returns : goal.returns
returns c =
    let marks = c.loop-mark.mark-iterator.a.rest.now in
    let hyps = c.loop-mark.mark-iterator.b.rest.now in
    let kept = map kat_tree c.loop-mark.kept.items in
    let whole = marked c.args.marks.now c.args.problem.now.hyps in
    elim c.in-None.ensures.steps [
      | inl none ↦ no_mark_left kept whole marks (map kat_tree hyps) (nil_from_length marks none.1.0) c.loop-mark.invariant
      | inr none ↦ no_member_left kept whole marks (map kat_tree hyps) (ap (map kat_tree) (nil_from_length hyps none.1.0)) c.loop-mark.invariant
    ]

pub loop-mark-preserved-in_ok-append : goal.loop-mark-preserved-in_ok-append
loop-mark-preserved-in_ok-append c =
    rw (ap (map kat_tree) c.in_ok-append.ensures, map-append kat_tree c.loop-mark.kept.items (c.in_ok-copy.field-0 ∷ []), c.in_ok-copy.ensures)
    (member_kept (map kat_tree c.loop-mark.kept.items) (marked c.args.marks.now c.args.problem.now.hyps) c.in-Some.mark.now (kat_tree c.in-Some.hyp.now)
    c.next.new.self.a.rest.now c.loop-mark.mark-iterator.a.rest.now (map kat_tree c.next.new.self.b.rest.now) (map kat_tree c.loop-mark.mark-iterator.b.rest.now)
    c.in-Some.ensures.steps.0 (ap (map kat_tree) c.in-Some.ensures.steps.1) c.if-mark.true c.loop-mark.invariant)

pub loop-mark-preserved : goal.loop-mark-preserved
loop-mark-preserved c =
    member_left (map kat_tree c.loop-mark.kept.items) (marked c.args.marks.now c.args.problem.now.hyps) c.in-Some.mark.now (kat_tree c.in-Some.hyp.now)
    c.next.new.self.a.rest.now c.loop-mark.mark-iterator.a.rest.now (map kat_tree c.next.new.self.b.rest.now) (map kat_tree c.loop-mark.mark-iterator.b.rest.now)
    c.in-Some.ensures.steps.0 (ap (map kat_tree) c.in-Some.ensures.steps.1) c.if-mark.false c.loop-mark.invariant
