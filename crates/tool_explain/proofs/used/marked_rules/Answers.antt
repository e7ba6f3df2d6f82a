use Rattle.std.proofs.Common.{inl, inr}
use Rattle.std.proofs.lemmas.List.{nil_from_length}
use Rattle.tool_explain.specs.Used.{marked}
use Rattle.tool_explain.proofs.MarkedLists.{member_kept, member_left, no_mark_left, no_member_left}
use Rattle.tool_explain.proofs.used.marked_rules.Goals as goal

pub returns : goal.returns
returns c =
    let marks = c.loop-mark.mark-iterator.a.rest.now in
    let rules = c.loop-mark.mark-iterator.b.rest.now in
    let kept = c.loop-mark.kept.items in
    let whole = marked c.args.marks.now c.args.rules.now in
    elim c.in-None.ensures.steps [
      | inl none ↦ no_mark_left kept whole marks rules (nil_from_length marks none.1.0) c.loop-mark.invariant
      | inr none ↦ no_member_left kept whole marks rules (nil_from_length rules none.1.0) c.loop-mark.invariant
    ]

pub loop-mark-preserved-in-Continue-1 : goal.loop-mark-preserved-in-Continue-1
loop-mark-preserved-in-Continue-1 c =
    rw c.in_ok-append.ensures
    (member_kept c.loop-mark.kept.items (marked c.args.marks.now c.args.rules.now) c.in-Some.mark.now c.in-Some.rule.now
    c.next.new.self.a.rest.now c.loop-mark.mark-iterator.a.rest.now c.next.new.self.b.rest.now c.loop-mark.mark-iterator.b.rest.now
    c.in-Some.ensures.steps.0 c.in-Some.ensures.steps.1 c.if-mark.true c.loop-mark.invariant)

pub loop-mark-preserved : goal.loop-mark-preserved
loop-mark-preserved c =
    member_left c.loop-mark.kept.items (marked c.args.marks.now c.args.rules.now) c.in-Some.mark.now c.in-Some.rule.now
    c.next.new.self.a.rest.now c.loop-mark.mark-iterator.a.rest.now c.next.new.self.b.rest.now c.loop-mark.mark-iterator.b.rest.now
    c.in-Some.ensures.steps.0 c.in-Some.ensures.steps.1 c.if-mark.false c.loop-mark.invariant
