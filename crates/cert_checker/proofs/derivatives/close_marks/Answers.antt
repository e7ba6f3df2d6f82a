use Rattle.std.proofs.Common.{◌≡◌, ◌-◌, ℕ, ⊎_elim, false, true, Some, length, slice_get, sym, ap, ◌∙◌, arith}
use Rattle.std.proofs.lemmas.Bool.{true≢false}
use Rattle.std.proofs.lemmas.Option.{slice_get-get_or, get_or_from_slice_get}
use Rattle.term_nodes.specs.declared.TermNode.{TermNode}
use Rattle.term_nodes.specs.declared.TermNode.TheVariants.{Sum, Seq, Star}
use Rattle.cert_checker.specs.Marks.{IsMarked}
use Rattle.cert_checker.proofs.ClosingMarks.{parts_before, closing_begins, closing_past, closing_more, closing_ends}
use Rattle.cert_checker.proofs.derivatives.close_marks.Goals as goal

pub loop-term-init : goal.loop-term-init
loop-term-init c = closing_begins c.args.tables.now (length c.args.marks.now) c.args.marks.now (omega arith)

pub loop-term-preserved-in-Sum : goal.loop-term-preserved-in-Sum
loop-term-preserved-in-Sum c =
    let t = c.args.tables.now in
    let f = c.loop-term.term in
    let marks = c.loop-term.marks in
    let own : IsMarked marks (f - 1) = slice_get-get_or marks (f - 1) false (omega arith) ∙ ap Some c.if-marks-term.true in
    let more = λ (node : TermNode ℕ ℕ) (at : slice_get t.terms (f - 1) ≡ Some node). closing_more t f c.args.marks.now marks c.loop-term-test.true c.loop-term.invariant node at own (parts_before t c.term_node.ensures.tables (f - 1) node at) in
    ⊎_elim
    (λ e. more (Sum c.in-Sum.x c.in-Sum.y) (c.term_node.ensures.node ∙ ap Some e))
    (λ e. more (Seq c.in-Sum.x c.in-Sum.y) (c.term_node.ensures.node ∙ ap Some e))
    c.in-Sum.is

pub loop-term-preserved-in-Star-1 : goal.loop-term-preserved-in-Star-1
loop-term-preserved-in-Star-1 c =
    let t = c.args.tables.now in
    let f = c.loop-term.term in
    let marks = c.loop-term.marks in
    let own : IsMarked marks (f - 1) = slice_get-get_or marks (f - 1) false (omega arith) ∙ ap Some c.if-marks-term.true in
    let at : slice_get t.terms (f - 1) ≡ Some (Star c.in-Star.x) = c.term_node.ensures.node ∙ ap Some c.in-Star.is in
    closing_more t f c.args.marks.now marks c.loop-term-test.true c.loop-term.invariant (Star c.in-Star.x) at own (parts_before t c.term_node.ensures.tables (f - 1) (Star c.in-Star.x) at)

pub loop-term-preserved : goal.loop-term-preserved
loop-term-preserved c =
    let f = c.loop-term.term in
    let marks = c.loop-term.marks in
    closing_past c.args.tables.now f c.args.marks.now marks c.loop-term-test.true c.loop-term.invariant (λ m. true≢false (sym (get_or_from_slice_get marks (f - 1) true false m) ∙ c.if-marks-term.false))

pub returns : goal.returns
returns c = closing_ends c.args.tables.now c.loop-term.term c.args.marks.now c.loop-term.marks (omega (arith, c.loop-term-test.false)) c.loop-term.invariant
