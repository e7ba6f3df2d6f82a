use Rattle.std.proofs.Common.{◌≡◌, false, get_or, sym, ◌∙◌, arith}
use Rattle.std.proofs.lemmas.List.{get_or_read}
use Rattle.walk_up_to.proofs.Closures.{grown, grown_among}
use Rattle.walk_up_to.proofs.mark_set.MarkSet.mark.Goals as goal

pub invariant_of-self-then-not-index : goal.invariant_of-self-then-not-index
invariant_of-self-then-not-index c =
    grown_among c.self.inside.marks.items c.self.inside.terms.items c.push.new.self.items c.number-number.result c.args.term c.self.invariant c.in_ok-push.ensures.items c.number-number.ensures

pub returns-then-not-index-clause-more : goal.returns-then-not-index-clause-more
returns-then-not-index-clause-more c =
    let off : get_or c.self.inside.marks.items c.number-number.result false ≡ false =
    sym (get_or_read c.self.inside.marks.items c.number-number.result c.index.result.now (omega arith) c.index.ensures false) ∙ c.if-not-index.true in
    grown c.args.self.now c.self.inside.marks.items c.self.inside.terms.items c.push.new.self.items c.number-number.result c.args.term c.self.view_is c.in_ok-push.ensures.items (omega arith) off
