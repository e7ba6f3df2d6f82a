use Rattle.std.proofs.Common.{◌≡◌, Some, slice_get, sym, ◌∙◌, subst}
use Rattle.walk_up_to.proofs.Closures.{made_itself, more_itself, at_read, made_at, closed_at, closed_out}
use Rattle.walk_up_to.proofs.saturation.add_at.Goals as goal

pub returns-then-lacks-clause-closed : goal.returns-then-lacks-clause-closed
returns-then-lacks-clause-closed c = λ _. closed_out c.args.listed.now.pairs c.args.pair_side c.args.marked.now.marks (sym c.lacks.ensures ∙ c.if-lacks.true)

pub returns-clause-made : goal.returns-clause-made
returns-clause-made c =
    let at = c.in-Some.ensures.lookup in
    let read : slice_get c.pairs.result.now c.args.pair_side.place ≡ Some c.in-Some.pair.now = at_read c.pairs.result.now c.args.pair_side.place c.in-Some.pair.now at.3.0 at.1 in
    made_at c.args.listed.now.pairs c.args.pair_side c.in-Some.pair.now c.args.marked.now.marks c.add_across.new.marked.marks
    (subst (λ ps. slice_get ps c.args.pair_side.place ≡ Some c.in-Some.pair.now) c.pairs.ensures.value read) c.in_ok-is_new.ensures.marks

pub returns-clause-closed : goal.returns-clause-closed
returns-clause-closed c =
    let at = c.in-Some.ensures.lookup in
    let read : slice_get c.pairs.result.now c.args.pair_side.place ≡ Some c.in-Some.pair.now = at_read c.pairs.result.now c.args.pair_side.place c.in-Some.pair.now at.3.0 at.1 in
    closed_at c.args.listed.now.pairs c.args.pair_side c.in-Some.pair.now c.args.marked.now c.add_across.new.marked c.in_ok-is_new.is_new
    (subst (λ ps. slice_get ps c.args.pair_side.place ≡ Some c.in-Some.pair.now) c.pairs.ensures.value read) c.in_ok-is_new.ensures.marks c.in_ok-is_new.ensures.more

pub returns-then-lacks-clause-made : goal.returns-then-lacks-clause-made
returns-then-lacks-clause-made c = made_itself c.args.listed.now.pairs c.args.marked.now.marks

pub returns-then-lacks-clause-more : goal.returns-then-lacks-clause-more
returns-then-lacks-clause-more c = more_itself c.args.marked.now

pub returns-in_default-clause-made : goal.returns-in_default-clause-made
returns-in_default-clause-made c = made_itself c.args.listed.now.pairs c.args.marked.now.marks

pub returns-in_default-clause-more : goal.returns-in_default-clause-more
returns-in_default-clause-more c = more_itself c.args.marked.now

pub returns-clause-more : goal.returns-clause-more
returns-clause-more c = c.in_ok-is_new.ensures.more
