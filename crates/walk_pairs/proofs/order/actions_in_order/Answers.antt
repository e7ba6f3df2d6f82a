use Rattle.std.proofs.Common.{◌≡◌, ◌≤◌, ◌++◌, length, sym, ap, ◌∙◌, append-nil, arith}
use Rattle.std.proofs.lemmas.List.{drop_all}
use Rattle.walk_pairs.proofs.ActionOrders.{acts_of, sorted_acts}
use Rattle.walk_pairs.proofs.order.actions_in_order.Goals as goal

pub returns : goal.returns
returns c =
    let items = c.deref-act-items.result.now in
    let past : length items ≤ c.loop-act.act-index = omega (arith, c.loop-act-test.false) in
    let all : c.loop-act.acts.items ≡ acts_of c.sort.new.self.items =
    sym (append-nil c.loop-act.acts.items) ∙ ap (λ l. c.loop-act.acts.items ++ acts_of l) (sym (drop_all c.loop-act.act-index items past)) ∙ c.loop-act.invariant ∙ ap acts_of c.deref-act-items.ensures.value in
    sorted_acts c.in_ok-order.order.items c.sort.new.self.items c.args.actions c.loop-act.acts.items c.in_ok-sort.ensures.permutation all c.in_ok-order.ensures
