use Rattle.std.proofs.Common.{◌≡◌, [], Some, length, get_or, sym, subst, arith}
use Rattle.std.specs.Vec.{with_items}
use Rattle.std.proofs.lemmas.List.{with_items_is}
use Rattle.std.proofs.lemmas.Result.{on_ok_weaker}
use Rattle.kat_model.specs.Members.{Has}
use Rattle.walk_up_to.specs.Indices.{pair_side_at}
use Rattle.walk_up_to.proofs.IndexLists.{represents_member}
use Rattle.walk_up_to.proofs.index.PairIndex.add_under_member.Goals as goal

pub returns-clause-added : goal.returns-clause-added
returns-clause-added c =
    let lists = c.add_under.new.lists in
    let long : length lists ≡ c.widen.new.lists.len = omega (arith, c.deref_mut.ensures.len, c.add_under.auto.lists) in
    on_ok_weaker c.add_under.result
    (λ h. represents_member (record { apart = c.self.inside.apart; under = (with_items c.widen.new.lists lists).items }) c.args.set.now c.in-Some.term c.witness-other.result c.number-number.result c.args.place c.args.side c.in-Some.ensures c.witness-other.ensures c.number-number.ensures
    (subst (λ xs. Has (get_or xs c.number-number.result []) (pair_side_at c.args.place c.args.side (Some c.witness-other.result))) (sym (with_items_is c.widen.new.lists lists long)) h))
    c.add_under.ensures.added
