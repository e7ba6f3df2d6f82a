use Rattle.std.proofs.Common.{◌≡◌, [], length, get_or, sym, subst, arith}
use Rattle.std.proofs.lemmas.List.{with_items_is}
use Rattle.std.proofs.lemmas.Result.{on_ok_weaker}
use Rattle.kat_model.specs.Members.{Has}
use Rattle.walk_regions.proofs.entry_list.file.Goals as goal

pub returns-clause-added : goal.returns-clause-added
returns-clause-added c =
    let lists = c.add_under.new.lists in
    let long : length lists ≡ c.widen.new.lists.len = omega (arith, c.deref_mut.ensures.len, c.add_under.auto.lists) in
    on_ok_weaker c.add_under.result
    (λ h. subst (λ xs. Has (get_or xs c.args.key []) c.args.place) (sym (with_items_is c.widen.new.lists lists long)) h)
    c.add_under.ensures.added
