use Rattle.std.proofs.Common.{ap, ◌∙◌}
use Rattle.std.specs.BTreeMap.{insert_entry}
use Rattle.std.specs.Ordering.{nat_cmp}
use Rattle.cert_checker.proofs.StepLists.{one_represents}
use Rattle.cert_checker.proofs.derivatives.empty_product.Goals as goal

pub returns-clause-targets : goal.returns-clause-targets
returns-clause-targets c =
    one_represents c.args.tables.now c.term.new.self c.insert.new.self.entries c.in_ok-one.one c.args.guard c.term.ensures.grows c.requires c.in_ok-one.ensures.is_term c.in_ok-one.ensures.tree
    (c.in_ok-insert.ensures.entries ∙ ap (λ l. insert_entry nat_cmp l c.in_ok-one.one c.args.guard) c.new-targets.ensures.empty)
