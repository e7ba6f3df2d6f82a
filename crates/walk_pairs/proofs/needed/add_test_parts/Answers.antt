use Rattle.std.proofs.Common.{sym, ap, subst, ⊎_elim}
use Rattle.term_nodes.specs.Nodes.{test_parts}
use Rattle.walk_pairs.specs.Needed.{AddsAll}
use Rattle.kat_model.proofs.NumberKeys.{adds_one, adds_two}
use Rattle.walk_pairs.proofs.needed.add_test_parts.Goals as goal

pub returns-in_ok-insert-in-Not : goal.returns-in_ok-insert-in-Not
returns-in_ok-insert-in-Not c =
    subst (AddsAll c.args.set.now.keys c.insert.new.self.keys) (sym (ap test_parts c.in-Not.is))
    (adds_one c.args.set.now.keys c.insert.new.self.keys c.in-Not.b c.in_ok-insert-in-Not.ensures.keys)

pub returns-in_ok-insert-in-And-2 : goal.returns-in_ok-insert-in-And-2
returns-in_ok-insert-in-And-2 c =
    subst (AddsAll c.args.set.now.keys c.insert-in-And-2.new.self.keys) (sym (⊎_elim (ap test_parts) (ap test_parts) c.in-And.is))
    (adds_two c.args.set.now.keys c.insert-in-And.new.self.keys c.insert-in-And-2.new.self.keys c.in-And.b c.in-And.c c.in_ok-insert-in-And.ensures.keys c.in_ok-insert-in-And-2.ensures.keys)
