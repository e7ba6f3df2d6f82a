use Rattle.std.proofs.Common.{sym, ap, subst}
use Rattle.term_nodes.specs.Nodes.{tests_of_term}
use Rattle.walk_pairs.specs.Needed.{AddsAll}
use Rattle.kat_model.proofs.NumberKeys.{adds_one}
use Rattle.walk_pairs.proofs.needed.add_tests.Goals as goal

pub returns-in_ok-insert-in-Test : goal.returns-in_ok-insert-in-Test
returns-in_ok-insert-in-Test c =
    subst (AddsAll c.args.set.now.keys c.insert.new.self.keys) (sym (ap tests_of_term c.in-Test.is))
    (adds_one c.args.set.now.keys c.insert.new.self.keys c.in-Test.b c.in_ok-insert-in-Test.ensures.keys)
