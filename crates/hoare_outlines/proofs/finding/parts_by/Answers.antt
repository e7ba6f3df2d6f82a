use Rattle.kat_model.specs.Trees.{test_tree}
use Rattle.hoare_outlines.proofs.SetIds.{set_kept}
use Rattle.hoare_outlines.proofs.SetParts.{holds_set, fails_set}
use Rattle.hoare_outlines.proofs.finding.parts_by.Goals as goal

pub returns-clause-holds : goal.returns-clause-holds
returns-clause-holds c X is =
    set_kept c.and.new.self c.and-2.new.self c.in_ok-fails.ensures.kept c.in_ok-holds.holds _
    (holds_set c.args.diagrams.now c.of_test.new.self c.not.new.self c.and.new.self c.args.set c.in_ok-there.there c.in_ok-holds.holds (test_tree c.args.test.now) X
    c.in_ok-there.ensures.kept c.in_ok-elsewhere.ensures.kept c.in_ok-holds.ensures.kept c.in_ok-there.ensures.function c.in_ok-holds.ensures.function is)

pub returns-clause-fails : goal.returns-clause-fails
returns-clause-fails c X is =
    fails_set c.args.diagrams.now c.of_test.new.self c.not.new.self c.and.new.self c.and-2.new.self c.args.set c.in_ok-there.there c.in_ok-elsewhere.elsewhere c.in_ok-fails.fails (test_tree c.args.test.now) X
    c.in_ok-there.ensures.kept c.in_ok-elsewhere.ensures.kept c.in_ok-holds.ensures.kept c.in_ok-fails.ensures.kept c.in_ok-there.ensures.function c.in_ok-elsewhere.ensures.function c.in_ok-fails.ensures.function is
