use Rattle.std.proofs.Common.{◌≡◌, ◌<◌, sym, ◌∙◌, subst}
use Rattle.std.proofs.lemmas.Bool.{eqb-true, not-false}
use Rattle.test_diagrams.proofs.Kept.{KeepsFunctions-trans}
use Rattle.walk_regions.proofs.BarSources.{independent_of_equal}
use Rattle.walk_regions.proofs.bars.depends_on.Goals as goal

pub returns-clause-free : goal.returns-clause-free
returns-clause-free c = λ e.
    let same : c.in_ok-low.low ≡ c.in_ok-high.high = eqb-true c.in_ok-low.low c.in_ok-high.high (not-false _ (sym c.ne.ensures ∙ e)) in
    independent_of_equal c.args.diagrams.now c.fix.new.self c.fix-2.new.self c.args.id c.args.test c.in_ok-low.low c.in_ok-high.high c.in_ok-low.ensures.kept c.in_ok-high.ensures.kept c.requires.id c.in_ok-low.ensures.function c.in_ok-high.ensures.function same

pub fix-requires-2-clause-id : goal.fix-requires-2-clause-id
fix-requires-2-clause-id c = c.in_ok-low.ensures.kept.ids c.args.id c.requires.id

pub fix-requires-2-clause-in_range : goal.fix-requires-2-clause-in_range
fix-requires-2-clause-in_range c = subst (λ n. c.args.test < n) (sym c.in_ok-low.ensures.kept.tests) c.requires.test

pub returns-in_err-high-clause-kept : goal.returns-in_err-high-clause-kept
returns-in_err-high-clause-kept c = KeepsFunctions-trans _ _ _ c.in_ok-low.ensures.kept c.in_err-high.ensures.kept

pub returns-clause-kept : goal.returns-clause-kept
returns-clause-kept c = KeepsFunctions-trans _ _ _ c.in_ok-low.ensures.kept c.in_ok-high.ensures.kept
