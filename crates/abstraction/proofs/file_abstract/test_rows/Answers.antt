use Rattle.std.proofs.Common.{◌++◌, ◌∙◌, map, refl, sym, ap}
use Rattle.abstraction.specs.declared.rows.TestRow.TheVariants.{Compare}
use Rattle.abstraction.proofs.MovedRows.{moved, moved_all}
use Rattle.abstraction.proofs.file_abstract.test_rows.Goals as goal

pub loop-atomic-init : goal.loop-atomic-init
loop-atomic-init c = ap (λ l. c.in_ok-rows.rows.items ++ map (λ a. Compare a) l) c.into_iter-atomic-iterator.ensures.into_iter_gives.0

pub loop-atomic-preserved : goal.loop-atomic-preserved
loop-atomic-preserved c =
    moved (λ a. Compare a) c.loop-atomic.rows.items c.loop-atomic.atomic-iterator.rest.items _ c.loop-atomic.invariant
    c.push.new.self.items c.next.new.self.rest.items c.in-Some.atomic _ c.in_ok-push.ensures.items refl c.in-Some.ensures.steps.0

pub returns : goal.returns
returns c =
    let rest = c.loop-atomic.atomic-iterator.rest in
    moved_all (λ a. Compare a) c.loop-atomic.rows.items rest.items _ c.loop-atomic.invariant (sym rest.ok.0 ∙ c.in-None.ensures.steps.0)
    ∙ ap (λ l. l ++ map (λ a. Compare a) c.args.comparisons.items) c.in_ok-rows.ensures
