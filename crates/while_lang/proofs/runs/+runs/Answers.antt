use Rattle.std.proofs.Common.{rules, arith, ◌≡◌, ◌∙◌, sym, true}
use denote.Enum.Bare.{differs_true}
use Rattle.kat_model.specs.Expressions.{cond_tree}
use Rattle.while_lang.specs.Runs.{condition}
use Rattle.while_lang.specs.ProgramViews.{list_tree}
use Rattle.while_lang.specs.Working.Running.{run_end}
use Rattle.while_lang.specs.contracts.outcome.Outcome.{the_type}
use Rattle.while_lang.specs.declared.outcome.Outcome.TheVariants.{Done}
use Rattle.while_lang.proofs.StoreValues.{set_is_store}
use Rattle.while_lang.proofs.Turns.{converse, stopped, passed, run_less, left_over, left_stopped, listed_more, listed_stop}
use Rattle.while_lang.proofs.runs.+runs.Goals as goal

pub run_list-loop-stmt-preserved : goal.run_list-loop-stmt-preserved
run_list-loop-stmt-preserved t c =
    record {
      fewer = omega (arith, c.loop-stmt.invariant.fewer, c.run_stmt-outcome.ensures.fewer);
      whole = c.loop-stmt.invariant.whole ∙ listed_more c.args.width c.args.list.now c.loop-stmt.stmt-index c.stmt-item.result c.loop-stmt-test.true c.stmt-item.is
          c.loop-stmt.store c.loop-stmt.turns c.run_stmt-outcome.result c.run_stmt-outcome.new.store c.run_stmt-outcome.new.turns c.run_stmt-outcome.ensures.ended (search rules);
      length = c.run_stmt-outcome.ensures.length ∙ c.loop-stmt.invariant.length;
      within = c.run_stmt-outcome.ensures.within;
    }

pub run_list-returns-then-ne-clause-ended : goal.run_list-returns-then-ne-clause-ended
run_list-returns-then-ne-clause-ended t c =
    let apart : c.run_stmt-outcome.result ≡ Done → ⊥ = differs_true the_type c.run_stmt-outcome.result Done (sym c.ne.ensures ∙ c.if-ne.true) in
    sym (c.loop-stmt.invariant.whole ∙ listed_stop c.args.width c.args.list.now c.loop-stmt.stmt-index c.stmt-item.result c.loop-stmt-test.true c.stmt-item.is
    c.loop-stmt.store c.loop-stmt.turns c.run_stmt-outcome.result c.run_stmt-outcome.new.store c.run_stmt-outcome.new.turns c.run_stmt-outcome.ensures.ended apart)

pub run_stmt-turns-preserved : goal.run_stmt-turns-preserved
run_stmt-turns-preserved t c =
    let b = condition c.args.width (cond_tree c.in-While.b) in
    let body = run_end c.args.width (list_tree c.p-in-While.inside.list.items) in
    let holds : b c.turns.store ≡ true = rw (← c.store-in-turns.view_is, ← c.deref-in-turns.ensures.value) (sym c.holds-in-turns.ensures ∙ c.turns-test.true) in
    record {
      fewer = omega (arith, c.turns.invariant.fewer, c.run_list-outcome.ensures.fewer);
      whole = c.turns.invariant.whole ∙ converse b body (run_less c.args.width (list_tree c.p-in-While.inside.list.items)) c.turns.store c.turns.turns c.run_list-outcome.result c.run_list-outcome.new.store c.run_list-outcome.new.turns
          holds (omega (arith, c.if-turns-eq0.false)) (rw (← c.deref-in-turns-2.ensures.value) c.run_list-outcome.ensures.ended) (search rules);
      length = c.run_list-outcome.ensures.length ∙ c.turns.invariant.length;
      within = c.run_list-outcome.ensures.within;
    }

pub run_stmt-returns-then-ne-clause-ended : goal.run_stmt-returns-then-ne-clause-ended
run_stmt-returns-then-ne-clause-ended t c =
    let b = condition c.args.width (cond_tree c.in-While.b) in
    let body = run_end c.args.width (list_tree c.p-in-While.inside.list.items) in
    let holds : b c.turns.store ≡ true = rw (← c.store-in-turns.view_is, ← c.deref-in-turns.ensures.value) (sym c.holds-in-turns.ensures ∙ c.turns-test.true) in
    let apart : c.run_list-outcome.result ≡ Done → ⊥ = differs_true the_type c.run_list-outcome.result Done (sym c.ne.ensures ∙ c.if-ne.true) in
    rw (c.in-While.is, ← c.p-in-While.view_is)
    (left_stopped _ c.run_list-outcome.result c.run_list-outcome.new.store c.run_list-outcome.new.turns apart
    (c.turns.invariant.whole ∙ stopped b body c.turns.store c.turns.turns c.run_list-outcome.result c.run_list-outcome.new.store c.run_list-outcome.new.turns
    holds (omega (arith, c.if-turns-eq0.false)) (rw (← c.deref-in-turns-2.ensures.value) c.run_list-outcome.ensures.ended) apart))

pub run_stmt-returns-after-turns-clause-ended : goal.run_stmt-returns-after-turns-clause-ended
run_stmt-returns-after-turns-clause-ended t c =
    rw (c.in-While.is, ← c.p-in-While.view_is)
    (left_over _ c.turns.store c.turns.turns
    (c.turns.invariant.whole ∙ passed (condition c.args.width (cond_tree c.in-While.b)) (run_end c.args.width (list_tree c.p-in-While.inside.list.items)) c.turns.store c.turns.turns
    (rw (← c.store-in-turns.view_is, ← c.deref-in-turns.ensures.value) (sym c.holds-in-turns.ensures ∙ c.turns-test.false))))

pub run_stmt-returns-in-Assign-clause-within : goal.run_stmt-returns-in-Assign-clause-within
run_stmt-returns-in-Assign-clause-within t c =
    rw (c.set.ensures) (set_is_store c.args.width c.args.store.now c.in-Assign.x c.value-number.result c.requires c.value-number.ensures.bound)
