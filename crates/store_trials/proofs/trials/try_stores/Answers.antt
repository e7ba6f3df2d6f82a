use Rattle.std.proofs.Common.{sym, subst, arith}
use Rattle.std.proofs.lemmas.Bool.{both_ways}
use Rattle.kat_model.specs.Stores.{IsStore}
use Rattle.while_lang.specs.Trees.{goal_tree}
use Rattle.store_trials.specs.Trials.{ShowFalse}
use Rattle.store_trials.proofs.TrialFacts.{none_more, counted_more, none_found}
use Rattle.store_trials.proofs.trials.try_stores.Goals as goal

pub try_store-requires-clause-within : goal.try_store-requires-clause-within
try_store-requires-clause-within c = subst (IsStore c.args.width) (sym c.store-item.is) (c.requires.within c.loop-store.store-index c.store-item.result c.loop-store-test.true)

pub loop-store-preserved : goal.loop-store-preserved
loop-store-preserved c =
    let g = goal_tree c.args.goal.now in
    let not : ShowFalse c.args.width g c.store-item.result c.in_ok-tried.tried.ends.items → ⊥ = λ show. both_ways c.in_ok-tried.tried.shown c.if-tried.false (c.in_ok-tried.ensures.shown.1 show) in
    record {
      none = none_more c.args.width c.args.turns g c.requires.concrete c.args.stores.now c.loop-store.store-index c.store-item.result c.in_ok-tried.tried.ends.items c.loop-store-test.true c.store-item.is c.in_ok-tried.ensures.ends not c.loop-store.invariant.none;
      counted = counted_more c.args.width c.args.turns g c.requires.concrete c.args.stores.now c.loop-store.store-index c.store-item.result c.in_ok-tried.tried.ends.items c.loop-store-test.true c.store-item.is c.in_ok-tried.ensures.ends not c.loop-store.cut c.in_ok-tried.tried.cut c.in_ok-tried.ensures.cut c.loop-store.invariant.counted;
      few = omega (arith, c.in_ok-tried.ensures.few);
    }

pub returns : goal.returns
returns c = none_found c.args.width c.args.turns (goal_tree c.args.goal.now) c.requires.concrete c.args.stores.now c.loop-store.store-index c.loop-store.cut c.loop-store-test.false c.loop-store.invariant.counted
