use Rattle.std.proofs.lemmas.Result.{IfOk-weaker}
use Rattle.tool_try.specs.Working.TrialStores.{trial_stores_are, stores_of_file}
use Rattle.tool_try.proofs.try_goal.trial_stores.Goals as goal

pub returns-clause-stores : goal.returns-clause-stores
returns-clause-stores c =
    IfOk-weaker c.all_stores.result _ _
    (λ v e. trial_stores_are c.args.file.now _ c.file.view_is v.items c.in_ok-numbers.numbers.items c.deref.result.now c.deref.ensures.value c.in_ok-numbers.ensures.numbers e)
    c.all_stores.ensures.stores

pub returns-clause-within : goal.returns-clause-within
returns-clause-within c = IfOk-weaker c.all_stores.result _ _ (λ v all. stores_of_file c.args.file.now _ c.file.view_is v.items all) c.all_stores.ensures.within
