use Rattle.std.proofs.Common.{List, sym, subst, ◌∙◌}
use Rattle.std.specs.Prelude.{All}
use Rattle.kat_model.specs.Stores.{Store}
use Rattle.while_lang.specs.Concrete.{IsStoreOf}
use Rattle.store_trials.proofs.FalseGoals.{concrete_goal}
use Rattle.tool_try.specs.Working.TrialStores.{followers_within}
use Rattle.tool_try.proofs.try_with.string_reply.Goals as goal

pub stores_reply-requires-clause-concrete : goal.stores_reply-requires-clause-concrete
stores_reply-requires-clause-concrete c = concrete_goal c.args.file.now c.requires.concrete c.requires.numbered.goal

pub stores_reply-requires-clause-within : goal.stores_reply-requires-clause-within
stores_reply-requires-clause-within c =
    subst (λ (l : List Store). All (IsStoreOf c.args.file.now) l) (sym (c.deref.ensures.value ∙ c.in_ok-list.ensures.stores))
    (followers_within c.args.file.now c.args.shown.now c.args.string.now c.in_ok-stores.stores.items c.in_ok-stores.ensures.within)
