use Rattle.test_diagrams.proofs.Kept.{KeepsFunctions-trans}
use Rattle.partial_derivs.proofs.ByForm.{product_steps}
use Rattle.partial_derivs.proofs.forms.product_steps.Goals as goal

pub with_tail-requires-clause-guards : goal.with_tail-requires-clause-guards
with_tail-requires-clause-guards c = rw c.deref.ensures.value c.requires.first.guards

pub with_tail-requires-clause-targets : goal.with_tail-requires-clause-targets
with_tail-requires-clause-targets c = rw c.deref.ensures.value c.requires.targets

pub returns-in_err-gathered-clause-kept : goal.returns-in_err-gathered-clause-kept
returns-in_err-gathered-clause-kept c = record {
  trees = c.in_err-gathered.ensures.trees;
  functions = c.in_err-gathered.ensures.kept;
}

pub add_under-requires-clause-guards : goal.add_under-requires-clause-guards
add_under-requires-clause-guards c = c.in_ok-gathered.ensures.follows.guards

pub add_under-requires-clause-moves : goal.add_under-requires-clause-moves
add_under-requires-clause-moves c =
    rw c.deref-2.ensures.value (λ m has. c.in_ok-gathered.ensures.kept.ids m.guard (c.requires.second.guards m has))

pub add_under-requires-clause-guard : goal.add_under-requires-clause-guard
add_under-requires-clause-guard c = c.in_ok-gathered.ensures.kept.ids c.args.first.now.accepts c.requires.first.accepts

pub returns-in_err-add_under-clause-kept : goal.returns-in_err-add_under-clause-kept
returns-in_err-add_under-clause-kept c = record {
  trees = c.in_ok-gathered.ensures.trees;
  functions = KeepsFunctions-trans _ _ _ c.in_ok-gathered.ensures.kept c.in_err-add_under.ensures.kept;
}

pub and-requires-clause-left : goal.and-requires-clause-left
and-requires-clause-left c =
    c.in_ok-add_under.ensures.kept.ids c.args.first.now.accepts (c.in_ok-gathered.ensures.kept.ids c.args.first.now.accepts c.requires.first.accepts)

pub and-requires-clause-right : goal.and-requires-clause-right
and-requires-clause-right c =
    c.in_ok-add_under.ensures.kept.ids c.args.second.now.accepts (c.in_ok-gathered.ensures.kept.ids c.args.second.now.accepts c.requires.second.accepts)

pub returns-in_err-accepts-clause-kept : goal.returns-in_err-accepts-clause-kept
returns-in_err-accepts-clause-kept c = record {
  trees = c.in_ok-gathered.ensures.trees;
  functions = KeepsFunctions-trans _ _ _ c.in_ok-gathered.ensures.kept (KeepsFunctions-trans _ _ _ c.in_ok-add_under.ensures.kept c.in_err-accepts.ensures.kept);
}

pub returns-in_err-moves-clause-kept : goal.returns-in_err-moves-clause-kept
returns-in_err-moves-clause-kept c = record {
  trees = c.in_ok-gathered.ensures.trees;
  functions = KeepsFunctions-trans _ _ _ c.in_ok-gathered.ensures.kept (KeepsFunctions-trans _ _ _ c.in_ok-add_under.ensures.kept c.in_ok-accepts.ensures.kept);
}

pub returns-clause-steps : goal.returns-clause-steps
returns-clause-steps c e is_first is_second =
    let followed = c.in_ok-gathered.ensures in
    let follows = rw c.deref.ensures.value at followed.follows in
    let under = rw (← c.in_ok-moves.ensures.items, c.deref-2.ensures.value) at c.in_ok-add_under.ensures.added in
    product_steps _ _ _ _ _ _ e c.args.tail c.args.first.now c.args.second.now (record { accepts = c.in_ok-accepts.accepts; moves = c.in_ok-moves.moves }) _
    (record { trees = followed.trees; functions = followed.kept }) c.in_ok-add_under.ensures.kept c.in_ok-accepts.ensures.kept
    is_first is_second follows under c.in_ok-accepts.ensures.function c.in_ok-moves.ensures.merged

pub returns-clause-kept : goal.returns-clause-kept
returns-clause-kept c = record {
  trees = c.in_ok-gathered.ensures.trees;
  functions = KeepsFunctions-trans _ _ _ c.in_ok-gathered.ensures.kept (KeepsFunctions-trans _ _ _ c.in_ok-add_under.ensures.kept c.in_ok-accepts.ensures.kept);
}
