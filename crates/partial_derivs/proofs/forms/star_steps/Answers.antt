use Rattle.std.proofs.Common.{sym, subst}
use Rattle.partial_derivs.specs.Moves.{AreGuards, AreTargets}
use Rattle.partial_derivs.proofs.ByForm.{star_steps}
use Rattle.partial_derivs.proofs.forms.star_steps.Goals as goal

pub returns-clause-steps : goal.returns-clause-steps
returns-clause-steps c e is_inner tree =
    let followed = c.in_ok-gathered.ensures in
    let follows = rw (← c.in_ok-moves.ensures.items, c.deref.ensures.value) at followed.follows in
    star_steps _ _ _ _ e c.args.own c.args.inner.now (record { accepts = c.constant.result; moves = c.in_ok-moves.moves })
    (record { trees = followed.trees; functions = followed.kept }) is_inner tree follows c.constant.ensures.function c.in_ok-moves.ensures.merged

pub with_tail-requires-clause-guards : goal.with_tail-requires-clause-guards
with_tail-requires-clause-guards c = subst (AreGuards c.args.diagrams.now) (sym c.deref.ensures.value) c.requires.inner.guards

pub with_tail-requires-clause-targets : goal.with_tail-requires-clause-targets
with_tail-requires-clause-targets c =
    subst (AreTargets c.args.store.now c.args.diagrams.now.tests) (sym c.deref.ensures.value) c.requires.targets

pub with_tail-requires-clause-tail : goal.with_tail-requires-clause-tail
with_tail-requires-clause-tail c = c.requires.own

pub returns-in_err-gathered-clause-kept : goal.returns-in_err-gathered-clause-kept
returns-in_err-gathered-clause-kept c = record { trees = c.in_err-gathered.ensures.trees; functions = c.in_err-gathered.ensures.kept }

pub returns-in_err-moves-clause-kept : goal.returns-in_err-moves-clause-kept
returns-in_err-moves-clause-kept c = record { trees = c.in_ok-gathered.ensures.trees; functions = c.in_ok-gathered.ensures.kept }

pub returns-clause-kept : goal.returns-clause-kept
returns-clause-kept c = record { trees = c.in_ok-gathered.ensures.trees; functions = c.in_ok-gathered.ensures.kept }
