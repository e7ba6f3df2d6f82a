use Rattle.std.proofs.Common.{List, subst}
use Rattle.std.proofs.lemmas.List.{take_all}
use Rattle.term_nodes.proofs.Growing.{Grows-trans}
use Rattle.test_diagrams.proofs.Kept.{KeepsFunctions-trans}
use Rattle.partial_derivs.specs.declared.moves.Guarded.{Guarded}
use Rattle.partial_derivs.specs.Working.Gathered.{moves_of, Follows}
use Rattle.partial_derivs.proofs.Items.{has_item}
use Rattle.partial_derivs.proofs.Kept.{Keeps-trans, IsTermOf-kept}
use Rattle.partial_derivs.proofs.Followed.{step_followed}
use Rattle.partial_derivs.proofs.gathered.Gathered.with_tail.Goals as goal

pub add_followed-requires-clause-guards : goal.add_followed-requires-clause-guards
add_followed-requires-clause-guards c = c.loop-guarded.invariant.follows.guards

pub add_followed-requires-clause-targets : goal.add_followed-requires-clause-targets
add_followed-requires-clause-targets c = c.loop-guarded.invariant.follows.targets

pub add_followed-requires-clause-guarded : goal.add_followed-requires-clause-guarded
add_followed-requires-clause-guarded c =
    c.loop-guarded.invariant.kept.functions.ids c.guarded-item.result.guard
    (c.requires.guards c.guarded-item.result (has_item c.args.moves.now c.loop-guarded.guarded-index c.guarded-item.result c.loop-guarded-test.true c.guarded-item.is))

pub add_followed-requires-clause-to : goal.add_followed-requires-clause-to
add_followed-requires-clause-to c =
    IsTermOf-kept _ _ _ _ c.loop-guarded.invariant.kept c.guarded-item.result.to
    (c.requires.targets c.guarded-item.result (has_item c.args.moves.now c.loop-guarded.guarded-index c.guarded-item.result c.loop-guarded-test.true c.guarded-item.is))

pub add_followed-requires-clause-tail : goal.add_followed-requires-clause-tail
add_followed-requires-clause-tail c = IsTermOf-kept _ _ _ _ c.loop-guarded.invariant.kept c.args.tail c.requires.tail

pub returns-in_err-add_followed-clause-trees : goal.returns-in_err-add_followed-clause-trees
returns-in_err-add_followed-clause-trees c = Grows-trans _ _ _ c.loop-guarded.invariant.kept.trees c.in_err-add_followed.ensures.trees

pub returns-in_err-add_followed-clause-kept : goal.returns-in_err-add_followed-clause-kept
returns-in_err-add_followed-clause-kept c =
    KeepsFunctions-trans _ _ _ c.loop-guarded.invariant.kept.functions c.in_err-add_followed.ensures.kept

pub loop-guarded-preserved : goal.loop-guarded-preserved
loop-guarded-preserved c =
    let before = c.loop-guarded.invariant in
    let added = c.in_ok-add_followed.ensures in
    record {
      follows = step_followed _ _ _ _ _ _ _ _ c.args.moves.now c.loop-guarded.guarded-index c.guarded-item.result c.args.tail c.loop-guarded-test.true c.guarded-item.is
          c.requires.guards c.requires.targets c.requires.tail before.kept before.follows added.added added.kept;
      kept = Keeps-trans _ _ _ _ _ _ before.kept (record { trees = added.trees; functions = added.kept });
    }

pub returns-clause-follows : goal.returns-clause-follows
returns-clause-follows c =
    subst (λ (ms : List Guarded). Follows c.args.store.now c.loop-guarded.store c.args.diagrams.now c.loop-guarded.diagrams (moves_of c.loop-guarded.gathered.guards.entries) ms c.args.tail)
    (take_all c.loop-guarded.guarded-index c.args.moves.now c.loop-guarded-test.false) c.loop-guarded.invariant.follows

pub returns-clause-trees : goal.returns-clause-trees
returns-clause-trees c = c.loop-guarded.invariant.kept.trees

pub returns-clause-kept : goal.returns-clause-kept
returns-clause-kept c = c.loop-guarded.invariant.kept.functions
