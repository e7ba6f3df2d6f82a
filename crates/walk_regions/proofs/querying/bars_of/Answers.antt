use Rattle.std.proofs.Common.{arith}
use Rattle.std.proofs.lemmas.Result.{IfOk-weaker}
use Rattle.partial_derivs.proofs.Kept.{Keeps-itself}
use Rattle.walk_regions.proofs.BarLists.{moves_shuffled, targets_by, guards_by}
use Rattle.walk_regions.proofs.querying.bars_of.Goals as goal

pub collected_bars-requires-clause-guards : goal.collected_bars-requires-clause-guards
collected_bars-requires-clause-guards c =
    guards_by c.args.moves.now c.deref.result.now c.args.act (moves_shuffled c.args.moves.now c.in_ok-own.own.items c.reverse.new.self.items c.deref.result.now c.args.act c.in_ok-own.ensures c.reverse.ensures.permutation c.deref.ensures.value)
    c.args.store.now c.args.store.now c.args.diagrams.now c.args.diagrams.now (Keeps-itself c.args.store.now c.args.diagrams.now) c.requires.guards

pub collected_bars-requires-clause-targets : goal.collected_bars-requires-clause-targets
collected_bars-requires-clause-targets c =
    targets_by c.args.moves.now c.deref.result.now c.args.act (moves_shuffled c.args.moves.now c.in_ok-own.own.items c.reverse.new.self.items c.deref.result.now c.args.act c.in_ok-own.ensures c.reverse.ensures.permutation c.deref.ensures.value)
    c.args.store.now c.args.store.now c.args.diagrams.now c.args.diagrams.now (Keeps-itself c.args.store.now c.args.diagrams.now) c.requires.targets

pub collected_bars-requires-clause-tests : goal.collected_bars-requires-clause-tests
collected_bars-requires-clause-tests c = omega (arith, c.as_mut_slice.ensures.len, c.in_ok-queried.ensures.len, c.tests.ensures.tests)

pub returns-clause-bars : goal.returns-clause-bars
returns-clause-bars c =
    let are = moves_shuffled c.args.moves.now c.in_ok-own.own.items c.reverse.new.self.items c.deref.result.now c.args.act c.in_ok-own.ensures c.reverse.ensures.permutation c.deref.ensures.value in
    IfOk-weaker c.collected_bars.result _ _ (λ b own. own c.args.moves.now c.args.act are) c.collected_bars.ensures.bars

pub returns-in_err-own-clause-right : goal.returns-in_err-own-clause-right
returns-in_err-own-clause-right c = c.requires.right

pub returns-in_err-own-clause-kept : goal.returns-in_err-own-clause-kept
returns-in_err-own-clause-kept c = Keeps-itself c.args.store.now c.args.diagrams.now

pub returns-in_err-queried-clause-right : goal.returns-in_err-queried-clause-right
returns-in_err-queried-clause-right c = c.requires.right

pub returns-in_err-queried-clause-kept : goal.returns-in_err-queried-clause-kept
returns-in_err-queried-clause-kept c = Keeps-itself c.args.store.now c.args.diagrams.now

pub collected_bars-requires-clause-right : goal.collected_bars-requires-clause-right
collected_bars-requires-clause-right c = c.requires.right

pub returns-clause-sound : goal.returns-clause-sound
returns-clause-sound c = c.collected_bars.ensures.sound

pub returns-clause-right : goal.returns-clause-right
returns-clause-right c = c.collected_bars.ensures.right

pub returns-clause-kept : goal.returns-clause-kept
returns-clause-kept c = c.collected_bars.ensures.kept
