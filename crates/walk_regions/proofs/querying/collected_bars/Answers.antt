use Rattle.std.proofs.Common.{◌+◌, ℕ, Vec, Global, sym, ap, subst}
use Rattle.kat_model.specs.Members.{Has}
use Rattle.test_diagrams.specs.Functions.{IsDiagramId}
use Rattle.partial_derivs.specs.Moves.{AreTargets}
use Rattle.partial_derivs.proofs.Items.{has_item}
use Rattle.partial_derivs.proofs.Kept.{Keeps-itself, Keeps-trans, AreGuards-kept, AreTargets-kept}
use Rattle.walk_regions.specs.declared.bars.Bar.{Bar}
use Rattle.walk_regions.specs.Working.Querying.{AreBarsOf, AreBarsSoFar}
use Rattle.walk_regions.proofs.BarLists.{so_far_none, so_far_more, so_far_all, so_far_sound}
use Rattle.walk_regions.proofs.querying.collected_bars.Goals as goal

pub loop-guarded-init : goal.loop-guarded-init
loop-guarded-init c = record {
  kept = Keeps-itself c.args.store.now c.args.diagrams.now;
  right = c.requires.right;
  so_far = subst (λ l. AreBarsSoFar c.args.store.now c.args.diagrams.now c.args.moves.now 0 l c.args.queried.now) (sym c.new-bars.ensures.items)
      (so_far_none c.args.store.now c.args.diagrams.now c.args.moves.now c.args.queried.now c.requires.tests);
}

pub bar_of-requires-clause-guard : goal.bar_of-requires-clause-guard
bar_of-requires-clause-guard c =
    AreGuards-kept c.args.store.now c.loop-guarded.store c.args.diagrams.now c.loop-guarded.diagrams c.loop-guarded.invariant.kept c.args.moves.now c.requires.guards c.guarded-item.result
    (has_item c.args.moves.now c.loop-guarded.guarded-index c.guarded-item.result c.loop-guarded-test.true c.guarded-item.is)

pub bar_of-requires-clause-to : goal.bar_of-requires-clause-to
bar_of-requires-clause-to c =
    AreTargets-kept c.args.store.now c.loop-guarded.store c.args.diagrams.now c.loop-guarded.diagrams c.loop-guarded.invariant.kept c.args.moves.now c.requires.targets c.guarded-item.result
    (has_item c.args.moves.now c.loop-guarded.guarded-index c.guarded-item.result c.loop-guarded-test.true c.guarded-item.is)

pub returns-in_err-bar-clause-kept : goal.returns-in_err-bar-clause-kept
returns-in_err-bar-clause-kept c = Keeps-trans _ _ _ _ _ _ c.loop-guarded.invariant.kept c.in_err-bar.ensures.kept

pub returns-in_err-append-clause-kept : goal.returns-in_err-append-clause-kept
returns-in_err-append-clause-kept c = Keeps-trans _ _ _ _ _ _ c.loop-guarded.invariant.kept c.in_ok-bar.ensures.kept

pub loop-guarded-preserved : goal.loop-guarded-preserved
loop-guarded-preserved c =
    let moves = c.args.moves.now in
    let before = c.loop-guarded.invariant in
    let kept = c.in_ok-bar.ensures.kept in
    let m = c.guarded-item.result in
    let member = has_item moves c.loop-guarded.guarded-index m c.loop-guarded-test.true c.guarded-item.is in
    let targets : AreTargets c.loop-guarded.store c.loop-guarded.diagrams.tests moves = AreTargets-kept c.args.store.now c.loop-guarded.store c.args.diagrams.now c.loop-guarded.diagrams before.kept moves c.requires.targets in
    let guard = kept.functions.ids m.guard (AreGuards-kept c.args.store.now c.loop-guarded.store c.args.diagrams.now c.loop-guarded.diagrams before.kept moves c.requires.guards m member) in
    record {
      kept = Keeps-trans _ _ _ _ _ _ before.kept kept;
      right = c.in_ok-bar.ensures.right;
      so_far = subst (λ l. AreBarsSoFar c.bar_of.new.store c.bar_of.new.diagrams moves (c.loop-guarded.guarded-index + 1) l c.bar_of.new.queried) (sym c.in_ok-append.ensures)
          (so_far_more c.loop-guarded.store c.bar_of.new.store c.loop-guarded.diagrams c.bar_of.new.diagrams kept moves c.loop-guarded.diagrams.tests targets c.loop-guarded.guarded-index c.loop-guarded.bars.items c.loop-guarded.queried before.so_far m c.loop-guarded-test.true c.guarded-item.is
          c.bar_of.new.queried c.bar_of.auto.queried c.in_ok-bar.bar (subst (IsDiagramId c.bar_of.new.diagrams) (sym c.in_ok-bar.ensures.bar.from) guard) c.in_ok-bar.ensures.bar c.in_ok-bar.ensures.fresh);
    }

pub returns-clause-bars : goal.returns-clause-bars
returns-clause-bars c all act are =
    subst (λ l. AreBarsOf c.loop-guarded.store c.loop-guarded.diagrams all act l) (ap (λ (v : Vec Bar Global). v.items) (sym c.new.ensures.bars))
    (so_far_all c.loop-guarded.store c.loop-guarded.diagrams c.args.moves.now c.loop-guarded.guarded-index c.loop-guarded.bars.items c.loop-guarded.queried c.loop-guarded.invariant.so_far all act are c.loop-guarded-test.false)

pub returns-clause-sound : goal.returns-clause-sound
returns-clause-sound c =
    so_far_sound c.loop-guarded.store c.loop-guarded.diagrams c.args.moves.now c.loop-guarded.guarded-index c.loop-guarded.bars.items c.loop-guarded.queried c.loop-guarded.invariant.so_far
    c.new.result (ap (λ (v : Vec Bar Global). v.items) c.new.ensures.bars) c.new.ensures.images (λ t h. c.in_ok-unasked.ensures t (subst (λ (v : Vec ℕ Global). Has v.items t) c.new.ensures.unasked h))

pub bar_of-requires-clause-tests : goal.bar_of-requires-clause-tests
bar_of-requires-clause-tests c = c.loop-guarded.invariant.so_far.tests

pub bar_of-requires-clause-right : goal.bar_of-requires-clause-right
bar_of-requires-clause-right c = c.loop-guarded.invariant.right

pub returns-in_err-bar-clause-right : goal.returns-in_err-bar-clause-right
returns-in_err-bar-clause-right c = c.in_err-bar.ensures.right

pub returns-in_err-append-clause-right : goal.returns-in_err-append-clause-right
returns-in_err-append-clause-right c = c.in_ok-bar.ensures.right

pub returns-in_err-unasked-clause-right : goal.returns-in_err-unasked-clause-right
returns-in_err-unasked-clause-right c = c.loop-guarded.invariant.right

pub returns-in_err-unasked-clause-kept : goal.returns-in_err-unasked-clause-kept
returns-in_err-unasked-clause-kept c = c.loop-guarded.invariant.kept

pub returns-clause-right : goal.returns-clause-right
returns-clause-right c = c.loop-guarded.invariant.right

pub returns-clause-kept : goal.returns-clause-kept
returns-clause-kept c = c.loop-guarded.invariant.kept
