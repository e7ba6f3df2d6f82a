use Rattle.std.proofs.Common.{length, map, refl, sym, ap, subst, arith}
use Rattle.std.proofs.lemmas.List.{length-append}
use Rattle.term_nodes.specs.NodeTrees.{tree_at}
use Rattle.partial_derivs.specs.Moves.{AreGuards, AreTargets}
use Rattle.partial_derivs.proofs.Kept.{Keeps-itself, Keeps-trans, Keeps-functions, AreGuards-kept, AreTargets-kept}
use Rattle.partial_derivs.proofs.Tables.{AreRight-kept}
use Rattle.walk_regions.specs.declared.bars.Bars.{Bars}
use Rattle.walk_regions.specs.Working.Querying.{AreBarsOf}
use Rattle.walk_regions.proofs.Allowances.{AreActionBars, action_bars_none, action_bars_more, allowance}
use Rattle.walk_regions.proofs.allowed.AllowedMoves.of_hyps.Goals as goal

pub loop-act-init : goal.loop-act-init
loop-act-init c = record {
  kept = Keeps-itself c.step.new.store c.not.new.self;
  right = AreRight-kept c.step.new.store c.step.new.store c.step.new.diagrams c.not.new.self c.step.new.self (Keeps-functions c.step.new.store c.step.new.diagrams c.not.new.self c.in_ok-allowed.ensures.kept) c.in_ok-steps.ensures.right;
  count = ap length c.new-list.ensures.items;
  bars = subst (AreActionBars c.step.new.store c.not.new.self c.in_ok-steps.steps.moves.items) (sym c.new-list.ensures.items) (action_bars_none c.step.new.store c.not.new.self c.in_ok-steps.steps.moves.items);
}

pub bars_of-requires-clause-guards : goal.bars_of-requires-clause-guards
bars_of-requires-clause-guards c =
    let kept = Keeps-trans _ _ _ _ _ _ (Keeps-functions c.step.new.store c.step.new.diagrams c.not.new.self c.in_ok-allowed.ensures.kept) c.loop-act.invariant.kept in
    subst (AreGuards c.loop-act.diagrams) (sym c.deref.ensures.value) (AreGuards-kept c.step.new.store c.loop-act.store c.step.new.diagrams c.loop-act.diagrams kept c.in_ok-steps.steps.moves.items c.in_ok-steps.ensures.steps.guards)

pub bars_of-requires-clause-targets : goal.bars_of-requires-clause-targets
bars_of-requires-clause-targets c =
    let kept = Keeps-trans _ _ _ _ _ _ (Keeps-functions c.step.new.store c.step.new.diagrams c.not.new.self c.in_ok-allowed.ensures.kept) c.loop-act.invariant.kept in
    subst (AreTargets c.loop-act.store c.loop-act.diagrams.tests) (sym c.deref.ensures.value) (AreTargets-kept c.step.new.store c.loop-act.store c.step.new.diagrams c.loop-act.diagrams kept c.in_ok-steps.steps.moves.items c.in_ok-steps.ensures.steps.targets)

pub returns-in_err-bars-clause-kept : goal.returns-in_err-bars-clause-kept
returns-in_err-bars-clause-kept c =
    Keeps-trans _ _ _ _ _ _ c.in_ok-steps.ensures.kept
    (Keeps-trans _ _ _ _ _ _ (Keeps-functions c.step.new.store c.step.new.diagrams c.not.new.self c.in_ok-allowed.ensures.kept) (Keeps-trans _ _ _ _ _ _ c.loop-act.invariant.kept c.in_err-bars.ensures.kept))

pub returns-in_err-append-clause-kept : goal.returns-in_err-append-clause-kept
returns-in_err-append-clause-kept c =
    Keeps-trans _ _ _ _ _ _ c.in_ok-steps.ensures.kept
    (Keeps-trans _ _ _ _ _ _ (Keeps-functions c.step.new.store c.step.new.diagrams c.not.new.self c.in_ok-allowed.ensures.kept) (Keeps-trans _ _ _ _ _ _ c.loop-act.invariant.kept c.in_ok-bars.ensures.kept))

pub returns-clause-kept : goal.returns-clause-kept
returns-clause-kept c =
    Keeps-trans _ _ _ _ _ _ c.in_ok-steps.ensures.kept
    (Keeps-trans _ _ _ _ _ _ (Keeps-functions c.step.new.store c.step.new.diagrams c.not.new.self c.in_ok-allowed.ensures.kept) c.loop-act.invariant.kept)

pub loop-act-preserved : goal.loop-act-preserved
loop-act-preserved c =
    let moves = c.in_ok-steps.steps.moves.items in
    let before = c.loop-act.invariant in
    let kept = Keeps-trans _ _ _ _ _ _ (Keeps-functions c.step.new.store c.step.new.diagrams c.not.new.self c.in_ok-allowed.ensures.kept) before.kept in
    let targets = AreTargets-kept c.step.new.store c.loop-act.store c.step.new.diagrams c.loop-act.diagrams kept moves c.in_ok-steps.ensures.steps.targets in
    let are = subst (λ l. AreBarsOf c.bars_of.new.store c.bars_of.new.diagrams l c.loop-act.act c.in_ok-bars.bars.bars.items) c.deref.ensures.value c.in_ok-bars.ensures.bars in
    record {
      kept = Keeps-trans _ _ _ _ _ _ before.kept c.in_ok-bars.ensures.kept;
      right = c.in_ok-bars.ensures.right;
      count = omega (arith, ap length c.in_ok-append.ensures, length-append {A = Bars}, before.count);
      bars = subst (AreActionBars c.bars_of.new.store c.bars_of.new.diagrams moves) (sym c.in_ok-append.ensures)
          (action_bars_more c.loop-act.store c.bars_of.new.store c.loop-act.diagrams c.bars_of.new.diagrams c.in_ok-bars.ensures.kept c.loop-act.diagrams.tests moves c.loop-act.list.items c.loop-act.act c.in_ok-bars.bars targets before.count before.bars c.in_ok-bars.ensures.sound are);
    }

pub returns-clause-allowance : goal.returns-clause-allowance
returns-clause-allowance c =
    let before = c.loop-act.invariant in
    let kept = Keeps-trans _ _ _ _ _ _ (Keeps-functions c.step.new.store c.step.new.diagrams c.not.new.self c.in_ok-allowed.ensures.kept) before.kept in
    allowance c.step.new.store c.step.new.diagrams (map (tree_at c.args.store.now) c.args.shorts.now) c.in_ok-steps.steps c.in_ok-steps.ensures.steps c.loop-act.store c.loop-act.diagrams kept
    c.not.new.self c.in_ok-allowed.allowed before.kept.functions c.in_ok-allowed.ensures.function (record { allowed = c.in_ok-allowed.allowed; actions = c.loop-act.list }) c.args.actions refl (omega (arith, before.count)) before.bars

pub not-requires : goal.not-requires
not-requires c = c.in_ok-steps.ensures.steps.accepts.in_range

pub returns-in_err-allowed-clause-right : goal.returns-in_err-allowed-clause-right
returns-in_err-allowed-clause-right c = AreRight-kept c.step.new.store c.step.new.store c.step.new.diagrams c.not.new.self c.step.new.self (Keeps-functions c.step.new.store c.step.new.diagrams c.not.new.self c.in_err-allowed.ensures.kept) c.in_ok-steps.ensures.right

pub returns-in_err-allowed-clause-kept : goal.returns-in_err-allowed-clause-kept
returns-in_err-allowed-clause-kept c = Keeps-trans _ _ _ _ _ _ c.in_ok-steps.ensures.kept (Keeps-functions c.step.new.store c.step.new.diagrams c.not.new.self c.in_err-allowed.ensures.kept)

pub step-requires-clause-terms : goal.step-requires-clause-terms
step-requires-clause-terms c = c.requires.terms

pub step-requires-clause-right : goal.step-requires-clause-right
step-requires-clause-right c = c.requires.right

pub returns-in_err-steps-clause-right : goal.returns-in_err-steps-clause-right
returns-in_err-steps-clause-right c = c.in_err-steps.ensures.right

pub returns-in_err-steps-clause-kept : goal.returns-in_err-steps-clause-kept
returns-in_err-steps-clause-kept c = c.in_err-steps.ensures.kept

pub bars_of-requires-clause-right : goal.bars_of-requires-clause-right
bars_of-requires-clause-right c = c.loop-act.invariant.right

pub returns-in_err-bars-clause-right : goal.returns-in_err-bars-clause-right
returns-in_err-bars-clause-right c = c.in_err-bars.ensures.right

pub returns-in_err-append-clause-right : goal.returns-in_err-append-clause-right
returns-in_err-append-clause-right c = c.in_ok-bars.ensures.right

pub returns-clause-right : goal.returns-clause-right
returns-clause-right c = c.loop-act.invariant.right
