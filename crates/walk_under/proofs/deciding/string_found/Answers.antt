use Rattle.std.proofs.Common.{◌∙◌}
use Rattle.kat_model.specs.Degrees.{long_hyps, with_hyps}
use Rattle.goal_forms.proofs.LongProblems.{long_is_problem}
use Rattle.term_nodes.proofs.Growing.{Grows-itself, Grows-trans}
use Rattle.walk_under.proofs.UnderDecisions.{closed_later}
use Rattle.walk_under.proofs.CountedWalks.{short_hyps_later}
use Rattle.walk_under.proofs.deciding.string_found.Goals as goal

pub walks-init : goal.walks-init
walks-init c = record { hyps = c.requires.hyps; sides = c.requires.sides; flags = c.requires.flags; kept = Grows-itself c.args.store.now; walk = c.requires.walk }

pub returns-in_err-turn-clause-kept : goal.returns-in_err-turn-clause-kept
returns-in_err-turn-clause-kept c = Grows-trans _ _ _ c.walks.invariant.kept c.in_err-turn.ensures.kept

pub returns-in-Alike-clause-answer : goal.returns-in-Alike-clause-answer
returns-in-Alike-clause-answer c = rw c.in-Alike.is at c.in_ok-turn.ensures.end

pub returns-in-Alike-clause-kept : goal.returns-in-Alike-clause-kept
returns-in-Alike-clause-kept c = Grows-trans _ _ _ c.walks.invariant.kept c.in_ok-turn.ensures.kept

pub returns-in-Refuted-clause-answer : goal.returns-in-Refuted-clause-answer
returns-in-Refuted-clause-answer c = rw c.in-Refuted.is at c.in_ok-turn.ensures.end

pub returns-in-Refuted-clause-kept : goal.returns-in-Refuted-clause-kept
returns-in-Refuted-clause-kept c = Grows-trans _ _ _ c.walks.invariant.kept c.in_ok-turn.ensures.kept

pub walks-smaller : goal.walks-smaller
walks-smaller c = (rw c.in-Again.is at c.in_ok-turn.ensures.end).0

pub walks-preserved : goal.walks-preserved
walks-preserved c =
    let q = c.args.problem.now in
    let b = c.walks.invariant in
    let s = c.walks.store in
    let t = c.turn.new.store in
    let grows = c.in_ok-turn.ensures.kept in
    record {
      hyps = short_hyps_later q s t c.args.hyps.now grows b.hyps;
      sides = closed_later s t (with_hyps q (long_hyps q)) (long_is_problem q c.requires.within) c.args.sides.now grows (grows.sound b.sides.sound) b.sides;
      flags = c.in_ok-turn.ensures.flags ∙ b.flags;
      kept = Grows-trans _ _ _ b.kept grows;
      walk = (rw c.in-Again.is at c.in_ok-turn.ensures.end).1;
    }
