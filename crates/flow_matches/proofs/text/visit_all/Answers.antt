use Rattle.std.proofs.Common.{◌≡◌, ◌+◌, ◌*◌, ◌-◌, ℕ, length, reverse, refl, ap, ◌∙◌, subst, arith}
use Rattle.std.proofs.lemmas.List.{nil_from_length}
use Rattle.flow_model.specs.Matches.{matches_of}
use Rattle.flow_pieces.specs.SameTexts.{walk_pairs}
use Rattle.flow_matches.specs.MatchViews.{pair_of}
use Rattle.flow_matches.specs.Working.TextWalks.{waiting_of, Visits}
use Rattle.flow_matches.proofs.TextSteps.{no_pair_waits, pair_goes, pair_ends, no_steps, next_waits}
use Rattle.flow_matches.proofs.text.visit_all.Goals as goal

whole_count : (n : ℕ) → n - 0 ≡ n
whole_count n = omega arith

pub loop-step-init : goal.loop-step-init
loop-step-init c = record {
  before = c.requires.before;
  after = c.requires.after;
  rest = λ sorts met has. (met, has, ap (λ n. walk_pairs (pair_of sorts c.args.before.now c.args.after.now) (matches_of c.args.matches.now) n met (waiting_of c.args.walk.now)) (whole_count (2 * length c.args.before.now + 4)));
}

pub returns-in-None : goal.returns-in-None
returns-in-None c = λ sorts met has.
    no_pair_waits (pair_of sorts c.args.before.now c.args.after.now) (matches_of c.args.matches.now) (walk_pairs (pair_of sorts c.args.before.now c.args.after.now) (matches_of c.args.matches.now) (2 * length c.args.before.now + 4) met (waiting_of c.args.walk.now)) ((2 * length c.args.before.now + 4) - c.loop-step._step) ((2 * length c.args.before.now + 4) - (c.loop-step._step + 1)) c.loop-step.walk (omega arith) (c.loop-step.invariant.rest sorts met has)
    (ap reverse (nil_from_length c.loop-step.walk.waiting.items (let long = c.loop-step.walk.waiting.ok.0 in omega (arith, long, c.in-None.ensures.cases.0))))

pub returns-then-not-branch : goal.returns-then-not-branch
returns-then-not-branch c = λ sorts met has.
    pair_ends (pair_of sorts c.args.before.now c.args.after.now) (matches_of c.args.matches.now) (walk_pairs (pair_of sorts c.args.before.now c.args.after.now) (matches_of c.args.matches.now) (2 * length c.args.before.now + 4) met (waiting_of c.args.walk.now)) ((2 * length c.args.before.now + 4) - c.loop-step._step) ((2 * length c.args.before.now + 4) - (c.loop-step._step + 1)) c.loop-step.walk (omega arith) (c.loop-step.invariant.rest sorts met has) (record { before = c.loop-step.walk.before; after = c.loop-step.walk.after; waiting = c.pop.new.self }) (record { before = refl; after = refl }) c.in-Some.pair (next_waits c.loop-step.walk.waiting.items c.pop.new.self.items c.in-Some.pair c.in-Some.ensures.items) c.visit.new.walk
    (subst (λ b. Visits (pair_of sorts c.args.before.now c.args.after.now) (matches_of c.args.matches.now) c.in-Some.pair b (record { before = c.loop-step.walk.before; after = c.loop-step.walk.after; waiting = c.pop.new.self }) c.visit.new.walk) c.if-not-branch.true (c.in_ok-visit-in-Some.ensures.visits sorts))

pub loop-step-preserved : goal.loop-step-preserved
loop-step-preserved c = record {
  before = c.in_ok-visit-in-Some.ensures.lengths.before ∙ c.loop-step.invariant.before;
  after = c.in_ok-visit-in-Some.ensures.lengths.after ∙ c.loop-step.invariant.after;
  rest = λ sorts met has.
      pair_goes (pair_of sorts c.args.before.now c.args.after.now) (matches_of c.args.matches.now) (walk_pairs (pair_of sorts c.args.before.now c.args.after.now) (matches_of c.args.matches.now) (2 * length c.args.before.now + 4) met (waiting_of c.args.walk.now)) ((2 * length c.args.before.now + 4) - c.loop-step._step) ((2 * length c.args.before.now + 4) - (c.loop-step._step + 1)) c.loop-step.walk (omega arith) (c.loop-step.invariant.rest sorts met has) (record { before = c.loop-step.walk.before; after = c.loop-step.walk.after; waiting = c.pop.new.self }) (record { before = refl; after = refl }) c.in-Some.pair (next_waits c.loop-step.walk.waiting.items c.pop.new.self.items c.in-Some.pair c.in-Some.ensures.items) c.visit.new.walk
      (subst (λ b. Visits (pair_of sorts c.args.before.now c.args.after.now) (matches_of c.args.matches.now) c.in-Some.pair b (record { before = c.loop-step.walk.before; after = c.loop-step.walk.after; waiting = c.pop.new.self }) c.visit.new.walk) c.if-not-branch.false (c.in_ok-visit-in-Some.ensures.visits sorts));
}

pub returns : goal.returns
returns c = λ sorts met has. no_steps (pair_of sorts c.args.before.now c.args.after.now) (matches_of c.args.matches.now) (walk_pairs (pair_of sorts c.args.before.now c.args.after.now) (matches_of c.args.matches.now) (2 * length c.args.before.now + 4) met (waiting_of c.args.walk.now)) ((2 * length c.args.before.now + 4) - c.loop-step._step) c.loop-step.walk (omega arith) (c.loop-step.invariant.rest sorts met has)
