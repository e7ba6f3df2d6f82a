use Rattle.std.proofs.Common.{◌≡◌, ◌+◌, ◌*◌, ◌-◌, List, length, vec_len}
use Rattle.flow_model.specs.declared.sort.Sort.{Sort}
use Rattle.flow_model.specs.Matches.{matches_of}
use Rattle.flow_pieces.specs.SameTexts.{walk_pairs}
use Rattle.flow_matches.specs.MatchViews.{pair_of}
use Rattle.flow_matches.specs.Working.TextWalks.{Pairs, waiting_of, HasMet}
use Rattle.flow_matches.proofs.TextSteps.{Remains}
use Rattle.flow_matches.proofs.text.visit_all.Given as goal

-- the steps that are left give the answer
abbrev pub invariant-loop-step : goal.invariant-loop-step
invariant-loop-step l = record {
  before : vec_len l.walk.before ≡ length l.before;
  after : vec_len l.walk.after ≡ length l.after;
  rest : (sorts : List Sort) (met : Pairs) → HasMet l.initial.walk met → Remains (pair_of sorts l.before l.after) (matches_of l.matches) (walk_pairs (pair_of sorts l.before l.after) (matches_of l.matches) (2 * length l.before + 4) met (waiting_of l.initial.walk)) (2 * length l.before + 4 - l._step) l.walk;
}
