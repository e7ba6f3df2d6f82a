use Rattle.std.proofs.Common.{List, length, sym, ap, ◌∙◌, subst}
use Rattle.kat_model.specs.Degrees.{long_hyps, with_hyps}
use Rattle.goal_forms.proofs.LongProblems.{long_is_problem}
use Rattle.term_nodes.proofs.Growing.{Grows-trans}
use Rattle.walk_under.specs.Counting.{AreShortHyps}
use Rattle.walk_under.specs.declared.counting.ShortHyp.{ShortHyp}
use Rattle.walk_under.proofs.UnderDecisions.{closed_later}
use Rattle.walk_under.proofs.deciding.string_of_walks.Goals as goal

pub returns-in_err-shorts-clause-kept : goal.returns-in_err-shorts-clause-kept
returns-in_err-shorts-clause-kept c = c.in_err-shorts.ensures.kept

pub returns-in_err-flags-clause-kept : goal.returns-in_err-flags-clause-kept
returns-in_err-flags-clause-kept c = c.in_ok-shorts.ensures.kept

pub string_found-requires-clause-within : goal.string_found-requires-clause-within
string_found-requires-clause-within c = c.requires.within

pub string_found-requires-clause-flags : goal.string_found-requires-clause-flags
string_found-requires-clause-flags c = ap length c.as_mut_slice-counts.ensures.value ∙ c.in_ok-flags.ensures

pub string_found-requires-clause-hyps : goal.string_found-requires-clause-hyps
string_found-requires-clause-hyps c = subst (λ (l : List ShortHyp). AreShortHyps c.args.problem.now c.short_hyps.new.store l) (sym c.as_slice-hyps.ensures.value) c.in_ok-shorts.ensures.hyps

pub string_found-requires-clause-sides : goal.string_found-requires-clause-sides
string_found-requires-clause-sides c =
    let q = c.args.problem.now in
    let grows = c.in_ok-shorts.ensures.kept in
    closed_later c.args.store.now c.short_hyps.new.store (with_hyps q (long_hyps q)) (long_is_problem q c.requires.within) c.args.sides.now grows (grows.sound c.requires.sides.sound) c.requires.sides

pub string_found-requires-clause-walk : goal.string_found-requires-clause-walk
string_found-requires-clause-walk c = c.requires.walk c.short_hyps.new.store

pub returns-clause-answer : goal.returns-clause-answer
returns-clause-answer c = c.string_found.ensures.answer

pub returns-clause-kept : goal.returns-clause-kept
returns-clause-kept c = Grows-trans _ _ _ c.in_ok-shorts.ensures.kept c.string_found.ensures.kept
