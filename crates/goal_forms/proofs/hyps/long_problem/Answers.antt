use Rattle.std.proofs.Common.{◌≡◌, ◌++◌, map, None, Some, sym, ap, ◌∙◌, arith, append-nil}
use Rattle.std.specs.List.{filter}
use Rattle.std.proofs.lemmas.List.{at_drop_all}
use Rattle.kat_model.specs.Trees.{kat_tree}
use Rattle.kat_model.specs.Degrees.{is_long, long_hyps, with_hyps}
use Rattle.kat_model.specs.Problems.{problem_parts, problem_fault}
use Rattle.goal_forms.proofs.LongProblems.{long_has_no_fault}
use Rattle.goal_forms.proofs.hyps.long_problem.Goals as goal

pub unreachable-requires : goal.unreachable-requires
unreachable-requires c =
    let q = c.args.problem.now in
    let items = c.hyps-hyp-items.result.now in
    let longs = map kat_tree c.loop-hyp.longs.items in
    let ended = at_drop_all (λ l. longs ++ filter is_long (map kat_tree l)) items c.loop-hyp.hyp-index (omega arith) in
    let hyps : longs ≡ long_hyps q = sym (append-nil longs) ∙ sym ended ∙ c.loop-hyp.invariant ∙ ap (filter is_long) c.hyps-hyp-items.ensures.value in
    let left : kat_tree c.in_ok-left.left ≡ q.left = c.in_ok-left.ensures ∙ c.left.ensures.value in
    let right : kat_tree c.in_ok-right.right ≡ q.right = c.in_ok-right.ensures ∙ c.right.ensures.value in
    let same : problem_parts c.tests.result c.actions.result c.loop-hyp.longs.items c.in_ok-left.left c.in_ok-right.right ≡ with_hyps q (long_hyps q) =
    λ i. record { tests = c.tests.ensures.value i; actions = c.actions.ensures.value i; hyps = hyps i; left = left i; right = right i } in
    let none : None ≡ Some c.in-Err.field-0 = sym (long_has_no_fault q c.tests.ensures.within) ∙ ap problem_fault (sym same) ∙ c.in-Err.ensures.refused in
    absurd cc
