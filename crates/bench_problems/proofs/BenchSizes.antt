-- The generated problems are within the limits on problems.
use Rattle.std.proofs.Common.{◌≡◌, ℕ, zero, suc, ◌+◌, ◌*◌, ◌%◌, ◌<◌, ◌≤◌, List, [], map, Bool, true, false, cond, None, Some, nat_eq, refl, ap, ◌∙◌, subst, sym, arith}
use mathlib.Core.Path.{ap₂}
use Rattle.kat_model.specs.Trees.{prim, Term, kat_tree}
use Rattle.kat_model.specs.Problems.{ProblemParts, IsProblem, problem_fault, problem_parts}
use Rattle.kat_model.specs.declared.tree.Kat.{Kat}
use Rattle.kat_model.specs.declared.problem.BadProblem.{BadProblem}
use Rattle.kat_model.proofs.Faults.{problem_has_no_fault}
use Rattle.while_lang.specs.Flows.{FlowTree, empty, act_then, branch_then, loop_then}
use Rattle.while_lang.specs.Encoding.{encoded}
use Rattle.bench_problems.specs.Generator.{Drawn, drawn, next_state, drawn_number, drawn_action, drawn_by, drawn_program, followed_by, unrolled, right_program, bench_problem}
use Rattle.bench_problems.proofs.UnrolledFlows.{unrolled-followed_by}
use Rattle.bench_problems.proofs.FlowSizes.{IsFit, encoded_in_range, encoded_size, fit_more, fit_none, fit_action, fit_both, fit_branch, fit_loop}

-- an upper bound on the size of a program with at most d levels, with its loops unrolled or not
bound : ℕ → ℕ
bound zero = 2
bound (suc d) = 2 * bound d + 21

record IsDrawnFit (n : ℕ) (f : FlowTree) : Type 0 where
  own : IsFit n f
  unrolled : IsFit n (unrolled f)

number_below : (s : ℕ) → drawn_number s < 4
number_below s = omega arith

action_fit : (n s : ℕ) → 2 ≤ n → IsDrawnFit n (drawn_action s).flow
action_fit n s h =
    let fit = fit_more 2 n _ h (fit_action (drawn_number s) (number_below s)) in record { own = fit; unrolled = fit }

module _ (m k : ℕ) (f : FlowTree) (h : k < 4) (p : IsDrawnFit m f) where
  loop_fit : IsDrawnFit (2 * m + 21) (loop_then (prim k) f empty)
  loop_fit =
      let again = fit_loop m (unrolled f) p.unrolled k h in
      let turn = fit_both m (m + 10) (unrolled f) (loop_then (prim k) (unrolled f) empty) p.unrolled again in
      record {
        own = fit_more (m + 10) _ _ (omega arith) (fit_loop m f p.own k h);
        unrolled = fit_more (m + (m + 10) + 0 + 11) _ _ (omega arith) (fit_branch (m + (m + 10)) 0 (followed_by (unrolled f) (loop_then (prim k) (unrolled f) empty)) empty turn fit_none k h);
      }

  module _ (g : FlowTree) (q : IsDrawnFit m g) where
    both_fit : IsDrawnFit (2 * m + 21) (followed_by f g)
    both_fit = record {
      own = fit_more (m + m) _ _ (omega arith) (fit_both m m f g p.own q.own);
      unrolled = subst (IsFit (2 * m + 21)) (sym (unrolled-followed_by f g)) (fit_more (m + m) _ _ (omega arith) (fit_both m m (unrolled f) (unrolled g) p.unrolled q.unrolled));
    }

    branch_fit : IsDrawnFit (2 * m + 21) (branch_then (prim k) f g empty)
    branch_fit = record {
      own = fit_more (m + m + 11) _ _ (omega arith) (fit_branch m m f g p.own q.own k h);
      unrolled = fit_more (m + m + 11) _ _ (omega arith) (fit_branch m m (unrolled f) (unrolled g) p.unrolled q.unrolled k h);
    }

drawn_by_fit : (m : ℕ) (draw : ℕ → Drawn) → ((s : ℕ) → IsDrawnFit m (draw s).flow) → (n s : ℕ) → IsDrawnFit (2 * m + 21) (drawn_by draw n s).flow
drawn_by_fit m draw all zero s = action_fit (2 * m + 21) s (omega arith)
drawn_by_fit m draw all (suc zero) s = both_fit m 0 (draw s).flow (omega arith) (all s) (draw (draw s).state).flow (all (draw s).state)
drawn_by_fit m draw all (suc (suc zero)) s =
    let p = draw (next_state s) in branch_fit m (drawn_number s) p.flow (number_below s) (all (next_state s)) (draw p.state).flow (all p.state)
drawn_by_fit m draw all (suc (suc (suc n))) s = loop_fit m (drawn_number s) (draw (next_state s)).flow (number_below s) (all (next_state s))

drawn_fit : (d s : ℕ) → IsDrawnFit (bound d) (drawn_program d s).flow
unfolding drawn_program bound
drawn_fit zero s = action_fit 2 s (omega arith)
drawn_fit (suc d) s = drawn_by_fit (bound d) (drawn_program d) (drawn_fit d) (drawn_number s) (next_state s)

bound-four : bound 4 ≡ 347
unfolding bound
bound-four = refl

program_fit : (k : ℕ) → IsDrawnFit 347 (drawn_program 4 k).flow
program_fit k = subst (λ n. IsDrawnFit n (drawn_program 4 k).flow) bound-four (drawn_fit 4 k)

right_fit : (even : Bool) (f : FlowTree) → IsDrawnFit 347 f → IsFit 349 (cond even (unrolled f) (followed_by (unrolled f) (act_then 0 empty)))
right_fit true f h = fit_more 347 349 (unrolled f) (omega arith) h.unrolled
right_fit false f h = fit_both 347 2 (unrolled f) (act_then 0 empty) h.unrolled (fit_action 0 (omega arith))

bench_is_problem : (k : ℕ) → IsProblem (bench_problem k)
bench_is_problem k =
    let f = (drawn_program 4 k).flow in
    let left : IsFit 347 f = (program_fit k).own in
    let right : IsFit 349 (right_program k f) = right_fit (nat_eq (k % 2) 0) f (program_fit k) in
    record {
      tests = omega arith;
      actions = omega arith;
      hyps = tt;
      left = encoded_in_range 347 f left;
      right = encoded_in_range 349 (right_program k f) right;
      size = omega (arith, encoded_size 347 f left, encoded_size 349 (right_program k f) right);
    }

-- a problem over four tests and four actions
abbrev parts : List Term → Term → Term → ProblemParts
parts hyps left right = record { tests = 4; actions = 4; hyps = hyps; left = left; right = right }

-- so the problem is never refused
pub bench_not_refused : (k s t : ℕ) (p q : FlowTree) (hyps : List Kat) (left right : Kat) (bad : BadProblem) →
    drawn p s ≡ drawn_program 4 t → t ≡ k → q ≡ right_program k p → hyps ≡ [] → kat_tree left ≡ encoded p → kat_tree right ≡ encoded q → problem_fault (problem_parts 4 4 hyps left right) ≡ Some bad → ⊥
bench_not_refused k s t p q hyps left right bad made from unrolled none left_is right_is refused =
    let flow : p ≡ (drawn_program 4 k).flow = ap (λ (d : Drawn). d.flow) made ∙ ap (λ n. (drawn_program 4 n).flow) from in
    let l : kat_tree left ≡ (bench_problem k).left = left_is ∙ ap encoded flow in
    let r : kat_tree right ≡ (bench_problem k).right = right_is ∙ ap encoded (unrolled ∙ ap (right_program k) flow) in
    let same : problem_parts 4 4 hyps left right ≡ bench_problem k = ap₂ (parts (map kat_tree hyps)) l r ∙ ap (λ (hs : List Kat). parts (map kat_tree hs) (bench_problem k).left (bench_problem k).right) none in
    let without : problem_fault (problem_parts 4 4 hyps left right) ≡ None = ap problem_fault same ∙ problem_has_no_fault (bench_problem k) (bench_is_problem k) in
    absurd cc
