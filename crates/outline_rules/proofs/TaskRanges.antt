-- The tests of a task, and of the checks of its program, are tests of its problem.
use Rattle.std.proofs.Common.{◌≡◌, ℕ, zero, suc, ◌<◌, inl, inr, List, [], ◌∷◌, length, map, get_or, All, refl, ap, subst, arith}
use Rattle.kat_model.specs.Trees.{Term}
use Rattle.kat_model.specs.Members.{Has}
use Rattle.kat_model.specs.Problems.{ProblemParts, IsProblem, IsTestInRange, IsInRange}
use Rattle.kat_model.proofs.Lists.{map_has}
use Rattle.goal_forms.specs.Sides.{SideTrees, failing_run}
use Rattle.while_lang.specs.Encoding.{stmt_terms, encoded}
use Rattle.outline_rules.specs.declared.checks.Check.{Check}
use Rattle.outline_rules.specs.Tasks.{TaskParts, IsTripleOf}
use Rattle.outline_rules.specs.Follows.{conditions_from}
use Rattle.outline_rules.specs.Working.Checks.{condition_of}
use Rattle.outline_rules.specs.Working.Sets.{HasCheckInRange}
use Rattle.outline_rules.proofs.ConditionRanges.{product_parts, conditions_in}

-- the tests and actions of a task whose triple is the problem are those of the problem
pub record IsTaskInRange (q : ProblemParts) (t : TaskParts) : Type 0 where
  pub pre : IsTestInRange q.tests t.pre
  pub flow : (e : Term) → Has (stmt_terms t.flow) e → IsInRange q.tests q.actions e
  pub post : IsTestInRange q.tests t.post

pub task_in_range : (q : ProblemParts) (t : TaskParts) → IsProblem q → IsTripleOf q t → IsTaskInRange q t
task_in_range q t is triple =
    let left : q.left ≡ failing_run t.pre (encoded t.flow) t.post = ap (λ (s : SideTrees). s.left) triple in
    let r = subst (IsInRange q.tests q.actions) left is.left in
    record { pre = r.0; flow = product_parts q.tests q.actions (stmt_terms t.flow) r.1.0; post = r.1.1 }

has_place : (checks : List Check) (k : ℕ) (d : Check) → k < length checks → Has checks (get_or checks k d)
has_place [] k d lt = absurd (omega (arith, lt))
has_place (c ∷ checks) zero d lt = inl refl
has_place (c ∷ checks) (suc k) d lt = inr (has_place checks k d (omega (arith, lt)))

pub checks_in_range : (q : ProblemParts) (t : TaskParts) (checks : List Check) → IsTaskInRange q t → map condition_of checks ≡ conditions_from t.flow 0 → All (HasCheckInRange q.tests) checks
checks_in_range q t checks in_range same k d lt =
    conditions_in q.tests q.actions t.flow 0 in_range.flow (condition_of (get_or checks k d)) (subst (λ l. Has l (condition_of (get_or checks k d))) same (map_has condition_of checks (get_or checks k d) (has_place checks k d lt)))
