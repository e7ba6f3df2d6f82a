-- The comparisons of a table are well formed, and its assignments set declared variables to well-formed forms.
use Rattle.std.proofs.Common.{ℕ, zero, suc, ◌-◌, ◌<◌, List, [], ◌++◌, All, flat_map}
use Rattle.std.proofs.lemmas.List.Elements.{All-nil, All-cons, All-append, All-weaker}
use Rattle.kat_model.specs.declared.limits.TheConstants.{MAX_TESTS}
use Rattle.kat_model.specs.Stores.{modulus}
use Rattle.kat_model.specs.Expressions.{CondTree, always, never, named, compared, negation, both, either}
use Rattle.linear_forms.specs.NormalForms.{IsForm}
use Rattle.linear_forms.specs.Comparisons.{IsAtomic, IsCondForm, comparison_form, substituted}
use Rattle.linear_forms.specs.declared.comparison.Atomic.{Atomic}
use Rattle.linear_forms.specs.declared.comparison.CondForm.{CondForm}
use Rattle.linear_forms.specs.declared.comparison.CondForm.TheVariants.{True, False, Pos, Neg}
use Rattle.linear_forms.proofs.StoredValues.{modulus_above_one}
use Rattle.linear_forms.proofs.Forming.{is_form_normal, is_cond_comparison, is_cond_substituted}
use Rattle.while_lang.specs.Programs.{ProgTree, empty, skip_then, abort_then, assert_then, act_then, assign_then, branch_then, loop_then}
use Rattle.while_lang.specs.Files.{SideTree, term_side, prog_side, GoalTree, equal, below, triple, FileParts}
use Rattle.while_lang.specs.Ranges.{IsProgInRange, IsSideInRange, IsGoalInRange}
use Rattle.abstraction.specs.Comparisons.{Assignment, atomics, cond_comparisons, prog_comparisons, side_comparisons, goal_comparisons, prog_assignments, side_assignments, goal_assignments}
use Rattle.linear_forms.specs.Sameness.{is_same_comparison}
use Rattle.abstraction.specs.Tables.{is_same_assignment, first_comparisons, file_assignments}
use Rattle.abstraction.specs.Rounds.{substitutions, round, rounds, file_comparisons}
use Rattle.abstraction.proofs.EachElement.{All-every, All-with_all_new, All-flat_map, All-append_all}

-- an assignment of a well-formed form to a variable below `vars`
pub record IsAssignment (m vars : ℕ) (a : Assignment) : Type 0 where
  pub var : a.var < vars
  pub form : IsForm m a.form

module _ (m : ℕ) (h : 1 < m) where
  atomics_are_atomic : (b : CondForm) → IsCondForm m b → All (IsAtomic m) (atomics b)
  atomics_are_atomic True i = All-nil (IsAtomic m)
  atomics_are_atomic False i = All-nil (IsAtomic m)
  atomics_are_atomic (Pos a) i = All-cons (IsAtomic m) a [] i (All-nil (IsAtomic m))
  atomics_are_atomic (Neg a) i = All-cons (IsAtomic m) a [] i (All-nil (IsAtomic m))

  both_atomic : (xs ys : List Atomic) → All (IsAtomic m) xs → All (IsAtomic m) ys → All (IsAtomic m) (xs ++ ys)
  both_atomic = All-append (IsAtomic m)

  cond_atomic : (b : CondTree) → All (IsAtomic m) (cond_comparisons m b)
  cond_atomic always = All-nil (IsAtomic m)
  cond_atomic never = All-nil (IsAtomic m)
  cond_atomic (named k) = All-nil (IsAtomic m)
  cond_atomic (compared rel e f) = atomics_are_atomic (comparison_form m rel e f) (is_cond_comparison m rel e f h)
  cond_atomic (negation b) = cond_atomic b
  cond_atomic (both b c) = both_atomic (cond_comparisons m b) (cond_comparisons m c) (cond_atomic b) (cond_atomic c)
  cond_atomic (either b c) = both_atomic (cond_comparisons m b) (cond_comparisons m c) (cond_atomic b) (cond_atomic c)

  prog_atomic : (p : ProgTree) → All (IsAtomic m) (prog_comparisons m p)
  prog_atomic empty = All-nil (IsAtomic m)
  prog_atomic (skip_then rest) = prog_atomic rest
  prog_atomic (abort_then rest) = prog_atomic rest
  prog_atomic (assert_then b rest) = both_atomic (cond_comparisons m b) (prog_comparisons m rest) (cond_atomic b) (prog_atomic rest)
  prog_atomic (act_then a rest) = prog_atomic rest
  prog_atomic (assign_then x e rest) = prog_atomic rest
  prog_atomic (branch_then b p q rest) =
      both_atomic _ (prog_comparisons m rest)
      (both_atomic _ (prog_comparisons m q) (both_atomic (cond_comparisons m b) (prog_comparisons m p) (cond_atomic b) (prog_atomic p)) (prog_atomic q))
      (prog_atomic rest)
  prog_atomic (loop_then b p rest) =
      both_atomic _ (prog_comparisons m rest)
      (both_atomic (cond_comparisons m b) (prog_comparisons m p) (cond_atomic b) (prog_atomic p))
      (prog_atomic rest)

  side_atomic : (p : SideTree) → All (IsAtomic m) (side_comparisons m p)
  side_atomic (term_side e) = All-nil (IsAtomic m)
  side_atomic (prog_side p) = prog_atomic p

  goal_atomic : (g : GoalTree) → All (IsAtomic m) (goal_comparisons m g)
  goal_atomic (equal l r) = both_atomic (side_comparisons m l) (side_comparisons m r) (side_atomic l) (side_atomic r)
  goal_atomic (below l r) = both_atomic (side_comparisons m l) (side_comparisons m r) (side_atomic l) (side_atomic r)
  goal_atomic (triple pre body post) =
      both_atomic _ (cond_comparisons m post)
      (both_atomic (cond_comparisons m pre) (side_comparisons m body) (cond_atomic pre) (side_atomic body))
      (cond_atomic post)

  module _ (tests actions vars : ℕ) where
    both_assigned : (xs ys : List Assignment) → All (IsAssignment m vars) xs → All (IsAssignment m vars) ys → All (IsAssignment m vars) (xs ++ ys)
    both_assigned = All-append (IsAssignment m vars)

    prog_assigned : (p : ProgTree) → IsProgInRange tests actions vars p → All (IsAssignment m vars) (prog_assignments m p)
    prog_assigned empty r = All-nil (IsAssignment m vars)
    prog_assigned (skip_then rest) r = prog_assigned rest r
    prog_assigned (abort_then rest) r = prog_assigned rest r
    prog_assigned (assert_then b rest) r = prog_assigned rest r.1
    prog_assigned (act_then a rest) r = prog_assigned rest r.1
    prog_assigned (assign_then x e rest) r =
        All-cons (IsAssignment m vars) _ (prog_assignments m rest) (record { var = r.0; form = is_form_normal m e h }) (prog_assigned rest r.2)
    prog_assigned (branch_then b p q rest) r =
        both_assigned _ (prog_assignments m rest)
        (both_assigned (prog_assignments m p) (prog_assignments m q) (prog_assigned p r.1) (prog_assigned q r.2))
        (prog_assigned rest r.3)
    prog_assigned (loop_then b p rest) r = both_assigned (prog_assignments m p) (prog_assignments m rest) (prog_assigned p r.1) (prog_assigned rest r.2)

    side_assigned : (p : SideTree) → IsSideInRange tests actions vars p → All (IsAssignment m vars) (side_assignments m p)
    side_assigned (term_side e) r = All-nil (IsAssignment m vars)
    side_assigned (prog_side p) r = prog_assigned p r

    goal_assigned : (g : GoalTree) → IsGoalInRange tests actions vars g → All (IsAssignment m vars) (goal_assignments m g)
    goal_assigned (equal l r) i = both_assigned (side_assignments m l) (side_assignments m r) (side_assigned l i.0) (side_assigned r i.1)
    goal_assigned (below l r) i = both_assigned (side_assignments m l) (side_assignments m r) (side_assigned l i.0) (side_assigned r i.1)
    goal_assigned (triple pre body post) i = side_assigned body i.1

  -- the comparisons that the rounds append are well formed
  substitutions_atomic : (vars : ℕ) (assigned : List Assignment) (table : List Atomic) → All (IsAssignment m vars) assigned → All (IsAtomic m) (substitutions m assigned table)
  substitutions_atomic vars assigned table all =
      All-flat_map (IsAtomic m) _ assigned
      (All-weaker (IsAssignment m vars) (λ a. All (IsAtomic m) (flat_map (λ phi. atomics (substituted m a.var a.form phi)) table))
      (λ a i.
      All-flat_map (IsAtomic m) (λ phi. atomics (substituted m a.var a.form phi)) table
      (All-every (λ phi. All (IsAtomic m) (atomics (substituted m a.var a.form phi)))
      (λ phi. atomics_are_atomic (substituted m a.var a.form phi) (is_cond_substituted m a.var a.form phi h i.form)) table))
      assigned all)

  rounds_atomic : (vars n most : ℕ) (assigned : List Assignment) (table : List Atomic) → All (IsAssignment m vars) assigned → All (IsAtomic m) table → All (IsAtomic m) (rounds n m most assigned table)
  rounds_atomic vars zero most assigned table all atomic = atomic
  rounds_atomic vars (suc n) most assigned table all atomic =
      rounds_atomic vars n most assigned (round m most assigned table) all
      (All-append_all (IsAtomic m) most table (substitutions m assigned table) atomic (substitutions_atomic vars assigned table all))

pub assignments_in_range : (f : FileParts) → IsGoalInRange f.tests f.actions f.vars f.goal → All (IsAssignment (modulus f.width) f.vars) (file_assignments f)
assignments_in_range f r =
    All-with_all_new (IsAssignment (modulus f.width) f.vars) is_same_assignment [] (goal_assignments (modulus f.width) f.goal)
    (All-nil (IsAssignment (modulus f.width) f.vars))
    (goal_assigned (modulus f.width) (modulus_above_one f.width) f.tests f.actions f.vars f.goal r)

pub comparisons_atomic : (f : FileParts) → IsGoalInRange f.tests f.actions f.vars f.goal → All (IsAtomic (modulus f.width)) (file_comparisons f)
comparisons_atomic f r =
    rounds_atomic (modulus f.width) (modulus_above_one f.width) f.vars f.rounds (MAX_TESTS - f.tests) (file_assignments f) (first_comparisons f)
    (assignments_in_range f r)
    (All-with_all_new (IsAtomic (modulus f.width)) is_same_comparison [] (goal_comparisons (modulus f.width) f.goal)
    (All-nil (IsAtomic (modulus f.width)))
    (goal_atomic (modulus f.width) (modulus_above_one f.width) f.goal))
