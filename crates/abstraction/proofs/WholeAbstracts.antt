-- The abstraction of a file. All numbers of its problem are in range, so only its size decides whether it is within the
-- limits.
use Rattle.std.proofs.Common.{◌≡◌, ℕ, ◌+◌, ◌-◌, ◌<◌, ◌≤◌, length, ⊎_elim, Result, Ok, Err, refl, ap, sym, ◌∙◌, arith}
use Rattle.std.proofs.lemmas.List.{length-append}
use Rattle.std.proofs.lemmas.Bool.{lt-ltb, le-ltb, cases_lt}
use Rattle.kat_model.specs.Problems.{IsInRange, IsProblem, problem_size}
use Rattle.kat_model.specs.Stores.{modulus}
use Rattle.kat_model.specs.declared.limits.TheConstants.{MAX_TESTS, MAX_ACTIONS, MAX_TERM_NODES}
use Rattle.kat_model.proofs.Faults.{problem_has_no_fault}
use Rattle.while_lang.specs.Files.{FileParts, SideTree, term_side, prog_side, GoalTree, equal, below, triple}
use Rattle.while_lang.specs.Ranges.{IsSideInRange, IsGoalInRange}
use Rattle.while_lang.proofs.RangesGrow.{IsInRange-more}
use Rattle.abstraction.specs.declared.fault.AbstractFault.{AbstractFault}
use Rattle.abstraction.specs.declared.fault.AbstractFault.TheVariants.{NoMemory, TooManyTests, TooManyActions, ProblemTooLarge}
use Rattle.abstraction.specs.Comparisons.{side_assignments, goal_assignments}
use Rattle.abstraction.specs.Tables.{Tables, is_same_assignment, first_comparisons, file_assignments}
use Rattle.abstraction.specs.Rounds.{tables_of}
use Rattle.abstraction.specs.Goals.{side_term, goal_sides}
use Rattle.abstraction.specs.Abstracts.{AbstractParts, abstract_of, abstract_parts, file_problem, IsAbstraction, HasNumbersInRange}
use Rattle.abstraction.specs.Working.FileTables.{IsWithinLimits}
use Rattle.kat_model.proofs.CappedTables.{first_rows_some}
use Rattle.abstraction.proofs.AppendedRows.{rounds_length}
use Rattle.abstraction.proofs.TestRanges.{all_tests, all_actions, cond_test_in, encoded_in}
use Rattle.abstraction.proofs.HypothesisRanges.{hypotheses_in}

module _ (t : Tables) (vars : ℕ) where
  side_in : (s : SideTree) → IsSideInRange t.tests t.actions vars s → (0 < length (side_assignments (modulus t.width) s) → 0 < length t.assignments) →
      IsInRange (all_tests t) (all_actions t) (side_term t s)
  side_in (term_side e) h some = IsInRange-more t.tests t.actions (all_tests t) (all_actions t) (omega arith) (omega arith) e h
  side_in (prog_side p) h some = encoded_in t vars p h some

  sides_in : (g : GoalTree) → IsGoalInRange t.tests t.actions vars g → (0 < length (goal_assignments (modulus t.width) g) → 0 < length t.assignments) →
      IsInRange (all_tests t) (all_actions t) (goal_sides t g).left × IsInRange (all_tests t) (all_actions t) (goal_sides t g).right
  sides_in (equal l r) h some =
      let n = length-append (side_assignments (modulus t.width) l) (side_assignments (modulus t.width) r) in
      (side_in l h.0 (λ k. some (omega arith)), side_in r h.1 (λ k. some (omega arith)))
  sides_in (below l r) h some =
      let n = length-append (side_assignments (modulus t.width) l) (side_assignments (modulus t.width) r) in
      let large = side_in r h.1 (λ k. some (omega arith)) in
      ((side_in l h.0 (λ k. some (omega arith)), large), large)
  sides_in (triple pre body post) h some = ((cond_test_in t vars pre h.0, (side_in body h.1 some, cond_test_in t vars post h.2)), tt)

module _ (f : FileParts) (numbers : HasNumbersInRange f) (tests : f.tests + length (first_comparisons f) ≤ MAX_TESTS) (actions : f.actions + length (file_assignments f) ≤ MAX_ACTIONS) where
  problem_in : problem_size (file_problem f) ≤ MAX_TERM_NODES → IsProblem (file_problem f)
  problem_in size =
      let t = tables_of f in
      let sides = sides_in t f.vars f.goal numbers.goal (first_rows_some is_same_assignment (goal_assignments (modulus f.width) f.goal)) in
      record {
        tests = omega (arith, rounds_length (MAX_TESTS - f.tests) (modulus f.width) (file_assignments f) f.rounds (first_comparisons f) (omega arith));
        actions = actions;
        hyps = hypotheses_in t f.hyps numbers.hyps;
        left = sides.0;
        right = sides.1;
        size = size;
      }

  within : problem_size (file_problem f) ≤ MAX_TERM_NODES → abstract_of f ≡ Ok (abstract_parts f)
  within size = rw (le-ltb MAX_TESTS (f.tests + length (first_comparisons f)) tests, le-ltb MAX_ACTIONS (f.actions + length (file_assignments f)) actions, le-ltb MAX_TERM_NODES (problem_size (file_problem f)) size) refl

  too_large : MAX_TERM_NODES < problem_size (file_problem f) → abstract_of f ≡ Err ProblemTooLarge
  too_large size = rw (le-ltb MAX_TESTS (f.tests + length (first_comparisons f)) tests, le-ltb MAX_ACTIONS (f.actions + length (file_assignments f)) actions, lt-ltb MAX_TERM_NODES (problem_size (file_problem f)) size) refl

  pub whole : (r : Result AbstractParts AbstractFault) → IsWithinLimits (abstract_parts f) r → IsAbstraction f r
  whole (Ok a) h = within h.1 ∙ ap Ok (sym h.0)
  whole (Err NoMemory) h = tt
  whole (Err TooManyTests) h = absurd h
  whole (Err TooManyActions) h = absurd h
  whole (Err ProblemTooLarge) h =
      ⊎_elim too_large (λ le. absurd (h (problem_has_no_fault (file_problem f) (problem_in le)))) (cases_lt MAX_TERM_NODES (problem_size (file_problem f)))
