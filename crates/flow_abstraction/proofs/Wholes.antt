-- The problem of a question, and the faults for which there is none.
use Rattle.std.proofs.Common.{◌≡◌, ℕ, ◌≤◌, inl, inr, ⊎_elim, List, length, map, Some, None, Ok, refl, sym, ◌∙◌, ap, subst, arith}
use Rattle.std.proofs.lemmas.Bool.{le-ltb, cases_lt}
use mathlib.Core.Path.{ap₂}
use Rattle.std.proofs.lemmas.List.{length-map}
use Rattle.kat_model.specs.Trees.{Term, kat_tree}
use Rattle.kat_model.specs.Problems.{ProblemParts, IsProblem, problem_parts, problem_size, problem_fault}
use Rattle.kat_model.specs.declared.problem.BadProblem.{BadProblem}
use Rattle.kat_model.specs.declared.limits.TheConstants.{MAX_TESTS, MAX_ACTIONS, MAX_TERM_NODES, MAX_HYPS}
use Rattle.kat_model.proofs.Faults.{problem_has_no_fault}
use Rattle.flow_forms.specs.Comparisons.{FlowComparisonTree, comparison_tree}
use Rattle.flow_problem.specs.Edges.{FlowActionTree}
use Rattle.flow_problem.specs.Points.{FlowProblem}
use Rattle.flow_problem.specs.FlowFacts.{FlowHypothesis, flow_hypotheses}
use Rattle.flow_problem.specs.FlowProblems.{first_tests, flow_actions, flow_parts, whole_problem, problem_by}
use Rattle.flow_problem.specs.PlacedProblems.{IsFlowProblem}
use Rattle.flow_edges.specs.EdgeViews.{flow_action}
use Rattle.flow_abstraction.specs.HypothesisViews.{flow_rule}
use Rattle.flow_abstraction.specs.declared.fault.FlowFault.TheVariants.{NoMemory, UncutLoop, TooManyPaths, TooLarge, TooManyTests, TooManyActions, ProblemTooLarge}
use Rattle.flow_abstraction.specs.declared.hypotheses.Reasons.{Reasons}
use Rattle.flow_abstraction.specs.declared.parts.Tables.{Tables}
use Rattle.flow_abstraction.specs.declared.parts.Sides.{Sides}
use Rattle.flow_abstraction.specs.PosedQuestion.{PosedQuestion, question_of, marks_of, HasFault, HasNoFault}
use Rattle.flow_abstraction.specs.Working.Stages.{KeepsLimits, HasTables, HasReasons, HasSides}
use Rattle.flow_abstraction.proofs.WholeRanges.{question_in}

-- the parts of a problem, one by one
same_parts : (p : ProblemParts) (t n : ℕ) (hs : List Term) (l r : Term) → t ≡ p.tests → n ≡ p.actions → hs ≡ p.hyps → l ≡ p.left → r ≡ p.right →
    ◌≡◌ {A = ProblemParts} (record { tests = t; actions = n; hyps = hs; left = l; right = r }) p
same_parts p t n hs l r e f g h k = rw (e, f, g, h, k) refl

same_problem : (p : FlowProblem) (parts : ProblemParts) (tests : List FlowComparisonTree) (actions : List FlowActionTree) → parts ≡ p.problem → tests ≡ p.tests → actions ≡ p.actions →
    ◌≡◌ {A = FlowProblem} (record { problem = parts; tests = tests; actions = actions }) p
same_problem p parts tests actions e f g = rw (e, f, g) refl

module _ (a : PosedQuestion) where
  abbrev parts : ProblemParts
  parts = flow_parts (question_of a) (marks_of a)

  module _ (limits : KeepsLimits a) (t : Tables) (tables : HasTables a t) (r : Reasons) (reasons : HasReasons a r) (s : Sides) (sides : HasSides a s) where
    no_fault : problem_size parts ≤ MAX_TERM_NODES → problem_fault parts ≡ None
    no_fault size =
        problem_has_no_fault parts
        (question_in (question_of a) limits.before_sound.cut limits.after_sound.cut limits.tests tables.few size)

    -- only the number of nodes is left as a reason
    nodes_refused : (bad : BadProblem) → problem_fault parts ≡ Some bad → HasFault a ProblemTooLarge
    nodes_refused bad e =
        ⊎_elim
        (λ more. inr (inl (inr more)))
        (λ few. let none = no_fault few in absurd cc)
        (cases_lt MAX_TERM_NODES (problem_size parts))

    is_problem : (p : FlowProblem) → problem_size parts ≤ MAX_TERM_NODES → p ≡ whole_problem (question_of a) (marks_of a) → IsFlowProblem (question_of a) p
    is_problem p size e = record {
      before_cut = limits.before_sound.cut;
      after_cut = limits.after_sound.cut;
      problem = made ∙ ap Ok (sym e);
    }
      where
        made : problem_by (question_of a) (marks_of a) ≡ Ok (whole_problem (question_of a) (marks_of a))
        made =
            rw (
              le-ltb MAX_TESTS (length (first_tests (question_of a) (marks_of a))) limits.tests,
              le-ltb MAX_ACTIONS (length (flow_actions (question_of a) (marks_of a))) tables.few,
              le-ltb MAX_HYPS (length parts.hyps) reasons.few,
              le-ltb MAX_TERM_NODES (problem_size parts) size,
            )
            refl

    faultless : problem_size parts ≤ MAX_TERM_NODES → HasNoFault a
    faultless size NoMemory h = h
    faultless size UncutLoop (inl h) = limits.before_sound.cut h
    faultless size UncutLoop (inr h) = limits.after_sound.cut h
    faultless size TooManyPaths (inl (inl h)) = limits.before_sound.few h
    faultless size TooManyPaths (inl (inr h)) = limits.after_sound.few h
    faultless size TooManyPaths (inr (inl h)) = limits.before_short h
    faultless size TooManyPaths (inr (inr h)) = limits.after_short h
    faultless size TooLarge (inl h) = limits.before_sound.fits h
    faultless size TooLarge (inr h) = limits.after_sound.fits h
    faultless size TooManyTests h = let most = limits.tests in omega (arith, h, most)
    faultless size TooManyActions h = let most = tables.few in omega (arith, h, most)
    faultless size ProblemTooLarge (inl (inl h)) = let most = reasons.few in omega (arith, h, most)
    faultless size ProblemTooLarge (inl (inr h)) = omega (arith, h, size)
    faultless size ProblemTooLarge (inr (inl h)) = sides.before_fits h
    faultless size ProblemTooLarge (inr (inr h)) = sides.after_fits h

    -- ---- the parts of the program

    module _ (n k : ℕ) (tests : n ≡ length t.tests.items) (actions : k ≡ length t.actions.items) where
      parts_are : problem_parts n k r.terms.items s.left s.right ≡ parts
      parts_are =
          same_parts parts n k (map kat_tree r.terms.items) (kat_tree s.left) (kat_tree s.right)
          (tests ∙ sym (length-map t.tests.items comparison_tree) ∙ ap length tables.tests)
          (actions ∙ sym (length-map t.actions.items flow_action) ∙ ap length tables.actions)
          reasons.terms sides.left sides.right

      pub parts_refused : (bad : BadProblem) → problem_fault (problem_parts n k r.terms.items s.left s.right) ≡ Some bad → HasFault a ProblemTooLarge
      parts_refused bad e = nodes_refused bad (ap problem_fault (sym parts_are) ∙ e)

      module _ (p : ProblemParts) (made : p ≡ problem_parts n k r.terms.items s.left s.right) (within : IsProblem p) where
        small : problem_size parts ≤ MAX_TERM_NODES
        small = subst (λ whole. problem_size whole ≤ MAX_TERM_NODES) (made ∙ parts_are) within.size

        pub parts_make : IsFlowProblem (question_of a) (record { problem = p; tests = map comparison_tree t.tests.items; actions = map flow_action t.actions.items })
        parts_make =
            is_problem (record { problem = p; tests = map comparison_tree t.tests.items; actions = map flow_action t.actions.items }) small
            (same_problem (whole_problem (question_of a) (marks_of a)) p (map comparison_tree t.tests.items) (map flow_action t.actions.items) (made ∙ parts_are) tables.tests tables.actions)

        pub parts_faultless : HasNoFault a
        parts_faultless = faultless small

    pub rules_are : map flow_rule r.rules.items ≡ map (λ (h : FlowHypothesis). h.rule) (flow_hypotheses a.sorts (map comparison_tree t.tests.items) (map flow_action t.actions.items))
    rules_are = reasons.rules ∙ sym (ap₂ (λ (ts : List FlowComparisonTree) (acts : List FlowActionTree). map (λ (h : FlowHypothesis). h.rule) (flow_hypotheses a.sorts ts acts)) tables.tests tables.actions)
