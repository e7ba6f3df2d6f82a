-- A text that is read as a goal `equal` of two terms asks that question: its goal has no program, so nothing is added to
-- its declarations and hypotheses.
use Rattle.std.proofs.Common.{◌≡◌, ◌≤◌, ◌+◌, ◌-◌, ℕ, List, [], map, length, Bool, false, nat_lt, if◌then◌else◌, Ok, Err, refl, sym, ap, subst, ◌∙◌, append-nil, arith}
use Rattle.std.proofs.lemmas.Bool.{le-ltb}
use Rattle.kat_model.specs.declared.limits.TheConstants.{MAX_TESTS, MAX_ACTIONS, MAX_TERM_NODES}
use Rattle.kat_model.specs.Trees.{Term}
use Rattle.kat_model.specs.Stores.{modulus}
use Rattle.kat_model.specs.Problems.{ProblemParts, IsProblem, problem_size}
use Rattle.while_lang.specs.Files.{FileParts, GoalTree, term_side, equal}
use Rattle.abstraction.specs.declared.fault.AbstractFault.TheVariants.{TooManyTests, TooManyActions, ProblemTooLarge}
use Rattle.abstraction.specs.Comparisons.{goal_comparisons, goal_assignments}
use Rattle.linear_forms.specs.Sameness.{is_same_comparison}
use Rattle.abstraction.specs.Tables.{Tables, is_same_assignment, first_comparisons, file_assignments}
use Rattle.kat_model.specs.UniqueRows.{with_all_new}
use Rattle.abstraction.specs.Rounds.{rounds, tables_of}
use Rattle.abstraction.specs.Goals.{goal_sides}
use Rattle.abstraction.specs.Derived.{stated_from, hypotheses}
use Rattle.abstraction.specs.Abstracts.{file_problem, abstract_parts, abstract_of}
use Rattle.abstraction.proofs.AppendedRows.{no_rounds}
use Rattle.abstraction.proofs.NumberedRows.{stated_terms}
use Rattle.problem_file.specs.TextLaws.{PosesEqual}
use Rattle.tool_inputs.specs.FileProblem.{Poses}

-- ---- the abstraction of a goal of two terms

-- tables without comparisons and assignments
abbrev bare : FileParts → Tables
bare f = record { tests = f.tests; actions = f.actions; comparisons = []; assignments = []; width = f.width }

-- a goal of two terms has no comparisons and no assignments
module _ (f : FileParts) (l r : Term) (e : f.goal ≡ equal (term_side l) (term_side r)) where
  no_comparisons : first_comparisons f ≡ []
  no_comparisons = ap (λ g. with_all_new is_same_comparison [] (goal_comparisons (modulus f.width) g)) e

  no_assignments : file_assignments f ≡ []
  no_assignments = ap (λ g. with_all_new is_same_assignment [] (goal_assignments (modulus f.width) g)) e

  bare_tables : bare f ≡ tables_of f
  bare_tables =
      let n = f.rounds in
      let m = modulus f.width in
      let most = MAX_TESTS - f.tests in
      subst (λ xs. bare f ≡ record { tests = f.tests; actions = f.actions; comparisons = rounds n m most xs (first_comparisons f); assignments = xs; width = f.width }) (sym no_assignments)
      (subst (λ cs. bare f ≡ record { tests = f.tests; actions = f.actions; comparisons = rounds n m most [] cs; assignments = []; width = f.width }) (sym no_comparisons)
      (subst (λ cs. bare f ≡ record { tests = f.tests; actions = f.actions; comparisons = cs; assignments = []; width = f.width }) (sym (no_rounds n m most)) refl))

bare_hyps : (f : FileParts) → map (λ h. h.term) (hypotheses (bare f) f.hyps) ≡ f.hyps
bare_hyps f = ap (map (λ h. h.term)) (append-nil (stated_from 0 f.hyps)) ∙ stated_terms 0 f.hyps

-- the problem of a goal over tables
abbrev problem_with : FileParts → Tables → GoalTree → ProblemParts
problem_with f t g = record {
  tests = f.tests + length t.comparisons;
  actions = f.actions + length t.assignments;
  hyps = map (λ h. h.term) (hypotheses t f.hyps);
  left = (goal_sides t g).left;
  right = (goal_sides t g).right;
}

-- the question of two terms, with the declarations and hypotheses of a file
abbrev question_of : FileParts → Term → Term → ProblemParts
question_of f l r = record { tests = f.tests; actions = f.actions; hyps = f.hyps; left = l; right = r }

same_parts : (f : FileParts) (l r : Term) (tests actions : ℕ) (hyps : List Term) → tests ≡ f.tests → actions ≡ f.actions → hyps ≡ f.hyps → record { tests = tests; actions = actions; hyps = hyps; left = l; right = r } ≡ question_of f l r
same_parts f l r tests actions hyps a b c = rw (a, b, c) refl

bare_problem : (f : FileParts) (l r : Term) → f.goal ≡ equal (term_side l) (term_side r) → file_problem f ≡ question_of f l r
bare_problem f l r e =
    ap (λ t. problem_with f t f.goal) (sym (bare_tables f l r e))
    ∙ ap (λ g. problem_with f (bare f) g) e
    ∙ same_parts f l r (f.tests + 0) (f.actions + 0) (map (λ h. h.term) (hypotheses (bare f) f.hyps)) (omega arith) (omega arith) (bare_hyps f)

-- if no limit is exceeded, there is no error
no_refusal : {X Y : Type 0} (x : X) (i j k : Y) (b c d : Bool) → b ≡ false → c ≡ false → d ≡ false → (if b then Err i else if c then Err j else if d then Err k else Ok x) ≡ Ok x
no_refusal x i j k b c d p q r = rw (p, q, r) refl

-- if the question is a problem, the file has an abstraction
bare_abstract : (f : FileParts) (l r : Term) → f.goal ≡ equal (term_side l) (term_side r) → IsProblem (question_of f l r) → abstract_of f ≡ Ok (abstract_parts f)
bare_abstract f l r e problem =
    no_refusal (abstract_parts f) TooManyTests TooManyActions ProblemTooLarge
    (nat_lt MAX_TESTS (f.tests + length (first_comparisons f)))
    (nat_lt MAX_ACTIONS (f.actions + length (file_assignments f)))
    (nat_lt MAX_TERM_NODES (problem_size (file_problem f)))
    (few f.tests (first_comparisons f) (no_comparisons f l r e) problem.tests)
    (few f.actions (file_assignments f) (no_assignments f l r e) problem.actions)
    (le-ltb MAX_TERM_NODES (problem_size (file_problem f)) (subst (λ q. problem_size q ≤ MAX_TERM_NODES) (sym (bare_problem f l r e)) problem.size))
  where
    few : {X : Type 0} (n : ℕ) (xs : List X) → xs ≡ [] → n ≤ MAX_TESTS → nat_lt MAX_TESTS (n + length xs) ≡ false
    few n xs none le = let empty : length xs ≡ 0 = ap length none in le-ltb MAX_TESTS (n + length xs) (omega (arith, empty, le))

-- ---- the question of the text

pub poses_equal : (text : List ℕ) (q : ProblemParts) → IsProblem q → PosesEqual text q → Poses text q
poses_equal text q problem read =
    let f = read.file in
    let same : q ≡ question_of f q.left q.right = read.question in
    record {
      file = f;
      reads = read.reads;
      abstract = abstract_parts f;
      is_abstract = bare_abstract f q.left q.right read.goal (subst IsProblem same problem);
      question = same ∙ sym (bare_problem f q.left q.right read.goal);
    }
