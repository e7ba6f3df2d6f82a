-- Whether the text of a problem is within the limits of a problem file.
use Rattle.std.proofs.Common.{◌≡◌, ◌≤◌, ℕ, Bool, true, false, ◌&&◌, nat_lt, List, [], ◌∷◌, length, All, Ok, Err, if◌then◌else◌, refl, subst}
use Rattle.std.proofs.lemmas.Bool.{and_parts, leb-true, le-leb, ltb-false}
use Rattle.std.proofs.lemmas.List.Elements.{All-nil, All-cons, All-head, All-tail}
use Rattle.std.specs.List.{list_all}
use Rattle.kat_model.specs.declared.limits.TheConstants.{MAX_TESTS, MAX_ACTIONS, MAX_TERM_NODES, MAX_HYPS, MAX_OPEN, MAX_TEXT_BYTES}
use Rattle.kat_model.specs.Trees.{Term}
use Rattle.kat_model.specs.Problems.{ProblemParts, IsProblem, problem_size}
use Rattle.text_print.specs.Printing.{term_nesting}
use Rattle.problem_file.specs.CommentedTexts.{IsComment, AreComments}
use Rattle.flow_text.specs.Checking.{FlowFileParts}
use Rattle.flow_problem.specs.Points.{FlowProblem}
use Rattle.flow_problem.specs.FlowProblems.{FlowQuestion, PairMarks, too_many_tests, too_many_actions, problem_too_large, first_tests, flow_actions, flow_parts, whole_problem, problem_by}
use Rattle.flow_problem.specs.PlacedProblems.{pair_marks, IsFlowProblem}
use Rattle.flow_print.specs.FlowTexts.{AreLines}
use Rattle.tool_flow.specs.Questions.{question_of, names_of, problem_text, IsPrintable}
use Rattle.tool_flow.specs.Working.Nesting.{is_shallow, are_shallow}

-- ---- hypotheses

-- where nothing is refused, the hypotheses are few
past_refusals : (a b c d : Bool) (x p : FlowProblem) →
    (if a then Err too_many_tests else if b then Err too_many_actions else if c then Err problem_too_large else if d then Err problem_too_large else Ok x) ≡ Ok p → (c ≡ false) × (x ≡ p)
past_refusals true b c d x p e = absurd cc
past_refusals false true c d x p e = absurd cc
past_refusals false false true d x p e = absurd cc
past_refusals false false false true x p e = absurd cc
past_refusals false false false false x p e = (refl, cc)

few_hypotheses : (q : FlowQuestion) (marks : PairMarks) (p : FlowProblem) → problem_by q marks ≡ Ok p → length p.problem.hyps ≤ MAX_HYPS
few_hypotheses q marks p e =
    let h =
    past_refusals
    (nat_lt MAX_TESTS (length (first_tests q marks))) (nat_lt MAX_ACTIONS (length (flow_actions q marks)))
    (nat_lt MAX_HYPS (length (flow_parts q marks).hyps)) (nat_lt MAX_TERM_NODES (problem_size (flow_parts q marks)))
    (whole_problem q marks) p e in
    subst (λ (r : FlowProblem). length r.problem.hyps ≤ MAX_HYPS) h.1 (ltb-false MAX_HYPS (length (flow_parts q marks).hyps) h.0)

-- ---- open constructs

abbrev NestsIn : Term → Type 0
NestsIn e = term_nesting e ≤ MAX_OPEN

all_shallow : (es : List Term) → list_all is_shallow es ≡ true → All NestsIn es
all_shallow [] h = All-nil NestsIn
all_shallow (e ∷ es) h =
    let parts = and_parts (is_shallow e) (list_all is_shallow es) h in
    All-cons NestsIn e es (leb-true (term_nesting e) MAX_OPEN parts.0) (all_shallow es parts.1)

shallow_all : (es : List Term) → All NestsIn es → list_all is_shallow es ≡ true
shallow_all [] all = refl
shallow_all (e ∷ es) all = both (is_shallow e) (list_all is_shallow es) (le-leb (term_nesting e) MAX_OPEN (All-head NestsIn e es all)) (shallow_all es (All-tail NestsIn e es all))
  where
    both : (a b : Bool) → a ≡ true → b ≡ true → (a && b) ≡ true
    both a b g h = rw (g, h) refl

sides_shallow : (q : ProblemParts) → are_shallow q ≡ list_all is_shallow (q.left ∷ q.right ∷ q.hyps)
sides_shallow q = refl

-- ---- names

all_comments : (names : List (List ℕ)) → All IsComment names → AreComments names
all_comments [] all = tt
all_comments (name ∷ names) all = (All-head IsComment name names all, all_comments names (All-tail IsComment name names all))

pub name_lines : (f : FlowFileParts) → All IsComment f.variable_names × All IsComment f.function_names → AreLines (names_of f)
name_lines f all = record { variables = all_comments f.variable_names all.0; functions = all_comments f.function_names all.1 }

-- ---- all limits

-- the answers to the four questions of the program
module _ (f : FlowFileParts) (p : FlowProblem) (is : IsFlowProblem (question_of f) p) (problem : IsProblem p.problem) where
  pub is_printable : length (problem_text f p) ≤ MAX_TEXT_BYTES → are_shallow p.problem ≡ true → AreLines (names_of f) → IsPrintable f p
  is_printable short shallow lines = record {
    lines = lines;
    problem = problem;
    hyps = few_hypotheses (question_of f) (pair_marks (question_of f).pair) p is.problem;
    shallow = all_shallow (p.problem.left ∷ p.problem.right ∷ p.problem.hyps) shallow;
    short = short;
  }

pub printed_shallow : (f : FlowFileParts) (p : FlowProblem) → IsPrintable f p → are_shallow p.problem ≡ true
printed_shallow f p h = shallow_all (p.problem.left ∷ p.problem.right ∷ p.problem.hyps) h.shallow
