-- The plainest text that asks a question, such as `test t0; action a0; hyp t0 = 0; goal equal (t0.a0), a0;`, with one
-- item a line.
use Rattle.std.specs.Prelude.{◌≤◌, ℕ, List, [], ◌∷◌, ◌++◌, length, map, codes, All, flat_map}
use Rattle.std.specs.List.{join_by, range_with_len}
use Rattle.std.specs.Fmt.{decimal}
use Rattle.kat_model.specs.declared.limits.TheConstants.{MAX_HYPS, MAX_OPEN, MAX_TEXT_BYTES}
use Rattle.kat_model.specs.Trees.{Term}
use Rattle.kat_model.specs.Problems.{ProblemParts, IsProblem}
use Rattle.text_parser.specs.declared.meaning.Meaning.{Meaning}
use Rattle.text_parser.specs.declared.meaning.Meaning.TheVariants.{Test, Action}
use Rattle.text_print.specs.Printing.{term_text, term_nesting}

-- tests are named t0, t1, .. and actions a0, a1, .. by their numbers
abbrev pub plain_name : Meaning → List ℕ
plain_name (Test k) = codes "t" ++ decimal k
plain_name (Action a) = codes "a" ++ decimal a
plain_name _ = []

-- the keyword and the names, separated by commas, such as `test t0, t1;`; empty without names
abbrev pub declaration_text : List ℕ → List (List ℕ) → List ℕ
declaration_text keyword [] = []
declaration_text keyword (name ∷ names) = keyword ++ codes " " ++ join_by (λ x. x) (codes ", ") (name ∷ names) ++ codes ";\n"

-- the declarations of `n` tests and of `n` actions
abbrev pub tests_text : ℕ → List ℕ
tests_text n = declaration_text (codes "test") (map (λ k. plain_name (Test k)) (range_with_len 0 n))

abbrev pub actions_text : ℕ → List ℕ
actions_text n = declaration_text (codes "action") (map (λ a. plain_name (Action a)) (range_with_len 0 n))

-- `hyp TERM = 0;`, where each meaning has a name
abbrev pub hyp_text : (Meaning → List ℕ) → Term → List ℕ
hyp_text names e = codes "hyp " ++ term_text names e ++ codes " = 0;\n"

-- `goal equal LEFT, RIGHT;`
abbrev pub goal_text : (Meaning → List ℕ) → Term → Term → List ℕ
goal_text names left right = codes "goal equal " ++ term_text names left ++ codes ", " ++ term_text names right ++ codes ";\n"

-- the text that asks the question
abbrev pub question_text : ProblemParts → List ℕ
question_text q = tests_text q.tests ++ actions_text q.actions ++ flat_map (hyp_text plain_name) q.hyps ++ goal_text plain_name q.left q.right

-- the question is a problem, and its text is within the limits on hypotheses, on open constructs, and on bytes
pub record IsPrintable (q : ProblemParts) : Type 0 where
  pub problem : IsProblem q
  pub hyps : length q.hyps ≤ MAX_HYPS
  pub shallow : All (λ e. term_nesting e ≤ MAX_OPEN) (q.left ∷ q.right ∷ q.hyps)
  pub short : length (question_text q) ≤ MAX_TEXT_BYTES
