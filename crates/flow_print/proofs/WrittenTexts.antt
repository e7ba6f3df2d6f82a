-- The functions write the text, part by part.
use Rattle.std.proofs.Common.{◌≡◌, ◌≤◌, ◌<◌, ◌+◌, ℕ, zero, suc, List, [], ◌∷◌, ◌++◌, length, map, drop, get_or, refl, sym, ap, ◌∙◌, arith, append_assoc}
use Rattle.kat_model.specs.declared.limits.TheConstants.{MAX_TESTS, MAX_ACTIONS}
use Rattle.kat_model.specs.declared.tree.Kat.{Kat}
use Rattle.kat_model.specs.Trees.{Term, kat_tree}
use Rattle.kat_model.specs.Problems.{IsProblem, IsInRange, AreInRange}
use Rattle.text_parser.specs.ScopeParts.{ScopeParts}
use Rattle.text_print.specs.Printing.{name_of}
use Rattle.problem_file.specs.Questions.{plain_name, tests_text, actions_text, hyp_text, goal_text}
use Rattle.problem_file.specs.CommentedTexts.{comments_text, commented_hyps}
use Rattle.problem_file.specs.Working.Scopes.{IsPlain}
use Rattle.problem_file.proofs.PlainScopes.{plain_as, hyp_same, goal_same}
use Rattle.flow_problem.specs.FlowFacts.{FlowRule}
use Rattle.flow_problem.specs.Points.{FlowProblem}
use Rattle.flow_print.specs.NameTables.{NameTable}
use Rattle.flow_print.specs.ReasonTexts.{comments_before, comments_from}
use Rattle.flow_print.specs.FlowTexts.{flow_comments, flow_text}

-- the text of hypotheses from number k on
abbrev pub hyps_text : List FlowRule → ℕ → List Term → List ℕ
hyps_text rules k es = commented_hyps plain_name (comments_from rules k (length es)) es

-- the first of the hypotheses that are left, and those after it
first_left : (xs : List Kat) (k : ℕ) (x : Kat) → k < length xs → x ≡ get_or xs k x → map kat_tree (drop k xs) ≡ kat_tree x ∷ map kat_tree (drop (suc k) xs)
first_left [] k x below is = absurd (omega arith)
first_left (y ∷ ys) zero x below is = ap (λ (z : Kat). kat_tree z ∷ map kat_tree ys) (sym is)
first_left (y ∷ ys) (suc k) x below is = first_left ys k x (omega arith) is

pub hyps_left : (xs : List Kat) (k : ℕ) (x : Kat) → k < length xs → x ≡ get_or xs k x → map kat_tree (drop k xs) ≡ kat_tree x ∷ map kat_tree (drop (k + 1) xs)
hyps_left xs k x below is = let next : suc k ≡ k + 1 = omega arith in first_left xs k x below is ∙ ap (λ (n : ℕ). kat_tree x ∷ map kat_tree (drop n xs)) next

module _ (w : ScopeParts) (tests actions : ℕ) (few : tests ≤ MAX_TESTS) (small : actions ≤ MAX_ACTIONS) (plain : IsPlain w tests actions) where
  hyp_appended : (rules : List FlowRule) (k : ℕ) (e : Term) (es : List Term) (old : List ℕ) → IsInRange tests actions e
      → ((old ++ comments_text (comments_before rules k)) ++ hyp_text (name_of w) e) ++ hyps_text rules (k + 1) es ≡ old ++ hyps_text rules k (e ∷ es)
  hyp_appended rules k e es old h =
      let comments = comments_text (comments_before rules k) in
      let rest = hyps_text rules (k + 1) es in
      ap (λ (l : List ℕ). ((old ++ comments) ++ l) ++ rest) (hyp_same w tests actions few small plain e h)
      ∙ append_assoc (old ++ comments) (hyp_text plain_name e) rest
      ∙ append_assoc old comments (hyp_text plain_name e ++ rest)
      ∙ ap (λ (l : List ℕ). old ++ l) (sym (append_assoc comments (hyp_text plain_name e) rest))

  -- one step of writing hypotheses
  pub hyp_written : (rules : List FlowRule) (k : ℕ) (e : Term) (terms es : List Term) (start old marked written : List ℕ)
      → terms ≡ e ∷ es → AreInRange tests actions terms → marked ≡ old ++ comments_text (comments_before rules k) → written ≡ marked ++ hyp_text (name_of w) e
      → old ++ hyps_text rules k terms ≡ start
      → (written ++ hyps_text rules (k + 1) es ≡ start) × AreInRange tests actions es
  hyp_written rules k e terms es start old marked written first range with_comment with_hyp so_far =
      let in_range : AreInRange tests actions (e ∷ es) = rw first at range in
      (rw (with_hyp, with_comment) (hyp_appended rules k e es old in_range.0 ∙ (rw first at so_far)), in_range.1)

-- the whole text is written
pub flow_written : (names : NameTable) (plain : ScopeParts) (rules : List FlowRule) (p : FlowProblem) (t u t' u' : ℕ) (left right : Term) (a b c d e f g : List ℕ)
    → IsProblem p.problem → IsPlain plain t u → t ≡ p.problem.tests → u ≡ p.problem.actions → t' ≡ p.problem.tests → u' ≡ p.problem.actions → left ≡ p.problem.left → right ≡ p.problem.right
    → a ≡ [] → b ≡ a ++ comments_text (flow_comments names rules p).tests → c ≡ b ++ tests_text t'
    → d ≡ c ++ comments_text (flow_comments names rules p).actions → e ≡ d ++ actions_text u'
    → f ≡ e ++ commented_hyps plain_name (flow_comments names rules p).hyps p.problem.hyps → g ≡ f ++ goal_text (name_of plain) left right
    → g ≡ flow_text names rules p
flow_written names plain rules p t u t' u' left right a b c d e f g problem is_plain e1 e2 e3 e4 e5 e6 h0 h1 h2 h3 h4 h5 h6 =
    let q = p.problem in
    let same = plain_as plain t q.tests u q.actions e1 e2 is_plain in
    rw (h6, h5, h4, h3, h2, h1, h0, e3, e4, e5, e6, goal_same plain q.tests q.actions problem.tests problem.actions same q.left q.right problem.left problem.right) refl
