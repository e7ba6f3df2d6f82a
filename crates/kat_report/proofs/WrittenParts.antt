-- The functions write the text, part by part.
use Rattle.std.proofs.Common.{◌≡◌, ◌≤◌, ℕ, List, [], ◌∷◌, ◌++◌, length, None, Bool, Option, Some, refl, sym, ap, ◌∙◌, append_assoc}
use Rattle.std.proofs.lemmas.List.{append-nil, nil_from_length}
use Rattle.std.specs.Prelude.{flat_map}
use Rattle.std.specs.List.{zip, enumerate_from}
use Rattle.kat_model.specs.declared.limits.TheConstants.{MAX_TESTS, MAX_ACTIONS}
use Rattle.kat_model.specs.Trees.{Term}
use Rattle.kat_model.specs.Problems.{ProblemParts, IsProblem, IsInRange, AreInRange}
use Rattle.text_parser.specs.ScopeParts.{ScopeParts}
use Rattle.text_print.specs.Printing.{name_of}
use Rattle.problem_file.specs.Questions.{plain_name, tests_text, actions_text, hyp_text, goal_text}
use Rattle.problem_file.specs.Working.Scopes.{IsPlain}
use Rattle.problem_file.proofs.PlainScopes.{plain_as, hyp_same, goal_same}
use Rattle.abstraction.specs.declared.rows.ActionRow.{ActionRow}
use Rattle.abstraction.specs.declared.rows.TestRow.{TestRow}
use Rattle.abstraction.specs.declared.rule.Rule.{Rule}
use Rattle.kat_report.specs.Shows.{test_comment, action_comment, rule_comment, is_new, hyps_text}

module _ (w : ScopeParts) (tests actions : ℕ) (few : tests ≤ MAX_TESTS) (small : actions ≤ MAX_ACTIONS) (plain : IsPlain w tests actions) where
  hyp_appended : (before : Option Rule) (rule : Rule) (rules : List Rule) (e : Term) (es : List Term) (old : List ℕ) → IsInRange tests actions e → ((old ++ rule_comment (is_new before rule) rule) ++ hyp_text (name_of w) e) ++ hyps_text (Some rule) (zip rules es) ≡ old ++ hyps_text before (zip (rule ∷ rules) (e ∷ es))
  hyp_appended before rule rules e es old h =
      let comment = rule_comment (is_new before rule) rule in
      let rest = hyps_text (Some rule) (zip rules es) in
      ap (λ (l : List ℕ). ((old ++ comment) ++ l) ++ rest) (hyp_same w tests actions few small plain e h)
      ∙ append_assoc (old ++ comment) (hyp_text plain_name e) rest
      ∙ append_assoc old comment (hyp_text plain_name e ++ rest)
      ∙ ap (λ (l : List ℕ). old ++ l) (sym (append_assoc comment (hyp_text plain_name e) rest))

  -- one step of writing hypotheses
  pub hyp_written : (before : Option Rule) (rule : Rule) (all rules : List Rule) (e : Term) (terms es : List Term) (new : Bool) (start old marked written : List ℕ)
      → all ≡ rule ∷ rules → terms ≡ e ∷ es → AreInRange tests actions terms → new ≡ is_new before rule → marked ≡ old ++ rule_comment new rule → written ≡ marked ++ hyp_text (name_of w) e
      → old ++ hyps_text before (zip all terms) ≡ start
      → (written ++ hyps_text (Some rule) (zip rules es) ≡ start) × AreInRange tests actions es
  hyp_written before rule all rules e terms es new start old marked written first second range is_new_is with_comment with_hyp so_far =
      let in_range : AreInRange tests actions (e ∷ es) = rw second at range in
      (rw (with_hyp, with_comment, is_new_is) (hyp_appended before rule rules e es old in_range.0 ∙ (rw (first, second) at so_far)), in_range.1)

zip-nothing : {K X : Type 0} (ks : List K) → zip {K = K} {X = X} ks [] ≡ []
zip-nothing [] = refl
zip-nothing (k ∷ ks) = refl

-- all hypotheses are written when no rule is left, or no term
pub no_rule_left : (before : Option Rule) (all : List Rule) (terms : List Term) (start out : List ℕ) → length all ≡ 0 → out ++ hyps_text before (zip all terms) ≡ start → out ≡ start
no_rule_left before all terms start out none so_far =
    sym (append-nil out) ∙ ap (λ (rs : List Rule). out ++ hyps_text before (zip rs terms)) (sym (nil_from_length all none)) ∙ so_far

pub no_term_left : (before : Option Rule) (all : List Rule) (terms : List Term) (start out : List ℕ) → terms ≡ [] → out ++ hyps_text before (zip all terms) ≡ start → out ≡ start
no_term_left before all terms start out none so_far =
    sym (append-nil out) ∙ ap (λ (ps : List (Rule × Term)). out ++ hyps_text before ps) (sym (zip-nothing all)) ∙ ap (λ (es : List Term). out ++ hyps_text before (zip all es)) (sym none) ∙ so_far

-- the whole text is written
pub shown_written : (w plain : ScopeParts) (p : ProblemParts) (tests : List TestRow) (actions : List ActionRow) (rules : List Rule) (t u t' u' : ℕ) (left right : Term) (a b c d e f g : List ℕ)
    → IsProblem p → IsPlain plain t u → t ≡ p.tests → u ≡ p.actions → t' ≡ p.tests → u' ≡ p.actions → left ≡ p.left → right ≡ p.right
    → a ≡ [] → b ≡ a ++ flat_map (test_comment (name_of w)) (enumerate_from 0 tests) → c ≡ b ++ tests_text t'
    → d ≡ c ++ flat_map (action_comment (name_of w)) (enumerate_from 0 actions) → e ≡ d ++ actions_text u'
    → f ≡ e ++ hyps_text None (zip rules p.hyps) → g ≡ f ++ goal_text (name_of plain) left right
    → g ≡ flat_map (test_comment (name_of w)) (enumerate_from 0 tests) ++ tests_text p.tests ++ flat_map (action_comment (name_of w)) (enumerate_from 0 actions) ++ actions_text p.actions
    ++ hyps_text None (zip rules p.hyps) ++ goal_text plain_name p.left p.right
shown_written w plain p tests actions rules t u t' u' left right a b c d e f g problem is_plain e1 e2 e3 e4 e5 e6 h0 h1 h2 h3 h4 h5 h6 =
    let same = plain_as plain t p.tests u p.actions e1 e2 is_plain in
    rw (h6, h5, h4, h3, h2, h1, h0, e3, e4, e5, e6, goal_same plain p.tests p.actions problem.tests problem.actions same p.left p.right problem.left problem.right) refl
