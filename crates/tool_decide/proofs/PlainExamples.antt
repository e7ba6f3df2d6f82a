-- A question, worked by hand, whose plainest text is within the limits: so the premise of the clause on plainest texts can
-- be met.
use Rattle.std.proofs.Common.{◌≡◌, ◌≤◌, List, [], ◌∷◌, ℕ, length, refl, sym, subst, arith}
use Rattle.std.specs.Prelude.{codes}
use Rattle.std.proofs.lemmas.List.Elements.{All-nil, All-cons}
use Rattle.kat_model.specs.declared.limits.TheConstants.{MAX_OPEN, MAX_TEXT_BYTES}
use Rattle.kat_model.specs.Problems.{ProblemParts}
use Rattle.kat_model.specs.Trees.{Term, prim, test, act, product}
use Rattle.text_print.specs.Printing.{term_nesting}
use Rattle.text_print.proofs.WordTerminals.{zero_written}
use Rattle.problem_file.specs.Questions.{question_text, IsPrintable}
use Rattle.tool_inputs.specs.FileProblem.{Poses}
use Rattle.tool_decide.proofs.PlainTexts.{plain_poses}

-- if test 0 is false everywhere, action 0 after the test is nothing
abbrev dead : ProblemParts
dead = record { tests = 1; actions = 1; hyps = test (prim 0) ∷ []; left = product (test (prim 0)) (act 0); right = test (prim 0) }

abbrev dead_text : List ℕ
dead_text = codes "test t0;\naction a0;\nhyp t0 = 0;\ngoal equal (t0.a0), t0;\n"

dead_spelled : question_text dead ≡ dead_text
dead_spelled = rw zero_written refl

abbrev Shallow : Term → Type 0
Shallow e = term_nesting e ≤ MAX_OPEN

pub dead_printable : IsPrintable dead
dead_printable = record {
  problem = record {
    tests = let one : 1 ≤ 48 = omega arith in one;
    actions = let one : 1 ≤ 48 = omega arith in one;
    hyps = (omega arith, tt);
    left = (omega arith, omega arith);
    right = omega arith;
    size = let eight : 8 ≤ 100000 = omega arith in eight;
  };
  hyps = let one : 1 ≤ 8192 = omega arith in one;
  shallow = All-cons Shallow dead.left (dead.right ∷ dead.hyps) (let one : 1 ≤ 200 = omega arith in one)
      (All-cons Shallow dead.right dead.hyps (let none : 0 ≤ 200 = omega arith in none)
      (All-cons Shallow (test (prim 0)) [] (let none : 0 ≤ 200 = omega arith in none) (All-nil Shallow)));
  short = subst (λ (l : List ℕ). length l ≤ MAX_TEXT_BYTES) (sym dead_spelled) (let bytes : 56 ≤ 1048576 = omega arith in bytes);
}

-- so the text asks this question
pub dead_posed : Poses dead_text dead
dead_posed = subst (λ (l : List ℕ). Poses l dead) dead_spelled (plain_poses dead dead_printable)
