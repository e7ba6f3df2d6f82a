-- What the answer of `decide` to the plainest text of a goal about programs means for stores.
use Rattle.std.proofs.Common.{◌≡◌, ◌+◌, ℕ, List, [], length, Bool, true, false, nat_lt, if◌then◌else◌, Result, Ok, Err, inl, inr, refl, sym, ap, ◌∙◌, subst, arith}
use Rattle.kat_model.specs.declared.limits.TheConstants.{MAX_TESTS, MAX_ACTIONS, MAX_TERM_NODES}
use Rattle.kat_model.specs.declared.expression.Width.{Width}
use Rattle.kat_model.specs.Expressions.{CondTree}
use Rattle.kat_model.specs.Problems.{ProblemParts, problem_size}
use Rattle.kat_model.specs.Relations.{Same}
use Rattle.kat_model.specs.Trees.{Term}
use Rattle.text_parser.specs.ScopeParts.{empty_scope}
use Rattle.while_lang.specs.Programs.{ProgTree}
use Rattle.while_lang.specs.Files.{FileParts, GoalTree, equal, triple, prog_side}
use Rattle.while_lang.specs.Concrete.{Agrees}
use Rattle.abstraction.specs.declared.fault.AbstractFault.{AbstractFault}
use Rattle.abstraction.specs.declared.fault.AbstractFault.TheVariants.{TooManyTests, TooManyActions, ProblemTooLarge}
use Rattle.abstraction.specs.Tables.{first_comparisons, file_assignments}
use Rattle.abstraction.specs.Abstracts.{AbstractParts, file_problem, abstract_parts, abstract_of}
use Rattle.kat_report.specs.AbstractRefusals.{abstract_fault_line}
use Rattle.problem_file.specs.ProgramTexts.{programs_text, triple_text, ArePrintable, IsTriplePrintable}
use Rattle.problem_file.specs.TextLaws.{PosesPrograms}
use Rattle.tool_inputs.specs.TextProblem.{HasNoAbstraction}
use Rattle.tool_inputs.specs.Steps.{PosesQuestion}
use Rattle.tool_inputs.specs.StoreAnswers.{AlwaysEndAlike, AlwaysMeets, IsLimitLine, goal_file, programs_abstraction, triple_abstraction}
use Rattle.tool_inputs.specs.Working.Questions.{not_both}
use Rattle.tool_inputs.proofs.Steps.{one_value, one_line, reads_denoted}
use Rattle.tool_inputs.proofs.ProgramSentences.{poses_equal, always_alike, poses_triple, always_met}
use Rattle.tool_decide.specs.Decide.{IsDecided, DecidesText, Headline, StoreHeadline}
use Rattle.tool_decide.specs.Working.DecideReplies.{decided_headline, text_stores}

-- ---- a file without an abstraction is too large

-- the error is that of the first exceeded limit, so the goal is too large
first_error : {X : Type 0} (b c d : Bool) (x : X) (fault : AbstractFault) → (if b then Err TooManyTests else if c then Err TooManyActions else if d then Err ProblemTooLarge else Ok x) ≡ Err fault → IsLimitLine (abstract_fault_line fault)
first_error true c d x fault e = let same : TooManyTests ≡ fault = cc in inl (ap abstract_fault_line (sym same))
first_error false true d x fault e = let same : TooManyActions ≡ fault = cc in inr (inl (ap abstract_fault_line (sym same)))
first_error false false true x fault e = let same : ProblemTooLarge ≡ fault = cc in inr (inr (ap abstract_fault_line (sym same)))
first_error false false false x fault e = absurd cc

limit_line : (f : FileParts) (output : List ℕ) → HasNoAbstraction f output → IsLimitLine output
limit_line f output none =
    subst IsLimitLine (sym none.printed)
    (first_error (nat_lt MAX_TESTS (f.tests + length (first_comparisons f))) (nat_lt MAX_ACTIONS (f.actions + length (file_assignments f)))
    (nat_lt MAX_TERM_NODES (problem_size (file_problem f))) (abstract_parts f) none.fault none.has_none)

-- two abstractions of a file are one
same_abstract : (f : FileParts) (a b : AbstractParts) → abstract_of f ≡ Ok a → abstract_of f ≡ Ok b → (P : ProblemParts → Type 0) → P b.problem → P a.problem
same_abstract f a b is also P h = subst (λ x. P x.problem) (one_value (abstract_of f) b a also is) h

-- the headline of the decided problem is that of each abstraction of the file
abstract_headline : (f : FileParts) (a : AbstractParts) → abstract_of f ≡ Ok a → (status : ℕ) (output : List ℕ) → IsDecided a.problem status output → (b : AbstractParts) → abstract_of f ≡ Ok b → Headline b.problem status output
abstract_headline f a is status output d b also = same_abstract f b a also is (λ q. Headline q status output) (decided_headline a.problem status output d)

-- and so are two reasons for its absence, so the printed line is that of the reason
refused_line : (f : FileParts) (output : List ℕ) → HasNoAbstraction f output → (fault : AbstractFault) → abstract_of f ≡ Err fault → output ≡ abstract_fault_line fault
refused_line f output none fault is = one_line f output (abstract_fault_line fault) none (record { fault = fault; has_none = is; printed = refl })

-- ---- the abstraction of a goal

-- the abstraction of a file as a function of the parts on which it depends
abstraction_at : ℕ → ℕ → List Term → ℕ → GoalTree → Width → ℕ → Result AbstractParts AbstractFault
abstraction_at tests actions hyps rounds goal w v = abstract_of (record {
  scope = empty_scope;
  tests = tests;
  actions = actions;
  vars = v;
  terms = 0;
  progs = [];
  prog_names = [];
  hyps = hyps;
  rounds = rounds;
  goal = goal;
  width = w;
})

file_abstraction : (f : FileParts) → abstract_of f ≡ abstraction_at f.tests f.actions f.hyps f.rounds f.goal f.width f.vars
unfolding abstraction_at
file_abstraction f = refl

goal_abstraction : (w : Width) (v : ℕ) (goal : GoalTree) → abstraction_at 0 0 [] 1 goal w v ≡ abstract_of (goal_file w v goal)
unfolding abstraction_at
goal_abstraction w v goal = refl

-- the file of a text of a goal about programs has the abstraction of the goal
posed_abstraction : (text : List ℕ) (w : Width) (v : ℕ) (goal : GoalTree) (poses : PosesPrograms text w v goal) → abstract_of poses.file ≡ abstract_of (goal_file w v goal)
posed_abstraction text w v goal poses =
    let f = poses.file in
    let same : abstraction_at f.tests f.actions f.hyps f.rounds f.goal f.width f.vars ≡ abstraction_at 0 0 [] 1 goal w v =
    cc (poses.concrete.tests, poses.concrete.actions, poses.concrete.hyps, poses.rounds, poses.goal, poses.width, poses.vars) in
    file_abstraction f ∙ same ∙ goal_abstraction w v goal

-- ---- the reply to a text of a goal about programs

module _ (f : FileParts) (Sentence : Type 0) (status : ℕ) (output : List ℕ) where
  -- the reply to the question of a file, if the sentence follows from 0
  question_headline : (status ≡ 0 → Sentence) → PosesQuestion f IsDecided status output → StoreHeadline (abstract_of f) Sentence status output
  question_headline denotes (inl refusal) = record {
    answers = inr (inr refusal.0);
    same = ((λ zero. absurd (omega (arith, zero, refusal.0))), (λ h. absurd (not_both (abstract_of f) h.0 refusal.1.fault h.1 refusal.1.has_none)));
    different = ((λ one. absurd (omega (arith, one, refusal.0))), (λ h. absurd (not_both (abstract_of f) h.0 refusal.1.fault h.1 refusal.1.has_none)));
    limit = ((λ two. (refusal.1.fault, refusal.1.has_none)), (λ h. refusal.0));
    headline = λ a is. absurd (not_both (abstract_of f) a refusal.1.fault is refusal.1.has_none);
    equal = denotes;
    refused = λ two. limit_line f output refusal.1;
    line = λ fault none. refused_line f output refusal.1 fault none;
  }
  question_headline denotes (inr (a, is, inl d)) = record {
    answers = inl d.0;
    same = ((λ zero. (a, is, d.1.same)), (λ h. d.0));
    different = ((λ one. absurd (omega (arith, one, d.0))), (λ h. absurd (h.2 (same_abstract f h.0 a h.1 is Same d.1.same))));
    limit = ((λ two. absurd (omega (arith, two, d.0))), (λ h. absurd (not_both (abstract_of f) a h.0 is h.1)));
    headline = abstract_headline f a is status output (inl d);
    equal = denotes;
    refused = λ two. absurd (omega (arith, two, d.0));
    line = λ fault none. absurd (not_both (abstract_of f) a fault is none);
  }
  question_headline denotes (inr (a, is, inr d)) = record {
    answers = inr (inl d.0);
    same = ((λ zero. absurd (omega (arith, zero, d.0))), (λ h. absurd (d.1.differ (same_abstract f a h.0 is h.1 Same h.2))));
    different = ((λ one. (a, is, d.1.differ)), (λ h. d.0));
    limit = ((λ two. absurd (omega (arith, two, d.0))), (λ h. absurd (not_both (abstract_of f) a h.0 is h.1)));
    headline = abstract_headline f a is status output (inr d);
    equal = denotes;
    refused = λ two. absurd (omega (arith, two, d.0));
    line = λ fault none. absurd (not_both (abstract_of f) a fault is none);
  }

module _ (text : List ℕ) (w : Width) (v : ℕ) (goal : GoalTree) (poses : PosesPrograms text w v goal) (status : ℕ) (output : List ℕ) where
  headline : (Sentence : Type 0) → (Agrees poses.file → Sentence) → DecidesText text status output → StoreHeadline (abstract_of (goal_file w v goal)) Sentence status output
  headline Sentence denotes r =
      subst (λ abstraction. StoreHeadline abstraction Sentence status output) (posed_abstraction text w v goal poses)
      (question_headline poses.file Sentence status output
      (λ zero. denotes (text_stores text status output poses.file poses.reads poses.concrete r zero))
      (reads_denoted text (λ f. PosesQuestion f IsDecided) status output poses.file poses.reads r))

-- ---- the plainest texts

module _ (text : List ℕ) (w : Width) (v : ℕ) (status : ℕ) (output : List ℕ) where
  pub programs_headline : (p q : ProgTree) → ArePrintable w v p q → text ≡ programs_text w v p q → DecidesText text status output → StoreHeadline (programs_abstraction w v p q) (AlwaysEndAlike w v p q) status output
  programs_headline p q printable is r =
      headline text w v (equal (prog_side p) (prog_side q)) (poses_equal text w v p q printable is) status output (AlwaysEndAlike w v p q) (always_alike text w v p q printable is) r

  pub triple_headline : (b : CondTree) (p : ProgTree) (c : CondTree) → IsTriplePrintable w v b p c → text ≡ triple_text w v b p c → DecidesText text status output → StoreHeadline (triple_abstraction w v b p c) (AlwaysMeets w v b p c) status output
  triple_headline b p c printable is r =
      headline text w v (triple b (prog_side p) c) (poses_triple text w v b p c printable is) status output (AlwaysMeets w v b p c) (always_met text w v b p c printable is) r
