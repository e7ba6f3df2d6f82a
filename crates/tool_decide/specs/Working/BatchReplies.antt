-- The reply of `batch` satisfies the statement on the goals.
use Rattle.std.proofs.Common.{◌≡◌, ◌⊎◌, ◌<◌, ℕ, ◌+◌, max, List, [], ◌∷◌, ◌++◌, length, map, slice_get, Some, Ok, inl, inr, ⊎_elim, refl, sym, subst, ap, ◌∙◌, arith, append_assoc, append-nil}
use Rattle.kat_model.specs.Members.{Has}
use Rattle.kat_model.specs.Problems.{ProblemParts}
use Rattle.kat_model.specs.Relations.{Same}
use Rattle.while_lang.specs.Files.{GoalTree, FileParts}
use Rattle.problem_file.specs.FirstFaults.{too_long, no_text}
use Rattle.problem_file.specs.Reads.{ReadsAll, FirstFaultOfAll}
use Rattle.problem_file.specs.Laws.{ReadsBoth}
use Rattle.while_lang.specs.Concrete.{IsConcrete, Agrees}
use Rattle.problem_file.proofs.OneAnswer.{all_have_one_answer}
use Rattle.problem_file.proofs.NumberedStates.{all_are_in_ranges}
use Rattle.abstraction.specs.Abstracts.{AbstractParts, HasNumbersInRange, abstract_of, with_goal}
use Rattle.abstraction.specs.Readings.{Reading, KeepsStated, GoalHoldsBy}
use Rattle.abstraction.proofs.DerivedHypotheses.{derived_hold}
use Rattle.abstraction.proofs.ReadingAgreement.{readings_agree}
use Rattle.abstraction.proofs.Agreement.{same_agrees}
use Rattle.kat_report.specs.InputLines.{too_long_line}
use Rattle.tool_decide.specs.Decide.{IsDecided}
use Rattle.tool_decide.specs.Batch.{with_each, PosesSome, PosesSame, goal_line, IsGoalAnswer, AnswersFrom, IsFirstRefused, AnswersAll, AnswersText, BatchHeadline, BatchReply}
use Rattle.tool_decide.specs.Working.Goals.{AreInRange}
use Rattle.tool_inputs.specs.ReplySpecs.{IsQuestionOf}
use Rattle.tool_inputs.specs.Working.Questions.{not_both as not_both_results}
use Rattle.tool_inputs.proofs.Steps.{OneStatus, one_value, one_line, denoted_one, faulty_one, read_once, reads_small, reads_long}
use Rattle.tool_inputs.proofs.FileReplies.{RefusesLong, HasOneReply}
use Rattle.tool_decide.specs.Working.DecideReplies.{not_both, decided_headline}
use Rattle.tool_decide.specs.Working.GoalLists.{with_first, first_next, length_first}

-- ---- one goal

module _ (f : FileParts) where
  goal_some : (status : ℕ) (output : List ℕ) → IsGoalAnswer f status output → PosesSome f
  goal_some status output (a, is, d) = (a, is)

  goal_same : (status : ℕ) (output : List ℕ) → IsGoalAnswer f status output → status ≡ 0 → PosesSame f
  goal_same status output (a, is, d) zero = (a, is, (decided_headline a.problem status output d).equal.0 zero)

  goal_zero : (status : ℕ) (output : List ℕ) → IsGoalAnswer f status output → PosesSame f → status ≡ 0
  goal_zero status output (a, is, d) (b, was, same) =
      (decided_headline a.problem status output d).equal.1 (subst (λ (x : AbstractParts). Same x.problem) (one_value (abstract_of f) b a was is) same)

  goal_either : (status : ℕ) (output : List ℕ) → IsGoalAnswer f status output → (status ≡ 0) ⊎ (status ≡ 1)
  goal_either status output (a, is, d) = (decided_headline a.problem status output d).answers

-- ---- all goals

both_zero : (status m n : ℕ) → status ≡ max m n → status ≡ 0 → (m ≡ 0) × (n ≡ 0)
both_zero status m n e zero = (omega (arith, e, zero), omega (arith, e, zero))

one_of_both : (status m n : ℕ) → status ≡ max m n → (m ≡ 0) ⊎ (m ≡ 1) → (n ≡ 0) ⊎ (n ≡ 1) → (status ≡ 0) ⊎ (status ≡ 1)
one_of_both status m n e (inl p) (inl q) = inl (omega (arith, e, p, q))
one_of_both status m n e (inl p) (inr q) = inr (omega (arith, e, p, q))
one_of_both status m n e (inr p) (inl q) = inr (omega (arith, e, p, q))
one_of_both status m n e (inr p) (inr q) = inr (omega (arith, e, p, q))

each_some : (k : ℕ) (fs : List FileParts) (status : ℕ) (output : List ℕ) → AnswersFrom k fs status output → (g : FileParts) → Has fs g → PosesSome g
each_some k [] status output r g has = elim has [ ]
each_some k (f ∷ fs) status output r g (inl is) = subst PosesSome is (goal_some f r.first r.text r.answer)
each_some k (f ∷ fs) status output r g (inr has) = each_some (k + 1) fs r.later r.others r.goes_on g has

each_same : (k : ℕ) (fs : List FileParts) (status : ℕ) (output : List ℕ) → AnswersFrom k fs status output → status ≡ 0 → (g : FileParts) → Has fs g → PosesSame g
each_same k [] status output r zero g has = elim has [ ]
each_same k (f ∷ fs) status output r zero g (inl is) = subst PosesSame is (goal_same f r.first r.text r.answer (both_zero status r.first r.later r.has_status zero).0)
each_same k (f ∷ fs) status output r zero g (inr has) = each_same (k + 1) fs r.later r.others r.goes_on (both_zero status r.first r.later r.has_status zero).1 g has

all_zero : (k : ℕ) (fs : List FileParts) (status : ℕ) (output : List ℕ) → AnswersFrom k fs status output → ((g : FileParts) → Has fs g → PosesSame g) → status ≡ 0
all_zero k [] status output r same = r.0
all_zero k (f ∷ fs) status output r same =
    let first : r.first ≡ 0 = goal_zero f r.first r.text r.answer (same f (inl refl)) in
    let later : r.later ≡ 0 = all_zero (k + 1) fs r.later r.others r.goes_on (λ g has. same g (inr has)) in
    r.has_status ∙ both first later
  where
    both : r.first ≡ 0 → r.later ≡ 0 → max r.first r.later ≡ 0
    both p q = omega (arith, p, q)

either_status : (k : ℕ) (fs : List FileParts) (status : ℕ) (output : List ℕ) → AnswersFrom k fs status output → (status ≡ 0) ⊎ (status ≡ 1)
either_status k [] status output r = inl r.0
either_status k (f ∷ fs) status output r = one_of_both status r.first r.later r.has_status (goal_either f r.first r.text r.answer) (either_status (k + 1) fs r.later r.others r.goes_on)

-- an additional goal is answered after the others
pub answered_last : (k : ℕ) (fs : List FileParts) (status : ℕ) (output : List ℕ) → AnswersFrom k fs status output → (f : FileParts) (last : ℕ) (text : List ℕ) → IsGoalAnswer f last text
    → AnswersFrom k (fs ++ f ∷ []) (max status last) (output ++ (goal_line (k + length fs) ++ text))
answered_last k [] status output r f last text a = record {
  first = last;
  text = text;
  answer = a;
  later = 0;
  others = [];
  goes_on = (refl, refl);
  has_status = lone status last r.0;
  printed = ap (λ o. o ++ (goal_line (k + 0) ++ text)) r.1 ∙ here k (omega arith);
}
  where
    lone : (m n : ℕ) → m ≡ 0 → max m n ≡ max n 0
    lone m n e = omega (arith, e)

    here : (n : ℕ) → k + 0 ≡ n → goal_line (k + 0) ++ text ≡ goal_line n ++ text ++ []
    here n e = subst (λ m. goal_line (k + 0) ++ text ≡ goal_line m ++ text ++ []) e (sym (append-nil (goal_line (k + 0) ++ text)))
answered_last k (g ∷ fs) status output r f last text a = record {
  first = r.first;
  text = r.text;
  answer = r.answer;
  later = max r.later last;
  others = r.others ++ (goal_line (k + 1 + length fs) ++ text);
  goes_on = answered_last (k + 1) fs r.later r.others r.goes_on f last text a;
  has_status = regrouped status r.first r.later last r.has_status;
  printed = ap (λ o. o ++ (goal_line (k + length (g ∷ fs)) ++ text)) r.printed ∙ moved (k + 1 + length fs) (omega arith);
}
  where
    grouped : (a b c d : List ℕ) → (a ++ b ++ c) ++ d ≡ a ++ b ++ (c ++ d)
    grouped a b c d = append_assoc (a ++ b) c d

    moved : (n : ℕ) → k + length (g ∷ fs) ≡ n → (goal_line k ++ r.text ++ r.others) ++ (goal_line (k + length (g ∷ fs)) ++ text) ≡ goal_line k ++ r.text ++ (r.others ++ (goal_line n ++ text))
    moved n e = subst (λ m. (goal_line k ++ r.text ++ r.others) ++ (goal_line (k + length (g ∷ fs)) ++ text) ≡ goal_line k ++ r.text ++ (r.others ++ (goal_line m ++ text))) e (grouped (goal_line k) r.text r.others (goal_line (k + length (g ∷ fs)) ++ text))

    regrouped : (s m n l : ℕ) → s ≡ max m n → max s l ≡ max m (max n l)
    regrouped s m n l e = omega (arith, e)

-- ---- a refused goal

refused_some : (fs : List FileParts) (line : List ℕ) → IsFirstRefused fs line → ((g : FileParts) → Has fs g → PosesSome g) → ⊥
refused_some [] line first some = elim first [ ]
refused_some (f ∷ fs) line (inl none) some = let a = some f (inl refl) in not_both_results (abstract_of f) a.0 none.fault a.1 none.has_none
refused_some (f ∷ fs) line (inr later) some = refused_some fs line later.1 (λ g has. some g (inr has))

one_refused : (fs : List FileParts) (a b : List ℕ) → IsFirstRefused fs a → IsFirstRefused fs b → a ≡ b
one_refused [] a b x y = elim x [ ]
one_refused (f ∷ fs) a b (inl x) (inl y) = one_line f a b x y
one_refused (f ∷ fs) a b (inl x) (inr y) = absurd (not_both_results (abstract_of f) (y.0).0 x.fault (y.0).1 x.has_none)
one_refused (f ∷ fs) a b (inr x) (inl y) = absurd (not_both_results (abstract_of f) (x.0).0 y.fault (x.0).1 y.has_none)
one_refused (f ∷ fs) a b (inr x) (inr y) = one_refused fs a b x.1 y.1

-- ---- what was read

-- the numbers of the file with each goal are in range
goals_in : (f : FileParts) (gs : List GoalTree) → ((g : GoalTree) → Has gs g → HasNumbersInRange (with_goal f g)) → (x : FileParts) → Has (map (with_goal f) gs) x → HasNumbersInRange x
goals_in f [] in_range x has = elim has [ ]
goals_in f (g ∷ gs) in_range x (inl is) = subst HasNumbersInRange is (in_range g (inl refl))
goals_in f (g ∷ gs) in_range x (inr has) = goals_in f gs (λ h there. in_range h (inr there)) x has

pub numbers_of_goals : (text : List ℕ) (f : FileParts) (more : List GoalTree) → ReadsAll text f more → AreInRange f more
numbers_of_goals text f more reads x (inl is) =
    let numbered = all_are_in_ranges.file text f more reads in
    subst HasNumbersInRange is (record { hyps = numbered.hyps; goal = numbered.goal })
numbers_of_goals text f more reads x (inr has) =
    let numbered = all_are_in_ranges.file text f more reads in
    goals_in f more (λ g there. record { hyps = numbered.hyps; goal = all_are_in_ranges.goals text f more reads g there }) x has

-- ---- the reply to what was read

module _ (f : FileParts) (more : List GoalTree) (status : ℕ) (output : List ℕ) where
  same_if : AnswersAll f more status output → ((g : FileParts) → Has (with_each f more) g → PosesSame g) → status ≡ 0
  same_if (inl r) same = absurd (refused_some (with_each f more) output r.1 (λ g has. let h = same g has in (h.0, h.1)))
  same_if (inr r) same = all_zero 0 (with_each f more) status output r same

  answered_if : AnswersAll f more status output → ((g : FileParts) → Has (with_each f more) g → PosesSome g) → AnswersFrom 0 (with_each f more) status output
  answered_if (inl r) some = absurd (refused_some (with_each f more) output r.1 some)
  answered_if (inr r) some = r

  refused_if : AnswersAll f more status output → (line : List ℕ) → IsFirstRefused (with_each f more) line → (status ≡ 2) × (output ≡ line)
  refused_if (inl r) line first = (r.0, one_refused (with_each f more) output line r.1 first)
  refused_if (inr r) line first = absurd (refused_some (with_each f more) line first (each_some 0 (with_each f more) status output r))

  three : AnswersAll f more status output → (status ≡ 0) ⊎ ((status ≡ 1) ⊎ (status ≡ 2))
  three (inl r) = inr (inr r.0)
  three (inr r) = ⊎_elim (λ e. inl e) (λ e. inr (inl e)) (either_status 0 (with_each f more) status output r)

  at_two : AnswersAll f more status output → status ≡ 2 → (line : List ℕ) × IsFirstRefused (with_each f more) line
  at_two (inl r) two = (output, r.1)
  at_two (inr r) two = absurd (⊎_elim (λ e. omega (arith, e, two)) (λ e. omega (arith, e, two)) (either_status 0 (with_each f more) status output r))

  below_two : AnswersAll f more status output → (status ≡ 0) ⊎ (status ≡ 1) → AnswersFrom 0 (with_each f more) status output
  below_two (inl r) e = absurd (⊎_elim (λ zero. omega (arith, zero, r.0)) (λ one. omega (arith, one, r.0)) e)
  below_two (inr r) e = r

  differ_if : AnswersAll f more status output → ((g : FileParts) → Has (with_each f more) g → PosesSome g) → (((g : FileParts) → Has (with_each f more) g → PosesSame g) → ⊥) → status ≡ 1
  differ_if r some differ =
      let answered = answered_if r some in
      ⊎_elim (λ zero. absurd (differ (each_same 0 (with_each f more) status output answered zero))) (λ one. one) (either_status 0 (with_each f more) status output answered)

  stores_if : AreInRange f more → AnswersAll f more status output → status ≡ 0 → (g : FileParts) → Has (with_each f more) g → IsConcrete g → Agrees g
  stores_if in_range r zero g has concrete =
      let h = each_same 0 (with_each f more) status output (below_two r (inl zero)) zero g has in
      let range = in_range g has in
      same_agrees g h.0 range h.1 (derived_hold g h.0 range h.1) concrete h.2

  readings_if : AreInRange f more → AnswersAll f more status output → status ≡ 0 → (g : FileParts) → Has (with_each f more) g → (a : AbstractParts) (r : Reading) → abstract_of g ≡ Ok a → KeepsStated g a r → GoalHoldsBy g a r g.goal
  readings_if in_range r zero g has a reading is stated =
      let h = each_same 0 (with_each f more) status output (below_two r (inl zero)) zero g has in
      readings_agree g a reading (in_range g has) is stated (subst (λ (x : AbstractParts). Same x.problem) (one_value (abstract_of g) h.0 a h.1 is) h.2)

  pub goals_headline : AreInRange f more → AnswersAll f more status output → BatchHeadline f more status output
  goals_headline in_range r = record {
    answers = three r;
    equal = ((λ zero. each_same 0 (with_each f more) status output (below_two r (inl zero)) zero), same_if r);
    different = (
      (λ one. (each_some 0 (with_each f more) status output (below_two r (inr one)), (λ same. not_both status (same_if r same) one))),
      (λ h. differ_if r h.0 h.1),
    );
    refused = (at_two r, (λ h. (refused_if r h.0 h.1).0));
    refused_line = λ line first. (refused_if r line first).1;
    answered = below_two r;
    stores = stores_if in_range r;
    readings = readings_if in_range r;
  }

goals_once : (f : FileParts) (more : List GoalTree) → OneStatus (AnswersAll f more)
goals_once f more a b o p (inl x) y = x.0 ∙ sym (refused_if f more b p y o x.1).0
goals_once f more a b o p (inr x) y = by_status (either_status 0 (with_each f more) a o x)
  where
    other : AnswersFrom 0 (with_each f more) b p
    other = answered_if f more b p y (each_some 0 (with_each f more) a o x)

    by_status : (a ≡ 0) ⊎ (a ≡ 1) → a ≡ b
    by_status (inl zero) = zero ∙ sym (all_zero 0 (with_each f more) b p other (each_same 0 (with_each f more) a o x zero))
    by_status (inr one) = one ∙ sym (differ_if f more b p y (each_some 0 (with_each f more) a o x) (λ same. not_both a (all_zero 0 (with_each f more) a o x same) one))

-- ---- the reply to a text

pub text_headline : (text : List ℕ) (status : ℕ) (output : List ℕ) (f : FileParts) (more : List GoalTree) → ReadsAll text f more → AnswersText text status output → BatchHeadline f more status output
text_headline text status output f more reads r =
    goals_headline f more status output (numbers_of_goals text f more reads)
    (denoted_one ReadsBoth FirstFaultOfAll all_have_one_answer text (λ x. AnswersAll x.0 x.1) status output (f, more) reads r)

batches_once : (text : List ℕ) → OneStatus (AnswersText text)
batches_once text = read_once ReadsBoth FirstFaultOfAll all_have_one_answer text (λ x. AnswersAll x.0 x.1) (λ x. goals_once x.0 x.1)

-- ---- what the reply says

pub batch_reply : (text : List ℕ) (status : ℕ) (output : List ℕ) → AnswersText text status output → BatchReply text status output
batch_reply text status output r = record {
  replies = r;
  headline = λ f more reads. text_headline text status output f more reads r;
  declined = λ line fault. faulty_one ReadsBoth FirstFaultOfAll all_have_one_answer text (λ x. AnswersAll x.0 x.1) status output line fault r;
}

pub batch_long : RefusesLong BatchReply
batch_long text past = batch_reply text 2 too_long_line (reads_long ReadsBoth FirstFaultOfAll (λ t longer. no_text (too_long refl longer)) text (λ x. AnswersAll x.0 x.1) past)

goals_small : (f : FileParts) (more : List GoalTree) (status : ℕ) (output : List ℕ) → AnswersAll f more status output → status < 4
goals_small f more status output r = below (three f more status output r)
  where
    below : (status ≡ 0) ⊎ ((status ≡ 1) ⊎ (status ≡ 2)) → status < 4
    below h = grind (arith, h)

pub batch_one : (text : List ℕ) → HasOneReply (BatchReply text) ⊥
batch_one text = record {
  small = λ status output r. inl (reads_small (ReadsBoth text) (FirstFaultOfAll text) (λ x. AnswersAll x.0 x.1) (λ x k o reads. goals_small x.0 x.1 k o) status output r.replies);
  once = λ a b o p x y. batches_once text a b o p x.replies y.replies;
}

-- ---- the parts of the code

-- the question of a file, decided
pub question_answered : (f : FileParts) (q : ProblemParts) → IsQuestionOf f q → (status : ℕ) (output : List ℕ) → IsDecided q status output → IsGoalAnswer f status output
question_answered f q (a, is, same) status output d = (a, is, subst (λ p. IsDecided p status output) same d)

-- the reply with the first answer, and the reply with an additional answer
pub first_answered : (f : FileParts) (first : ℕ) (text : List ℕ) → IsGoalAnswer f first text → (status : ℕ) (output : List ℕ) → status ≡ max 0 first → output ≡ [] ++ (goal_line 0 ++ text) → AnswersFrom 0 (f ∷ []) status output
first_answered f first text a status output is_status is_output =
    subst (λ s. AnswersFrom 0 (f ∷ []) s output) (sym is_status) (subst (λ o. AnswersFrom 0 (f ∷ []) (max 0 first) o) (sym is_output) (answered_last 0 [] 0 [] (refl, refl) f first text a))

pub next_answered : (f : FileParts) (more : List GoalTree) (k : ℕ) (g : GoalTree) → slice_get more k ≡ Some g → (so_far : ℕ) (printed : List ℕ) → AnswersFrom 0 (with_first f k more) so_far printed → (next : ℕ) (text : List ℕ) → IsGoalAnswer (with_goal f g) next text
    → (status : ℕ) (output : List ℕ) → status ≡ max so_far next → output ≡ printed ++ (goal_line (k + 1) ++ text) → AnswersFrom 0 (with_first f (k + 1) more) status output
next_answered f more k g e so_far printed r next text a status output is_status is_output =
    let fs = with_first f k more in
    let lines : 0 + length fs ≡ k + 1 = length_first f more k g e in
    let last : AnswersFrom 0 (fs ++ with_goal f g ∷ []) (max so_far next) (printed ++ (goal_line (0 + length fs) ++ text)) = answered_last 0 fs so_far printed r (with_goal f g) next text a in
    let numbered : AnswersFrom 0 (fs ++ with_goal f g ∷ []) (max so_far next) (printed ++ (goal_line (k + 1) ++ text)) = subst (λ n. AnswersFrom 0 (fs ++ with_goal f g ∷ []) (max so_far next) (printed ++ (goal_line n ++ text))) lines last in
    let listed : AnswersFrom 0 (with_first f (k + 1) more) (max so_far next) (printed ++ (goal_line (k + 1) ++ text)) = subst (λ xs. AnswersFrom 0 xs (max so_far next) (printed ++ (goal_line (k + 1) ++ text))) (sym (first_next f more k g e)) numbered in
    subst (λ s. AnswersFrom 0 (with_first f (k + 1) more) s output) (sym is_status) (subst (λ o. AnswersFrom 0 (with_first f (k + 1) more) (max so_far next) o) (sym is_output) listed)
