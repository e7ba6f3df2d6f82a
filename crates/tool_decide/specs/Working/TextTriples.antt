-- A text asks one triple or has one reason why it asks none.
use Rattle.std.proofs.Common.{◌≡◌, ◌<◌, ℕ, List, length, None, Some, Result, Ok, Err, inl, inr, ⊎_elim, refl, sym, ap, subst, ◌∙◌, arith}
use Rattle.std.proofs.lemmas.Bool.{cases_lt}
use Rattle.std.proofs.lemmas.Option.{same_Some, none-some}
use Rattle.kat_model.specs.declared.limits.TheConstants.{MAX_TEXT_BYTES}
use Rattle.kat_model.specs.Trees.{Term}
use Rattle.kat_model.specs.Problems.{ProblemParts}
use Rattle.kat_model.proofs.Places.{has_at}
use Rattle.goal_forms.specs.Sides.{triple_sides}
use Rattle.while_lang.specs.Encoding.{encoded}
use Rattle.while_lang.specs.Files.{term_side, prog_side, GoalTree, equal, below, triple, FileParts}
use Rattle.problem_file.specs.Reads.{Reads, FirstFault}
use Rattle.abstraction.specs.Tables.{Tables}
use Rattle.abstraction.specs.Rounds.{tables_of}
use Rattle.abstraction.specs.Goals.{goal_sides}
use Rattle.abstraction.specs.Abstracts.{AbstractParts, abstract_of}
use Rattle.abstraction.specs.ShownTables.{shown_tables}
use Rattle.abstraction.proofs.DerivedHypotheses.{abstract_parts_of}
use Rattle.abstraction.proofs.ShownRows.{shown_tables-abstract_of}
use Rattle.goal_forms.specs.TestTerms.{IsNotSimple}
use Rattle.outline_rules.specs.Tasks.{TaskParts, task_parts, IsTripleOf}
use Rattle.outline_rules.specs.declared.task.Task.{Task}
use Rattle.tool_inputs.specs.declared.reply.EarlyEnd.{EarlyEnd}
use Rattle.tool_decide.specs.declared.triple.Triple.{Triple}
use Rattle.tool_inputs.specs.FileProblem.{Poses}
use Rattle.tool_inputs.specs.TextProblem.{IsFaulty, HasNoAbstraction}
use Rattle.kat_report.specs.InputLines.{too_long_line}
use Rattle.kat_report.specs.OutlineLines.{not_a_triple_line, not_simple_line}
use Rattle.tool_decide.specs.Triples.{goal_task, file_task, HasTask, ReportsNotSimple, HasNoTask, TakesTask, AnswersTask, PosesTask, PosesNoTask, PosesSomeTask}
use Rattle.tool_inputs.specs.Steps.{ReplySpec, IsRefusal, AbstractsFile, PosesFor}
use Rattle.tool_inputs.specs.ReplySpecs.{Yields}
use Rattle.tool_inputs.specs.Working.Questions.{long_problem}
use Rattle.tool_decide.specs.Working.FileTriples.{IsSimpleTriple, IsTripleOfFile, LacksTask}
use Rattle.tool_inputs.proofs.ReplySpecs.{EndsWith-weaker, Yields-refused}
use Rattle.tool_inputs.proofs.Steps.{OneStatus, reads_denoted, reads_once, abstracts_as, abstracts_once, abstracted_none, small_status, reads_small, abstracts_small}

-- ---- the triple of a file

-- the sides of a goal with a task are those of its triple
task_sides : (t : Tables) (g : GoalTree) (task : TaskParts) → goal_task t g ≡ Some task → goal_sides t g ≡ triple_sides task.pre (encoded task.flow) task.post
task_sides t (equal l r) task is = absurd (none-some task is)
task_sides t (below l r) task is = absurd (none-some task is)
task_sides t (triple pre (term_side e) post) task is = absurd (none-some task is)
task_sides t (triple pre (prog_side p) post) task is = ap (λ (x : TaskParts). triple_sides x.pre (encoded x.flow) x.post) (same_Some _ task is)

task_is_triple : (f : FileParts) (a : AbstractParts) (task : TaskParts) → abstract_of f ≡ Ok a → file_task f ≡ Some task → IsTripleOf a.problem task
task_is_triple f a task made is =
    let P : AbstractParts → Type 0 = λ b. IsTripleOf b.problem task in
    subst P (abstract_parts_of f a made) (task_sides (tables_of f) f.goal task is)

-- the rows that an abstraction shows give the goal the task of the file
pub shown_task : (f : FileParts) (a : AbstractParts) (g : GoalTree) → abstract_of f ≡ Ok a → g ≡ f.goal → goal_task (shown_tables a) g ≡ file_task f
shown_task f a g made same = ap (λ t. goal_task t g) (shown_tables-abstract_of f a made) ∙ ap (λ h. goal_task (tables_of f) h) same

-- ---- the results of the parts of the program

-- the triple of a file, or why it has none
module _ (f : FileParts) (a : AbstractParts) (made : abstract_of f ≡ Ok a) where
  pub no_triple : (status : ℕ) (output : List ℕ) → file_task f ≡ None → (status ≡ 2) × (output ≡ not_a_triple_line) → IsRefusal (LacksTask f) status output
  no_triple status output none h = (h.0, inr (a, made, inl (record { none = none; printed = h.1 })))

  module _ (task : Task) (is : file_task f ≡ Some (task_parts task)) where
    not_simple : (status : ℕ) (output : List ℕ) → IsRefusal (ReportsNotSimple a.problem.hyps) status output → IsRefusal (LacksTask f) status output
    not_simple status output h = (h.0, inr (a, made, inr (task_parts task, is, h.1)))

    pub simple_of_file : (result : Result Triple EarlyEnd) → Yields (IsSimpleTriple a task) (IsRefusal (ReportsNotSimple a.problem.hyps)) result → Yields (IsTripleOfFile f) (IsRefusal (LacksTask f)) result
    simple_of_file (Ok t) s =
        let P : Task → Type 0 = λ u. HasTask f a.problem (task_parts u) in
        record { abstract = a; is_abstract = made; problem = s.problem; task = subst P (sym s.task) (record { is_task = is; simple = s.simple }) }
    simple_of_file (Err stop) s = EndsWith-weaker (IsRefusal (ReportsNotSimple a.problem.hyps)) (IsRefusal (LacksTask f)) not_simple stop s

pub no_abstract : (f : FileParts) (result : Result Triple EarlyEnd) → Yields (λ t. ⊥) (IsRefusal (HasNoAbstraction f)) result → Yields (IsTripleOfFile f) (IsRefusal (LacksTask f)) result
no_abstract f result r = Yields-refused (IsTripleOfFile f) (IsRefusal (HasNoAbstraction f)) (IsRefusal (LacksTask f)) (λ status output h. (h.0, inl h.1)) result r

-- the triple of a text, or why it has none
module _ (text : List ℕ) where
  abbrev pub IsPosed : Triple → Type 0
  IsPosed t = PosesTask text t.problem (task_parts t.task)

  pub no_file : (result : Result Triple EarlyEnd) → Yields (λ t. ⊥) (IsRefusal (IsFaulty text)) result → Yields IsPosed (IsRefusal (PosesNoTask text)) result
  no_file result r = Yields-refused IsPosed (IsRefusal (IsFaulty text)) (IsRefusal (PosesNoTask text)) (λ status output h. (h.0, inl (inl h.1))) result r

  module _ (f : FileParts) (reads : Reads text f) where
    none_posed : (status : ℕ) (output : List ℕ) → IsRefusal (LacksTask f) status output → IsRefusal (PosesNoTask text) status output
    none_posed status output (two, inl none) = (two, inl (inr (f, reads, none)))
    none_posed status output (two, inr (a, made, none)) = (two, inr (a.problem, record { file = f; reads = reads; abstract = a; is_abstract = made; question = refl }, none))

    pub file_posed : (result : Result Triple EarlyEnd) → Yields (IsTripleOfFile f) (IsRefusal (LacksTask f)) result → Yields IsPosed (IsRefusal (PosesNoTask text)) result
    file_posed (Ok t) h =
        let task : TaskParts = task_parts t.task in
        let P : ProblemParts → Type 0 = λ p. HasTask f p task in
        let S : ProblemParts → Type 0 = λ p. IsTripleOf p task in
        record {
          poses = record { file = f; reads = reads; abstract = h.abstract; is_abstract = h.is_abstract; question = h.problem };
          task = subst P (sym h.problem) h.task;
          sides = subst S (sym h.problem) (task_is_triple f h.abstract task h.is_abstract h.task.is_task);
        }
    file_posed (Err stop) h = EndsWith-weaker (IsRefusal (LacksTask f)) (IsRefusal (PosesNoTask text)) none_posed stop h

-- ---- one triple, or one reason

one_hyp : (hyps : List Term) (k l : ℕ) → IsNotSimple hyps k → IsNotSimple hyps l → k ≡ l
one_hyp hyps k l x y = ⊎_elim (λ lt. absurd (x.not_simple (y.least k x.hyp lt x.place))) (λ ge. ⊎_elim (λ lt. absurd (y.not_simple (x.least l y.hyp lt y.place))) (λ le. omega (arith, ge, le)) (cases_lt l k)) (cases_lt k l)

module _ (f : FileParts) (q : ProblemParts) where
  one_task : (t u : TaskParts) → HasTask f q t → HasTask f q u → t ≡ u
  one_task t u x y = same_Some t u (sym x.is_task ∙ y.is_task)

  one_line : (a b : List ℕ) → HasNoTask f q a → HasNoTask f q b → a ≡ b
  one_line a b (inl x) (inl y) = x.printed ∙ sym y.printed
  one_line a b (inl x) (inr y) = absurd (none-some y.0 (sym x.none ∙ y.1))
  one_line a b (inr x) (inl y) = absurd (none-some x.0 (sym y.none ∙ x.1))
  one_line a b (inr x) (inr y) = x.2.printed ∙ ap not_simple_line (one_hyp q.hyps x.2.hyp y.2.hyp x.2.least y.2.least) ∙ sym y.2.printed

  task_or_none : (t : TaskParts) (line : List ℕ) → HasTask f q t → HasNoTask f q line → ⊥
  task_or_none t line has (inl n) = none-some t (sym n.none ∙ has.is_task)
  task_or_none t line has (inr n) = let l = n.2.least in l.not_simple (has.simple l.hyp (has_at q.hyps n.2.hyp l.hyp l.place))

  module _ (GoesOn : ProblemParts → TaskParts → ReplySpec) where
    module _ (status : ℕ) (output : List ℕ) where
      pub takes_task : (t : TaskParts) → HasTask f q t → TakesTask GoesOn f q status output → GoesOn q t status output
      takes_task t has (inl r) = absurd (task_or_none t output has r.1)
      takes_task t has (inr g) = subst (λ u. GoesOn q u status output) (one_task g.0 t g.1 has) g.2

      pub takes_none : (line : List ℕ) → HasNoTask f q line → TakesTask GoesOn f q status output → (status ≡ 2) × (output ≡ line)
      takes_none line none (inl r) = (r.0, one_line output line r.1 none)
      takes_none line none (inr g) = absurd (task_or_none g.0 line g.1 none)

    takes_once : ((t : TaskParts) → OneStatus (GoesOn q t)) → OneStatus (TakesTask GoesOn f q)
    takes_once once a b o p (inl r) y = r.0 ∙ sym (takes_none b p o r.1 y).0
    takes_once once a b o p (inr g) y = once g.0 a b o p g.2 (takes_task b p g.0 g.1 y)

-- ---- the triple of a text

module _ (text : List ℕ) (GoesOn : ProblemParts → TaskParts → ReplySpec) where
  pub poses_once : ((q : ProblemParts) (t : TaskParts) → OneStatus (GoesOn q t)) → OneStatus (AnswersTask text GoesOn)
  poses_once once =
      reads_once text (λ f. AbstractsFile f (λ a. TakesTask GoesOn f a.problem))
      (λ f. abstracts_once f (λ a. TakesTask GoesOn f a.problem) (λ a. takes_once f a.problem GoesOn (once a.problem)))

  module _ (status : ℕ) (output : List ℕ) where
    -- the reply to a text with a question is the reply to this question
    pub poses_takes : (q : ProblemParts) (poses : Poses text q) → AnswersTask text GoesOn status output → TakesTask GoesOn poses.file q status output
    poses_takes q poses r =
        subst (λ p. TakesTask GoesOn poses.file p status output) (sym poses.question)
        (abstracts_as poses.file (λ a. TakesTask GoesOn poses.file a.problem) status output poses.abstract poses.is_abstract (reads_denoted text (λ f. AbstractsFile f (λ a. TakesTask GoesOn f a.problem)) status output poses.file poses.reads r))

    pub poses_none : (line : List ℕ) → PosesNoTask text line → AnswersTask text GoesOn status output → (status ≡ 2) × (output ≡ line)
    poses_none line (inl none) r = abstracted_none text (λ f a. TakesTask GoesOn f a.problem) status output line none r
    poses_none line (inr n) r = takes_none n.1.file n.0 GoesOn status output line n.2 (poses_takes n.0 n.1 r)

    -- the reply to a text that asks no triple, and to one that asks a triple
    pub no_task : IsRefusal (PosesNoTask text) status output → AnswersTask text GoesOn status output
    no_task (two, inl (inl faulty)) = inl (two, faulty)
    no_task (two, inl (inr (f, denotes, n))) = inr (f, denotes, inl (two, n))
    no_task (two, inr n) =
        let poses = n.1 in
        let P : ProblemParts → Type 0 = λ p. HasNoTask poses.file p output in
        inr (poses.file, poses.reads, inr (poses.abstract, poses.is_abstract, inl (two, subst P poses.question n.2)))

    pub posed_task : (q : ProblemParts) (t : TaskParts) → PosesTask text q t → GoesOn q t status output → AnswersTask text GoesOn status output
    posed_task q t task_posed g =
        let poses = task_posed.poses in
        let P : ProblemParts → Type 0 = λ p. TakesTask GoesOn poses.file p status output in
        inr (poses.file, poses.reads, inr (poses.abstract, poses.is_abstract, subst P poses.question (inr (t, task_posed.task, g))))

-- the reply to a text, by what it poses
pub answered_task : (text : List ℕ) (GoesOn : ProblemParts → TaskParts → ReplySpec) (status : ℕ) (output : List ℕ) → PosesFor (PosesNoTask text) (IsPosed text) (λ t. GoesOn t.problem (task_parts t.task)) status output → AnswersTask text GoesOn status output
answered_task text GoesOn status output (inl r) = no_task text GoesOn status output r
answered_task text GoesOn status output (inr (t, task_posed, g)) = posed_task text GoesOn status output t.problem (task_parts t.task) task_posed g

-- the status is below 4 if the status of the reply to a triple is
pub task_small : (text : List ℕ) (GoesOn : ProblemParts → TaskParts → ReplySpec) → ((q : ProblemParts) (t : TaskParts) (status : ℕ) (output : List ℕ) → GoesOn q t status output → status < 4) → (status : ℕ) (output : List ℕ) → AnswersTask text GoesOn status output → status < 4
task_small text GoesOn small =
    reads_small (Reads text) (FirstFault text) (λ f. AbstractsFile f (λ a. TakesTask GoesOn f a.problem))
    (λ f status output reads r. abstracts_small f (λ a. TakesTask GoesOn f a.problem) (λ a. takes_small f a.problem) status output r)
  where
    takes_small : (f : FileParts) (q : ProblemParts) (status : ℕ) (output : List ℕ) → TakesTask GoesOn f q status output → status < 4
    takes_small f q status output (inl r) = small_status status (inr (inr (inl r.0)))
    takes_small f q status output (inr (t, has, g)) = small q t status output g

-- no text both asks a triple and has a reason why it asks none
pub task_or_no_task : (text line : List ℕ) → PosesNoTask text line → PosesSomeTask text → ⊥
task_or_no_task text line none (q, t, task_posed) =
    let AnyReply : ProblemParts → TaskParts → ReplySpec = λ p u status output. Unit {0} in
    let r = poses_none text AnyReply 0 line line none (posed_task text AnyReply 0 line q t task_posed tt) in
    absurd (omega (arith, r.0))

pub some_task : (text : List ℕ) (t : Triple) → IsPosed text t → PosesSomeTask text
some_task text t task_posed = (t.problem, task_parts t.task, task_posed)

-- a text that is too long asks none
pub long_task : (text : List ℕ) → MAX_TEXT_BYTES < length text → PosesNoTask text too_long_line
long_task text past = inl (long_problem text past)
