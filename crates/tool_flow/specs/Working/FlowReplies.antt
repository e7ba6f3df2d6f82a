-- The reply of `flow` satisfies the statement on the text.
use Rattle.std.proofs.Common.{◌≡◌, ◌<◌, ◌⊎◌, ℕ, List, inl, inr, refl, sym, subst, ◌∙◌, arith}
use Rattle.kat_model.specs.Problems.{ProblemParts}
use Rattle.kat_model.specs.Relations.{Same}
use Rattle.problem_file.specs.TextLaws.{PosesEqual}
use Rattle.problem_file.specs.FirstFaults.{too_long}
use Rattle.flow_model.specs.Agreement.{AgreeAlways}
use Rattle.flow_text.specs.Checking.{FlowFileParts, pair_of}
use Rattle.flow_text.specs.Texts.{IsFlowText, FirstFault, no_text}
use Rattle.flow_text.proofs.OneAnswer.{have_one_answer}
use Rattle.flow_problem.specs.Points.{FlowProblem}
use Rattle.flow_problem.specs.FlowProblems.{problem_by}
use Rattle.flow_problem.specs.PlacedProblems.{pair_marks, IsFlowProblem}
use Rattle.flow_problem.proofs.Agreements.{same_agree}
use Rattle.flow_problem.proofs.PlacedGraphs.{flow_is_about}
use Rattle.flow_laws.proofs.SortedFiles.{flow_pairs_sorted}
use Rattle.flow_abstraction.specs.declared.fault.FlowFault.{FlowFault}
use Rattle.flow_print.proofs.CommentLines.{flow_reads_back}
use Rattle.kat_report.specs.InputLines.{too_long_line}
use Rattle.tool_inputs.specs.FileProblem.{Poses}
use Rattle.tool_inputs.specs.TextProblem.{IsFaultOf}
use Rattle.tool_inputs.specs.Steps.{PosesText}
use Rattle.tool_inputs.proofs.EqualGoals.{poses_equal}
use Rattle.tool_inputs.proofs.Steps.{OneStatus, denoted_one, faulty_one, read_once, reads_long, one_value, text_poses}
use Rattle.tool_inputs.proofs.FileReplies.{RefusesLong, HasOneReply}
use Rattle.tool_flow.specs.Questions.{question_of, names_of, rules_of, IsPrintable, HasFlowProblem, HasReason, HasNoFlowProblem}
use Rattle.tool_flow.specs.Flow.{IsFlowPrinted, FlowsFile, FlowsText, DenotesProblem, DenotesNoProblem, FlowHeadline, FlowReply}

-- ---- a file has one problem, or none

module _ (f : FlowFileParts) where
  one_problem : (p r : FlowProblem) → IsFlowProblem (question_of f) p → IsFlowProblem (question_of f) r → p ≡ r
  one_problem p r is other = one_value (problem_by (question_of f) (pair_marks (question_of f).pair)) p r is.problem other.problem

  no_reason : (p : FlowProblem) → HasFlowProblem f p → (fault : FlowFault) → HasReason f fault → ⊥
  no_reason p has fault (inl refused) = has.unrefused fault refused
  no_reason p has fault (inr (is, h)) =
      h.unprintable (subst (IsPrintable f) (one_problem p h.parts has.problem h.problem) has.printable)

  not_both : (p : FlowProblem) (line : List ℕ) → HasFlowProblem f p → HasNoFlowProblem f line → ⊥
  not_both p line has none = no_reason p has none.fault none.reason

  module _ (status : ℕ) (output : List ℕ) where
    flows_problem : (p : FlowProblem) → HasFlowProblem f p → FlowsFile f status output → IsFlowPrinted f p status output
    flows_problem p has (inl r) = absurd (not_both p output has r.1)
    flows_problem p has (inr (r, shown)) =
        subst (λ x. IsFlowPrinted f x status output) (one_problem r p shown.problem.problem has.problem) shown

    flows_none : (line : List ℕ) → HasNoFlowProblem f line → FlowsFile f status output → status ≡ 2
    flows_none line none (inl r) = r.0
    flows_none line none (inr (p, shown)) = absurd (not_both p line shown.problem none)

  file_once : OneStatus (FlowsFile f)
  file_once a b o p (inl r) y = r.0 ∙ sym (flows_none b p o r.1 y)
  file_once a b o p (inr (x, shown)) y = shown.has_status ∙ sym (flows_problem b p x shown.problem y).has_status

-- ---- what is printed

-- the text of a problem asks it
problem_is_about : (f : FlowFileParts) (p : FlowProblem) (status : ℕ) (output : List ℕ) → IsFlowPrinted f p status output → Poses output p.problem
problem_is_about f p status output shown =
    poses_equal output p.problem shown.problem.printable.problem
    (subst (λ (l : List ℕ). PosesEqual l p.problem) (sym shown.printed) (flow_reads_back (names_of f) (rules_of f p) p shown.problem.printable))

-- a text asks one question
one_question : (text : List ℕ) (p q : ProblemParts) → Poses text p → Poses text q → p ≡ q
one_question text p q x y = text_poses text (λ r status output. r ≡ q) 0 text p x (posed text q y)
  where
    posed : (text : List ℕ) (q : ProblemParts) (y : Poses text q) → PosesText text (λ r status output. r ≡ q) 0 text
    posed text q y = inr (y.file, y.reads, inr (y.abstract, y.is_abstract, sym y.question))

-- ---- the reply to a text

module _ (text : List ℕ) (status : ℕ) (output : List ℕ) where
  is_flowed : (f : FlowFileParts) → IsFlowText text f → FlowsText text status output → FlowsFile f status output
  is_flowed = denoted_one IsFlowText FirstFault have_one_answer text FlowsFile status output

  is_faulty : (line : List ℕ) → IsFaultOf (FirstFault text) line → FlowsText text status output → (status ≡ 2) × (output ≡ line)
  is_faulty = faulty_one IsFlowText FirstFault have_one_answer text FlowsFile status output

  is_printed : (f : FlowFileParts) (p : FlowProblem) → DenotesProblem text f p → FlowsText text status output → IsFlowPrinted f p status output
  is_printed f p denotes r = flows_problem f status output p denotes.problem (is_flowed f denotes.denotes r)

  -- the possible statuses, each with its cause
  abbrev TextWays : Type 0
  TextWays = ((status ≡ 0) × ((f : FlowFileParts) × (p : FlowProblem) × DenotesProblem text f p)) ⊎ ((status ≡ 2) × DenotesNoProblem text output)

  text_ways : FlowsText text status output → TextWays
  text_ways (inl r) = inr (r.0, inl r.1)
  text_ways (inr (f, denotes, inl r)) = inr (r.0, inr (f, denotes, r.1))
  text_ways (inr (f, denotes, inr (p, shown))) = inl (shown.has_status, (f, p, record { denotes = denotes; problem = shown.problem }))

  one_of : TextWays → (status ≡ 0) ⊎ (status ≡ 2)
  one_of (inl h) = inl h.0
  one_of (inr h) = inr h.0

  at_printed : TextWays → status ≡ 0 → (f : FlowFileParts) × (p : FlowProblem) × DenotesProblem text f p
  at_printed (inl h) e = h.1
  at_printed (inr h) e = absurd (omega (arith, h.0, e))

  at_refused : TextWays → status ≡ 2 → DenotesNoProblem text output
  at_refused (inl h) e = absurd (omega (arith, h.0, e))
  at_refused (inr h) e = h.1

  is_refused : (line : List ℕ) → DenotesNoProblem text line → FlowsText text status output → status ≡ 2
  is_refused line (inl fault) r = (is_faulty line fault r).0
  is_refused line (inr (f, denotes, none)) r = flows_none f status output line none (is_flowed f denotes r)

  -- both graphs of the file of a printed problem agree where both sides of the question are the same
  printed_agrees : (f : FlowFileParts) → IsFlowText text f → (q : ProblemParts) → Poses output q → Same q → FlowsFile f status output → status ≡ 0 → AgreeAlways (pair_of f)
  printed_agrees f denotes q poses same (inl r) zero = absurd (omega (arith, r.0, zero))
  printed_agrees f denotes q poses same (inr (p, shown)) zero =
      let one = one_question output q p.problem poses (problem_is_about f p status output shown) in
      same_agree (pair_of f) p (flow_is_about (question_of f) p (flow_pairs_sorted text f denotes) shown.problem.problem) (subst Same one same)

  pub text_headline : FlowsText text status output → FlowHeadline text status output
  text_headline r =
      let ways : TextWays = text_ways r in
      record {
        answers = one_of ways;
        printed = (at_printed ways, (λ h. (is_printed h.0 h.1 h.2 r).has_status));
        printed_text = λ f p denotes. (is_printed f p denotes r).printed;
        poses = λ f p denotes. problem_is_about f p status output (is_printed f p denotes r);
        agrees = λ f denotes zero q poses same. printed_agrees f denotes q poses same (is_flowed f denotes r) zero;
        refused = ((λ two. (output, at_refused ways two)), (λ h. is_refused h.0 h.1 r));
        refused_line = at_refused ways;
      }

flows_once : (text : List ℕ) → OneStatus (FlowsText text)
flows_once text = read_once IsFlowText FirstFault have_one_answer text FlowsFile file_once

-- ---- what the reply says

pub flow_reply : (text : List ℕ) (status : ℕ) (output : List ℕ) → FlowsText text status output → FlowReply text status output
flow_reply text status output r = record { replies = r; headline = text_headline text status output r }

pub flow_long : RefusesLong FlowReply
flow_long text past = flow_reply text 2 too_long_line (reads_long IsFlowText FirstFault (λ t longer. no_text (too_long refl longer)) text FlowsFile past)

pub flow_one : (text : List ℕ) → HasOneReply (FlowReply text) ⊥
flow_one text = record { small = λ status output r. inl (below status r.headline.answers); once = λ a b o p x y. flows_once text a b o p x.replies y.replies }
  where
    below : (status : ℕ) → (status ≡ 0) ⊎ (status ≡ 2) → status < 4
    below status h = grind (arith, h)
