-- The reply of `show` satisfies the statement on the text.
use Rattle.std.proofs.Common.{◌≡◌, ◌≤◌, ◌⊎◌, ◌<◌, ℕ, List, length, Ok, inl, inr, sym, subst, ◌∙◌, arith}
use Rattle.std.proofs.lemmas.List.{length-map}
use Rattle.kat_model.specs.Problems.{ProblemParts}
use Rattle.kat_model.specs.declared.limits.TheConstants.{MAX_TEXT_BYTES}
use Rattle.problem_file.specs.TextLaws.{PosesEqual}
use Rattle.while_lang.specs.Files.{FileParts}
use Rattle.abstraction.specs.Abstracts.{AbstractParts, abstract_of}
use Rattle.abstraction.specs.Derived.{hypotheses}
use Rattle.abstraction.specs.Rounds.{tables_of}
use Rattle.abstraction.proofs.DerivedHypotheses.{abstract_parts_of}
use Rattle.kat_report.specs.Shows.{show_text}
use Rattle.kat_report.proofs.ShownComments.{shown_reads_back}
use Rattle.kat_report.specs.InputLines.{too_long_line}
use Rattle.tool_inputs.specs.FileProblem.{Poses}
use Rattle.tool_inputs.specs.TextProblem.{HasNoProblem}
use Rattle.tool_inputs.proofs.EqualGoals.{poses_equal}
use Rattle.tool_programs.specs.Show.{IsShown, ShowsFile, ShowsText, HasAbstract, IsReadable, ShowHeadline, ShowReply}
use Rattle.tool_inputs.proofs.Steps.{OneStatus, reads_denoted, reads_once, abstracts_as, abstracts_once, abstracted_none, text_long}
use Rattle.tool_inputs.proofs.FileReplies.{RefusesLong, HasOneReply}

-- ---- what is printed

-- each hypothesis of an abstraction has a rule
rule_each : (f : FileParts) (a : AbstractParts) → abstract_of f ≡ Ok a → length a.rules ≡ length a.problem.hyps
rule_each f a is =
    let hs = hypotheses (tables_of f) f.hyps in
    subst (λ (x : AbstractParts). length x.rules ≡ length x.problem.hyps) (abstract_parts_of f a is) (length-map hs (λ h. h.rule) ∙ sym (length-map hs (λ h. h.term)))

-- the text of an abstraction asks its problem
shown_poses : (f : FileParts) (a : AbstractParts) (status : ℕ) (output : List ℕ) → abstract_of f ≡ Ok a → IsShown f a status output → IsReadable a.problem output → Poses output a.problem
shown_poses f a status output is shown within =
    let short : length (show_text f.scope a) ≤ MAX_TEXT_BYTES = subst (λ (l : List ℕ). length l ≤ MAX_TEXT_BYTES) shown.printed within.short in
    let read : PosesEqual (show_text f.scope a) a.problem = shown_reads_back f.scope a shown.well_formed (rule_each f a is) shown.problem within.hyps within.shallow short in
    poses_equal output a.problem shown.problem (subst (λ (l : List ℕ). PosesEqual l a.problem) (sym shown.printed) read)

-- ---- the reply to a text

-- the possible statuses, each with its cause
abbrev TextWays : List ℕ → ℕ → List ℕ → Type 0
TextWays text status output =
    ((status ≡ 0) × ((f : FileParts) × (a : AbstractParts) × HasAbstract text f a)) ⊎ ((status ≡ 2) × HasNoProblem text output)

module _ (text : List ℕ) (status : ℕ) (output : List ℕ) where
  text_ways : ShowsText text status output → TextWays text status output
  text_ways (inl r) = inr (r.0, inl r.1)
  text_ways (inr (f, reads, inl r)) = inr (r.0, inr (f, reads, r.1))
  text_ways (inr (f, reads, inr (a, is, shown))) = inl (shown.has_status, (f, a, record { reads = reads; is_abstract = is }))

  one_of : TextWays text status output → (status ≡ 0) ⊎ (status ≡ 2)
  one_of (inl h) = inl h.0
  one_of (inr h) = inr h.0

  at_shown : TextWays text status output → status ≡ 0 → (f : FileParts) × (a : AbstractParts) × HasAbstract text f a
  at_shown (inl h) e = h.1
  at_shown (inr h) e = absurd (omega (arith, h.0, e))

  at_refused : TextWays text status output → status ≡ 2 → (line : List ℕ) × HasNoProblem text line
  at_refused (inl h) e = absurd (omega (arith, h.0, e))
  at_refused (inr h) e = (output, h.1)

  -- the abstraction of the text is printed
  is_shown : (f : FileParts) (a : AbstractParts) → HasAbstract text f a → ShowsText text status output → IsShown f a status output
  is_shown f a has r = abstracts_as f (IsShown f) status output a has.is_abstract (reads_denoted text ShowsFile status output f has.reads r)

  poses_same : ShowsText text status output → (q : ProblemParts) → Poses text q → IsReadable q output → Poses output q
  poses_same r q poses within =
      let a = poses.abstract in
      let shown = is_shown poses.file a (record { reads = poses.reads; is_abstract = poses.is_abstract }) r in
      let inside : IsReadable a.problem output = subst (λ (p : ProblemParts). IsReadable p output) poses.question within in
      subst (λ (p : ProblemParts). Poses output p) (sym poses.question) (shown_poses poses.file a status output poses.is_abstract shown inside)

  is_refused : (line : List ℕ) → HasNoProblem text line → ShowsText text status output → (status ≡ 2) × (output ≡ line)
  is_refused line none r = abstracted_none text IsShown status output line none r

  pub text_headline : ShowsText text status output → ShowHeadline text status output
  text_headline r =
      let ways : TextWays text status output = text_ways r in
      record {
        answers = one_of ways;
        shown = (at_shown ways, (λ h. (is_shown h.0 h.1 h.2 r).has_status));
        shown_text = λ f a has. (is_shown f a has r).printed;
        poses = poses_same r;
        refused = (at_refused ways, (λ h. (is_refused h.0 h.1 r).0));
        refused_line = λ line none. (is_refused line none r).1;
      }

shows_once : (text : List ℕ) → OneStatus (ShowsText text)
shows_once text = reads_once text ShowsFile (λ f. abstracts_once f (IsShown f) (λ a c d o p x y. x.has_status ∙ sym y.has_status))

-- ---- what the reply says

pub show_reply : (text : List ℕ) (status : ℕ) (output : List ℕ) → ShowsText text status output → ShowReply text status output
show_reply text status output r = record { replies = r; headline = text_headline text status output r }

pub show_long : RefusesLong ShowReply
show_long text past = show_reply text 2 too_long_line (text_long text ShowsFile past)

pub show_one : (text : List ℕ) → HasOneReply (ShowReply text) ⊥
show_one text = record { small = λ status output r. inl (below status r.headline.answers); once = λ a b o p x y. shows_once text a b o p x.replies y.replies }
  where
    below : (status : ℕ) → (status ≡ 0) ⊎ (status ≡ 2) → status < 4
    below status h = grind (arith, h)
