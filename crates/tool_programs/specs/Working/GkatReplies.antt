-- The reply of `gkat` satisfies the statement on the text.
use Rattle.std.proofs.Common.{◌≡◌, ◌≤◌, ◌⊎◌, ◌<◌, ℕ, List, [], ◌++◌, length, inl, inr, refl, sym, ap, subst, ◌∙◌, arith}
use Rattle.std.proofs.lemmas.List.{append-nil}
use Rattle.std.proofs.lemmas.Option.{same_Some}
use Rattle.std.specs.Prelude.{codes}
use Rattle.kat_model.specs.declared.limits.TheConstants.{MAX_TERM_NODES, MAX_TEXT_BYTES}
use Rattle.kat_model.specs.Problems.{IsProblem, problem_size}
use Rattle.text_parser.specs.declared.meaning.Meaning.{Meaning}
use Rattle.text_parser.specs.declared.meaning.Meaning.TheVariants.{Test, Action, Var, Term, Prog}
use Rattle.text_parser.specs.ScopeParts.{meaning, Means, IsWellFormed}
use Rattle.text_print.specs.Printing.{name_of}
use Rattle.text_print.proofs.NameOf.{name_occurs}
use Rattle.problem_file.specs.Questions.{goal_text}
use Rattle.problem_file.specs.NamedTexts.{names_line, named_text, IsOneOf, AreNames}
use Rattle.problem_file.specs.TextLaws.{PosesEqual}
use Rattle.problem_file.proofs.PlainReadings.{named_reads_back}
use Rattle.gkat_front.specs.Expressions.{kat_of}
use Rattle.problem_file.specs.FirstFaults.{too_long, no_text}
use Rattle.gkat_front.specs.Files.{GkatFileParts}
use Rattle.gkat_front.specs.Reads.{Reads, FirstFault}
use Rattle.gkat_front.proofs.OneAnswer.{have_one_answer}
use Rattle.kat_report.specs.InputLines.{too_long_line}
use Rattle.tool_inputs.specs.TextProblem.{IsFaultOf}
use Rattle.tool_inputs.specs.FileProblem.{Poses}
use Rattle.tool_inputs.proofs.EqualGoals.{poses_equal}
use Rattle.tool_programs.specs.Show.{IsReadable}
use Rattle.tool_programs.specs.Gkat.{gkat_text, gkat_question, IsTranslated, TranslatesText, GkatHeadline, GkatReply}
use Rattle.tool_programs.specs.Working.GkatNumbers.{GkatIsNumbered, read_numbered}
use Rattle.tool_inputs.proofs.Steps.{OneStatus, denoted_one, faulty_one, read_once, reads_long}
use Rattle.tool_inputs.proofs.FileReplies.{RefusesLong, HasOneReply}

-- ---- what is printed

module _ (f : GkatFileParts) where
  -- the text of the question of the file, with its names
  text_is_named : gkat_text f ≡ named_text (name_of f.scope) (gkat_question f)
  text_is_named =
      let names = name_of f.scope in
      ap (λ (l : List ℕ). l ++ goal_text names (kat_of f.left) (kat_of f.right)) (sym (append-nil (names_line (codes "test") names Test f.tests ++ names_line (codes "action") names Action f.actions)))

  module _ (numbered : GkatIsNumbered f) (well : IsWellFormed f.scope) where
    names_mean : (m : Meaning) → IsOneOf f.tests f.actions m → Means f.scope (name_of f.scope m) m
    names_mean (Test k) h = let x = numbered.named_tests k h in name_occurs f.scope (Test k) x.0 x.1
    names_mean (Action k) h = let x = numbered.named_actions k h in name_occurs f.scope (Action k) x.0 x.1
    names_mean (Var k) h = absurd h
    names_mean (Term k) h = absurd h
    names_mean (Prog k) h = absurd h

    -- the names of the file are identifiers, and no two are the same
    file_names : AreNames (name_of f.scope) f.tests f.actions
    file_names = record {
      identifiers = λ m h. well.identifiers (name_of f.scope m) m (names_mean m h);
      apart = λ m n h i e. same_Some m n (sym (names_mean m h) ∙ ap (meaning f.scope) e ∙ names_mean n i);
    }

-- the text of a file asks its question
translated_poses : (text : List ℕ) (f : GkatFileParts) (status : ℕ) (output : List ℕ) → Reads text f → IsTranslated f status output → problem_size (gkat_question f) ≤ MAX_TERM_NODES → IsReadable (gkat_question f) output → Poses output (gkat_question f)
translated_poses text f status output reads translated few within =
    let q = gkat_question f in
    let names = name_of f.scope in
    let numbered = read_numbered text f reads in
    let problem : IsProblem q = record { tests = numbered.tests; actions = numbered.actions; hyps = tt; left = numbered.left; right = numbered.right; size = few } in
    let same : output ≡ named_text names q = translated.printed ∙ text_is_named f in
    let short : length (named_text names q) ≤ MAX_TEXT_BYTES = subst (λ (l : List ℕ). length l ≤ MAX_TEXT_BYTES) same within.short in
    let read : PosesEqual (named_text names q) q = named_reads_back names q (record { problem = problem; named = file_names f numbered translated.well_formed; hyps = within.hyps; shallow = within.shallow; short = short }) in
    poses_equal output q problem (subst (λ (l : List ℕ). PosesEqual l q) (sym same) read)

-- ---- the reply to a text

module _ (text : List ℕ) (status : ℕ) (output : List ℕ) where
  is_translated : (f : GkatFileParts) → Reads text f → TranslatesText text status output → IsTranslated f status output
  is_translated = denoted_one Reads FirstFault have_one_answer text IsTranslated status output

  is_refused : (line : List ℕ) → IsFaultOf (FirstFault text) line → TranslatesText text status output → (status ≡ 2) × (output ≡ line)
  is_refused = faulty_one Reads FirstFault have_one_answer text IsTranslated status output

  -- the possible statuses, each with its cause
  abbrev TextWays : Type 0
  TextWays = ((status ≡ 0) × ((f : GkatFileParts) × Reads text f)) ⊎ ((status ≡ 2) × IsFaultOf (FirstFault text) output)

  text_ways : TranslatesText text status output → TextWays
  text_ways (inl r) = inr r
  text_ways (inr (f, reads, translated)) = inl (translated.has_status, (f, reads))

  one_of : TextWays → (status ≡ 0) ⊎ (status ≡ 2)
  one_of (inl h) = inl h.0
  one_of (inr h) = inr h.0

  at_translated : TextWays → status ≡ 0 → (f : GkatFileParts) × Reads text f
  at_translated (inl h) e = h.1
  at_translated (inr h) e = absurd (omega (arith, h.0, e))

  at_refused : TextWays → status ≡ 2 → (line : List ℕ) × IsFaultOf (FirstFault text) line
  at_refused (inl h) e = absurd (omega (arith, h.0, e))
  at_refused (inr h) e = (output, h.1)

  pub text_headline : TranslatesText text status output → GkatHeadline text status output
  text_headline r =
      let ways : TextWays = text_ways r in
      record {
        answers = one_of ways;
        translated = (at_translated ways, (λ h. (is_translated h.0 h.1 r).has_status));
        translated_text = λ f reads. (is_translated f reads r).printed;
        poses = λ f reads few within. translated_poses text f status output reads (is_translated f reads r) few within;
        refused = (at_refused ways, (λ h. (is_refused h.0 h.1 r).0));
        refused_line = λ line fault. (is_refused line fault r).1;
      }

translates_once : (text : List ℕ) → OneStatus (TranslatesText text)
translates_once text = read_once Reads FirstFault have_one_answer text IsTranslated (λ f a b o p x y. x.has_status ∙ sym y.has_status)

-- ---- what the reply says

pub gkat_reply : (text : List ℕ) (status : ℕ) (output : List ℕ) → TranslatesText text status output → GkatReply text status output
gkat_reply text status output r = record { replies = r; headline = text_headline text status output r }

pub gkat_long : RefusesLong GkatReply
gkat_long text past = gkat_reply text 2 too_long_line (reads_long Reads FirstFault (λ t longer. no_text (too_long refl longer)) text IsTranslated past)

pub gkat_one : (text : List ℕ) → HasOneReply (GkatReply text) ⊥
gkat_one text = record { small = λ status output r. inl (below status r.headline.answers); once = λ a b o p x y. translates_once text a b o p x.replies y.replies }
  where
    below : (status : ℕ) → (status ≡ 0) ⊎ (status ≡ 2) → status < 4
    below status h = grind (arith, h)
