-- The reply of `optimise` satisfies the statement on the program.
use Rattle.std.proofs.Common.{◌≡◌, ◌⊎◌, ◌<◌, ℕ, List, None, Some, inl, inr, sym, subst, ◌∙◌, arith}
use Rattle.std.proofs.lemmas.Option.{same_Some, none-some}
use Rattle.while_lang.specs.Programs.{ProgTree}
use Rattle.while_lang.specs.Files.{FileParts}
use Rattle.problem_file.specs.Reads.{Reads}
use Rattle.kat_report.specs.InputLines.{too_long_line, words_line}
use Rattle.tool_decide.specs.Optimise.{any_program_of, PrintsOptimised, OptimisesFile, OptimisesText, OptimiseHeadline, LacksAnyProgram, OptimiseReply}
use Rattle.tool_inputs.proofs.Steps.{OneStatus, reads_denoted, reads_faulty, reads_once, small_status, text_long}
use Rattle.tool_inputs.proofs.FileReplies.{RefusesLong, HasOneReply}
use Rattle.tool_inputs.specs.Steps.{HasUnfitWords}

-- ---- the reply to what was read

-- the possible statuses, each with its cause
abbrev FileWays : FileParts → List ℕ → ℕ → ℕ → List ℕ → Type 0
FileWays f name turns status output =
    ((status ≡ 0) × ((p : ProgTree) × (any_program_of f name ≡ Some p) × PrintsOptimised f name turns p output))
    ⊎ ((status ≡ 7) × ((any_program_of f name ≡ None) × (output ≡ words_line)))

module _ (f : FileParts) (name : List ℕ) (turns status : ℕ) (output : List ℕ) where
  takes_named : (p : ProgTree) → any_program_of f name ≡ Some p → OptimisesFile f name turns status output → (status ≡ 0) × PrintsOptimised f name turns p output
  takes_named p named (inl r) = absurd (none-some p (sym r.unfit ∙ named))
  takes_named p named (inr (q, other, is_zero, prints)) = (is_zero, subst (λ x. PrintsOptimised f name turns x output) (same_Some q p (sym other ∙ named)) prints)

  takes_none : any_program_of f name ≡ None → OptimisesFile f name turns status output → HasUnfitWords (any_program_of f name ≡ None) status output
  takes_none none (inl r) = r
  takes_none none (inr (q, other, is_zero, prints)) = absurd (none-some q (sym none ∙ other))

  file_ways : OptimisesFile f name turns status output → FileWays f name turns status output
  file_ways (inl r) = inr (r.has_status, (r.unfit, r.printed))
  file_ways (inr (p, named, is_zero, prints)) = inl (is_zero, (p, named, prints))

  one_of : FileWays f name turns status output → (status ≡ 0) ⊎ (status ≡ 7)
  one_of (inl h) = inl h.0
  one_of (inr h) = inr h.0

  at_optimised : FileWays f name turns status output → status ≡ 0 → (p : ProgTree) × (any_program_of f name ≡ Some p) × PrintsOptimised f name turns p output
  at_optimised (inl h) e = h.1
  at_optimised (inr h) e = absurd (omega (arith, h.0, e))

  at_unfit : FileWays f name turns status output → status ≡ 7 → (any_program_of f name ≡ None) × (output ≡ words_line)
  at_unfit (inl h) e = absurd (omega (arith, h.0, e))
  at_unfit (inr h) e = h.1

  pub optimise_headline : OptimisesFile f name turns status output → OptimiseHeadline f name turns status output
  optimise_headline r =
      let ways : FileWays f name turns status output = file_ways r in
      record {
        answers = one_of ways;
        optimised = ((λ e. let h = at_optimised ways e in (h.0, h.1)), (λ h. (takes_named h.0 h.1 r).0));
        optimised_text = λ p named. (takes_named p named r).1;
        unfit = ((λ e. (at_unfit ways e).0), (λ none. (takes_none none r).has_status));
        unfit_line = λ e. (at_unfit ways e).1;
      }

pub text_headline : (text name : List ℕ) (turns status : ℕ) (output : List ℕ) (f : FileParts) → Reads text f → OptimisesText text name turns status output → OptimiseHeadline f name turns status output
text_headline text name turns status output f reads r = optimise_headline f name turns status output (reads_denoted text (λ g. OptimisesFile g name turns) status output f reads r)

-- ---- one status

file_once : (f : FileParts) (name : List ℕ) (turns : ℕ) → OneStatus (OptimisesFile f name turns)
file_once f name turns a b o p x y = once (file_ways f name turns a o x)
  where
    once : FileWays f name turns a o → a ≡ b
    once (inl h) = h.0 ∙ sym (takes_named f name turns b p h.1.0 h.1.1 y).0
    once (inr h) = h.0 ∙ sym (takes_none f name turns b p h.1.0 y).has_status

optimises_once : (text name : List ℕ) (turns : ℕ) → OneStatus (OptimisesText text name turns)
optimises_once text name turns = reads_once text (λ f. OptimisesFile f name turns) (λ f. file_once f name turns)

-- ---- what the reply says

pub optimise_reply : (text name : List ℕ) (turns status : ℕ) (output : List ℕ) → OptimisesText text name turns status output → OptimiseReply text name turns status output
optimise_reply text name turns status output r = record {
  replies = r;
  headline = λ f reads. text_headline text name turns status output f reads r;
  declined = λ line fault. reads_faulty text (λ f. OptimisesFile f name turns) status output line fault r;
}

pub optimise_long : (name : List ℕ) (turns : ℕ) → RefusesLong (λ text. OptimiseReply text name turns)
optimise_long name turns text past = optimise_reply text name turns 2 too_long_line (text_long text (λ f. OptimisesFile f name turns) past)

pub optimise_one : (text name : List ℕ) (turns : ℕ) → HasOneReply (OptimiseReply text name turns) (LacksAnyProgram text name)
optimise_one text name turns = record {
  small = λ status output r. small status output r.replies;
  once = λ a b o p x y. optimises_once text name turns a b o p x.replies y.replies;
}
  where
    Small : ℕ → List ℕ → Type 0
    Small status output = (status < 4) ⊎ ((status ≡ 7) × (LacksAnyProgram text name × (output ≡ words_line)))

    of_file : (status : ℕ) (output : List ℕ) (f : FileParts) → Reads text f → FileWays f name turns status output → Small status output
    of_file status output f reads (inl h) = inl (small_status status (inl h.0))
    of_file status output f reads (inr h) = inr (h.0, ((f, reads, h.1.0), h.1.1))

    small : (status : ℕ) (output : List ℕ) → OptimisesText text name turns status output → Small status output
    small status output (inl r) = inl (small_status status (inr (inr (inl r.0))))
    small status output (inr (f, reads, r)) = of_file status output f reads (file_ways f name turns status output r)
