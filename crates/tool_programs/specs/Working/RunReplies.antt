-- The reply of `run` satisfies the statement on the program.
use Rattle.std.proofs.Common.{◌≡◌, ◌⊎◌, ◌<◌, ℕ, List, inl, inr, ⊎_elim, sym, ap, subst, ◌∙◌, arith}
use Rattle.std.proofs.lemmas.Option.{same_Some, none-some}
use Rattle.kat_model.specs.Stores.{Store}
use Rattle.while_lang.specs.Programs.{ProgTree}
use Rattle.while_lang.specs.Runs.{HasOutcome, HasOneOutcome}
use Rattle.while_lang.specs.declared.outcome.Outcome.{Outcome}
use Rattle.while_lang.specs.declared.outcome.Outcome.TheVariants.{Done, Stuck, More}
use Rattle.while_lang.proofs.Outcomes.{one_outcome}
use Rattle.while_lang.specs.Files.{FileParts}
use Rattle.problem_file.specs.Reads.{Reads}
use Rattle.kat_report.specs.InputLines.{too_long_line, words_line}
use Rattle.kat_report.specs.RunTexts.{outcome_line, stuck_line, more_line}
use Rattle.tool_inputs.specs.Steps.{ReplySpec, HasUnfitWords}
use Rattle.tool_programs.specs.Running.{outcome_status, StartsRun, StartsNoRun, TakesWords, HasRun, RunsFile, RunsText, RunsTo, RunHeadline, DoesNotFit, RunReply}
use Rattle.tool_inputs.proofs.Steps.{OneStatus, reads_denoted, reads_faulty, reads_once, small_status, text_long}
use Rattle.tool_inputs.proofs.FileReplies.{RefusesLong, HasOneReply}
use Rattle.tool_programs.specs.Working.NamedPrograms.{fit_concrete}

-- ---- the words and the file

module _ (f : FileParts) (prog store : List ℕ) where
  fit_or_not : (p : ProgTree) (s : Store) → StartsRun f prog store p s → StartsNoRun f prog store → ⊥
  fit_or_not p s fits (inl e) = none-some p (sym e ∙ fits.program)
  fit_or_not p s fits (inr e) = none-some s (sym e ∙ fits.values)

  same_program : (p q : ProgTree) (s t : Store) → StartsRun f prog store p s → StartsRun f prog store q t → p ≡ q
  same_program p q s t x y = same_Some p q (sym x.program ∙ y.program)

  same_start : (p q : ProgTree) (s t : Store) → StartsRun f prog store p s → StartsRun f prog store q t → s ≡ t
  same_start p q s t x y = same_Some s t (sym x.values ∙ y.values)

  module _ (GoesOn : ProgTree → Store → ReplySpec) (status : ℕ) (output : List ℕ) where
    takes_fit : (p : ProgTree) (s : Store) → StartsRun f prog store p s → TakesWords f prog store GoesOn status output → GoesOn p s status output
    takes_fit p s fits (inl r) = absurd (fit_or_not p s fits r.unfit)
    takes_fit p s fits (inr (q, t, other, g)) =
        subst (λ x. GoesOn x s status output) (same_program q p t s other fits) (subst (λ x. GoesOn q x status output) (same_start q p t s other fits) g)

    takes_unfit : StartsNoRun f prog store → TakesWords f prog store GoesOn status output → HasUnfitWords (StartsNoRun f prog store) status output
    takes_unfit unfit (inl r) = r
    takes_unfit unfit (inr (q, t, other, g)) = absurd (fit_or_not q t other unfit)

-- ---- outcomes

-- if the words fit, the program has one outcome
module _ (f : FileParts) (prog store : List ℕ) (turns : ℕ) (p : ProgTree) (s : Store) (fits : StartsRun f prog store p s) where
  one : HasOneOutcome f.width p s turns
  one = one_outcome f.width p s turns (fit_concrete f prog p fits.program)

  module _ (o q : Outcome) (t u : Store) (x : HasOutcome f.width p s turns o t) (y : HasOutcome f.width p s turns q u) where
    same_outcome : o ≡ q
    same_outcome = (one.only o t x).0 ∙ sym (one.only q u y).0

    same_end : t ≡ u
    same_end = (one.only o t x).1 ∙ sym (one.only q u y).1

-- the printed outcome is the one outcome of the program
module _ (f : FileParts) (prog store : List ℕ) (turns : ℕ) (status : ℕ) (output : List ℕ) (r : RunsFile f prog store turns status output) where
  run_given : (o : Outcome) (t : Store) → RunsTo f prog store turns o t → (status ≡ outcome_status o) × (output ≡ outcome_line f.scope o t)
  run_given o t to =
      let run : HasRun f turns to.program to.start status output = takes_fit f prog store (HasRun f turns) status output to.program to.start to.fits r in
      let outcome = same_outcome f prog store turns to.program to.start to.fits run.outcome o run.store t run.reached to.reached in
      let end = same_end f prog store turns to.program to.start to.fits run.outcome o run.store t run.reached to.reached in
      (run.has_status ∙ ap outcome_status outcome, run.printed ∙ ap (λ q. outcome_line f.scope q run.store) outcome ∙ ap (outcome_line f.scope o) end)

-- ---- the reply to a file

-- the possible statuses, each with its cause
abbrev FileWays : FileParts → List ℕ → List ℕ → ℕ → ℕ → List ℕ → Type 0
FileWays f prog store turns status output =
    ((status ≡ 0) × ((t : Store) × RunsTo f prog store turns Done t × (output ≡ outcome_line f.scope Done t)))
    ⊎ (((status ≡ 1) × ((t : Store) × RunsTo f prog store turns Stuck t × (output ≡ outcome_line f.scope Stuck t)))
    ⊎ (((status ≡ 1) × ((t : Store) × RunsTo f prog store turns More t × (output ≡ outcome_line f.scope More t)))
    ⊎ ((status ≡ 7) × StartsNoRun f prog store × (output ≡ words_line))))

stuck_or_more : stuck_line ≡ more_line → ⊥
stuck_or_more e = cc

module _ (f : FileParts) (prog store : List ℕ) (turns status : ℕ) (output : List ℕ) where
  ran_ways : (p : ProgTree) (s : Store) → StartsRun f prog store p s → (o : Outcome) (t : Store) → HasOutcome f.width p s turns o t → status ≡ outcome_status o → output ≡ outcome_line f.scope o t → FileWays f prog store turns status output
  ran_ways p s fits Done t reached e given = inl (e, (t, record { program = p; start = s; fits = fits; reached = reached }, given))
  ran_ways p s fits Stuck t reached e given = inr (inl (e, (t, record { program = p; start = s; fits = fits; reached = reached }, given)))
  ran_ways p s fits More t reached e given = inr (inr (inl (e, (t, record { program = p; start = s; fits = fits; reached = reached }, given))))

  file_ways : RunsFile f prog store turns status output → FileWays f prog store turns status output
  file_ways (inl r) = inr (inr (inr (r.has_status, r.unfit, r.printed)))
  file_ways (inr (p, s, fits, run)) = ran_ways p s fits run.outcome run.store run.reached run.has_status run.printed

  one_of : FileWays f prog store turns status output → (status ≡ 0) ⊎ ((status ≡ 1) ⊎ (status ≡ 7))
  one_of (inl h) = inl h.0
  one_of (inr (inl h)) = inr (inl h.0)
  one_of (inr (inr (inl h))) = inr (inl h.0)
  one_of (inr (inr (inr h))) = inr (inr h.0)

  at_done : FileWays f prog store turns status output → status ≡ 0 → (t : Store) × RunsTo f prog store turns Done t × (output ≡ outcome_line f.scope Done t)
  at_done (inl h) e = h.1
  at_done (inr (inl h)) e = absurd (omega (arith, h.0, e))
  at_done (inr (inr (inl h))) e = absurd (omega (arith, h.0, e))
  at_done (inr (inr (inr h))) e = absurd (omega (arith, h.0, e))

  -- a run with status 1 is stuck or needs more turns
  abbrev Undone : Type 0
  Undone = ((t : Store) × RunsTo f prog store turns Stuck t × (output ≡ stuck_line)) ⊎ ((t : Store) × RunsTo f prog store turns More t × (output ≡ more_line))

  at_undone : FileWays f prog store turns status output → status ≡ 1 → Undone
  at_undone (inl h) e = absurd (omega (arith, h.0, e))
  at_undone (inr (inl h)) e = inl h.1
  at_undone (inr (inr (inl h))) e = inr h.1
  at_undone (inr (inr (inr h))) e = absurd (omega (arith, h.0, e))

  at_unfit : FileWays f prog store turns status output → status ≡ 7 → StartsNoRun f prog store × (output ≡ words_line)
  at_unfit (inl h) e = absurd (omega (arith, h.0, e))
  at_unfit (inr (inl h)) e = absurd (omega (arith, h.0, e))
  at_unfit (inr (inr (inl h))) e = absurd (omega (arith, h.0, e))
  at_unfit (inr (inr (inr h))) e = (h.1, h.2)

  is_stuck : Undone → output ≡ stuck_line → (t : Store) × RunsTo f prog store turns Stuck t
  is_stuck (inl h) e = (h.0, h.1)
  is_stuck (inr h) e = absurd (stuck_or_more (sym e ∙ h.2))

  is_more : Undone → output ≡ more_line → (t : Store) × RunsTo f prog store turns More t
  is_more (inl h) e = absurd (stuck_or_more (sym h.2 ∙ e))
  is_more (inr h) e = (h.0, h.1)

  pub run_headline : RunsFile f prog store turns status output → RunHeadline f prog store turns status output
  run_headline r =
      let ways : FileWays f prog store turns status output = file_ways r in
      record {
        answers = one_of ways;
        done = ((λ e. let h = at_done ways e in (h.0, h.1)), (λ h. (run_given f prog store turns status output r Done h.0 h.1).0));
        done_line = λ t to. (run_given f prog store turns status output r Done t to).1;
        stuck = ((λ h. is_stuck (at_undone ways h.0) h.1), (λ h. run_given f prog store turns status output r Stuck h.0 h.1));
        more = ((λ h. is_more (at_undone ways h.0) h.1), (λ h. run_given f prog store turns status output r More h.0 h.1));
        undone = λ e. ⊎_elim (λ h. inl h.2) (λ h. inr h.2) (at_undone ways e);
        unfit = ((λ e. (at_unfit ways e).0), (λ unfit. (takes_unfit f prog store (HasRun f turns) status output unfit r).has_status));
        unfit_line = λ e. (at_unfit ways e).1;
      }

pub text_headline : (text prog store : List ℕ) (turns status : ℕ) (output : List ℕ) (f : FileParts) → Reads text f → RunsText text prog store turns status output → RunHeadline f prog store turns status output
text_headline text prog store turns status output f reads r = run_headline f prog store turns status output (reads_denoted text (λ g. RunsFile g prog store turns) status output f reads r)

-- ---- one status

file_once : (f : FileParts) (prog store : List ℕ) (turns : ℕ) → OneStatus (RunsFile f prog store turns)
file_once f prog store turns a b o p x y = once (file_ways f prog store turns a o x)
  where
    once : FileWays f prog store turns a o → a ≡ b
    once (inl h) = h.0 ∙ sym (run_given f prog store turns b p y Done h.1.0 h.1.1).0
    once (inr (inl h)) = h.0 ∙ sym (run_given f prog store turns b p y Stuck h.1.0 h.1.1).0
    once (inr (inr (inl h))) = h.0 ∙ sym (run_given f prog store turns b p y More h.1.0 h.1.1).0
    once (inr (inr (inr h))) = h.0 ∙ sym (takes_unfit f prog store (HasRun f turns) b p h.1 y).has_status

runs_once : (text prog store : List ℕ) (turns : ℕ) → OneStatus (RunsText text prog store turns)
runs_once text prog store turns = reads_once text (λ f. RunsFile f prog store turns) (λ f. file_once f prog store turns)

-- ---- what the reply says

pub run_reply : (text prog store : List ℕ) (turns status : ℕ) (output : List ℕ) → RunsText text prog store turns status output → RunReply text prog store turns status output
run_reply text prog store turns status output r = record {
  replies = r;
  headline = λ f reads. text_headline text prog store turns status output f reads r;
  declined = λ line fault. reads_faulty text (λ f. RunsFile f prog store turns) status output line fault r;
}

pub run_long : (prog store : List ℕ) (turns : ℕ) → RefusesLong (λ text. RunReply text prog store turns)
run_long prog store turns text past = run_reply text prog store turns 2 too_long_line (text_long text (λ f. RunsFile f prog store turns) past)

pub run_one : (text prog store : List ℕ) (turns : ℕ) → HasOneReply (RunReply text prog store turns) (DoesNotFit text prog store)
run_one text prog store turns = record {
  small = λ status output r. small status output r.replies;
  once = λ a b o p x y. runs_once text prog store turns a b o p x.replies y.replies;
}
  where
    Small : ℕ → List ℕ → Type 0
    Small status output = (status < 4) ⊎ ((status ≡ 7) × (DoesNotFit text prog store × (output ≡ words_line)))

    of_file : (status : ℕ) (output : List ℕ) (f : FileParts) → Reads text f → FileWays f prog store turns status output → Small status output
    of_file status output f reads (inl h) = inl (small_status status (inl h.0))
    of_file status output f reads (inr (inl h)) = inl (small_status status (inr (inl h.0)))
    of_file status output f reads (inr (inr (inl h))) = inl (small_status status (inr (inl h.0)))
    of_file status output f reads (inr (inr (inr h))) = inr (h.0, ((f, reads, h.1), h.2))

    small : (status : ℕ) (output : List ℕ) → RunsText text prog store turns status output → Small status output
    small status output (inl r) = inl (small_status status (inr (inr (inl r.0))))
    small status output (inr (f, reads, r)) = of_file status output f reads (file_ways f prog store turns status output r)
