-- `try` FILE TURNS: its reply to a text, and what it says about the goal.
use Rattle.std.specs.Prelude.{◌≡◌, ◌⊎◌, ◌↔◌, ℕ, List, length}
use Rattle.kat_model.specs.Stores.{Store}
use Rattle.while_lang.specs.Files.{FileParts}
use Rattle.problem_file.specs.Reads.{Reads}
use Rattle.while_lang.specs.Concrete.{IsConcrete, IsStoreOf}
use Rattle.store_trials.specs.RunEnds.{EndParts}
use Rattle.store_trials.specs.Numbers.{AreTriedNumbers}
use Rattle.store_trials.specs.StoreLists.{all_stores}
use Rattle.store_trials.specs.Trials.{IsFirstFalse, NoneShown, IsTrial}
use Rattle.store_trials.specs.Laws.{IsFalse}
use Rattle.store_trials.specs.declared.trials.Trial.{Trial}
use Rattle.store_trials.specs.declared.trials.Trial.TheVariants.{Fails, NoneFails}
use Rattle.tool_inputs.specs.TextProblem.{IsFaulty}
use Rattle.tool_inputs.specs.Steps.{ReplySpec, IsRefusal, ReadsText}
use Rattle.tool_try.specs.TryTexts.{trial_text, trial_status, not_concrete_line}

-- ---- the reply

-- the command applies to a file, and continues; or it does not, and this line refuses the file
abbrev pub TakesFile : Type 0 → List ℕ → ReplySpec → ReplySpec
TakesFile Takes line GoesOn status output = ((Takes → ⊥) × IsRefusal (λ l. l ≡ line) status output) ⊎ (Takes × GoesOn status output)

-- the stores of a file on which its goal is tried
pub record AreTrialStores (f : FileParts) (stores : List Store) : Type 0 where
  pub numbers : List ℕ
  pub are_numbers : AreTriedNumbers f.width f.goal numbers
  pub listed : stores ≡ all_stores f.width numbers f.vars

-- the goal is tried on stores, and what this shows is printed
pub record HasTried (f : FileParts) (turns : ℕ) (stores : List Store) (status : ℕ) (output : List ℕ) : Type 0 where
  pub trial : Trial
  pub is_trial : IsTrial f.width turns f.goal stores trial
  pub has_status : status ≡ trial_status trial
  pub printed : output ≡ trial_text f.scope (length stores) trial

-- the steps of the reply to a file, and to a text
abbrev pub TriesStores : FileParts → ℕ → ReplySpec
TriesStores f turns status output = (stores : List Store) × AreTrialStores f stores × HasTried f turns stores status output

abbrev pub TriesFile : FileParts → ℕ → ReplySpec
TriesFile f turns = TakesFile (IsConcrete f) not_concrete_line (TriesStores f turns)

abbrev pub TriesText : List ℕ → ℕ → ReplySpec
TriesText text turns = ReadsText text (λ f. TriesFile f turns)

-- ---- what it says

-- The runs from a store of the list show that the goal is false; it is the first such store, and it is printed with the
-- ends of the runs. So the goal is false from this store, by the definitions of runs, and does not hold for all stores.
pub record FindsStore (f : FileParts) (turns : ℕ) (stores : List Store) (output : List ℕ) : Type 0 where
  pub store : Store
  pub ends : List EndParts
  pub is_store : IsStoreOf f store
  pub first : IsFirstFalse f.width turns f.goal stores store ends
  pub is_false : IsFalse f store
  pub printed : output ≡ trial_text f.scope (length stores) (Fails store ends)

-- the runs from no store of the list show that, and the numbers of stores and of runs that were cut short are printed
pub record FindsNone (f : FileParts) (turns : ℕ) (stores : List Store) (output : List ℕ) : Type 0 where
  pub cut : ℕ
  pub none : NoneShown f.width turns f.goal stores cut
  pub printed : output ≡ trial_text f.scope (length stores) (NoneFails cut)

-- what a reply says that tried the goal on these stores; 0 says only that none of them shows that the goal is false
pub record TrialHeadline (f : FileParts) (turns : ℕ) (stores : List Store) (status : ℕ) (output : List ℕ) : Type 0 where
  pub answers : (status ≡ 0) ⊎ (status ≡ 1)
  pub found : (status ≡ 1) ↔ ((s : Store) × (ends : List EndParts) × IsFirstFalse f.width turns f.goal stores s ends)
  pub shown : status ≡ 1 → FindsStore f turns stores output
  pub none : status ≡ 0 → FindsNone f turns stores output

-- The status is 2 exactly when the file is not concrete. Otherwise it is 1 exactly when the runs from some store of the
-- list show that the goal is false.
pub record TryHeadline (f : FileParts) (turns : ℕ) (status : ℕ) (output : List ℕ) : Type 0 where
  pub answers : (status ≡ 0) ⊎ ((status ≡ 1) ⊎ (status ≡ 2))
  pub refused : (status ≡ 2) ↔ (IsConcrete f → ⊥)
  pub refused_line : status ≡ 2 → output ≡ not_concrete_line
  pub tried : IsConcrete f → (stores : List Store) × AreTrialStores f stores × TrialHeadline f turns stores status output

-- What a reply of `try` says about its text. The headline holds for the file that is read. A text that is not a file is
-- refused with its line.
pub record TryReply (text : List ℕ) (turns : ℕ) (status : ℕ) (output : List ℕ) : Type 0 where
  pub replies : TriesText text turns status output
  pub headline : (f : FileParts) → Reads text f → TryHeadline f turns status output
  pub declined : (line : List ℕ) → IsFaulty text line → (status ≡ 2) × (output ≡ line)
