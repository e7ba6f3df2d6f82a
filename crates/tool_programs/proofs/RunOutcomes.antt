-- The outcome that a run returns is the program's.
use Rattle.std.proofs.Common.{◌≡◌, ◌↔◌, ℕ, refl}
use Rattle.kat_model.specs.Stores.{Store}
use Rattle.kat_model.specs.declared.expression.Width.{Width}
use Rattle.while_lang.specs.Programs.{ProgTree}
use Rattle.while_lang.specs.Runs.{HasOutcome}
use Rattle.while_lang.specs.declared.outcome.Outcome.{Outcome}
use Rattle.while_lang.specs.declared.outcome.Outcome.TheVariants.{Done, Stuck, More}

module _ (w : Width) (p : ProgTree) (s : Store) (n : ℕ) where
  -- what the contract of the run says about each outcome
  abbrev pub IsGiven : Outcome → Store → Outcome → Type 0
  IsGiven o t q = (u : Store) → ((o ≡ q) × (t ≡ u)) ↔ HasOutcome w p s n q u

  pub outcome_reached : (o : Outcome) (t : Store) → IsGiven o t Done → IsGiven o t Stuck → IsGiven o t More → HasOutcome w p s n o t
  outcome_reached Done t done stuck more = (done t).0 (refl, refl)
  outcome_reached Stuck t done stuck more = (stuck t).0 (refl, refl)
  outcome_reached More t done stuck more = (more t).0 (refl, refl)
