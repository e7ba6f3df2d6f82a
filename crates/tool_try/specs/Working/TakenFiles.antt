-- The reply to a file to which a command applies, and to another file.
use Rattle.std.proofs.Common.{◌≡◌, ℕ, List, inl, inr}
use Rattle.tool_inputs.specs.Steps.{ReplySpec}
use Rattle.tool_try.specs.Try.{TakesFile}

module _ (Takes : Type 0) (line : List ℕ) (GoesOn : ReplySpec) (status : ℕ) (output : List ℕ) where
  pub takes_it : Takes → TakesFile Takes line GoesOn status output → GoesOn status output
  takes_it takes (inl r) = absurd (r.0 takes)
  takes_it takes (inr r) = r.1

  pub takes_not : (Takes → ⊥) → TakesFile Takes line GoesOn status output → (status ≡ 2) × (output ≡ line)
  takes_not none (inl r) = (r.1.0, r.1.1)
  takes_not none (inr r) = absurd (none r.0)
