-- The results of the program's reading functions in the terms of the specification.
use Rattle.chain_proofs.specs.ChainWalks.{Reason}
use Rattle.chain_proofs.specs.declared.walk.RuleReason.{RuleReason}

-- the specified form of a rule that the program read
abbrev pub reason_of : {A B R P : Type 0} → (A → R) → (B → P) → RuleReason A B → Reason R P
reason_of rule path r = record { rule = rule r.rule; path = path r.path; inner = r.inner }
