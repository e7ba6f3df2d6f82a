use Rattle.std.proofs.Common.{◌≡◌, ℕ, ◌==◌, if◌then◌else◌, take}
use Rattle.std.specs.List.{list_any}
use Rattle.lrat_checker.specs.Accepted.{erased}
use Rattle.lrat_checker.specs.Working.KnownClauses.{entry_at}
use Rattle.lrat_checker.proofs.known.delete_all.Given as goal

abbrev pub invariant-loop-id : goal.invariant-loop-id
invariant-loop-id l = (n : ℕ) → entry_at l.entries n ≡ (if list_any (λ id. id == n) (take l.id-index l.ids) then erased (entry_at l.initial.entries n) else entry_at l.initial.entries n)
