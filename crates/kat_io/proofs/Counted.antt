-- The state of a shelf in memory after a fault.
use Rattle.std.proofs.Common.{◌≡◌, ◌≤◌, ℕ, List, Some, arith, ap}
use Rattle.kat_io.specs.Outside.{FaultCounted}
use Rattle.kat_io.specs.Shelves.{ShelfState, after_fault}

-- after a fault, the count rose and the last failed name is the name of the call
pub fault_counted : (old now : ShelfState) (name : List ℕ) → now ≡ after_fault old name → old.faults ≤ now.faults → (old.faults ≤ now.faults) × FaultCounted old.faults now.faults × (now.last ≡ Some name)
fault_counted old now name e later = (later, omega (arith, ap (λ (s : ShelfState). s.faults) e), ap (λ (s : ShelfState). s.last) e)
