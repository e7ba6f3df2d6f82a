use Rattle.std.proofs.Common.{◌≡◌, ◌<◌, ℕ, length, get_or}
use Rattle.cert_checker.specs.Marks.{IsMarked}
use Rattle.cert_checker.proofs.pass.mark_all.Given as goal

-- the old marks remain, and the processed numbers are marked
abbrev pub invariant-loop-number : goal.invariant-loop-number
invariant-loop-number l = record {
  count : length l.marks ≡ length l.initial.marks;
  kept : (k : ℕ) → IsMarked l.initial.marks k → IsMarked l.marks k;
  marked : (j : ℕ) → j < l.number-index → IsMarked l.marks (get_or l.set j 0);
}
