use Rattle.std.proofs.Common.{◌≡◌, ◌-◌, ◌≤◌, length, take}
use Rattle.kat_model.specs.Stores.{modulus}
use Rattle.abstraction.specs.Rounds.{substitutions, rounds}
use Rattle.abstraction.proofs.AppendedRows.{AllRefused}
use Rattle.abstraction.proofs.rounds.add_rounds.Given as goal

-- the first `done` comparisons were processed, and the remaining rounds lead to the result of all rounds
abbrev pub invariant-loop-round : goal.invariant-loop-round
invariant-loop-round l =
    (l.done ≤ length l.rows.items) × AllRefused l.most l.rows.items (substitutions (modulus l.width) l.assignments (take l.done l.rows.items))
    × (rounds (l.count - l.round) (modulus l.width) l.most l.assignments l.rows.items ≡ rounds l.count (modulus l.width) l.most l.assignments l.initial.rows.items)
