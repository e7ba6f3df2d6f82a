use Rattle.std.proofs.Common.{◌≡◌, drop}
use Rattle.kat_model.specs.Stores.{modulus}
use Rattle.abstraction.specs.Rounds.{append_all, substitutions}
use Rattle.abstraction.proofs.rounds.append_substitutions.Given as goal

-- the remaining assignments lead to the final rows
abbrev pub invariant-loop-assigned : goal.invariant-loop-assigned
invariant-loop-assigned l =
    append_all l.most l.rows.items (substitutions (modulus l.width) (drop l.assigned-index l.assignments) l.fresh)
    ≡ append_all l.most l.initial.rows.items (substitutions (modulus l.width) l.assignments l.fresh)
