use Rattle.std.proofs.Common.{◌≡◌, drop}
use Rattle.std.specs.List.{flat_map}
use Rattle.kat_model.specs.Stores.{modulus}
use Rattle.linear_forms.specs.Comparisons.{substituted}
use Rattle.abstraction.specs.Comparisons.{atomics}
use Rattle.abstraction.specs.Rounds.{append_all}
use Rattle.abstraction.proofs.rounds.append_all_substituted.Given as goal

-- the remaining comparisons lead to the final rows
abbrev pub invariant-loop-atomic : goal.invariant-loop-atomic
invariant-loop-atomic l =
    append_all l.most l.rows.items (flat_map (λ phi. atomics (substituted (modulus l.width) l.assigned.var l.assigned.form phi)) (drop l.atomic-index l.fresh))
    ≡ append_all l.most l.initial.rows.items (flat_map (λ phi. atomics (substituted (modulus l.width) l.assigned.var l.assigned.form phi)) l.fresh)
