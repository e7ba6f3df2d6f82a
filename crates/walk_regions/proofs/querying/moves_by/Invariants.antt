use Rattle.std.proofs.Common.{◌≡◌, eqb, take}
use Rattle.std.specs.List.{filter}
use Rattle.partial_derivs.specs.declared.moves.Guarded.{Guarded}
use Rattle.walk_regions.proofs.querying.moves_by.Given as goal

abbrev pub invariant-loop-guarded : goal.invariant-loop-guarded
invariant-loop-guarded l = l.own.items ≡ filter (λ (m : Guarded). eqb m.act l.act) (take l.guarded-index l.moves)
