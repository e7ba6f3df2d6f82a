use Rattle.std.proofs.Common.{[]}
use Rattle.string_tables.proofs.Counterexamples.{refuted_not_same}
use Rattle.walk_up_to.specs.Walks.{after_trail}
use Rattle.walk_up_to.proofs.Shortest.{found_shortest}
use Rattle.walk_up_to.proofs.laws.found_are_shortest.Goals as goal

pub returns : goal.returns
returns c q es done e os atom walk here t wide ne =
    let found = found_shortest q es done walk e here atom wide ne os t in (found, refuted_not_same q (after_trail os (record { first = atom; rest = [] })) found.refutes)
