use Rattle.std.proofs.Common.{◌≡◌, List, [], length, drop}
use Rattle.flow_model.specs.declared.sort.Sort.{Sort}
use Rattle.flow_model.specs.declared.graph.Block.{Block}
use Rattle.flow_pieces.specs.Exits.{exits_from}
use Rattle.flow_matches.specs.MatchViews.{pair_of}
use Rattle.flow_matches.specs.Tables.{AreTables}
use Rattle.flow_matches.specs.Working.ExitViews.{AreExitsOf, chosen, exit_trees}
use Rattle.flow_matches.proofs.exits.exits_of.Given as goal

-- the candidates that are left give the other exits
abbrev pub invariant-loop-number : goal.invariant-loop-number
invariant-loop-number l = record {
  bounds : AreExitsOf (length l.matches) l.variables l.exits.items;
  exits : (sorts : List Sort) → length sorts ≡ l.variables → (before after : List Block) → AreTables l.tables sorts before after l.matches → exits_from (pair_of sorts before after) (chosen l.matches l.candidates) (chosen l.matches (drop l.number-index l.candidates)) (exit_trees l.matches l.exits.items) ≡ exits_from (pair_of sorts before after) (chosen l.matches l.candidates) (chosen l.matches l.candidates) [];
}
