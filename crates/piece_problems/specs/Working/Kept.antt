-- What is always so of matched graphs and their tables.
use Rattle.flow_matches.specs.Tables.{AreTables, AreInside}
use Rattle.flow_matches.specs.declared.tables.MatchTables.{MatchTables}
use Rattle.piece_problems.specs.MatchedBlocks.{MatchedBlocks, AreWhole}

-- the tables are those of the graphs and matches, the blocks of each match exist, and each expression is one tree
pub record AreKept (t : MatchTables) (g : MatchedBlocks) : Type 0 where
  pub tables : AreTables t g.sorts g.before g.after g.matches
  pub inside : AreInside g.before g.after g.matches
  pub whole : AreWhole g
