-- Two graphs of the program with matches of their blocks.
use Rattle.std.specs.Prelude.{◌≡◌, ℕ, Bool, true, List, All}
use Rattle.flow_model.specs.declared.sort.Sort.{Sort}
use Rattle.flow_model.specs.declared.graph.Block.{Block}
use Rattle.flow_model.specs.declared.block_match.BlockMatch.{BlockMatch}
use Rattle.flow_model.specs.Graphs.{Pair}
use Rattle.flow_model.specs.Matches.{Match, matches_of}
use Rattle.flow_model.specs.WholeGraphs.{are_whole_blocks}
use Rattle.flow_model.specs.WholeMatches.{IsWholeMatch}
use Rattle.flow_matches.specs.MatchViews.{match_at, pair_of}
use Rattle.piece_problems.specs.Questions.{AskedMatch}

-- two graphs over variables of these sorts, with matches of their blocks
pub record MatchedBlocks : Type 0 where
  pub sorts : List Sort
  pub before : List Block
  pub after : List Block
  pub matches : List BlockMatch

abbrev pub matched_blocks : List Sort → List Block → List Block → List BlockMatch → MatchedBlocks
matched_blocks sorts before after matches = record { sorts = sorts; before = before; after = after; matches = matches }

abbrev pub graphs_of : MatchedBlocks → Pair
graphs_of g = pair_of g.sorts g.before g.after

abbrev pub trees_of : MatchedBlocks → List Match
trees_of g = matches_of g.matches

-- each expression and each condition of the graphs and of the matches is exactly one tree
pub record AreWhole (g : MatchedBlocks) : Type 0 where
  pub before : are_whole_blocks g.before ≡ true
  pub after : are_whole_blocks g.after ≡ true
  pub matches : All IsWholeMatch g.matches

-- the match of a number, with a number of rounds, and with or without splits
abbrev pub asked_match : MatchedBlocks → ℕ → ℕ → Bool → AskedMatch
asked_match g number rounds splits = record { match = match_at g.matches number; rounds = rounds; splits = splits }
