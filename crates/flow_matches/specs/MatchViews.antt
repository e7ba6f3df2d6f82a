-- Matches and graphs of the program as those of the definitions.
use Rattle.std.specs.Prelude.{ℕ, List, slice_get, unwrap_or}
use Rattle.flow_model.specs.declared.sort.Sort.{Sort}
use Rattle.flow_model.specs.declared.graph.Block.{Block as ABlock}
use Rattle.flow_model.specs.Polish.{graph_of}
use Rattle.flow_model.specs.Graphs.{Pair}
use Rattle.flow_model.specs.Matches.{Match, matches_of}
use Rattle.flow_pieces.specs.Matches.{entry_match}
use Rattle.flow_model.specs.declared.block_match.BlockMatch.{BlockMatch}

-- the match of a number
abbrev pub match_at : List BlockMatch → ℕ → Match
match_at ms n = unwrap_or (slice_get (matches_of ms) n) entry_match

abbrev pub pair_of : List Sort → List ABlock → List ABlock → Pair
pair_of sorts before after = record { sorts = sorts; before = graph_of before; after = graph_of after }
