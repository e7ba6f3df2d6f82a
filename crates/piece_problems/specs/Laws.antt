-- Graphs all of whose pieces hold always return the same.
use Rattle.std.specs.Prelude.{◌<◌, ◌+◌, ℕ, Bool, List, length}
use Rattle.kat_model.specs.Members.{Has}
use Rattle.kat_model.specs.Stores.{modulus}
use Rattle.kat_model.specs.declared.expression.Width.TheVariants.{W32}
use Rattle.flow_model.specs.Graphs.{Pair}
use Rattle.flow_model.specs.Agreement.{AgreeAlways}
use Rattle.flow_model.specs.Matches.{Match}
use Rattle.flow_ways.specs.Sorted.{IsSortedGraph}
use Rattle.flow_pieces.specs.Matches.{entry_match}
use Rattle.flow_pieces.specs.PieceQuestions.{IsProper}
use Rattle.piece_problems.specs.Questions.{IsSamePiece}

-- the piece of a match holds, with some number of rounds, and with or without splits
abbrev pub Holds : Pair → List Match → Match → Type 0
Holds p ms m = (rounds : ℕ) × (splits : Bool) × IsSamePiece p ms (record { match = m; rounds = rounds; splits = splits })

-- where the entries are matched, and each match is proper and its piece holds, the graphs always return the same
abbrev pub SamePiecesAgree : Type 0
SamePiecesAgree =
    (p : Pair) (ms : List Match) → IsSortedGraph p.sorts p.before → IsSortedGraph p.sorts p.after → Has ms entry_match → length ms + 3 < modulus W32 →
    ((m : Match) → Has ms m → IsProper p m × Holds p ms m) → AgreeAlways p
