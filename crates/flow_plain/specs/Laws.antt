-- Plainest texts are read back.
use Rattle.std.specs.Prelude.{◌≡◌, []}
use Rattle.flow_model.specs.Graphs.{Pair}
use Rattle.flow_text.specs.Checking.{FlowFileParts, rounds_or_one, pair_of}
use Rattle.flow_text.specs.Texts.{IsFlowText}
use Rattle.flow_plain.specs.PlainGraphs.{Declared, graphs_text}
use Rattle.flow_plain.specs.PrintableGraphs.{ArePlainGraphs}

-- the file compares these two graphs, with the rounds that are given or else one, and without matches
pub record Compares (d : Declared) (p : Pair) (f : FlowFileParts) : Type 0 where
  pub graphs : pair_of f ≡ p
  pub rounds : f.rounds ≡ rounds_or_one d.rounds
  pub splits : f.splits ≡ d.splits
  pub matches : f.matches ≡ []

-- the plainest text of two graphs is a flow file that compares them
abbrev pub PlainGraphsReadBack : Type 0
PlainGraphsReadBack = (d : Declared) (p : Pair) → ArePlainGraphs d p → (f : FlowFileParts) × IsFlowText (graphs_text d p) f × Compares d p f
