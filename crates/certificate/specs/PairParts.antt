-- The parts of a pair of a certificate, by their numbers: two sets of terms, and a test if its style has one.
use Rattle.std.specs.Prelude.{ℕ, List, Option}
use Rattle.term_nodes.specs.NumberSets.{NumberPair}

pub record PairParts : Type 0 where
  pub left : List ℕ
  pub right : List ℕ
  pub test : Option ℕ

-- only the sets
abbrev pub only_sets : PairParts → NumberPair
only_sets p = record { left = p.left; right = p.right }
