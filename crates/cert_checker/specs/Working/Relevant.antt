-- A problem with fewer short hypotheses.
use Rattle.std.specs.Prelude.{◌≡◌, List}
use Rattle.kat_model.specs.Trees.{Term}
use Rattle.kat_model.specs.Members.{IsSubset}
use Rattle.kat_model.specs.Problems.{ProblemParts}
use Rattle.kat_model.specs.Degrees.{long_hyps, with_hyps}

-- the second problem is the first with the same long hypotheses, and some of its short ones
pub record HasFewerHyps (q p : ProblemParts) : Type 0 where
  pub hyps : List Term
  pub is : p ≡ with_hyps q hyps
  pub longs : long_hyps p ≡ long_hyps q
  pub fewer : IsSubset hyps q.hyps
