use Rattle.kat_model.specs.Degrees.{short_hyps, long_hyps}
use Rattle.kat_model.proofs.Splits.{split_by_degree}
use Rattle.kat_model.proofs.Sameness.{accepted_under_same}
use Rattle.kat_model.proofs.laws.accepted_under_tests_are_same.Goals as goal

pub returns : goal.returns
returns c q pairs = record {
  by_degree = accepted_under_same q (short_hyps q) (long_hyps q) pairs (split_by_degree q);
  counted = λ shorts longs. accepted_under_same q shorts longs pairs;
}
