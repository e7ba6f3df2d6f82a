use Rattle.kat_model.proofs.Bounds.{pairs_bound, single_pairs_bound}
use Rattle.kat_model.proofs.laws.pairs_are_bounded.Goals as goal

pub returns : goal.returns
returns c l r pairs = record { all = pairs_bound l r pairs; single = single_pairs_bound l r pairs }
