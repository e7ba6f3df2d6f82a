use Rattle.kat_model.proofs.ReachedPairs.{tested_pairs_bound, tested_single_bound}
use Rattle.kat_model.proofs.laws.tested_pairs_are_bounded.Goals as goal

pub returns : goal.returns
returns c l r pairs = record { all = tested_pairs_bound l r pairs; single = tested_single_bound l r pairs }
