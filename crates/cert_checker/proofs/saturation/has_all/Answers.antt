use Rattle.std.proofs.Common.{ℕ, List, nat_eq, rules, tests}
use Rattle.std.specs.List.{list_any}
use Rattle.std.proofs.lemmas.Iterator.{YieldsList-from_slice}
use Rattle.std.proofs.lemmas.Iterator.Search.{all_from_yields_List}
use Rattle.cert_checker.proofs.Saturating.{all_there}
use Rattle.cert_checker.proofs.saturation.has_all.Goals as goal

pub returns : goal.returns
returns c =
    let keys : List ℕ = c.args.reached.now.keys in
    all_there c.args.set.now keys c.all.result
    (all_from_yields_List (λ (k : ℕ). list_any (nat_eq k) keys) _ _ c.all.result c.all.ensures.ran (YieldsList-from_slice c.args.set.now cc) (λ x b q k. search (rules, tests)))
