use Rattle.std.proofs.Common.{◌≡◌, Some, sym, ap, ◌∙◌, subst}
use Rattle.std.specs.Option.{option_to_list}
use Rattle.certificate.specs.PairParts.{PairParts}
use Rattle.walk_pairs.specs.Needed.{AddsAll}
use Rattle.kat_model.proofs.NumberKeys.{adds_one}
use Rattle.walk_pairs.proofs.needed.add_pair_test.Goals as goal

pub returns-in_ok-insert-in-Some : goal.returns-in_ok-insert-in-Some
returns-in_ok-insert-in-Some c =
    let is : c.args.pair.now.test ≡ Some c.in-Some.test = sym (ap (λ (p : PairParts). p.test) c.pair.view_is) ∙ c.in-Some.is in
    subst (λ o. AddsAll c.args.set.now.keys c.insert.new.self.keys (option_to_list o)) (sym is)
    (adds_one c.args.set.now.keys c.insert.new.self.keys c.in-Some.test c.in_ok-insert-in-Some.ensures.keys)
