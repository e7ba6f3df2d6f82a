use Rattle.std.proofs.Common.{◌≡◌, [], ◌∷◌, sym, ap, subst, ⊎_elim}
use Rattle.term_nodes.specs.Nodes.{test_parts}
use Rattle.kat_model.proofs.NumberKeys.{Adds, adds_none, adds_one, adds_two}
use Rattle.cert_checker.proofs.queried.add_parts.Goals as goal

pub returns-in-False : goal.returns-in-False
returns-in-False c =
    let same : test_parts c.args.node ≡ [] = ⊎_elim (λ s. ap test_parts s) (λ r. ⊎_elim (λ s. ap test_parts s) (λ p. ap test_parts p.1) r) c.in-False.is in
    subst (Adds c.args.tests.now.keys c.args.tests.now.keys) (sym same) (adds_none c.args.tests.now.keys)

pub returns-in_ok-insert-in-Not : goal.returns-in_ok-insert-in-Not
returns-in_ok-insert-in-Not c =
    let same : test_parts c.args.node ≡ c.in-Not.x ∷ [] = ap test_parts c.in-Not.is in
    subst (Adds c.args.tests.now.keys c.insert.new.self.keys) (sym same) (adds_one c.args.tests.now.keys c.insert.new.self.keys c.in-Not.x c.in_ok-insert-in-Not.ensures.keys)

pub returns-in_ok-insert-in-And-2 : goal.returns-in_ok-insert-in-And-2
returns-in_ok-insert-in-And-2 c =
    let same : test_parts c.args.node ≡ c.in-And.x ∷ c.in-And.y ∷ [] = ⊎_elim (λ s. ap test_parts s) (λ s. ap test_parts s) c.in-And.is in
    subst (Adds c.args.tests.now.keys c.insert-in-And-2.new.self.keys) (sym same)
    (adds_two c.args.tests.now.keys c.insert-in-And.new.self.keys c.insert-in-And-2.new.self.keys c.in-And.x c.in-And.y c.in_ok-insert-in-And.ensures.keys c.in_ok-insert-in-And-2.ensures.keys)
