use Rattle.std.proofs.Common.{ℕ, List, refl, sym, subst}
use Rattle.kat_model.specs.Members.{Has}
use Rattle.cert_checker.specs.Indices.{IndexParts, KeepsPlaces}
use Rattle.cert_checker.specs.contracts.index.PairIndex.{the_view}
use Rattle.cert_checker.proofs.Indexed.{pushed_has, kept_apart, represents_last, represents_apart}
use Rattle.cert_checker.proofs.index.PairIndex.add.Goals as goal

pub returns-in_ok-push-in-None-clause-added : goal.returns-in_ok-push-in-None-clause-added
returns-in_ok-push-in-None-clause-added c =
    let new : IndexParts = the_view (record { apart = c.push.new.self; under = c.self.inside.under }) in
    represents_apart new c.args.set.now c.args.place c.in-None.ensures.value (subst (λ (l : List ℕ). Has l c.args.place) (sym c.in_ok-push-in-None.ensures.items) (pushed_has c.self.inside.apart.items c.args.place))

pub returns-in_ok-push-in-None-clause-kept : goal.returns-in_ok-push-in-None-clause-kept
returns-in_ok-push-in-None-clause-kept c =
    let new : IndexParts = the_view (record { apart = c.push.new.self; under = c.self.inside.under }) in
    subst (λ (x : IndexParts). KeepsPlaces x new) c.self.view_is (kept_apart (the_view c.self.inside) new c.args.place c.in_ok-push-in-None.ensures.items refl)

pub returns-in_ok-add_under-in-Some-clause-added : goal.returns-in_ok-add_under-in-Some-clause-added
returns-in_ok-add_under-in-Some-clause-added c =
    let new : IndexParts = the_view (record { apart = c.self.inside.apart; under = c.add_under.new.under }) in
    represents_last new c.args.set.now c.in-Some.term.now c.args.place c.in-Some.ensures.value c.in_ok-add_under-in-Some.ensures.added

pub returns-in_ok-add_under-in-Some-clause-kept : goal.returns-in_ok-add_under-in-Some-clause-kept
returns-in_ok-add_under-in-Some-clause-kept c =
    let new : IndexParts = the_view (record { apart = c.self.inside.apart; under = c.add_under.new.under }) in
    subst (λ (x : IndexParts). KeepsPlaces x new) c.self.view_is (record { apart = λ k h. h; under = c.in_ok-add_under-in-Some.ensures.kept })
