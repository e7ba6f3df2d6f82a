use Rattle.std.proofs.Common.{Some, sym, subst}
use Rattle.cert_checker.specs.Working.Places.{IsLeastOf}
use Rattle.cert_checker.proofs.PlaceOrders.{least_given}
use Rattle.cert_checker.proofs.places.least_place.Goals as goal

pub returns-in-Some-Some : goal.returns-in-Some-Some
returns-in-Some-Some c =
    subst (λ o. IsLeastOf o c.args.second (Some c.min.result)) (sym c.in-Some-Some.is-0)
    (subst (λ o. IsLeastOf (Some c.in-Some-Some.first) o (Some c.min.result)) (sym c.in-Some-Some.is-1) (least_given c.in-Some-Some.first c.in-Some-Some.second c.min.result c.min.ensures))
