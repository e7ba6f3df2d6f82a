use Rattle.std.proofs.Common.{ℕ, sym, ap, ◌∙◌, Some, None, Vec, Global}
use Rattle.cert_checker.specs.Indices.{IndexParts, places_at, places_under}
use Rattle.cert_checker.proofs.Indexed.{found_at}
use Rattle.cert_checker.proofs.index.PairIndex.places.Goals as goal

pub returns-in-Some-get : goal.returns-in-Some-get
returns-in-Some-get c =
    c.deref-in-Some-get.ensures.value
    ∙ sym (found_at (λ (v : Vec ℕ Global). v.items) c.self.inside.under.entries c.in-Some.term (Some c.in-Some-get.places.now) c.in-Some-get.ensures.value)
    ∙ ap (λ (x : IndexParts). places_under x c.in-Some.term) c.self.view_is ∙ ap (places_at c.args.self.now) (sym c.in-Some.is)

pub returns-in-None : goal.returns-in-None
returns-in-None c =
    sym (found_at (λ (v : Vec ℕ Global). v.items) c.self.inside.under.entries c.in-Some.term None c.in-None.ensures.value)
    ∙ ap (λ (x : IndexParts). places_under x c.in-Some.term) c.self.view_is ∙ ap (places_at c.args.self.now) (sym c.in-Some.is)
