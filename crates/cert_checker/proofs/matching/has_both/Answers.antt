use Rattle.std.proofs.Common.{◌&&◌, Bool, nat_eq, refl, sym, ap, ◌∙◌}
use Rattle.std.specs.Cmp.Lexicographic.{pointwise}
use Rattle.certificate.specs.PairParts.{PairParts}
use Rattle.cert_checker.proofs.FoundPairs.{compared_as}
use Rattle.cert_checker.proofs.matching.has_both.Goals as goal

pub returns-then-eq : goal.returns-then-eq
returns-then-eq c =
    let p : PairParts = c.args.pair.now in
    let left = compared_as c.eq.result _ _ p.left c.args.left.now c.eq.ensures (c.as_slice.ensures ∙ ap (λ (z : PairParts). z.left) c.pair.view_is) refl in
    let right = compared_as c.eq-then-eq.result _ _ p.right c.args.right.now c.eq-then-eq.ensures (c.as_slice-then-eq.ensures ∙ ap (λ (z : PairParts). z.right) c.pair.view_is) refl in
    sym (ap (λ (b : Bool). b && pointwise nat_eq p.right c.args.right.now) (left ∙ c.if-eq.true) ∙ right)

pub returns-else-eq : goal.returns-else-eq
returns-else-eq c =
    let p : PairParts = c.args.pair.now in
    let left = compared_as c.eq.result _ _ p.left c.args.left.now c.eq.ensures (c.as_slice.ensures ∙ ap (λ (z : PairParts). z.left) c.pair.view_is) refl in
    c.if-eq.false ∙ sym (ap (λ (b : Bool). b && pointwise nat_eq p.right c.args.right.now) (left ∙ c.if-eq.false))
