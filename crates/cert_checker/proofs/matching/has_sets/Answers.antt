use Rattle.std.proofs.Common.{◌≡◌, ◌&&◌, Bool, List, Some, None, nat_eq, slice_get, refl, sym, ap, ◌∙◌, Bor}
use Rattle.std.specs.Cmp.Lexicographic.{pointwise}
use Rattle.certificate.specs.PairParts.{PairParts}
use Rattle.cert_checker.specs.Questions.{ActionPassParts}
use Rattle.cert_checker.proofs.FoundPairs.{item_read}
use Rattle.cert_checker.proofs.matching.has_sets.Goals as goal

pub returns-in_default : goal.returns-in_default
returns-in_default c =
    let ps : List PairParts = c.args.counted.now.action_pass.now.pairs in
    let same : c.action_pass.inside.pairs.now ≡ ps = ap (λ (t : ActionPassParts). t.pairs) c.action_pass.view_is in
    let none : slice_get ps c.args.place ≡ None = ap (λ (l : List PairParts). slice_get l c.args.place) (sym same) ∙ item_read (λ (q : Bor PairParts). q.now) c.action_pass.inside.pairs.now c.args.place None c.in_default.ensures.lookup in
    rw none refl

pub returns-then-counts : goal.returns-then-counts
returns-then-counts c =
    let ps : List PairParts = c.args.counted.now.action_pass.now.pairs in
    let same : c.action_pass.inside.pairs.now ≡ ps = ap (λ (t : ActionPassParts). t.pairs) c.action_pass.view_is in
    let p : PairParts = c.in-Some.pair.now in
    let at : slice_get ps c.args.place ≡ Some p = ap (λ (l : List PairParts). slice_get l c.args.place) (sym same) ∙ item_read (λ (q : Bor PairParts). q.now) c.action_pass.inside.pairs.now c.args.place (Some c.in-Some.pair) c.in-Some.ensures.lookup in
    let sets : Bool = pointwise nat_eq p.left c.args.left.now && pointwise nat_eq p.right c.args.right.now in
    rw at (c.has_both.ensures ∙ ap (λ (b : Bool). b && sets) (sym (sym c.counts.ensures ∙ c.if-counts.true)))

pub returns-else-counts : goal.returns-else-counts
returns-else-counts c =
    let ps : List PairParts = c.args.counted.now.action_pass.now.pairs in
    let same : c.action_pass.inside.pairs.now ≡ ps = ap (λ (t : ActionPassParts). t.pairs) c.action_pass.view_is in
    let p : PairParts = c.in-Some.pair.now in
    let at : slice_get ps c.args.place ≡ Some p = ap (λ (l : List PairParts). slice_get l c.args.place) (sym same) ∙ item_read (λ (q : Bor PairParts). q.now) c.action_pass.inside.pairs.now c.args.place (Some c.in-Some.pair) c.in-Some.ensures.lookup in
    let sets : Bool = pointwise nat_eq p.left c.args.left.now && pointwise nat_eq p.right c.args.right.now in
    rw at (c.if-counts.false ∙ sym (ap (λ (b : Bool). b && sets) (sym c.counts.ensures ∙ c.if-counts.false)))
