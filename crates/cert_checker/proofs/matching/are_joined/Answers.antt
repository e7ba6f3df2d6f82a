use Rattle.std.proofs.Common.{sym, ◌∙◌}
use Rattle.std.proofs.lemmas.Bool.{false≢true}
use Rattle.std.proofs.lemmas.Result.{IfOk-weaker}
use Rattle.cert_checker.specs.Working.Rounds.{counting_in}
use Rattle.cert_checker.proofs.Coverage.{reached_as}
use Rattle.cert_checker.proofs.matching.are_joined.Goals as goal

pub returns-then-not-left : goal.returns-then-not-left
returns-then-not-left c =
    let s = c.args.sides.now in
    let left = reached_as (counting_in c.args.counted.now) c.in_ok-left.left _ s.right.sure.items _ s.left.alone.items c.deref.ensures.value c.deref-2.ensures.value c.in_ok-left.ensures in
    ((λ e. absurd (false≢true e)), (λ m. absurd (false≢true (sym c.if-not-left.true ∙ left.1 m.0))))

pub returns : goal.returns
returns c =
    let s = c.args.sides.now in
    let ps = counting_in c.args.counted.now in
    let left = reached_as ps c.in_ok-left.left _ s.right.sure.items _ s.left.alone.items c.deref.ensures.value c.deref-2.ensures.value c.in_ok-left.ensures in
    IfOk-weaker c.reaches-2.result _ _
    (λ b given. let right = reached_as ps b _ s.left.sure.items _ s.right.alone.items c.deref-3.ensures.value c.deref-4.ensures.value given in ((λ e. (left.0 c.if-not-left.false, right.0 e)), (λ m. right.1 m.1)))
    c.reaches-2.ensures
