use Rattle.std.proofs.Common.{◌≡◌, [], ◌∷◌, Some, refl, sym, ap, ◌∙◌}
use Rattle.std.proofs.lemmas.Result.{IfOk-weaker}
use Rattle.cert_checker.specs.Questions.{ActionPassParts}
use Rattle.cert_checker.specs.Working.Rounds.{counting_in}
use Rattle.cert_checker.proofs.Coverage.{reached_as, both_none, both_first, both_second}
use Rattle.cert_checker.proofs.matching.reach_universal.Goals as goal

pub returns-in_default : goal.returns-in_default
returns-in_default c =
    let counted = c.args.counted.now in
    let s = c.args.sides.now in
    both_none (counting_in counted) counted.action_pass.now.universal s.left.sure.items s.right.sure.items (λ u e. c.in_default.not-Some u (ap (λ (t : ActionPassParts). t.universal) c.action_pass.view_is ∙ e))

pub returns-then-not-left : goal.returns-then-not-left
returns-then-not-left c =
    let counted = c.args.counted.now in
    let s = c.args.sides.now in
    let ps = counting_in counted in
    let is : counted.action_pass.now.universal ≡ Some c.in-Some.term = sym (ap (λ (t : ActionPassParts). t.universal) c.action_pass.view_is) ∙ c.in-Some.is in
    let left = reached_as ps c.in_ok-left.left _ s.left.sure.items _ (c.in-Some.term ∷ []) c.deref.ensures.value refl c.in_ok-left.ensures in
    both_first ps counted.action_pass.now.universal s.left.sure.items s.right.sure.items c.in-Some.term c.in_ok-left.left is left c.if-not-left.true

pub returns : goal.returns
returns c =
    let counted = c.args.counted.now in
    let s = c.args.sides.now in
    let ps = counting_in counted in
    let is : counted.action_pass.now.universal ≡ Some c.in-Some.term = sym (ap (λ (t : ActionPassParts). t.universal) c.action_pass.view_is) ∙ c.in-Some.is in
    let left = reached_as ps c.in_ok-left.left _ s.left.sure.items _ (c.in-Some.term ∷ []) c.deref.ensures.value refl c.in_ok-left.ensures in
    IfOk-weaker c.reaches-2.result _ _
    (λ b given. both_second ps counted.action_pass.now.universal s.left.sure.items s.right.sure.items c.in-Some.term c.in_ok-left.left b is left c.if-not-left.false (reached_as ps b _ s.right.sure.items _ (c.in-Some.term ∷ []) c.deref-2.ensures.value refl given))
    c.reaches-2.ensures
