use Rattle.std.proofs.Common.{sym, subst, IfOk}
use Rattle.kat_model.specs.Problems.{HasTestsBelow}
use Rattle.partial_derivs.specs.Moves.{IsDerivativeOf}
use Rattle.partial_derivs.proofs.Kept.{Keeps-itself, Keeps-trans, Keeps-functions, Keeps-trees, IsTermOf-kept, AreTargets-kept, HasIds-kept}
use Rattle.partial_derivs.proofs.Unions.{ids_of_steps}
use Rattle.partial_derivs.proofs.Tables.{AreRight-kept, right_derived}
use Rattle.partial_derivs.proofs.Derived.{earlier, part_pair_falls, part_falls, first_falls, second_falls, only_falls, own_falls, sum_derived, product_derived, star_derived}
use Rattle.partial_derivs.proofs.derivatives.Derivatives.+derive.Goals as goal

pub derive-returns-in-Zero-clause-steps : goal.derive-returns-in-Zero-clause-steps
derive-returns-in-Zero-clause-steps t c =
    subst (λ e. IsDerivativeOf c.args.store.now c.args.diagrams.now e c.constant_steps.result) (sym c.in-Zero.ensures.tree) (c.constant_steps.ensures c.args.store.now)

pub derive-returns-in-One-clause-steps : goal.derive-returns-in-One-clause-steps
derive-returns-in-One-clause-steps t c =
    subst (λ e. IsDerivativeOf c.args.store.now c.args.diagrams.now e c.constant_steps-in-One.result) (sym c.in-One.ensures.tree) (c.constant_steps-in-One.ensures c.args.store.now)

pub derive_product-returns-in_err-second-clause-kept : goal.derive_product-returns-in_err-second-clause-kept
derive_product-returns-in_err-second-clause-kept t c = Keeps-trans _ _ _ _ _ _ c.in_ok-first.ensures.kept c.in_err-second.ensures.kept

pub derive_product-product_steps-requires-clause-first : goal.derive_product-product_steps-requires-clause-first
derive_product-product_steps-requires-clause-first t c =
    HasIds-kept _ _ _ _ c.in_ok-second.ensures.kept c.in_ok-first.first (ids_of_steps _ _ _ _ _ c.in_ok-first.ensures.steps)

pub derive_product-returns-clause-steps : goal.derive_product-returns-clause-steps
derive_product-returns-clause-steps t c =
    let first = c.in_ok-first in
    let second = c.in_ok-second in
    product_derived c.product_steps.result _ _ _ _ _ _ _ _ c.args.e c.args.f first.first second.second first.ensures.kept second.ensures.kept c.requires.second.is_id
    first.ensures.steps second.ensures.steps c.product_steps.ensures.steps

pub derive_product-returns-clause-right : goal.derive_product-returns-clause-right
derive_product-returns-clause-right t c = AreRight-kept _ _ _ _ c.steps_of-2.new.self c.product_steps.ensures.kept c.in_ok-second.ensures.right

pub derive_product-returns-clause-kept : goal.derive_product-returns-clause-kept
derive_product-returns-clause-kept t c =
    Keeps-trans _ _ _ _ _ _ c.in_ok-first.ensures.kept (Keeps-trans _ _ _ _ _ _ c.in_ok-second.ensures.kept c.product_steps.ensures.kept)

pub derive_star-returns-clause-right : goal.derive_star-returns-clause-right
derive_star-returns-clause-right t c = AreRight-kept _ _ _ _ c.steps_of.new.self c.star_steps.ensures.kept c.in_ok-inner.ensures.right

pub derive_star-returns-clause-kept : goal.derive_star-returns-clause-kept
derive_star-returns-clause-kept t c = Keeps-trans _ _ _ _ _ _ c.in_ok-inner.ensures.kept c.star_steps.ensures.kept

pub derive_sum-returns-in_err-second-clause-kept : goal.derive_sum-returns-in_err-second-clause-kept
derive_sum-returns-in_err-second-clause-kept t c = Keeps-trans _ _ _ _ _ _ c.in_ok-first.ensures.kept c.in_err-second.ensures.kept

pub derive_sum-sum_steps-requires-clause-first : goal.derive_sum-sum_steps-requires-clause-first
derive_sum-sum_steps-requires-clause-first t c =
    HasIds-kept _ _ _ _ c.in_ok-second.ensures.kept c.in_ok-first.first (ids_of_steps _ _ _ _ _ c.in_ok-first.ensures.steps)

pub derive_sum-returns-clause-steps : goal.derive_sum-returns-clause-steps
derive_sum-returns-clause-steps t c =
    let first = c.in_ok-first in
    let second = c.in_ok-second in
    sum_derived c.sum_steps.result _ _ _ c.args.store.now _ _ _ _ c.args.e c.args.f first.first second.second first.ensures.kept second.ensures.kept c.requires.second.is_id
    first.ensures.steps second.ensures.steps c.sum_steps.ensures.sum

pub derive_sum-returns-clause-right : goal.derive_sum-returns-clause-right
derive_sum-returns-clause-right t c =
    AreRight-kept _ _ _ _ c.steps_of-2.new.self (Keeps-functions c.steps_of-2.new.store _ _ c.sum_steps.ensures.kept) c.in_ok-second.ensures.right

pub derive_sum-returns-clause-kept : goal.derive_sum-returns-clause-kept
derive_sum-returns-clause-kept t c =
    Keeps-trans _ _ _ _ _ _ c.in_ok-first.ensures.kept
    (Keeps-trans _ _ _ _ _ _ c.in_ok-second.ensures.kept (Keeps-functions c.steps_of-2.new.store _ _ c.sum_steps.ensures.kept))

pub steps_of-returns-in-Some-clause-steps : goal.steps_of-returns-in-Some-clause-steps
steps_of-returns-in-Some-clause-steps t c =
    let found = rw c.in-Some.is at c.in_ok-steps.ensures in
    found c.args.store.now c.args.diagrams.now c.requires.right

pub steps_of-returns-in_err-note-clause-right : goal.steps_of-returns-in_err-note-clause-right
steps_of-returns-in_err-note-clause-right t c =
    let derived = c.in_ok-steps-2 in
    c.note.ensures c.derive.new.store c.derive.new.diagrams (right_derived _ _ _ _ c.args.term derived.steps derived.ensures.kept c.requires.term derived.ensures.steps) derived.ensures.right

pub steps_of-returns-clause-right : goal.steps_of-returns-clause-right
steps_of-returns-clause-right t c =
    let derived = c.in_ok-steps-2 in
    c.note.ensures c.derive.new.store c.derive.new.diagrams (right_derived _ _ _ _ c.args.term derived.steps derived.ensures.kept c.requires.term derived.ensures.steps) derived.ensures.right

pub derive-test_steps-requires-clause-id : goal.derive-test_steps-requires-clause-id
derive-test_steps-requires-clause-id t c = c.in-Test.ensures.parts

pub derive-test_steps-requires-clause-in_range : goal.derive-test_steps-requires-clause-in_range
derive-test_steps-requires-clause-in_range t c =
    subst (HasTestsBelow c.args.diagrams.now.tests) c.in-Test.ensures.tree c.requires.term.in_range

pub derive-returns-in-Zero-clause-right : goal.derive-returns-in-Zero-clause-right
derive-returns-in-Zero-clause-right t c = c.requires.right

pub derive-returns-in-Zero-clause-kept : goal.derive-returns-in-Zero-clause-kept
derive-returns-in-Zero-clause-kept t c = Keeps-itself _ _

pub derive-returns-in-One-clause-right : goal.derive-returns-in-One-clause-right
derive-returns-in-One-clause-right t c = c.requires.right

pub derive-returns-in-One-clause-kept : goal.derive-returns-in-One-clause-kept
derive-returns-in-One-clause-kept t c = Keeps-itself _ _

pub derive-returns-in-Test-clause-steps : goal.derive-returns-in-Test-clause-steps
derive-returns-in-Test-clause-steps t c =
    subst (λ e. IfOk c.test_steps.result (IsDerivativeOf c.args.store.now c.test_steps.new.diagrams e)) (sym c.in-Test.ensures.tree) c.test_steps.ensures.steps

pub derive-returns-in-Test-clause-kept : goal.derive-returns-in-Test-clause-kept
derive-returns-in-Test-clause-kept t c = Keeps-functions c.args.store.now _ _ c.test_steps.ensures.kept

pub derive-returns-in-Test-clause-right : goal.derive-returns-in-Test-clause-right
derive-returns-in-Test-clause-right t c =
    AreRight-kept _ _ _ _ c.args.self.now (Keeps-functions c.args.store.now _ _ c.test_steps.ensures.kept) c.requires.right

pub derive-returns-in-Act-clause-steps : goal.derive-returns-in-Act-clause-steps
derive-returns-in-Act-clause-steps t c =
    subst (λ e. IfOk c.action_steps.result (IsDerivativeOf c.action_steps.new.store c.args.diagrams.now e)) (sym c.in-Act.ensures.tree) c.action_steps.ensures.steps

pub derive-returns-in-Act-clause-kept : goal.derive-returns-in-Act-clause-kept
derive-returns-in-Act-clause-kept t c = Keeps-trees _ _ c.args.diagrams.now c.action_steps.ensures.kept

pub derive-returns-in-Act-clause-right : goal.derive-returns-in-Act-clause-right
derive-returns-in-Act-clause-right t c =
    AreRight-kept _ _ _ _ c.args.self.now (Keeps-trees _ _ c.args.diagrams.now c.action_steps.ensures.kept) c.requires.right

pub derive-returns-in-Sum-clause-steps : goal.derive-returns-in-Sum-clause-steps
derive-returns-in-Sum-clause-steps t c =
    subst (λ e. IfOk c.derive_sum.result (IsDerivativeOf c.derive_sum.new.store c.derive_sum.new.diagrams e)) (sym c.in-Sum.ensures.tree) c.derive_sum.ensures.steps

pub derive-returns-in-Sum-clause-right : goal.derive-returns-in-Sum-clause-right
derive-returns-in-Sum-clause-right t c = c.derive_sum.ensures.right

pub derive-returns-in-Sum-clause-kept : goal.derive-returns-in-Sum-clause-kept
derive-returns-in-Sum-clause-kept t c = c.derive_sum.ensures.kept

pub derive-returns-in-Seq-clause-steps : goal.derive-returns-in-Seq-clause-steps
derive-returns-in-Seq-clause-steps t c =
    subst (λ e. IfOk c.derive_product.result (IsDerivativeOf c.derive_product.new.store c.derive_product.new.diagrams e)) (sym c.in-Seq.ensures.tree) c.derive_product.ensures.steps

pub derive-returns-in-Seq-clause-right : goal.derive-returns-in-Seq-clause-right
derive-returns-in-Seq-clause-right t c = c.derive_product.ensures.right

pub derive-returns-in-Seq-clause-kept : goal.derive-returns-in-Seq-clause-kept
derive-returns-in-Seq-clause-kept t c = c.derive_product.ensures.kept

pub derive-returns-in-Star-clause-steps : goal.derive-returns-in-Star-clause-steps
derive-returns-in-Star-clause-steps t c =
    subst (λ e. IfOk c.derive_star.result (IsDerivativeOf c.derive_star.new.store c.derive_star.new.diagrams e)) (sym c.in-Star.ensures.tree) c.derive_star.ensures.steps

pub derive-returns-in-Star-clause-right : goal.derive-returns-in-Star-clause-right
derive-returns-in-Star-clause-right t c = c.derive_star.ensures.right

pub derive-returns-in-Star-clause-kept : goal.derive-returns-in-Star-clause-kept
derive-returns-in-Star-clause-kept t c = c.derive_star.ensures.kept

pub derive_product-returns-in_err-first-clause-right : goal.derive_product-returns-in_err-first-clause-right
derive_product-returns-in_err-first-clause-right t c = c.in_err-first.ensures.right

pub derive_product-returns-in_err-first-clause-kept : goal.derive_product-returns-in_err-first-clause-kept
derive_product-returns-in_err-first-clause-kept t c = c.in_err-first.ensures.kept

pub derive_product-returns-in_err-second-clause-right : goal.derive_product-returns-in_err-second-clause-right
derive_product-returns-in_err-second-clause-right t c = c.in_err-second.ensures.right

pub derive_sum-returns-in_err-first-clause-right : goal.derive_sum-returns-in_err-first-clause-right
derive_sum-returns-in_err-first-clause-right t c = c.in_err-first.ensures.right

pub derive_sum-returns-in_err-first-clause-kept : goal.derive_sum-returns-in_err-first-clause-kept
derive_sum-returns-in_err-first-clause-kept t c = c.in_err-first.ensures.kept

pub derive_sum-returns-in_err-second-clause-right : goal.derive_sum-returns-in_err-second-clause-right
derive_sum-returns-in_err-second-clause-right t c = c.in_err-second.ensures.right

pub derive_product-product_steps-requires-clause-targets : goal.derive_product-product_steps-requires-clause-targets
derive_product-product_steps-requires-clause-targets t c =
    AreTargets-kept _ _ _ _ c.in_ok-second.ensures.kept c.in_ok-first.first.moves.items c.in_ok-first.ensures.steps.targets

pub derive_product-product_steps-requires-clause-second : goal.derive_product-product_steps-requires-clause-second
derive_product-product_steps-requires-clause-second t c = ids_of_steps _ _ _ _ _ c.in_ok-second.ensures.steps

pub derive_product-product_steps-requires-clause-tail : goal.derive_product-product_steps-requires-clause-tail
derive_product-product_steps-requires-clause-tail t c =
    IsTermOf-kept _ _ _ _ c.in_ok-second.ensures.kept c.args.f (IsTermOf-kept _ _ _ _ c.in_ok-first.ensures.kept c.args.f c.requires.second)

pub derive_sum-sum_steps-requires-clause-second : goal.derive_sum-sum_steps-requires-clause-second
derive_sum-sum_steps-requires-clause-second t c = ids_of_steps _ _ _ _ _ c.in_ok-second.ensures.steps

pub derive_star-returns-in_err-inner-clause-right : goal.derive_star-returns-in_err-inner-clause-right
derive_star-returns-in_err-inner-clause-right t c = c.in_err-inner.ensures.right

pub derive_star-returns-in_err-inner-clause-kept : goal.derive_star-returns-in_err-inner-clause-kept
derive_star-returns-in_err-inner-clause-kept t c = c.in_err-inner.ensures.kept

pub derive_star-star_steps-requires-clause-inner : goal.derive_star-star_steps-requires-clause-inner
derive_star-star_steps-requires-clause-inner t c = ids_of_steps _ _ _ _ _ c.in_ok-inner.ensures.steps

pub derive_star-star_steps-requires-clause-targets : goal.derive_star-star_steps-requires-clause-targets
derive_star-star_steps-requires-clause-targets t c = c.in_ok-inner.ensures.steps.targets

pub derive_star-star_steps-requires-clause-own : goal.derive_star-star_steps-requires-clause-own
derive_star-star_steps-requires-clause-own t c =
    IsTermOf-kept _ _ _ _ c.in_ok-inner.ensures.kept c.args.own c.requires.own

pub derive_star-returns-clause-steps : goal.derive_star-returns-clause-steps
derive_star-returns-clause-steps t c =
    star_derived c.star_steps.result _ _ _ _ _ _ c.args.e c.args.own c.in_ok-inner.inner c.in_ok-inner.ensures.kept c.requires.own.is_id c.requires.tree c.in_ok-inner.ensures.steps c.star_steps.ensures.steps

pub steps_of-returns-in_err-steps-clause-right : goal.steps_of-returns-in_err-steps-clause-right
steps_of-returns-in_err-steps-clause-right t c = c.requires.right

pub steps_of-returns-in_err-steps-clause-kept : goal.steps_of-returns-in_err-steps-clause-kept
steps_of-returns-in_err-steps-clause-kept t c = Keeps-itself _ _

pub steps_of-returns-in-Some-clause-right : goal.steps_of-returns-in-Some-clause-right
steps_of-returns-in-Some-clause-right t c = c.requires.right

pub steps_of-returns-in-Some-clause-kept : goal.steps_of-returns-in-Some-clause-kept
steps_of-returns-in-Some-clause-kept t c = Keeps-itself _ _

pub steps_of-returns-in_err-steps-2-clause-right : goal.steps_of-returns-in_err-steps-2-clause-right
steps_of-returns-in_err-steps-2-clause-right t c = c.in_err-steps-2.ensures.right

pub steps_of-returns-in_err-steps-2-clause-kept : goal.steps_of-returns-in_err-steps-2-clause-kept
steps_of-returns-in_err-steps-2-clause-kept t c = c.in_err-steps-2.ensures.kept

pub steps_of-returns-in_err-note-clause-kept : goal.steps_of-returns-in_err-note-clause-kept
steps_of-returns-in_err-note-clause-kept t c = c.in_ok-steps-2.ensures.kept

pub steps_of-returns-clause-steps : goal.steps_of-returns-clause-steps
steps_of-returns-clause-steps t c = c.in_ok-steps-2.ensures.steps

pub steps_of-returns-clause-kept : goal.steps_of-returns-clause-kept
steps_of-returns-clause-kept t c = c.in_ok-steps-2.ensures.kept

pub derive-derive_sum-requires : goal.derive-derive_sum-requires
derive-derive_sum-requires t c =
    let parts = c.in-Sum.ensures.parts in
    let range = subst (HasTestsBelow c.args.diagrams.now.tests) c.in-Sum.ensures.tree c.requires.term.in_range in (
      part_pair_falls _ _ c.args.term t c.decreases parts.0 parts.1,
      (
        record { is_id = earlier _ _ _ parts.0 c.requires.term.is_id; in_range = range.0 },
        (record { is_id = earlier _ _ _ parts.1 c.requires.term.is_id; in_range = range.1 }, c.requires.right),
      ),
    )

pub derive-derive_product-requires : goal.derive-derive_product-requires
derive-derive_product-requires t c =
    let parts = c.in-Seq.ensures.parts in
    let range = subst (HasTestsBelow c.args.diagrams.now.tests) c.in-Seq.ensures.tree c.requires.term.in_range in (
      part_pair_falls _ _ c.args.term t c.decreases parts.0 parts.1,
      (
        record { is_id = earlier _ _ _ parts.0 c.requires.term.is_id; in_range = range.0 },
        (record { is_id = earlier _ _ _ parts.1 c.requires.term.is_id; in_range = range.1 }, c.requires.right),
      ),
    )

pub derive-derive_star-requires : goal.derive-derive_star-requires
derive-derive_star-requires t c =
    let part = c.in-Star.ensures.parts in
    let range = subst (HasTestsBelow c.args.diagrams.now.tests) c.in-Star.ensures.tree c.requires.term.in_range in (
      part_falls _ c.args.term t c.decreases part,
      (record { is_id = earlier _ _ _ part c.requires.term.is_id; in_range = range }, (c.requires.term, (c.in-Star.ensures.tree, c.requires.right))),
    )

pub derive_product-steps_of-requires : goal.derive_product-steps_of-requires
derive_product-steps_of-requires t c = (first_falls c.args.e c.args.f t c.decreases, (c.requires.first, c.requires.right))

pub derive_product-steps_of-requires-2 : goal.derive_product-steps_of-requires-2
derive_product-steps_of-requires-2 t c =
    (second_falls c.args.e c.args.f t c.decreases, (IsTermOf-kept _ _ _ _ c.in_ok-first.ensures.kept c.args.f c.requires.second, c.in_ok-first.ensures.right))

pub derive_sum-steps_of-requires : goal.derive_sum-steps_of-requires
derive_sum-steps_of-requires t c = (first_falls c.args.e c.args.f t c.decreases, (c.requires.first, c.requires.right))

pub derive_sum-steps_of-requires-2 : goal.derive_sum-steps_of-requires-2
derive_sum-steps_of-requires-2 t c =
    (second_falls c.args.e c.args.f t c.decreases, (IsTermOf-kept _ _ _ _ c.in_ok-first.ensures.kept c.args.f c.requires.second, c.in_ok-first.ensures.right))

pub derive_star-steps_of-requires : goal.derive_star-steps_of-requires
derive_star-steps_of-requires t c = (only_falls c.args.e t c.decreases, (c.requires.inner, c.requires.right))

pub steps_of-derive-requires : goal.steps_of-derive-requires
steps_of-derive-requires t c = (own_falls c.args.term t c.decreases, (c.requires.term, c.requires.right))
