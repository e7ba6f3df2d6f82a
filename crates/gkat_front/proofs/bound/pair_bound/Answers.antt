use Rattle.std.proofs.Common.{◌+◌, ◌*◌, refl, subst, arith}
use mathlib.Core.Path.{ap₂}
use Rattle.kat_model.specs.Guarded.{IsGuarded}
use Rattle.gkat_front.proofs.PairBounds.{left_counted, right_counted, none_stated, bound_fits}
use Rattle.gkat_front.proofs.bound.pair_bound.Goals as goal

pub overflow_add-result : goal.overflow_add-result
overflow_add-result c = omega (arith, (left_counted c.args.problem.now _ _ c.left-left.ensures.within c.left-left.ensures.value c.acts.ensures).small)

pub overflow_add-result-then-guarded-2 : goal.overflow_add-result-then-guarded-2
overflow_add-result-then-guarded-2 c = omega (arith, (right_counted c.args.problem.now _ _ c.left-left.ensures.within c.right-right.ensures.value c.acts-then-guarded-2.ensures).small)

pub overflow_mul-result : goal.overflow_mul-result
overflow_mul-result c = record {
  fits = bound_fits c.acts.result c.acts-then-guarded-2.result
      (left_counted c.args.problem.now _ _ c.left-left.ensures.within c.left-left.ensures.value c.acts.ensures).small
      (right_counted c.args.problem.now _ _ c.left-left.ensures.within c.right-right.ensures.value c.acts-then-guarded-2.ensures).small;
}

pub returns-then-guarded-2 : goal.returns-then-guarded-2
returns-then-guarded-2 c = (
  (
    none_stated c.hyps.result.now c.args.problem.now.hyps c.is_empty.result c.if-is_empty.true c.is_empty.ensures c.hyps.ensures.value,
    subst IsGuarded c.left-left.ensures.value (c.if-guarded.ensures.0 refl),
    subst IsGuarded c.right-right.ensures.value (c.if-guarded-2.ensures.0 refl),
  ),
  ap₂ (λ m n. (m + 2) * (n + 2))
      (left_counted c.args.problem.now _ _ c.left-left.ensures.within c.left-left.ensures.value c.acts.ensures).whole
      (right_counted c.args.problem.now _ _ c.left-left.ensures.within c.right-right.ensures.value c.acts-then-guarded-2.ensures).whole,
)
