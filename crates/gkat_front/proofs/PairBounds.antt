-- The bound of guarded pairs fits its type.
use Rattle.std.proofs.Common.{◌≡◌, ℕ, ◌+◌, ◌*◌, ◌^◌, ◌<◌, ◌≤◌, Bool, true, nat_eq, List, [], ◌∷◌, length, map, sym, ap, ◌∙◌, arith}
use Rattle.std.proofs.lemmas.Bool.{eqb-true}
use Rattle.std.proofs.Math.Nat.{mul-le-mul_left}
use Rattle.kat_model.specs.declared.limits.TheConstants.{MAX_TERM_NODES}
use Rattle.kat_model.specs.Trees.{Term, zero, one, test, act, sum, product, star, term_size, acts, kat_tree}
use Rattle.kat_model.specs.declared.tree.Kat.{Kat}
use Rattle.kat_model.specs.Problems.{ProblemParts, IsProblem, counted}

acts_within : (e : Term) → acts e ≤ term_size e
acts_within zero = omega arith
acts_within one = omega arith
acts_within (test b) = omega arith
acts_within (act a) = omega arith
acts_within (sum e f) = omega (arith, acts_within e, acts_within f)
acts_within (product e f) = omega (arith, acts_within e, acts_within f)
acts_within (star e) = omega (arith, acts_within e)

-- the count of the actions of a side is exact
pub record IsCounted (n : ℕ) (e : Term) : Type 0 where
  pub whole : n ≡ acts e
  pub small : n ≤ MAX_TERM_NODES

pub left_counted : (q : ProblemParts) (e : Term) (n : ℕ) → IsProblem q → e ≡ q.left → n ≡ counted (acts e) → IsCounted n q.left
left_counted q e n h same is =
    let few : acts q.left ≤ MAX_TERM_NODES = omega (arith, acts_within q.left, h.size) in
    record { whole = omega (arith, is, ap acts same); small = omega (arith, is, ap acts same) }

pub right_counted : (q : ProblemParts) (e : Term) (n : ℕ) → IsProblem q → e ≡ q.right → n ≡ counted (acts e) → IsCounted n q.right
right_counted q e n h same is =
    let few : acts q.right ≤ MAX_TERM_NODES = omega (arith, acts_within q.right, h.size) in
    record { whole = omega (arith, is, ap acts same); small = omega (arith, is, ap acts same) }

-- no hypothesis is stated
pub none_stated : (hyps : List Kat) (es : List Term) (none : Bool) → none ≡ true → none ≡ nat_eq (length hyps) 0 → map kat_tree hyps ≡ es → es ≡ []
none_stated [] es none given is same = sym same
none_stated (h ∷ hyps) es none given is same = absurd (omega (arith, eqb-true (length (h ∷ hyps)) 0 (sym is ∙ given)))

pub bound_fits : (m n : ℕ) → m ≤ MAX_TERM_NODES → n ≤ MAX_TERM_NODES → (m + 2) * (n + 2) < 2 ^ 64
bound_fits m n h k =
    let more : n + 2 ≤ MAX_TERM_NODES + 2 = omega arith in
    omega (arith, mul-le-mul_left (m + 2) more)
