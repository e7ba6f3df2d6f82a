-- Terms in range: their tests, products as a step builds them, lists of terms, and balanced sums and products.
use Rattle.std.proofs.Common.{ℕ, zero as nought, suc, ◌≤◌, List, [], ◌∷◌, ◌++◌, arith}
use Rattle.kat_model.specs.Trees.{Term, zero, one, test, act, sum, product, star}
use Rattle.kat_model.specs.Problems.{IsInRange, AreInRange, HasTestsBelow}
use Rattle.kat_model.specs.Steps.{dot}
use Rattle.kat_model.specs.Balanced.{sum_of, product_of}
use Rattle.kat_model.specs.Closed.{actions_below, universal_of}
use Rattle.kat_model.proofs.BalancedTrees.{balanced_holds}

-- if a property of two terms holds for their product, it also holds for the product that a step builds
dot_holds : (P : Term → Type 0) → ((e f : Term) → P e → P f → P (product e f)) → (e f : Term) → P e → P f → P (dot e f)
dot_holds P two zero f p q = two zero f p q
dot_holds P two one f p q = q
dot_holds P two (test b) f p q = two (test b) f p q
dot_holds P two (act a) f p q = two (act a) f p q
dot_holds P two (sum e g) f p q = two (sum e g) f p q
dot_holds P two (product e g) f p q = two (product e g) f p q
dot_holds P two (star e) f p q = two (star e) f p q

pub HasTestsBelow-dot : (n : ℕ) (e f : Term) → HasTestsBelow n e → HasTestsBelow n f → HasTestsBelow n (dot e f)
HasTestsBelow-dot n = dot_holds (HasTestsBelow n) (λ e f p q. (p, q))

module _ (tests actions : ℕ) where
  pub IsInRange-dot : (e f : Term) → IsInRange tests actions e → IsInRange tests actions f → IsInRange tests actions (dot e f)
  IsInRange-dot = dot_holds (IsInRange tests actions) (λ e f p q. (p, q))

  pub IsInRange-HasTestsBelow : (e : Term) → IsInRange tests actions e → HasTestsBelow tests e
  IsInRange-HasTestsBelow zero r = tt
  IsInRange-HasTestsBelow one r = tt
  IsInRange-HasTestsBelow (test b) r = r
  IsInRange-HasTestsBelow (act a) r = tt
  IsInRange-HasTestsBelow (sum e f) r = (IsInRange-HasTestsBelow e r.0, IsInRange-HasTestsBelow f r.1)
  IsInRange-HasTestsBelow (product e f) r = (IsInRange-HasTestsBelow e r.0, IsInRange-HasTestsBelow f r.1)
  IsInRange-HasTestsBelow (star e) r = IsInRange-HasTestsBelow e r

  -- ---- lists

  pub AreInRange-append : (es fs : List Term) → AreInRange tests actions es → AreInRange tests actions fs → AreInRange tests actions (es ++ fs)
  AreInRange-append [] fs p q = q
  AreInRange-append (e ∷ es) fs p q = (p.0, AreInRange-append es fs p.1 q)

  pub AreInRange-append_left : (es fs : List Term) → AreInRange tests actions (es ++ fs) → AreInRange tests actions es
  AreInRange-append_left [] fs r = tt
  AreInRange-append_left (e ∷ es) fs r = (r.0, AreInRange-append_left es fs r.1)

  pub AreInRange-append_right : (es fs : List Term) → AreInRange tests actions (es ++ fs) → AreInRange tests actions fs
  AreInRange-append_right [] fs r = r
  AreInRange-append_right (e ∷ es) fs r = AreInRange-append_right es fs r.1

  -- ---- balanced sums and products, and the universal term

  pub IsInRange-sum_of : (es : List Term) → AreInRange tests actions es → IsInRange tests actions (sum_of es)
  IsInRange-sum_of es =
      balanced_holds zero sum (λ fs e. AreInRange tests actions fs → IsInRange tests actions e) (λ r. tt) (λ e r. r.0)
      (λ es fs e f p q r. (p (AreInRange-append_left es fs r), q (AreInRange-append_right es fs r)))
      es

  pub IsInRange-product_of : (es : List Term) → AreInRange tests actions es → IsInRange tests actions (product_of es)
  IsInRange-product_of es =
      balanced_holds one product (λ fs e. AreInRange tests actions fs → IsInRange tests actions e) (λ r. tt) (λ e r. r.0)
      (λ es fs e f p q r. (p (AreInRange-append_left es fs r), q (AreInRange-append_right es fs r)))
      es

  pub AreInRange-actions_below : (n : ℕ) → n ≤ actions → AreInRange tests actions (actions_below n)
  AreInRange-actions_below nought le = tt
  AreInRange-actions_below (suc n) le = AreInRange-append (actions_below n) (act n ∷ []) (AreInRange-actions_below n (omega arith)) (omega arith, tt)

  pub IsInRange-universal_of : IsInRange tests actions (universal_of actions)
  IsInRange-universal_of = IsInRange-sum_of (actions_below actions) (AreInRange-actions_below actions (omega arith))
