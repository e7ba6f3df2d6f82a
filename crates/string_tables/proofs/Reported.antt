-- Unions, products and closures of relations that matrices represent.
use Rattle.std.proofs.Common.{◌≡◌, ℕ, zero, suc, ◌<◌, ◌≤◌, Bool, ◌&&◌, ◌||◌, eqb, refl, ap, ◌∙◌, arith}
use mathlib.Core.Path.{ap₂}
use Rattle.kat_model.specs.Working.Decided.{some_below, warshall}
use Rattle.string_tables.specs.Working.Matrices.{Square, entry, Represents}

pub some_below_same : (p q : ℕ → Bool) (n : ℕ) → ((k : ℕ) → k < n → p k ≡ q k) → some_below p n ≡ some_below q n
some_below_same p q zero same = refl
some_below_same p q (suc n) same = ap₂ ◌||◌ (same n (omega arith)) (some_below_same p q n (λ k lt. same k (omega arith)))

through_now_same : (r q : ℕ → ℕ → Bool) (n k : ℕ) → k ≤ n → ((i j : ℕ) → i < n → j < n → r i j ≡ q i j) → (i j : ℕ) → i < n → j < n → warshall r k i j ≡ warshall q k i j
through_now_same r q n zero le same i j li lj = ap (λ b. eqb i j || b) (same i j li lj)
through_now_same r q n (suc k) le same i j li lj =
    let lk : k < n = omega arith in
    let less : k ≤ n = omega arith in
    ap₂ ◌||◌ (through_now_same r q n k less same i j li lj)
    (ap₂ ◌&&◌ (through_now_same r q n k less same i k li lk) (through_now_same r q n k less same k j lk lj))

pub union_given : (n : ℕ) (r q : ℕ → ℕ → Bool) (a b m : Square) → Represents n a r → Represents n b q → Represents n m (λ i j. entry a i j || entry b i j) → Represents n m (λ i j. r i j || q i j)
union_given n r q a b m left right given i j li lj = given i j li lj ∙ ap₂ ◌||◌ (left i j li lj) (right i j li lj)

pub product_given : (n : ℕ) (r q : ℕ → ℕ → Bool) (a b m : Square) → Represents n a r → Represents n b q → Represents n m (λ i j. some_below (λ k. entry a i k && entry b k j) n) → Represents n m (λ i j. some_below (λ k. r i k && q k j) n)
product_given n r q a b m left right given i j li lj =
    given i j li lj ∙ some_below_same _ _ n (λ k lk. ap₂ ◌&&◌ (left i k li lk) (right k j lk lj))

pub closure_given : (n : ℕ) (r : ℕ → ℕ → Bool) (a m : Square) → Represents n a r → Represents n m (warshall (entry a) n) → Represents n m (warshall r n)
closure_given n r a m part given i j li lj = given i j li lj ∙ through_now_same (entry a) r n n (omega arith) part i j li lj
