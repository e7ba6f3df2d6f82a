-- The nodes that a node names, as a list and by cases.
use Rattle.std.proofs.Common.{◌≡◌, ℕ, ◌<◌, ◌≤◌, inl, inr, ⊎_elim, List, [], ◌∷◌, true, nat_lt, ltb-true, subst, refl, arith}
use Rattle.std.proofs.lemmas.Bool.{lt-ltb}
use Rattle.kat_model.specs.Members.{Has}
use Rattle.kat_model.proofs.Lists.{has_all, all_has}
use Rattle.term_nodes.specs.declared.TestNode.{TestNode}
use Rattle.term_nodes.specs.declared.TestNode.TheVariants.{False, True, Prim, Not, And, Or}
use Rattle.term_nodes.specs.declared.TermNode.{TermNode}
use Rattle.term_nodes.specs.declared.TermNode.TheVariants.{Zero, One, Test, Act, Sum, Seq, Star}
use Rattle.term_nodes.specs.Nodes.{IsTestOver, IsOver, test_parts, term_parts, tests_of_term}
use Rattle.term_nodes.specs.NumberSets.{are_below}

-- ---- a larger bound

pub IsTestOver-more : (k n : ℕ) (node : TestNode ℕ) → k ≤ n → IsTestOver k node → IsTestOver n node
IsTestOver-more k n False le over = tt
IsTestOver-more k n True le over = tt
IsTestOver-more k n (Prim i) le over = tt
IsTestOver-more k n (Not i) le over = omega arith
IsTestOver-more k n (And i j) le over = (omega (arith, over.0, le), omega (arith, over.1, le))
IsTestOver-more k n (Or i j) le over = (omega (arith, over.0, le), omega (arith, over.1, le))

pub IsOver-more : (j m k n : ℕ) (node : TermNode ℕ ℕ) → j ≤ m → k ≤ n → IsOver j k node → IsOver m n node
IsOver-more j m k n Zero ge le over = tt
IsOver-more j m k n One ge le over = tt
IsOver-more j m k n (Test x) ge le over = omega arith
IsOver-more j m k n (Act a) ge le over = tt
IsOver-more j m k n (Sum x y) ge le over = (omega (arith, over.0, le), omega (arith, over.1, le))
IsOver-more j m k n (Seq x y) ge le over = (omega (arith, over.0, le), omega (arith, over.1, le))
IsOver-more j m k n (Star x) ge le over = omega arith

-- ---- each part that is listed

one_part : {n x k : ℕ} → x < n → Has (x ∷ []) k → k < n
one_part {n} low h = ⊎_elim (λ e. subst (λ z. z < n) e low) absurd h

two_parts : {n x y k : ℕ} → x < n → y < n → Has (x ∷ y ∷ []) k → k < n
two_parts {n} low also h = ⊎_elim (λ e. subst (λ z. z < n) e low) (one_part also) h

pub IsTestOver-part : (n : ℕ) (node : TestNode ℕ) → IsTestOver n node → (k : ℕ) → Has (test_parts node) k → k < n
IsTestOver-part n False over k h = absurd h
IsTestOver-part n True over k h = absurd h
IsTestOver-part n (Prim i) over k h = absurd h
IsTestOver-part n (Not i) over k h = one_part over h
IsTestOver-part n (And i j) over k h = two_parts over.0 over.1 h
IsTestOver-part n (Or i j) over k h = two_parts over.0 over.1 h

pub IsOver-part : (m n : ℕ) (node : TermNode ℕ ℕ) → IsOver m n node → (k : ℕ) → Has (term_parts node) k → k < n
IsOver-part m n Zero over k h = absurd h
IsOver-part m n One over k h = absurd h
IsOver-part m n (Test x) over k h = absurd h
IsOver-part m n (Act a) over k h = absurd h
IsOver-part m n (Sum x y) over k h = two_parts over.0 over.1 h
IsOver-part m n (Seq x y) over k h = two_parts over.0 over.1 h
IsOver-part m n (Star x) over k h = one_part over h

pub IsOver-test : (m n : ℕ) (node : TermNode ℕ ℕ) → IsOver m n node → (k : ℕ) → Has (tests_of_term node) k → k < m
IsOver-test m n Zero over k h = absurd h
IsOver-test m n One over k h = absurd h
IsOver-test m n (Test x) over k h = one_part over h
IsOver-test m n (Act a) over k h = absurd h
IsOver-test m n (Sum x y) over k h = absurd h
IsOver-test m n (Seq x y) over k h = absurd h
IsOver-test m n (Star x) over k h = absurd h

-- if each part is below n, the node is over n
pub parts-IsTestOver : (n : ℕ) (node : TestNode ℕ) → ((k : ℕ) → Has (test_parts node) k → k < n) → IsTestOver n node
parts-IsTestOver n False each = tt
parts-IsTestOver n True each = tt
parts-IsTestOver n (Prim i) each = tt
parts-IsTestOver n (Not i) each = each i (inl refl)
parts-IsTestOver n (And i j) each = (each i (inl refl), each j (inr (inl refl)))
parts-IsTestOver n (Or i j) each = (each i (inl refl), each j (inr (inl refl)))

pub parts-IsOver : (m n : ℕ) (node : TermNode ℕ ℕ) → ((k : ℕ) → Has (tests_of_term node) k → k < m) → ((k : ℕ) → Has (term_parts node) k → k < n) → IsOver m n node
parts-IsOver m n Zero tests each = tt
parts-IsOver m n One tests each = tt
parts-IsOver m n (Test x) tests each = tests x (inl refl)
parts-IsOver m n (Act a) tests each = tt
parts-IsOver m n (Sum x y) tests each = (each x (inl refl), each y (inr (inl refl)))
parts-IsOver m n (Seq x y) tests each = (each x (inl refl), each y (inr (inl refl)))
parts-IsOver m n (Star x) tests each = each x (inl refl)

-- ---- lists of numbers below n

pub below_has : (n : ℕ) (ks : List ℕ) → are_below n ks ≡ true → (k : ℕ) → Has ks k → k < n
below_has n ks e k h = ltb-true k n (has_all (λ j. nat_lt j n) ks e k h)

pub has_below : (n : ℕ) (ks : List ℕ) → ((k : ℕ) → Has ks k → k < n) → are_below n ks ≡ true
has_below n ks each = all_has (λ j. nat_lt j n) ks (λ k h. lt-ltb k n (each k h))

pub below_more : (m n : ℕ) (ks : List ℕ) → m ≤ n → are_below m ks ≡ true → are_below n ks ≡ true
below_more m n ks le e = has_below n ks (λ k h. let low = below_has m ks e k h in omega (arith, low, le))
