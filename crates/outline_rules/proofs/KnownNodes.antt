-- Equality of nodes, and the order of the nodes in a set.
use Rattle.std.proofs.Common.{◌≡◌, ℕ, true, ◌&&◌, eqb, refl, ap, eqb-true, eq-eqb}
use Rattle.std.specs.declared.cmp.Ordering.TheVariants.{Equal}
use Rattle.std.specs.Ordering.{nat_cmp, ordering_then}
use Rattle.std.proofs.lemmas.Bool.{and_parts}
use Rattle.std.proofs.lemmas.Map.Lookups.{exact_unsigned, exact_pairs}
use Rattle.outline_rules.specs.declared.notes.NoteNode.{NoteNode}
use Rattle.outline_rules.specs.declared.notes.NoteNode.TheVariants.{False, True, Branch}
use Rattle.outline_rules.specs.Faults.{same_node}

branch_equal : (k l x y z w : ℕ) → (eqb k l && (eqb x z && eqb y w)) ≡ true → Branch k x y ≡ Branch l z w
branch_equal k l x y z w e =
    let p = and_parts (eqb k l) (eqb x z && eqb y w) e in
    let q = and_parts (eqb x z) (eqb y w) p.1 in
    let a : k ≡ l = eqb-true k l p.0 in
    let b : x ≡ z = eqb-true x z q.0 in
    let d : y ≡ w = eqb-true y w q.1 in
    cc

pub same_node_equal : (m n : NoteNode) → same_node m n ≡ true → m ≡ n
same_node_equal False False e = refl
same_node_equal True True e = refl
same_node_equal (Branch k x y) (Branch l z w) e = branch_equal k l x y z w e
same_node_equal m n e = cc

pub node_same_itself : (n : NoteNode) → same_node n n ≡ true
node_same_itself False = refl
node_same_itself True = refl
node_same_itself (Branch k x y) = rw (eq-eqb k k refl, eq-eqb x x refl, eq-eqb y y refl) refl

pub branch_exact : (k l x y z w : ℕ) → ordering_then (nat_cmp k l) (ordering_then (nat_cmp x z) (nat_cmp y w)) ≡ Equal → Branch k x y ≡ Branch l z w
branch_exact k l x y z w e =
    ap (λ (p : ℕ × (ℕ × ℕ)). Branch p.0 p.1.0 p.1.1)
    (exact_pairs nat_cmp (λ (p q : ℕ × ℕ). ordering_then (nat_cmp p.0 q.0) (nat_cmp p.1 q.1)) exact_unsigned (exact_pairs nat_cmp nat_cmp exact_unsigned exact_unsigned) (k, (x, y)) (l, (z, w)) e)
