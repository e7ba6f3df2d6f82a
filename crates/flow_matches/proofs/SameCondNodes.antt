-- The trees of nodes of conditions are the same exactly if the nodes are the same.
use Rattle.std.proofs.Common.{◌≡◌, ◌⊎◌, inl, inr, ℕ, zero, suc, ◌+◌, ◌-◌, ◌^◌, ◌≤◌, ◌<◌, Bool, true, false, ◌&&◌, List, [], ◌∷◌, length, drop, map, refl, sym, ◌∙◌, ap, arith}
use Rattle.std.proofs.lemmas.Bool.{false≢true}
use Rattle.kat_model.specs.Problems.{counted}
use Rattle.flow_model.specs.declared.graph.CondNode.{CondNode}
use Rattle.flow_model.specs.declared.graph.CondNode.TheVariants.{Always, Never, Compared, ComparedSigned, Negation, Both, Either}
use Rattle.flow_model.specs.Conditions.{CondTree}
use Rattle.flow_model.specs.Polish.{first_cond, other_conds, cond_part, with_part, conds_of, cond_of}
use Rattle.flow_places.specs.Reads.{with_conditions}
use Rattle.flow_places.proofs.NodeReads.{counted_cases, conds_within}
use Rattle.flow_pieces.specs.SameTrees.{is_same_cond}
use Rattle.flow_matches.specs.Working.SameNodes.{is_same_cond_node, is_always, are_empty, is_same_cond_at, with_first_conditions, same_cond_nodes}
use Rattle.flow_matches.proofs.SameNodes.{and_assoc, and_true}

-- whether the first k conditions are the same
abbrev first_same : ℕ → List CondTree → List CondTree → Bool
first_same zero bs cs = true
first_same (suc k) bs cs = is_same_cond (first_cond bs) (first_cond cs) && first_same k (other_conds bs) (other_conds cs)

none_same : (k : ℕ) → first_same k [] [] ≡ true
none_same zero = refl
none_same (suc k) = none_same k

same_count : (j k : ℕ) (bs cs : List CondTree) → j ≡ k → first_same j bs cs ≡ first_same k bs cs
same_count j k bs cs e = ap (λ n. first_same n bs cs) e

two_same : (k : ℕ) (bs cs : List CondTree) →
    ((is_same_cond (first_cond bs) (first_cond cs) && is_same_cond (first_cond (other_conds bs)) (first_cond (other_conds cs))) && first_same k (other_conds (other_conds bs)) (other_conds (other_conds cs))) ≡ first_same (k + 2) bs cs
two_same k bs cs =
    and_assoc (is_same_cond (first_cond bs) (first_cond cs)) (is_same_cond (first_cond (other_conds bs)) (first_cond (other_conds cs))) (first_same k (other_conds (other_conds bs)) (other_conds (other_conds cs)))
    ∙ same_count (suc (suc k)) (k + 2) bs cs (omega arith)

-- nodes over their operands, before other conditions
node_same : (k : ℕ) (m n : CondNode) (bs cs : List CondTree) → first_same (suc k) (with_part (cond_part m) bs) (with_part (cond_part n) cs) ≡ (is_same_cond_node m n && first_same (with_conditions m k) bs cs)
node_same k Always Always bs cs = refl
node_same k Never Never bs cs = refl
node_same k (Compared r e f) (Compared s g h) bs cs = refl
node_same k (ComparedSigned r v e f) (ComparedSigned s w g h) bs cs = refl
node_same k Negation Negation bs cs = same_count (suc k) (k + 1) bs cs (omega arith)
node_same k Both Both bs cs = two_same k bs cs
node_same k Either Either bs cs = two_same k bs cs
node_same k _ _ bs cs = refl

-- more conditions than there are are the same
others_within : (bs : List CondTree) (k : ℕ) → length bs ≤ suc k → length (other_conds bs) ≤ k
others_within [] k h = omega arith
others_within (b ∷ bs) k h = omega (arith, h)

enough_none : (k : ℕ) (bs cs : List CondTree) → length bs ≤ 0 → length cs ≤ 0 → first_same k bs cs ≡ true
enough_none k [] [] p q = none_same k
enough_none k (b ∷ bs) cs p q = absurd (omega (arith, p))
enough_none k [] (c ∷ cs) p q = absurd (omega (arith, q))

enough : (j k : ℕ) (bs cs : List CondTree) → length bs ≤ j → length cs ≤ j → length bs ≤ k → length cs ≤ k → first_same j bs cs ≡ first_same k bs cs
enough zero k bs cs p q r s = sym (enough_none k bs cs p q)
enough (suc j) zero bs cs p q r s = enough_none (suc j) bs cs r s
enough (suc j) (suc k) bs cs p q r s =
    ap (λ a. is_same_cond (first_cond bs) (first_cond cs) && a)
    (enough j k (other_conds bs) (other_conds cs) (others_within bs j p) (others_within cs j q) (others_within bs k r) (others_within cs k s))

counted_same : (k : ℕ) (bs cs : List CondTree) → length bs ≤ 2 ^ 64 - 1 → length cs ≤ 2 ^ 64 - 1 → first_same k bs cs ≡ first_same (counted k) bs cs
counted_same k bs cs p q = by_order (counted_cases k)
  where
    by_order : (counted k ≡ k) ⊎ ((counted k ≡ 2 ^ 64 - 1) × (2 ^ 64 - 1 ≤ k)) → first_same k bs cs ≡ first_same (counted k) bs cs
    by_order (inl e) = same_count k (counted k) bs cs (sym e)
    by_order (inr h) =
        enough k (counted k) bs cs (omega (arith, p, h.1)) (omega (arith, q, h.1)) (omega (arith, p, h.0)) (omega (arith, q, h.0))

-- a node against a condition that has no node
node_none : (k : ℕ) (n : CondNode) (bs : List CondTree) → first_same (suc k) (with_part (cond_part n) bs) [] ≡ (is_always n && first_same k bs [])
node_none k Always bs = refl
node_none k Never bs = refl
node_none k (Compared r e f) bs = refl
node_none k (ComparedSigned r w e f) bs = refl
node_none k Negation bs = refl
node_none k Both bs = refl
node_none k Either bs = refl

none_node : (k : ℕ) (n : CondNode) (bs : List CondTree) → first_same (suc k) [] (with_part (cond_part n) bs) ≡ (is_always n && first_same k [] bs)
none_node k Always bs = refl
none_node k Never bs = refl
none_node k (Compared r e f) bs = refl
none_node k (ComparedSigned r w e f) bs = refl
none_node k Negation bs = refl
none_node k Both bs = refl
none_node k Either bs = refl

nodes_same : (k : ℕ) (ms ns : List CondNode) → length ms ≤ 2 ^ 64 - 1 → length ns ≤ 2 ^ 64 - 1 → same_cond_nodes k ms ns ≡ first_same k (conds_of (map cond_part ms)) (conds_of (map cond_part ns))
nodes_same zero ms ns p q = refl
nodes_same (suc k) [] [] p q = sym (none_same (suc k))
nodes_same (suc k) [] (n ∷ ns) p q =
    ap (λ b. is_always n && b) (nodes_same k [] ns p (omega (arith, q))) ∙ sym (none_node k n (conds_of (map cond_part ns)))
nodes_same (suc k) (m ∷ ms) [] p q =
    ap (λ b. is_always m && b) (nodes_same k ms [] (omega (arith, p)) q) ∙ sym (node_none k m (conds_of (map cond_part ms)))
nodes_same (suc k) (m ∷ ms) (n ∷ ns) p q =
    ap (λ b. is_same_cond_node m n && b)
    (nodes_same (counted (with_conditions m k)) ms ns (omega (arith, p)) (omega (arith, q))
    ∙ sym (counted_same (with_conditions m k) (conds_of (map cond_part ms)) (conds_of (map cond_part ns)) (omega (arith, p, conds_within ms)) (omega (arith, q, conds_within ns))))
    ∙ sym (node_same k m n (conds_of (map cond_part ms)) (conds_of (map cond_part ns)))

pub conds_same : (ms ns : List CondNode) → length ms ≤ 2 ^ 64 - 1 → length ns ≤ 2 ^ 64 - 1 → same_cond_nodes 1 ms ns ≡ is_same_cond (cond_of ms) (cond_of ns)
conds_same ms ns p q = nodes_same 1 ms ns p q ∙ and_true (is_same_cond (cond_of ms) (cond_of ns))

-- ---- the loop over nodes

none_nodes : (k : ℕ) → same_cond_nodes k [] [] ≡ true
none_nodes zero = refl
none_nodes (suc k) = refl

pub next_same : (pending : ℕ) (left others : List CondNode) (all : Bool) → (pending ≡ 0 → ⊥) → is_same_cond_at left others ≡ true →
    same_cond_nodes pending left others ≡ all → same_cond_nodes (with_first_conditions left others (pending - 1)) (drop 1 left) (drop 1 others) ≡ all
next_same zero left others all some e so_far = absurd (some refl)
next_same (suc k) [] [] all some e so_far = none_nodes (suc k - 1) ∙ so_far
next_same (suc k) [] (n ∷ ns) all some e so_far =
    let less : suc k - 1 ≡ k = omega arith in
    ap (λ i. same_cond_nodes i [] ns) less ∙ sym (ap (λ b. b && same_cond_nodes k [] ns) e) ∙ so_far
next_same (suc k) (m ∷ ms) [] all some e so_far =
    let less : suc k - 1 ≡ k = omega arith in
    ap (λ i. same_cond_nodes i ms []) less ∙ sym (ap (λ b. b && same_cond_nodes k ms []) e) ∙ so_far
next_same (suc k) (m ∷ ms) (n ∷ ns) all some e so_far =
    let less : suc k - 1 ≡ k = omega arith in
    ap (λ i. same_cond_nodes (counted (with_conditions m i)) ms ns) less
    ∙ sym (ap (λ b. b && same_cond_nodes (counted (with_conditions m k)) ms ns) e)
    ∙ so_far

pub next_differs : (pending : ℕ) (left others : List CondNode) (all : Bool) → (pending ≡ 0 → ⊥) → is_same_cond_at left others ≡ false → same_cond_nodes pending left others ≡ all → false ≡ all
next_differs zero left others all some e so_far = absurd (some refl)
next_differs (suc k) [] [] all some e so_far = absurd (false≢true (sym e))
next_differs (suc k) [] (n ∷ ns) all some e so_far = sym (ap (λ b. b && same_cond_nodes k [] ns) e) ∙ so_far
next_differs (suc k) (m ∷ ms) [] all some e so_far = sym (ap (λ b. b && same_cond_nodes k ms []) e) ∙ so_far
next_differs (suc k) (m ∷ ms) (n ∷ ns) all some e so_far =
    sym (ap (λ b. b && same_cond_nodes (counted (with_conditions m k)) ms ns) e) ∙ so_far

pub none_pending : (pending : ℕ) (left others : List CondNode) (all : Bool) → pending ≡ 0 → same_cond_nodes pending left others ≡ all → true ≡ all
none_pending pending left others all e so_far = sym (ap (λ k. same_cond_nodes k left others) e) ∙ so_far

pub none_left : (pending : ℕ) (left others : List CondNode) (all : Bool) → are_empty left others ≡ true → same_cond_nodes pending left others ≡ all → true ≡ all
none_left pending [] [] all e so_far = sym (none_nodes pending) ∙ so_far
none_left pending [] (n ∷ ns) all e so_far = absurd (false≢true e)
none_left pending (m ∷ ms) others all e so_far = absurd (false≢true e)

pub fewer_left : (left others : List CondNode) → are_empty left others ≡ false → length (drop 1 left) + length (drop 1 others) < length left + length others
fewer_left [] [] e = absurd (false≢true (sym e))
fewer_left [] (n ∷ ns) e = omega arith
fewer_left (m ∷ ms) [] e = omega arith
fewer_left (m ∷ ms) (n ∷ ns) e = omega arith
