-- Ascending lists of numbers with the same members are equal, so a listed pair is found by its numbers.
use Rattle.std.proofs.Common.{◌≡◌, ◌↔◌, ℕ, ◌<◌, inl, inr, ⊎_elim, List, [], ◌∷◌, length, refl, sym, subst, arith, true, nat_eq}
use mathlib.Core.Path.{ap₂}
use Rattle.std.specs.Cmp.Lexicographic.{pointwise}
use Rattle.std.proofs.lemmas.Bool.{and_parts, and_from, eqb-true, eq-eqb}
use Rattle.kat_model.specs.Members.{Has, SameMembers}
use Rattle.kat_model.proofs.Lists.{has_map, map_has}
use Rattle.term_nodes.specs.NumberSets.{are_below, are_ascending, terms_of}
use Rattle.certificate.proofs.Ascending.{ascending_tail, ascending_first}
use Rattle.term_nodes.proofs.Parts.{below_has}
use Rattle.cert_checker.specs.NodeTables.{TableParts, AreTables, term_at, nodes_in}
use Rattle.term_nodes.proofs.TermTrees.{one_id_a_tree}

-- lists of numbers that agree at each place are equal
pub same_pointwise : (ks ls : List ℕ) → pointwise nat_eq ks ls ≡ true → ks ≡ ls
same_pointwise [] [] e = refl
same_pointwise [] (l ∷ ls) e = absurd cc
same_pointwise (k ∷ ks) [] e = absurd cc
same_pointwise (k ∷ ks) (l ∷ ls) e =
    let parts = and_parts (nat_eq k l) (pointwise nat_eq ks ls) e in
    ap₂ (λ (z : ℕ) (zs : List ℕ). z ∷ zs) (eqb-true k l parts.0) (same_pointwise ks ls parts.1)

pub pointwise_itself : (ks : List ℕ) → pointwise nat_eq ks ks ≡ true
pointwise_itself [] = refl
pointwise_itself (k ∷ ks) = and_from (nat_eq k k) (pointwise nat_eq ks ks) (eq-eqb k k refl) (pointwise_itself ks)

ascending_same : (ks ls : List ℕ) → are_ascending ks ≡ true → are_ascending ls ≡ true → ((k : ℕ) → Has ks k ↔ Has ls k) → ks ≡ ls
ascending_same [] [] a b same = refl
ascending_same [] (y ∷ ls) a b same = absurd ((same y).1 (inl refl))
ascending_same (x ∷ ks) [] a b same = absurd ((same x).0 (inl refl))
ascending_same (x ∷ ks) (y ∷ ls) a b same =
    let one : x ≡ y = head in
    ap₂ (λ (z : ℕ) (zs : List ℕ). z ∷ zs) one
    (ascending_same ks ls (ascending_tail x ks a) (ascending_tail y ls b)
    (λ k. (
      (λ h. ⊎_elim (λ s. let above : x < k = ascending_first x ks a k h in absurd (omega (arith, one, s))) (λ r. r) ((same k).0 (inr h))),
      (λ h. ⊎_elim (λ s. let above : y < k = ascending_first y ls b k h in absurd (omega (arith, one, s))) (λ r. r) ((same k).1 (inr h))),
    )))
  where
    head : x ≡ y
    head =
        ⊎_elim sym
        (λ r. ⊎_elim (λ s. s) (λ q. let up : y < x = ascending_first y ls b x r in let down : x < y = ascending_first x ks a y q in absurd (omega arith)) ((same y).1 (inl refl)))
        ((same x).0 (inl refl))

-- sets of numbers with the same terms are equal
module _ (t : TableParts) (are : AreTables t) where
  number_has : (ks ls : List ℕ) → are_below (length t.terms) ks ≡ true → are_below (length t.terms) ls ≡ true → SameMembers (terms_of (nodes_in t) ks) (terms_of (nodes_in t) ls) → (k : ℕ) → Has ks k → Has ls k
  number_has ks ls low lower same k h =
      let f = has_map (term_at t) ls (term_at t k) ((same (term_at t k)).0 (map_has (term_at t) ks k h)) in
      subst (Has ls) (one_id_a_tree (nodes_in t) are.rules f.0 k (below_has (length t.terms) ls lower f.0 f.1) (below_has (length t.terms) ks low k h) f.2) f.1

  pub same_numbers : (ks ls : List ℕ) → are_below (length t.terms) ks ≡ true → are_below (length t.terms) ls ≡ true → are_ascending ks ≡ true → are_ascending ls ≡ true → SameMembers (terms_of (nodes_in t) ks) (terms_of (nodes_in t) ls) → ks ≡ ls
  same_numbers ks ls low lower a b same =
      ascending_same ks ls a b (λ k. (number_has ks ls low lower same k, number_has ls ks lower low (λ x. ((same x).1, (same x).0)) k))
