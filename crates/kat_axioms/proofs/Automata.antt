-- The sums over the paths of the pairs that strings lead to. A term equals what these paths reach where its side of a
-- pair accepts.
use Rattle.std.proofs.Common.{◌≡◌, ◌<◌, ℕ, inl, List, [], ◌∷◌, length, Bool, true, false, cond, refl, sym, ap, ◌∙◌, subst}
use Rattle.std.proofs.lemmas.Bool.{and_from}
use Rattle.kat_model.specs.Trees.{Term, zero, one, sum, product, is_test}
use Rattle.kat_model.specs.Members.{Has, SameMembers}
use Rattle.kat_model.specs.Problems.{ProblemParts, IsInRange}
use Rattle.kat_model.specs.Steps.{Atom, out, next, set_out, set_next, reach}
use Rattle.kat_model.specs.Pairs.{SetPair, has_term}
use Rattle.kat_model.proofs.Lists.{has_flat_map, flat_map_has, any_has}
use Rattle.kat_model.proofs.SameTrees.{holds-true, has-holds}
use Rattle.kat_axioms.specs.Algebras.{IsBelow}
use Rattle.kat_axioms.specs.Derivations.{Proves}
use Rattle.kat_axioms.proofs.Orders.{total, below_itself, below_trans, equal_below, equal_if_below, left_below_sum, right_below_sum, sum_below, zero_below, below_total, total_below, product_right_below, product_total_below, total_product_below, zero_product_below}
use Rattle.kat_axioms.proofs.Paths.{paths, edge_below, extended, paths_below}
use Rattle.kat_axioms.proofs.Terms.{term_operations, terms}
use Rattle.kat_axioms.proofs.Atoms.{accept_test, accept_is_test, out-accept_test, atom_term, letter, atom_below, all_atoms, has_all_atoms, all_atoms_wide, by_accepted}
use Rattle.kat_axioms.proofs.Derivatives.{accepted_below, next_below}
use Rattle.kat_axioms.proofs.Prefixes.{Grows, prefix_of}
use Rattle.kat_axioms.proofs.ReachedPairs.{numbers, has_numbers, next_pair, same_pair}

module _ (q : ProblemParts) where
  abbrev Below : Term → Term → Type 0
  Below = IsBelow (term_operations q)

  -- ---- sums over sets of terms

  -- the sum of a set, and the test at which some member accepts
  abbrev pub set_sum : List Term → Term
  set_sum es = total (terms q) (λ e. e) es

  abbrev pub set_accept : List Term → Term
  set_accept es = total (terms q) accept_test es

  pub set_accept_is_test : (es : List Term) → is_test (set_accept es) ≡ true
  set_accept_is_test [] = refl
  set_accept_is_test (e ∷ es) = and_from _ _ (accept_is_test e) (set_accept_is_test es)

  pub out-set_accept : (es : List Term) (atom : Atom) → out (set_accept es) atom ≡ set_out es atom
  out-set_accept [] atom = refl
  out-set_accept (e ∷ es) atom = rw (out-accept_test e atom, out-set_accept es atom) refl

  accept_below : (e : Term) → Below (accept_test e) e
  accept_below e =
      let k = terms q in
      equal_below k _ _ _ (k.laws.congruence.symmetric _ _ (k.laws.semiring.one_left (accept_test e)))
      (by_accepted q one e e (λ atom wide o. equal_below k _ _ _ (k.laws.semiring.one_left (atom_term q atom)) (accepted_below q e atom wide o)))

  set_accept_below : (es : List Term) → Below (set_accept es) (set_sum es)
  set_accept_below es =
      total_below (terms q) accept_test es _ (λ e h. below_trans (terms q) _ e _ (accept_below e) (below_total (terms q) (λ x. x) es e h))

  -- an atom is below the test of a set with a member that accepts it
  atom_below_set : (es : List Term) (e : Term) (atom : Atom) → length atom ≡ q.tests → Has es e → out e atom ≡ true → Below (atom_term q atom) (set_accept es)
  atom_below_set es e atom wide h o =
      atom_below q atom (set_accept es) wide (set_accept_is_test es) (out-set_accept es atom ∙ any_has (λ x. out x atom) es e h o)

  -- ---- the edges between pairs

  -- the letters that lead from one pair to the other
  abbrev pub edge : SetPair → SetPair → Term
  edge p s = total (terms q) (λ atom. total (terms q) (λ a. cond (same_pair (next_pair p atom a) s) (letter q atom a) zero) (numbers q.actions)) (all_atoms q)

  letter_below_edge : (p s : SetPair) (atom : Atom) (a : ℕ) → length atom ≡ q.tests → a < q.actions → same_pair (next_pair p atom a) s ≡ true → Below (letter q atom a) (edge p s)
  letter_below_edge p s atom a wide lt same =
      let by_action = λ (x : Atom) (b : ℕ). cond (same_pair (next_pair p x b) s) (letter q x b) zero in
      below_trans (terms q) _ (total (terms q) (by_action atom) (numbers q.actions)) _
      (subst (λ t. Below t (total (terms q) (by_action atom) (numbers q.actions))) (ap (λ b. cond b (letter q atom a) zero) same)
      (below_total (terms q) (by_action atom) (numbers q.actions) a (has_numbers q.actions a lt)))
      (below_total (terms q) (λ x. total (terms q) (by_action x) (numbers q.actions)) (all_atoms q) atom (has_all_atoms q atom wide))

  module _ (side : SetPair → List Term) where
    module _ (first : SetPair) (all : List SetPair) where
      -- the paths from the first pair to another pair, and the value of a term: the paths to the pairs that have it
      abbrev reaching : SetPair → Term
      reaching p = paths (terms q) edge all first p

      abbrev valued : Term → Term
      valued t = total (terms q) (λ p. cond (has_term (side p) t) (reaching p) zero) all

      -- what the paths reach where the side accepts
      abbrev pub reached : Term
      reached = sum (set_accept (side first)) (total (terms q) (λ p. product (reaching p) (set_accept (side p))) all)

      reaching_below_valued : (p : SetPair) (t : Term) → Has all p → Has (side p) t → Below (reaching p) (valued t)
      reaching_below_valued p t h k =
          subst (λ x. Below x (valued t)) (ap (λ b. cond b (reaching p) zero) (has-holds (side p) t k))
          (below_total (terms q) (λ s. cond (has_term (side s) t) (reaching s) zero) all p h)

      reaching_below_reached : (p : SetPair) → Has all p → Below (product (reaching p) (set_accept (side p))) reached
      reaching_below_reached p h =
          below_trans (terms q) _ _ _ (below_total (terms q) (λ s. product (reaching s) (set_accept (side s))) all p h) (right_below_sum (terms q) _ _)

      -- a value followed by x is below z, if that holds of the paths to each pair that has the term
      valued_product_below : (t x z : Term) → ((p : SetPair) → Has all p → Has (side p) t → Below (product (reaching p) x) z) → Below (product (valued t) x) z
      valued_product_below t x z each =
          total_product_below (terms q) (λ p. cond (has_term (side p) t) (reaching p) zero) all x z (λ p h. go p h (has_term (side p) t) refl)
        where
          go : (p : SetPair) → Has all p → (b : Bool) → has_term (side p) t ≡ b → Below (product (cond b (reaching p) zero) x) z
          go p h true e = each p h (holds-true (side p) t e)
          go p h false e = zero_product_below (terms q) zero x z (below_itself (terms q) zero)

    module _ (side_next : (p : SetPair) (atom : Atom) (a : ℕ) → side (next_pair p atom a) ≡ set_next (side p) atom a)
        (side_same : (p s : SetPair) → same_pair p s ≡ true → SameMembers (side p) (side s)) where
      -- a side is above each edge followed by the side of the next pair
      edge_side_below : (p s : SetPair) → Below (product (edge p s) (set_sum (side s))) (set_sum (side p))
      edge_side_below p s =
          total_product_below (terms q) (λ atom. total (terms q) (λ a. cond (same_pair (next_pair p atom a) s) (letter q atom a) zero) (numbers q.actions)) (all_atoms q) _ _ (λ atom h.
          total_product_below (terms q) (λ a. cond (same_pair (next_pair p atom a) s) (letter q atom a) zero) (numbers q.actions) _ _ (λ a k.
          go atom a (all_atoms_wide q atom h) (same_pair (next_pair p atom a) s) refl))
        where
          go : (atom : Atom) (a : ℕ) → length atom ≡ q.tests → (b : Bool) → same_pair (next_pair p atom a) s ≡ b → Below (product (cond b (letter q atom a) zero) (set_sum (side s))) (set_sum (side p))
          go atom a wide true same =
              product_total_below (terms q) (λ e. e) (letter q atom a) (side s) _ (λ u h.
              let r = has_flat_map (λ x. next x atom a) (side p) u (subst (λ es. Has es u) (side_next p atom a) ((side_same (next_pair p atom a) s same u).1 h)) in
              below_trans (terms q) _ r.0 _ (next_below q r.0 atom a u wide r.2) (below_total (terms q) (λ x. x) (side p) r.0 r.1))
          go atom a wide false same = zero_product_below (terms q) zero _ _ (below_itself (terms q) zero)

      module _ (first : SetPair) (all : List SetPair) (has_first : Has all first)
          (closed : (p : SetPair) → Has all p → (atom : Atom) → length atom ≡ q.tests → (a : ℕ) → a < q.actions → (s : SetPair) × Has all s × (same_pair (next_pair p atom a) s ≡ true))
          (e : Term) (only : side first ≡ e ∷ []) (within : IsInRange q.tests q.actions e) where
        -- a term that remains of a member of a side is in the side of the next pair
        next_in_side : (p s : SetPair) (t u : Term) (atom : Atom) (a : ℕ) → same_pair (next_pair p atom a) s ≡ true → Has (side p) t → Has (next t atom a) u → Has (side s) u
        next_in_side p s t u atom a same h k =
            (side_same (next_pair p atom a) s same u).0 (subst (λ es. Has es u) (sym (side_next p atom a)) (flat_map_has (λ x. next x atom a) (side p) t u h k))

        in_first : Has (side first) e
        in_first = subst (λ es. Has es e) (sym only) (inl refl)

        own_grows : Grows q (valued first all) (reached first all) one e
        own_grows = record {
          steps = λ atom a u wide lt h.
              let s = closed first has_first atom wide a lt in
              equal_below (terms q) _ _ _ ((terms q).laws.semiring.one_left (letter q atom a))
              (below_trans (terms q) _ (edge first s.0) _ (letter_below_edge first s.0 atom a wide lt s.2)
              (below_trans (terms q) _ (reaching first all s.0) _ (edge_below (terms q) edge all first s.0)
              (reaching_below_valued first all s.0 u s.1 (next_in_side first s.0 e u atom a s.2 in_first h))));
          ends = λ atom wide o.
              equal_below (terms q) _ _ _ ((terms q).laws.semiring.one_left (atom_term q atom))
              (below_trans (terms q) _ (set_accept (side first)) _ (atom_below_set (side first) e atom wide in_first o) (left_below_sum (terms q) _ _));
        }

        values_grow : (t : Term) → Has (reach e) t → Grows q (valued first all) (reached first all) (valued first all t) t
        values_grow t m = record {
          steps = λ atom a u wide lt h.
              valued_product_below first all t (letter q atom a) (valued first all u) (λ p hp ht.
              let s = closed p hp atom wide a lt in
              below_trans (terms q) _ (product (reaching first all p) (edge p s.0)) _ (product_right_below (terms q) (reaching first all p) _ _ (letter_below_edge p s.0 atom a wide lt s.2))
              (below_trans (terms q) _ (reaching first all s.0) _ (extended (terms q) edge all first p s.0 hp)
              (reaching_below_valued first all s.0 u s.1 (next_in_side p s.0 t u atom a s.2 ht h))));
          ends = λ atom wide o.
              valued_product_below first all t (atom_term q atom) (reached first all) (λ p hp ht.
              below_trans (terms q) _ (product (reaching first all p) (set_accept (side p))) _
              (product_right_below (terms q) (reaching first all p) _ _ (atom_below_set (side p) t atom wide ht o))
              (reaching_below_reached first all p hp));
        }

        below_reached : Below e (reached first all)
        below_reached =
            equal_below (terms q) _ _ _ ((terms q).laws.congruence.symmetric _ _ ((terms q).laws.semiring.one_left e))
            (prefix_of q e within one (reached first all) (valued first all) own_grows values_grow)

        reached_below : Below (reached first all) e
        reached_below =
            sum_below (terms q) _ _ e
            (below_trans (terms q) _ (set_sum (side first)) _ (set_accept_below (side first)) first_below)
            (total_below (terms q) (λ p. product (reaching first all p) (set_accept (side p))) all e (λ p h.
            below_trans (terms q) _ (product (reaching first all p) (set_sum (side p))) _ (product_right_below (terms q) (reaching first all p) _ _ (set_accept_below (side p)))
            (below_trans (terms q) _ (set_sum (side first)) _ (paths_below (terms q) edge (λ s. set_sum (side s)) edge_side_below all first p) first_below)))
          where
            first_below : Below (set_sum (side first)) e
            first_below = subst (λ es. Below (set_sum es) e) (sym only) (sum_below (terms q) e zero e (below_itself (terms q) e) (zero_below (terms q) e))

        pub term_reached : Proves q e (reached first all)
        term_reached = equal_if_below (terms q) e (reached first all) below_reached reached_below
