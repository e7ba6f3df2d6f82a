-- What a term reads after a prefix. If values for the terms that steps lead to grow along the steps, and r is above each
-- value where its term accepts, then r is above the prefix followed by the term.
use Rattle.std.proofs.Common.{◌≡◌, ◌<◌, ℕ, inl, map, length, true, refl, ◌∙◌}
use Rattle.std.proofs.lemmas.Bool.{and_from, or_left, or_right}
use Rattle.kat_model.specs.Trees.{Term, zero, one, test, act, sum, product, star}
use Rattle.kat_model.specs.Members.{Has}
use Rattle.kat_model.specs.Problems.{ProblemParts, IsInRange}
use Rattle.kat_model.specs.Steps.{Atom, out, dot, next, reach}
use Rattle.kat_model.proofs.Lists.{has_left, has_right, map_has, next_act_has, next_product_first, next_product_second}
use Rattle.kat_model.proofs.Reach.{next-dot}
use Rattle.kat_axioms.specs.Algebras.{IsBelow}
use Rattle.kat_axioms.proofs.Orders.{total, below_itself, below_trans, left_below_sum, right_below_sum, below_total, sum_below, total_below, product_left_below, product_right_below, right_factor_below, grouped_left, sum_product_below, total_product_below, product_sum_below, product_zero_below, product_star_below}
use Rattle.kat_axioms.proofs.Terms.{term_operations, terms}
use Rattle.kat_axioms.proofs.Atoms.{accept_test, out-dot, atom_term, letter, atom_below_one, atom_below_accept, by_atoms, by_atoms_between, guarded_atom, guarded_letter, by_accepted}

module _ (q : ProblemParts) where
  abbrev Below : Term → Term → Type 0
  Below = IsBelow (term_operations q)

  -- p, as the value of t, grows along the steps of t into the values V, and r is above it where t accepts
  pub record Grows (V : Term → Term) (r p t : Term) : Type 0 where
    pub steps : (atom : Atom) (a : ℕ) (u : Term) → length atom ≡ q.tests → a < q.actions → Has (next t atom a) u → Below (product p (letter q atom a)) (V u)
    pub ends : (atom : Atom) → length atom ≡ q.tests → out t atom ≡ true → Below (product p (atom_term q atom)) r

  -- the step of a term that is followed by another term
  dot_first : (t f u : Term) (atom : Atom) (a : ℕ) → Has (next t atom a) u → Has (next (dot t f) atom a) (dot u f)
  dot_first t f u atom a h = rw (next-dot t f atom a) (next_product_first atom a t f u h)

  dot_second : (t f u : Term) (atom : Atom) (a : ℕ) → out t atom ≡ true → Has (next f atom a) u → Has (next (dot t f) atom a) u
  dot_second t f u atom a o h = rw (next-dot t f atom a) (next_product_second atom a t f u o h)

  dot_out : (t f : Term) (atom : Atom) → out t atom ≡ true → out f atom ≡ true → out (dot t f) atom ≡ true
  dot_out t f atom o h = out-dot t f atom ∙ and_from (out t atom) (out f atom) o h

  -- the values of terms that are followed by f, and the sum of them where the terms accept
  abbrev before : (Term → Term) → Term → Term → Term
  before V f t = V (dot t f)

  abbrev joined : (Term → Term) → Term → Term → Term
  joined V f t = product (before V f t) (accept_test t)

  -- the value between two factors: p where e accepts, and the values of the terms that remain of e where they accept
  abbrev middle : Term → Term → Term → (Term → Term) → Term
  middle e f p V = sum (product p (accept_test e)) (total (terms q) (joined V f) (reach e))

  -- the value before a turn of a star
  abbrev turns : Term → Term → (Term → Term) → Term
  turns e p V = sum p (total (terms q) (joined V (star e)) (reach e))

  first : (e f t : Term) → Has (reach e) t → Has (reach (product e f)) (dot t f)
  first e f t h = has_left (map (λ x. dot x f) (reach e)) (reach f) (dot t f) (map_has (λ x. dot x f) (reach e) t h)

  again : (e t : Term) → Has (reach e) t → Has (reach (star e)) (dot t (star e))
  again e t h = map_has (λ x. dot x (star e)) (reach e) t h

  pub prefix_of : (e : Term) → IsInRange q.tests q.actions e → (p r : Term) (V : Term → Term) → Grows V r p e → ((t : Term) → Has (reach e) t → Grows V r (V t) t) → Below (product p e) r
  prefix_of zero within p r V own all = product_zero_below (terms q) p zero r (below_itself (terms q) zero)
  prefix_of one within p r V own all =
      by_accepted q p one r own.ends
  prefix_of (test b) within p r V own all = by_accepted q p (test b) r own.ends
  prefix_of (act b) within p r V own all =
      let there : Below (product p (act b)) (V one) =
      by_atoms_between q p (act b) (V one) (λ atom wide. own.steps atom b one wide within (next_act_has atom b b refl)) in
      below_trans (terms q) _ (V one) _ there (by_atoms q (V one) r (λ atom wide. (all one (inl refl)).ends atom wide refl))
  prefix_of (sum e f) within p r V own all =
      product_sum_below (terms q) p e f r
      (prefix_of e within.0 p r V
      (record { steps = λ atom a u wide lt h. own.steps atom a u wide lt (has_left (next e atom a) (next f atom a) u h); ends = λ atom wide o. own.ends atom wide (or_left (out e atom) (out f atom) o) })
      (λ t h. all t (has_left (reach e) (reach f) t h)))
      (prefix_of f within.1 p r V
      (record { steps = λ atom a u wide lt h. own.steps atom a u wide lt (has_right (next e atom a) (next f atom a) u h); ends = λ atom wide o. own.ends atom wide (or_right (out e atom) (out f atom) o) })
      (λ t h. all t (has_right (reach e) (reach f) t h)))
  prefix_of (product e f) within p r V own all =
      grouped_left (terms q) p e f r
      (below_trans (terms q) _ (product (middle e f p V) f) _
      (product_left_below (terms q) (product p e) (middle e f p V) f
      (prefix_of e within.0 p (middle e f p V) (before V f)
      (record {
        steps = λ atom a u wide lt h. own.steps atom a (dot u f) wide lt (next_product_first atom a e f u h);
        ends = λ atom wide o. below_trans (terms q) _ _ _ (product_right_below (terms q) p _ _ (atom_below_accept q atom e wide o)) (left_below_sum (terms q) _ _);
      })
      (λ t h. record {
        steps = λ atom a u wide lt k. (all (dot t f) (first e f t h)).steps atom a (dot u f) wide lt (dot_first t f u atom a k);
        ends = λ atom wide o.
            below_trans (terms q) _ _ _ (product_right_below (terms q) (V (dot t f)) _ _ (atom_below_accept q atom t wide o))
            (below_trans (terms q) _ _ _ (below_total (terms q) (joined V f) (reach e) t h) (right_below_sum (terms q) _ _));
      })))
      (prefix_of f within.1 (middle e f p V) r V
      (record {
        steps = λ atom a u wide lt h.
            sum_product_below (terms q) _ _ _ _
            (guarded_letter q p e (V u) atom a wide (λ o. own.steps atom a u wide lt (next_product_second atom a e f u o h)))
            (total_product_below (terms q) (joined V f) (reach e) _ _ (λ t k.
            guarded_letter q (V (dot t f)) t (V u) atom a wide (λ o. (all (dot t f) (first e f t k)).steps atom a u wide lt (dot_second t f u atom a o h))));
        ends = λ atom wide h.
            sum_product_below (terms q) _ _ _ _
            (guarded_atom q p e r atom wide (λ o. own.ends atom wide (and_from (out e atom) (out f atom) o h)))
            (total_product_below (terms q) (joined V f) (reach e) _ _ (λ t k.
            guarded_atom q (V (dot t f)) t r atom wide (λ o. (all (dot t f) (first e f t k)).ends atom wide (dot_out t f atom o h))));
      })
      (λ t h. all t (has_right (map (λ x. dot x f) (reach e)) (reach f) t h))))
  prefix_of (star e) within p r V own all =
      below_trans (terms q) _ (turns e p V) _
      (product_star_below (terms q) e p (turns e p V) (left_below_sum (terms q) _ _)
      (prefix_of e within (turns e p V) (turns e p V) (before V (star e))
      (record {
        steps = λ atom a u wide lt h.
            sum_product_below (terms q) _ _ _ _
            (own.steps atom a (dot u (star e)) wide lt (map_has (λ x. dot x (star e)) (next e atom a) u h))
            (total_product_below (terms q) (joined V (star e)) (reach e) _ _ (λ t k.
            guarded_letter q (V (dot t (star e))) t (V (dot u (star e))) atom a wide (λ o.
            (all (dot t (star e)) (again e t k)).steps atom a (dot u (star e)) wide lt
            (dot_second t (star e) (dot u (star e)) atom a o (map_has (λ x. dot x (star e)) (next e atom a) u h)))));
        ends = λ atom wide o. right_factor_below (terms q) (turns e p V) (atom_term q atom) (atom_below_one q atom);
      })
      (λ t h. record {
        steps = λ atom a u wide lt k. (all (dot t (star e)) (again e t h)).steps atom a (dot u (star e)) wide lt (dot_first t (star e) u atom a k);
        ends = λ atom wide o.
            below_trans (terms q) _ _ _ (product_right_below (terms q) (V (dot t (star e))) _ _ (atom_below_accept q atom t wide o))
            (below_trans (terms q) _ _ _ (below_total (terms q) (joined V (star e)) (reach e) t h) (right_below_sum (terms q) _ _));
      })))
      (sum_below (terms q) _ _ r
      (by_atoms q p r (λ atom wide. own.ends atom wide refl))
      (total_below (terms q) (joined V (star e)) (reach e) r (λ t h.
      by_accepted q (V (dot t (star e))) t r (λ atom wide o. (all (dot t (star e)) (again e t h)).ends atom wide (dot_out t (star e) atom o refl)))))
