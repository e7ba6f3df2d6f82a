-- A term is above the atoms that it accepts, and above each letter followed by a term that remains after it: the easy
-- half of the fundamental theorem (Kozen 1994 for derivatives).
use Rattle.std.proofs.Common.{◌≡◌, ℕ, ⊎_elim, length, true, refl, subst}
use Rattle.std.proofs.lemmas.Bool.{and_parts, or_cases, false≢true}
use Rattle.kat_model.specs.Trees.{Term, zero, one, test, act, sum, product, star}
use Rattle.kat_model.specs.Members.{Has}
use Rattle.kat_model.specs.Problems.{ProblemParts}
use Rattle.kat_model.specs.Steps.{Atom, out, dot, next}
use Rattle.kat_model.proofs.Lists.{has_append, has_map, has_next_act, has_next_product}
use Rattle.kat_axioms.specs.Algebras.{IsBelow}
use Rattle.kat_axioms.specs.Derivations.{Proves, itself, symmetric}
use Rattle.kat_axioms.proofs.Orders.{below_itself, below_trans, equal_below, left_below_sum, right_below_sum, product_below, product_left_below, product_right_below, left_factor_below, grouped_left, grouped_right, one_below_star, step_below_star}
use Rattle.kat_axioms.proofs.Terms.{term_operations, terms}
use Rattle.kat_axioms.proofs.Atoms.{atom_term, letter, atom_below, atom_below_one, atom_below_product}

module _ (q : ProblemParts) where
  abbrev Below : Term → Term → Type 0
  Below = IsBelow (term_operations q)

  pub dot-product : (e f : Term) → Proves q (dot e f) (product e f)
  dot-product zero f = itself (product zero f)
  dot-product one f = symmetric ((terms q).laws.semiring.one_left f)
  dot-product (test b) f = itself (product (test b) f)
  dot-product (act a) f = itself (product (act a) f)
  dot-product (sum e g) f = itself (product (sum e g) f)
  dot-product (product e g) f = itself (product (product e g) f)
  dot-product (star e) f = itself (product (star e) f)

  -- a term is above the atoms that it accepts
  pub accepted_below : (t : Term) (atom : Atom) → length atom ≡ q.tests → out t atom ≡ true → Below (atom_term q atom) t
  accepted_below zero atom wide o = absurd (false≢true o)
  accepted_below one atom wide o = atom_below_one q atom
  accepted_below (test b) atom wide o = atom_below q atom (test b) wide refl o
  accepted_below (act a) atom wide o = absurd (false≢true o)
  accepted_below (sum e f) atom wide o =
      ⊎_elim
      (λ l. below_trans (terms q) _ e _ (accepted_below e atom wide l) (left_below_sum (terms q) e f))
      (λ r. below_trans (terms q) _ f _ (accepted_below f atom wide r) (right_below_sum (terms q) e f))
      (or_cases (out e atom) (out f atom) o)
  accepted_below (product e f) atom wide o =
      let both = and_parts (out e atom) (out f atom) o in
      atom_below_product q atom e f wide (accepted_below e atom wide both.0) (accepted_below f atom wide both.1)
  accepted_below (star e) atom wide o =
      below_trans (terms q) _ one _ (atom_below_one q atom) (one_below_star (terms q) e)

  -- the part before a product is below, if it is below the first factor of a product
  before_product : (x y e f : Term) → Below (product x y) e → Below (product x (dot y f)) (product e f)
  before_product x y e f p =
      below_trans (terms q) _ (product x (product y f)) _
      (product_right_below (terms q) x (dot y f) (product y f)
      (equal_below (terms q) _ _ _ (dot-product y f) (below_itself (terms q) (product y f))))
      (grouped_left (terms q) x y f _ (product_left_below (terms q) (product x y) e f p))

  -- a term is above a letter followed by a term that remains after it
  pub next_below : (t : Term) (atom : Atom) (a : ℕ) (u : Term) → length atom ≡ q.tests → Has (next t atom a) u → Below (product (letter q atom a) u) t
  next_below zero atom a u wide h = absurd h
  next_below one atom a u wide h = absurd h
  next_below (test b) atom a u wide h = absurd h
  next_below (act b) atom a u wide h =
      let laws = (terms q).laws in
      let same = has_next_act atom a b u h in
      subst (λ x. Below (product (letter q atom a) x) (act b)) same.1
      (subst (λ c. Below (product (letter q atom a) one) (act c)) same.0
      (equal_below (terms q) _ _ _ (laws.semiring.one_right (letter q atom a)) (left_factor_below (terms q) (atom_term q atom) (act a) (atom_below_one q atom))))
  next_below (sum e f) atom a u wide h =
      ⊎_elim
      (λ l. below_trans (terms q) _ e _ (next_below e atom a u wide l) (left_below_sum (terms q) e f))
      (λ r. below_trans (terms q) _ f _ (next_below f atom a u wide r) (right_below_sum (terms q) e f))
      (has_append (next e atom a) (next f atom a) u h)
  next_below (product e f) atom a u wide h =
      ⊎_elim
      (λ l. subst (λ x. Below (product (letter q atom a) x) (product e f)) l.2 (before_product (letter q atom a) l.0 e f (next_below e atom a l.0 wide l.1)))
      (λ r. second (next_below f atom a u wide r.1) r.0)
      (has_next_product atom a e f u h)
    where
      regrouped : (x z : Term) → Below (product (product (product x (atom_term q atom)) (act a)) z) (product x (product (letter q atom a) z))
      regrouped x z =
          below_trans (terms q) _ (product (product x (letter q atom a)) z) _
          (product_left_below (terms q) _ _ z (grouped_right (terms q) x (atom_term q atom) (act a) _ (below_itself (terms q) _)))
          (grouped_right (terms q) x (letter q atom a) z _ (below_itself (terms q) _))

      -- the atom counts twice: for the first factor, which accepts it, and before the action
      second : Below (product (letter q atom a) u) f → out e atom ≡ true → Below (product (letter q atom a) u) (product e f)
      second p o =
          let at = atom_term q atom in
          below_trans (terms q) (product (letter q atom a) u) (product at (product (letter q atom a) u)) (product e f)
          (below_trans (terms q) _ (product (product (product at at) (act a)) u) _
          (product_left_below (terms q) (letter q atom a) _ u
          (product_left_below (terms q) at (product at at) (act a)
          (atom_below_product q atom at at wide (below_itself (terms q) at) (below_itself (terms q) at))))
          (regrouped at u))
          (product_below (terms q) at (product (letter q atom a) u) e f (accepted_below e atom wide o) p)
  next_below (star e) atom a u wide h =
      let p = has_map (λ y. dot y (star e)) (next e atom a) u h in
      subst (λ x. Below (product (letter q atom a) x) (star e)) p.2
      (below_trans (terms q) _ (product e (star e)) _
      (before_product (letter q atom a) p.0 e (star e) (next_below e atom a p.0 wide p.1))
      (step_below_star (terms q) e))
