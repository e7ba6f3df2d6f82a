-- The terms that steps can lead to, and their number.
use Rattle.std.proofs.Common.{◌≡◌, ℕ, inl, ⊎_elim, map, length, refl, sym, ◌∙◌, subst, arith, length-append}
use Rattle.std.proofs.lemmas.List.{length-map}
use Rattle.kat_model.specs.Trees.{Term, zero, one, test, act, sum, product, star, acts}
use Rattle.kat_model.specs.Members.{Has}
use Rattle.kat_model.specs.Steps.{Atom, dot, next, reach}
use Rattle.kat_model.proofs.Lists.{has_left, has_right, has_append, has_map, map_has, has_next_act, has_next_product}

pub length-reach : (e : Term) → length (reach e) ≡ acts e
length-reach zero = refl
length-reach one = refl
length-reach (test b) = refl
length-reach (act a) = refl
length-reach (sum e f) = omega (arith, length-append (reach e) (reach f), length-reach e, length-reach f)
length-reach (product e f) =
    omega (arith, length-append (map (λ x. dot x f) (reach e)) (reach f), length-map (reach e) (λ x. dot x f), length-reach e, length-reach f)
length-reach (star e) = length-map (reach e) (λ x. dot x (star e)) ∙ length-reach e

-- `dot` has the same next terms as the product
pub next-dot : (e f : Term) (atom : Atom) (a : ℕ) → next (dot e f) atom a ≡ next (product e f) atom a
next-dot zero f atom a = refl
next-dot one f atom a = refl
next-dot (test b) f atom a = refl
next-dot (act b) f atom a = refl
next-dot (sum e g) f atom a = refl
next-dot (product e g) f atom a = refl
next-dot (star e) f atom a = refl

-- a term reached from the first, followed by the second
reach_first : (e f x y : Term) → Has (reach e) y → dot y f ≡ x → Has (map (λ z. dot z f) (reach e)) x
reach_first e f x y h s = subst (Has (map (λ z. dot z f) (reach e))) s (map_has (λ z. dot z f) (reach e) y h)

module _ (atom : Atom) (a : ℕ) where
  pub next_reach : (e x : Term) → Has (next e atom a) x → Has (reach e) x
  next_reach zero x h = absurd h
  next_reach one x h = absurd h
  next_reach (test b) x h = absurd h
  next_reach (act b) x h = inl (has_next_act atom a b x h).1
  next_reach (sum e f) x h =
      ⊎_elim (λ p. has_left (reach e) (reach f) x (next_reach e x p)) (λ q. has_right (reach e) (reach f) x (next_reach f x q)) (has_append (next e atom a) _ x h)
  next_reach (product e f) x h =
      ⊎_elim
      (λ p. has_left _ (reach f) x (reach_first e f x p.0 (next_reach e p.0 p.1) p.2))
      (λ q. has_right (map (λ y. dot y f) (reach e)) _ x (next_reach f x q.1))
      (has_next_product atom a e f x h)
  next_reach (star e) x h = let p = has_map (λ y. dot y (star e)) (next e atom a) x h in reach_first e (star e) x p.0 (next_reach e p.0 p.1) p.2

  pub reach_next : (e x y : Term) → Has (reach e) x → Has (next x atom a) y → Has (reach e) y
  reach_next zero x y h k = absurd h
  reach_next one x y h k = absurd h
  reach_next (test b) x y h k = absurd h
  reach_next (act b) x y h k = ⊎_elim (λ s. let none : Has (next one atom a) y = subst (λ z. Has (next z atom a) y) (sym s) k in absurd none) absurd h
  reach_next (sum e f) x y h k =
      ⊎_elim (λ p. has_left (reach e) (reach f) y (reach_next e x y p k)) (λ q. has_right (reach e) (reach f) y (reach_next f x y q k)) (has_append (reach e) _ x h)
  reach_next (product e f) x y h k =
      ⊎_elim
      (λ p.
      let z = has_map (λ u. dot u f) (reach e) x p in
      let within : Has (next (product z.0 f) atom a) y = rw (← next-dot z.0 f atom a, z.2) k in
      ⊎_elim
      (λ u. has_left _ (reach f) y (reach_first e f y u.0 (reach_next e z.0 u.0 z.1 u.1) u.2))
      (λ v. has_right (map (λ u. dot u f) (reach e)) _ y (next_reach f y v.1))
      (has_next_product atom a z.0 f y within))
      (λ q. has_right (map (λ u. dot u f) (reach e)) _ y (reach_next f x y q k))
      (has_append (map (λ u. dot u f) (reach e)) (reach f) x h)
  reach_next (star e) x y h k =
      let z = has_map (λ u. dot u (star e)) (reach e) x h in
      let within : Has (next (product z.0 (star e)) atom a) y = rw (← next-dot z.0 (star e) atom a, z.2) k in
      ⊎_elim (λ u. reach_first e (star e) y u.0 (reach_next e z.0 u.0 z.1 u.1) u.2) (λ v. next_reach (star e) y v.1) (has_next_product atom a z.0 (star e) y within)
