-- A guarded term has at most one step under each atom, and no step under an atom that it accepts. The same holds for
-- all terms that its steps lead to.
use Rattle.std.proofs.Common.{◌≡◌, ℕ, ⊎_elim, [], map, ap, ◌∙◌, subst, true}
use Rattle.std.proofs.lemmas.Bool.{both_ways, not-true, and_parts, or_cases}
use Rattle.kat_model.specs.Trees.{TestTree, complement, Term, zero, one, test, act, sum, product, star}
use Rattle.kat_model.specs.Members.{Has}
use Rattle.kat_model.specs.Steps.{Atom, truth, dot, out, next, reach}
use Rattle.kat_model.specs.Guarded.{IsGuarded, guarded_zero, guarded_one, guarded_test, guarded_act, guarded_product, guarded_choice, guarded_loop}
use Rattle.kat_model.specs.Laws.{HasOneStep}
use Rattle.kat_model.proofs.Lists.{has_append, has_map, has_next_product}
use Rattle.kat_model.proofs.OneStep.{IsAlone, IsEnded, alone_sum, alone_product, alone_star, one_step_product, one_step_dot, one_step_test, one_step_act, one_step_none}

-- a step of a product that begins with a test is a step of the rest, and the test is true
after_test : (b : TestTree) (e x : Term) (atom : Atom) (a : ℕ) → Has (next (product (test b) e) atom a) x → (truth b atom ≡ true) × Has (next e atom a) x
after_test b e x atom a h = ⊎_elim (λ p. absurd p.1) (λ q. q) (has_next_product atom a (test b) e x h)

-- a test and its complement are not both true
not_both : (b : TestTree) (atom : Atom) → truth b atom ≡ true → truth (complement b) atom ≡ true → ⊥
not_both b atom h k = both_ways (truth b atom) (not-true (truth b atom) k) h

module _ (b : TestTree) (e f : Term) (d : HasOneStep e) (g : HasOneStep f) where
  abbrev where_true : Term
  where_true = product (test b) e

  abbrev where_false : Term
  where_false = product (test (complement b)) f

  one_step_choice : HasOneStep (sum where_true where_false)
  one_step_choice = record { ended = ended; alone = alone_sum where_true where_false first.alone second.alone apart }
    where
      first : HasOneStep where_true
      first = one_step_product (test b) e (one_step_test b) d

      second : HasOneStep where_false
      second = one_step_product (test (complement b)) f (one_step_test (complement b)) g

      apart : (atom : Atom) (a c : ℕ) (x y : Term) → Has (next where_true atom a) x → Has (next where_false atom c) y → ⊥
      apart atom a c x y h k = not_both b atom (after_test b e x atom a h).0 (after_test (complement b) f y atom c k).0

      ended : IsEnded (sum where_true where_false)
      ended atom a x o h =
          ⊎_elim
          (λ p. ⊎_elim (λ k. first.ended atom a x p k) (λ k. not_both b atom (and_parts _ _ p).0 (after_test (complement b) f x atom a k).0) (has_append (next where_true atom a) _ x h))
          (λ p. ⊎_elim (λ k. not_both b atom (after_test b e x atom a k).0 (and_parts _ _ p).0) (λ k. second.ended atom a x p k) (has_append (next where_true atom a) _ x h))
          (or_cases (out where_true atom) (out where_false atom) o)

-- the turns of a loop, and the test that ends it
abbrev turns_of : TestTree → Term → Term
turns_of b e = star (product (test b) e)

abbrev end_of : TestTree → Term
end_of b = test (complement b)

module _ (b : TestTree) (e : Term) (d : HasOneStep e) where
  abbrev turns : Term
  turns = turns_of b e

  abbrev done : Term
  done = end_of b

  alone_turns : IsAlone turns
  alone_turns = alone_star (product (test b) e) (one_step_product (test b) e (one_step_test b) d).alone

  -- a turn begins only if the test is true
  turn_is_true : (atom : Atom) (a : ℕ) (x : Term) → Has (next turns atom a) x → truth b atom ≡ true
  turn_is_true atom a x h = let p = has_map (λ z. dot z turns) (next (product (test b) e) atom a) x h in (after_test b e p.0 atom a p.1).0

  before_done : (f x : Term) (atom : Atom) (a : ℕ) → Has (next (product f done) atom a) x → (y : Term) × Has (next f atom a) y
  before_done f x atom a h = ⊎_elim (λ p. (p.0, p.1)) (λ q. absurd q.1) (has_next_product atom a f done x h)

  -- the test that ends the loop adds no step
  alone_done : (f : Term) → IsAlone f → IsAlone (product f done)
  alone_done f alone = alone_product f done alone (one_step_test (complement b)).alone (λ atom a c x y o h k. k)

  one_step_loop : HasOneStep (product turns done)
  one_step_loop =
      record {
        ended = λ atom a x o h. let p = before_done turns x atom a h in not_both b atom (turn_is_true atom a p.0 p.1) o;
        alone = alone_done turns alone_turns;
      }

  -- the loop with the rest of a turn before it
  one_step_within : (f : Term) → HasOneStep f → HasOneStep (product (product f turns) done)
  one_step_within f g = record { ended = ended; alone = alone_done (product f turns) (alone_product f turns g.alone alone_turns (λ atom a c x y o h k. g.ended atom a x o h)) }
    where
      ended : IsEnded (product (product f turns) done)
      ended atom a x o h =
          let both = and_parts (out (product f turns) atom) (out done atom) o in
          let p = before_done (product f turns) x atom a h in
          ⊎_elim
          (λ y. g.ended atom a y.0 (and_parts (out f atom) (out turns atom) both.0).0 y.1)
          (λ q. not_both b atom (turn_is_true atom a p.0 q.1) both.1)
          (has_next_product atom a f turns p.0 p.1)

  one_step_tail : (f : Term) → HasOneStep f → HasOneStep (dot (dot f turns) done)
  one_step_tail zero g = one_step_within zero g
  one_step_tail one g = one_step_loop
  one_step_tail (test c) g = one_step_within (test c) g
  one_step_tail (act a) g = one_step_within (act a) g
  one_step_tail (sum h k) g = one_step_within (sum h k) g
  one_step_tail (product h k) g = one_step_within (product h k) g
  one_step_tail (star h) g = one_step_within (star h) g

pub one_step_guarded : {e : Term} → IsGuarded e → HasOneStep e
one_step_guarded guarded_zero = one_step_none zero (λ atom a x h. h)
one_step_guarded guarded_one = one_step_none one (λ atom a x h. h)
one_step_guarded (guarded_test b) = one_step_test b
one_step_guarded (guarded_act a) = one_step_act a
one_step_guarded (guarded_product g h) = one_step_product _ _ (one_step_guarded g) (one_step_guarded h)
one_step_guarded (guarded_choice b g h) = one_step_choice b _ _ (one_step_guarded g) (one_step_guarded h)
one_step_guarded (guarded_loop b g) = one_step_loop b _ (one_step_guarded g)

pub one_step_reached : {e : Term} → IsGuarded e → (x : Term) → Has (reach e) x → HasOneStep x
one_step_reached guarded_zero x h = absurd h
one_step_reached guarded_one x h = absurd h
one_step_reached (guarded_test b) x h = absurd h
one_step_reached (guarded_act a) x h = ⊎_elim (λ s. subst HasOneStep s (one_step_guarded guarded_one)) absurd h
one_step_reached (guarded_product {e = e} {f = f} g h) x k =
    ⊎_elim
    (λ p. let z = has_map (λ u. dot u f) (reach e) x p in subst HasOneStep z.2 (one_step_dot z.0 f (one_step_reached g z.0 z.1) (one_step_guarded h)))
    (λ q. one_step_reached h x q)
    (has_append (map (λ u. dot u f) (reach e)) (reach f) x k)
one_step_reached (guarded_choice {e = e} {f = f} b g h) x k =
    ⊎_elim (λ p. one_step_reached g x p) (λ q. one_step_reached h x q) (has_append (reach e) (reach f) x k)
one_step_reached (guarded_loop {e = e} b g) x k =
    ⊎_elim
    (λ p.
    let y = has_map (λ u. dot u (end_of b)) (reach (turns_of b e)) x p in
    let z = has_map (λ u. dot u (turns_of b e)) (reach e) y.0 y.1 in
    subst HasOneStep (ap (λ u. dot u (end_of b)) z.2 ∙ y.2) (one_step_tail b e (one_step_guarded g) z.0 (one_step_reached g z.0 z.1)))
    absurd
    (has_append (map (λ u. dot u (end_of b)) (reach (turns_of b e))) [] x k)
