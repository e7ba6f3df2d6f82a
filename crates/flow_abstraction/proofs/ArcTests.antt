-- The start of one of the arcs is a number that they have in common.
use Rattle.std.proofs.Common.{◌≡◌, ℕ, Bool, true, false, ◌&&◌, ◌||◌, [], ◌∷◌, refl}
use Rattle.flow_problem.specs.FlowFacts.{Arc, lies_in, have_common}

two_tests : (p q r s : Bool) → ((p && q) || (r && s)) ≡ ((p && (q && true)) || ((r && (s && true)) || false))
two_tests true true r s = refl
two_tests true false true true = refl
two_tests true false true false = refl
two_tests true false false s = refl
two_tests false q true true = refl
two_tests false q true false = refl
two_tests false q false s = refl

pub two_common : (m : ℕ) (a b : Arc) → ((lies_in m a a.start && lies_in m b a.start) || (lies_in m a b.start && lies_in m b b.start)) ≡ have_common m (a ∷ b ∷ [])
two_common m a b = two_tests (lies_in m a a.start) (lies_in m b a.start) (lies_in m a b.start) (lies_in m b b.start)

with_end : (p q r : Bool) → (p && (q && r)) ≡ (p && (q && (r && true)))
with_end true true true = refl
with_end true true false = refl
with_end true false r = refl
with_end false q r = refl

or_end : (p q r s t u : Bool) → p ≡ s → q ≡ t → r ≡ u → ((p || q) || r) ≡ (s || (t || (u || false)))
or_end p q r s t u e f g = rw (e, f, g) (ends s t u)
  where
    ends : (x y z : Bool) → ((x || y) || z) ≡ (x || (y || (z || false)))
    ends true y z = refl
    ends false true z = refl
    ends false false true = refl
    ends false false false = refl

pub three_common : (m : ℕ) (a b c : Arc) →
    (((lies_in m a a.start && (lies_in m b a.start && lies_in m c a.start)) || (lies_in m a b.start && (lies_in m b b.start && lies_in m c b.start))) || (lies_in m a c.start && (lies_in m b c.start && lies_in m c c.start)))
    ≡ have_common m (a ∷ b ∷ c ∷ [])
three_common m a b c =
    or_end _ _ _ _ _ _
    (with_end (lies_in m a a.start) (lies_in m b a.start) (lies_in m c a.start))
    (with_end (lies_in m a b.start) (lies_in m b b.start) (lies_in m c b.start))
    (with_end (lies_in m a c.start) (lies_in m b c.start) (lies_in m c c.start))
