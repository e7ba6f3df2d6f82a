-- The strings of a term have no more moves than its degree.
use Rattle.std.proofs.Common.{◌≡◌, ℕ, zero as nought, suc, ◌+◌, ◌≤◌, max, ⊎_elim, List, [], ◌∷◌, length, refl, sym, ◌∙◌, arith, Option, Some, None}
use Rattle.std.specs.Bool.{IsTrue}
use Rattle.std.specs.List.{flat_map}
use Rattle.std.proofs.Math.Nat.{le-max_left, le-max_right}
use Rattle.std.proofs.lemmas.Bool.{false≢true, leb-true, or_cases}
use Rattle.std.proofs.lemmas.List.{length-append}
use Rattle.kat_model.specs.Trees.{Term, zero, one, test, act, sum, product, star}
use Rattle.kat_model.specs.Steps.{Atom}
use Rattle.kat_model.specs.Strings.{Move, last_atom, accepts}
use Rattle.kat_model.specs.Laws.{AcceptsEach}
use Rattle.kat_model.specs.Degrees.{both_bounds, repeated_bound, degree, IsBounded, is_at_most}
use Rattle.kat_model.proofs.Acceptance.{accepts-zero, accepts_one, accepts_test, accepts_act, accepts-sum}
use Rattle.kat_model.proofs.Cuts.{accepts_product, accepts_star}

-- the bounds of sums and products

larger_left : (c d : Option ℕ) (k : ℕ) → IsBounded c k → IsBounded (both_bounds max c d) k
larger_left None d k h = tt
larger_left (Some m) None k h = tt
larger_left (Some m) (Some n) k h = omega (arith, h, le-max_left m n)

larger_right : (c d : Option ℕ) (k : ℕ) → IsBounded d k → IsBounded (both_bounds max c d) k
larger_right None d k h = tt
larger_right (Some m) None k h = tt
larger_right (Some m) (Some n) k h = omega (arith, h, le-max_right m n)

sum_bounded : (c d : Option ℕ) (k l : ℕ) → IsBounded c k → IsBounded d l → IsBounded (both_bounds (◌+◌) c d) (k + l)
sum_bounded None d k l h g = tt
sum_bounded (Some m) None k l h g = tt
sum_bounded (Some m) (Some n) k l h g = omega (arith, h, g)

-- a concatenation of pieces without moves has no move
pieces_end : (e : Term) (ps : List (List Move)) (atom : Atom)
    → ((a : Atom) (p : List Move) → IsTrue (accepts e a p) → length p ≤ 0) → AcceptsEach e atom ps → length (flat_map (λ p. p) ps) ≤ 0
pieces_end e [] atom each h = omega arith
pieces_end e (p ∷ ps) atom each h =
    omega (arith, length-append p (flat_map (λ r. r) ps), each atom p h.0, pieces_end e ps (last_atom atom p) each h.1)

repeated_bounded : (d : Option ℕ) (e : Term) (ps : List (List Move)) (atom : Atom)
    → ((a : Atom) (p : List Move) → IsTrue (accepts e a p) → IsBounded d (length p)) → AcceptsEach e atom ps
    → IsBounded (repeated_bound d) (length (flat_map (λ p. p) ps))
repeated_bounded None e ps atom each h = tt
repeated_bounded (Some nought) e ps atom each h = pieces_end e ps atom each h
repeated_bounded (Some (suc n)) e ps atom each h = tt

pub accepts_bounded : (e : Term) (atom : Atom) (ms : List Move) → IsTrue (accepts e atom ms) → IsBounded (degree e) (length ms)
accepts_bounded zero atom ms h = absurd (false≢true (sym (accepts-zero atom ms) ∙ h))
accepts_bounded one atom ms h = rw (accepts_one atom ms h) (omega arith)
accepts_bounded (test b) atom ms h = rw ((accepts_test b atom ms h).0) (omega arith)
accepts_bounded (act a) atom ms h = rw ((accepts_act a atom ms h).1) (omega arith)
accepts_bounded (sum e f) atom ms h =
    ⊎_elim
    (λ p. larger_left (degree e) (degree f) (length ms) (accepts_bounded e atom ms p))
    (λ p. larger_right (degree e) (degree f) (length ms) (accepts_bounded f atom ms p))
    (or_cases (accepts e atom ms) (accepts f atom ms) (sym (accepts-sum e f atom ms) ∙ h))
accepts_bounded (product e f) atom ms h =
    let c = accepts_product e f atom ms h in
    let both = sum_bounded (degree e) (degree f) (length c.before) (length c.after) (accepts_bounded e atom c.before c.first) (accepts_bounded f (last_atom atom c.before) c.after c.second) in
    rw (c.whole, length-append c.before c.after) both
accepts_bounded (star e) atom ms h =
    let j = accepts_star e atom ms h in
    rw j.1 (repeated_bounded (degree e) e j.0 atom (λ a p k. accepts_bounded e a p k) j.2)

at_most_bounded : (n : ℕ) (d : Option ℕ) (k : ℕ) → IsTrue (is_at_most n d) → IsBounded d k → k ≤ n
at_most_bounded n None k t h = absurd (false≢true t)
at_most_bounded n (Some m) k t h = omega (arith, leb-true m n t, h)

-- a string of a term of degree at most n has at most n moves; so a string of a short term has at most one
pub accepts_at_most : (n : ℕ) (e : Term) (atom : Atom) (ms : List Move) → IsTrue (is_at_most n (degree e)) → IsTrue (accepts e atom ms) → length ms ≤ n
accepts_at_most n e atom ms t h = at_most_bounded n (degree e) (length ms) t (accepts_bounded e atom ms h)

-- a string of a term of degree 0 has no move
pub accepts_no_move : (e : Term) (atom : Atom) (ms : List Move) → degree e ≡ Some 0 → IsTrue (accepts e atom ms) → ms ≡ []
accepts_no_move e atom [] d h = refl
accepts_no_move e atom (m ∷ ms) d h = absurd (omega (arith, accepts_at_most 0 e atom (m ∷ ms) (rw d refl) h))
