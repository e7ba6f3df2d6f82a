-- Intervals modulo m: arcs that have a number in common have the start of one of them in common.
use Rattle.std.proofs.Common.{◌≡◌, ℕ, zero, suc, ◌+◌, ◌-◌, ◌%◌, ◌<◌, ◌≤◌, ◌⊎◌, inl, inr, ⊎_elim, Bool, true, false, nat_lt, List, [], ◌∷◌, refl, sym, ◌∙◌, ap, subst, arith, mod-eq_of_lt, le_of_eq}
use Rattle.std.specs.List.{list_all}
use Rattle.std.proofs.Math.Nat.{add-mod_right, mod_self}
use Rattle.std.proofs.lemmas.Bool.{cases_lt, ltb-true, ltb-false, lt-ltb, le-ltb}
use Rattle.std.proofs.lemmas.Nat.{mod_below}
use Rattle.kat_model.specs.Members.{Has}
use Rattle.kat_model.proofs.Lists.{any_has, all_has}
use Rattle.flow_problem.specs.FlowFacts.{Arc, lies_in, other_arc, have_common, literal_arc}

-- ---- numbers modulo m

-- a sum that is less than 2 m
abbrev pub SumIs : ℕ → ℕ → ℕ → Type 0
SumIs m n r = ((n < m) × (r ≡ n)) ⊎ ((m ≤ n) × (r ≡ n - m))

pub sum_is : (m n : ℕ) → n < m + m → SumIs m n (n % m)
sum_is m n h = ⊎_elim (λ l. inl (l, mod-eq_of_lt l)) (λ g. inr (g, wraps g)) (cases_lt n m)
  where
    wraps : m ≤ n → n % m ≡ n - m
    wraps g =
        let whole : n ≡ (n - m) + m = omega arith in
        let small : n - m < m = omega arith in
        ap (λ x. x % m) whole ∙ add-mod_right (n - m) m ∙ mod-eq_of_lt small

-- how far it is from a to n
abbrev DistanceIs : ℕ → ℕ → ℕ → ℕ → Type 0
DistanceIs m a n r = ((a ≤ n) × (r ≡ n - a)) ⊎ ((n < a) × (r ≡ n + m - a))

distance_is : (m a n : ℕ) → a < m → n < m → DistanceIs m a n ((n + (m - a)) % m)
distance_is m a n h k = by_sum (sum_is m (n + (m - a)) (omega arith))
  where
    by_sum : SumIs m (n + (m - a)) ((n + (m - a)) % m) → DistanceIs m a n ((n + (m - a)) % m)
    by_sum (inl (l, e)) = inr (omega arith, omega arith)
    by_sum (inr (g, e)) = inl (omega arith, omega arith)

-- if a is nearer to n than b is, it lies between them
nearer : (m a b n x y z : ℕ) → a < m → b < m → n < m → x ≤ y → DistanceIs m a n x → DistanceIs m b n y → DistanceIs m b a z → z + x ≡ y
nearer m a b n x y z ha hb hn le (inl (p, e)) (inl (q, f)) (inl (r, g)) = omega arith
nearer m a b n x y z ha hb hn le (inl (p, e)) (inl (q, f)) (inr (r, g)) = omega arith
nearer m a b n x y z ha hb hn le (inl (p, e)) (inr (q, f)) (inl (r, g)) = omega arith
nearer m a b n x y z ha hb hn le (inl (p, e)) (inr (q, f)) (inr (r, g)) = omega arith
nearer m a b n x y z ha hb hn le (inr (p, e)) (inl (q, f)) (inl (r, g)) = omega arith
nearer m a b n x y z ha hb hn le (inr (p, e)) (inl (q, f)) (inr (r, g)) = omega arith
nearer m a b n x y z ha hb hn le (inr (p, e)) (inr (q, f)) (inl (r, g)) = omega arith
nearer m a b n x y z ha hb hn le (inr (p, e)) (inr (q, f)) (inr (r, g)) = omega arith

-- the test for -x and for the numbers from the other end
abbrev pub OppositeIs : ℕ → ℕ → ℕ → Type 0
OppositeIs m x v = ((x ≡ 0) × (v ≡ 0)) ⊎ ((0 < x) × (v ≡ m - x))

pub opposite_is : (m x : ℕ) → x < m → OppositeIs m x ((m - x) % m)
opposite_is m zero h = inl (refl, ap (λ n. n % m) (omega arith) ∙ mod_self m)
opposite_is m (suc x) h = let small : m - suc x < m = omega arith in inr (omega arith, mod-eq_of_lt small)

abbrev SameOrder : ℕ → ℕ → ℕ → Type 0
SameOrder d u y = (u < d → y < d) × (y < d → u < d)

turned_order : (m x c d v u a y : ℕ) → x < m → c < m → 0 < d → d < m → OppositeIs m x v → SumIs m (x + c) u → SumIs m (c + 1 + (m - d)) a → DistanceIs m a v y → SameOrder d u y
turned_order m x c d v u a y hx hc hd hm (inl (p, e)) (inl (q, f)) (inl (r, g)) (inl (z, i)) = ((λ h. omega arith), (λ h. omega arith))
turned_order m x c d v u a y hx hc hd hm (inl (p, e)) (inl (q, f)) (inl (r, g)) (inr (z, i)) = ((λ h. omega arith), (λ h. omega arith))
turned_order m x c d v u a y hx hc hd hm (inl (p, e)) (inl (q, f)) (inr (r, g)) (inl (z, i)) = ((λ h. omega arith), (λ h. omega arith))
turned_order m x c d v u a y hx hc hd hm (inl (p, e)) (inl (q, f)) (inr (r, g)) (inr (z, i)) = ((λ h. omega arith), (λ h. omega arith))
turned_order m x c d v u a y hx hc hd hm (inl (p, e)) (inr (q, f)) (inl (r, g)) (inl (z, i)) = ((λ h. omega arith), (λ h. omega arith))
turned_order m x c d v u a y hx hc hd hm (inl (p, e)) (inr (q, f)) (inl (r, g)) (inr (z, i)) = ((λ h. omega arith), (λ h. omega arith))
turned_order m x c d v u a y hx hc hd hm (inl (p, e)) (inr (q, f)) (inr (r, g)) (inl (z, i)) = ((λ h. omega arith), (λ h. omega arith))
turned_order m x c d v u a y hx hc hd hm (inl (p, e)) (inr (q, f)) (inr (r, g)) (inr (z, i)) = ((λ h. omega arith), (λ h. omega arith))
turned_order m x c d v u a y hx hc hd hm (inr (p, e)) (inl (q, f)) (inl (r, g)) (inl (z, i)) = ((λ h. omega arith), (λ h. omega arith))
turned_order m x c d v u a y hx hc hd hm (inr (p, e)) (inl (q, f)) (inl (r, g)) (inr (z, i)) = ((λ h. omega arith), (λ h. omega arith))
turned_order m x c d v u a y hx hc hd hm (inr (p, e)) (inl (q, f)) (inr (r, g)) (inl (z, i)) = ((λ h. omega arith), (λ h. omega arith))
turned_order m x c d v u a y hx hc hd hm (inr (p, e)) (inl (q, f)) (inr (r, g)) (inr (z, i)) = ((λ h. omega arith), (λ h. omega arith))
turned_order m x c d v u a y hx hc hd hm (inr (p, e)) (inr (q, f)) (inl (r, g)) (inl (z, i)) = ((λ h. omega arith), (λ h. omega arith))
turned_order m x c d v u a y hx hc hd hm (inr (p, e)) (inr (q, f)) (inl (r, g)) (inr (z, i)) = ((λ h. omega arith), (λ h. omega arith))
turned_order m x c d v u a y hx hc hd hm (inr (p, e)) (inr (q, f)) (inr (r, g)) (inl (z, i)) = ((λ h. omega arith), (λ h. omega arith))
turned_order m x c d v u a y hx hc hd hm (inr (p, e)) (inr (q, f)) (inr (r, g)) (inr (z, i)) = ((λ h. omega arith), (λ h. omega arith))

same_less : (d u y : ℕ) → SameOrder d u y → nat_lt u d ≡ nat_lt y d
same_less d u y h =
    ⊎_elim
    (λ l. lt-ltb u d l ∙ sym (lt-ltb y d (h.0 l)))
    (λ g. le-ltb u d g ∙ sym (le-ltb y d (⊎_elim (λ l. absurd (not_less u d g (h.1 l))) (λ k. k) (cases_lt y d))))
    (cases_lt u d)
  where
    not_less : (a b : ℕ) → b ≤ a → a < b → ⊥
    not_less a b p q = omega arith

none_below : (u y : ℕ) → nat_lt u 0 ≡ nat_lt y 0
none_below u y = le-ltb u 0 (omega arith) ∙ sym (le-ltb y 0 (omega arith))

-- -x lies in the arc of the numbers from c + 1 - d on exactly when x + c is less than d
pub turned_arc : (m x c d : ℕ) → x < m → c < m → d < m →
    nat_lt ((x + c) % m) d ≡ lies_in m (record { start = (c + 1 + (m - d)) % m; size = d }) ((m - x) % m)
turned_arc m x c zero hx hc hd = none_below ((x + c) % m) (((m - x) % m + (m - (c + 1 + (m - 0)) % m)) % m)
turned_arc m x c (suc d) hx hc hd =
    let positive : 0 < m = omega arith in
    let start = mod_below (c + 1 + (m - suc d)) m positive in
    let value = mod_below (m - x) m positive in
    same_less (suc d) ((x + c) % m) (((m - x) % m + (m - (c + 1 + (m - suc d)) % m)) % m)
    (turned_order m x c (suc d) ((m - x) % m) ((x + c) % m) ((c + 1 + (m - suc d)) % m) (((m - x) % m + (m - (c + 1 + (m - suc d)) % m)) % m) hx hc (omega arith) hd
    (opposite_is m x hx) (sum_is m (x + c) (omega arith)) (sum_is m (c + 1 + (m - suc d)) (omega arith)) (distance_is m ((c + 1 + (m - suc d)) % m) ((m - x) % m) start value))

-- x lies in the arc of the numbers from -c on exactly when x + c is less than d
straight : (m x c : ℕ) → x < m → c < m → (x + (m - (m - c) % m)) % m ≡ (x + c) % m
straight m x zero hx hc =
    let e : (m - 0) % m ≡ 0 = ap (λ n. n % m) (omega arith) ∙ mod_self m in
    let f : x + (m - (m - 0) % m) ≡ x + m = omega arith in
    ap (λ n. n % m) f ∙ add-mod_right x m ∙ ap (λ n. n % m) (omega arith)
straight m x (suc c) hx hc =
    let small : m - suc c < m = omega arith in
    let e : (m - suc c) % m ≡ m - suc c = mod-eq_of_lt small in
    let f : x + (m - (m - suc c) % m) ≡ x + suc c = omega arith in
    ap (λ n. n % m) f

pub straight_arc : (m x c d : ℕ) → x < m → c < m → nat_lt ((x + c) % m) d ≡ lies_in m (record { start = (m - c) % m; size = d }) x
straight_arc m x c d hx hc = ap (λ n. nat_lt n d) (sym (straight m x c hx hc))

-- ---- arcs

-- an arc modulo m
pub record IsArc (m : ℕ) (arc : Arc) : Type 0 where
  pub start : arc.start < m
  pub size : arc.size ≤ m

outside : (m start size n d t e : ℕ) → start < m → size ≤ m → n < m → size ≤ d → DistanceIs m start n d → SumIs m (start + size) t → DistanceIs m t n e → e < m - size
outside m start size n d t e hs hz hn le (inl (p, f)) (inl (q, g)) (inl (r, h)) = omega arith
outside m start size n d t e hs hz hn le (inl (p, f)) (inl (q, g)) (inr (r, h)) = omega arith
outside m start size n d t e hs hz hn le (inl (p, f)) (inr (q, g)) (inl (r, h)) = omega arith
outside m start size n d t e hs hz hn le (inl (p, f)) (inr (q, g)) (inr (r, h)) = omega arith
outside m start size n d t e hs hz hn le (inr (p, f)) (inl (q, g)) (inl (r, h)) = omega arith
outside m start size n d t e hs hz hn le (inr (p, f)) (inl (q, g)) (inr (r, h)) = omega arith
outside m start size n d t e hs hz hn le (inr (p, f)) (inr (q, g)) (inl (r, h)) = omega arith
outside m start size n d t e hs hz hn le (inr (p, f)) (inr (q, g)) (inr (r, h)) = omega arith

-- a number outside an arc is in the other arc
in_other : (m : ℕ) (arc : Arc) (n : ℕ) → IsArc m arc → n < m → lies_in m arc n ≡ false → lies_in m (other_arc m arc) n ≡ true
in_other m arc n is hn e =
    let positive : 0 < m = omega (arith, hn) in
    let far = ltb-false ((n + (m - arc.start)) % m) arc.size e in
    let start = mod_below (arc.start + arc.size) m positive in
    let whole : arc.start + arc.size < m + m = omega (arith, is.start, is.size) in
    lt-ltb ((n + (m - (arc.start + arc.size) % m)) % m) (m - arc.size)
    (outside m arc.start arc.size n ((n + (m - arc.start)) % m) ((arc.start + arc.size) % m) ((n + (m - (arc.start + arc.size) % m)) % m) is.start is.size hn far
    (distance_is m arc.start n is.start hn) (sum_is m (arc.start + arc.size) whole) (distance_is m ((arc.start + arc.size) % m) n start hn))

pub in_literal : (m : ℕ) (arc : Arc) (n : ℕ) (b : Bool) → IsArc m arc → n < m → lies_in m arc n ≡ b → lies_in m (literal_arc m arc b) n ≡ true
in_literal m arc n true is hn e = e
in_literal m arc n false is hn e = in_other m arc n is hn e

pub literal_is_arc : (m : ℕ) (arc : Arc) (b : Bool) → 0 < m → IsArc m arc → IsArc m (literal_arc m arc b)
literal_is_arc m arc true h is = is
literal_is_arc m arc false h is = record { start = mod_below (arc.start + arc.size) m h; size = omega arith }

abbrev distance : ℕ → Arc → ℕ → ℕ
distance m arc n = (n + (m - arc.start)) % m

-- some arc of a list has the nearest start
record Nearest (m n : ℕ) (arcs : List Arc) : Type 0 where
  arc : Arc
  has : Has arcs arc
  least : (b : Arc) → Has arcs b → distance m arc n ≤ distance m b n

nearest_of : (m n : ℕ) (a : Arc) (arcs : List Arc) → Nearest m n arcs → Nearest m n (a ∷ arcs)
nearest_of m n a arcs r = ⊎_elim first later (cases_lt (distance m a n) (distance m r.arc n))
  where
    first : distance m a n < distance m r.arc n → Nearest m n (a ∷ arcs)
    first l = record {
      arc = a;
      has = inl refl;
      least = λ b h. ⊎_elim (λ e. le_of_eq (ap (λ x. distance m x n) e)) (λ k. let least = r.least b k in omega (arith, l, least)) h;
    }

    later : distance m r.arc n ≤ distance m a n → Nearest m n (a ∷ arcs)
    later g = record {
      arc = r.arc;
      has = inr r.has;
      least = λ b h. ⊎_elim (λ e. subst (λ x. distance m r.arc n ≤ distance m x n) e g) (λ k. r.least b k) h;
    }

nearest : (m n : ℕ) (a : Arc) (arcs : List Arc) → Nearest m n (a ∷ arcs)
nearest m n a [] = record { arc = a; has = inl refl; least = λ b h. ⊎_elim (λ e. le_of_eq (ap (λ x. distance m x n) e)) (λ k. absurd k) h }
nearest m n a (b ∷ arcs) = nearest_of m n a (b ∷ arcs) (nearest m n b arcs)

-- if a number lies in each arc, the start of one of them does
pub common_start : (m n : ℕ) (a : Arc) (arcs : List Arc) → n < m → ((b : Arc) → Has (a ∷ arcs) b → IsArc m b × (lies_in m b n ≡ true)) → have_common m (a ∷ arcs) ≡ true
common_start m n a arcs hn each =
    let r = nearest m n a arcs in
    any_has (λ x. list_all (λ y. lies_in m y x.start) (a ∷ arcs)) (a ∷ arcs) r.arc r.has
    (all_has (λ y. lies_in m y r.arc.start) (a ∷ arcs) (λ b h. lies r b h))
  where
    lies : (r : Nearest m n (a ∷ arcs)) (b : Arc) → Has (a ∷ arcs) b → lies_in m b r.arc.start ≡ true
    lies r b h =
        let from = (each r.arc r.has).0.start in
        let own = (each b h).0.start in
        let inside = ltb-true (distance m b n) b.size (each b h).1 in
        let sum = nearer m r.arc.start b.start n (distance m r.arc n) (distance m b n) (distance m b r.arc.start) from own hn (r.least b h)
        (distance_is m r.arc.start n from hn) (distance_is m b.start n own hn) (distance_is m b.start r.arc.start own from) in
        lt-ltb (distance m b r.arc.start) b.size (omega (arith, inside, sum))
