-- The elimination of places keeps what the paths of a graph relate.
use Rattle.std.proofs.Common.{◌≡◌, ℕ, zero, suc, ◌<◌, ◌⊎◌, inl, inr, ⊎_elim, ◌↔◌, Bool, true, false, if◌then◌else◌, List, [], ◌∷◌, refl, sym, subst, arith}
use Rattle.std.proofs.lemmas.Bool.{cases_lt}
use Rattle.kat_model.specs.Trees.{Term, zero as nought, one, sum, product, star}
use Rattle.kat_model.specs.Relations.{Frame, Along, RelatesIn}
use Rattle.flow_places.specs.Elimination.{is_nought, is_unit, plus, times, repeated, around_place, steps_without, ends_without, eliminated}

nought_is : (e : Term) → is_nought e ≡ true → e ≡ nought
nought_is nought h = refl
nought_is _ h = absurd cc

unit_is : (e : Term) → is_unit e ≡ true → e ≡ one
unit_is one h = refl
unit_is _ h = absurd cc

module _ {S : Type 0} (frame : Frame S) where
  -- ---- terms with what is 0 or 1 left out

  no_nought : (e : Term) → e ≡ nought → (i j : S) → RelatesIn frame e i j → ⊥
  no_nought e h i j r = subst (λ x. RelatesIn frame x i j) h r

  unit_own : (e : Term) → e ≡ one → (i : S) → RelatesIn frame e i i
  unit_own e h i = subst (λ x. RelatesIn frame x i i) (sym h) refl

  unit_same : (e : Term) → e ≡ one → (i j : S) → RelatesIn frame e i j → i ≡ j
  unit_same e h i j r = subst (λ x. RelatesIn frame x i j) h r

  pub plus_relates : (e f : Term) (i j : S) → RelatesIn frame (plus e f) i j ↔ (RelatesIn frame e i j ⊎ RelatesIn frame f i j)
  plus_relates e f i j = by_tests (is_nought e) (is_nought f) (nought_is e) (nought_is f)
    where
      by_tests : (p q : Bool) → (p ≡ true → e ≡ nought) → (q ≡ true → f ≡ nought) →
          RelatesIn frame (if p then f else if q then e else sum e f) i j ↔ (RelatesIn frame e i j ⊎ RelatesIn frame f i j)
      by_tests true q g h = ((λ r. inr r), (λ r. ⊎_elim (λ a. absurd (no_nought e (g refl) i j a)) (λ b. b) r))
      by_tests false true g h = ((λ r. inl r), (λ r. ⊎_elim (λ a. a) (λ b. absurd (no_nought f (h refl) i j b)) r))
      by_tests false false g h = ((λ r. r), (λ r. r))

  pub times_relates : (e f : Term) (i j : S) → frame.IsState i → frame.IsState j → RelatesIn frame (times e f) i j ↔ RelatesIn frame (product e f) i j
  times_relates e f i j si sj = by_tests (is_nought e) (is_nought f) (is_unit e) (is_unit f) (nought_is e) (nought_is f) (unit_is e) (unit_is f)
    where
      by_tests : (p q u v : Bool) → (p ≡ true → e ≡ nought) → (q ≡ true → f ≡ nought) → (u ≡ true → e ≡ one) → (v ≡ true → f ≡ one) →
          RelatesIn frame (if p then nought else if q then nought else if u then f else if v then e else product e f) i j ↔ RelatesIn frame (product e f) i j
      by_tests true q u v g h k l = ((λ r. absurd r), (λ r. no_nought e (g refl) i r.0 r.2))
      by_tests false true u v g h k l = ((λ r. absurd r), (λ r. no_nought f (h refl) r.0 j r.3))
      by_tests false false true v g h k l = (
        (λ r. (i, si, unit_own e (k refl) i, r)),
        (λ r. subst (λ x. RelatesIn frame f x j) (sym (unit_same e (k refl) i r.0 r.2)) r.3),
      )
      by_tests false false false true g h k l = (
        (λ r. (j, sj, r, unit_own f (l refl) j)),
        (λ r. subst (λ x. RelatesIn frame e i x) (unit_same f (l refl) r.0 j r.3) r.2),
      )
      by_tests false false false false g h k l = ((λ r. r), (λ r. r))

  along_nought : (e : Term) → e ≡ nought → (ks : List S) (i j : S) → Along frame.IsState (RelatesIn frame e) i ks j → i ≡ j
  along_nought e h [] i j a = a
  along_nought e h (k ∷ ks) i j a = absurd (no_nought e h i k a.1)

  pub repeated_relates : (e : Term) (i j : S) → RelatesIn frame (repeated e) i j ↔ RelatesIn frame (star e) i j
  repeated_relates e i j = by_test (is_nought e) (nought_is e)
    where
      by_test : (p : Bool) → (p ≡ true → e ≡ nought) → RelatesIn frame (if p then one else star e) i j ↔ RelatesIn frame (star e) i j
      by_test true g = ((λ r. ([], r)), (λ r. along_nought e (g refl) r.0 i j r.1))
      by_test false g = ((λ r. r), (λ r. r))

  -- from i to place k, around it, and on
  pub through_relates : (steps : ℕ → ℕ → Term) (k i : ℕ) (rest : Term) (s t : S) → frame.IsState s → frame.IsState t →
      RelatesIn frame (around_place steps k i rest) s t ↔ RelatesIn frame (product (steps i k) (product (star (steps k k)) rest)) s t
  through_relates steps k i rest s t ss st = (forth, back)
    where
      forth : RelatesIn frame (around_place steps k i rest) s t → RelatesIn frame (product (steps i k) (product (star (steps k k)) rest)) s t
      forth r =
          let a = (times_relates (steps i k) (times (repeated (steps k k)) rest) s t ss st).0 r in
          let b = (times_relates (repeated (steps k k)) rest a.0 t a.1 st).0 a.3 in
          (a.0, a.1, a.2, (b.0, b.1, (repeated_relates (steps k k) a.0 b.0).0 b.2, b.3))

      back : RelatesIn frame (product (steps i k) (product (star (steps k k)) rest)) s t → RelatesIn frame (around_place steps k i rest) s t
      back r =
          let b = r.3 in
          (times_relates (steps i k) (times (repeated (steps k k)) rest) s t ss st).1
          (r.0, r.1, r.2, (times_relates (repeated (steps k k)) rest r.0 t r.1 st).1 (b.0, b.1, (repeated_relates (steps k k) r.0 b.0).1 b.2, b.3))

  -- ---- paths

  -- a path of m steps over the places below n, from place i to the end
  abbrev pub PathOf : ℕ → (ℕ → ℕ → Term) → (ℕ → Term) → ℕ → ℕ → S → S → Type 0
  PathOf n steps ends zero i s t = RelatesIn frame (ends i) s t
  PathOf n steps ends (suc m) i s t = (j : ℕ) × (j < n) × (u : S) × frame.IsState u × RelatesIn frame (steps i j) s u × PathOf n steps ends m j u t

  abbrev pub HasPath : ℕ → (ℕ → ℕ → Term) → (ℕ → Term) → ℕ → S → S → Type 0
  HasPath n steps ends i s t = (m : ℕ) × PathOf n steps ends m i s t

  -- around place n, then on
  loops : (n : ℕ) (steps : ℕ → ℕ → Term) (ends : ℕ → Term) (ks : List S) (s v t : S) → Along frame.IsState (RelatesIn frame (steps n n)) s ks v →
      HasPath (suc n) steps ends n v t → HasPath (suc n) steps ends n s t
  loops n steps ends [] s v t a p = subst (λ x. HasPath (suc n) steps ends n x t) (sym a) p
  loops n steps ends (k ∷ ks) s v t a p =
      let rest = loops n steps ends ks k v t a.2 p in
      (suc rest.0, (n, omega arith, k, a.0, a.1, rest.1))

  module _ (n : ℕ) (steps : ℕ → ℕ → Term) (ends : ℕ → Term) where
    abbrev fewer_steps : ℕ → ℕ → Term
    fewer_steps = steps_without steps n

    abbrev fewer_ends : ℕ → Term
    fewer_ends = ends_without steps ends n

    -- how a path goes on from place n: around it, and then to the end, or to an earlier place
    abbrev GoesOn : S → S → Type 0
    GoesOn v t = RelatesIn frame (ends n) v t ⊎ ((j : ℕ) × (j < n) × (w : S) × frame.IsState w × RelatesIn frame (steps n j) v w × HasPath n fewer_steps fewer_ends j w t)

    abbrev Leaves : S → S → Type 0
    Leaves s t = (v : S) × frame.IsState v × RelatesIn frame (star (steps n n)) s v × GoesOn v t

    step_first : (i j : ℕ) (s u t : S) → j < n → frame.IsState u → RelatesIn frame (steps i j) s u → HasPath n fewer_steps fewer_ends j u t → HasPath n fewer_steps fewer_ends i s t
    step_first i j s u t lt su r p = (suc p.0, (j, lt, u, su, (plus_relates (steps i j) (around_place steps n i (steps n j)) s u).1 (inl r), p.1))

    around_first : (i : ℕ) (s u t : S) → frame.IsState s → frame.IsState u → frame.IsState t → RelatesIn frame (steps i n) s u → Leaves u t → HasPath n fewer_steps fewer_ends i s t
    around_first i s u t ss su st r (v, sv, loop, inl e) =
        (0, (plus_relates (ends i) (around_place steps n i (ends n)) s t).1 (inr ((through_relates steps n i (ends n) s t ss st).1 (u, su, r, (v, sv, loop, e)))))
    around_first i s u t ss su st r (v, sv, loop, inr (j, lt, w, sw, g, p)) =
        (suc p.0, (j, lt, w, sw, (plus_relates (steps i j) (around_place steps n i (steps n j)) s w).1 (inr ((through_relates steps n i (steps n j) s w ss sw).1 (u, su, r, (v, sv, loop, g)))), p.1))

    -- paths over another place are paths over these
    record Shortened (m : ℕ) : Type 0 where
      earlier : (i : ℕ) (s t : S) → i < n → frame.IsState s → frame.IsState t → PathOf (suc n) steps ends m i s t → HasPath n fewer_steps fewer_ends i s t
      last : (s t : S) → frame.IsState s → frame.IsState t → PathOf (suc n) steps ends m n s t → Leaves s t

    earlier_step : (m i : ℕ) (s t : S) → Shortened m → i < n → frame.IsState s → frame.IsState t → PathOf (suc n) steps ends (suc m) i s t → HasPath n fewer_steps fewer_ends i s t
    earlier_step m i s t later lt ss st (j, below, u, su, r, p) =
        ⊎_elim
        (λ l. step_first i j s u t l su r (later.earlier j u t l su st p))
        (λ g.
        let e : j ≡ n = omega arith in
        around_first i s u t ss su st (subst (λ x. RelatesIn frame (steps i x) s u) e r) (later.last u t su st (subst (λ x. PathOf (suc n) steps ends m x u t) e p)))
        (cases_lt j n)

    last_step : (m : ℕ) (s t : S) → Shortened m → frame.IsState s → frame.IsState t → PathOf (suc n) steps ends (suc m) n s t → Leaves s t
    last_step m s t later ss st (j, below, u, su, r, p) =
        ⊎_elim
        (λ l. (s, ss, ([], refl), inr (j, l, u, su, r, later.earlier j u t l su st p)))
        (λ g.
        let e : j ≡ n = omega arith in
        let on = later.last u t su st (subst (λ x. PathOf (suc n) steps ends m x u t) e p) in
        (on.0, on.1, (u ∷ on.2.0, (su, subst (λ x. RelatesIn frame (steps n x) s u) e r, on.2.1)), on.3))
        (cases_lt j n)

    shortened : (m : ℕ) → Shortened m
    shortened zero = record {
      earlier = λ i s t lt ss st p. (0, (plus_relates (ends i) (around_place steps n i (ends n)) s t).1 (inl p));
      last = λ s t ss st p. (s, ss, ([], refl), inl p);
    }
    shortened (suc m) = record {
      earlier = λ i s t lt ss st p. earlier_step m i s t (shortened m) lt ss st p;
      last = λ s t ss st p. last_step m s t (shortened m) ss st p;
    }

    -- and the converse
    end_lengthened : (i : ℕ) (s t : S) → frame.IsState s → frame.IsState t → RelatesIn frame (fewer_ends i) s t → HasPath (suc n) steps ends i s t
    end_lengthened i s t ss st r =
        ⊎_elim
        (λ e. (0, e))
        (λ g.
        let a = (through_relates steps n i (ends n) s t ss st).0 g in
        let b = a.3 in
        let p = loops n steps ends b.2.0 a.0 b.0 t b.2.1 (0, b.3) in
        (suc p.0, (n, omega arith, a.0, a.1, a.2, p.1)))
        ((plus_relates (ends i) (around_place steps n i (ends n)) s t).0 r)

    step_lengthened : (i j : ℕ) (s u t : S) → j < n → frame.IsState s → frame.IsState u → RelatesIn frame (fewer_steps i j) s u → HasPath (suc n) steps ends j u t → HasPath (suc n) steps ends i s t
    step_lengthened i j s u t lt ss su r p =
        ⊎_elim
        (λ e. (suc p.0, (j, omega arith, u, su, e, p.1)))
        (λ g.
        let a = (through_relates steps n i (steps n j) s u ss su).0 g in
        let b = a.3 in
        let q = loops n steps ends b.2.0 a.0 b.0 t b.2.1 (suc p.0, (j, omega arith, u, su, b.3, p.1)) in
        (suc q.0, (n, omega arith, a.0, a.1, a.2, q.1)))
        ((plus_relates (steps i j) (around_place steps n i (steps n j)) s u).0 r)

    lengthened : (m i : ℕ) (s t : S) → frame.IsState s → frame.IsState t → PathOf n fewer_steps fewer_ends m i s t → HasPath (suc n) steps ends i s t
    lengthened zero i s t ss st p = end_lengthened i s t ss st p
    lengthened (suc m) i s t ss st (j, lt, u, su, r, p) = step_lengthened i j s u t lt ss su r (lengthened m j u t su st p)

  -- the only place: around it, then to the end
  last_place : (steps : ℕ → ℕ → Term) (ends : ℕ → Term) (s t : S) → Leaves 0 steps ends s t → RelatesIn frame (product (star (steps 0 0)) (ends 0)) s t
  last_place steps ends s t (v, sv, loop, inl e) = (v, sv, loop, e)
  last_place steps ends s t (v, sv, loop, inr (j, lt, w, sw, r, p)) = absurd (omega arith)

  -- the term relates what the paths from place 0 relate
  pub elimination : (k : ℕ) (steps : ℕ → ℕ → Term) (ends : ℕ → Term) (s t : S) → frame.IsState s → frame.IsState t →
      RelatesIn frame (eliminated k steps ends) s t ↔ HasPath (suc k) steps ends 0 s t
  elimination zero steps ends s t ss st = (
    (λ r.
        let a = (times_relates (repeated (steps 0 0)) (ends 0) s t ss st).0 r in
        let loop = (repeated_relates (steps 0 0) s a.0).0 a.2 in
        loops 0 steps ends loop.0 s a.0 t loop.1 (0, a.3)),
    (λ p.
        let a = last_place steps ends s t ((shortened 0 steps ends p.0).last s t ss st p.1) in
        (times_relates (repeated (steps 0 0)) (ends 0) s t ss st).1 (a.0, a.1, (repeated_relates (steps 0 0) s a.0).1 a.2, a.3)),
  )
  elimination (suc k) steps ends s t ss st =
      let less = elimination k (steps_without steps (suc k)) (ends_without steps ends (suc k)) s t ss st in (
        (λ r. let p = less.0 r in lengthened (suc k) steps ends p.0 0 s t ss st p.1),
        (λ p. less.1 ((shortened (suc k) steps ends p.0).earlier 0 s t (omega arith) ss st p.1)),
      )
