-- The number of each point of a side, from the places of its block among the blocks inside and among the arrivals.
use Rattle.std.proofs.Common.{◌≡◌, inl, inr, ◌<◌, ◌≤◌, ℕ, zero, suc, ◌+◌, Bool, true, false, ◌||◌, ◌&&◌, nat_eq, nat_lt, List, [], ◌∷◌, ◌++◌, length, map, flat_map, position, unwrap_or, refl, sym, ◌∙◌, ap, subst, arith, length-append}
use Rattle.std.specs.List.{list_any, position_or_len, range_with_len}
use Rattle.std.proofs.lemmas.Bool.{false≢true, eq-eqb, ne_eqb, or_parts}
use Rattle.std.proofs.lemmas.Bool.Decides.{nat_tests}
use Rattle.std.proofs.lemmas.List.Folds.{list_any-append}
use Rattle.kat_model.specs.Members.{Has}
use Rattle.flow_pieces.specs.PieceGraphs.{Point, start, inside, arrival, leaving, is_same_point, Side, side_blocks, arrivals_of, points_at, points, number_of}

-- ---- the first place where a test passes, or the length

module _ {X : Type 0} (p : X → Bool) where
  pub place_here : (x : X) (xs : List X) → p x ≡ true → position_or_len p (x ∷ xs) ≡ 0
  place_here x xs e = rw e refl

  pub place_later : (x : X) (xs : List X) → p x ≡ false → position_or_len p (x ∷ xs) ≡ suc (position_or_len p xs)
  place_later x xs e = rw e (omega arith)

  pub place_none : (xs : List X) → list_any p xs ≡ false → position_or_len p xs ≡ length xs
  place_none [] e = refl
  place_none (x ∷ xs) e =
      let parts = or_parts (p x) (list_any p xs) e in
      place_later x xs parts.0 ∙ ap suc (place_none xs parts.1)

  pub place_within : (xs : List X) → position_or_len p xs ≤ length xs
  place_within [] = omega arith
  place_within (x ∷ xs) = by_test (p x) refl (place_within xs)
    where
      by_test : (b : Bool) → p x ≡ b → position_or_len p xs ≤ length xs → position_or_len p (x ∷ xs) ≤ length (x ∷ xs)
      by_test true e le = omega (arith, place_here x xs e)
      by_test false e le = omega (arith, place_later x xs e, le)

  pub place_after : (xs ys : List X) → list_any p xs ≡ false → position_or_len p (xs ++ ys) ≡ length xs + position_or_len p ys
  place_after [] ys e = omega arith
  place_after (x ∷ xs) ys e =
      let parts = or_parts (p x) (list_any p xs) e in
      let later = place_later x (xs ++ ys) parts.0 in
      omega (arith, later, place_after xs ys parts.1)

  pub place_before : (xs ys : List X) → list_any p xs ≡ true → position_or_len p (xs ++ ys) ≡ position_or_len p xs
  place_before [] ys e = absurd (false≢true e)
  place_before (x ∷ xs) ys e = by_test (p x) refl (λ later. place_before xs ys later)
    where
      by_test : (b : Bool) → p x ≡ b → (list_any p xs ≡ true → position_or_len p (xs ++ ys) ≡ position_or_len p xs) → position_or_len p (x ∷ xs ++ ys) ≡ position_or_len p (x ∷ xs)
      by_test true h later = place_here x (xs ++ ys) h ∙ sym (place_here x xs h)
      by_test false h later =
          place_later x (xs ++ ys) h
          ∙ ap suc (later (sym (ap (λ b. b || list_any p xs) h) ∙ e))
          ∙ sym (place_later x xs h)

  pub number_is_place : (xs : List X) → unwrap_or (position p xs) (length xs) ≡ position_or_len p xs
  number_is_place xs = by_place (place_within xs)
    where
      by_place : position_or_len p xs ≤ length xs → unwrap_or (position p xs) (length xs) ≡ position_or_len p xs
      by_place le = by_test (nat_lt (position_or_len p xs) (length xs)) refl
        where
          by_test : (b : Bool) → nat_lt (position_or_len p xs) (length xs) ≡ b → unwrap_or (position p xs) (length xs) ≡ position_or_len p xs
          by_test true e = rw e refl
          by_test false e = rw e (grind (arith, nat_tests, le, e))

-- ---- tests of points

other_block : (k l : ℕ) → (k ≡ l → ⊥) → (b : Bool) → (nat_eq k l && b) ≡ false
other_block k l d b = ap (λ c. c && b) (ne_eqb k l d)

same_block : (k : ℕ) (b : Bool) → (nat_eq k k && b) ≡ b
same_block k b = ap (λ c. c && b) (eq-eqb k k refl)

inside_place : (k : ℕ) (ks : List ℕ) → position_or_len (is_same_point (inside k)) (map inside ks) ≡ position_or_len (nat_eq k) ks
inside_place k [] = refl
inside_place k (l ∷ ks) = by_test (nat_eq k l) refl (inside_place k ks)
  where
    by_test : (b : Bool) → nat_eq k l ≡ b → position_or_len (is_same_point (inside k)) (map inside ks) ≡ position_or_len (nat_eq k) ks → position_or_len (is_same_point (inside k)) (map inside (l ∷ ks)) ≡ position_or_len (nat_eq k) (l ∷ ks)
    by_test true e later =
        place_here (is_same_point (inside k)) (inside l) (map inside ks) e ∙ sym (place_here (nat_eq k) l ks e)
    by_test false e later =
        place_later (is_same_point (inside k)) (inside l) (map inside ks) e ∙ ap suc later ∙ sym (place_later (nat_eq k) l ks e)

inside_any : (k : ℕ) (ks : List ℕ) → list_any (is_same_point (inside k)) (map inside ks) ≡ list_any (nat_eq k) ks
inside_any k [] = refl
inside_any k (l ∷ ks) = ap (λ b. nat_eq k l || b) (inside_any k ks)

arrival_not_inside : (k i : ℕ) (ks : List ℕ) → list_any (is_same_point (arrival k i)) (map inside ks) ≡ false
arrival_not_inside k i [] = refl
arrival_not_inside k i (l ∷ ks) = arrival_not_inside k i ks

leaving_not_inside : (k i : ℕ) (ks : List ℕ) → list_any (is_same_point (leaving k i)) (map inside ks) ≡ false
leaving_not_inside k i [] = refl
leaving_not_inside k i (l ∷ ks) = leaving_not_inside k i ks

-- ---- the points of one arrival, from the exit of a number on

abbrev tried : ℕ → ℕ → ℕ → List Point
tried k a n = flat_map (λ i. arrival k i ∷ leaving k i ∷ []) (range_with_len a n)

-- the points of block k where n exits are left to try, from number a on
abbrev pub points_from : ℕ → ℕ → ℕ → List Point
points_from k a n = tried k a n ++ arrival k (a + n) ∷ []

tried_none : (x : Point) (k : ℕ) → ((i : ℕ) → is_same_point x (arrival k i) ≡ false) → ((i : ℕ) → is_same_point x (leaving k i) ≡ false) → (a n : ℕ) → list_any (is_same_point x) (tried k a n) ≡ false
tried_none x k f g a zero = refl
tried_none x k f g a (suc n) = rw (f a, g a) (tried_none x k f g (a + 1) n)

points_none : (x : Point) (k : ℕ) → ((i : ℕ) → is_same_point x (arrival k i) ≡ false) → ((i : ℕ) → is_same_point x (leaving k i) ≡ false) → (a n : ℕ) → list_any (is_same_point x) (points_from k a n) ≡ false
points_none x k f g a n =
    list_any-append (is_same_point x) (tried k a n) (arrival k (a + n) ∷ [])
    ∙ ap (λ b. b || (is_same_point x (arrival k (a + n)) || false)) (tried_none x k f g a n)
    ∙ ap (λ b. b || false) (f (a + n))

tried_length : (k a n : ℕ) → length (tried k a n) ≡ n + n
tried_length k a zero = refl
tried_length k a (suc n) = omega (arith, tried_length k (a + 1) n)

pub points_length : (k a n : ℕ) → length (points_from k a n) ≡ n + n + 1
points_length k a n = omega (arith, length-append (tried k a n) (arrival k (a + n) ∷ []), tried_length k a n)

-- the first point of an arrival
first_point : (k a n : ℕ) → position_or_len (is_same_point (arrival k a)) (points_from k a n) ≡ 0
first_point k a zero =
    place_here (is_same_point (arrival k a)) (arrival k (a + 0)) [] (same_block k (nat_eq a (a + 0)) ∙ eq-eqb a (a + 0) (omega arith))
first_point k a (suc n) =
    place_here (is_same_point (arrival k a)) (arrival k a) (leaving k a ∷ (tried k (a + 1) n ++ arrival k (a + suc n) ∷ [])) (same_block k (nat_eq a a) ∙ eq-eqb a a refl)

-- one exit is tried before the others
pub shifted : (k a n : ℕ) → points_from k a (suc n) ≡ arrival k a ∷ leaving k a ∷ points_from k (a + 1) n
shifted k a n = ap (λ j. arrival k a ∷ leaving k a ∷ (tried k (a + 1) n ++ arrival k j ∷ [])) (let e : a + suc n ≡ a + 1 + n = omega arith in e)

pub arrival_place : (k a n d : ℕ) → d ≤ n → position_or_len (is_same_point (arrival k (a + d))) (points_from k a n) ≡ d + d
arrival_place k a n zero le =
    ap (λ j. position_or_len (is_same_point (arrival k j)) (points_from k a n)) (let e : a + 0 ≡ a = omega arith in e) ∙ first_point k a n
arrival_place k a zero (suc d) le = absurd (omega (arith, le))
arrival_place k a (suc n) (suc d) le =
    let x = arrival k (a + suc d) in
    let unlike : is_same_point x (arrival k a) ≡ false = same_block k (nat_eq (a + suc d) a) ∙ ne_eqb (a + suc d) a (λ e. omega (arith, e)) in
    let moved : a + suc d ≡ a + 1 + d = omega arith in
    let later = ap (λ j. position_or_len (is_same_point (arrival k j)) (points_from k (a + 1) n)) moved ∙ arrival_place k (a + 1) n d (omega (arith, le)) in
    let first = ap (position_or_len (is_same_point x)) (shifted k a n) ∙ place_later (is_same_point x) (arrival k a) (leaving k a ∷ points_from k (a + 1) n) unlike ∙ ap suc (place_later (is_same_point x) (leaving k a) (points_from k (a + 1) n) refl) in
    omega (arith, first, later)

pub leaving_place : (k a n d : ℕ) → d < n → position_or_len (is_same_point (leaving k (a + d))) (points_from k a n) ≡ d + d + 1
leaving_place k a zero d lt = absurd (omega (arith, lt))
leaving_place k a (suc n) zero lt =
    let x = leaving k (a + 0) in
    let alike : is_same_point x (leaving k a) ≡ true = same_block k (nat_eq (a + 0) a) ∙ eq-eqb (a + 0) a (omega arith) in
    ap (position_or_len (is_same_point x)) (shifted k a n)
    ∙ place_later (is_same_point x) (arrival k a) (leaving k a ∷ points_from k (a + 1) n) refl
    ∙ ap suc (place_here (is_same_point x) (leaving k a) (points_from k (a + 1) n) alike)
leaving_place k a (suc n) (suc d) lt =
    let x = leaving k (a + suc d) in
    let unlike : is_same_point x (leaving k a) ≡ false = same_block k (nat_eq (a + suc d) a) ∙ ne_eqb (a + suc d) a (λ e. omega (arith, e)) in
    let moved : a + suc d ≡ a + 1 + d = omega arith in
    let later = ap (λ j. position_or_len (is_same_point (leaving k j)) (points_from k (a + 1) n)) moved ∙ leaving_place k (a + 1) n d (omega (arith, lt)) in
    let first = ap (position_or_len (is_same_point x)) (shifted k a n) ∙ place_later (is_same_point x) (arrival k a) (leaving k a ∷ points_from k (a + 1) n) refl ∙ ap suc (place_later (is_same_point x) (leaving k a) (points_from k (a + 1) n) unlike) in
    omega (arith, first, later)

arrival_any : (k a n d : ℕ) → d ≤ n → list_any (is_same_point (arrival k (a + d))) (points_from k a n) ≡ true
arrival_any k a n d le = by_test (list_any (is_same_point (arrival k (a + d))) (points_from k a n)) refl
  where
    by_test : (b : Bool) → list_any (is_same_point (arrival k (a + d))) (points_from k a n) ≡ b → b ≡ true
    by_test true e = refl
    by_test false e =
        absurd (omega (arith, le, place_none (is_same_point (arrival k (a + d))) (points_from k a n) e, arrival_place k a n d le, points_length k a n))

leaving_any : (k a n d : ℕ) → d < n → list_any (is_same_point (leaving k (a + d))) (points_from k a n) ≡ true
leaving_any k a n d lt = by_test (list_any (is_same_point (leaving k (a + d))) (points_from k a n)) refl
  where
    by_test : (b : Bool) → list_any (is_same_point (leaving k (a + d))) (points_from k a n) ≡ b → b ≡ true
    by_test true e = refl
    by_test false e =
        absurd (omega (arith, lt, place_none (is_same_point (leaving k (a + d))) (points_from k a n) e, leaving_place k a n d lt, points_length k a n))

-- ---- the points of a side

module _ (s : Side) where
  abbrev pub leaves_at : ℕ → ℕ
  leaves_at k = length (s.leaves k)

  pub points_are : (k : ℕ) → points_at s k ≡ points_from k 0 (leaves_at k)
  points_are k = ap (λ j. tried k 0 (leaves_at k) ++ arrival k j ∷ []) (let e : leaves_at k ≡ 0 + leaves_at k = omega arith in e)

  pub points_at_length : (k : ℕ) → length (points_at s k) ≡ leaves_at k + leaves_at k + 1
  points_at_length k = ap length (points_are k) ∙ points_length k 0 (leaves_at k)

  pub number_place : (x : Point) → number_of s x ≡ position_or_len (is_same_point x) (points s)
  number_place x = number_is_place (is_same_point x) (points s)

  abbrev pub arrived : List ℕ → List Point
  arrived ks = flat_map (points_at s) ks

  -- no point of other arrivals is one of block k
  inside_not_there : (k l : ℕ) → list_any (is_same_point (inside k)) (points_at s l) ≡ false
  inside_not_there k l = ap (list_any (is_same_point (inside k))) (points_are l) ∙ points_none (inside k) l (λ i. refl) (λ i. refl) 0 (leaves_at l)

  arrival_not_there : (k i l : ℕ) → (k ≡ l → ⊥) → list_any (is_same_point (arrival k i)) (points_at s l) ≡ false
  arrival_not_there k i l d = ap (list_any (is_same_point (arrival k i))) (points_are l) ∙ points_none (arrival k i) l (λ j. other_block k l d (nat_eq i j)) (λ j. refl) 0 (leaves_at l)

  leaving_not_there : (k i l : ℕ) → (k ≡ l → ⊥) → list_any (is_same_point (leaving k i)) (points_at s l) ≡ false
  leaving_not_there k i l d = ap (list_any (is_same_point (leaving k i))) (points_are l) ∙ points_none (leaving k i) l (λ j. refl) (λ j. other_block k l d (nat_eq i j)) 0 (leaves_at l)

  none_arrived : (x : Point) (ks : List ℕ) → ((l : ℕ) → Has ks l → list_any (is_same_point x) (points_at s l) ≡ false) → list_any (is_same_point x) (arrived ks) ≡ false
  none_arrived x [] f = refl
  none_arrived x (k ∷ ks) f =
      list_any-append (is_same_point x) (points_at s k) (arrived ks)
      ∙ ap (λ b. b || list_any (is_same_point x) (arrived ks)) (f k (inl refl))
      ∙ none_arrived x ks (λ l h. f l (inr h))

  abbrev blocks : List ℕ
  blocks = side_blocks s

  abbrev places : List ℕ
  places = arrivals_of s.graph s.is_matched (side_blocks s)

  -- the number of a block inside
  pub inside_number : (k : ℕ) → list_any (nat_eq k) blocks ≡ true → number_of s (inside k) ≡ 1 + position_or_len (nat_eq k) blocks
  inside_number k e =
      let x = inside k in
      let first = place_later (is_same_point x) start (map inside blocks ++ arrived places) refl in
      let within = place_before (is_same_point x) (map inside blocks) (arrived places) (inside_any k blocks ∙ e) ∙ inside_place k blocks in
      omega (arith, number_place x, first, within)

  pub inside_missing : (k : ℕ) → list_any (nat_eq k) blocks ≡ false → number_of s (inside k) ≡ length (points s)
  inside_missing k e =
      let x = inside k in
      number_place x
      ∙ place_none (is_same_point x) (points s)
      (list_any-append (is_same_point x) (map inside blocks) (arrived places)
      ∙ ap (λ b. b || list_any (is_same_point x) (arrived places)) (inside_any k blocks ∙ e)
      ∙ none_arrived x places (λ l h. inside_not_there k l))

  pub arrival_missing : (k i : ℕ) → (Has places k → ⊥) → number_of s (arrival k i) ≡ length (points s)
  arrival_missing k i off =
      let x = arrival k i in
      number_place x
      ∙ place_none (is_same_point x) (points s)
      (list_any-append (is_same_point x) (map inside blocks) (arrived places)
      ∙ ap (λ b. b || list_any (is_same_point x) (arrived places)) (arrival_not_inside k i blocks)
      ∙ none_arrived x places (λ l h. arrival_not_there k i l (λ e. off (subst (Has places) (sym e) h))))

  -- the place of a point of an arrival among those of some arrivals
  pub arrival_first : (k d : ℕ) (ks : List ℕ) → d ≤ leaves_at k → position_or_len (is_same_point (arrival k d)) (arrived (k ∷ ks)) ≡ d + d
  arrival_first k d ks le =
      let zero_first : 0 + d ≡ d = omega arith in
      place_before (is_same_point (arrival k d)) (points_at s k) (arrived ks)
      (ap (list_any (is_same_point (arrival k d))) (points_are k) ∙ ap (λ j. list_any (is_same_point (arrival k j)) (points_from k 0 (leaves_at k))) (sym zero_first) ∙ arrival_any k 0 (leaves_at k) d le)
      ∙ ap (position_or_len (is_same_point (arrival k d))) (points_are k)
      ∙ ap (λ j. position_or_len (is_same_point (arrival k j)) (points_from k 0 (leaves_at k))) (sym zero_first)
      ∙ arrival_place k 0 (leaves_at k) d le

  pub leaving_first : (k d : ℕ) (ks : List ℕ) → d < leaves_at k → position_or_len (is_same_point (leaving k d)) (arrived (k ∷ ks)) ≡ d + d + 1
  leaving_first k d ks lt =
      let zero_first : 0 + d ≡ d = omega arith in
      place_before (is_same_point (leaving k d)) (points_at s k) (arrived ks)
      (ap (list_any (is_same_point (leaving k d))) (points_are k) ∙ ap (λ j. list_any (is_same_point (leaving k j)) (points_from k 0 (leaves_at k))) (sym zero_first) ∙ leaving_any k 0 (leaves_at k) d lt)
      ∙ ap (position_or_len (is_same_point (leaving k d))) (points_are k)
      ∙ ap (λ j. position_or_len (is_same_point (leaving k j)) (points_from k 0 (leaves_at k))) (sym zero_first)
      ∙ leaving_place k 0 (leaves_at k) d lt

  pub arrival_later : (k d l : ℕ) (ks : List ℕ) → (k ≡ l → ⊥) → position_or_len (is_same_point (arrival k d)) (arrived (l ∷ ks)) ≡ leaves_at l + leaves_at l + 1 + position_or_len (is_same_point (arrival k d)) (arrived ks)
  arrival_later k d l ks other =
      place_after (is_same_point (arrival k d)) (points_at s l) (arrived ks) (arrival_not_there k d l other)
      ∙ ap (λ n. n + position_or_len (is_same_point (arrival k d)) (arrived ks)) (points_at_length l)

  pub leaving_later : (k d l : ℕ) (ks : List ℕ) → (k ≡ l → ⊥) → position_or_len (is_same_point (leaving k d)) (arrived (l ∷ ks)) ≡ leaves_at l + leaves_at l + 1 + position_or_len (is_same_point (leaving k d)) (arrived ks)
  leaving_later k d l ks other =
      place_after (is_same_point (leaving k d)) (points_at s l) (arrived ks) (leaving_not_there k d l other)
      ∙ ap (λ n. n + position_or_len (is_same_point (leaving k d)) (arrived ks)) (points_at_length l)

  -- the number of a point of an arrival, from its place among them
  pub arrival_number : (k d : ℕ) → number_of s (arrival k d) ≡ 1 + length blocks + position_or_len (is_same_point (arrival k d)) (arrived places)
  arrival_number k d =
      let x = arrival k d in
      let first = place_later (is_same_point x) start (map inside blocks ++ arrived places) refl in
      let after = place_after (is_same_point x) (map inside blocks) (arrived places) (arrival_not_inside k d blocks) in
      omega (arith, number_place x, first, after, mapped_length blocks)
    where
      mapped_length : (ks : List ℕ) → length (map inside ks) ≡ length ks
      mapped_length [] = refl
      mapped_length (l ∷ ks) = ap suc (mapped_length ks)

  pub leaving_number : (k d : ℕ) → number_of s (leaving k d) ≡ 1 + length blocks + position_or_len (is_same_point (leaving k d)) (arrived places)
  leaving_number k d =
      let x = leaving k d in
      let first = place_later (is_same_point x) start (map inside blocks ++ arrived places) refl in
      let after = place_after (is_same_point x) (map inside blocks) (arrived places) (leaving_not_inside k d blocks) in
      omega (arith, number_place x, first, after, mapped_length blocks)
    where
      mapped_length : (ks : List ℕ) → length (map inside ks) ≡ length ks
      mapped_length [] = refl
      mapped_length (l ∷ ks) = ap suc (mapped_length ks)
