-- Images of sets of numbers under relations: the empty one, the identity, tests, actions, compositions, unions
-- and closures.
use Rattle.std.proofs.Common.{◌≡◌, ℕ, zero, suc, ◌<◌, ◌≤◌, ◌↔◌, ⊎_elim, inl, inr, List, [], ◌∷◌, Bool, true, false, ◌&&◌, ◌||◌, eqb, refl, sym, ap, ◌∙◌, arith, length, slice_index_or, slice_set, get_or-set_same, get_or-set_other}
use mathlib.Core.Path.{ap₂}
use Rattle.std.specs.Bool.{IsTrue}
use Rattle.std.specs.List.{list_any}
use Rattle.std.proofs.Math.Bool.{or-false}
use Rattle.std.proofs.lemmas.Bool.{and_right, eq-eqb, ne_eqb, cases_lt, cases_eq}
use Rattle.kat_model.specs.Members.{Has}
use Rattle.kat_model.specs.Trees.{Term}
use Rattle.kat_model.specs.Relations.{Step, Table, Relates}
use Rattle.kat_model.specs.Working.Decided.{some_below, same_step, computes_relation}
use Rattle.kat_model.proofs.Decided.{relates_now_decides}
use Rattle.string_tables.specs.Working.Matrices.{Square, entry, Represents, in_image, IsImage}
use Rattle.string_tables.proofs.Reported.{some_below_same}

-- laws of `and` and `or`

pub and_over_or : (a b c : Bool) → (a && (b || c)) ≡ ((a && b) || (a && c))
and_over_or true b c = refl
and_over_or false b c = refl

and_swap : (a b c : Bool) → (a && (b && c)) ≡ (b && (a && c))
and_swap true b c = refl
and_swap false true c = refl
and_swap false false c = refl

and_comm : (a b : Bool) → (a && b) ≡ (b && a)
and_comm true true = refl
and_comm true false = refl
and_comm false true = refl
and_comm false false = refl

and_rotate : (a b c : Bool) → (a && (b && c)) ≡ (b && (c && a))
and_rotate a b c = and_swap a b c ∙ ap (λ d. b && d) (and_comm a c)

pub or_exchange : (a b c d : Bool) → ((a || b) || (c || d)) ≡ ((a || c) || (b || d))
or_exchange true b c d = refl
or_exchange false true true d = refl
or_exchange false true false d = refl
or_exchange false false c d = refl

-- laws of `some_below`: the constant `false`, a disjunction, a constant factor, and two nested searches in either order

none_below : (n : ℕ) → some_below (λ k. false) n ≡ false
none_below zero = refl
none_below (suc n) = none_below n

some_below_or : (p q : ℕ → Bool) (n : ℕ) → some_below (λ k. p k || q k) n ≡ (some_below p n || some_below q n)
some_below_or p q zero = refl
some_below_or p q (suc n) = ap (λ b. (p n || q n) || b) (some_below_or p q n) ∙ or_exchange (p n) (q n) (some_below p n) (some_below q n)

some_below_and : (b : Bool) (p : ℕ → Bool) (n : ℕ) → some_below (λ k. b && p k) n ≡ (b && some_below p n)
some_below_and true p n = refl
some_below_and false p n = none_below n

some_below_swap : (p : ℕ → ℕ → Bool) (m n : ℕ) → some_below (λ k. some_below (λ i. p i k) m) n ≡ some_below (λ i. some_below (p i) n) m
some_below_swap p m zero = sym (none_below m)
some_below_swap p m (suc n) =
    ap (λ b. some_below (λ i. p i n) m || b) (some_below_swap p m n) ∙ sym (some_below_or (λ i. p i n) (λ i. some_below (p i) n) m)

-- a search for the number j

past_all : (p : ℕ → Bool) (n j : ℕ) → n ≤ j → some_below (λ i. eqb i j && p i) n ≡ false
past_all p zero j le = refl
past_all p (suc n) j le =
    let differ : eqb n j ≡ false = ne_eqb n j (λ e. omega arith) in
    let rest : some_below (λ i. eqb i j && p i) n ≡ false = past_all p n j (omega arith) in
    rw (differ, rest) refl

some_below_is : (p : ℕ → Bool) (n j : ℕ) → j < n → some_below (λ i. eqb i j && p i) n ≡ p j
some_below_is p zero j lt = absurd (omega arith)
some_below_is p (suc n) j lt = ⊎_elim (λ l. before l (some_below_is p n j l)) here (cases_lt j n)
  where
    before : j < n → some_below (λ i. eqb i j && p i) n ≡ p j → some_below (λ i. eqb i j && p i) (suc n) ≡ p j
    before l is =
        let differ : eqb n j ≡ false = ne_eqb n j (λ e. omega arith) in
        rw differ is

    here : n ≤ j → some_below (λ i. eqb i j && p i) (suc n) ≡ p j
    here g =
        let is : n ≡ j = omega arith in
        let same : eqb n j ≡ true = eq-eqb n j is in
        let rest : some_below (λ i. eqb i j && p i) n ≡ false = past_all p n j g in
        rw (same, rest) (or-false (p n) ∙ ap p is)

some_below_kept : (p q : ℕ → Bool) (n j : ℕ) → j < n → some_below (λ i. p i && (eqb i j && q i)) n ≡ (p j && q j)
some_below_kept p q n j lt =
    some_below_same _ (λ i. eqb i j && (p i && q i)) n (λ i li. and_swap (p i) (eqb i j) (q i)) ∙ some_below_is (λ i. p i && q i) n j lt

-- the image of a set

module _ (n : ℕ) (row : List Bool) where
  abbrev in_set : ℕ → Bool
  in_set i = slice_index_or row i false

  -- under the empty relation
  in_empty : some_below (λ i. in_set i && false) n ≡ false
  in_empty = some_below_same _ (λ i. false) n (λ i li. and_right (in_set i) false refl) ∙ none_below n

  pub image_empty : (to : List Bool) → ((j : ℕ) → j < n → slice_index_or to j false ≡ false) → IsImage n row (λ i j. false) to
  image_empty to cleared j lj = cleared j lj ∙ sym in_empty

  -- under the identity
  pub image_identity : IsImage n row (λ i j. eqb i j) row
  image_identity j lj =
      sym (some_below_same _ (λ i. eqb i j && in_set i) n (λ i li. and_comm (in_set i) (eqb i j)) ∙ some_below_is in_set n j lj)

  -- under a test
  pub image_test : (truths : ℕ → Bool) (to : List Bool) → ((j : ℕ) → j < n → slice_index_or to j false ≡ (slice_index_or row j false && truths j)) → IsImage n row (λ i j. eqb i j && truths i) to
  image_test truths to kept j lj = kept j lj ∙ sym (some_below_kept in_set truths n j lj)

  in_union : (r q : ℕ → ℕ → Bool) (j : ℕ) → in_image n row (λ i k. r i k || q i k) j ≡ (in_image n row r j || in_image n row q j)
  in_union r q j =
      some_below_same _ (λ i. (in_set i && r i j) || (in_set i && q i j)) n (λ i li. and_over_or (in_set i) (r i j) (q i j)) ∙ some_below_or (λ i. in_set i && r i j) (λ i. in_set i && q i j) n

  -- under an action: the move leads from the set by the action to j
  abbrev pub goes : ℕ → ℕ → Step → Bool
  goes act j m = in_set m.from && (eqb act m.act && eqb j m.to)

  pub in_moves : (act j : ℕ) (ms : List Step) → ((m : Step) → Has ms m → m.from < n) → list_any (goes act j) ms ≡ in_image n row (λ i k. list_any (same_step (record { from = i; act = act; to = k })) ms) j
  in_moves act j [] within = sym in_empty
  in_moves act j (m ∷ ms) within =
      let first = some_below_kept in_set (λ i. eqb act m.act && eqb j m.to) n m.from (within m (inl refl)) in
      let rest = in_moves act j ms (λ s h. within s (inr h)) in
      ap₂ ◌||◌ (sym first) rest ∙ sym (in_union (λ i k. same_step (record { from = i; act = act; to = k }) m) (λ i k. list_any (same_step (record { from = i; act = act; to = k })) ms) j)

  -- under a composition, which is the image of the image
  pub image_composition : (r q : ℕ → ℕ → Bool) (between to : List Bool) → IsImage n row r between → IsImage n between q to → IsImage n row (λ i j. some_below (λ k. r i k && q k j) n) to
  image_composition r q between to first second j lj =
      second j lj
      ∙ some_below_same _ (λ k. some_below (λ i. q k j && (in_set i && r i k)) n) n (λ k lk. and_comm (slice_index_or between k false) (q k j) ∙ ap (λ b. q k j && b) (first k lk) ∙ sym (some_below_and (q k j) (λ i. in_set i && r i k) n))
      ∙ some_below_swap (λ i k. q k j && (in_set i && r i k)) n n
      ∙ some_below_same _ (λ i. in_set i && some_below (λ k. r i k && q k j) n) n (λ i li. some_below_same _ (λ k. in_set i && (r i k && q k j)) n (λ k lk. and_rotate (q k j) (in_set i) (r i k)) ∙ some_below_and (in_set i) (λ k. r i k && q k j) n)

  -- under a union, whose second part may be followed from a copy of the set
  pub image_union : (r q : ℕ → ℕ → Bool) (copy first second to : List Bool) → ((j : ℕ) → j < n → slice_index_or copy j false ≡ slice_index_or row j false) → IsImage n row r first → IsImage n copy q second → ((j : ℕ) → j < n → slice_index_or to j false ≡ (slice_index_or first j false || slice_index_or second j false)) → IsImage n row (λ i j. r i j || q i j) to
  image_union r q copy first second to same left right joined j lj =
      let again = some_below_same _ (λ i. in_set i && q i j) n (λ i li. ap (λ b. b && q i j) (same i li)) in
      joined j lj ∙ ap₂ ◌||◌ (left j lj) (right j lj ∙ again) ∙ sym (in_union r q j)

  -- under the relation that a matrix represents
  pub image_given : (r : ℕ → ℕ → Bool) (m : Square) (to : List Bool) → Represents n m r → IsImage n row (entry m) to → IsImage n row r to
  image_given r m to given image j lj = image j lj ∙ some_below_same _ _ n (λ k lk. ap (λ b. in_set k && b) (given k j lk lj))

  -- of one number
  pub image_of_one : (r : ℕ → ℕ → Bool) (to : List Bool) (i : ℕ) → i < n → ((k : ℕ) → k < n → slice_index_or row k false ≡ eqb k i) → IsImage n row r to → (j : ℕ) → j < n → slice_index_or to j false ≡ r i j
  image_of_one r to i li one image j lj =
      image j lj ∙ some_below_same _ (λ k. eqb k i && r k j) n (λ k lk. ap (λ b. b && r k j) (one k lk)) ∙ some_below_is (λ k. r k j) n i li

-- a cleared row with one entry marked
pub marked_alone : (n i : ℕ) (cleared row : List Bool) → i < length cleared → ((k : ℕ) → k < n → slice_index_or cleared k false ≡ false) → row ≡ slice_set cleared i true → (k : ℕ) → k < n → slice_index_or row k false ≡ eqb k i
marked_alone n i cleared row room empty is k lk =
    ⊎_elim
    (λ e. let here : eqb k i ≡ true = eq-eqb k i e in rw (is, here, e) (get_or-set_same cleared i true false room))
    (λ d. let elsewhere : eqb k i ≡ false = ne_eqb k i d in rw (is, elsewhere) (get_or-set_other cleared i k true false d ∙ empty k lk))
    (cases_eq k i)

-- an entry of the image of one state decides whether the term relates that state to the state of the entry
pub image_decides : (t : Table) (e : Term) (row to : List Bool) (i j : ℕ) → i < t.states → j < t.states → ((k : ℕ) → k < t.states → slice_index_or row k false ≡ eqb k i) → IsImage t.states row (computes_relation t e) to → (b : Bool) → b ≡ slice_index_or to j false → IsTrue b ↔ Relates t e i j
image_decides t e row to i j li lj one image b is =
    let given = image_of_one t.states row (computes_relation t e) to i li one image j lj in
    rw (is, given) (relates_now_decides t e i j li lj)
