-- The matrices or rows of an evaluation: their sizes, and the sizes of a prefix and the rest.
use Rattle.std.proofs.Common.{◌≡◌, ℕ, Bool, false, ◌+◌, ◌-◌, ◌<◌, ◌≤◌, List, ◌++◌, map, All, length, replicate, get_or, sym, ap, ◌∙◌, arith}
use Rattle.std.proofs.lemmas.List.{map-append, get_or-map, get_or-append-add, get_or_append_left, length-map, length-append, length-replicate}
use mathlib.Core.Path.{ap₂}
use Rattle.string_tables.specs.Working.Matrices.{Square, sizes, widths}
use Rattle.string_tables.specs.Working.Filled.{IsEven}
use Rattle.kat_model.specs.Trees.{Term, zero, one, test, act, sum, product, star, term_height}

pub term_height_positive : (e : Term) → 1 ≤ term_height e
term_height_positive zero = omega arith
term_height_positive one = omega arith
term_height_positive (test b) = omega arith
term_height_positive (act a) = omega arith
term_height_positive (sum e f) = omega arith
term_height_positive (product e f) = omega arith
term_height_positive (star e) = omega arith

-- what fits one room fits each room of its size
pub same_room : (n m k l : ℕ) → n ≡ m → l ≡ k → m ≤ k → n ≤ l
same_room n m k l few same room = omega arith

pub below_room : (i m k l : ℕ) → i < m → l ≡ k → m ≤ k → i < l
below_room i m k l low same room = omega arith

-- the body of a star is lower than the star
pub body_fits : (h body k : ℕ) → h ≡ body + 1 → h ≤ k → body ≤ k
body_fits h body k e fits = omega arith

pub rows_count : {X : Type 0} (rows : List (List X)) (n m : ℕ) → map length rows ≡ replicate n m → length rows ≡ n
rows_count rows n m same = sym (length-map rows length) ∙ ap length same ∙ length-replicate n m

-- new memory has one size
pub made_even : (top : Square) (below : List Square) (spare set : List Bool) (rows : List (List Bool)) (n m : ℕ) → top.size ≡ m → length below ≡ n → sizes below ≡ replicate n m → spare ≡ replicate m false → set ≡ replicate m false → widths rows ≡ replicate n m → IsEven top below spare set rows
made_even top below spare set rows n m size count same is_spare is_set same_rows =
    let even : replicate n m ≡ replicate (length below) top.size = sym (ap₂ replicate count size) in
    record {
      sizes_below = same ∙ even;
      width = ap length is_spare ∙ length-replicate m false ∙ sym size;
      set_width = ap length is_set ∙ length-replicate m false ∙ sym size;
      row_widths = same_rows ∙ even;
    }

pub depth_fits : (depth n k : ℕ) → n ≡ depth - 1 → k ≡ n → depth ≤ k + 1
depth_fits depth n k less count = omega arith

-- the first matrix or row of a list whose sizes are those of another list
pub room_at_first : {X : Type 0} (size : X → ℕ) (n : ℕ) (old new : List X) → All (λ k. n ≤ k) (map size old) → map size new ≡ map size old → 0 < length new → (d : X) → n ≤ size (get_or new 0 d)
room_at_first size n old new room same some d =
    let short : 0 < length (map size old) = rw (← same, length-map) some in
    let at : n ≤ get_or (map size new) 0 0 = rw same (room 0 0 short) in
    rw (get_or-map size new 0 d 0 some) at at

module _ {X : Type 0} (size : X → ℕ) (n : ℕ) (old new front rest : List X) (room : All (λ k. n ≤ k) (map size old)) (same : map size new ≡ map size old) (parts : new ≡ front ++ rest) where
  joined : map size old ≡ map size front ++ map size rest
  joined = sym same ∙ ap (map size) parts ∙ map-append size front rest

  pub room_rest : All (λ k. n ≤ k) (map size rest)
  room_rest k d lt =
      let at : n ≤ get_or (map size old) (length (map size front) + k) d = room (length (map size front) + k) d (rw (joined, length-append (map size front) (map size rest)) (omega arith)) in
      rw (joined, get_or-append-add (map size front) (map size rest) k d) at at

  pub room_first : length front ≡ 1 → (d : X) → n ≤ size (get_or front 0 d)
  room_first l d =
      let lt : 0 < length front = omega arith in
      let short : 0 < length (map size front) = rw length-map lt in
      let at : n ≤ get_or (map size old) 0 0 = room 0 0 (rw (joined, length-append (map size front) (map size rest)) (omega arith)) in
      rw (joined, get_or_append_left (map size front) (map size rest) 0 0 short, get_or-map size front 0 d 0 lt) at at
