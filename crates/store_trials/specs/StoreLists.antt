-- The stores on which programs are tried: all stores over a list of numbers, as far as 10,000, and then 10,000 that are
-- drawn by a linear congruential generator (the one of the generated problems).
use Rattle.std.specs.Prelude.{ℕ, zero, suc, ◌+◌, ◌*◌, ◌/◌, ◌%◌, List, [], ◌∷◌, ◌++◌, map, length, min, slice_index_or, nat_eq, if◌then◌else◌}
use Rattle.std.specs.List.{range_with_len}
use Rattle.kat_model.specs.Stores.{modulus, Store}
use Rattle.kat_model.specs.declared.expression.Width.{Width}
use Rattle.bench_problems.specs.Generator.{next_state}
use Rattle.store_trials.specs.declared.stores.TheConstants.{MAX_LISTED, DRAWN_STORES}

-- ---- stores over a list of numbers

-- store i over the numbers: its digits to the base of their number, variable 0 first
abbrev pub nth_store : List ℕ → ℕ → ℕ → Store
nth_store ns zero i = []
nth_store ns (suc vars) i = slice_index_or ns (i % length ns) 0 ∷ nth_store ns vars (i / length ns)

-- the number of stores whose variables have values of a list of numbers, at most the limit
abbrev pub store_count : ℕ → ℕ → ℕ
store_count numbers zero = 1
store_count numbers (suc vars) = min MAX_LISTED (numbers * store_count numbers vars)

abbrev pub listed_stores : List ℕ → ℕ → List Store
listed_stores ns vars = map (nth_store ns vars) (range_with_len 0 (store_count (length ns) vars))

-- ---- drawn stores

-- a number below the bound, drawn in a state; 32,768 numbers can be drawn
abbrev pub drawn_below : ℕ → ℕ → ℕ
drawn_below bound s = (next_state s / 65536) % bound

unfoldable pub state_after : ℕ → ℕ → ℕ
state_after zero s = s
state_after (suc draws) s = state_after draws (next_state s)

-- the number of the width whose digits to the base 32,768 are that many draws
unfoldable pub drawn_digits : Width → ℕ → ℕ → ℕ → ℕ
drawn_digits w zero total s = total
drawn_digits w (suc draws) total s = drawn_digits w draws ((total * 32768 + drawn_below 32768 s) % modulus w) (next_state s)

-- a number: for a draw of 0 below 2, one of the list, by a draw below its length; otherwise one of five digits
abbrev pub drawn_value : Width → List ℕ → ℕ → ℕ
drawn_value w ns s =
    if nat_eq (drawn_below 2 s) 0 then slice_index_or ns (drawn_below (length ns) (next_state s)) 0
    else drawn_digits w 5 0 (next_state s)

-- each number takes six draws
abbrev pub after_value : ℕ → ℕ
after_value s = state_after 6 s

abbrev pub drawn_store : Width → List ℕ → ℕ → ℕ → Store
drawn_store w ns zero s = []
drawn_store w ns (suc vars) s = drawn_value w ns s ∷ drawn_store w ns vars (after_value s)

abbrev pub after_store : ℕ → ℕ → ℕ
after_store zero s = s
after_store (suc vars) s = after_store vars (after_value s)

-- that many stores, drawn one after the other
unfoldable pub drawn_stores : Width → List ℕ → ℕ → ℕ → ℕ → List Store
drawn_stores w ns vars zero s = []
drawn_stores w ns vars (suc count) s = drawn_store w ns vars s ∷ drawn_stores w ns vars count (after_store vars s)

-- ---- the whole list

abbrev pub all_stores : Width → List ℕ → ℕ → List Store
all_stores w ns vars = listed_stores ns vars ++ drawn_stores w ns vars DRAWN_STORES 0
