-- Worked examples of the relations that terms denote on tables: for each state, the states that the term relates it to.
-- The expected values were found by hand from the table.
use Rattle.std.proofs.Common.{◌≡◌, ℕ, ◌<◌, true, false, inl, inr, ⊎_elim, [], ◌∷◌, length, refl, ap, subst, arith}
use Rattle.std.proofs.lemmas.List.{get_or-replicate}
use Rattle.kat_model.specs.Trees.{bottom, top, complement, zero, one, test, sum, product, star}
use Rattle.kat_model.specs.Members.{Has}
use Rattle.kat_model.specs.Problems.{ProblemParts}
use Rattle.kat_model.specs.Relations.{Step, Table, IsTable, atom_at, frame_of, Relates, Same}
use Rattle.kat_model.specs.Strings.{IsPath, spelled}
use Rattle.kat_model.proofs.Decided.{computed_relates_not}
use Rattle.kat_model.proofs.Rows.{HasRows, has_rows}
use Rattle.kat_model.proofs.Examples.{b, p, q, while_b, nested, denested, slid_right, slid_left}

abbrev pub step : ℕ → ℕ → ℕ → Step
step i a j = record { from = i; act = a; to = j }

-- 0 -p-> 1 -q-> 2, with no tests
abbrev line : Table
line = record { states = 3; truths = [] ∷ [] ∷ [] ∷ []; moves = step 0 0 1 ∷ step 1 1 2 ∷ [] }

rows_zero : HasRows line zero ([] ∷ [] ∷ [] ∷ [])
rows_zero = has_rows refl

rows_one : HasRows line one ((0 ∷ []) ∷ (1 ∷ []) ∷ (2 ∷ []) ∷ [])
rows_one = has_rows refl

rows_top : HasRows line (test top) ((0 ∷ []) ∷ (1 ∷ []) ∷ (2 ∷ []) ∷ [])
rows_top = has_rows refl

rows_bottom : HasRows line (test bottom) ([] ∷ [] ∷ [] ∷ [])
rows_bottom = has_rows refl

rows_act : HasRows line q ([] ∷ (2 ∷ []) ∷ [] ∷ [])
rows_act = has_rows refl

rows_sum : HasRows line (sum p q) ((1 ∷ []) ∷ (2 ∷ []) ∷ [] ∷ [])
rows_sum = has_rows refl

rows_product : HasRows line (product p q) ((2 ∷ []) ∷ [] ∷ [] ∷ [])
rows_product = has_rows refl

rows_turned_product : HasRows line (product q p) ([] ∷ [] ∷ [] ∷ [])
rows_turned_product = has_rows refl

rows_star : HasRows line (star p) ((0 ∷ 1 ∷ []) ∷ (1 ∷ []) ∷ (2 ∷ []) ∷ [])
rows_star = has_rows refl

rows_star_zero : HasRows line (star zero) ((0 ∷ []) ∷ (1 ∷ []) ∷ (2 ∷ []) ∷ [])
rows_star_zero = has_rows refl

rows_star_sum : HasRows line nested ((0 ∷ 1 ∷ 2 ∷ []) ∷ (1 ∷ 2 ∷ []) ∷ (2 ∷ []) ∷ [])
rows_star_sum = has_rows refl

-- p.q relates 0 to 2 through state 1, shown without the search
relates_product : Relates line (product p q) 0 2
relates_product = (1, omega arith, inl refl, inr (inl refl))

-- (p + q)* relates 0 to 2 along the states 1 and 2
relates_star : Relates line nested 0 2
relates_star = (1 ∷ 2 ∷ [], (omega arith, inl (inl refl), (omega arith, inr (inr (inl refl)), refl)))

relates_turned_product : Relates line (product q p) 0 2 → ⊥
relates_turned_product = computed_relates_not line (product q p) 0 2 (omega arith) (omega arith) refl

-- the path from 0 to 2, and the string that it spells
path_example : IsPath (frame_of line) 0 (record { act = 0; to = 1 } ∷ record { act = 1; to = 2 } ∷ []) 2
path_example = (omega arith, inl refl, (omega arith, inr (inl refl), refl))

spelled_example : spelled (frame_of line) (record { act = 0; to = 1 } ∷ record { act = 1; to = 2 } ∷ []) ≡ record { act = 0; atom = [] } ∷ record { act = 1; atom = [] } ∷ []
spelled_example = refl

line_is_table : IsTable 0 2 line
line_is_table = record { rows = refl; wide = wide; moves = moves }
  where
    wide : (i : ℕ) → i < 3 → length (atom_at line i) ≡ 0
    wide i li = ap length (get_or-replicate 3 i [] [] li)

    IsMove : Step → Type 0
    IsMove m = (m.from < 3) × (m.act < 2) × (m.to < 3)

    moves : (m : Step) → Has line.moves m → IsMove m
    moves m h = ⊎_elim (λ e. subst IsMove e (omega arith, omega arith, omega arith)) (λ k. ⊎_elim (λ e. subst IsMove e (omega arith, omega arith, omega arith)) absurd k) h

-- a table for one action must not have the move by q
line_needs_two : IsTable 0 1 line → ⊥
line_needs_two h = absurd (omega (arith, h.moves (step 1 1 2) (inr (inl refl))))

-- products do not commute
abbrev commutes : ProblemParts
commutes = record { tests = 0; actions = 2; hyps = []; left = product p q; right = product q p }

products_differ : Same commutes → ⊥
products_differ h =
    let converse = h line line_is_table (λ e k. absurd k) 0 2 (omega arith) (omega arith) in
    relates_turned_product (converse.0 relates_product)

-- Denesting and sliding relate the same states: on a cycle 0 -p-> 1 -q-> 2 -p-> 0

abbrev cycle : Table
cycle = record { states = 3; truths = [] ∷ [] ∷ [] ∷ []; moves = step 0 0 1 ∷ step 1 1 2 ∷ step 2 0 0 ∷ [] }

cycle_slid_right : HasRows cycle slid_right ((0 ∷ 1 ∷ []) ∷ [] ∷ (0 ∷ []) ∷ [])
cycle_slid_right = has_rows refl

cycle_slid_left : HasRows cycle slid_left ((0 ∷ 1 ∷ []) ∷ [] ∷ (0 ∷ []) ∷ [])
cycle_slid_left = has_rows refl

cycle_nested : HasRows cycle nested ((0 ∷ 1 ∷ 2 ∷ []) ∷ (0 ∷ 1 ∷ 2 ∷ []) ∷ (0 ∷ 1 ∷ 2 ∷ []) ∷ [])
cycle_nested = has_rows refl

cycle_denested : HasRows cycle denested ((0 ∷ 1 ∷ 2 ∷ []) ∷ (0 ∷ 1 ∷ 2 ∷ []) ∷ (0 ∷ 1 ∷ 2 ∷ []) ∷ [])
cycle_denested = has_rows refl

-- and on a cycle with a way out, 0 -p-> 1 -q-> 0 and 1 -p-> 2

abbrev exit : Table
exit = record { states = 3; truths = [] ∷ [] ∷ [] ∷ []; moves = step 0 0 1 ∷ step 1 1 0 ∷ step 1 0 2 ∷ [] }

exit_nested : HasRows exit nested ((0 ∷ 1 ∷ 2 ∷ []) ∷ (0 ∷ 1 ∷ 2 ∷ []) ∷ (2 ∷ []) ∷ [])
exit_nested = has_rows refl

exit_denested : HasRows exit denested ((0 ∷ 1 ∷ 2 ∷ []) ∷ (0 ∷ 1 ∷ 2 ∷ []) ∷ (2 ∷ []) ∷ [])
exit_denested = has_rows refl

-- A counter below 3 that p advances, 0 -p-> 1 -p-> 2 -p-> 0, with b true below 2

abbrev counter : Table
counter = record { states = 3; truths = (true ∷ []) ∷ (true ∷ []) ∷ (false ∷ []) ∷ []; moves = step 0 0 1 ∷ step 1 0 2 ∷ step 2 0 0 ∷ [] }

counter_test : HasRows counter (test b) ((0 ∷ []) ∷ (1 ∷ []) ∷ [] ∷ [])
counter_test = has_rows refl

counter_complement : HasRows counter (test (complement b)) ([] ∷ [] ∷ (2 ∷ []) ∷ [])
counter_complement = has_rows refl

-- the turns of the loop stop at 2
counter_turns : HasRows counter (star (product (test b) p)) ((0 ∷ 1 ∷ 2 ∷ []) ∷ (1 ∷ 2 ∷ []) ∷ (2 ∷ []) ∷ [])
counter_turns = has_rows refl

-- while b do p leads from each state to 2, and nowhere else
counter_while : HasRows counter while_b ((2 ∷ []) ∷ (2 ∷ []) ∷ (2 ∷ []) ∷ [])
counter_while = has_rows refl

-- if b is false, the test relates nothing
test_off : HasRows (record { states = 2; truths = (false ∷ []) ∷ (false ∷ []) ∷ []; moves = [] }) (test b) ([] ∷ [] ∷ [])
test_off = has_rows refl
