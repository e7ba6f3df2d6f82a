-- Whether a term relates two states of a table, computed by direct search: a product tries each state in between, and a
-- star uses Warshall's steps (Warshall 1962).
use Rattle.std.specs.Prelude.{ℕ, zero as nought, suc, Bool, false, ◌&&◌, ◌||◌, eqb}
use Rattle.std.specs.List.{list_any}
use Rattle.kat_model.specs.Trees.{Term, zero, one, test, act, sum, product, star}
use Rattle.kat_model.specs.Steps.{truth}
use Rattle.kat_model.specs.Relations.{Step, Table, atom_at}

abbrev pub same_step : Step → Step → Bool
same_step m n = eqb m.from n.from && (eqb m.act n.act && eqb m.to n.to)

-- some number below n passes the test
abbrev pub some_below : (ℕ → Bool) → ℕ → Bool
some_below p nought = false
some_below p (suc n) = p n || some_below p n

-- some list of numbers leads from i to j, and the numbers between them are below k
abbrev pub warshall : (ℕ → ℕ → Bool) → ℕ → ℕ → ℕ → Bool
warshall r nought i j = eqb i j || r i j
warshall r (suc k) i j = warshall r k i j || (warshall r k i k && warshall r k k j)

abbrev pub computes_relation : Table → Term → ℕ → ℕ → Bool
computes_relation t zero i j = false
computes_relation t one i j = eqb i j
computes_relation t (test b) i j = eqb i j && truth b (atom_at t i)
computes_relation t (act a) i j = list_any (same_step (record { from = i; act = a; to = j })) t.moves
computes_relation t (sum e f) i j = computes_relation t e i j || computes_relation t f i j
computes_relation t (product e f) i j = some_below (λ k. computes_relation t e i k && computes_relation t f k j) t.states
computes_relation t (star e) i j = warshall (computes_relation t e) t.states i j
