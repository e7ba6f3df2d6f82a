-- The places of a program, each with a note in an outline: before each statement, after the last of each list, and at
-- each loop for its invariant, in the order of the program text.
use Rattle.std.specs.Prelude.{ℕ, suc}
use Rattle.while_lang.specs.Flows.{FlowTree, empty, skip_then, abort_then, assert_then, act_then, branch_then, loop_then}

-- the last place of a list of statements whose first place is n
abbrev pub last_place : FlowTree → ℕ → ℕ
last_place empty n = n
last_place (skip_then rest) n = last_place rest (suc n)
last_place (abort_then rest) n = last_place rest (suc n)
last_place (assert_then b rest) n = last_place rest (suc n)
last_place (act_then a rest) n = last_place rest (suc n)
last_place (branch_then b f g rest) n = last_place rest (suc (last_place g (suc (last_place f (suc n)))))
last_place (loop_then b f rest) n = last_place rest (suc (last_place f (suc (suc n))))

-- the number of places
abbrev pub places : FlowTree → ℕ
places f = suc (last_place f 0)
