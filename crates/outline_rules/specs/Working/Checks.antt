-- The checks of the code as conditions, and the places and conditions of single statements.
use Rattle.std.specs.Prelude.{ℕ, suc, List, [], ◌∷◌, ◌++◌}
use Rattle.kat_model.specs.Trees.{TestTree, top, complement, test_tree}
use Rattle.while_lang.specs.Flows.{FlowStmt, skip, abort, assert, act, branch, loop}
use Rattle.outline_rules.specs.declared.checks.Guard.{Guard}
use Rattle.outline_rules.specs.declared.checks.Guard.TheVariants.{Always, Holds, Fails}
use Rattle.outline_rules.specs.declared.checks.Check.{Check}
use Rattle.outline_rules.specs.declared.checks.Check.TheVariants.{Implies, Leads}
use Rattle.outline_rules.specs.Places.{last_place}
use Rattle.outline_rules.specs.Follows.{Condition, implies, leads, conditions_from}

abbrev pub guard_tree : Guard → TestTree
guard_tree Always = top
guard_tree (Holds b) = test_tree b.now
guard_tree (Fails b) = complement (test_tree b.now)

abbrev pub condition_of : Check → Condition
condition_of (Implies from guard to) = implies from (guard_tree guard) to
condition_of (Leads from a to) = leads from a to

-- the place after a statement that begins at place n
abbrev pub place_after : FlowStmt → ℕ → ℕ
place_after skip n = suc n
place_after abort n = suc n
place_after (assert b) n = suc n
place_after (act a) n = suc n
place_after (branch b f g) n = suc (last_place g (suc (last_place f (suc n))))
place_after (loop b f) n = suc (last_place f (suc (suc n)))

-- the conditions of a statement that begins at place n
abbrev pub conditions_of_stmt : FlowStmt → ℕ → List Condition
conditions_of_stmt skip n = implies n top (suc n) ∷ []
conditions_of_stmt abort n = []
conditions_of_stmt (assert b) n = implies n b (suc n) ∷ []
conditions_of_stmt (act a) n = leads n a (suc n) ∷ []
conditions_of_stmt (branch b f g) n =
    let first = suc n in
    let second = suc (last_place f first) in
    let after = suc (last_place g second) in
    implies n b first ∷ (conditions_from f first ++ implies n (complement b) second ∷ (conditions_from g second
    ++ implies (last_place f first) top after ∷ implies (last_place g second) top after ∷ []))
conditions_of_stmt (loop b f) n =
    let invariant = suc n in
    let body = suc invariant in
    let after = suc (last_place f body) in
    implies n top invariant ∷ implies invariant b body ∷ (conditions_from f body
    ++ implies (last_place f body) top invariant ∷ implies invariant (complement b) after ∷ [])
