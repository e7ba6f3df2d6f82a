use Rattle.std.proofs.Common.{◌≡◌, inl, inr, ℕ, Option, Some, None, false, ◌||◌, refl, sym, ap, ◌∙◌, subst, cond, [], ◌∷◌, ◌++◌}
use Rattle.std.specs.Option.{option_copied, option_map_or}
use Rattle.kat_model.specs.Steps.{Atom, truth}
use Rattle.term_nodes.specs.NodeTrees.{test_tree_in}
use Rattle.cert_checker.specs.NodeTables.{TableParts, TestsGrow, IsTest, nodes_in, term_at, holds_at}
use Rattle.cert_checker.specs.Targets.{Represent, chosen, guard_of}
use Rattle.cert_checker.proofs.ChosenTargets.{guard_member}
use Rattle.cert_checker.proofs.GrowingTables.{tests_itself}
use Rattle.cert_checker.proofs.TargetSets.{added_represents, never_represents}
use Rattle.cert_checker.proofs.derivatives.add.Goals as goal
use Rattle.cert_checker.proofs.derivatives.add.Goals.{in-Some+in_ok-joined-in-Some, in-None}

pub either-requires-clause-first : goal.either-requires-clause-first
either-requires-clause-first c =
    let es = c.args.to.now.entries in
    let found : guard_of es c.args.term ≡ Some c.in-Some.other.now = sym c.get.ensures.value ∙ ap option_copied c.in-Some.is in
    (c.requires (c.args.term, c.in-Some.other.now) (inr (guard_member c.args.term es c.in-Some.other.now found))).1

pub test_node-requires : goal.test_node-requires
test_node-requires c = (c.requires (c.args.term, c.args.guard) (inl refl)).1

-- the test is the disjunction of the guard and the test that was found, if any
abbrev IsJoined : (old new : TableParts) (found : Option ℕ) (guard joined : ℕ) → Type 0
IsJoined old new found guard joined = TestsGrow old new × IsTest new joined × ((atom : Atom) → holds_at new joined atom ≡ (option_map_or (λ o. holds_at old o atom) found false || holds_at old guard atom))

pub returns-clause-added : goal.returns-clause-added
returns-clause-added c =
    let t = c.args.tables.now in
    let es = c.args.to.now.entries in
    let new = c.match-get.tables in
    let own = c.requires (c.args.term, c.args.guard) (inl refl) in
    let given : IsJoined t new (guard_of es c.args.term) c.args.guard c.match-get.joined =
    elim c.match-get.branch [
      | in-Some+in_ok-joined-in-Some w ↦
          let found : guard_of es c.args.term ≡ Some w.in-Some.other.now = sym c.get.ensures.value ∙ ap option_copied w.in-Some.is in
          rw (w.tables-is, w.joined-is, found) (w.either.ensures.grows, w.in_ok-joined-in-Some.ensures.values.0, w.in_ok-joined-in-Some.ensures.values.1)
      | in-None w ↦
          let none : guard_of es c.args.term ≡ None = sym c.get.ensures.value ∙ ap option_copied w.in-None.is in
          rw (w.tables-is, w.joined-is, none) (tests_itself t c.test_node.ensures.tables, own.1, (λ atom. refl))
    ] in
    subst (λ new'. Represent new new' (λ atom. chosen t es atom ++ cond (holds_at t c.args.guard atom) (term_at t c.args.term ∷ []) []))
    (sym c.in_ok-insert.ensures.entries)
    (added_represents t new c.test_node.ensures.tables given.0.grows es (λ e h. c.requires e (inr h)) c.args.term c.args.guard c.match-get.joined own.0 given.1 given.2)

pub returns-in_err-insert-clause-grows : goal.returns-in_err-insert-clause-grows
returns-in_err-insert-clause-grows c =
    elim c.match-get.branch [
      | in-Some+in_ok-joined-in-Some w ↦ rw w.tables-is w.either.ensures.grows
      | in-None w ↦ rw w.tables-is (tests_itself c.args.tables.now c.test_node.ensures.tables)
    ]

pub returns-clause-grows : goal.returns-clause-grows
returns-clause-grows c =
    elim c.match-get.branch [
      | in-Some+in_ok-joined-in-Some w ↦ rw w.tables-is w.either.ensures.grows
      | in-None w ↦ rw w.tables-is (tests_itself c.args.tables.now c.test_node.ensures.tables)
    ]

-- ---- under a guard that is never true

pub returns-in-False-clause-added : goal.returns-in-False-clause-added
returns-in-False-clause-added c =
    let t = c.args.tables.now in
    never_represents t c.args.to.now.entries c.args.guard (λ atom. term_at t c.args.term ∷ []) (λ e h. c.requires e (inr h)) (λ atom. ap (λ b. truth b atom) (c.test_node.ensures.tree ∙ ap (test_tree_in (nodes_in t)) c.in-False.is))

pub returns-in-False-clause-grows : goal.returns-in-False-clause-grows
returns-in-False-clause-grows c = tests_itself c.args.tables.now c.test_node.ensures.tables

-- ---- what calls require

pub either-requires-clause-second : goal.either-requires-clause-second
either-requires-clause-second c = (c.requires (c.args.term, c.args.guard) (inl refl)).1
