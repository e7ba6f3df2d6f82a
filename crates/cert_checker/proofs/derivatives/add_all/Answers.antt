use Rattle.std.proofs.Common.{◌≡◌, ℕ, List, [], ◌∷◌, inl, refl, ap, ◌∙◌, subst}
use Rattle.std.specs.Map.Iter.{deref_pair}
use Rattle.std.proofs.lemmas.Map.Iter.{rest_more, rest_all}
use Rattle.kat_model.specs.Steps.{truth}
use Rattle.term_nodes.specs.NodeTrees.{test_tree_in}
use Rattle.cert_checker.specs.NodeTables.{nodes_in}
use Rattle.cert_checker.specs.Targets.{chosen}
use Rattle.cert_checker.proofs.AddingTargets.{IsAdding, adding_more, adding_ends}
use Rattle.cert_checker.proofs.TargetSets.{test_within, term_within, entries_kept, entry_added, never_represents}
use Rattle.cert_checker.proofs.GrowingTables.{tests_itself, tests_trans}
use Rattle.cert_checker.proofs.derivatives.add_all.Goals as goal

pub both-requires-clause-second : goal.both-requires-clause-second
both-requires-clause-second c =
    let a = c.loop-term.invariant in
    let cut : c.loop-term.term-iterator ≡ (c.in-Some.term.now, c.in-Some.when.now) ∷ c.next.new.self = rest_more deref_pair _ _ _ (c.in-Some.term, c.in-Some.when) c.in-Some.is c.next.ensures.steps in
    let others = subst (λ (l : List (ℕ × ℕ)). IsAdding c.args.tables.now c.loop-term.tables c.args.targets.now.entries c.loop-term.targets.entries l c.args.more.now.entries c.args.guard) cut a in
    test_within c.args.tables.now c.loop-term.tables a.grows.grows.was a.grows.grows c.in-Some.when.now (others.others (c.in-Some.term.now, c.in-Some.when.now) (inl refl)).1

pub add-requires : goal.add-requires
add-requires c =
    let a = c.loop-term.invariant in
    let mid = c.both.new.self in
    let cut : c.loop-term.term-iterator ≡ (c.in-Some.term.now, c.in-Some.when.now) ∷ c.next.new.self = rest_more deref_pair _ _ _ (c.in-Some.term, c.in-Some.when) c.in-Some.is c.next.ensures.steps in
    let others = subst (λ (l : List (ℕ × ℕ)). IsAdding c.args.tables.now c.loop-term.tables c.args.targets.now.entries c.loop-term.targets.entries l c.args.more.now.entries c.args.guard) cut a in
    let term = term_within c.loop-term.tables mid a.grows.grows.sound c.both.ensures.grows.grows c.in-Some.term.now
    (term_within c.args.tables.now c.loop-term.tables a.grows.grows.was a.grows.grows c.in-Some.term.now (others.others (c.in-Some.term.now, c.in-Some.when.now) (inl refl)).0) in
    entry_added mid c.loop-term.targets.entries c.in-Some.term.now c.in_ok-both.both term c.in_ok-both.ensures.values.0 (entries_kept c.loop-term.tables mid a.grows.grows.sound c.both.ensures.grows.grows c.loop-term.targets.entries a.entries)

pub loop-term-preserved : goal.loop-term-preserved
loop-term-preserved c =
    let cut : c.loop-term.term-iterator ≡ (c.in-Some.term.now, c.in-Some.when.now) ∷ c.next.new.self = rest_more deref_pair _ _ _ (c.in-Some.term, c.in-Some.when) c.in-Some.is c.next.ensures.steps in
    let here = subst (λ (l : List (ℕ × ℕ)). IsAdding c.args.tables.now c.loop-term.tables c.args.targets.now.entries c.loop-term.targets.entries l c.args.more.now.entries c.args.guard) cut c.loop-term.invariant in
    adding_more c.args.tables.now c.loop-term.tables c.both.new.self c.add.new.tables c.args.targets.now.entries c.loop-term.targets.entries c.add.new.to.entries c.next.new.self c.args.more.now.entries c.args.guard c.in_ok-both.both (c.in-Some.term.now, c.in-Some.when.now)
    here c.both.ensures.grows c.in_ok-both.ensures.values.1 c.add.ensures.grows c.in_ok-add.ensures.added

pub returns-in_err-both-clause-grows : goal.returns-in_err-both-clause-grows
returns-in_err-both-clause-grows c = tests_trans c.args.tables.now c.loop-term.tables c.both.new.self c.loop-term.invariant.grows c.both.ensures.grows

pub returns-in_err-add-clause-grows : goal.returns-in_err-add-clause-grows
returns-in_err-add-clause-grows c =
    tests_trans c.args.tables.now c.loop-term.tables c.add.new.tables c.loop-term.invariant.grows
    (tests_trans c.loop-term.tables c.both.new.self c.add.new.tables c.both.ensures.grows c.add.ensures.grows)

-- ---- under a guard that is never true

pub returns-in-False-clause-added : goal.returns-in-False-clause-added
returns-in-False-clause-added c =
    let t = c.args.tables.now in
    never_represents t c.args.targets.now.entries c.args.guard (chosen t c.args.more.now.entries) c.requires.entries (λ atom. ap (λ b. truth b atom) (c.test_node.ensures.tree ∙ ap (test_tree_in (nodes_in t)) c.in-False.is))

pub returns-in-False-clause-grows : goal.returns-in-False-clause-grows
returns-in-False-clause-grows c = tests_itself c.args.tables.now c.test_node.ensures.tables

-- ---- before the loop and after it

pub test_node-requires : goal.test_node-requires
test_node-requires c = c.requires.is_test

pub both-requires-clause-first : goal.both-requires-clause-first
both-requires-clause-first c =
    let a = c.loop-term.invariant in
    test_within c.args.tables.now c.loop-term.tables a.grows.grows.was a.grows.grows c.args.guard a.test

pub returns-clause-added : goal.returns-clause-added
returns-clause-added c =
    let ended : c.loop-term.term-iterator ≡ [] = rest_all deref_pair _ _ _ c.in-None.is c.next.ensures.steps in
    adding_ends c.args.tables.now c.loop-term.tables c.args.targets.now.entries c.loop-term.targets.entries c.args.more.now.entries c.args.guard
    (subst (λ (l : List (ℕ × ℕ)). IsAdding c.args.tables.now c.loop-term.tables c.args.targets.now.entries c.loop-term.targets.entries l c.args.more.now.entries c.args.guard) ended c.loop-term.invariant)

pub returns-clause-grows : goal.returns-clause-grows
returns-clause-grows c = c.loop-term.invariant.grows
