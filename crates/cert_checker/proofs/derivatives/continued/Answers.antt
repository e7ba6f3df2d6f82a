use Rattle.std.proofs.Common.{◌≡◌, ℕ, List, [], ◌∷◌, inl, refl, subst}
use Rattle.std.specs.Map.Iter.{deref_pair}
use Rattle.std.proofs.lemmas.Map.Iter.{rest_more, rest_all}
use Rattle.cert_checker.proofs.AddingTargets.{IsFollowing, following_more, following_ends}
use Rattle.cert_checker.proofs.TargetSets.{test_within, term_within, entries_kept, entry_added}
use Rattle.cert_checker.proofs.GrowingTables.{grows_trans}
use Rattle.cert_checker.proofs.derivatives.continued.Goals as goal

pub dot-requires-clause-first : goal.dot-requires-clause-first
dot-requires-clause-first c =
    let a = c.loop-term.invariant in
    let cut : c.loop-term.term-iterator ≡ (c.in-Some.term.now, c.in-Some.when.now) ∷ c.next.new.self = rest_more deref_pair _ _ _ (c.in-Some.term, c.in-Some.when) c.in-Some.is c.next.ensures.steps in
    let here = subst (λ (l : List (ℕ × ℕ)). IsFollowing c.args.tables.now c.loop-term.tables c.args.after c.loop-term.targets.entries l c.args.first.now.entries) cut a in
    term_within c.args.tables.now c.loop-term.tables a.grows.was a.grows c.in-Some.term.now (here.others (c.in-Some.term.now, c.in-Some.when.now) (inl refl)).0

pub add-requires : goal.add-requires
add-requires c =
    let a = c.loop-term.invariant in
    let mid = c.dot.new.self in
    let cut : c.loop-term.term-iterator ≡ (c.in-Some.term.now, c.in-Some.when.now) ∷ c.next.new.self = rest_more deref_pair _ _ _ (c.in-Some.term, c.in-Some.when) c.in-Some.is c.next.ensures.steps in
    let here = subst (λ (l : List (ℕ × ℕ)). IsFollowing c.args.tables.now c.loop-term.tables c.args.after c.loop-term.targets.entries l c.args.first.now.entries) cut a in
    let test = test_within c.loop-term.tables mid a.grows.sound c.dot.ensures.grows c.in-Some.when.now
    (test_within c.args.tables.now c.loop-term.tables a.grows.was a.grows c.in-Some.when.now (here.others (c.in-Some.term.now, c.in-Some.when.now) (inl refl)).1) in
    entry_added mid c.loop-term.targets.entries c.in_ok-product.product c.in-Some.when.now c.in_ok-product.ensures.is_term test (entries_kept c.loop-term.tables mid a.grows.sound c.dot.ensures.grows c.loop-term.targets.entries a.entries)

pub loop-term-preserved : goal.loop-term-preserved
loop-term-preserved c =
    let cut : c.loop-term.term-iterator ≡ (c.in-Some.term.now, c.in-Some.when.now) ∷ c.next.new.self = rest_more deref_pair _ _ _ (c.in-Some.term, c.in-Some.when) c.in-Some.is c.next.ensures.steps in
    let here = subst (λ (l : List (ℕ × ℕ)). IsFollowing c.args.tables.now c.loop-term.tables c.args.after c.loop-term.targets.entries l c.args.first.now.entries) cut c.loop-term.invariant in
    following_more c.args.tables.now c.loop-term.tables c.dot.new.self c.add.new.tables c.args.after c.in_ok-product.product c.loop-term.targets.entries c.add.new.to.entries c.next.new.self c.args.first.now.entries (c.in-Some.term.now, c.in-Some.when.now)
    here c.dot.ensures.grows c.in_ok-product.ensures.tree c.add.ensures.grows.grows c.in_ok-add.ensures.added

pub returns-clause-targets : goal.returns-clause-targets
returns-clause-targets c =
    let ended : c.loop-term.term-iterator ≡ [] = rest_all deref_pair _ _ _ c.in-None.is c.next.ensures.steps in
    following_ends c.args.tables.now c.loop-term.tables c.args.after c.loop-term.targets.entries c.args.first.now.entries
    (subst (λ (l : List (ℕ × ℕ)). IsFollowing c.args.tables.now c.loop-term.tables c.args.after c.loop-term.targets.entries l c.args.first.now.entries) ended c.loop-term.invariant)

pub returns-in_err-product-clause-grows : goal.returns-in_err-product-clause-grows
returns-in_err-product-clause-grows c = grows_trans c.args.tables.now c.loop-term.tables c.dot.new.self c.loop-term.invariant.grows c.dot.ensures.grows

pub returns-in_err-add-clause-grows : goal.returns-in_err-add-clause-grows
returns-in_err-add-clause-grows c =
    grows_trans c.args.tables.now c.loop-term.tables c.add.new.tables c.loop-term.invariant.grows
    (grows_trans c.loop-term.tables c.dot.new.self c.add.new.tables c.dot.ensures.grows c.add.ensures.grows.grows)

pub dot-requires-clause-second : goal.dot-requires-clause-second
dot-requires-clause-second c =
    let a = c.loop-term.invariant in
    term_within c.args.tables.now c.loop-term.tables a.grows.was a.grows c.args.after c.requires.is_term

pub returns-clause-grows : goal.returns-clause-grows
returns-clause-grows c = c.loop-term.invariant.grows
