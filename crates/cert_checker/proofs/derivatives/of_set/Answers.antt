use Rattle.std.proofs.Common.{◌≡◌, ◌<◌, ◌+◌, ℕ, List, ◌∷◌, length, get_or, drop, inl, refl, sym, subst, arith}
use Rattle.std.proofs.lemmas.List.{drop_more, drop_all}
use Rattle.kat_model.specs.Members.{Has}
use Rattle.cert_checker.proofs.StepLists.{IsGathering, gathering_begins, gathering_more, gathering_ends, below_at, read_map}
use Rattle.cert_checker.proofs.TargetSets.{entries_kept}
use Rattle.cert_checker.proofs.GrowingTables.{tests_trans}
use Rattle.cert_checker.proofs.derivatives.of_set.Goals as goal

pub loop-number-init : goal.loop-number-init
loop-number-init c = gathering_begins c.args.tables.now c.constant.new.self c.args.action c.in_ok-always.always c.new-targets.result.entries c.args.set.now c.new-targets.ensures.empty c.constant.ensures.grows c.in_ok-always.ensures.values.0 c.in_ok-always.ensures.values.1

pub add_all-requires-clause-others : goal.add_all-requires-clause-others
add_all-requires-clause-others c =
    let now = c.loop-number.invariant in
    let grown = now.grows.grows in
    let set = c.args.set.now in
    let i = c.loop-number.number-index in
    let k = get_or set i 0 in
    let low : k < length c.args.steps.now = below_at (length c.args.steps.now) set i 0 c.requires.numbers (omega arith) in
    let cut : drop i set ≡ k ∷ drop (i + 1) set = drop_more set i 0 (omega arith) in
    let member = now.left k (subst (λ (l : List ℕ). Has l k) (sym cut) (inl refl)) in
    let step = c.requires.steps k c.index-steps-number.result.entries member (read_map (λ t. t.entries) c.args.steps.now k c.index-steps-number.result low c.index-steps-number.is) in
    entries_kept c.args.tables.now c.loop-number.tables grown.was grown c.index-steps-number.result.entries step.entries

pub loop-number-preserved : goal.loop-number-preserved
loop-number-preserved c =
    let now = c.loop-number.invariant in
    let set = c.args.set.now in
    let i = c.loop-number.number-index in
    let k = get_or set i 0 in
    let low : k < length c.args.steps.now = below_at (length c.args.steps.now) set i 0 c.requires.numbers (omega arith) in
    let cut : drop i set ≡ k ∷ drop (i + 1) set = drop_more set i 0 (omega arith) in
    let here = subst (λ (l : List ℕ). IsGathering c.args.tables.now c.loop-number.tables c.args.action c.in_ok-always.always c.loop-number.targets.entries l set) cut now in
    let step = c.requires.steps k c.index-steps-number.result.entries (here.left k (inl refl)) (read_map (λ t. t.entries) c.args.steps.now k c.index-steps-number.result low c.index-steps-number.is) in
    gathering_more c.args.tables.now c.loop-number.tables c.add_all.new.tables c.args.action c.in_ok-always.always c.loop-number.targets.entries c.add_all.new.targets.entries (drop (i + 1) set) set k c.index-steps-number.result.entries
    here step c.add_all.ensures.grows c.in_ok-add_all.ensures.added

pub returns-clause-targets : goal.returns-clause-targets
returns-clause-targets c =
    let set = c.args.set.now in
    gathering_ends c.args.tables.now c.loop-number.tables c.args.action c.in_ok-always.always c.loop-number.targets.entries (drop c.loop-number.number-index set) set (drop_all c.loop-number.number-index set (omega arith)) c.loop-number.invariant

pub returns-in_err-add_all-clause-grows : goal.returns-in_err-add_all-clause-grows
returns-in_err-add_all-clause-grows c = tests_trans c.args.tables.now c.loop-number.tables c.add_all.new.tables c.loop-number.invariant.grows c.add_all.ensures.grows

pub bounds-steps-number : goal.bounds-steps-number
bounds-steps-number c = below_at (length c.args.steps.now) c.args.set.now c.loop-number.number-index 0 c.requires.numbers (omega arith)

pub add_all-requires-clause-entries : goal.add_all-requires-clause-entries
add_all-requires-clause-entries c = c.loop-number.invariant.entries

pub add_all-requires-clause-is_test : goal.add_all-requires-clause-is_test
add_all-requires-clause-is_test c = c.loop-number.invariant.test

pub returns-in_err-always-clause-grows : goal.returns-in_err-always-clause-grows
returns-in_err-always-clause-grows c = c.constant.ensures.grows

pub returns-clause-grows : goal.returns-clause-grows
returns-clause-grows c = c.loop-number.invariant.grows
