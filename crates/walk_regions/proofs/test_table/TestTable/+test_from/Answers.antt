use Rattle.std.proofs.Common.{◌≡◌, ◌+◌, ◌<◌, ◌≤◌, ℕ, Bool, true, false, cond, get_or, set, refl, sym, ◌∙◌, subst, arith}
use Rattle.std.proofs.lemmas.Result.{IfOk-weaker}
use Rattle.kat_model.specs.Steps.{Atom}
use Rattle.term_nodes.specs.NodeLists.{NodeParts}
use Rattle.term_nodes.specs.Growth.{Grows}
use Rattle.term_nodes.proofs.Growing.{Grows-itself, Grows-trans}
use Rattle.test_diagrams.specs.Functions.{DiagramsParts, value_of, IsDiagramId, IsLeastTest, KeepsFunctions}
use Rattle.test_diagrams.proofs.Kept.{KeepsFunctions-itself, KeepsFunctions-trans}
use Rattle.walk_pairs.proofs.FixedDiagrams.{IsFixedTo}
use Rattle.walk_regions.specs.Working.StoredTests.{IsFree}
use Rattle.walk_regions.proofs.StoredTests.{test_same}
use Rattle.walk_regions.proofs.PartCases.{always_ok}
use Rattle.walk_regions.proofs.DiagramTests.{constant_value, least_past, fixed_free, free_kept, chosen_value, test_later, table_later}
use Rattle.walk_regions.proofs.test_table.TestTable.+test_from.Goals as goal

-- functions are kept over all steps
all_kept : (a b d e : DiagramsParts) → KeepsFunctions a b → KeepsFunctions b d → KeepsFunctions d e → KeepsFunctions a e
all_kept a b d e ab bd de = KeepsFunctions-trans a b e ab (KeepsFunctions-trans b d e bd de)

all_grow : (a b d e : NodeParts) → Grows a b → Grows b d → Grows d e → Grows a e
all_grow a b d e ab bd de = Grows-trans a b e ab (Grows-trans b d e bd de)

-- a diagram with its least test fixed, in a later collection
later_free : (b c d : DiagramsParts) (id high test : ℕ) (value : Bool) → KeepsFunctions b c → KeepsFunctions c d → IsDiagramId b id → IsLeastTest b id test → IsFixedTo c d test value id high → IsFree d high (test + 1)
later_free b c d id high test value first second own least fixed =
    fixed_free b d id high test value (second.tests ∙ first.tests) least
    (record { in_range = fixed.in_range; value = λ atom fits. fixed.value atom fits ∙ first.values id own (set atom test value) })

pub returns-in_default-clause-test : goal.returns-in_default-clause-test
returns-in_default-clause-test t c =
    let d = c.args.diagrams.now in
    let id = c.args.id in
    IfOk-weaker c.constant-in_default.result _ _
    (λ test own.
    test_same c.constant-in_default.new.store d.tests test (λ (atom : Atom). c.eq-value.result) (value_of d id)
    (constant_value d id c.constant.result c.eq-value.result c.constant.ensures.reduced c.requires.id c.constant.ensures.function (c.in_default.ensures.constant.0 refl) c.eq-value.ensures) (own d.tests))
    c.constant-in_default.ensures.test

pub fix-requires-2-clause-id : goal.fix-requires-2-clause-id
fix-requires-2-clause-id t c = c.in_ok-low.ensures.kept.ids c.args.id c.requires.id

pub returns-in_err-high-clause-kept : goal.returns-in_err-high-clause-kept
returns-in_err-high-clause-kept t c = KeepsFunctions-trans _ _ _ c.in_ok-low.ensures.kept c.in_err-high.ensures.kept

pub overflow_add-test : goal.overflow_add-test
overflow_add-test t c =
    let below : c.in-Some.test < c.args.diagrams.now.tests = c.in-Some.ensures.least.in_range in
    let count : c.tests-count.result ≡ c.args.diagrams.now.tests = c.tests-count.ensures.tests in
    omega (arith, below, count)

pub test_from-requires : goal.test_from-requires
test_from-requires t c =
    let b = c.args.diagrams.now in
    let d = c.fix.new.self in
    let e = c.fix-2.new.self in
    let id = c.args.id in
    let test = c.in-Some.test in
    let low = c.in_ok-low.low in
    let first = c.in_ok-low.ensures.kept in
    let second = c.in_ok-high.ensures.kept in
    let least : IsLeastTest b id test = c.in-Some.ensures.least in
    let past : c.args.from ≤ test = least_past b id c.args.from test c.requires.free least.depends in
    let below : test < b.tests = least.in_range in
    let tests : e.tests ≡ b.tests = second.tests ∙ first.tests in
    let is_low = c.in_ok-low.ensures.function.in_range in (
      omega (arith, past, below, tests),
      (
        second.ids low is_low,
        (
          free_kept d e low (test + 1) second is_low (fixed_free b d id low test false first.tests least c.in_ok-low.ensures.function),
          table_later c.args.store.now c.args.store.now b e c.args.self.now.tests.entries (Grows-itself c.args.store.now) (KeepsFunctions-trans b d e first second) c.requires.table,
        ),
      ),
    )

pub returns-in_err-on_low-clause-kept : goal.returns-in_err-on_low-clause-kept
returns-in_err-on_low-clause-kept t c = all_kept _ _ _ _ c.in_ok-low.ensures.kept c.in_ok-high.ensures.kept c.in_err-on_low.ensures.kept

pub overflow_add-test-2 : goal.overflow_add-test-2
overflow_add-test-2 t c =
    let below : c.in-Some.test < c.args.diagrams.now.tests = c.in-Some.ensures.least.in_range in
    let count : c.tests-count.result ≡ c.args.diagrams.now.tests = c.tests-count.ensures.tests in
    omega (arith, below, count)

pub test_from-requires-2 : goal.test_from-requires-2
test_from-requires-2 t c =
    let b = c.args.diagrams.now in
    let d = c.fix.new.self in
    let e = c.fix-2.new.self in
    let f = c.test_from.new.diagrams in
    let id = c.args.id in
    let test = c.in-Some.test in
    let high = c.in_ok-high.high in
    let first = c.in_ok-low.ensures.kept in
    let second = c.in_ok-high.ensures.kept in
    let third = c.in_ok-on_low.ensures.kept in
    let least : IsLeastTest b id test = c.in-Some.ensures.least in
    let past : c.args.from ≤ test = least_past b id c.args.from test c.requires.free least.depends in
    let below : test < b.tests = least.in_range in
    let tests : f.tests ≡ b.tests = third.tests ∙ second.tests ∙ first.tests in
    let is_high = c.in_ok-high.ensures.function.in_range in (
      omega (arith, past, below, tests),
      (
        third.ids high is_high,
        (
          free_kept e f high (test + 1) third is_high (later_free b d e id high test true first second c.requires.id least c.in_ok-high.ensures.function),
          c.in_ok-on_low.ensures.table,
        ),
      ),
    )

pub returns-in_err-on_high-clause-grows : goal.returns-in_err-on_high-clause-grows
returns-in_err-on_high-clause-grows t c = Grows-trans _ _ _ c.in_ok-on_low.ensures.grows c.in_err-on_high.ensures.grows

pub returns-in_err-on_high-clause-kept : goal.returns-in_err-on_high-clause-kept
returns-in_err-on_high-clause-kept t c = KeepsFunctions-trans _ _ _ (all_kept _ _ _ _ c.in_ok-low.ensures.kept c.in_ok-high.ensures.kept c.in_ok-on_low.ensures.kept) c.in_err-on_high.ensures.kept

pub returns-in_err-chosen-clause-grows : goal.returns-in_err-chosen-clause-grows
returns-in_err-chosen-clause-grows t c = all_grow _ _ _ _ c.in_ok-on_low.ensures.grows c.in_ok-on_high.ensures.grows c.in_err-chosen.ensures.grows

pub returns-in_err-chosen-clause-kept : goal.returns-in_err-chosen-clause-kept
returns-in_err-chosen-clause-kept t c = KeepsFunctions-trans _ _ _ (all_kept _ _ _ _ c.in_ok-low.ensures.kept c.in_ok-high.ensures.kept c.in_ok-on_low.ensures.kept) c.in_ok-on_high.ensures.kept

pub returns-in_err-note-clause-grows : goal.returns-in_err-note-clause-grows
returns-in_err-note-clause-grows t c = all_grow _ _ _ _ c.in_ok-on_low.ensures.grows c.in_ok-on_high.ensures.grows c.in_ok-chosen.ensures.grows

pub returns-in_err-note-clause-kept : goal.returns-in_err-note-clause-kept
returns-in_err-note-clause-kept t c = KeepsFunctions-trans _ _ _ (all_kept _ _ _ _ c.in_ok-low.ensures.kept c.in_ok-high.ensures.kept c.in_ok-on_low.ensures.kept) c.in_ok-on_high.ensures.kept

pub returns-clause-test : goal.returns-clause-test
returns-clause-test t c =
    let b = c.args.diagrams.now in
    let d = c.fix.new.self in
    let e = c.fix-2.new.self in
    let f = c.test_from.new.diagrams in
    let g = c.test_from-2.new.diagrams in
    let id = c.args.id in
    let test = c.in-Some.test in
    let low = c.in_ok-low.low in
    let high = c.in_ok-high.high in
    let first = c.in_ok-low.ensures.kept in
    let second = c.in_ok-high.ensures.kept in
    let third = c.in_ok-on_low.ensures.kept in
    let fourth = c.in_ok-on_high.ensures.kept in
    let rest = KeepsFunctions-trans e f g third fourth in
    let is_low = third.ids low (second.ids low c.in_ok-low.ensures.function.in_range) in
    let below : test < g.tests =
    (let least = c.in-Some.ensures.least.in_range in let tests : g.tests ≡ b.tests = rest.tests ∙ second.tests ∙ first.tests in omega (arith, least, tests)) in
    let on_low = test_later c.test_from.new.store c.test_from-2.new.store f g low c.in_ok-on_low.on_low c.in_ok-on_high.ensures.grows fourth is_low c.in_ok-on_low.ensures.test in
    let own = c.in_ok-chosen.ensures.test g.tests (value_of g low) (value_of g high) below on_low c.in_ok-on_high.ensures.test in
    test_same c.choice.new.store g.tests c.in_ok-chosen.chosen (λ (atom : Atom). cond (get_or atom test false) (value_of g high atom) (value_of g low atom)) (value_of g id)
    (chosen_value b d e g id test low high first second rest c.requires.id c.in_ok-low.ensures.function c.in_ok-high.ensures.function) own

pub returns-clause-table : goal.returns-clause-table
returns-clause-table t c =
    let b = c.args.diagrams.now in
    let g = c.test_from-2.new.diagrams in
    let id = c.args.id in
    let kept = KeepsFunctions-trans b c.test_from.new.diagrams g (all_kept b c.fix.new.self c.fix-2.new.self c.test_from.new.diagrams c.in_ok-low.ensures.kept c.in_ok-high.ensures.kept c.in_ok-on_low.ensures.kept) c.in_ok-on_high.ensures.kept in
    let before = table_later c.test_from-2.new.store c.choice.new.store g g c.test_from-2.new.self.tests.entries c.in_ok-chosen.ensures.grows (KeepsFunctions-itself g) c.in_ok-on_high.ensures.table in
    c.in_ok-note.ensures c.choice.new.store g before (kept.ids id c.requires.id) (returns-clause-test t c)

pub returns-clause-grows : goal.returns-clause-grows
returns-clause-grows t c = all_grow _ _ _ _ c.in_ok-on_low.ensures.grows c.in_ok-on_high.ensures.grows c.in_ok-chosen.ensures.grows

pub returns-clause-kept : goal.returns-clause-kept
returns-clause-kept t c = KeepsFunctions-trans _ _ _ (all_kept _ _ _ _ c.in_ok-low.ensures.kept c.in_ok-high.ensures.kept c.in_ok-on_low.ensures.kept) c.in_ok-on_high.ensures.kept

pub returns-in_default-clause-table : goal.returns-in_default-clause-table
returns-in_default-clause-table t c = always_ok c.constant-in_default.result (table_later c.args.store.now c.constant-in_default.new.store c.args.diagrams.now c.args.diagrams.now c.args.self.now.tests.entries c.constant-in_default.ensures.grows (KeepsFunctions-itself c.args.diagrams.now) c.requires.table)

pub fix-requires-2-clause-in_range : goal.fix-requires-2-clause-in_range
fix-requires-2-clause-in_range t c = subst (λ n. c.in-Some.test < n) (sym c.in_ok-low.ensures.kept.tests) c.in-Some.ensures.least.in_range

pub choice-requires-clause-low : goal.choice-requires-clause-low
choice-requires-clause-low t c = c.in_ok-on_high.ensures.grows.test_numbers c.in_ok-on_low.on_low c.in_ok-on_low.ensures.test.is_id

pub choice-requires-clause-high : goal.choice-requires-clause-high
choice-requires-clause-high t c = c.in_ok-on_high.ensures.test.is_id

pub returns-in_default-clause-grows : goal.returns-in_default-clause-grows
returns-in_default-clause-grows t c = c.constant-in_default.ensures.grows

pub returns-in_default-clause-kept : goal.returns-in_default-clause-kept
returns-in_default-clause-kept t c = KeepsFunctions-itself c.args.diagrams.now

pub fix-requires-clause-id : goal.fix-requires-clause-id
fix-requires-clause-id t c = c.requires.id

pub fix-requires-clause-in_range : goal.fix-requires-clause-in_range
fix-requires-clause-in_range t c = c.in-Some.ensures.least.in_range

pub returns-in_err-low-clause-grows : goal.returns-in_err-low-clause-grows
returns-in_err-low-clause-grows t c = Grows-itself c.args.store.now

pub returns-in_err-low-clause-kept : goal.returns-in_err-low-clause-kept
returns-in_err-low-clause-kept t c = c.in_err-low.ensures.kept

pub returns-in_err-high-clause-grows : goal.returns-in_err-high-clause-grows
returns-in_err-high-clause-grows t c = Grows-itself c.args.store.now

pub returns-in_err-on_low-clause-grows : goal.returns-in_err-on_low-clause-grows
returns-in_err-on_low-clause-grows t c = c.in_err-on_low.ensures.grows

pub returns-in-Some-find-clause-test : goal.returns-in-Some-find-clause-test
returns-in-Some-find-clause-test t c = c.in-Some-find.ensures c.args.store.now c.args.diagrams.now c.requires.table

pub returns-in-Some-find-clause-table : goal.returns-in-Some-find-clause-table
returns-in-Some-find-clause-table t c = c.requires.table

pub returns-in-Some-find-clause-grows : goal.returns-in-Some-find-clause-grows
returns-in-Some-find-clause-grows t c = Grows-itself c.args.store.now

pub returns-in-Some-find-clause-kept : goal.returns-in-Some-find-clause-kept
returns-in-Some-find-clause-kept t c = KeepsFunctions-itself c.args.diagrams.now
