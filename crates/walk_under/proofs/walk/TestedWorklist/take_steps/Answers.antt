use Rattle.std.proofs.Common.{◌≡◌, ◌≤◌, ◌<◌, ◌+◌, refl, sym, subst, arith}
use Rattle.kat_model.proofs.Places.{has_at}
use Rattle.test_diagrams.specs.Functions.{IsDiagramId}
use Rattle.walk_under.specs.Working.Walking.{IsUnderWay, IsTaking}
use Rattle.walk_under.specs.declared.walk.TestedWorklist.{TestedWorklist}
use Rattle.walk_under.proofs.Taking.{level_within, taking_later, alike_later, is_difference, pair_taken}
use Rattle.walk_under.proofs.walk.TestedWorklist.take_steps.Goals as goal

pub distinction_at-requires-clause-test : goal.distinction_at-requires-clause-test
distinction_at-requires-clause-test c =
    let r = c.requires.taking in
    let t = r.2 in
    let w : TestedWorklist = c.args.self.now in
    subst (IsDiagramId w.diagrams) (sym (c.test_at-test.ensures r.1 t.at)) (t.under_way.entries r.1 (has_at w.listing.entries.items c.args.place r.1 t.at)).test

pub distinction_at-requires-clause-left : goal.distinction_at-requires-clause-left
distinction_at-requires-clause-left c = c.requires.taking.2.left.accepts.in_range

pub distinction_at-requires-clause-right : goal.distinction_at-requires-clause-right
distinction_at-requires-clause-right c = c.requires.taking.2.right.accepts.in_range

pub returns-in-Some-clause-taken : goal.returns-in-Some-clause-taken
returns-in-Some-clause-taken c s from t count =
    let w : TestedWorklist = c.args.self.now in
    let x : TestedWorklist = record { listing = c.args.self.now.listing; moves = c.args.self.now.moves; diagrams = c.distinction_at.new.diagrams; derivatives = c.args.self.now.derivatives } in
    let steps = c.args.steps.now in
    let d = c.in_ok-found.ensures in
    let found = rw c.in-Some.is at d.found in (
      (taking_later s w x c.args.place from steps d.kept t refl refl refl).under_way,
      is_difference s w x c.args.place from steps c.test_at-test.result c.in-Some.found.atom.items d.kept refl t (c.test_at-test.ensures from t.at) found,
    )

pub returns-in-Some-clause-region : goal.returns-in-Some-clause-region
returns-in-Some-clause-region c = rw c.in-Some.is at c.in_ok-found.ensures.region

pub taken_pair_at-requires-clause-place : goal.taken_pair_at-requires-clause-place
taken_pair_at-requires-clause-place c = c.requires.place

pub taken_pair_at-requires-clause-tests : goal.taken_pair_at-requires-clause-tests
taken_pair_at-requires-clause-tests c f h =
    let r = c.requires.taking in
    let x : TestedWorklist = record { listing = c.args.self.now.listing; moves = c.args.self.now.moves; diagrams = c.distinction_at.new.diagrams; derivatives = c.args.self.now.derivatives } in
    let d = c.in_ok-found.ensures in
    ((taking_later r.0 c.args.self.now x c.args.place r.1 c.args.steps.now d.kept r.2 refl refl refl).under_way.entries f h).test

pub expand-requires-clause-level : goal.expand-requires-clause-level
expand-requires-clause-level c =
    let r = c.requires.taking in
    let x : TestedWorklist = record { listing = c.args.self.now.listing; moves = c.args.self.now.moves; diagrams = c.distinction_at.new.diagrams; derivatives = c.args.self.now.derivatives } in
    let d = c.in_ok-found.ensures in
    let later = taking_later r.0 c.args.self.now x c.args.place r.1 c.args.steps.now d.kept r.2 refl refl refl in
    let level : r.1.level ≤ c.args.place = level_within r.0 c.args.self.now c.args.place r.1 r.2.under_way r.2.at in
    let same : c.in_ok-taken_pair.taken_pair.level ≡ r.1.level = (c.in_ok-taken_pair.ensures.taken_pair r.1 later.at).level in
    let small = c.requires.small in
    omega (arith, level, same, small)

pub expand-requires-clause-taking : goal.expand-requires-clause-taking
expand-requires-clause-taking c =
    let u = c.requires.taking in
    let x : TestedWorklist = record { listing = c.args.self.now.listing; moves = c.args.self.now.moves; diagrams = c.distinction_at.new.diagrams; derivatives = c.args.self.now.derivatives } in
    let y : TestedWorklist = c.taken_pair_at.new.self in
    let steps = c.args.steps.now in
    let d = c.in_ok-found.ensures in
    let r = c.in_ok-taken_pair.ensures in
    let later = taking_later u.0 c.args.self.now x c.args.place u.1 steps d.kept u.2 refl refl refl in (
      u.0,
      u.1,
      subst (λ p. IsTaking u.0 y p u.1 steps) (sym r.place) (taking_later u.0 x y c.args.place u.1 steps r.kept later r.listing r.moves r.derivatives),
      r.taken_pair u.1 later.at,
      u.3,
    )

pub returns-clause-taken : goal.returns-clause-taken
returns-clause-taken c s from t count =
    let w : TestedWorklist = c.args.self.now in
    let x : TestedWorklist = record { listing = c.args.self.now.listing; moves = c.args.self.now.moves; diagrams = c.distinction_at.new.diagrams; derivatives = c.args.self.now.derivatives } in
    let y : TestedWorklist = c.taken_pair_at.new.self in
    let z : TestedWorklist = c.expand.new.self in
    let steps = c.args.steps.now in
    let taken_pair = c.in_ok-taken_pair.taken_pair in
    let test = c.test_at-test.result in
    let d = c.in_ok-found.ensures in
    let r = c.in_ok-taken_pair.ensures in
    let same : test ≡ from.test = c.test_at-test.ensures from t.at in
    let later = taking_later s w x c.args.place from steps d.kept t refl refl refl in
    let last = subst (λ p. IsTaking s y p from steps) (sym r.place) (taking_later s x y c.args.place from steps r.kept later r.listing r.moves r.derivatives) in
    let own = r.taken_pair from later.at in
    let alike = alike_later s x y c.args.place from steps r.kept later test same (alike_later s w x c.args.place from steps d.kept t test same (rw c.in_default.is at d.found)) in
    let stepped = c.in_ok-expand.ensures s from last own count in
    subst (λ p. IsUnderWay s z (p + 1)) r.place
    (pair_taken s y z taken_pair from steps stepped.0 test last own same alike (λ a l. stepped.1 a (subst (λ n. a < n) (sym count) l)) stepped.2)
