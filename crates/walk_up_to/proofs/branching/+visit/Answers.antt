use Rattle.std.proofs.Common.{◌≡◌, ◌+◌, inl, inr, true, false, refl, sym, ap, ◌∙◌, subst, arith, Err}
use Rattle.std.specs.Prelude.{IsSome}
use Rattle.std.proofs.lemmas.Result.{on_ok_weaker}
use Rattle.test_diagrams.proofs.Kept.{KeepsFunctions-itself, KeepsFunctions-trans}
use Rattle.walk_up_to.specs.Cases.{AreConstant, IsNextTest, open_count}
use Rattle.walk_up_to.specs.Covers.{covers}
use Rattle.walk_up_to.proofs.PassedOn.{passed_on, passed_cost, no_room_full, no_room_cost, not_stopped}
use Rattle.walk_up_to.proofs.Leaves.{visits_covered}
use Rattle.walk_up_to.proofs.Splits.{next_open, case_kept, fewer_part, low_then_high, high_then_low, low_first_passes, high_first_passes}
use Rattle.walk_up_to.proofs.branching.+visit.Goals as goal

pub visit-returns-then-branch-clause-visited : goal.visit-returns-then-branch-clause-visited
visit-returns-then-branch-clause-visited t c =
    visits_covered c.args.diagrams.now c.args.source.now c.args.case.now.decided.items c.args.case.now.items.items c.ends_of-ends.result c.ends_of-ends.ensures.ends c.args.listed.now
    (ap (covers c.args.listed.now c.ends_of-ends.result) (sym c.deref-then-have_changed.ensures.value) ∙ sym c.in_ok-is_covered.ensures ∙ c.if-branch.true)

pub visit-returns-in_err-count_case-clause-full : goal.visit-returns-in_err-count_case-clause-full
visit-returns-in_err-count_case-clause-full t c = λ is. absurd (c.in_err-count_case.ensures.pairs (ap Err (passed_on c.from_residual.result c.in_err-count_case.field-0.0 c.from_residual.ensures.1 is)))

pub visit-returns-in_err-count_case-clause-limited : goal.visit-returns-in_err-count_case-clause-limited
visit-returns-in_err-count_case-clause-limited t c = λ is. subst IsSome c.limit.ensures (c.in_err-count_case.ensures.limited (ap Err (passed_cost c.from_residual.result c.in_err-count_case.field-0.0 c.from_residual.ensures.1 is)))

pub visit-visit_split-requires : goal.visit-visit_split-requires
visit-visit_split-requires t c =
    let undecided = next_open c.args.diagrams.now c.args.case.now.decided.items c.args.case.now.items.items c.in-Some.test c.requires.case (subst (λ is. IsNextTest c.args.diagrams.now is c.in-Some.test) c.deref.ensures.value c.in-Some.ensures) in
    (omega (arith, c.decreases), (c.requires.case, undecided))

pub visit_split-case_with-requires-2-clause-case : goal.visit_split-case_with-requires-2-clause-case
visit_split-case_with-requires-2-clause-case t c =
    case_kept c.args.diagrams.now c.case_with.new.diagrams c.in_ok-low.ensures.kept c.args.case.now.decided.items c.args.case.now.items.items c.requires.case

pub visit_split-returns-in_err-high-clause-kept : goal.visit_split-returns-in_err-high-clause-kept
visit_split-returns-in_err-high-clause-kept t c =
    KeepsFunctions-trans c.args.diagrams.now c.case_with.new.diagrams c.case_with-2.new.diagrams c.in_ok-low.ensures.kept c.in_err-high.ensures.kept

pub visit_split-visit_both-requires : goal.visit_split-visit_both-requires
visit_split-visit_both-requires t c =
    let fewer_low : open_count c.in_ok-low.low.decided.items + 1 ≡ open_count c.args.case.now.decided.items = fewer_part c.args.case.now.decided.items c.in_ok-low.low.decided.items c.args.test false c.requires.open c.in_ok-low.ensures.decided in
    let fewer_high : open_count c.in_ok-high.high.decided.items + 1 ≡ open_count c.args.case.now.decided.items = fewer_part c.args.case.now.decided.items c.in_ok-high.high.decided.items c.args.test true c.requires.open c.in_ok-high.ensures.decided in
    let low_case = case_kept c.case_with.new.diagrams c.case_with-2.new.diagrams c.in_ok-high.ensures.kept c.in_ok-low.low.decided.items c.in_ok-low.low.items.items c.in_ok-low.ensures.case in
    (omega (arith, fewer_high, c.decreases), (c.in_ok-high.ensures.case, (low_case, omega (arith, fewer_low, fewer_high))))

pub visit_split-returns-then-is_lighter-clause-visited : goal.visit_split-returns-then-is_lighter-clause-visited
visit_split-returns-then-is_lighter-clause-visited t c =
    on_ok_weaker c.visit_both.result
    (high_then_low c.args.diagrams.now c.case_with.new.diagrams c.case_with-2.new.diagrams c.args.source.now c.args.case.now.decided.items c.args.case.now.items.items c.args.test c.requires.open c.requires.case.are c.in_ok-low.ensures.kept c.in_ok-high.ensures.kept c.in_ok-low.low.decided.items c.in_ok-high.high.decided.items c.in_ok-low.low.items.items c.in_ok-high.high.items.items c.in_ok-low.ensures.decided c.in_ok-high.ensures.decided c.in_ok-low.ensures.items c.in_ok-high.ensures.items c.args.listed.now c.visit_both.new.listed)
    c.visit_both.ensures.visited

pub visit_split-returns-then-is_lighter-clause-full : goal.visit_split-returns-then-is_lighter-clause-full
visit_split-returns-then-is_lighter-clause-full t c = λ is.
    high_first_passes c.args.diagrams.now c.case_with.new.diagrams c.case_with-2.new.diagrams c.args.source.now c.args.case.now.decided.items c.args.case.now.items.items c.args.test c.requires.open c.requires.case.are c.in_ok-low.ensures.kept c.in_ok-high.ensures.kept c.in_ok-low.low.decided.items c.in_ok-high.high.decided.items c.in_ok-low.low.items.items c.in_ok-high.high.items.items c.in_ok-low.ensures.decided c.in_ok-high.ensures.decided c.in_ok-low.ensures.items c.in_ok-high.ensures.items c.args.listed.now (c.visit_both.ensures.full is)

pub visit_split-returns-then-is_lighter-clause-kept : goal.visit_split-returns-then-is_lighter-clause-kept
visit_split-returns-then-is_lighter-clause-kept t c =
    KeepsFunctions-trans c.args.diagrams.now c.case_with-2.new.diagrams c.visit_both.new.diagrams (KeepsFunctions-trans c.args.diagrams.now c.case_with.new.diagrams c.case_with-2.new.diagrams c.in_ok-low.ensures.kept c.in_ok-high.ensures.kept) c.visit_both.ensures.kept

pub visit_split-visit_both-requires-2 : goal.visit_split-visit_both-requires-2
visit_split-visit_both-requires-2 t c =
    let fewer_low : open_count c.in_ok-low.low.decided.items + 1 ≡ open_count c.args.case.now.decided.items = fewer_part c.args.case.now.decided.items c.in_ok-low.low.decided.items c.args.test false c.requires.open c.in_ok-low.ensures.decided in
    let fewer_high : open_count c.in_ok-high.high.decided.items + 1 ≡ open_count c.args.case.now.decided.items = fewer_part c.args.case.now.decided.items c.in_ok-high.high.decided.items c.args.test true c.requires.open c.in_ok-high.ensures.decided in
    let low_case = case_kept c.case_with.new.diagrams c.case_with-2.new.diagrams c.in_ok-high.ensures.kept c.in_ok-low.low.decided.items c.in_ok-low.low.items.items c.in_ok-low.ensures.case in
    (omega (arith, fewer_low, c.decreases), (low_case, (c.in_ok-high.ensures.case, omega (arith, fewer_low, fewer_high))))

pub visit_split-returns-clause-visited : goal.visit_split-returns-clause-visited
visit_split-returns-clause-visited t c =
    on_ok_weaker c.visit_both-2.result
    (low_then_high c.args.diagrams.now c.case_with.new.diagrams c.case_with-2.new.diagrams c.args.source.now c.args.case.now.decided.items c.args.case.now.items.items c.args.test c.requires.open c.requires.case.are c.in_ok-low.ensures.kept c.in_ok-high.ensures.kept c.in_ok-low.low.decided.items c.in_ok-high.high.decided.items c.in_ok-low.low.items.items c.in_ok-high.high.items.items c.in_ok-low.ensures.decided c.in_ok-high.ensures.decided c.in_ok-low.ensures.items c.in_ok-high.ensures.items c.args.listed.now c.visit_both-2.new.listed)
    c.visit_both-2.ensures.visited

pub visit_split-returns-clause-full : goal.visit_split-returns-clause-full
visit_split-returns-clause-full t c = λ is.
    low_first_passes c.args.diagrams.now c.case_with.new.diagrams c.case_with-2.new.diagrams c.args.source.now c.args.case.now.decided.items c.args.case.now.items.items c.args.test c.requires.open c.requires.case.are c.in_ok-low.ensures.kept c.in_ok-high.ensures.kept c.in_ok-low.low.decided.items c.in_ok-high.high.decided.items c.in_ok-low.low.items.items c.in_ok-high.high.items.items c.in_ok-low.ensures.decided c.in_ok-high.ensures.decided c.in_ok-low.ensures.items c.in_ok-high.ensures.items c.args.listed.now (c.visit_both-2.ensures.full is)

pub visit_split-returns-clause-kept : goal.visit_split-returns-clause-kept
visit_split-returns-clause-kept t c =
    KeepsFunctions-trans c.args.diagrams.now c.case_with-2.new.diagrams c.visit_both-2.new.diagrams (KeepsFunctions-trans c.args.diagrams.now c.case_with.new.diagrams c.case_with-2.new.diagrams c.in_ok-low.ensures.kept c.in_ok-high.ensures.kept) c.visit_both-2.ensures.kept

pub visit_both-visit-requires : goal.visit_both-visit-requires
visit_both-visit-requires t c = (omega (arith, c.decreases), c.requires.first)

pub visit_both-returns-in_err-visit-clause-full : goal.visit_both-returns-in_err-visit-clause-full
visit_both-returns-in_err-visit-clause-full t c = λ is. inl (c.in_err-visit.ensures.full (ap Err (passed_on c.from_residual.result c.in_err-visit.field-0.0 c.from_residual.ensures.1 is)))

pub visit_both-returns-in_err-visit-clause-limited : goal.visit_both-returns-in_err-visit-clause-limited
visit_both-returns-in_err-visit-clause-limited t c = λ is. c.in_err-visit.ensures.limited (ap Err (passed_cost c.from_residual.result c.in_err-visit.field-0.0 c.from_residual.ensures.1 is))

pub visit_both-visit-requires-2 : goal.visit_both-visit-requires-2
visit_both-visit-requires-2 t c = (
  omega (arith, c.requires.open, c.decreases),
  case_kept c.args.diagrams.now c.visit.new.diagrams c.in_ok-visit.ensures.kept c.args.second.now.decided.items c.args.second.now.items.items c.requires.second,
)

pub visit_both-returns-clause-visited : goal.visit_both-returns-clause-visited
visit_both-returns-clause-visited t c =
    on_ok_weaker c.visit-2.result
    (λ visited. record {
      between = c.visit.new.diagrams;
      middle = c.visit.new.listed;
      kept = c.in_ok-visit.ensures.kept;
      visits_first = c.in_ok-visit.ensures.visited;
      visits_second = visited;
    })
    c.visit-2.ensures.visited

pub visit_both-returns-clause-full : goal.visit_both-returns-clause-full
visit_both-returns-clause-full t c = λ is. inr (record {
  between = c.visit.new.diagrams;
  middle = c.visit.new.listed;
  kept = c.in_ok-visit.ensures.kept;
  limit = c.visit.ensures.limit;
  visits_first = c.in_ok-visit.ensures.visited;
  passes = c.visit-2.ensures.full is;
})

pub visit_both-returns-clause-limited : goal.visit_both-returns-clause-limited
visit_both-returns-clause-limited t c = λ is. subst IsSome c.visit.ensures.limit (c.visit-2.ensures.limited is)

pub visit_both-returns-clause-kept : goal.visit_both-returns-clause-kept
visit_both-returns-clause-kept t c = KeepsFunctions-trans c.args.diagrams.now c.visit.new.diagrams c.visit-2.new.diagrams c.in_ok-visit.ensures.kept c.visit-2.ensures.kept

pub visit-returns-in_default-clause-kept : goal.visit-returns-in_default-clause-kept
visit-returns-in_default-clause-kept t c = KeepsFunctions-itself c.args.diagrams.now

pub visit-returns-in_err-count_case-clause-limit : goal.visit-returns-in_err-count_case-clause-limit
visit-returns-in_err-count_case-clause-limit t c = refl

pub visit-returns-in_err-count_case-clause-kept : goal.visit-returns-in_err-count_case-clause-kept
visit-returns-in_err-count_case-clause-kept t c = KeepsFunctions-itself c.args.diagrams.now

pub visit-returns-then-branch-clause-full : goal.visit-returns-then-branch-clause-full
visit-returns-then-branch-clause-full t c is = absurd (not_stopped _ _ is)

pub visit-returns-then-branch-clause-limited : goal.visit-returns-then-branch-clause-limited
visit-returns-then-branch-clause-limited t c is = absurd (not_stopped _ _ is)

pub visit-returns-then-branch-clause-limit : goal.visit-returns-then-branch-clause-limit
visit-returns-then-branch-clause-limit t c = refl

pub visit-returns-then-branch-clause-kept : goal.visit-returns-then-branch-clause-kept
visit-returns-then-branch-clause-kept t c = KeepsFunctions-itself c.args.diagrams.now

pub visit-returns-clause-visited : goal.visit-returns-clause-visited
visit-returns-clause-visited t c = c.visit_split.ensures.visited

pub visit-returns-clause-full : goal.visit-returns-clause-full
visit-returns-clause-full t c = c.visit_split.ensures.full

pub visit-returns-clause-limited : goal.visit-returns-clause-limited
visit-returns-clause-limited t c = c.visit_split.ensures.limited

pub visit-returns-clause-limit : goal.visit-returns-clause-limit
visit-returns-clause-limit t c = c.visit_split.ensures.limit

pub visit-returns-clause-kept : goal.visit-returns-clause-kept
visit-returns-clause-kept t c = c.visit_split.ensures.kept

pub visit_split-case_with-requires-clause-ends : goal.visit_split-case_with-requires-clause-ends
visit_split-case_with-requires-clause-ends t c = c.ends_of-ends.ensures.ends

pub visit_split-case_with-requires-clause-case : goal.visit_split-case_with-requires-clause-case
visit_split-case_with-requires-clause-case t c = c.requires.case

pub visit_split-case_with-requires-clause-open : goal.visit_split-case_with-requires-clause-open
visit_split-case_with-requires-clause-open t c = c.requires.open

pub visit_split-case_with-requires-2-clause-open : goal.visit_split-case_with-requires-2-clause-open
visit_split-case_with-requires-2-clause-open t c = c.requires.open

pub visit_split-returns-in_err-low-clause-full : goal.visit_split-returns-in_err-low-clause-full
visit_split-returns-in_err-low-clause-full t c is = absurd (no_room_full c.from_residual.result c.from_residual.ensures.1 is)

pub visit_split-returns-in_err-low-clause-limited : goal.visit_split-returns-in_err-low-clause-limited
visit_split-returns-in_err-low-clause-limited t c is = absurd (no_room_cost c.from_residual.result c.from_residual.ensures.1 is)

pub visit_split-returns-in_err-low-clause-limit : goal.visit_split-returns-in_err-low-clause-limit
visit_split-returns-in_err-low-clause-limit t c = refl

pub visit_split-returns-in_err-low-clause-kept : goal.visit_split-returns-in_err-low-clause-kept
visit_split-returns-in_err-low-clause-kept t c = c.in_err-low.ensures.kept

pub visit_split-returns-in_err-high-clause-full : goal.visit_split-returns-in_err-high-clause-full
visit_split-returns-in_err-high-clause-full t c is = absurd (no_room_full c.from_residual-in_err-high.result c.from_residual-in_err-high.ensures.1 is)

pub visit_split-returns-in_err-high-clause-limited : goal.visit_split-returns-in_err-high-clause-limited
visit_split-returns-in_err-high-clause-limited t c is = absurd (no_room_cost c.from_residual-in_err-high.result c.from_residual-in_err-high.ensures.1 is)

pub visit_split-returns-in_err-high-clause-limit : goal.visit_split-returns-in_err-high-clause-limit
visit_split-returns-in_err-high-clause-limit t c = refl

pub visit_split-returns-then-is_lighter-clause-limited : goal.visit_split-returns-then-is_lighter-clause-limited
visit_split-returns-then-is_lighter-clause-limited t c = c.visit_both.ensures.limited

pub visit_split-returns-then-is_lighter-clause-limit : goal.visit_split-returns-then-is_lighter-clause-limit
visit_split-returns-then-is_lighter-clause-limit t c = c.visit_both.ensures.limit

pub visit_split-returns-clause-limited : goal.visit_split-returns-clause-limited
visit_split-returns-clause-limited t c = c.visit_both-2.ensures.limited

pub visit_split-returns-clause-limit : goal.visit_split-returns-clause-limit
visit_split-returns-clause-limit t c = c.visit_both-2.ensures.limit

pub visit_both-returns-in_err-visit-clause-limit : goal.visit_both-returns-in_err-visit-clause-limit
visit_both-returns-in_err-visit-clause-limit t c = c.in_err-visit.ensures.limit

pub visit_both-returns-in_err-visit-clause-kept : goal.visit_both-returns-in_err-visit-clause-kept
visit_both-returns-in_err-visit-clause-kept t c = c.in_err-visit.ensures.kept

pub visit_both-returns-clause-limit : goal.visit_both-returns-clause-limit
visit_both-returns-clause-limit t c = c.visit-2.ensures.limit ∙ c.visit.ensures.limit

pub visit-visit_leaf-requires-clause-case : goal.visit-visit_leaf-requires-clause-case
visit-visit_leaf-requires-clause-case t c = c.requires.case

pub visit-returns-in_default-clause-visited : goal.visit-returns-in_default-clause-visited
visit-returns-in_default-clause-visited t c = c.visit_leaf.ensures.visited

pub visit-returns-in_default-clause-full : goal.visit-returns-in_default-clause-full
visit-returns-in_default-clause-full t c = c.visit_leaf.ensures.full

pub visit-returns-in_default-clause-limited : goal.visit-returns-in_default-clause-limited
visit-returns-in_default-clause-limited t c = c.visit_leaf.ensures.limited

pub visit-returns-in_default-clause-limit : goal.visit-returns-in_default-clause-limit
visit-returns-in_default-clause-limit t c = c.visit_leaf.ensures.limit

pub visit-returns-in_err-is_covered-clause-full : goal.visit-returns-in_err-is_covered-clause-full
visit-returns-in_err-is_covered-clause-full t c is = absurd (no_room_full c.from_residual-in_err-is_covered.result c.from_residual-in_err-is_covered.ensures.1 is)

pub visit-returns-in_err-is_covered-clause-kept : goal.visit-returns-in_err-is_covered-clause-kept
visit-returns-in_err-is_covered-clause-kept t c = KeepsFunctions-itself c.args.diagrams.now

pub visit-visit_leaf-requires-clause-constant : goal.visit-visit_leaf-requires-clause-constant
visit-visit_leaf-requires-clause-constant t c = subst (AreConstant c.args.diagrams.now) c.deref.ensures.value c.in_default.ensures
