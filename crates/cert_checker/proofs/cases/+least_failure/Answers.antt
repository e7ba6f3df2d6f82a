use Rattle.std.proofs.Common.{◌≡◌, ◌<◌, ℕ, Bool, true, false, length, List, Option, Some, None, slice_set, Vec, Global, Bor, IfOk, OnOk, IfSome, MatchBool, sym, ap, ◌∙◌, subst, arith}
use Rattle.std.specs.Option.{option_map, option_or}
use Rattle.std.proofs.lemmas.List.{length-set, set-set}
use Rattle.std.proofs.lemmas.Option.{slice_get_within}
use Rattle.cert_checker.specs.Cases.{IsOpen}
use Rattle.cert_checker.specs.LeastFailures.{IsBelow, IsFirstFailure, open_count, least_of}
use Rattle.cert_checker.specs.Questions.{MatchAt}
use Rattle.cert_checker.specs.Working.Outcomes.{IsOutcome}
use Rattle.cert_checker.proofs.LeastFailures.{Below, all_fail, none_below, decided_fewer, restored, second_half, searched, or_bound, or_long, failure_long}
use Rattle.cert_checker.proofs.cases.+least_failure.Goals as goal

-- whether all values that extend the decided tests are past the bound
abbrev IsPast : Option (Bor (Vec Bool Global)) → List (Option Bool) → Bool → Type 0
IsPast bound ds past = MatchBool past (IsBelow (option_map (λ (b : Bor (Vec Bool Global)). b.now.items) bound) (least_of ds) → ⊥) (IsBelow (option_map (λ (b : Bor (Vec Bool Global)). b.now.items) bound) (least_of ds))

-- ---- by what is known of the question

pub least_failure-are_past-requires : goal.least_failure-are_past-requires
least_failure-are_past-requires t c = subst (λ (n : ℕ). IfSome c.args.bound (λ b. length b.now.items ≡ n)) (sym (ap length c.deref.ensures.value)) c.requires.bound

pub least_failure-returns-then-past-clause-failure : goal.least_failure-returns-then-past-clause-failure
least_failure-returns-then-past-clause-failure t c =
    let ds = c.args.case.now.decided.items in
    let compared = subst (λ (l : List (Option Bool)). IsPast c.args.bound l c.in_ok-past.past) c.deref.ensures.value c.in_ok-past.ensures in
    none_below (MatchAt c.args.question.now.tables c.args.question.now) ds (option_map (λ (b : Bor (Vec Bool Global)). b.now.items) c.args.bound)
    (subst (IsPast c.args.bound ds) c.if-past.true compared)

pub least_failure-outcome_in-requires-clause-question : goal.least_failure-outcome_in-requires-clause-question
least_failure-outcome_in-requires-clause-question t c = c.requires.question

pub least_failure-outcome_in-requires-clause-decided : goal.least_failure-outcome_in-requires-clause-decided
least_failure-outcome_in-requires-clause-decided t c = c.requires.decided

pub least_failure-returns-in-Holds-clause-failure : goal.least_failure-returns-in-Holds-clause-failure
least_failure-returns-in-Holds-clause-failure t c =
    let ds = c.args.case.now.decided.items in
    let P = MatchAt c.args.question.now.tables c.args.question.now in
    let holds = subst (IsOutcome P ds) c.in-Holds.is c.in_ok-outcome_in.ensures.outcome in
    λ atom h _. holds atom h

pub least_failure-returns-in-Holds-clause-decided : goal.least_failure-returns-in-Holds-clause-decided
least_failure-returns-in-Holds-clause-decided t c = ap (λ (v : Vec (Option Bool) Global). v.items) c.outcome_in.ensures.decided

pub least_failure-returns-in_ok-least_values-in-Fails-clause-decided : goal.least_failure-returns-in_ok-least_values-in-Fails-clause-decided
least_failure-returns-in_ok-least_values-in-Fails-clause-decided t c = ap (λ (v : Vec (Option Bool) Global). v.items) c.outcome_in.ensures.decided

pub least_failure-returns-in_ok-least_values-in-Fails-clause-failure : goal.least_failure-returns-in_ok-least_values-in-Fails-clause-failure
least_failure-returns-in_ok-least_values-in-Fails-clause-failure t c =
    let ds = c.args.case.now.decided.items in
    let P = MatchAt c.args.question.now.tables c.args.question.now in
    let bound = option_map (λ (b : Bor (Vec Bool Global)). b.now.items) c.args.bound in
    let compared = subst (λ (l : List (Option Bool)). IsPast c.args.bound l c.in_ok-past.past) c.deref.ensures.value c.in_ok-past.ensures in
    let below : IsBelow bound (least_of ds) = subst (IsPast c.args.bound ds) c.if-past.false compared in
    let given = c.in_ok-least_values-in-Fails.ensures ∙ ap least_of (c.deref-in-Fails.ensures.value ∙ ap (λ (v : Vec (Option Bool) Global). v.items) c.outcome_in.ensures.decided) in
    rw given (all_fail P ds bound below (subst (IsOutcome P ds) c.in-Fails.is c.in_ok-outcome_in.ensures.outcome))

pub least_failure-failure_by-requires : goal.least_failure-failure_by-requires
least_failure-failure_by-requires t c =
    let ds = c.args.case.now.decided.items in
    let kept : c.outcome_in.new.case.decided.items ≡ ds = ap (λ (v : Vec (Option Bool) Global). v.items) c.outcome_in.ensures.decided in
    let undecided : IsOpen ds c.in-Undecided.test = subst (IsOutcome (MatchAt c.args.question.now.tables c.args.question.now) ds) c.in-Undecided.is c.in_ok-outcome_in.ensures.outcome in (
      omega (arith, ap open_count kept, c.decreases),
      (
        c.requires.question,
        (
          ap length kept ∙ c.requires.decided,
          (subst (λ (n : ℕ). IfSome c.args.bound (λ b. length b.now.items ≡ n)) (sym (ap length kept)) c.requires.bound, subst (λ (l : List (Option Bool)). IsOpen l c.in-Undecided.test) (sym kept) undecided),
        ),
      ),
    )

pub least_failure-returns-in-Undecided-clause-failure : goal.least_failure-returns-in-Undecided-clause-failure
least_failure-returns-in-Undecided-clause-failure t c =
    let P = MatchAt c.args.question.now.tables c.args.question.now in
    let bound = option_map (λ (b : Bor (Vec Bool Global)). b.now.items) c.args.bound in
    subst (λ (l : List (Option Bool)). IfOk c.failure_by.result (λ o. IsFirstFailure (Below P bound) l (option_map (λ (v : Vec Bool Global). v.items) o))) (ap (λ (v : Vec (Option Bool) Global). v.items) c.outcome_in.ensures.decided) c.failure_by.ensures.failure

pub least_failure-returns-in-Undecided-clause-decided : goal.least_failure-returns-in-Undecided-clause-decided
least_failure-returns-in-Undecided-clause-decided t c =
    subst (λ (l : List (Option Bool)). OnOk c.failure_by.result (c.failure_by.new.case.decided.items ≡ l)) (ap (λ (v : Vec (Option Bool) Global). v.items) c.outcome_in.ensures.decided) c.failure_by.ensures.decided

-- ---- by the values of an open test: first it is false, then true

pub failure_by-decide-requires : goal.failure_by-decide-requires
failure_by-decide-requires t c = slice_get_within c.args.case.now.decided.items c.args.test None c.requires.open

pub failure_by-least_failure-requires : goal.failure_by-least_failure-requires
failure_by-least_failure-requires t c =
    let ds = c.args.case.now.decided.items in
    let fewer : open_count c.decide.new.self.decided.items < open_count ds = rw (c.decide.ensures) (decided_fewer ds c.args.test false c.requires.open) in
    let long : length c.decide.new.self.decided.items ≡ length ds = ap length c.decide.ensures ∙ length-set ds c.args.test (Some false) in
    let still : IfSome c.args.bound (λ b. length b.now.items ≡ length c.decide.new.self.decided.items) = subst (λ (n : ℕ). IfSome c.args.bound (λ b. length b.now.items ≡ n)) (sym long) c.requires.bound in
    (omega (arith, fewer, c.decreases), (c.requires.question, (long ∙ c.requires.decided, still)))

pub failure_by-decide-requires-2 : goal.failure_by-decide-requires-2
failure_by-decide-requires-2 t c =
    let ds = c.args.case.now.decided.items in
    let low = slice_get_within ds c.args.test None c.requires.open in
    let long : length c.least_failure.new.case.decided.items ≡ length ds = ap length (c.in_ok-low.ensures.decided ∙ c.decide.ensures) ∙ length-set ds c.args.test (Some false) in
    omega (arith, low, long)

pub failure_by-least_failure-requires-2 : goal.failure_by-least_failure-requires-2
failure_by-least_failure-requires-2 t c =
    let ds = c.args.case.now.decided.items in
    let P = MatchAt c.args.question.now.tables c.args.question.now in
    let items = λ (v : Vec Bool Global). v.items in
    let bound = option_map (λ (b : Bor (Vec Bool Global)). b.now.items) c.args.bound in
    let still_false : c.least_failure.new.case.decided.items ≡ slice_set ds c.args.test (Some false) = c.in_ok-low.ensures.decided ∙ c.decide.ensures in
    let set_true : c.decide-2.new.self.decided.items ≡ slice_set ds c.args.test (Some true) = c.decide-2.ensures ∙ ap (λ l. slice_set l c.args.test (Some true)) still_false ∙ set-set ds c.args.test (Some false) (Some true) in
    let fewer : open_count c.decide-2.new.self.decided.items < open_count ds = rw set_true (decided_fewer ds c.args.test true c.requires.open) in
    let long : length c.decide-2.new.self.decided.items ≡ length ds = ap length set_true ∙ length-set ds c.args.test (Some true) in
    let found_low = subst (λ (l : List (Option Bool)). IsFirstFailure (Below P bound) l (option_map items c.in_ok-low.low)) c.decide.ensures c.in_ok-low.ensures.failure in
    let found : IfSome c.in_ok-low.low (λ v. length v.items ≡ length ds) =
    subst (λ (n : ℕ). IfSome c.in_ok-low.low (λ v. length v.items ≡ n)) (length-set ds c.args.test (Some false))
    (failure_long (Below P bound) items (slice_set ds c.args.test (Some false)) c.in_ok-low.low found_low) in
    let bounds : IfSome c.or.result (λ b. length b.now.items ≡ length c.decide-2.new.self.decided.items) =
    subst (λ (o : Option (Bor (Vec Bool Global))). IfSome o (λ b. length b.now.items ≡ length c.decide-2.new.self.decided.items)) (sym c.or.ensures)
    (subst (λ (n : ℕ). IfSome (option_or c.as_ref.result c.args.bound) (λ b. length b.now.items ≡ n)) (sym long) (or_long items (length ds) c.as_ref.result c.in_ok-low.low c.args.bound c.as_ref.ensures.value found c.requires.bound)) in
    (omega (arith, fewer, c.decreases), (c.requires.question, (long ∙ c.requires.decided, bounds)))

pub failure_by-decide-requires-3 : goal.failure_by-decide-requires-3
failure_by-decide-requires-3 t c =
    let ds = c.args.case.now.decided.items in
    let low = slice_get_within ds c.args.test None c.requires.open in
    let still_false : c.least_failure.new.case.decided.items ≡ slice_set ds c.args.test (Some false) = c.in_ok-low.ensures.decided ∙ c.decide.ensures in
    let now : c.least_failure-2.new.case.decided.items ≡ slice_set ds c.args.test (Some true) = c.in_ok-high.ensures.decided ∙ c.decide-2.ensures ∙ ap (λ l. slice_set l c.args.test (Some true)) still_false ∙ set-set ds c.args.test (Some false) (Some true) in
    let long : length c.least_failure-2.new.case.decided.items ≡ length ds = ap length now ∙ length-set ds c.args.test (Some true) in
    omega (arith, low, long)

pub failure_by-returns-clause-failure : goal.failure_by-returns-clause-failure
failure_by-returns-clause-failure t c =
    let ds = c.args.case.now.decided.items in
    let P = MatchAt c.args.question.now.tables c.args.question.now in
    let items = λ (v : Vec Bool Global). v.items in
    let lent = λ (b : Bor (Vec Bool Global)). b.now.items in
    let bound = option_map lent c.args.bound in
    let still_false : c.least_failure.new.case.decided.items ≡ slice_set ds c.args.test (Some false) = c.in_ok-low.ensures.decided ∙ c.decide.ensures in
    let found_low = subst (λ (l : List (Option Bool)). IsFirstFailure (Below P bound) l (option_map items c.in_ok-low.low)) c.decide.ensures c.in_ok-low.ensures.failure in
    let own : option_map lent c.or.result ≡ option_or (option_map items c.in_ok-low.low) bound = ap (option_map lent) c.or.ensures ∙ or_bound items c.as_ref.result c.in_ok-low.low c.args.bound c.as_ref.ensures.value in
    let high = subst (λ (l : List (Option Bool)). IsFirstFailure (Below P (option_map lent c.or.result)) l (option_map items c.in_ok-high.high)) c.decide-2.ensures c.in_ok-high.ensures.failure in
    let second = second_half P items ds c.least_failure.new.case.decided.items c.args.test bound (option_map lent c.or.result) c.in_ok-low.low c.in_ok-high.high still_false own high in
    subst (λ o. IsFirstFailure (Below P bound) ds (option_map items o)) (sym c.or-2.ensures)
    (searched P items ds c.args.test bound c.in_ok-low.low c.in_ok-high.high c.requires.open found_low second)

pub failure_by-returns-clause-decided : goal.failure_by-returns-clause-decided
failure_by-returns-clause-decided t c =
    c.decide-3.ensures
    ∙ restored c.args.case.now.decided.items c.least_failure.new.case.decided.items c.least_failure-2.new.case.decided.items c.args.test c.requires.open (c.in_ok-low.ensures.decided ∙ c.decide.ensures) (c.in_ok-high.ensures.decided ∙ c.decide-2.ensures)
