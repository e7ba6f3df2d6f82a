use Rattle.std.proofs.Common.{◌≡◌, ◌<◌, ◌≤◌, ◌+◌, true, false, Some, length, map, slice_get, get_or, sym, ap, ◌∙◌, subst, arith}
use Rattle.std.proofs.lemmas.Bool.{true≢false}
use Rattle.std.proofs.lemmas.List.{length_push, length-map, map_push}
use Rattle.std.proofs.lemmas.Option.{slice_get-get_or, get_or_from_slice_get}
use Rattle.cert_checker.specs.NodeTables.{term_at}
use Rattle.cert_checker.specs.Marks.{IsMarked, IsPart}
use Rattle.cert_checker.specs.Targets.{AreSteps, Represent, HasNoneElsewhere, leads_to}
use Rattle.cert_checker.proofs.GrowingTables.{grows_itself, grows_trans}
use Rattle.cert_checker.proofs.ClosingMarks.{closed_kept}
use Rattle.cert_checker.proofs.StepLists.{all_accept, steps_more, none_more, grows_longer}
use Rattle.cert_checker.proofs.derivatives.steps.Goals as goal
use Rattle.cert_checker.proofs.derivatives.steps.Goals.{then-is_needed+in_ok-targets+in_ok-push, else-is_needed+in_ok-push-2}

-- the parts of a marked term have their steps
pub step-requires-clause-parts : goal.step-requires-clause-parts
step-requires-clause-parts c =
    let t = c.loop-is_needed.tables in
    let marks = c.args.needed.now in
    let n = c.loop-is_needed.is_needed-index in
    let now = c.loop-is_needed.invariant in
    let list = c.loop-is_needed.list.items in
    let closed = closed_kept c.args.tables.now t now.grows marks (omega (arith, c.requires.marks, c.requires.count)) c.requires.closed in
    let mine : IsMarked marks n = slice_get-get_or marks n false (omega arith) ∙ ap Some c.if-is_needed.true in
    let at_end : length c.deref.result.now ≡ n = ap length c.deref.ensures.value ∙ now.count in
    let steps = subst (λ l. AreSteps t c.args.action (IsMarked marks) (map (λ t. t.entries) l)) (sym c.deref.ensures.value) now.steps in
    λ k es part at. steps k es (closed n k mine (subst (λ j. IsPart t j k) at_end part)) at

pub loop-is_needed-preserved : goal.loop-is_needed-preserved
loop-is_needed-preserved c =
    let first = c.args.tables.now in
    let t = c.loop-is_needed.tables in
    let now = c.loop-is_needed.invariant in
    let list = c.loop-is_needed.list.items in
    let longer = grows_longer first t now.grows in
    let low : length c.args.accepting.now ≤ length t.terms = omega (arith, c.requires.count, longer) in
    let count : length (map (λ t. t.entries) list) ≡ length list = length-map list (λ t. t.entries) in
    let here : length (map (λ t. t.entries) list) < length t.terms = omega (arith, low, count, now.count, c.requires.marks) in
    let marks = c.args.needed.now in
    let at : length (map (λ t. t.entries) list) ≡ c.loop-is_needed.is_needed-index = count ∙ now.count in
    let is_needed : slice_get marks (length (map (λ t. t.entries) list)) ≡ Some false → get_or marks c.loop-is_needed.is_needed-index false ≡ true → ⊥ =
    λ m own. true≢false (sym own ∙ get_or_from_slice_get marks c.loop-is_needed.is_needed-index false false (subst (λ j. slice_get marks j ≡ Some false) at m)) in
    elim c.if-is_needed.branch [
      | then-is_needed+in_ok-targets+in_ok-push w ↦
          let new = w.step.new.tables in
          let grows = w.step.ensures.grows in
          let items = w.in_ok-push.ensures.items in
          let same : length w.deref.result.now ≡ length (map (λ t. t.entries) list) = ap length w.deref.ensures.value ∙ sym count in
          let represents = subst (λ n. Represent new w.in_ok-targets.targets.entries (leads_to c.args.action (term_at t n))) same w.in_ok-targets.ensures.targets in
          rw (w.tables-is, w.list-is)
          (record {
            count = ap length items ∙ length_push list w.in_ok-targets.targets ∙ ap (λ n. n + 1) now.count;
            grows = grows_trans first t new now.grows grows;
            accepting = all_accept t new grows.was grows c.args.accepting.now low now.accepting;
            steps = subst (λ l. AreSteps new c.args.action (IsMarked marks) (map (λ t. t.entries) l)) (sym items)
                (subst (AreSteps new c.args.action (IsMarked marks)) (sym (map_push (λ t. t.entries) list w.in_ok-targets.targets))
                (steps_more t new grows.was grows c.args.action (IsMarked marks) (map (λ t. t.entries) list) w.in_ok-targets.targets.entries now.steps here (λ m. represents)));
            others = subst (λ l. HasNoneElsewhere marks (map (λ t. t.entries) l)) (sym items)
                (subst (HasNoneElsewhere marks) (sym (map_push (λ t. t.entries) list w.in_ok-targets.targets))
                (none_more marks (map (λ t. t.entries) list) w.in_ok-targets.targets.entries now.others (λ m. absurd (is_needed m w.if-is_needed.true))));
          })
      | else-is_needed+in_ok-push-2 w ↦
          let items = w.in_ok-push-2.ensures.items in
          let sound = now.grows.sound in
          let other : IsMarked marks (length (map (λ t. t.entries) list)) → ⊥ = λ m. true≢false (sym (get_or_from_slice_get marks c.loop-is_needed.is_needed-index true false (subst (IsMarked marks) at m)) ∙ w.if-is_needed.false) in
          rw (w.tables-is, w.list-is)
          (record {
            count = ap length items ∙ length_push list w.new.result ∙ ap (λ n. n + 1) now.count;
            grows = now.grows;
            accepting = now.accepting;
            steps = subst (λ l. AreSteps t c.args.action (IsMarked marks) (map (λ t. t.entries) l)) (sym items)
                (subst (AreSteps t c.args.action (IsMarked marks)) (sym (map_push (λ t. t.entries) list w.new.result))
                (steps_more t t sound (grows_itself t sound) c.args.action (IsMarked marks) (map (λ t. t.entries) list) w.new.result.entries now.steps here (λ m. absurd (other m))));
            others = subst (λ l. HasNoneElsewhere marks (map (λ t. t.entries) l)) (sym items)
                (subst (HasNoneElsewhere marks) (sym (map_push (λ t. t.entries) list w.new.result))
                (none_more marks (map (λ t. t.entries) list) w.new.result.entries now.others (λ m. w.new.ensures.empty)));
          })
    ]

-- ---- what the call requires of the tables, and what is known at the ends

pub step-requires-clause-accepting : goal.step-requires-clause-accepting
step-requires-clause-accepting c = c.loop-is_needed.invariant.accepting

pub step-requires-clause-count : goal.step-requires-clause-count
step-requires-clause-count c = omega (arith, ap length c.deref.ensures.value, c.loop-is_needed.invariant.count, c.requires.marks)

pub step-requires-clause-next : goal.step-requires-clause-next
step-requires-clause-next c =
    omega (arith, ap length c.deref.ensures.value, c.loop-is_needed.invariant.count, c.requires.marks, c.requires.count, grows_longer c.args.tables.now c.loop-is_needed.tables c.loop-is_needed.invariant.grows)

pub returns-in_err-targets-clause-grows : goal.returns-in_err-targets-clause-grows
returns-in_err-targets-clause-grows c = grows_trans c.args.tables.now c.loop-is_needed.tables c.step.new.tables c.loop-is_needed.invariant.grows c.step.ensures.grows

pub returns-in_err-push-clause-grows : goal.returns-in_err-push-clause-grows
returns-in_err-push-clause-grows c = grows_trans c.args.tables.now c.loop-is_needed.tables c.step.new.tables c.loop-is_needed.invariant.grows c.step.ensures.grows

pub returns-in_err-push-2-clause-grows : goal.returns-in_err-push-2-clause-grows
returns-in_err-push-2-clause-grows c = c.loop-is_needed.invariant.grows

pub returns-clause-steps : goal.returns-clause-steps
returns-clause-steps c = c.loop-is_needed.invariant.steps

pub returns-clause-others : goal.returns-clause-others
returns-clause-others c = c.loop-is_needed.invariant.others

pub returns-clause-grows : goal.returns-clause-grows
returns-clause-grows c = c.loop-is_needed.invariant.grows
