use Rattle.std.proofs.Common.{◌≡◌, ℕ, All, slice_get, Some, sym, ap, ◌∙◌, subst}
use Rattle.std.proofs.lemmas.Option.{same_Some}
use Rattle.term_nodes.proofs.Growing.{Grows-trans}
use Rattle.partial_derivs.specs.Moves.{IsTermOf, IsStepsOf}
use Rattle.term_nodes.specs.NumberSets.{terms_of}
use Rattle.walk_up_to.specs.Listings.{IdEntry}
use Rattle.walk_up_to.specs.Marks.{ListedPairsParts}
use Rattle.walk_up_to.specs.declared.worklist.Worklist.{Worklist}
use Rattle.walk_pairs.specs.declared.found.BothSteps.{BothSteps}
use Rattle.walk_up_to.proofs.UnderWay.{read_at, left_terms, right_terms, stepped}
use Rattle.walk_up_to.proofs.worklist.Worklist.steps_at.Goals as goal

pub step-requires-clause-terms : goal.step-requires-clause-terms
step-requires-clause-terms c =
    let own : IdEntry = c.index-pairs-place.result in
    let here : slice_get c.args.self.now.listed.pairs c.args.place ≡ Some own = read_at c.args.self.now.listed.pairs c.pairs.result.now c.args.place own c.pairs.ensures.value c.requires.place c.index-pairs-place.is in
    let left : c.as_slice.result.now ≡ own.left = c.as_slice.ensures ∙ ap (λ (p : IdEntry). p.left) c.pair.view_is in
    subst (All (IsTermOf c.args.store.now c.args.self.now.diagrams.tests)) (sym left)
    (left_terms c.requires.under_way.0 c.args.store.now c.args.self.now c.args.place own c.requires.under_way.1 here)

pub step-requires-2-clause-terms : goal.step-requires-2-clause-terms
step-requires-2-clause-terms c =
    let own : IdEntry = c.index-pairs-place.result in
    let here : slice_get c.args.self.now.listed.pairs c.args.place ≡ Some own = read_at c.args.self.now.listed.pairs c.pairs.result.now c.args.place own c.pairs.ensures.value c.requires.place c.index-pairs-place.is in
    let right : c.as_slice-2.result.now ≡ own.right = c.as_slice-2.ensures ∙ ap (λ (p : IdEntry). p.right) c.pair.view_is in
    subst (All (IsTermOf c.step.new.store c.step.new.diagrams.tests)) (sym right)
    (right_terms c.requires.under_way.0 c.args.store.now c.args.self.now c.args.place own c.requires.under_way.1 here c.step.new.store c.step.new.diagrams c.in_ok-left.ensures.kept)

pub returns-clause-steps : goal.returns-clause-steps
returns-clause-steps c = λ q e under_way at.
    let own : IdEntry = c.index-pairs-place.result in
    let here : slice_get c.args.self.now.listed.pairs c.args.place ≡ Some own = read_at c.args.self.now.listed.pairs c.pairs.result.now c.args.place own c.pairs.ensures.value c.requires.place c.index-pairs-place.is in
    let same : own ≡ e = same_Some own e (sym here ∙ at) in
    let left : c.as_slice.result.now ≡ e.left = c.as_slice.ensures ∙ ap (λ (p : IdEntry). p.left) c.pair.view_is ∙ ap (λ (p : IdEntry). p.left) same in
    let right : c.as_slice-2.result.now ≡ e.right = c.as_slice-2.ensures ∙ ap (λ (p : IdEntry). p.right) c.pair.view_is ∙ ap (λ (p : IdEntry). p.right) same in
    let new : Worklist = record { listed = c.widen.new.self; diagrams = c.step-2.new.diagrams; derivatives = c.step-2.new.self } in
    let steps : BothSteps = record { left = c.in_ok-left.left; right = c.in_ok-right.right } in
    stepped q c.args.store.now c.args.self.now c.args.place e under_way at c.step.new.store c.step-2.new.store c.step.new.diagrams new steps c.in_ok-left.ensures.kept c.in_ok-right.ensures.kept c.count.ensures.store
    (c.widen.ensures ∙ ap (λ (n : ℕ). record c.args.self.now.listed { count = n }) c.count.ensures.value)
    c.in_ok-right.ensures.right
    (subst (λ ids. IsStepsOf c.step.new.store c.step.new.diagrams (terms_of c.args.store.now ids) steps.left) left c.in_ok-left.ensures.steps)
    (subst (λ ids. IsStepsOf c.step-2.new.store c.step-2.new.diagrams (terms_of c.step.new.store ids) steps.right) right c.in_ok-right.ensures.steps)

pub returns-clause-kept : goal.returns-clause-kept
returns-clause-kept c =
    Grows-trans c.args.store.now c.step.new.store c.step-2.new.store c.in_ok-left.ensures.kept.trees c.in_ok-right.ensures.kept.trees

pub step-requires-clause-right : goal.step-requires-clause-right
step-requires-clause-right c = c.requires.under_way.1.right

pub step-requires-2-clause-right : goal.step-requires-2-clause-right
step-requires-2-clause-right c = c.in_ok-left.ensures.right

pub returns-in_err-left-clause-kept : goal.returns-in_err-left-clause-kept
returns-in_err-left-clause-kept c = c.in_err-left.ensures.kept.trees

pub returns-in_err-right-clause-kept : goal.returns-in_err-right-clause-kept
returns-in_err-right-clause-kept c = Grows-trans _ _ _ c.in_ok-left.ensures.kept.trees c.in_err-right.ensures.kept.trees

pub returns-clause-pairs : goal.returns-clause-pairs
returns-clause-pairs c = ap (λ (r : ListedPairsParts). r.pairs) c.widen.ensures

pub returns-clause-limit : goal.returns-clause-limit
returns-clause-limit c = ap (λ (r : ListedPairsParts). r.limit) c.widen.ensures
