use Rattle.std.proofs.Common.{◌≡◌, All, slice_get, Some, refl, sym, ap, ◌∙◌, subst}
use Rattle.std.proofs.lemmas.Option.{same_Some, slice_get-get_or}
use Rattle.kat_model.proofs.Places.{has_at}
use Rattle.term_nodes.proofs.Growing.{Grows-trans}
use Rattle.term_nodes.specs.NumberSets.{terms_of}
use Rattle.partial_derivs.specs.Moves.{IsTermOf, IsStepsOf}
use Rattle.partial_derivs.proofs.Kept.{Keeps-trans}
use Rattle.walk_regions.specs.Entries.{EntryParts}
use Rattle.walk_under.specs.declared.walk.TestedWorklist.{TestedWorklist}
use Rattle.walk_pairs.specs.declared.found.BothSteps.{BothSteps}
use Rattle.walk_pairs.proofs.IdSets.{all_terms}
use Rattle.walk_under.proofs.Taking.{set_kept, under_way_stored, steps_taken}
use Rattle.walk_under.proofs.walk.TestedWorklist.steps_at.Goals as goal

pub step-requires-clause-terms : goal.step-requires-clause-terms
step-requires-clause-terms c =
    let w : TestedWorklist = c.args.self.now in
    let own : EntryParts = c.at-entry.result.now in
    let here : slice_get w.listing.entries.items c.args.place ≡ Some own = slice_get-get_or w.listing.entries.items c.args.place own c.requires.place ∙ ap (λ (x : EntryParts). Some x) (sym c.at-entry.ensures) in
    let is = c.requires.under_way.2.entries own (has_at w.listing.entries.items c.args.place own here) in
    let left : c.as_slice.result.now ≡ own.left = c.as_slice.ensures ∙ ap (λ (x : EntryParts). x.left) c.entry.view_is in
    subst (All (IsTermOf c.args.store.now w.diagrams.tests)) (sym left) (all_terms c.args.store.now w.diagrams.tests own.left is.left)

pub step-requires-clause-right : goal.step-requires-clause-right
step-requires-clause-right c = c.requires.under_way.2.right

pub step-requires-2-clause-terms : goal.step-requires-2-clause-terms
step-requires-2-clause-terms c =
    let w : TestedWorklist = c.args.self.now in
    let own : EntryParts = c.at-entry.result.now in
    let here : slice_get w.listing.entries.items c.args.place ≡ Some own = slice_get-get_or w.listing.entries.items c.args.place own c.requires.place ∙ ap (λ (x : EntryParts). Some x) (sym c.at-entry.ensures) in
    let is = c.requires.under_way.2.entries own (has_at w.listing.entries.items c.args.place own here) in
    let right : c.as_slice-2.result.now ≡ own.right = c.as_slice-2.ensures ∙ ap (λ (x : EntryParts). x.right) c.entry.view_is in
    let set = set_kept c.args.store.now c.step.new.store w.diagrams c.step.new.diagrams c.in_ok-left.ensures.kept own.right is.right in
    subst (All (IsTermOf c.step.new.store c.step.new.diagrams.tests)) (sym right) (all_terms c.step.new.store c.step.new.diagrams.tests own.right set)

pub returns-clause-steps : goal.returns-clause-steps
returns-clause-steps c shorts q e u at =
    let w : TestedWorklist = c.args.self.now in
    let own : EntryParts = c.at-entry.result.now in
    let here : slice_get w.listing.entries.items c.args.place ≡ Some own = slice_get-get_or w.listing.entries.items c.args.place own c.requires.place ∙ ap (λ (x : EntryParts). Some x) (sym c.at-entry.ensures) in
    let same : own ≡ e = same_Some own e (sym here ∙ at) in
    let left : c.as_slice.result.now ≡ e.left = c.as_slice.ensures ∙ ap (λ (x : EntryParts). x.left) (c.entry.view_is ∙ same) in
    let right : c.as_slice-2.result.now ≡ e.right = c.as_slice-2.ensures ∙ ap (λ (x : EntryParts). x.right) (c.entry.view_is ∙ same) in
    let x : TestedWorklist = record { listing = record w.listing { count = c.count-self.result }; moves = w.moves; diagrams = c.step-2.new.diagrams; derivatives = c.step-2.new.self } in
    let first = c.in_ok-left.ensures.kept in
    let second = c.in_ok-right.ensures.kept in
    let steps : BothSteps = record { left = c.in_ok-left.left; right = c.in_ok-right.right } in
    let both = Keeps-trans c.args.store.now c.step.new.store c.step-2.new.store w.diagrams c.step.new.diagrams c.step-2.new.diagrams first second in
    steps_taken shorts q c.args.store.now c.step.new.store c.step-2.new.store c.args.place w x c.step.new.diagrams e steps u at first second
    (under_way_stored shorts q c.args.store.now c.step-2.new.store c.args.place w x both c.count-self.ensures.store c.in_ok-right.ensures.right refl refl refl u) refl
    (subst (λ ids. IsStepsOf c.step.new.store c.step.new.diagrams (terms_of c.args.store.now ids) steps.left) left c.in_ok-left.ensures.steps)
    (subst (λ ids. IsStepsOf c.step-2.new.store c.step-2.new.diagrams (terms_of c.step.new.store ids) steps.right) right c.in_ok-right.ensures.steps)

pub returns-clause-kept : goal.returns-clause-kept
returns-clause-kept c = Grows-trans c.args.store.now c.step.new.store c.step-2.new.store c.in_ok-left.ensures.kept.trees c.in_ok-right.ensures.kept.trees

pub returns-in_err-left-clause-kept : goal.returns-in_err-left-clause-kept
returns-in_err-left-clause-kept c = c.in_err-left.ensures.kept.trees

pub returns-in_err-right-clause-kept : goal.returns-in_err-right-clause-kept
returns-in_err-right-clause-kept c = Grows-trans _ _ _ c.in_ok-left.ensures.kept.trees c.in_err-right.ensures.kept.trees
