use Rattle.std.proofs.Common.{List, [], ◌∷◌, ◌++◌, map, take, sym, ap, ◌∙◌}
use mathlib.Core.Path.{ap₂}
use Rattle.std.proofs.lemmas.List.{take_all, map-append}
use Rattle.partial_derivs.proofs.Items.{take_item}
use Rattle.walk_up_to.specs.Listings.{IdEntry, untested_of}
use Rattle.walk_up_to.proofs.pair.stored_pairs_of.Goals as goal

pub loop-pair-init : goal.loop-pair-init
loop-pair-init c = c.new-list.ensures.items

pub loop-pair-preserved : goal.loop-pair-preserved
loop-pair-preserved c =
    let pairs : List IdEntry = c.args.pairs.now in
    let pair : IdEntry = c.pair-item.result in
    let place = c.loop-pair.pair-index in
    c.in_ok-append.ensures ∙ ap₂ (λ l s. l ++ s ∷ []) c.loop-pair.invariant c.in_ok-stored_pair_of.ensures ∙ sym (map-append untested_of (take place pairs) (pair ∷ []))
    ∙ ap (map untested_of) (sym (take_item pairs place pair c.loop-pair-test.true c.pair-item.is))

pub returns : goal.returns
returns c = c.loop-pair.invariant ∙ ap (map untested_of) (take_all c.loop-pair.pair-index c.args.pairs.now c.loop-pair-test.false)
