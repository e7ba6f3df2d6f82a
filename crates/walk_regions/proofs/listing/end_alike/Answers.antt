use Rattle.std.proofs.Common.{◌≡◌, ◌-◌, List, ℕ, length, get_or, sym, ap, ◌∙◌, arith}
use Rattle.std.proofs.lemmas.Bool.{eq-eqb}
use Rattle.std.proofs.lemmas.List.{get_or_read}
use Rattle.walk_regions.proofs.listing.end_alike.Goals as goal

pub returns-then-count-others : goal.returns-then-count-others
returns-then-count-others c same = let count : length c.args.ids.now ≡ length c.args.others.now = ap length same in absurd (omega arith)

pub returns : goal.returns
returns c same =
    let last = length c.args.ids.now - 1 in
    let left = get_or_read c.args.ids.now last c.index-ids-last.result (omega arith) c.index-ids-last.is 0 in
    let right = get_or_read c.args.others.now last c.index-others-last.result (omega arith) c.index-others-last.is 0 in
    c.eq.ensures ∙ eq-eqb _ _ (left ∙ ap (λ (l : List ℕ). get_or l last 0) same ∙ sym right)
