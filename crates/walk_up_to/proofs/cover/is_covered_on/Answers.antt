use Rattle.std.proofs.Common.{◌≡◌, false, length, replicate, ap, ◌∙◌}
use mathlib.Core.Path.{ap₂}
use Rattle.std.proofs.lemmas.Result.{IfOk-weaker}
use Rattle.walk_pairs.specs.Items.{targets_under, open_targets}
use Rattle.walk_up_to.specs.Marks.{MarkSetParts, are_reached, rounds_marked, with_marks}
use Rattle.walk_up_to.proofs.cover.is_covered_on.Goals as goal

pub returns : goal.returns
returns c =
    let r = c.args.listed.now in
    let sure = targets_under c.args.ends.now.always c.args.other c.args.items.now in
    let targets : c.deref.result.now ≡ open_targets c.args.ends.now.never c.args.ends.now.always c.args.side c.args.items.now = c.deref.ensures.value ∙ c.in_ok-open.ensures in
    let marks : c.count_uses.new.self.marks ≡ with_marks (replicate r.count false) sure =
    ap (λ (m : MarkSetParts). m.marks) c.count_uses.ensures ∙ c.in_ok-mark_sure.ensures ∙ ap (λ (m : MarkSetParts). with_marks m.marks sure) c.in_ok-reset.ensures
    ∙ ap (λ n. with_marks (replicate n false) sure) c.count.ensures in
    IfOk-weaker c.reaches.result _ _ (λ b is. is ∙ ap₂ (λ ts m. are_reached r.universal ts (rounds_marked (length r.pairs) r.pairs m)) targets marks) c.reaches.ensures
