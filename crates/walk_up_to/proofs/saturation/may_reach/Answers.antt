use Rattle.std.proofs.Common.{ℕ, Option, Bool, false, length, get_or, sym, ap, ◌∙◌}
use Rattle.std.specs.Option.{option_map_or}
use Rattle.std.proofs.lemmas.Bool.{true≢false}
use Rattle.walk_up_to.proofs.OutOfReach.{stays_out}
use Rattle.walk_up_to.proofs.saturation.may_reach.Goals as goal

pub returns-else-has_universal : goal.returns-else-has_universal
returns-else-has_universal c = λ e.
    let found = c.may_hold_all.ensures e in
    let has : Option ℕ → Bool = λ o. option_map_or (λ u. get_or c.args.listed.now.members u false) o false in
    stays_out c.args.listed.now c.args.marked.now.marks c.args.targets.now (length c.args.listed.now.pairs) c.universal.ensures.members
    (λ u is h. true≢false (sym h ∙ ap has (sym (c.universal.ensures.value ∙ is)) ∙ sym c.has_universal.ensures ∙ c.if-has_universal.false))
    found.0 found.1 found.2 (λ h. true≢false (sym h ∙ found.3))
