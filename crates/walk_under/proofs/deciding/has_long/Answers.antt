use Rattle.std.proofs.Common.{map, sym, ap, ◌∙◌, arith}
use Rattle.std.specs.List.{filter}
use Rattle.std.proofs.lemmas.List.{at_drop_all}
use Rattle.kat_model.specs.Trees.{kat_tree}
use Rattle.kat_model.specs.Degrees.{is_long}
use Rattle.walk_under.proofs.deciding.has_long.Goals as goal

pub returns : goal.returns
returns c e =
    let items = c.hyps-hyp-items.result.now in
    let ended = at_drop_all (λ l. filter is_long (map kat_tree l)) items c.loop-hyp.hyp-index (omega arith) in
    ap (filter is_long) (sym c.hyps-hyp-items.ensures.value) ∙ sym c.loop-hyp.invariant ∙ ended
