use Rattle.std.proofs.Common.{⊎_elim, get_or, sym, subst}
use Rattle.std.proofs.lemmas.Option.{slice_get-get_or}
use Rattle.kat_model.specs.Members.{Has}
use Rattle.kat_model.proofs.Places.{has_at}
use Rattle.walk_under.proofs.counting.next_place.Goals as goal

pub loop-place-init : goal.loop-place-init
loop-place-init c = let bs = c.args.broken.now in has_at bs 0 (get_or bs 0 0) (slice_get-get_or bs 0 0 c.requires)

pub loop-place-preserved : goal.loop-place-preserved
loop-place-preserved c =
    let bs = c.args.broken.now in
    let k = c.loop-place.place-index in
    ⊎_elim
    (λ e. subst (Has bs) (sym e) c.loop-place.invariant)
    (λ e. subst (Has bs) (sym e) (has_at bs k (get_or bs k 0) (slice_get-get_or bs k 0 c.loop-place-test.true)))
    c.cheaper-chosen.ensures
