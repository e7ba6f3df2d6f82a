use Rattle.std.proofs.Common.{◌≡◌, ◌+◌, ◌∷◌, List, Bool, false, Option, Some, None, drop, get_or, refl, sym, ap}
use Rattle.std.proofs.lemmas.List.{get_or_default}
use Rattle.std.specs.Option.{unwrap_or}
use Rattle.walk_up_to.specs.Cases.{least_of}
use Rattle.walk_up_to.proofs.Loops.{given_next, all_given}
use Rattle.walk_up_to.proofs.cases.least_atom.Goals as goal

least_next : (d : Option Bool) (ds : List (Option Bool)) (b : Bool) → b ≡ unwrap_or d false → least_of (d ∷ ds) ≡ b ∷ least_of ds
least_next None ds b e = ap (λ c. c ∷ least_of ds) (sym e)
least_next (Some x) ds b e = ap (λ c. c ∷ least_of ds) (sym e)

pub loop-value-preserved : goal.loop-value-preserved
loop-value-preserved c =
    let ds : List (Option Bool) = c.args.decided.now in
    let i = c.loop-value.value-index in
    let d : Option Bool = get_or ds i None in
    given_next least_of ds i c.loop-value.atom.items (least_of ds) c.loop-value.invariant d c.loop-value-test.true (get_or_default ds i None d c.loop-value-test.true) c.push.new.self.items c.unwrap_or.result
    (least_next d (drop (i + 1) ds) c.unwrap_or.result c.unwrap_or.ensures)
    c.in_ok-push.ensures.items

pub returns : goal.returns
returns c = all_given least_of c.args.decided.now c.loop-value.value-index c.loop-value.atom.items (least_of c.args.decided.now) c.loop-value.invariant refl c.loop-value-test.false
