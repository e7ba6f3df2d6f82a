use Rattle.std.proofs.Common.{◌<◌, length, sym, ap, ◌∙◌, subst}
use Rattle.kat_model.specs.Members.{Has}
use Rattle.walk_up_to.specs.Indices.{IndexParts}
use Rattle.walk_up_to.proofs.Closures.{made_then, round_closed}
use Rattle.walk_up_to.proofs.saturation.add_all.Goals as goal

pub returns-clause-closed : goal.returns-clause-closed
returns-clause-closed c =
    round_closed c.args.listed.now c.add_sides.new.marked c.add_under_first.new.marked c.in_ok-from_apart.from_apart c.in_ok-from_terms.from_terms c.either.result c.either.ensures c.in_ok-from_terms.ensures.more c.index.ensures.indexed c.terms-count.ensures.among
    (λ f k h. c.in_ok-from_apart.ensures.closed f k (subst (λ ks. Has ks k) (sym (c.as_slice.ensures ∙ c.apart.ensures ∙ ap (λ (x : IndexParts). x.apart) c.index.ensures.value)) h))
    (λ f i low. c.in_ok-from_terms.ensures.closed f i (subst (λ n. i < n) (sym (ap length c.terms-count.ensures.value)) low))

pub returns-clause-made : goal.returns-clause-made
returns-clause-made c =
    made_then c.args.listed.now.pairs c.args.marked.now.marks c.add_sides.new.marked.marks c.add_under_first.new.marked.marks c.in_ok-from_apart.ensures.made c.in_ok-from_terms.ensures.made
