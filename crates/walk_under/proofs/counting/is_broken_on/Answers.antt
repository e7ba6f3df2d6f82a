use Rattle.std.proofs.Common.{inl, inr, ⊎_elim, refl, sym, ap, ◌∙◌}
use Rattle.std.proofs.lemmas.Bool.{both_ways}
use Rattle.kat_model.specs.Trees.{kat_tree}
use Rattle.kat_model.specs.Steps.{out}
use Rattle.walk_under.proofs.counting.is_broken_on.Goals as goal

pub returns-then-breaks : goal.returns-then-breaks
returns-then-breaks c = ((λ t. inl (sym c.breaks_on-breaks.ensures ∙ c.if-breaks.true)), (λ b. refl))

pub returns : goal.returns
returns c =
    let h = kat_tree c.args.hyp.now in (
      (λ t. inr (ap (out h) (sym c.atom_after.ensures) ∙ sym c.accepts_atom.ensures ∙ t)),
      (λ b. ⊎_elim (λ m. absurd (both_ways c.breaks_on-breaks.result c.if-breaks.false (c.breaks_on-breaks.ensures ∙ m))) (λ o. c.accepts_atom.ensures ∙ ap (out h) c.atom_after.ensures ∙ o) b),
    )
