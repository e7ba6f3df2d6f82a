use Rattle.std.proofs.Common.{◌≡◌, [], ◌∷◌, ◌++◌, sym, ap, ◌∙◌, subst}
use Rattle.walk_regions.specs.Parts.{with_if}
use Rattle.walk_regions.proofs.parts.with_target.Goals as goal

pub returns-then-value : goal.returns-then-value
returns-then-value c =
    subst (λ v. c.push.new.self.items ≡ with_if v c.args.terms.now c.args.target) (sym c.if-value.true)
    (c.in_ok-push.ensures.items ∙ ap (λ xs. xs ++ c.args.target ∷ []) (c.in_ok-list.ensures.items))

pub returns : goal.returns
returns c = subst (λ v. c.in_ok-list.list.items ≡ with_if v c.args.terms.now c.args.target) (sym c.if-value.false) (c.in_ok-list.ensures.items)
