use Rattle.std.proofs.Common.{inl, refl, [], ◌∷◌, sym, subst}
use Rattle.kat_model.specs.Members.{Has}
use Rattle.kat_model.proofs.Lists.{has_left, has_right}
use Rattle.walk_regions.proofs.entry_list.PlaceList.add.Goals as goal

pub returns-clause-added : goal.returns-clause-added
returns-clause-added c =
    let k = c.args.place in
    subst (λ xs. Has xs k) (sym c.in_ok-push.ensures.items) (has_right c.self.inside.places.items (k ∷ []) k (inl refl))

pub returns-clause-kept : goal.returns-clause-kept
returns-clause-kept c k h =
    subst (λ xs. Has xs k) (sym c.in_ok-push.ensures.items) (has_left c.self.inside.places.items (c.args.place ∷ []) k (subst (λ xs. Has xs k) (sym c.self.view_is) h))
