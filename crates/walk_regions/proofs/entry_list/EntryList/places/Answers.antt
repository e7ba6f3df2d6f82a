use Rattle.std.proofs.Common.{◌≡◌, ℕ, List, [], slice_get, slice_index_or, sym, ap, ◌∙◌, subst}
use Rattle.kat_model.specs.Members.{Has}
use Rattle.walk_regions.specs.Filing.{EntryListParts, key_of}
use Rattle.walk_regions.proofs.entry_list.EntryList.places.Goals as goal

pub returns-in-Some : goal.returns-in-Some
returns-in-Some c k e at l r =
    let key : key_of e.left e.right ≡ c.key_of-key.result = ap (λ ids. key_of ids e.right) l ∙ ap (key_of c.args.left.now) r ∙ sym c.key_of-key.ensures in
    let filed = c.self.invariant k e (ap (λ (x : EntryListParts). slice_get x.items k) c.self.view_is ∙ at) in
    let here = subst (λ n. Has (slice_index_or c.self.inside.lists.items n []) k) key filed in
    let there = subst (λ (ls : List (List ℕ)). Has (slice_index_or ls c.key_of-key.result []) k) (sym c.deref.ensures.value) here in
    subst (λ ks. Has ks k) (sym (c.as_slice.ensures ∙ c.in-Some.ensures)) there

pub returns-in-None : goal.returns-in-None
returns-in-None c k e at l r =
    let key : key_of e.left e.right ≡ c.key_of-key.result = ap (λ ids. key_of ids e.right) l ∙ ap (key_of c.args.left.now) r ∙ sym c.key_of-key.ensures in
    let filed = c.self.invariant k e (ap (λ (x : EntryListParts). slice_get x.items k) c.self.view_is ∙ at) in
    let here = subst (λ n. Has (slice_index_or c.self.inside.lists.items n []) k) key filed in
    let there = subst (λ (ls : List (List ℕ)). Has (slice_index_or ls c.key_of-key.result []) k) (sym c.deref.ensures.value) here in
    absurd (subst (λ ks. Has ks k) c.in-None.ensures there)
