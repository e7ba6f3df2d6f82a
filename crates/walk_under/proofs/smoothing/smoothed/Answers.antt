use Rattle.std.proofs.Common.{◌≡◌, ◌⊎◌, ⊎_elim, ℕ, List, sym, ap, ◌∙◌, subst}
use Rattle.kat_model.specs.Members.{Has}
use Rattle.walk_under.specs.declared.walk.FoundString.{FoundString}
use Rattle.walk_under.proofs.smoothing.smoothed.Goals as goal

-- the region is an id, since it is the last or among those of the string
one_of : (P : ℕ → Type 0) (regions all : List ℕ) (last id : ℕ) → regions ≡ all → ((k : ℕ) → Has all k → P k) → P last → (id ≡ last) ⊎ Has regions id → P id
one_of P regions all last id same each own is = ⊎_elim (λ e. subst P (sym e) own) (λ h. each id (subst (λ l. Has l id) same h)) is

pub better_atom-requires : goal.better_atom-requires
better_atom-requires c = one_of _ c.as_slice-regions.result.now c.args.found.now.regions.items c.args.last c.region_at-first_region.result (c.as_slice-regions.ensures.value ∙ ap (λ (f : FoundString). f.regions.items) c.found.view_is) c.requires.regions c.requires.last c.region_at-first_region.ensures

pub better_atom-requires-in-loop-place : goal.better_atom-requires-in-loop-place
better_atom-requires-in-loop-place c = one_of _ c.as_slice-regions.result.now c.args.found.now.regions.items c.args.last c.region_at-region.result (c.as_slice-regions.ensures.value ∙ ap (λ (f : FoundString). f.regions.items) c.found.view_is) c.requires.regions c.requires.last c.region_at-region.ensures
