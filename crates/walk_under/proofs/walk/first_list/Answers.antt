use Rattle.std.proofs.Common.{List, ◌∷◌, ◌++◌, [], ap, ◌∙◌}
use Rattle.walk_regions.specs.Entries.{EntryParts}
use Rattle.walk_under.proofs.walk.first_list.Goals as goal

pub returns : goal.returns
returns c =
    c.in_ok-push.ensures.items
    ∙ ap (λ (l : List EntryParts). l ++ c.in_ok-entry.entry ∷ []) c.new-entries.ensures.items
    ∙ ap (λ (e : EntryParts). e ∷ []) c.in_ok-entry.ensures
