use Rattle.std.proofs.Common.{◌≡◌, [], slice_index_or, ap, ◌∙◌, subst}
use Rattle.std.proofs.lemmas.Result.{on_ok_weaker}
use Rattle.kat_model.specs.Members.{Has}
use Rattle.walk_regions.specs.Entries.{EntryParts}
use Rattle.walk_regions.specs.Filing.{key_of}
use Rattle.walk_regions.proofs.entry_list.file_entry.Goals as goal

pub returns-clause-added : goal.returns-clause-added
returns-clause-added c =
    let own : EntryParts = c.args.entry.now in
    let left : c.as_slice-left.result.now ≡ own.left = c.as_slice-left.ensures ∙ ap (λ (e : EntryParts). e.left) c.entry.view_is in
    let right : c.as_slice-right.result.now ≡ own.right = c.as_slice-right.ensures ∙ ap (λ (e : EntryParts). e.right) c.entry.view_is in
    let key : c.key_of-key.result ≡ key_of own.left own.right = c.key_of-key.ensures ∙ ap (λ l. key_of l c.as_slice-right.result.now) left ∙ ap (key_of own.left) right in
    on_ok_weaker c.file.result (λ added. subst (λ k. Has (slice_index_or c.file.new.lists.items k []) c.args.place) key added) c.file.ensures.added
