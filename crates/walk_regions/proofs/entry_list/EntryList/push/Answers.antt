use Rattle.std.proofs.Common.{◌≡◌, [], length, slice_index_or, sym, subst, arith}
use Rattle.kat_model.specs.Members.{Has}
use Rattle.walk_regions.specs.Entries.{EntryParts}
use Rattle.walk_regions.specs.Filing.{key_of, AreFiled}
use Rattle.walk_regions.proofs.Filing.{filed_more}
use Rattle.walk_regions.proofs.entry_list.EntryList.push.Goals as goal

pub invariant_of-self-2 : goal.invariant_of-self-2
invariant_of-self-2 c =
    let own : EntryParts = c.args.entry in
    let lists = c.file_entry.new.lists.items in
    let place : c.len-place.result ≡ length c.self.inside.entries.items = omega (arith, c.len-place.ensures, c.self.inside.entries.ok.0) in
    subst (λ es. AreFiled es lists) (sym c.in_ok-push.ensures.items)
    (filed_more c.self.inside.entries.items own c.self.inside.lists.items lists c.in_ok-file_entry.ensures.kept c.self.invariant (subst (Has (slice_index_or lists (key_of own.left own.right) [])) place c.in_ok-file_entry.ensures.added))
