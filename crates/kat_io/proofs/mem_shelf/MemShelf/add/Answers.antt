use Rattle.std.proofs.Common.{ap, ◌∙◌, string_bytes}
use Rattle.std.specs.Option.{option_map}
use Rattle.std.specs.FinMap.{insert}
use Rattle.kat_io.specs.Shelves.{Contents, ShelfState}
use Rattle.kat_io.proofs.Entries.{contents_of-set}
use Rattle.kat_io.proofs.mem_shelf.MemShelf.add.Goals as goal

pub returns-clause-ok : goal.returns-clause-ok
returns-clause-ok c =
    let s = c.self.inside in
    let with_files : Contents → ShelfState = λ files. record { files = files; schedule = s.schedule.items; calls = s.calls; faults = s.faults; last = option_map string_bytes s.last } in
    let set = contents_of-set s.files c.insert.new.self c.in_ok-name.name c.in_ok-bytes.bytes c.args.name.now c.args.bytes.now c.in_ok-name.ensures.ok (c.in_ok-bytes.ensures.items_if_clones_equal (λ x y e. e)) c.in_ok-insert.ensures.updates in
    ap with_files set ∙ ap (λ (value : ShelfState). record value { files = insert value.files c.args.name.now c.args.bytes.now }) c.self.view_is
