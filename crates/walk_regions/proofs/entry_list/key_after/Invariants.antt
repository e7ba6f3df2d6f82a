use Rattle.std.proofs.Common.{◌≡◌, ◌<◌, drop}
use Rattle.walk_regions.specs.Filing.{key_from}
use Rattle.walk_regions.proofs.entry_list.key_after.Given as goal

-- the rest of the ids leads to the key of all
abbrev pub invariant-loop-id : goal.invariant-loop-id
invariant-loop-id l = record {
  below : l.key < 4096;
  rest : key_from l.key (drop l.id-index l.ids) ≡ key_from l.start l.ids;
}
