use Rattle.std.proofs.Common.{length}
use Rattle.std.specs.Io.KnownBytes.{Consumes}
use Rattle.kat_io.specs.Gets.{IsWithin}
use Rattle.kat_io.proofs.system.read_within.Given as goal

-- the reader lost the bytes that were read
abbrev pub invariant-loop : goal.invariant-loop
invariant-loop g l = record {
  lost : Consumes (g.R.Read.remaining l.initial.reader) (g.R.Read.remaining l.reader) l.bytes.items;
  within : IsWithin (length l.bytes.items) l.limit;
}
