use Rattle.std.proofs.Common.{◌≡◌, ◌++◌, take}
use Rattle.certificate.specs.Texts.{atom_bits}
use Rattle.kat_report.proofs.reason.put_bits.Given as goal

-- the bits so far
abbrev pub invariant-loop-value : goal.invariant-loop-value
invariant-loop-value l = l.out.items ≡ l.initial.out.items ++ atom_bits (take l.value-index l.atom)
