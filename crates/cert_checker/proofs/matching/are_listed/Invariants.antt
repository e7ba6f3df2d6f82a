use Rattle.std.proofs.Common.{ℕ, take}
use Rattle.kat_model.specs.Members.{Has}
use Rattle.cert_checker.proofs.FoundPairs.{IsOther}
use Rattle.cert_checker.proofs.matching.are_listed.Given as goal

-- no pair at an earlier place counts and has these sets
abbrev pub invariant-loop-place : goal.invariant-loop-place
invariant-loop-place l = (j : ℕ) → Has (take l.place-index l.places) j → IsOther l.counted.action_pass.now.pairs l.counted.also_open l.counted.known.now l.sides.left.sure.items l.sides.right.sure.items j
