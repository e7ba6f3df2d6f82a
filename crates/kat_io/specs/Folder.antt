-- The content of an opened file, and the count of faults.
use Rattle.std.specs.Prelude.{◌≡◌, ℕ, List, Option, Some, Result, Ok, Err}
use Rattle.kat_io.specs.declared.outside.GetFault.{GetFault}
use Rattle.kat_io.specs.declared.outside.GetFault.TheVariants.{NoMemory, Failed, TooLong}
use Rattle.kat_io.specs.Outside.{one_more}
use Rattle.kat_io.specs.KnownContent.{KnownContent, Unknown, Missing, Known}

-- the known content of the name is what a reader of its file has left
abbrev pub Opens : KnownContent → Option (List ℕ) → Type 0
Opens Unknown left = Unit {0}
Opens Missing left = ⊥
Opens (Known bytes) left = left ≡ Some bytes

-- the count after a get: a fault is counted once, and no other result changes the count
abbrev pub count_after : {T : Type 0} → Result T GetFault → ℕ → ℕ
count_after (Err Failed) n = one_more n
count_after (Err NoMemory) n = n
count_after (Err TooLong) n = n
count_after (Ok x) n = n
