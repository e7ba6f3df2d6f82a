-- The results of a shelf.
use Rattle.std.specs.Prelude.{◌≡◌, ◌≤◌, ◌<◌, ℕ, List, length, Option, None, Some, Result, Ok, Err, IsSome, Vec}
use Rattle.std.specs.declared.alloc.Global.{Global}
use Rattle.kat_io.specs.declared.outside.GetFault.{GetFault}
use Rattle.kat_io.specs.declared.outside.GetFault.TheVariants.{NoMemory, Failed, TooLong}
use Rattle.kat_io.specs.Outside.{FaultCounted}
use Rattle.kat_io.specs.KnownContent.{KnownContent, Unknown, Missing, Known}

-- a fault raises the count and sets the last failed name, and no other result changes either
abbrev pub IsCounted : {T : Type 0} → Result T GetFault → List ℕ → ℕ → ℕ → Option (List ℕ) → Option (List ℕ) → Type 0
IsCounted (Err Failed) name before now last next = (before ≤ now) × FaultCounted before now × (next ≡ Some name)
IsCounted (Err NoMemory) name before now last next = (now ≡ before) × (next ≡ last)
IsCounted (Err TooLong) name before now last next = (now ≡ before) × (next ≡ last)
IsCounted (Ok x) name before now last next = (now ≡ before) × (next ≡ last)

-- the number of bytes is within the limit, if there is one; `IsPast`: past the limit
abbrev pub IsWithin : ℕ → Option ℕ → Type 0
IsWithin n None = Unit {0}
IsWithin n (Some limit) = n ≤ limit

abbrev pub IsPast : ℕ → Option ℕ → Type 0
IsPast n None = ⊥
IsPast n (Some limit) = limit < n

-- a returned content is within the limit and, if known, the whole content; a known content that is too long is past the
-- limit
abbrev pub GetsFrom : KnownContent → Result (Vec ℕ Global) GetFault → Option ℕ → Type 0
GetsFrom given (Err NoMemory) limit = Unit {0}
GetsFrom given (Err Failed) limit = Unit {0}
GetsFrom Unknown (Ok v) limit = IsWithin (length v.items) limit
GetsFrom Missing (Ok v) limit = ⊥
GetsFrom (Known bytes) (Ok v) limit = (v.items ≡ bytes) × IsWithin (length bytes) limit
GetsFrom Unknown (Err TooLong) limit = IsSome limit
GetsFrom Missing (Err TooLong) limit = ⊥
GetsFrom (Known bytes) (Err TooLong) limit = IsPast (length bytes) limit
