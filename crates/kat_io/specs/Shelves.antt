-- The state of a shelf in memory: its contents by name, the calls that must fail, and the counts so far.
use Rattle.std.specs.Prelude.{◌≡◌, ◌⊎◌, ℕ, List, Option, Some, None, Result, Ok, Err, Vec, IsTrue, string_bytes, String, map as mapped}
use Rattle.std.specs.Ordering.{nat_cmp}
use Rattle.std.specs.Cmp.Lexicographic.{slice_cmp}
use Rattle.std.specs.Coded.{Coded, coded_list, coded_ℕ}
use Rattle.std.specs.FinMap.{FinMap, code, get, from_entries}
use Rattle.std.specs.declared.alloc.Global.{Global}
use Rattle.kat_io.specs.declared.outside.GetFault.{GetFault}
use Rattle.kat_io.specs.declared.outside.GetFault.TheVariants.{NoMemory, Failed, TooLong}
use Rattle.kat_io.specs.Outside.{one_more}
use Rattle.kat_io.specs.KnownContent.{KnownContent, Missing, Known}
use Rattle.kat_io.specs.Sinks.{is_due}

-- contents by name
abbrev pub Contents : Type 0
Contents = FinMap (slice_cmp nat_cmp) (List ℕ)

abbrev pub coded_contents : Coded Contents
coded_contents = code (coded_list coded_ℕ) (coded_list coded_ℕ)

pub record ShelfState : Type 0 where
  pub files : Contents
  pub schedule : List ℕ
  pub calls : ℕ
  pub faults : ℕ
  pub last : Option (List ℕ)

-- the contents in a list of entries
abbrev pub contents_of : List (String Global × Vec ℕ Global) → Contents
contents_of entries = from_entries (mapped (λ e. (string_bytes e.0, e.1.items)) entries)

abbrev pub given_of : Option (List ℕ) → KnownContent
given_of None = Missing
given_of (Some bytes) = Known bytes

-- what is known about a name: its content, or that it is missing
abbrev pub gives : ShelfState → List ℕ → KnownContent
gives s name = given_of (get s.files name)

-- the state after a call without a fault; `after_fault`: after a fault
abbrev pub after_call : ShelfState → ShelfState
after_call s = record s { calls = one_more s.calls }

abbrev pub after_fault : ShelfState → List ℕ → ShelfState
after_fault s name = record s { calls = one_more s.calls; faults = one_more s.faults; last = Some name }

-- a get of the name must fail: the call is due, or the name is missing
abbrev pub HasToFail : ShelfState → List ℕ → Type 0
HasToFail s name = IsTrue (is_due s.schedule s.calls) ⊎ (gives s name ≡ Missing)

-- a fault occurs only if the get must fail, any other result only if it need not, each with this state after it; out of
-- memory changes nothing
abbrev pub Leaves : Result (Vec ℕ Global) GetFault → ShelfState → List ℕ → ShelfState → Type 0
Leaves (Err NoMemory) old name now = now ≡ old
Leaves (Err Failed) old name now = HasToFail old name × (now ≡ after_fault old name)
Leaves (Err TooLong) old name now = (HasToFail old name → ⊥) × (now ≡ after_call old)
Leaves (Ok v) old name now = (HasToFail old name → ⊥) × (now ≡ after_call old)
