-- What a sink takes, and when a shelf or a sink may report a failure.
use Rattle.std.specs.Prelude.{◌≡◌, ◌≤◌, ◌<◌, ◌^◌, ◌+◌, ◌-◌, ℕ, List, min, length, take, Option, Result, Ok, Err, OnOk, OnErr}
use Rattle.std.specs.Io.KnownBytes.{Appends, Keeps}

-- the next count of faults, saturated at 2^64 - 1
abbrev pub one_more : ℕ → ℕ
one_more n = min (n + 1) (2 ^ 64 - 1)

-- the count rose in a call, or is saturated
abbrev pub FaultCounted : ℕ → ℕ → Type 0
FaultCounted before now = one_more before ≤ now

-- if a call returns an error, the count rose; otherwise the count is unchanged
pub record HasCause {T E : Type 0} (before now : ℕ) (result : Result T E) : Type 0 where
  pub later : before ≤ now
  pub represents : OnOk result (now ≡ before)
  pub failed : OnErr result (FaultCounted before now)

-- the count after a call that counts each fault once
abbrev pub faults_after : {T E : Type 0} → Result T E → ℕ → ℕ
faults_after (Ok x) before = before
faults_after (Err e) before = one_more before

-- the bytes taken, if known, grew by a proper prefix of these bytes
abbrev pub AppendsPrefix : Option (List ℕ) → Option (List ℕ) → List ℕ → Type 0
AppendsPrefix old now bytes = (n : ℕ) × (n < length bytes) × Appends old now (take n bytes)

-- a put takes a prefix of the piece, at least one byte unless it is empty; a fault takes nothing
abbrev pub Puts : {E : Type 0} → Option (List ℕ) → Option (List ℕ) → Result ℕ E → List ℕ → Type 0
Puts old now (Ok n) piece = (n ≤ length piece) × (0 < length piece → 0 < n) × Appends old now (take n piece)
Puts old now (Err e) piece = Keeps old now
