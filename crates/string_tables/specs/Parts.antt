-- The parts of a string that a term accepts.
use Rattle.std.specs.Prelude.{◌≡◌, ◌-◌, ◌<◌, ◌≤◌, ℕ, suc, Bool, true, false, ◌&&◌, nat_le, nat_lt, length, take, drop}
use Rattle.kat_model.specs.Trees.{Term}
use Rattle.kat_model.specs.Steps.{Atom}
use Rattle.kat_model.specs.Strings.{GuardedString, last_atom, accepts}
use Rattle.kat_model.specs.Problems.{HasTestsBelow}
use Rattle.kat_model.specs.Working.Decided.{some_below}

-- the atom at a position
abbrev pub atom_of : GuardedString → ℕ → Atom
atom_of x k = last_atom x.first (take k x.rest)

-- each atom of the string has a value for each test of the term
abbrev pub MayBeRead : GuardedString → Term → Type 0
MayBeRead x e = (k : ℕ) → k ≤ length x.rest → HasTestsBelow (length (atom_of x k)) e

-- whether the term accepts the part from position i to position j
abbrev pub accepts_part : GuardedString → Term → ℕ → ℕ → Bool
accepts_part x e i j = accepts e (atom_of x i) (take (j - i) (drop i x.rest))

-- the number is at least the first bound, and below the second
abbrev pub is_between : ℕ → ℕ → ℕ → Bool
is_between from to k = nat_le from k && nat_lt k to

-- whether the term accepts a part that begins between these bounds and ends at position j
abbrev pub ends_at : GuardedString → Term → ℕ → ℕ → ℕ → Bool
ends_at x e from to j = some_below (λ i. is_between from to i && accepts_part x e i j) (suc j)

-- j is the first position from `after` on at which such a part ends
pub record IsFirstEnd (x : GuardedString) (e : Term) (from to after j : ℕ) : Type 0 where
  pub late : after ≤ j
  pub within : j ≤ length x.rest
  pub is : ends_at x e from to j ≡ true
  pub first : (k : ℕ) → after ≤ k → k < j → ends_at x e from to k ≡ false

-- no such part ends at a position from `after` on
abbrev pub HasNoEnd : GuardedString → Term → ℕ → ℕ → ℕ → Type 0
HasNoEnd x e from to after = (k : ℕ) → after ≤ k → k ≤ length x.rest → ends_at x e from to k ≡ false

-- the term accepts no part that begins before position i
abbrev pub AcceptsNoneBefore : GuardedString → Term → ℕ → Type 0
AcceptsNoneBefore x e i = (k l : ℕ) → k < i → k ≤ l → l ≤ length x.rest → accepts_part x e k l ≡ false

-- the term accepts a part that begins between these bounds
pub record HasPart (x : GuardedString) (e : Term) (from to : ℕ) : Type 0 where
  pub start : ℕ
  pub end : ℕ
  pub above : from ≤ start
  pub below : start < to
  pub order : start ≤ end
  pub within : end ≤ length x.rest
  pub is : accepts_part x e start end ≡ true

-- the part from i to j is the first that the term accepts, by its beginning and then by its end
pub record IsFirstPart (x : GuardedString) (e : Term) (i j : ℕ) : Type 0 where
  pub order : i ≤ j
  pub within : j ≤ length x.rest
  pub is : accepts_part x e i j ≡ true
  pub above : AcceptsNoneBefore x e i
  pub before : (l : ℕ) → i ≤ l → l < j → accepts_part x e i l ≡ false
