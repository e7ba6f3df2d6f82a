-- The clauses at hand of the program.
use Rattle.std.specs.Prelude.{◌≡◌, ℕ, nat_eq, Option, None, Some}
use Rattle.std.specs.HashMap.{HashMap, get}
use Rattle.std.specs.declared.hash.FoldHasher.{FoldHasher}
use Rattle.std.specs.declared.hash.BuildHasherDefault.{BuildHasherDefault}
use Rattle.lrat_checker.specs.Propagation.{Entry, absent, deleted, present}
use Rattle.lrat_checker.specs.Accepted.{Clauses}
use Rattle.lrat_checker.specs.declared.known.Known.{Known}
use Rattle.lrat_checker.specs.declared.known.Known.TheVariants.{Deleted, Present}
use Rattle.lrat_checker.specs.declared.known.KnownClauses.{KnownClauses}

-- the entries of the program
abbrev pub Entries : Type 0
Entries = HashMap ℕ Known (BuildHasherDefault FoldHasher)

-- what the program knows of an id
abbrev pub entry_known : Option Known → Entry
entry_known None = absent
entry_known (Some Deleted) = deleted
entry_known (Some (Present clause)) = present clause.now

-- what an id denotes
abbrev pub entry_at : Entries → ℕ → Entry
entry_at entries n = entry_known (get nat_eq entries n)

-- the program has these clauses at hand
pub record Knows (k : KnownClauses) (c : Clauses) : Type 0 where
  pub entries : (n : ℕ) → entry_at k.entries n ≡ c.known n
  pub greatest : k.greatest ≡ c.greatest
