-- The meanings of the names of a scope.
use Rattle.std.specs.Prelude.{◌≡◌, ◌<◌, ℕ, List, [], ◌∷◌, ◌++◌, length, Bool, true, false, Option, Some, None, IsSome, map as mapped, String, string_bytes}
use Rattle.std.specs.Ordering.{nat_cmp}
use Rattle.std.specs.Cmp.Lexicographic.{slice_cmp}
use Rattle.std.specs.FinMap.{FinMap, empty, get, insert, from_entries}
use Rattle.std.specs.declared.alloc.Global.{Global}
use Rattle.kat_model.specs.Trees.{Term}
use Rattle.text_parser.specs.declared.fault.TextFault.{TextFault}
use Rattle.text_parser.specs.declared.fault.TextFault.TheVariants.{NoMemory, DoubleName}
use Rattle.text_parser.specs.declared.token.Kind.TheVariants.{Name}
use Rattle.text_parser.specs.declared.token.Token.{Token}
use Rattle.text_parser.specs.Kinds.{IsToken}
use Rattle.text_parser.specs.Keywords.{is_keyword}
use Rattle.text_parser.specs.declared.meaning.Meaning.{Meaning}
use Rattle.text_parser.specs.declared.meaning.Meaning.TheVariants.{Term as TermName}

-- a defined term, and the nesting of the phrase that defines it
pub record Definition : Type 0 where
  pub tree : Term
  pub nesting : ℕ

-- meanings by name
abbrev pub Meanings : Type 0
Meanings = FinMap (slice_cmp nat_cmp) Meaning

-- the meaning of each name, and the defined terms by number
pub record ScopeParts : Type 0 where
  pub meanings : Meanings
  pub terms : List Definition

-- the meaning of a name, or `None` if the name is undeclared
abbrev pub meaning : ScopeParts → List ℕ → Option Meaning
meaning w name = get w.meanings name

-- the meanings in a list of entries
abbrev pub meanings_of : List (String Global × Meaning) → Meanings
meanings_of entries = from_entries (mapped (λ e. (string_bytes e.0, e.1)) entries)

-- `name` denotes `m`
abbrev pub Means : ScopeParts → List ℕ → Meaning → Type 0
Means w name m = meaning w name ≡ Some m

-- no name denotes `m`
abbrev pub IsUnnamed : ScopeParts → Meaning → Type 0
IsUnnamed w m = (name : List ℕ) → Means w name m → ⊥

-- the name is declared
abbrev pub IsDeclared : ScopeParts → List ℕ → Type 0
IsDeclared w name = IsSome (meaning w name)

-- the name is undeclared
abbrev pub IsUndeclared : ScopeParts → List ℕ → Type 0
IsUndeclared w name = meaning w name ≡ None

-- an identifier: a name that is not a keyword
pub record IsIdentifier (bytes : List ℕ) : Type 0 where
  pub name : IsToken Name bytes
  pub no_keyword : is_keyword bytes ≡ false

-- each name is an identifier, each named term is defined, and no two names denote the same
pub record IsWellFormed (w : ScopeParts) : Type 0 where
  pub identifiers : (name : List ℕ) (m : Meaning) → Means w name m → IsIdentifier name
  pub in_range : (name : List ℕ) (i : ℕ) → Means w name (TermName i) → i < length w.terms
  pub one_name : (name other : List ℕ) (m : Meaning) → Means w name m → Means w other m → other ≡ name

-- `name` is an identifier and the only name that denotes `m`
pub record IsNameOf (w : ScopeParts) (name : List ℕ) (m : Meaning) : Type 0 where
  pub means : Means w name m
  pub identifier : IsIdentifier name
  pub only : (other : List ℕ) → Means w other m → other ≡ name

-- the scope without names and terms
abbrev pub empty_scope : ScopeParts
empty_scope = record { meanings = empty; terms = [] }

-- whether the meaning is a defined term
abbrev pub is_term : Meaning → Bool
is_term (TermName i) = true
is_term m = false

-- the scope with an additional name
abbrev pub declared : ScopeParts → List ℕ → Meaning → ScopeParts
declared w name m = record { meanings = insert w.meanings name m; terms = w.terms }

-- the scope with an additional defined term, which gets the next number, and its name
abbrev pub defined : ScopeParts → List ℕ → Definition → ScopeParts
defined w name d = record { meanings = insert w.meanings name (TermName (length w.terms)); terms = w.terms ++ d ∷ [] }

-- why a declaration fails: `DoubleName` at the token's place if the name is declared; `NoMemory` only if it is
-- undeclared
abbrev pub IsRefusal : ScopeParts → Token → TextFault → Type 0
IsRefusal w name NoMemory = IsUndeclared w name.text.now
IsRefusal w name (DoubleName at) = (at ≡ name.at) × IsDeclared w name.text.now
IsRefusal w name other = ⊥
