-- What is known about a name of a shelf.
use Rattle.std.specs.Prelude.{ℕ, List, Option, None, Some}

-- nothing, that it is missing, or the content
pub data KnownContent : Type 0 where
  Unknown : KnownContent
  Missing : KnownContent
  Known : List ℕ → KnownContent

-- what is known from a reader that has these bytes left, if they are known
abbrev pub known_left : Option (List ℕ) → KnownContent
known_left None = Unknown
known_left (Some bytes) = Known bytes
