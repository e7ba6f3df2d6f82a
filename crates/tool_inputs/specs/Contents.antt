-- What a file may contain, given what is known of its content.
use Rattle.std.specs.Prelude.{◌≡◌, ℕ, List}
use Rattle.kat_io.specs.KnownContent.{KnownContent, Unknown, Missing, Known}

-- it may contain these bytes
abbrev pub MayContain : KnownContent → List ℕ → Type 0
MayContain Unknown bytes = Unit {0}
MayContain Missing bytes = ⊥
MayContain (Known known) bytes = bytes ≡ known
