-- The keywords, which cannot be declared as names.
use Rattle.std.specs.Prelude.{ℕ, List, [], ◌∷◌, Bool, codes, bytes_eq}
use Rattle.std.specs.List.{list_any}

-- the keywords of the formats
abbrev pub keywords : List (List ℕ)
keywords =
    codes "test" ∷ codes "action" ∷ codes "var" ∷ codes "prog" ∷ codes "term" ∷ codes "hyp" ∷ codes "rounds"
    ∷ codes "width" ∷ codes "goal" ∷ codes "equal" ∷ codes "below" ∷ codes "triple" ∷ codes "skip" ∷ codes "abort"
    ∷ codes "assert" ∷ codes "if" ∷ codes "else" ∷ codes "while" ∷ codes "true" ∷ codes "false" ∷ []

-- whether the bytes are a keyword
abbrev pub is_keyword : List ℕ → Bool
is_keyword bytes = list_any (bytes_eq bytes) keywords
