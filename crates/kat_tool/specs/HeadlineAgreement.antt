-- `check` agrees with `decide` on bytes.
use Rattle.std.specs.Prelude.{◌≡◌, ℕ, List}
use Rattle.kat_model.specs.Problems.{ProblemParts}
use Rattle.tool_check.specs.Check.{CheckHeadline}
use Rattle.tool_decide.specs.Decide.{Headline}

-- whatever bytes `Headline` allows with a status, `CheckHeadline` gives them the same status, so `check` accepts them
abbrev pub HeadlinesAgree : Type 0
HeadlinesAgree =
    (q : ProblemParts) (status reply : ℕ) (output printed : List ℕ) → Headline q status output → CheckHeadline output q reply printed → reply ≡ status
