-- The report of an answer as a JSON value.
use Rattle.std.specs.Prelude.{ℕ, List, codes}
use Rattle.serde_json.specs.Data.{Data, string, number, object, member, no_members, unsigned}

-- the value for the name of the answer, the evidence, and two numbers
abbrev pub report_value : List ℕ → List ℕ → ℕ → ℕ → Data
report_value answer evidence hypotheses size =
    object (member (codes "answer") (string answer)
    (member (codes "evidence") (string evidence)
    (member (codes "hypotheses") (number (unsigned hypotheses))
    (member (codes "size") (number (unsigned size)) no_members))))
