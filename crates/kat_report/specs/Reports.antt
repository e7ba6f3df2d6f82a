-- The report of an answer, as JSON.
use Rattle.std.specs.Prelude.{ℕ, List, [], ◌∷◌, ◌++◌, ◌==◌, if◌then◌else◌, length, flat_map, codes}
use Rattle.std.specs.Fmt.{decimal}
use Rattle.kat_model.specs.Problems.{ProblemParts}
use Rattle.certificate.specs.declared.evidence.Evidence.{Evidence}
use Rattle.certificate.specs.declared.evidence.Evidence.TheVariants.{Equal, Different}
use Rattle.certificate.specs.Texts.{text_of}

abbrev pub answer_name : Evidence → List ℕ
answer_name (Equal c) = codes "equal"
answer_name (Different x) = codes "different"

-- the number of pairs of a certificate, or of moves of a string
abbrev pub evidence_size : Evidence → ℕ
evidence_size (Equal c) = length c.pairs
evidence_size (Different x) = length x.rest

-- the text with a backslash and an `n` for each line feed
abbrev pub in_one_line : List ℕ → List ℕ
in_one_line text = flat_map (λ b. if b == 10 then 92 ∷ 110 ∷ [] else b ∷ []) text

-- The answer, the evidence, the number of hypotheses of the problem, the size of the evidence, and a line feed. The
-- text of evidence has no quotes and no backslashes, so only its line feeds are escaped.
abbrev pub json_report : ProblemParts → Evidence → List ℕ
json_report q e =
    codes "{\"answer\":\"" ++ answer_name e ++ codes "\",\"evidence\":\"" ++ in_one_line (text_of e)
    ++ codes "\",\"hypotheses\":" ++ decimal (length q.hyps) ++ codes ",\"size\":" ++ decimal (evidence_size e) ++ codes "}\n"
