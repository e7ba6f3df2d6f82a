-- Evidence in a line of JSON: its text is ASCII, and JSON escapes only its line feeds.
use Rattle.std.proofs.Common.{◌≡◌, ◌<◌, ℕ, zero, suc, if◌then◌else◌, List, [], ◌∷◌, ◌++◌, flat_map, slice_index, length, codes, Bool, true, false, ◌==◌, refl, ap, ◌∙◌, arith, append_assoc}
use Rattle.std.specs.List.{list_all}
use Rattle.std.proofs.lemmas.Bool.{and_parts}
use Rattle.std.proofs.lemmas.Bool.Decides.{nat_tests}
use Rattle.json.specs.Print.{escape, escape_byte}
use Rattle.std.specs.Fmt.{decimal}
use Rattle.std.specs.Str.{IsAscii, IsUtf8}
use Rattle.std.proofs.lemmas.Str.{IsUtf8-from_ascii}
use Rattle.json.proofs.OnLiterals.{json_on_literals}
use Rattle.serde_json.specs.Data.{Data}
use Rattle.serde_json.specs.Written.{compact_text}
use Rattle.kat_model.specs.Problems.{ProblemParts}
use Rattle.certificate.specs.declared.evidence.Evidence.{Evidence}
use Rattle.certificate.specs.declared.evidence.Evidence.TheVariants.{Equal, Different}
use Rattle.certificate.specs.Texts.{text_of}
use Rattle.certificate.specs.Laws.{is_plain, IsPlain}
use Rattle.certificate.proofs.PlainBytes.{text_plain}
use Rattle.kat_report.specs.Working.JsonValues.{report_value}
use Rattle.kat_report.specs.Reports.{answer_name, evidence_size, in_one_line, json_report}

-- JSON escapes a plain byte only if it is a line feed
plain_byte : (b : ℕ) → is_plain b ≡ true → escape_byte b ≡ (if b == 10 then 92 ∷ 110 ∷ [] else b ∷ [])
unfolding escape_byte
plain_byte b p = grind (arith, nat_tests)

pub plain_escape : (text : List ℕ) → IsPlain text → escape text ≡ in_one_line text
plain_escape [] p = refl
plain_escape (b ∷ bs) p =
    let parts = and_parts (is_plain b) (list_all is_plain bs) p in
    rw (plain_byte b parts.0, plain_escape bs parts.1) refl

plain_small : (b : ℕ) → is_plain b ≡ true → b < 128
plain_small b p = grind (arith, nat_tests)

plain_ascii : (text : List ℕ) → IsPlain text → IsAscii text
plain_ascii [] p i = omega arith
plain_ascii (b ∷ bs) p zero = plain_small b (and_parts (is_plain b) (list_all is_plain bs) p).0
plain_ascii (b ∷ bs) p (suc i) = plain_ascii bs (and_parts (is_plain b) (list_all is_plain bs) p).1 i

pub plain_utf8 : (text : List ℕ) → IsPlain text → IsUtf8 text
plain_utf8 text p = IsUtf8-from_ascii text (plain_ascii text p)

-- JSON escapes nothing in the name of the answer
name_escape : (e : Evidence) → escape (answer_name e) ≡ answer_name e
unfolding json_on_literals
name_escape (Equal c) = refl
name_escape (Different x) = refl

abbrev line_with : (a t h s : List ℕ) → List ℕ
line_with a t h s = codes "{\"answer\":\"" ++ a ++ codes "\",\"evidence\":\"" ++ t ++ codes "\",\"hypotheses\":" ++ h ++ codes ",\"size\":" ++ s ++ codes "}\n"

regroup : (a t h s : List ℕ)
    → (codes "{\"answer\":\"" ++ ((a ++ 34 ∷ []) ++ (codes ",\"evidence\":\"" ++ ((t ++ 34 ∷ []) ++ (codes ",\"hypotheses\":" ++ (h ++ (codes ",\"size\":" ++ (s ++ 125 ∷ [])))))))) ++ 10 ∷ []
    ≡ line_with a t h s
regroup a t h s = simp append_assoc

-- the report is the text of the value and a line feed
pub report_line : (q : ProblemParts) (e : Evidence) → compact_text (report_value (answer_name e) (text_of e) (length q.hyps) (evidence_size e)) ++ 10 ∷ [] ≡ json_report q e
unfolding json_on_literals
report_line q e =
    let h : List ℕ = decimal (length q.hyps) in
    let s : List ℕ = decimal (evidence_size e) in
    regroup (escape (answer_name e)) (escape (text_of e)) h s
    ∙ ap (λ x. line_with x (escape (text_of e)) h s) (name_escape e)
    ∙ ap (λ x. line_with (answer_name e) x h s) (plain_escape (text_of e) (text_plain e))
