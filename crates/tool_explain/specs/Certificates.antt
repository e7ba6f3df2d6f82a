-- What a certificate says, in a few lines: the number of its pairs, their style, and the hypotheses that it uses.
use Rattle.std.specs.Prelude.{◌≡◌, ℕ, List, [], ◌∷◌, ◌++◌, codes, Bool, Option, Some, None, length, slice_get, if◌then◌else◌}
use Rattle.std.specs.List.{zip}
use Rattle.std.specs.Fmt.{decimal}
use Rattle.kat_model.specs.Trees.{Term}
use Rattle.kat_model.specs.Stores.{modulus}
use Rattle.text_parser.specs.declared.meaning.Meaning.{Meaning}
use Rattle.text_print.specs.Printing.{name_of}
use Rattle.problem_file.specs.Questions.{hyp_text}
use Rattle.while_lang.specs.Files.{FileParts}
use Rattle.abstraction.specs.Abstracts.{AbstractParts}
use Rattle.abstraction.specs.declared.rule.Rule.{Rule}
use Rattle.abstraction.specs.declared.rule.Rule.TheVariants.{Stated, Assign, F1, F2, F3, F4, F5, F6}
use Rattle.certificate.specs.Certs.{CertParts}
use Rattle.certificate.specs.Accepted.{IsAccepted}
use Rattle.certificate.specs.declared.nodes.Style.{Style}
use Rattle.certificate.specs.declared.nodes.Style.TheVariants.{Plain, UpTo, Under}
use Rattle.kat_report.specs.Shows.{is_new}
use Rattle.tool_explain.specs.Signed.{test_at_text, action_at_text}
use Rattle.tool_explain.specs.Used.{marked, with_marked}

-- how the pairs are connected
abbrev pub style_text : Style → List ℕ
style_text Plain = codes ", closed under all steps\n"
style_text UpTo = codes ", closed under steps up to congruence\n"
style_text Under = codes " under tests, closed under steps up to congruence\n"

abbrev pub pairs_line : CertParts → List ℕ
pairs_line c = codes "equal: pairs " ++ decimal (length c.pairs) ++ style_text c.style

-- how many hypotheses there are and how many of them the file states, and how many are used
abbrev pub counts_text : ℕ → ℕ → List ℕ
counts_text hyps stated = (codes "hypotheses " ++ decimal hyps) ++ (codes ", stated " ++ decimal stated)

abbrev pub used_text : ℕ → List ℕ
used_text used = (codes ", used " ++ decimal used) ++ codes "\n"

abbrev pub count_line : FileParts → AbstractParts → ℕ → List ℕ
count_line f a used = counts_text (length a.problem.hyps) (length f.hyps) ++ used_text used

-- a test or an action by its number
abbrev pub known_test : (Meaning → List ℕ) → AbstractParts → ℕ → List ℕ
known_test names a i = test_at_text (modulus a.width) names (slice_get a.tests i)

abbrev pub known_action : (Meaning → List ℕ) → AbstractParts → ℕ → List ℕ
known_action names a i = action_at_text (modulus a.width) names (slice_get a.actions i)

abbrev pub pair_text : (Meaning → List ℕ) → AbstractParts → ℕ → ℕ → List ℕ
pair_text names a i j = codes "known together: " ++ known_test names a i ++ codes ", " ++ known_test names a j

-- a hypothesis: its term, if it is stated, or what is known of an assignment and a comparison, or of comparisons
abbrev pub rule_line : (Meaning → List ℕ) → AbstractParts → Rule → Term → List ℕ
rule_line names a (Stated k) e = hyp_text names e
rule_line names a (Assign i j) e = codes "known after " ++ known_action names a i ++ codes ": " ++ known_test names a j ++ codes "\n"
rule_line names a (F1 i j) e = pair_text names a i j ++ codes "\n"
rule_line names a (F2 i j) e = pair_text names a i j ++ codes "\n"
rule_line names a (F3 i j) e = pair_text names a i j ++ codes "\n"
rule_line names a (F4 i j) e = pair_text names a i j ++ codes "\n"
rule_line names a (F5 i j) e = pair_text names a i j ++ codes "\n"
rule_line names a (F6 i j k) e = pair_text names a i j ++ codes ", " ++ known_test names a k ++ codes "\n"

-- the hypotheses; of adjacent ones with the same reason, one
abbrev pub rules_text : (Meaning → List ℕ) → AbstractParts → Option Rule → List (Rule × Term) → List ℕ
rules_text names a before [] = []
rules_text names a before ((rule, e) ∷ rest) =
    (if is_new before rule then rule_line names a rule e else []) ++ rules_text names a (Some rule) rest

-- the used hypotheses, with their reasons
abbrev pub used_rules : AbstractParts → List Bool → List (Rule × Term)
used_rules a used = zip (marked used a.rules) (marked used a.problem.hyps)

abbrev pub certificate_text : FileParts → AbstractParts → CertParts → List Bool → List ℕ
certificate_text f a c used =
    pairs_line c ++ count_line f a (length (marked used a.problem.hyps)) ++ rules_text (name_of f.scope) a None (used_rules a used)

-- the output describes the certificate, which is accepted for the question with the hypotheses alone that it lists
pub record ExplainsCertificate (f : FileParts) (a : AbstractParts) (c : CertParts) (output : List ℕ) : Type 0 where
  pub used : List Bool
  pub alone : IsAccepted (with_marked a.problem used) c
  pub printed : output ≡ certificate_text f a c used
