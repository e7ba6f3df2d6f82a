-- The text of a certificate, from the rules and hypotheses at the marked places.
use Rattle.std.proofs.Common.{◌≡◌, ◌++◌, ℕ, List, Bool, None, map, length, sym, ap, ◌∙◌}
use Rattle.std.specs.List.{zip}
use Rattle.std.proofs.lemmas.List.{length-map}
use Rattle.kat_model.specs.declared.tree.Kat.{Kat}
use Rattle.kat_model.specs.Trees.{Term, kat_tree}
use Rattle.text_print.specs.Printing.{name_of}
use Rattle.while_lang.specs.Files.{FileParts}
use Rattle.abstraction.specs.Abstracts.{AbstractParts}
use Rattle.abstraction.specs.declared.rule.Rule.{Rule}
use Rattle.certificate.specs.Certs.{CertParts}
use Rattle.tool_explain.specs.Used.{marked}
use Rattle.tool_explain.specs.Certificates.{pairs_line, count_line, rules_text, certificate_text}

module _ (f : FileParts) (a : AbstractParts) (c : CertParts) where
  abbrev written : ℕ → List Rule → List Term → List ℕ
  written n rules terms = pairs_line c ++ count_line f a n ++ rules_text (name_of f.scope) a None (zip rules terms)

  pub used_written : (used : List Bool) (rules : List Rule) (hyps : List Kat) → rules ≡ marked used a.rules → map kat_tree hyps ≡ marked used a.problem.hyps
      → written (length hyps) rules (map kat_tree hyps) ≡ certificate_text f a c used
  used_written used rules hyps first second =
      ap (λ n. written n rules (map kat_tree hyps)) (sym (length-map hyps kat_tree) ∙ ap length second)
      ∙ ap (λ rs. written (length (marked used a.problem.hyps)) rs (map kat_tree hyps)) first
      ∙ ap (λ es. written (length (marked used a.problem.hyps)) (marked used a.rules) es) second
