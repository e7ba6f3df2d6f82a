-- The hypotheses are written one by one.
use Rattle.std.proofs.Common.{◌≡◌, ℕ, List, [], ◌∷◌, ◌++◌, length, Bool, Option, Some, refl, sym, ap, ◌∙◌, append_assoc}
use Rattle.std.proofs.lemmas.List.{append-nil, nil_from_length}
use Rattle.std.specs.Prelude.{if◌then◌else◌}
use Rattle.std.specs.List.{zip}
use Rattle.kat_model.specs.Trees.{Term}
use Rattle.text_parser.specs.declared.meaning.Meaning.{Meaning}
use Rattle.abstraction.specs.Abstracts.{AbstractParts}
use Rattle.abstraction.specs.declared.rule.Rule.{Rule}
use Rattle.kat_report.specs.Shows.{is_new}
use Rattle.tool_explain.specs.Certificates.{rule_line, rules_text}

module _ (names : Meaning → List ℕ) (a : AbstractParts) where
  pub rule_written : (before : Option Rule) (rule : Rule) (all rules : List Rule) (e : Term) (terms es : List Term) (new : Bool) (start old written : List ℕ)
      → all ≡ rule ∷ rules → terms ≡ e ∷ es → new ≡ is_new before rule → written ≡ old ++ (if new then rule_line names a rule e else [])
      → old ++ rules_text names a before (zip all terms) ≡ start
      → written ++ rules_text names a (Some rule) (zip rules es) ≡ start
  rule_written before rule all rules e terms es new start old written first second is_new_is with_rule so_far =
      rw (with_rule, is_new_is)
      (append_assoc old (if is_new before rule then rule_line names a rule e else []) (rules_text names a (Some rule) (zip rules es)) ∙ (rw (first, second) at so_far))

  zip-nothing : {K X : Type 0} (ks : List K) → zip {K = K} {X = X} ks [] ≡ []
  zip-nothing [] = refl
  zip-nothing (k ∷ ks) = refl

  -- all hypotheses are written when no rule is left, or no term
  pub no_rule_left : (before : Option Rule) (all : List Rule) (terms : List Term) (start out : List ℕ) → length all ≡ 0 → out ++ rules_text names a before (zip all terms) ≡ start → out ≡ start
  no_rule_left before all terms start out none so_far =
      sym (append-nil out) ∙ ap (λ (rs : List Rule). out ++ rules_text names a before (zip rs terms)) (sym (nil_from_length all none)) ∙ so_far

  pub no_term_left : (before : Option Rule) (all : List Rule) (terms : List Term) (start out : List ℕ) → terms ≡ [] → out ++ rules_text names a before (zip all terms) ≡ start → out ≡ start
  no_term_left before all terms start out none so_far =
      sym (append-nil out) ∙ ap (λ (ps : List (Rule × Term)). out ++ rules_text names a before ps) (sym (zip-nothing all)) ∙ ap (λ (es : List Term). out ++ rules_text names a before (zip all es)) (sym none) ∙ so_far
