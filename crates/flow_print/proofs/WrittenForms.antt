-- Forms are written part by part.
use Rattle.std.proofs.Common.{◌≡◌, ℕ, List, ◌++◌, Bool, true, false, codes, refl, ap, ◌∙◌, append_assoc}
use Rattle.kat_model.specs.declared.expression.Width.{Width}
use Rattle.flow_model.specs.declared.sort.Sort.{Sort}
use Rattle.flow_forms.specs.Forms.{FlowFormTree, term, factor, converted, argument}
use Rattle.flow_print.specs.NameTables.{NameTable, sort_width}
use Rattle.flow_print.specs.FormTexts.{star_text, sign_text, times_text, magnitude, conversion_text, comma_text, part_text}

two_written : (out a b p q : List ℕ) → a ≡ out ++ p → b ≡ a ++ q → b ≡ out ++ (p ++ q)
two_written out a b p q first second = second ∙ ap (λ (l : List ℕ). l ++ q) first ∙ append_assoc out p q

three_written : (out a b c p q r : List ℕ) → a ≡ out ++ p → b ≡ a ++ q → c ≡ b ++ r → c ≡ out ++ (p ++ q ++ r)
three_written out a b c p q r first second third = two_written out b c (p ++ q) r (two_written out a b p q first second) third

-- `p` and `r` are the forms that were written, and `q` and `s` the parts of the whole that they are
module _ (names : NameTable) (width : Width) (first : Bool) (whole p q r s : FlowFormTree) (same : p ≡ q) (out a b c : List ℕ) where
  pub term_written : r ≡ s → (t : ℕ) → whole ≡ term t q s → a ≡ out ++ (sign_text width first t ++ times_text (magnitude width t)) → b ≡ a ++ part_text names width true p → c ≡ b ++ part_text names width false r
      → c ≡ out ++ part_text names width first whole
  term_written after t is x y z =
      three_written out a b c (sign_text width first t ++ times_text (magnitude width t)) (part_text names width true p) (part_text names width false r) x y z ∙ ap (λ (l : List ℕ). out ++ l) (rw (is, same, after) refl)

  pub factor_written : r ≡ s → whole ≡ factor q s → a ≡ out ++ star_text first → b ≡ a ++ part_text names width true p → c ≡ b ++ part_text names width false r → c ≡ out ++ part_text names width first whole
  factor_written after is x y z =
      three_written out a b c (star_text first) (part_text names width true p) (part_text names width false r) x y z ∙ ap (λ (l : List ℕ). out ++ l) (rw (is, same, after) refl)

  pub argument_written : r ≡ s → (sort : Sort) (own : Width) → own ≡ sort_width sort → whole ≡ argument sort q s → a ≡ out ++ comma_text first → b ≡ a ++ part_text names own true p → c ≡ b ++ part_text names width false r
      → c ≡ out ++ part_text names width first whole
  argument_written after sort own wide is x y z =
      three_written out a b c (comma_text first) (part_text names own true p) (part_text names width false r) x y z ∙ ap (λ (l : List ℕ). out ++ l) (rw (is, same, after, wide) refl)

  pub converted_written : (signed : Bool) (from to : Width) → whole ≡ converted signed from to q → a ≡ out ++ (conversion_text signed to ++ codes "(") → b ≡ a ++ part_text names from true p → c ≡ b ++ codes ")"
      → c ≡ out ++ part_text names width first whole
  converted_written signed from to is x y z =
      three_written out a b c (conversion_text signed to ++ codes "(") (part_text names from true p) (codes ")") x y z ∙ ap (λ (l : List ℕ). out ++ l) (rw (is, same) refl)
