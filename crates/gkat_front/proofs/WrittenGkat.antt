-- The text of an expression, written part by part.
use Rattle.std.proofs.Common.{◌≡◌, ℕ, List, [], ◌∷◌, ◌++◌, codes, Bool, true, false, if◌then◌else◌, sym, ap, ◌∙◌, append_assoc}
use Rattle.std.proofs.lemmas.List.{append-nil}
use Rattle.kat_model.specs.Trees.{TestTree}
use Rattle.text_parser.specs.declared.meaning.Meaning.{Meaning}
use Rattle.gkat_front.specs.Expressions.{GkatTree, product, choice, loop}
use Rattle.gkat_front.specs.Printing.{is_loop, guard_text, gkat_text}

then_written : (out before after a b : List ℕ) → before ≡ out ++ a → after ≡ before ++ b → after ≡ out ++ (a ++ b)
then_written out before after a b ea eb = eb ∙ ap (λ (l : List ℕ). l ++ b) ea ∙ append_assoc out a b

-- the output after four and after five parts
four_written : (out first second third last a b c d : List ℕ) → first ≡ out ++ a → second ≡ first ++ b → third ≡ second ++ c → last ≡ third ++ d → last ≡ out ++ (a ++ b ++ c ++ d)
four_written out first second third last a b c d ea eb ec = then_written out third last (a ++ b ++ c) d (then_written out second third (a ++ b) c (then_written out first second a b ea eb) ec)

five_written : (out first second third fourth last a b c d e : List ℕ) → first ≡ out ++ a → second ≡ first ++ b → third ≡ second ++ c → fourth ≡ third ++ d → last ≡ fourth ++ e
    → last ≡ out ++ (a ++ b ++ c ++ d ++ e)
five_written out first second third fourth last a b c d e ea eb ec ed = then_written out fourth last (a ++ b ++ c ++ d) e (four_written out first second third fourth a b c d ea eb ec ed)

module _ (names : Meaning → List ℕ) (out first second third last : List ℕ) where
  pub product_written : (fourth : List ℕ) (e f : GkatTree) → first ≡ out ++ 40 ∷ [] → second ≡ first ++ gkat_text names e → third ≡ second ++ 46 ∷ [] → fourth ≡ third ++ gkat_text names f
      → last ≡ fourth ++ 41 ∷ [] → last ≡ out ++ gkat_text names (product e f)
  product_written fourth e f = five_written out first second third fourth last (codes "(") (gkat_text names e) (codes ".") (gkat_text names f) (codes ")")

  pub choice_written : (fourth : List ℕ) (b : TestTree) (e f : GkatTree) → first ≡ out ++ 40 ∷ [] → second ≡ first ++ gkat_text names e → third ≡ second ++ (codes " +" ++ guard_text names b ++ codes " ")
      → fourth ≡ third ++ gkat_text names f → last ≡ fourth ++ 41 ∷ [] → last ≡ out ++ gkat_text names (choice b e f)
  choice_written fourth b e f opened left mark right closed =
      let before : List ℕ = codes "(" ++ gkat_text names e in
      let guard : List ℕ = guard_text names b in
      five_written out first second third fourth last (codes "(") (gkat_text names e) (codes " +" ++ guard ++ codes " ") (gkat_text names f) (codes ")") opened left mark right closed
      ∙ ap (λ (l : List ℕ). out ++ (l ++ gkat_text names f ++ codes ")"))
      (sym (append_assoc before (codes " +" ++ guard) (codes " ")) ∙ ap (λ (l : List ℕ). l ++ codes " ") (sym (append_assoc before (codes " +") guard)))

  pub loop_written : (b : TestTree) (e : GkatTree) (needed again : Bool) → needed ≡ is_loop e → again ≡ is_loop e → first ≡ out ++ (if needed then 40 ∷ [] else []) → second ≡ first ++ gkat_text names e
      → third ≡ second ++ (if again then 41 ∷ [] else []) → last ≡ third ++ (codes "^" ++ guard_text names b) → last ≡ out ++ gkat_text names (loop b e)
  loop_written b e needed again is same opened operand closed turns =
      four_written out first second third last _ (gkat_text names e) _ (codes "^" ++ guard_text names b)
      (opened ∙ ap (λ (x : Bool). out ++ (if x then 40 ∷ [] else [])) is) operand (closed ∙ ap (λ (x : Bool). second ++ (if x then 41 ∷ [] else [])) same) turns
      ∙ ap (λ (l : List ℕ). out ++ l) (by_form (is_loop e) (gkat_text names e) (guard_text names b))
    where
      by_form : (x : Bool) (operand guard : List ℕ) → (if x then 40 ∷ [] else []) ++ operand ++ (if x then 41 ∷ [] else []) ++ (codes "^" ++ guard)
          ≡ (if x then codes "(" ++ operand ++ codes ")^" ++ guard else operand ++ codes "^" ++ guard)
      by_form true operand guard = ap (λ (l : List ℕ). 40 ∷ l) (append_assoc operand (41 ∷ []) (94 ∷ guard) ∙ sym (append_assoc operand (41 ∷ 94 ∷ []) guard))
      by_form false operand guard = ap (λ (l : List ℕ). l ++ 94 ∷ guard) (append-nil operand) ∙ sym (append_assoc operand (94 ∷ []) guard)
