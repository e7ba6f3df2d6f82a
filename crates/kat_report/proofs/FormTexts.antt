-- The text of a form, term by term.
use Rattle.std.proofs.Common.{◌≡◌, ◌<◌, ◌≤◌, ◌+◌, ℕ, List, ◌∷◌, ◌++◌, length, get_or, drop, Bool, false, refl, sym, ap, ◌∙◌, append_assoc}
use Rattle.std.proofs.lemmas.List.{drop_more, drop_all}
use Rattle.text_parser.specs.declared.meaning.Meaning.{Meaning}
use Rattle.linear_forms.specs.Forms.{FormTree, constant, var, product, TermTree, with_term, form_of}
use Rattle.kat_report.specs.Shows.{sum_text}
use Rattle.kat_report.specs.Working.SumParts.{term_text, constant_text}

module _ (names : Meaning → List ℕ) where
  sum_more : (first : Bool) (x : TermTree) (rest : FormTree) → sum_text names first (with_term x rest) ≡ term_text names first x ++ sum_text names false rest
  sum_more first (var k, t) rest = refl
  sum_more first (product f g, t) rest = simp append_assoc

  pub sum_written : (first : Bool) (items : List TermTree) (c i : ℕ) (x : TermTree) (start old written : List ℕ)
      → i < length items → x ≡ get_or items i x → written ≡ old ++ term_text names first x
      → old ++ sum_text names first (form_of (drop i items) c) ≡ start
      → written ++ sum_text names false (form_of (drop (i + 1) items) c) ≡ start
  sum_written first items c i x start old written within is with_term_is so_far =
      let cons : drop i items ≡ x ∷ drop (i + 1) items = drop_more items i x within ∙ ap (λ (y : TermTree). y ∷ drop (i + 1) items) (sym is) in
      let rest : FormTree = form_of (drop (i + 1) items) c in
      rw with_term_is
      (append_assoc old (term_text names first x) (sum_text names false rest)
      ∙ ap (λ (l : List ℕ). old ++ l) (sym (sum_more first x rest))
      ∙ ap (λ (xs : List TermTree). old ++ sum_text names first (form_of xs c)) (sym cons)
      ∙ so_far)

  pub sum_ended : (first : Bool) (items : List TermTree) (c i : ℕ) (start old written : List ℕ)
      → length items ≤ i → old ++ sum_text names first (form_of (drop i items) c) ≡ start
      → written ≡ old ++ constant_text first c → written ≡ start
  sum_ended first items c i start old written past so_far with_end =
      with_end ∙ ap (λ (xs : List TermTree). old ++ sum_text names first (form_of xs c)) (sym (drop_all i items past)) ∙ so_far
