-- The signed text of a form and its halves, term by term.
use Rattle.std.proofs.Common.{◌≡◌, ◌<◌, ◌≤◌, ◌+◌, ℕ, List, ◌∷◌, ◌++◌, length, get_or, drop, Bool, true, false, refl, sym, ap, ◌∙◌, append_assoc}
use Rattle.std.proofs.lemmas.List.{drop_more, drop_all}
use Rattle.text_parser.specs.declared.meaning.Meaning.{Meaning}
use Rattle.linear_forms.specs.Forms.{FormTree, constant, var, product, TermTree, with_term, form_of}
use Rattle.tool_explain.specs.Signed.{signed_sum, still_first, half_sum}
use Rattle.tool_explain.specs.Working.FormParts.{signed_part, half_term, signed_constant, half_constant}

module _ (m : ℕ) (names : Meaning → List ℕ) where
  -- ---- the whole form

  pub signed_more : (first : Bool) (x : TermTree) (rest : FormTree) → signed_sum m names first (with_term x rest) ≡ signed_part m names first x ++ signed_sum m names false rest
  signed_more true (var k, t) rest = refl
  signed_more false (var k, t) rest = refl
  signed_more true (product f g, t) rest = simp append_assoc
  signed_more false (product f g, t) rest = simp append_assoc

  pub signed_end : (first : Bool) (c : ℕ) → signed_sum m names first (constant c) ≡ signed_constant m first c
  signed_end true c = refl
  signed_end false c = refl

  pub signed_written : (first : Bool) (items : List TermTree) (c i : ℕ) (x : TermTree) (start old written : List ℕ)
      → i < length items → x ≡ get_or items i x → written ≡ old ++ signed_part m names first x
      → old ++ signed_sum m names first (form_of (drop i items) c) ≡ start
      → written ++ signed_sum m names false (form_of (drop (i + 1) items) c) ≡ start
  signed_written first items c i x start old written within is with_part so_far =
      let cons : drop i items ≡ x ∷ drop (i + 1) items = drop_more items i x within ∙ ap (λ (y : TermTree). y ∷ drop (i + 1) items) (sym is) in
      let rest : FormTree = form_of (drop (i + 1) items) c in
      rw with_part
      (append_assoc old (signed_part m names first x) (signed_sum m names false rest)
      ∙ ap (λ (l : List ℕ). old ++ l) (sym (signed_more first x rest))
      ∙ ap (λ (xs : List TermTree). old ++ signed_sum m names first (form_of xs c)) (sym cons)
      ∙ so_far)

  pub signed_ended : (first : Bool) (items : List TermTree) (c i : ℕ) (start old written : List ℕ)
      → length items ≤ i → old ++ signed_sum m names first (form_of (drop i items) c) ≡ start
      → written ≡ old ++ signed_constant m first c → written ≡ start
  signed_ended first items c i start old written past so_far with_end =
      with_end ∙ ap (λ (l : List ℕ). old ++ l) (sym (signed_end first c)) ∙ ap (λ (xs : List TermTree). old ++ signed_sum m names first (form_of xs c)) (sym (drop_all i items past)) ∙ so_far

  -- ---- half of a form

  module _ (side : Bool) where
    pub half_more : (first : Bool) (x : TermTree) (rest : FormTree) → half_sum m side names first (with_term x rest) ≡ half_term m side names first x ++ half_sum m side names (still_first m side first x.1) rest
    half_more true (var k, t) rest = refl
    half_more false (var k, t) rest = refl
    half_more true (product f g, t) rest = refl
    half_more false (product f g, t) rest = refl

    pub half_end : (first : Bool) (c : ℕ) → half_sum m side names first (constant c) ≡ half_constant m side first c
    half_end true c = refl
    half_end false c = refl

    pub half_written : (first : Bool) (items : List TermTree) (c i : ℕ) (x : TermTree) (start old written : List ℕ)
        → i < length items → x ≡ get_or items i x → written ≡ old ++ half_term m side names first x
        → old ++ half_sum m side names first (form_of (drop i items) c) ≡ start
        → written ++ half_sum m side names (still_first m side first x.1) (form_of (drop (i + 1) items) c) ≡ start
    half_written first items c i x start old written within is with_part so_far =
        let cons : drop i items ≡ x ∷ drop (i + 1) items = drop_more items i x within ∙ ap (λ (y : TermTree). y ∷ drop (i + 1) items) (sym is) in
        let rest : FormTree = form_of (drop (i + 1) items) c in
        rw with_part
        (append_assoc old (half_term m side names first x) (half_sum m side names (still_first m side first x.1) rest)
        ∙ ap (λ (l : List ℕ). old ++ l) (sym (half_more first x rest))
        ∙ ap (λ (xs : List TermTree). old ++ half_sum m side names first (form_of xs c)) (sym cons)
        ∙ so_far)

    pub half_ended : (first : Bool) (items : List TermTree) (c i : ℕ) (start old written : List ℕ)
        → length items ≤ i → old ++ half_sum m side names first (form_of (drop i items) c) ≡ start
        → written ≡ old ++ half_constant m side first c → written ≡ start
    half_ended first items c i start old written past so_far with_end =
        with_end ∙ ap (λ (l : List ℕ). old ++ l) (sym (half_end first c)) ∙ ap (λ (xs : List TermTree). old ++ half_sum m side names first (form_of xs c)) (sym (drop_all i items past)) ∙ so_far
