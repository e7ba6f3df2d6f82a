-- The pieces of a phrase spell its text.
use Rattle.std.proofs.Common.{◌≡◌, ℕ, List, [], ◌∷◌, ◌++◌, Bool, true, false, cond, refl, sym, ap, ◌∙◌, append_assoc}
use Rattle.std.proofs.lemmas.List.{append-nil}
use Rattle.std.specs.Prelude.{codes}
use Rattle.kat_model.specs.Trees.{TestTree, bottom, top, prim, complement, meet, join, Term, zero, one, test, act, sum, product, star}
use Rattle.kat_model.specs.Expressions.{ExprTree, number, variable, plus, minus, times, CondTree, always, never, named, compared, negation, both, either}
use Rattle.text_parser.specs.Pieces.{Piece, symbol, gap, spelled}
use Rattle.text_parser.specs.declared.meaning.Meaning.{Meaning}
use Rattle.text_print.specs.Printing.{relation_text, cond_of, is_star, expr_text, cond_text, test_text, term_text, in_round, spaced, expr_pieces, cond_pieces, test_pieces, term_pieces}

-- the pieces spell `text` before the pieces that follow
abbrev Spell : (List Piece → List Piece) → List ℕ → Type 0
Spell pieces text = (ps : List Piece) → spelled (pieces ps) ≡ text ++ spelled ps

spaced_spell : (between : List ℕ) (left right : List Piece → List Piece) (x y : List ℕ) → Spell left x → Spell right y → (ps : List Piece) → spelled (spaced between left right ps) ≡ 40 ∷ (x ++ (32 ∷ (between ++ (32 ∷ (y ++ (41 ∷ spelled ps))))))
spaced_spell between left right x y f g ps =
    ap (λ (l : List ℕ). 40 ∷ l)
    (f (gap 32 ∷ symbol between ∷ gap 32 ∷ right (symbol (codes ")") ∷ ps))
    ∙ ap (λ (l : List ℕ). x ++ (32 ∷ (between ++ (32 ∷ l)))) (g (symbol (codes ")") ∷ ps)))

-- the text, grouped to the right
regrouped : (x m y r : List ℕ) → codes "(" ++ x ++ m ++ y ++ codes ")" ++ r ≡ 40 ∷ (x ++ (m ++ (y ++ (41 ∷ r))))
regrouped x m y r = simp append_assoc

regrouped_more : (x m y r : List ℕ) → codes "(" ++ x ++ codes " " ++ m ++ codes " " ++ y ++ codes ")" ++ r ≡ 40 ∷ (x ++ (32 ∷ (m ++ (32 ∷ (y ++ (41 ∷ r))))))
regrouped_more x m y r = simp append_assoc

module _ (names : Meaning → List ℕ) where
  pub expr_spells : (e : ExprTree) → Spell (expr_pieces names e) (expr_text names e)
  expr_spells (number n) ps = refl
  expr_spells (variable k) ps = refl
  expr_spells (plus e f) ps = spaced_spell (codes "+") (expr_pieces names e) (expr_pieces names f) (expr_text names e) (expr_text names f) (expr_spells e) (expr_spells f) ps ∙ sym (regrouped (expr_text names e) (codes " + ") (expr_text names f) (spelled ps))
  expr_spells (minus e f) ps = spaced_spell (codes "-") (expr_pieces names e) (expr_pieces names f) (expr_text names e) (expr_text names f) (expr_spells e) (expr_spells f) ps ∙ sym (regrouped (expr_text names e) (codes " - ") (expr_text names f) (spelled ps))
  expr_spells (times e f) ps = spaced_spell (codes "*") (expr_pieces names e) (expr_pieces names f) (expr_text names e) (expr_text names f) (expr_spells e) (expr_spells f) ps ∙ sym (regrouped (expr_text names e) (codes " * ") (expr_text names f) (spelled ps))

  pub cond_spells : (b : CondTree) → Spell (cond_pieces names b) (cond_text names b)
  cond_spells always ps = refl
  cond_spells never ps = refl
  cond_spells (named k) ps = refl
  cond_spells (compared r e f) ps = spaced_spell (relation_text r) (expr_pieces names e) (expr_pieces names f) (expr_text names e) (expr_text names f) (expr_spells e) (expr_spells f) ps ∙ sym (regrouped_more (expr_text names e) (relation_text r) (expr_text names f) (spelled ps))
  cond_spells (negation b) ps = ap (λ (l : List ℕ). 33 ∷ l) (cond_spells b ps)
  cond_spells (both b c) ps = spaced_spell (codes "&&") (cond_pieces names b) (cond_pieces names c) (cond_text names b) (cond_text names c) (cond_spells b) (cond_spells c) ps ∙ sym (regrouped (cond_text names b) (codes " && ") (cond_text names c) (spelled ps))
  cond_spells (either b c) ps = spaced_spell (codes "||") (cond_pieces names b) (cond_pieces names c) (cond_text names b) (cond_text names c) (cond_spells b) (cond_spells c) ps ∙ sym (regrouped (cond_text names b) (codes " || ") (cond_text names c) (spelled ps))

  bracket_spells : (b : CondTree) (ps : List Piece) → spelled (symbol (codes "[") ∷ cond_pieces names b (symbol (codes "]") ∷ ps)) ≡ codes "[" ++ cond_text names b ++ codes "]" ++ spelled ps
  bracket_spells b ps = ap (λ (l : List ℕ). 91 ∷ l) (cond_spells b (symbol (codes "]") ∷ ps) ∙ sym (append_assoc (cond_text names b) (codes "]") (spelled ps)))

  pub test_spells : (b : TestTree) → Spell (test_pieces names b) (test_text names b)
  test_spells bottom ps = bracket_spells never ps
  test_spells top ps = bracket_spells always ps
  test_spells (prim k) ps = refl
  test_spells (complement b) ps = bracket_spells (cond_of (complement b)) ps
  test_spells (meet b c) ps = bracket_spells (cond_of (meet b c)) ps
  test_spells (join b c) ps = bracket_spells (cond_of (join b c)) ps

  star_spells : (starred : Bool) (inside : List Piece → List Piece) (x : List ℕ) → Spell inside x → (ps : List Piece)
      → spelled (cond starred (in_round inside (symbol (codes "*") ∷ ps)) (inside (symbol (codes "*") ∷ ps))) ≡ cond starred (codes "(" ++ x ++ codes ")*") (x ++ codes "*") ++ spelled ps
  star_spells true inside x f ps = ap (λ (l : List ℕ). 40 ∷ l) (f (symbol (codes ")") ∷ symbol (codes "*") ∷ ps) ∙ sym (append_assoc x (codes ")*") (spelled ps)))
  star_spells false inside x f ps = f (symbol (codes "*") ∷ ps) ∙ sym (append_assoc x (codes "*") (spelled ps))

  pub term_spells : (e : Term) → Spell (term_pieces names e) (term_text names e)
  term_spells zero ps = refl
  term_spells one ps = refl
  term_spells (test b) ps = test_spells b ps
  term_spells (act a) ps = refl
  term_spells (sum e f) ps = spaced_spell (codes "+") (term_pieces names e) (term_pieces names f) (term_text names e) (term_text names f) (term_spells e) (term_spells f) ps ∙ sym (regrouped (term_text names e) (codes " + ") (term_text names f) (spelled ps))
  term_spells (product e f) ps =
      ap (λ (l : List ℕ). 40 ∷ l)
      (term_spells e (symbol (codes ".") ∷ term_pieces names f (symbol (codes ")") ∷ ps))
      ∙ ap (λ (l : List ℕ). term_text names e ++ (46 ∷ l)) (term_spells f (symbol (codes ")") ∷ ps)))
      ∙ sym (regrouped (term_text names e) (codes ".") (term_text names f) (spelled ps))
  term_spells (star e) ps = star_spells (is_star e) (term_pieces names e) (term_text names e) (term_spells e) ps

  -- a text written to an empty buffer is spelled by the pieces
  pub term_printed : (e : Term) (old new : List ℕ) → old ≡ [] → new ≡ old ++ term_text names e → new ≡ spelled (term_pieces names e [])
  term_printed e old new h k = k ∙ ap (λ (l : List ℕ). l ++ term_text names e) h ∙ sym (term_spells e [] ∙ append-nil (term_text names e))

  pub cond_printed : (b : CondTree) (old new : List ℕ) → old ≡ [] → new ≡ old ++ cond_text names b → new ≡ spelled (cond_pieces names b [])
  cond_printed b old new h k = k ∙ ap (λ (l : List ℕ). l ++ cond_text names b) h ∙ sym (cond_spells b [] ∙ append-nil (cond_text names b))

  pub expr_printed : (e : ExprTree) (old new : List ℕ) → old ≡ [] → new ≡ old ++ expr_text names e → new ≡ spelled (expr_pieces names e [])
  expr_printed e old new h k = k ∙ ap (λ (l : List ℕ). l ++ expr_text names e) h ∙ sym (expr_spells e [] ∙ append-nil (expr_text names e))
