-- The pieces of an expression spell its text.
use Rattle.std.proofs.Common.{◌≡◌, ℕ, List, [], ◌∷◌, ◌++◌, Bool, true, false, cond, refl, sym, ap, ◌∙◌, append_assoc}
use Rattle.std.proofs.lemmas.List.{append-nil}
use Rattle.std.specs.Prelude.{codes}
use Rattle.kat_model.specs.Trees.{TestTree, bottom, top}
use Rattle.text_parser.specs.Pieces.{Piece, symbol, gap, spelled}
use Rattle.text_parser.specs.declared.meaning.Meaning.{Meaning}
use Rattle.text_print.specs.Printing.{cond_of, cond_text, in_round}
use Rattle.text_print.proofs.PieceTexts.{cond_spells, test_spells}
use Rattle.gkat_front.specs.Expressions.{GkatTree, test, act, product, choice, loop}
use Rattle.gkat_front.specs.Printing.{is_loop, guard_text, gkat_text, guard_pieces, gkat_pieces}

-- the pieces spell the text, whatever pieces follow
abbrev Spell : (List Piece → List Piece) → List ℕ → Type 0
Spell pieces text = (ps : List Piece) → spelled (pieces ps) ≡ text ++ spelled ps

-- ---- texts associated to the right

product_regrouped : (x y r : List ℕ) → codes "(" ++ x ++ codes "." ++ y ++ codes ")" ++ r ≡ 40 ∷ (x ++ (46 ∷ (y ++ (41 ∷ r))))
product_regrouped x y r = simp append_assoc

choice_regrouped : (x g y r : List ℕ) → codes "(" ++ x ++ codes " +" ++ g ++ codes " " ++ y ++ codes ")" ++ r ≡ 40 ∷ (x ++ (32 ∷ 43 ∷ (g ++ (32 ∷ (y ++ (41 ∷ r))))))
choice_regrouped x g y r = simp append_assoc

round_regrouped : (x g r : List ℕ) → codes "(" ++ x ++ codes ")^" ++ g ++ r ≡ 40 ∷ (x ++ (41 ∷ 94 ∷ (g ++ r)))
round_regrouped x g r = simp append_assoc

bare_regrouped : (x g r : List ℕ) → x ++ codes "^" ++ g ++ r ≡ x ++ (94 ∷ (g ++ r))
bare_regrouped x g r = simp append_assoc

module _ (names : Meaning → List ℕ) where
  guard_spells : (b : TestTree) → Spell (guard_pieces names b) (guard_text names b)
  guard_spells b ps = ap (λ (l : List ℕ). 91 ∷ l) (cond_spells names (cond_of b) (symbol (codes "]") ∷ ps) ∙ sym (append_assoc (cond_text names (cond_of b)) (codes "]") (spelled ps)))

  -- a loop; its operand is in parentheses if it is itself a loop
  loop_spells : (looped : Bool) (inside : List Piece → List Piece) (x : List ℕ) (b : TestTree) → Spell inside x → (ps : List Piece) →
      spelled (cond looped (in_round inside (symbol (codes "^") ∷ guard_pieces names b ps)) (inside (symbol (codes "^") ∷ guard_pieces names b ps)))
      ≡ cond looped (codes "(" ++ x ++ codes ")^" ++ guard_text names b) (x ++ codes "^" ++ guard_text names b) ++ spelled ps
  loop_spells true inside x b f ps =
      ap (λ (l : List ℕ). 40 ∷ l)
      (f (symbol (codes ")") ∷ symbol (codes "^") ∷ guard_pieces names b ps)
      ∙ ap (λ (l : List ℕ). x ++ (41 ∷ 94 ∷ l)) (guard_spells b ps))
      ∙ sym (round_regrouped x (guard_text names b) (spelled ps))
  loop_spells false inside x b f ps =
      f (symbol (codes "^") ∷ guard_pieces names b ps)
      ∙ ap (λ (l : List ℕ). x ++ (94 ∷ l)) (guard_spells b ps)
      ∙ sym (bare_regrouped x (guard_text names b) (spelled ps))

  gkat_spells : (e : GkatTree) → Spell (gkat_pieces names e) (gkat_text names e)
  gkat_spells (test bottom) ps = refl
  gkat_spells (test top) ps = refl
  gkat_spells (test b) ps = test_spells names b ps
  gkat_spells (act a) ps = refl
  gkat_spells (product e f) ps =
      ap (λ (l : List ℕ). 40 ∷ l)
      (gkat_spells e (symbol (codes ".") ∷ gkat_pieces names f (symbol (codes ")") ∷ ps))
      ∙ ap (λ (l : List ℕ). gkat_text names e ++ (46 ∷ l)) (gkat_spells f (symbol (codes ")") ∷ ps)))
      ∙ sym (product_regrouped (gkat_text names e) (gkat_text names f) (spelled ps))
  gkat_spells (choice b e f) ps =
      let last = gkat_spells f (symbol (codes ")") ∷ ps) in
      let middle = guard_spells b (gap 32 ∷ gkat_pieces names f (symbol (codes ")") ∷ ps)) ∙ ap (λ (l : List ℕ). guard_text names b ++ (32 ∷ l)) last in
      ap (λ (l : List ℕ). 40 ∷ l)
      (gkat_spells e (gap 32 ∷ symbol (codes "+") ∷ guard_pieces names b (gap 32 ∷ gkat_pieces names f (symbol (codes ")") ∷ ps)))
      ∙ ap (λ (l : List ℕ). gkat_text names e ++ (32 ∷ 43 ∷ l)) middle)
      ∙ sym (choice_regrouped (gkat_text names e) (guard_text names b) (gkat_text names f) (spelled ps))
  gkat_spells (loop b e) ps = loop_spells (is_loop e) (gkat_pieces names e) (gkat_text names e) b (gkat_spells e) ps

  -- writing an expression to an empty output
  pub gkat_printed : (e : GkatTree) (old new : List ℕ) → old ≡ [] → new ≡ old ++ gkat_text names e → new ≡ spelled (gkat_pieces names e [])
  gkat_printed e old new h k = k ∙ ap (λ (l : List ℕ). l ++ gkat_text names e) h ∙ sym (gkat_spells e [] ∙ append-nil (gkat_text names e))
