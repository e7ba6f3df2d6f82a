-- The pieces of a printed expression are tokens, none of which continues into the next piece.
use Rattle.std.proofs.Common.{List, ℕ, ◌∷◌, refl}
use Rattle.std.specs.Prelude.{codes}
use Rattle.kat_model.specs.Trees.{bottom, top, prim, complement, meet, join}
use Rattle.text_parser.specs.Pieces.{Piece, symbol, gap, spelled, AreSeparate}
use Rattle.text_parser.specs.declared.meaning.Meaning.{Meaning}
use Rattle.text_parser.specs.declared.meaning.Meaning.TheVariants.{Test, Action}
use Rattle.text_parser.specs.ScopeParts.{ScopeParts}
use Rattle.text_print.specs.Printing.{cond_of}
use Rattle.text_print.proofs.Separate.{EndsWords, Separate, blank_ends, round_ends, open_alone, close_alone, product_separate, rounded_separate, word_separate, bracket_separate}
use Rattle.gkat_front.specs.Expressions.{GkatTree, test, act, product, choice, loop}
use Rattle.gkat_front.specs.Printing.{is_loop, guard_pieces, gkat_pieces, GkatIsNamed}

caret_ends : (ps : List Piece) → EndsWords (symbol (codes "^") ∷ ps)
caret_ends ps = record { name = λ b. refl; number = λ b. refl }

module _ (w : ScopeParts) (names : Meaning → List ℕ) where
  pub gkat_separate : (e : GkatTree) → GkatIsNamed w names e → Separate (gkat_pieces names e)
  gkat_separate (test bottom) is ps ends after = (refl, ends.number (codes "0"), after)
  gkat_separate (test top) is ps ends after = (refl, ends.number (codes "1"), after)
  gkat_separate (test (prim k)) is ps ends after = word_separate w names (Test k) is ps ends after
  gkat_separate (test (complement b)) is ps ends after = bracket_separate w names (cond_of (complement b)) is ps after
  gkat_separate (test (meet b c)) is ps ends after = bracket_separate w names (cond_of (meet b c)) is ps after
  gkat_separate (test (join b c)) is ps ends after = bracket_separate w names (cond_of (join b c)) is ps after
  gkat_separate (act a) is ps ends after = word_separate w names (Action a) is ps ends after
  gkat_separate (product e f) is ps ends after = product_separate (gkat_pieces names e) (gkat_pieces names f) (gkat_separate e is.0) (gkat_separate f is.1) ps after
  gkat_separate (choice b e f) is ps ends after =
      let last : AreSeparate (symbol (codes ")") ∷ ps) = (refl, close_alone (spelled ps), after) in
      let right = gap 32 ∷ gkat_pieces names f (symbol (codes ")") ∷ ps) in
      let second : AreSeparate right = (refl, gkat_separate f is.2 (symbol (codes ")") ∷ ps) (round_ends ps) last) in
      let middle : AreSeparate (gap 32 ∷ symbol (codes "+") ∷ guard_pieces names b right) = (refl, (refl, refl, bracket_separate w names (cond_of b) is.0 right second)) in
      (refl, open_alone _, gkat_separate e is.1 (gap 32 ∷ symbol (codes "+") ∷ guard_pieces names b right) (blank_ends _) middle)
  gkat_separate (loop b e) is ps ends after =
      let turn = symbol (codes "^") ∷ guard_pieces names b ps in
      let looped : AreSeparate turn = (refl, refl, bracket_separate w names (cond_of b) is.0 ps after) in
      rounded_separate (is_loop e) (gkat_pieces names e) (gkat_separate e is.1) turn (caret_ends (guard_pieces names b ps)) looped
