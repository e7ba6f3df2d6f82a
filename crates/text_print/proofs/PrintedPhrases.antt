-- Pieces that begin with a phrase and continue with others.
use Rattle.std.proofs.Common.{◌≡◌, ◌<◌, ◌+◌, ℕ, List, ◌∷◌, length, map, Ok, refl, ap, ◌∙◌, subst}
use Rattle.std.proofs.lemmas.Bool.{lt-ltb}
use Rattle.std.specs.Prelude.{codes}
use Rattle.kat_model.specs.declared.limits.TheConstants.{MAX_OPEN}
use Rattle.text_parser.specs.Pieces.{Piece, symbol, gap, parts_from}
use Rattle.text_parser.specs.declared.terminal.Terminal.TheVariants.{RoundOpen, RoundClose}
use Rattle.text_parser.specs.declared.reading.Context.{Context}
use Rattle.text_parser.specs.Terminals.{symbol_terminal}
use Rattle.text_parser.specs.Lexemes.{Lexeme, lexeme, lexeme_of}
use Rattle.text_parser.specs.Actions.{enter, enter_not}
use Rattle.text_parser.specs.Phrases.{Symbol, Leaf, Phrase, yield_before, MeetsLookahead}
use Rattle.text_parser.specs.Sound.{inside, inside_not}
use Rattle.text_print.specs.Printing.{spaced}

-- the tokens of pieces, as the grammar sees them
abbrev pub lexemes_from : ℕ → List Piece → List Lexeme
lexemes_from at ps = map lexeme_of (parts_from at ps)

abbrev pub leaf : ℕ → List ℕ → Leaf
leaf at text = record { at = at; text = text }

-- the pieces `qs` begin with a phrase that satisfies `P` and continue with `ps`
pub record Begins (x : Symbol) (P : Phrase x → Type 0) (at : ℕ) (qs ps : List Piece) : Type 0 where
  pub phrase : Phrase x
  pub end : ℕ
  pub spelled : lexemes_from at qs ≡ yield_before phrase (lexemes_from end ps)
  pub obeys : MeetsLookahead phrase (lexemes_from end ps)
  pub holds : P phrase

pub enters : (c : Context) (at : ℕ) → c.depth < MAX_OPEN → enter c at ≡ Ok (inside c)
enters c at lt = rw (lt-ltb c.depth MAX_OPEN lt) refl

pub enters_not : (c : Context) (at : ℕ) → c.depth < MAX_OPEN → enter_not c at ≡ Ok (inside_not c)
enters_not c at lt = rw (lt-ltb c.depth MAX_OPEN lt) refl

-- ---- two phrases with a symbol between them

abbrev pub after_left : List ℕ → (List Piece → List Piece) → List Piece → List Piece
after_left between right ps = gap 32 ∷ symbol between ∷ gap 32 ∷ right (symbol (codes ")") ∷ ps)

module _ (x y : Symbol) (P : Phrase x → Type 0) (Q : Phrase y → Type 0) (between : List ℕ) (left right : List Piece → List Piece) (at : ℕ) (ps : List Piece) (a : Begins x P (at + 1) (left (after_left between right ps)) (after_left between right ps)) (b : Begins y Q (a.end + 1 + length between + 1) (right (symbol (codes ")") ∷ ps)) (symbol (codes ")") ∷ ps)) where
  pub spaced_spelled : lexemes_from at (spaced between left right ps) ≡ lexeme RoundOpen at (codes "(") ∷ yield_before a.phrase (lexeme (symbol_terminal between) (a.end + 1) between ∷ yield_before b.phrase (lexeme RoundClose b.end (codes ")") ∷ lexemes_from (b.end + 1) ps))
  spaced_spelled = ap (λ (l : List Lexeme). lexeme RoundOpen at (codes "(") ∷ l) (a.spelled ∙ ap (λ (l : List Lexeme). yield_before a.phrase (lexeme (symbol_terminal between) (a.end + 1) between ∷ l)) b.spelled)

  pub spaced_obeys : MeetsLookahead a.phrase (lexeme (symbol_terminal between) (a.end + 1) between ∷ yield_before b.phrase (lexeme RoundClose b.end (codes ")") ∷ lexemes_from (b.end + 1) ps))
  spaced_obeys = subst (λ (l : List Lexeme). MeetsLookahead a.phrase (lexeme (symbol_terminal between) (a.end + 1) between ∷ l)) b.spelled a.obeys
