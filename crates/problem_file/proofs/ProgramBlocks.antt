-- The pieces of a printable program begin with its block; those of a printable condition begin with its phrase.
use Rattle.std.proofs.Common.{◌≡◌, ◌≤◌, ◌+◌, ℕ, true, false, List, [], ◌∷◌, refl, ap, subst, arith}
use Rattle.std.specs.Prelude.{codes}
use Rattle.kat_model.specs.declared.limits.TheConstants.{MAX_OPEN}
use Rattle.kat_model.specs.Expressions.{CondTree}
use Rattle.kat_model.specs.declared.expression.Width.{Width}
use Rattle.text_parser.specs.Pieces.{Piece, symbol, gap}
use Rattle.text_parser.specs.declared.terminal.Terminal.TheVariants.{Separator}
use Rattle.text_parser.specs.declared.terminal.Separator.TheVariants.{CurlyOpen}
use Rattle.text_parser.specs.Lexemes.{Lexeme, lexeme}
use Rattle.text_parser.specs.Actions.{context}
use Rattle.text_parser.specs.Phrases.{cond, Phrase, one_conj, one_lit, yield_before, MeetsLookahead, IsWithinLimits}
use Rattle.text_parser.specs.declared.meaning.Meaning.{Meaning}
use Rattle.text_parser.specs.ScopeParts.{ScopeParts}
use Rattle.text_print.specs.Printing.{cond_pieces, CondIsNamed}
use Rattle.text_print.proofs.PrintedPhrases.{lexemes_from, leaf}
use Rattle.text_print.proofs.PrintedConds.{EndsCond, cond_back}
use Rattle.while_lang.specs.Programs.{ProgTree}
use Rattle.while_lang.specs.ProgramPrinting.{block_pieces, ProgIsNamed, block_levels}
use Rattle.while_lang.specs.NamedProgs.{ProgParts}
use Rattle.while_lang.specs.BlockPhrases.{block, BlockPhrase, braced, block_before, BlockObeys, BlockFits}
use Rattle.while_lang.specs.BlockSound.{block_nesting}
use Rattle.while_lang.proofs.BlockMeasures.{prog_of-stmts_of}
use Rattle.while_lang.proofs.PrintedBlocks.{stmts_begin}
use Rattle.problem_file.specs.Numbers.{AreNarrow}
use Rattle.problem_file.specs.Sound.{IsCond, IsBlock}
use Rattle.problem_file.proofs.Appends.{block_append}
use Rattle.problem_file.specs.ProgramTexts.{IsProgPrintable, IsCondPrintable}
use Rattle.problem_file.proofs.NarrowPieces.{PiecesAreNarrow, narrow_front, block_narrow}

-- the pieces begin with a block of the program and continue with `ps`
pub record BeginsBlock (names : Meaning → List ℕ) (w : ScopeParts) (progs : List ProgParts) (v : Width) (p : ProgTree) (at : ℕ) (ps : List Piece) : Type 0 where
  pub phrase : BlockPhrase block
  pub end : ℕ
  pub spelled : lexemes_from at (block_pieces names p ps) ≡ block_before phrase (lexemes_from end ps)
  pub obeys : BlockObeys phrase (lexemes_from end ps)
  pub fits : BlockFits 0 phrase
  pub is_block : IsBlock w progs phrase p
  pub narrow : AreNarrow v (block_before phrase [])
  pub deep : block_nesting w progs phrase ≡ block_levels p

pub block_begins : (names : Meaning → List ℕ) (w : ScopeParts) (progs : List ProgParts) (v : Width) (vars : ℕ) (p : ProgTree) → ProgIsNamed w names p → IsProgPrintable v vars p → (at : ℕ) (ps : List Piece) → PiecesAreNarrow v ps → BeginsBlock names w progs v p at ps
block_begins names w progs v vars p named h at ps after =
    let levels : block_levels p ≤ MAX_OPEN = h.shallow in
    let a = stmts_begin w progs names p named (at + 1) (gap 32 ∷ symbol (codes "}") ∷ ps) in
    let phrase = braced (leaf at (codes "{")) a.phrase (leaf (a.end + 1) (codes "}")) in
    let rest = lexemes_from (a.end + 1 + 1) ps in
    let spelled : lexemes_from at (block_pieces names p ps) ≡ block_before phrase rest = ap (λ (l : List Lexeme). lexeme (Separator CurlyOpen) at (codes "{") ∷ l) a.spelled in
    let all : AreNarrow v (block_before phrase rest) = subst (AreNarrow v) spelled (block_narrow v w names p named h.narrow ps after at) in
    let built = a.holds.tree 1 (omega arith) [] in
    record {
      phrase = phrase;
      end = a.end + 1 + 1;
      spelled = spelled;
      obeys = a.obeys;
      fits = (omega arith, a.holds.fits 1 (omega arith));
      is_block = record {
        sound = a.holds.sound 1 (omega arith);
        built = rw (built, prog_of-stmts_of p) refl;
        narrow = h.small_exprs;
        small = h.small;
      };
      narrow = narrow_front v (block_before phrase []) rest (subst (AreNarrow v) (block_append phrase [] rest) all);
      deep = ap (λ (k : ℕ). k + 1) a.holds.deep;
    }

-- likewise for a phrase of the condition, in braces
pub record BeginsCond (names : Meaning → List ℕ) (w : ScopeParts) (b : CondTree) (at : ℕ) (ps : List Piece) : Type 0 where
  pub phrase : Phrase cond
  pub end : ℕ
  pub spelled : lexemes_from at (cond_pieces names b ps) ≡ yield_before phrase (lexemes_from end ps)
  pub obeys : MeetsLookahead phrase (lexemes_from end ps)
  pub fits : IsWithinLimits 1 phrase
  pub is_cond : IsCond w true phrase b

pub cond_begins : (names : Meaning → List ℕ) (w : ScopeParts) (v : Width) (vars : ℕ) (b : CondTree) → CondIsNamed w names b → IsCondPrintable v vars b → (at : ℕ) (ps : List Piece) → EndsCond w ps → BeginsCond names w b at ps
cond_begins names w v vars b named h at ps ends =
    let a = cond_back w names b named at ps ends in
    let built = a.holds.tree (context 1 false true) h.shallow in
    record {
      phrase = one_conj (one_lit a.phrase);
      end = a.end;
      spelled = a.spelled;
      obeys = a.obeys;
      fits = a.holds.fits 1 h.shallow;
      is_cond = record {
        sound = a.holds.sound (context 1 false true) (λ e. refl);
        built = rw (built) refl;
        narrow = h.small_exprs;
        small = h.small;
      };
    }
