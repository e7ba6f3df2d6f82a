-- The syntax check accepts exactly the files of the grammar in which nothing is too deep or too wide.
use Rattle.std.proofs.Common.{◌≡◌, ℕ, List, [], ◌∷◌, Bool, true, false, Result, Ok, Err, Option, Some, None, refl, ap, sym, ◌∙◌}
use Rattle.std.specs.Option.{option_and_then}
use Rattle.text_parser.specs.declared.fault.TextFault.{TextFault}
use Rattle.text_parser.specs.Lexemes.{Lexeme}
use Rattle.text_parser.specs.Actions.{context}
use Rattle.text_parser.specs.Parsed.{◌>>=◌, before}
use Rattle.text_parser.specs.Phrases.{term, cond, Leaf, Phrase, IsWithinLimits}
use Rattle.text_parser.specs.Folds.{fold}
use Rattle.text_parser.specs.Scans.{scanning}
use Rattle.text_parser.proofs.Scanned.{scanned}
use Rattle.while_lang.specs.BlockPhrases.{block, BlockPhrase, block_before, BlockObeys, BlockFits}
use Rattle.while_lang.specs.BlockFolds.{fold_block}
use Rattle.while_lang.specs.BlockScans.{scanning_blocks, scan_block}
use Rattle.while_lang.proofs.BlockCompleteness.{parsed as block_parsed}
use Rattle.while_lang.proofs.ScannedBlocks.{blocks_taken}
use Rattle.problem_file.specs.declared.item_reading.Declared.{Declared}
use Rattle.problem_file.specs.declared.item_reading.Declared.TheVariants as what
use Rattle.problem_file.specs.Syntax.{checking}
use Rattle.problem_file.specs.Phrases.{Names, one_name, more_names, Numeral, zero_number, one_number, other_number, wide_number}
use Rattle.problem_file.specs.Phrases.{Body, tests, actions, variables, definition, program, hypothesis, hyp_triple, rounds, width, goal_equal, goal_below, goal_triple, Item}
use Rattle.problem_file.specs.Phrases.{lone_leaf, spelled, BodyObeys, NumeralFits, BodyFits, ItemsObey, ItemsFit}
use Rattle.problem_file.specs.Folds.{fold_names, numeral_value, fold_body, fold_items}
use Rattle.problem_file.specs.Laws.{FilesAreScanned}
use Rattle.problem_file.proofs.FoundItems.{items_found}
use Rattle.problem_file.proofs.FoldedItems.{items_folded}

-- every name passes
names_pass : (what : Declared) (ns : Names) → fold_names (checking.declare what) tt ns ≡ Ok tt
names_pass what (one_name l) = refl
names_pass what (more_names l c ns) = names_pass what ns

-- so does each phrase or item in which nothing is too deep or too wide

term_passes : (p : Phrase term) → IsWithinLimits 0 p → fold scanning (context 0 false false) p (λ t. tt) ≡ Ok tt
term_passes p fits = scanned p (context 0 false false) fits (λ t. tt)

cond_passes : (compares : Bool) (p : Phrase cond) → IsWithinLimits 1 p → fold scanning (context 1 false compares) p (λ t. tt) ≡ Ok tt
cond_passes compares p fits = scanned p (context 1 false compares) fits (λ t. tt)

block_passes : (b : BlockPhrase block) (ts : List Lexeme) → BlockObeys b ts → BlockFits 0 b → fold_block scanning_blocks 0 b tt ≡ Ok tt
block_passes b ts obeys fits = of_rest (fold_block scanning_blocks 0 b tt) (sym scans ∙ taken) where
  taken : scan_block 0 (block_before b ts) ≡ Ok ts
  taken = (blocks_taken 0 (block_before b ts) ts).1 (record { phrase = b; spelled = refl; obeys = obeys; fits = fits })

  scans : scan_block 0 (block_before b ts) ≡ (before ts (fold_block scanning_blocks 0 b tt) >>= λ x. Ok x.1)
  scans = ap (λ m. m >>= λ x. Ok x.1) (block_parsed scanning_blocks b 0 tt ts obeys)

  of_rest : (r : Result (Unit {0}) TextFault) → (before ts r >>= λ x. Ok x.1) ≡ Ok ts → r ≡ Ok tt
  of_rest (Ok u) e = refl
  of_rest (Err x) e = absurd cc

-- the syntax check knows no programs
no_program : (o : Option Leaf) → option_and_then (λ l. checking.program tt l.text) o ≡ None
no_program None = refl
no_program (Some l) = refl

pub numeral_passes : (n : Numeral) → NumeralFits n → (v : ℕ) × (numeral_value n ≡ Ok v)
numeral_passes (zero_number l) fits = (0, refl)
numeral_passes (one_number l) fits = (1, refl)
numeral_passes (other_number l n) fits = (n, refl)
numeral_passes (wide_number l) fits = absurd fits

body_passes : (b : Body) (at : ℕ) (ts : List Lexeme) → BodyObeys b ts → BodyFits b → fold_body checking tt at b ts ≡ Ok tt
body_passes (tests ns e) at ts obeys fits = names_pass what.Test ns
body_passes (actions ns e) at ts obeys fits = names_pass what.Action ns
body_passes (variables ns e) at ts obeys fits = names_pass what.Var ns
body_passes (definition name q p e) at ts obeys fits = rw (term_passes p fits) refl
body_passes (program name b) at ts obeys fits = rw (block_passes b ts obeys fits) refl
body_passes (hypothesis p q z e) at ts obeys fits = rw (term_passes p fits) refl
body_passes (hyp_triple l x e) at ts obeys fits = rw (cond_passes false (x.pre).inner fits.0, term_passes x.body fits.1, cond_passes false (x.post).inner fits.2) refl
body_passes (rounds n e) at ts obeys fits = rw ((numeral_passes n fits).1) refl
body_passes (width n e) at ts obeys fits = rw ((numeral_passes n fits).1) refl
body_passes (goal_equal l p c q e) at ts obeys fits = rw (no_program (lone_leaf p), no_program (lone_leaf q), term_passes p fits.0, term_passes q fits.1) refl
body_passes (goal_below l p c q e) at ts obeys fits = rw (no_program (lone_leaf p), no_program (lone_leaf q), term_passes p fits.0, term_passes q fits.1) refl
body_passes (goal_triple l x e) at ts obeys fits = rw (no_program (lone_leaf x.body), cond_passes true (x.pre).inner fits.0, term_passes x.body fits.1, cond_passes true (x.post).inner fits.2) refl

items_pass : (is : List Item) → ItemsObey is → ItemsFit is → fold_items checking tt is ≡ Ok tt
items_pass [] obey fit = refl
items_pass (i ∷ is) obey fit = rw (body_passes i.body (i.keyword).at (spelled is) obey.0 fit.0) (items_pass is obey.1 fit.1)

pub files_are_scanned : FilesAreScanned
files_are_scanned ts = (items_found checking tt tt ts, λ file. items_folded checking tt file.0 ts file.1.file ∙ items_pass file.0 file.1.file.obey file.1.fit)
