-- The syntax test accepts exactly the items of the grammar.
use Rattle.std.proofs.Common.{◌≡◌, ℕ, ◌+◌, List, [], ◌∷◌, true, false, Ok, refl, ap, ◌∙◌}
use Rattle.text_parser.specs.Lexemes.{Lexeme}
use Rattle.text_parser.specs.Parsed.{before}
use Rattle.text_parser.specs.Actions.{context}
use Rattle.text_parser.specs.Scans.{scanning as scanning_terms, scanning_conds}
use Rattle.text_parser.specs.Conds.{parse_cond, disjunction}
use Rattle.text_parser.specs.Phrases.{cond, Phrase, yield_before, MeetsLookahead, IsPhrase}
use Rattle.text_parser.specs.Folds.{fold}
use Rattle.text_parser.specs.Ends.{Ends}
use Rattle.text_parser.proofs.ParserSoundness.{cond_found}
use Rattle.text_parser.proofs.ParserCompleteness.{cond_parsed}
use Rattle.text_parser.proofs.Longest.{longest}
use Rattle.text_parser.proofs.Scanned.{scanned}
use Rattle.while_lang.proofs.ScannedBlocks.{enters}
use Rattle.problem_file.specs.Phrases.{Names, one_name, more_names}
use Rattle.problem_file.specs.Folds.{fold_names}
use Rattle.gkat_front.specs.GkatWalks.{whole, parse_gkat}
use Rattle.gkat_front.specs.GkatScans.{scanning_expr}
use Rattle.gkat_front.specs.GkatPhrases.{Guard, GkatSymbol, expr, factors, factor, unit, GkatPhrase, one_product, two_products, one_factor, more_factors, once, repeated, zero_unit, one_unit, name_unit, guard_unit, round_unit, gkat_onto, GkatObeys, GuardFits, GkatFits}
use Rattle.gkat_front.specs.GkatFolds.{CondFold, Folded, fold_guard, fold_gkat}
use Rattle.gkat_front.specs.FilePhrases.{GkatItem, tests, actions, equal, ItemFits, ItemsFit}
use Rattle.gkat_front.specs.FileFolds.{ExprFold, fold_item, fold_items}
use Rattle.gkat_front.specs.Making.{scanning, scan_file}
use Rattle.gkat_front.specs.Laws.{TextsAreScanned}
use Rattle.gkat_front.proofs.GkatSoundness.{gkat_found}
use Rattle.gkat_front.proofs.GkatCompleteness.{Stops, gkat_read}
use Rattle.gkat_front.proofs.FileSoundness.{items_found}
use Rattle.gkat_front.proofs.FileCompleteness.{items_folded}

abbrev cond_scan : CondFold (Unit {0})
cond_scan d p = fold scanning_terms (context d false true) p (λ u. tt)

abbrev expr_scan : ExprFold (Unit {0}) (Unit {0})
expr_scan s p = fold_gkat scanning_expr cond_scan 0 p

cond_is : (d : ℕ) (ts : List Lexeme) (y : Unit {0} × List Lexeme) → parse_cond scanning_conds disjunction (context d false true) ts ≡ Ok y → IsPhrase cond d ts y.1
cond_is d ts y e = cond_found scanning_conds disjunction (context d false true) ts y e

cond_reads : (d : ℕ) (p : Phrase cond) (ts : List Lexeme) → MeetsLookahead p ts → Ends cond ts → parse_cond scanning_conds disjunction (context d false true) (yield_before p ts) ≡ before ts (cond_scan d p)
cond_reads d p ts o last = cond_parsed scanning_terms p (context d false true) ts o (longest p ts last)

expr_reads : (s : Unit {0}) (p : GkatPhrase expr) (ts : List Lexeme) → GkatObeys p ts → Stops expr ts → parse_gkat scanning_expr whole 0 (gkat_onto p ts) ≡ before ts (expr_scan s p)
expr_reads s p ts o stops = gkat_read scanning_expr cond_scan cond_reads p 0 ts o stops

-- ---- the test refuses nothing if nothing is too deep or too wide

abbrev Passes : (x : GkatSymbol) → Folded (Unit {0}) (Unit {0}) x → Type 0
Passes factors v = (k : Unit {0} → Unit {0}) → v k ≡ Ok tt
Passes expr v = v ≡ Ok tt
Passes factor v = v ≡ Ok tt
Passes unit v = v ≡ Ok tt

guard_passes : (d : ℕ) (b : Guard) → GuardFits d b → fold_guard cond_scan d b ≡ Ok tt
guard_passes d b fits = rw (enters d (b.opening).at fits.0) (scanned b.inner (context (d + 1) false true) fits.1 (λ u. tt))

gkat_passes : {x : GkatSymbol} (p : GkatPhrase x) (d : ℕ) → GkatFits d p → Passes x (fold_gkat scanning_expr cond_scan d p)
gkat_passes (one_product p) d fits = gkat_passes p d fits (λ u. tt)
gkat_passes (two_products p plus b q) d fits = rw (gkat_passes p d fits.0 (λ u. tt), guard_passes d b fits.1, gkat_passes q d fits.2 (λ u. tt)) refl
gkat_passes (one_factor x) d fits = λ k. rw (gkat_passes x d fits) refl
gkat_passes (more_factors x dot p) d fits = λ k. rw (gkat_passes x d fits.0) (gkat_passes p d fits.1 (λ u. tt))
gkat_passes (once u) d fits = gkat_passes u d fits
gkat_passes (repeated u caret b) d fits = rw (gkat_passes u d fits.0, guard_passes d b fits.1) refl
gkat_passes (zero_unit l) d fits = refl
gkat_passes (one_unit l) d fits = refl
gkat_passes (name_unit l) d fits = refl
gkat_passes (guard_unit b) d fits = rw (guard_passes d b fits) refl
gkat_passes (round_unit opening e closing) d fits = rw (enters d opening.at fits.0) (gkat_passes e (d + 1) fits.1)

names_pass : (ns : Names) → fold_names (λ (s : Unit {0}) (at : ℕ) (name : List ℕ). Ok tt) tt ns ≡ Ok tt
names_pass (one_name l) = refl
names_pass (more_names l c ns) = names_pass ns

item_passes : (i : GkatItem) → ItemFits i → fold_item scanning expr_scan tt i ≡ Ok tt
item_passes (tests keyword ns end) fits = names_pass ns
item_passes (actions keyword ns end) fits = names_pass ns
item_passes (equal keyword p comma q end) fits = rw (gkat_passes p 0 fits.0, gkat_passes q 0 fits.1) refl

items_pass : (items : List GkatItem) → ItemsFit items → fold_items scanning expr_scan tt items ≡ Ok tt
items_pass [] fit = refl
items_pass (i ∷ items) fit = rw (item_passes i fit.0) (items_pass items fit.1)

-- ---- the law

pub texts_are_scanned : TextsAreScanned
texts_are_scanned ts = (
  items_found scanning (λ s us y e. gkat_found scanning_expr cond_is 0 us y e) tt tt ts,
  (λ x. ap scan_file (x.1).spells ∙ (items_folded scanning expr_scan expr_reads tt x.0 (x.1).obey ∙ items_pass x.0 (x.1).fit)),
)
