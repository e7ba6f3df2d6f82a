-- The syntax test accepts exactly the chains.
use Rattle.std.proofs.Common.{◌≡◌, ℕ, ◌+◌, List, [], ◌∷◌, false, Option, None, Some, Ok, refl, ap, subst, ◌∙◌}
use Rattle.text_parser.specs.Lexemes.{Lexeme, lexeme}
use Rattle.text_parser.specs.Parsed.{◌>>=◌, before}
use Rattle.text_parser.specs.Actions.{context}
use Rattle.text_parser.specs.Scans.{scanning}
use Rattle.text_parser.specs.Terms.{parse_term, choice}
use Rattle.text_parser.specs.Phrases.{term, Phrase, yield_before, MeetsLookahead, IsWithinLimits, IsPhrase}
use Rattle.text_parser.specs.Folds.{fold}
use Rattle.text_parser.specs.Ends.{Ends}
use Rattle.text_parser.proofs.ParserSoundness.{bind_ok, changed_ok, term_found}
use Rattle.text_parser.proofs.ParserCompleteness.{changed, term_parsed}
use Rattle.text_parser.proofs.Longest.{longest}
use Rattle.text_parser.proofs.Scanned.{scanned}
use Rattle.while_lang.proofs.ScannedBlocks.{enters}
use Rattle.problem_file.specs.Phrases.{Numeral}
use Rattle.problem_file.proofs.ScannedFiles.{numeral_passes}
use Rattle.chain_proofs.specs.ChainWalks.{has_inner, Reason, whole_chain, parse_chain}
use Rattle.chain_proofs.specs.ChainScans.{scanned_term, scanning_chain, ends}
use Rattle.chain_proofs.specs.ChainPhrases.{rule_leaf, Parts, no_parts, more_parts, Place, no_place, at_place, RulePhrase, Lines, no_lines, plain_line, line_around, ChainPhrase, NumberFits, PartsFit, PlaceFits, RuleFits, LinesFit, IsChainPhrase}
use Rattle.chain_proofs.specs.ChainFolds.{fold_number, fold_parts, fold_place, fold_rule, TermFold, fold_lines, fold_chain}
use Rattle.chain_proofs.specs.Laws.{ChainsAreScanned}
use Rattle.chain_proofs.proofs.ChainSoundness.{chain_is}
use Rattle.chain_proofs.proofs.ChainCompleteness.{chain_read}

abbrev scan_fold : TermFold (Unit {0}) (Unit {0})
scan_fold d z p = fold scanning (context d false false) p (λ u. tt) >>= λ u. Ok (tt, tt)

term_is : (d : ℕ) (z : Unit {0}) (ts : List Lexeme) (y : (Unit {0} × Unit {0}) × List Lexeme) → scanned_term d ts ≡ Ok y → IsPhrase term d ts y.1
term_is d z ts y e =
    let k = changed_ok (λ (u : Unit {0}). (tt, tt)) (parse_term scanning choice (context d false false) ts) y.0 y.1 e in
    term_found scanning choice (context d false false) ts (k.0, y.1) k.1

reads : (d : ℕ) (z : Unit {0}) (p : Phrase term) (ts : List Lexeme) → MeetsLookahead p ts → Ends term ts → scanned_term d (yield_before p ts) ≡ before ts (scan_fold d z p)
reads d z p ts o last =
    rw (term_parsed scanning p (context d false false) ts o (longest p ts last)) (changed ts (λ (u : Unit {0}). (tt, tt)) (fold scanning (context d false false) p (λ u. tt)))

-- ---- the test refuses nothing if nothing is too deep or too wide

number_passes : (n : Option Numeral) → NumberFits n → (v : ℕ) × (fold_number n ≡ Ok v)
number_passes None fits = (0, refl)
number_passes (Some n) fits = numeral_passes n fits

parts_pass : (ps : Parts) → PartsFit ps → fold_parts scanning_chain tt ps ≡ Ok tt
parts_pass no_parts fit = refl
parts_pass (more_parts dot n ps) fit = rw ((numeral_passes n fit.0).1) (parts_pass ps fit.1)

place_passes : (x : Place) → PlaceFits x → fold_place scanning_chain x ≡ Ok tt
place_passes no_place fits = refl
place_passes (at_place l n ps) fits = rw ((numeral_passes n fits.0).1) (parts_pass ps fits.1)

abbrev scan_reason : RulePhrase → Reason (Unit {0}) (Unit {0})
scan_reason r = record { rule = tt; path = tt; inner = has_inner (rule_leaf r.name).text }

rule_passes : (r : RulePhrase) → RuleFits r → fold_rule scanning_chain r ≡ Ok (scan_reason r)
rule_passes r fits = rw ((number_passes r.number fits.0).1, place_passes r.place fits.1) refl

lines_pass : (ls : Lines) (d : ℕ) → LinesFit d ls → (v z : Unit {0}) → fold_lines scanning_chain scan_fold d v z ls ≡ Ok (tt, tt)
lines_pass no_lines d fit v z = refl
lines_pass (plain_line equals p by r end rest) d fit v z =
    rw (scanned p (context d false false) fit.0 (λ u. tt), rule_passes r fit.1) (lines_pass rest d fit.2 tt tt)
lines_pass (line_around equals p by r opening first inner closing end rest) d fit v z =
    rw (scanned p (context d false false) fit.0 (λ u. tt), rule_passes r fit.1, enters d opening.at fit.2, scanned first (context (d + 1) false false) fit.3 (λ u. tt), lines_pass inner (d + 1) fit.4 tt tt) (lines_pass rest d fit.5 tt tt)

chain_passes : (p : ChainPhrase) (d : ℕ) → IsWithinLimits d p.first → LinesFit d p.lines → fold_chain scanning_chain scan_fold d tt p ≡ Ok (tt, tt)
chain_passes p d first fit = rw (scanned p.first (context d false false) first (λ u. tt)) (lines_pass p.lines d fit tt tt)

-- ---- the law

ends_ok : (ts : List Lexeme) → ends ts ≡ Ok tt → ts ≡ []
ends_ok [] e = refl
ends_ok (lexeme s at text ∷ ts) e = absurd cc

pub chains_are_scanned : ChainsAreScanned
chains_are_scanned ts = (
  (λ e.
      let a = bind_ok (parse_chain scanning_chain (whole_chain tt) 0 ts) (λ x. ends x.1) tt e in
      subst (IsChainPhrase 0 ts) (ends_ok (a.0).1 a.2) (chain_is scanning_chain term_is (whole_chain tt) 0 ts a.0 a.1)),
  (λ i.
      let read : parse_chain scanning_chain (whole_chain tt) 0 ts ≡ before [] (fold_chain scanning_chain scan_fold 0 tt i.phrase) =
      ap (λ (us : List Lexeme). parse_chain scanning_chain (whole_chain tt) 0 us) i.spelled ∙ chain_read scanning_chain scan_fold reads i.phrase 0 tt [] refl refl i.first_obeys i.obey in
      rw (read, chain_passes i.phrase 0 i.first_fits i.fit) refl),
)
