-- The result for the tokens of items is the result of the items.
use Rattle.std.proofs.Common.{◌≡◌, ℕ, List, false, Result, Ok, Err, refl}
use Rattle.kat_model.specs.Expressions.{CondTree, test_without_comparisons}
use Rattle.text_parser.specs.declared.fault.TextFault.{TextFault}
use Rattle.text_parser.specs.Lexemes.{Lexeme}
use Rattle.text_parser.specs.Parsed.{◌>>=◌, before, change}
use Rattle.text_parser.specs.Actions.{context}
use Rattle.text_parser.specs.Phrases.{cond, Phrase, yield_before, MeetsLookahead}
use Rattle.text_parser.specs.Folds.{fold}
use Rattle.text_parser.specs.Ends.{Ends}
use Rattle.text_parser.proofs.ParserCompleteness.{cond_parsed}
use Rattle.text_parser.proofs.Longest.{longest}
use Rattle.text_parser.specs.declared.extent.Extent.{Extent}
use Rattle.text_parser.specs.ScopeParts.{ScopeParts}
use Rattle.text_parser.specs.Measuring.{extents}
use Rattle.text_parser.specs.Building.{trees}
use Rattle.gkat_front.specs.GkatWalks.{whole, parse_gkat}
use Rattle.gkat_front.specs.GkatMaking.{guard_at, making_expr}
use Rattle.gkat_front.specs.GkatPhrases.{expr, GkatPhrase, gkat_onto, GkatObeys}
use Rattle.gkat_front.specs.GkatFolds.{cond_fold, gkat_of}
use Rattle.gkat_front.specs.Files.{GkatState, start}
use Rattle.gkat_front.specs.Making.{making}
use Rattle.gkat_front.specs.Laws.{TextsAreMade}
use Rattle.gkat_front.proofs.GkatCompleteness.{Stops, gkat_read}
use Rattle.gkat_front.proofs.FileCompleteness.{items_folded}

-- measuring a condition and then building it
measured_same : (ts : List Lexeme) (m : Result Extent TextFault) (b : Result CondTree TextFault) →
    (before ts m >>= λ x. change test_without_comparisons (before ts b)) ≡ before ts (m >>= λ x. b >>= λ y. Ok (test_without_comparisons y))
measured_same ts (Ok x) (Ok y) = refl
measured_same ts (Ok x) (Err e) = refl
measured_same ts (Err e) b = refl

cond_reads : (w : ScopeParts) (d : ℕ) (p : Phrase cond) (ts : List Lexeme) → MeetsLookahead p ts → Ends cond ts → guard_at w d (yield_before p ts) ≡ before ts (cond_fold w d p)
cond_reads w d p ts o last =
    let c = context d false false in
    rw (cond_parsed (extents w) p c ts o (longest p ts last), cond_parsed (trees w) p c ts o (longest p ts last))
    (measured_same ts (fold (extents w) c p ((extents w).conds).one_of) (fold (trees w) c p ((trees w).conds).one_of))

expr_reads : (s : GkatState) (p : GkatPhrase expr) (ts : List Lexeme) → GkatObeys p ts → Stops expr ts → parse_gkat (making_expr s.world) whole 0 (gkat_onto p ts) ≡ before ts (gkat_of s.world p)
expr_reads s p ts o stops = gkat_read (making_expr s.world) (cond_fold s.world) (cond_reads s.world) p 0 ts o stops

pub texts_are_made : TextsAreMade
texts_are_made items o = items_folded making (λ s p. gkat_of s.world p) expr_reads start items o
