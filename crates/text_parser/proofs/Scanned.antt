-- The syntax check accepts exactly the phrases of the grammar.
use Rattle.std.proofs.Common.{◌≡◌, ℕ, ◌+◌, ◌<◌, List, [], true, false, Result, Ok, Err, refl, ap, ◌∙◌}
use Rattle.std.proofs.lemmas.Bool.{lt-ltb}
use Rattle.kat_model.specs.declared.limits.TheConstants.{MAX_OPEN}
use Rattle.text_parser.specs.declared.fault.TextFault.{TextFault}
use Rattle.text_parser.specs.declared.reading.Context.{Context}
use Rattle.text_parser.specs.Lexemes.{Lexeme}
use Rattle.text_parser.specs.Parsed.{Parsed, ◌>>=◌}
use Rattle.text_parser.specs.Actions.{context, enter, enter_not}
use Rattle.text_parser.specs.Exprs.{parse_expr, sums}
use Rattle.text_parser.specs.Conds.{parse_cond, disjunction}
use Rattle.text_parser.specs.Terms.{parse_term, choice}
use Rattle.text_parser.specs.Phrases.{Symbol, term, prod, star, unit, cond, conj, lit, expr, mul, fac, Phrase, one_prod, more_prods, one_star, more_stars, bare, starred, zero_unit, one_unit, name_unit, not_unit, square_unit, round_unit, one_conj, more_conjs, one_lit, more_lits, true_lit, false_lit, name_lit, not_lit, round_lit, relation_lit, one_mul, more_muls, one_fac, more_facs, zero_fac, one_fac_number, number_fac, wide_fac, name_fac, round_fac, IsWithinLimits}
use Rattle.text_parser.specs.Folds.{Folded, fold}
use Rattle.text_parser.specs.Scans.{scanning_exprs, scanning_conds, scanning, scan_term, scan_cond, scan_expr, TakesPhrases}
use Rattle.text_parser.proofs.ParserSoundness.{expr_found, cond_found, term_found}
use Rattle.text_parser.proofs.ParserCompleteness.{term_parsed, cond_parsed, expr_parsed}

abbrev Scans : (x : Symbol) → Folded (Unit {0}) (Unit {0}) (Unit {0}) (Unit {0}) (Unit {0}) x → Type 0
Scans term v = (k : Unit {0} → Unit {0}) → v k ≡ Ok tt
Scans prod v = (k : Unit {0} → Unit {0}) → v k ≡ Ok tt
Scans star v = v ≡ Ok tt
Scans unit v = v ≡ Ok tt
Scans cond v = (k : Unit {0} → Unit {0}) → v k ≡ Ok tt
Scans conj v = (k : Unit {0} → Unit {0}) → v k ≡ Ok tt
Scans lit v = v ≡ Ok tt
Scans expr v = (k : Unit {0} → Unit {0}) → v k ≡ Ok tt
Scans mul v = (k : Unit {0} → Unit {0}) → v k ≡ Ok tt
Scans fac v = v ≡ Ok tt

enters : (c : Context) (at : ℕ) → c.depth < MAX_OPEN → enter c at ≡ Ok (context (c.depth + 1) c.negated c.compares)
enters c at lt = rw (lt-ltb c.depth MAX_OPEN lt) refl

enters_not : (c : Context) (at : ℕ) → c.depth < MAX_OPEN → enter_not c at ≡ Ok (context (c.depth + 1) true c.compares)
enters_not c at lt = rw (lt-ltb c.depth MAX_OPEN lt) refl

-- a phrase within the limits on depth and numbers has no fault
pub scanned : {x : Symbol} (p : Phrase x) (c : Context) → IsWithinLimits c.depth p → Scans x (fold scanning c p)
scanned (one_prod p) c f = λ k. rw (scanned p c f (λ t. tt)) refl
scanned (more_prods p l t) c f = λ k. rw (scanned p c f.0 (λ t. tt)) (scanned t c f.1 (λ t. tt))
scanned (one_star s) c f = λ k. rw (scanned s c f) refl
scanned (more_stars s l p) c f = λ k. rw (scanned s c f.0) (scanned p c f.1 (λ t. tt))
scanned (bare u) c f = scanned u c f
scanned (starred u l) c f = rw (scanned u c f) refl
scanned (zero_unit l) c f = refl
scanned (one_unit l) c f = refl
scanned (name_unit l) c f = refl
scanned (not_unit l u) c f = rw (enters_not c l.at f.0, scanned u (context (c.depth + 1) true c.compares) f.1) refl
scanned (square_unit l b r) c f = rw (enters c l.at f.0, scanned b (context (c.depth + 1) c.negated c.compares) f.1 (λ t. tt)) refl
scanned (round_unit l t r) c f = rw (enters c l.at f.0, scanned t (context (c.depth + 1) c.negated c.compares) f.1 (λ t. tt)) refl
scanned (one_conj b) c f = λ k. rw (scanned b c f (λ t. tt)) refl
scanned (more_conjs b l d) c f = λ k. rw (scanned b c f.0 (λ t. tt)) (scanned d c f.1 (λ t. tt))
scanned (one_lit x) c f = λ k. rw (scanned x c f) refl
scanned (more_lits x l b) c f = λ k. rw (scanned x c f.0) (scanned b c f.1 (λ t. tt))
scanned (true_lit l) c f = refl
scanned (false_lit l) c f = refl
scanned (name_lit l) c f = refl
scanned (not_lit l x) c f = rw (enters_not c l.at f.0, scanned x (context (c.depth + 1) true c.compares) f.1) refl
scanned (round_lit l b r) c f = rw (enters c l.at f.0, scanned b (context (c.depth + 1) c.negated c.compares) f.1 (λ t. tt)) refl
scanned (relation_lit e l r g) c f = rw (scanned e c f.0 (λ t. t), scanned g c f.1 (λ t. t)) refl
scanned (one_mul m) c f = λ k. rw (scanned m c f (λ t. t)) refl
scanned (more_muls m l minus e) c f = λ k. rw (scanned m c f.0 (λ t. t)) (scanned e c f.1 (λ t. tt))
scanned (one_fac x) c f = λ k. rw (scanned x c f) refl
scanned (more_facs x l m) c f = λ k. rw (scanned x c f.0) (scanned m c f.1 (λ t. tt))
scanned (zero_fac l) c f = refl
scanned (one_fac_number l) c f = refl
scanned (number_fac l n) c f = refl
scanned (wide_fac l) c f = absurd f
scanned (name_fac l) c f = refl
scanned (round_fac l e r) c f = rw (enters c l.at f.0, scanned e (context (c.depth + 1) c.negated c.compares) f.1 (λ t. t)) refl

abbrev end_of : Result (List Lexeme) TextFault → List Lexeme
end_of (Ok ts) = ts
end_of (Err e) = []

pub ended : (m : Parsed (Unit {0})) (rest : List Lexeme) → (m >>= λ x. Ok x.1) ≡ Ok rest → m ≡ Ok (tt, rest)
ended (Ok x) rest e = let same : x.1 ≡ rest = ap end_of e in ap (λ t. Ok (tt, t)) same
ended (Err f) rest e = absurd cc

pub terms_taken : TakesPhrases term scan_term
terms_taken d ts rest = (
  (λ e. term_found scanning choice (context d false true) ts (tt, rest) (ended _ rest e)),
  (λ i. let c = context d false true in rw (ap (parse_term scanning choice c) i.spelled ∙ term_parsed scanning i.phrase c rest i.obeys i.longest, scanned i.phrase c i.fits (λ t. tt)) refl),
)

pub conds_taken : TakesPhrases cond scan_cond
conds_taken d ts rest = (
  (λ e. cond_found scanning_conds disjunction (context d false true) ts (tt, rest) (ended _ rest e)),
  (λ i. let c = context d false true in rw (ap (parse_cond scanning_conds disjunction c) i.spelled ∙ cond_parsed scanning i.phrase c rest i.obeys i.longest, scanned i.phrase c i.fits (λ t. tt)) refl),
)

pub exprs_taken : TakesPhrases expr scan_expr
exprs_taken d ts rest = (
  (λ e. expr_found scanning_exprs sums (context d false true) ts (tt, rest) (ended _ rest e)),
  (λ i. let c = context d false true in rw (ap (parse_expr scanning_exprs sums c) i.spelled ∙ expr_parsed scanning i.phrase c rest i.obeys i.longest, scanned i.phrase c i.fits (λ t. t)) refl),
)
