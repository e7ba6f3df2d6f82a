-- The parentheses of a phrase match, so the search for a matching one passes over the phrase.
use Rattle.std.proofs.Common.{◌≡◌, ◌≤◌, ◌<◌, ◌+◌, ◌^◌, ℕ, zero, suc, List, ◌∷◌, length, Bool, true, false, nat_eq, refl, ◌∙◌, arith}
use Rattle.std.proofs.lemmas.Option.{slice_get_within}
use Rattle.std.specs.Prelude.{codes}
use Rattle.kat_model.specs.declared.expression.Rel.{Rel}
use Rattle.kat_model.specs.declared.expression.Rel.TheVariants.{Eq, Ne, Lt, Le, Gt, Ge}
use Rattle.kat_model.specs.declared.expression.Width.{Width}
use Rattle.kat_model.specs.declared.expression.Width.TheVariants.{W8, W16, W32, W64}
use Rattle.text_parser.specs.declared.token.Kind.{Kind}
use Rattle.text_parser.specs.declared.token.Kind.TheVariants.{Name, Number, Symbol}
use Rattle.text_parser.specs.Pieces.{Piece, lexeme, symbol, gap}
use Rattle.text_print.specs.Printing.{relation_text}
use Rattle.flow_model.specs.declared.sort.Sort.{Sort}
use Rattle.flow_model.specs.declared.sort.Sort.TheVariants.{Number as NumberSort}
use Rattle.flow_model.specs.Expressions.{ExprTree, number, variable, plus, minus, times, converted, applied, no_arguments, argument}
use Rattle.flow_model.specs.Conditions.{CondTree, always, never, compared, compared_signed, negation, both, either}
use Rattle.flow_syntax.specs.declared.rule.TheConstants.{NUMBER, OPEN_ROUND, CLOSE_ROUND}
use Rattle.flow_syntax.specs.declared.terminal.TheConstants.{NAME, TRUE, FALSE, COMMA, PLUS, MINUS, STAR, AND, OR, BANG, SLT, SLE, SGT, SGE, EQ}
use Rattle.flow_syntax.specs.Rules.{index_after_matching}
use Rattle.flow_plain.specs.PlainGraphs.{Declared, conversion_text, signed_text}
use Rattle.flow_plain.specs.PrintableGraphs.{Wanted, one_of, all_of, HasSorts, AreSides, HasSides}
use Rattle.flow_plain.proofs.Steps.{marks_at, IsWord}
use Rattle.flow_plain.proofs.PlainWords.{keyword, mark, conversion_terminal, conversion_word, relation_number, relation_word, variable_word, function_word, number_word}
use Rattle.flow_plain.proofs.PlainPieces.{comma_pieces, spaced_pieces, expr_pieces, comma_end, expr_end, cond_pieces, cond_end}
use Rattle.flow_plain.proofs.ExprReads.{comma_word, modulus_small}

-- the search passes over the pieces from a place to `end` of the place
abbrev pub Skips : (List Piece → List Piece) → (ℕ → ℕ) → Type 0
Skips pieces end = (n at : ℕ) (ps : List Piece) → index_after_matching n (marks_at at (pieces ps)) ≡ index_after_matching n (marks_at (end at) ps)

-- the terminal of no parenthesis
abbrev pub IsFlat : ℕ → Type 0
IsFlat k = (nat_eq k OPEN_ROUND ≡ false) × (nat_eq k CLOSE_ROUND ≡ false)

pub word_skips : (kind : Kind) (bytes : List ℕ) (k : ℕ) → IsWord kind bytes k → IsFlat k → Skips (λ ps. lexeme kind bytes ∷ ps) (λ at. at + length bytes)
word_skips kind bytes k w flat zero at ps = rw (w.terminal, flat.0, flat.1) refl
word_skips kind bytes k w flat (suc n) at ps = rw (w.terminal, flat.0, flat.1) refl

open_deeper : (n at : ℕ) (ps : List Piece) → index_after_matching n (marks_at at (symbol (codes "(") ∷ ps)) ≡ index_after_matching (suc n) (marks_at (at + 1) ps)
open_deeper zero at ps = refl
open_deeper (suc n) at ps = refl

abbrev pub spaced_inside : List ℕ → (List Piece → List Piece) → (List Piece → List Piece) → List Piece → List Piece
spaced_inside between left right ps = left (gap 32 ∷ symbol between ∷ gap 32 ∷ right ps)

abbrev pub spaced_stop : List ℕ → (ℕ → ℕ) → (ℕ → ℕ) → ℕ → ℕ
spaced_stop between l r at = r (l at + 1 + length between + 1)

module _ (between : List ℕ) (k : ℕ) (w : IsWord Symbol between k) (flat : IsFlat k) (left right : List Piece → List Piece) (l r : ℕ → ℕ) (first : Skips left l) (second : Skips right r) where
  inside_skips : Skips (spaced_inside between left right) (spaced_stop between l r)
  inside_skips n at ps =
      first n at (gap 32 ∷ symbol between ∷ gap 32 ∷ right ps)
      ∙ word_skips Symbol between k w flat n (l at + 1) (gap 32 ∷ right ps)
      ∙ second n (l at + 1 + length between + 1) ps

  pub spaced_skips : Skips (spaced_pieces between left right) (λ at. spaced_stop between l r (at + 1) + 1)
  spaced_skips n at ps = open_deeper n at (spaced_inside between left right (symbol (codes ")") ∷ ps)) ∙ inside_skips (suc n) (at + 1) (symbol (codes ")") ∷ ps)

  -- the tokens after the parenthesis that matches the first one
  pub spaced_matched : (at : ℕ) (ps : List Piece) → index_after_matching 0 (marks_at at (spaced_inside between left right (symbol (codes ")") ∷ ps))) ≡ marks_at (spaced_stop between l r at + 1) ps
  spaced_matched at ps = inside_skips 0 at (symbol (codes ")") ∷ ps)

-- ---- expressions

enclosed_skips : (bytes : List ℕ) (k : ℕ) → IsWord Name bytes k → IsFlat k → (pieces : List Piece → List Piece) (end : ℕ → ℕ) → Skips pieces end → Skips (λ ps. lexeme Name bytes ∷ symbol (codes "(") ∷ pieces (symbol (codes ")") ∷ ps)) (λ at. end (at + length bytes + 1) + 1)
enclosed_skips bytes k w flat pieces end inner n at ps =
    word_skips Name bytes k w flat n at (symbol (codes "(") ∷ pieces (symbol (codes ")") ∷ ps))
    ∙ open_deeper n (at + length bytes) (pieces (symbol (codes ")") ∷ ps))
    ∙ inner (suc n) (at + length bytes + 1) (symbol (codes ")") ∷ ps)

comma_skip : (n at : ℕ) (ps : List Piece) → index_after_matching n (marks_at at (symbol (codes ",") ∷ gap 32 ∷ ps)) ≡ index_after_matching n (marks_at (at + 1 + 1) ps)
comma_skip n at ps = word_skips Symbol (codes ",") COMMA comma_word (refl, refl) n at (gap 32 ∷ ps)

comma_skips : (e : ExprTree) → Skips (comma_pieces e) (comma_end e)
comma_skips no_arguments n at ps = refl
comma_skips (argument e rest) n at ps = comma_skip n at ps
comma_skips (number w k) n at ps = comma_skip n at ps
comma_skips (variable k) n at ps = comma_skip n at ps
comma_skips (plus w e f) n at ps = comma_skip n at ps
comma_skips (minus w e f) n at ps = comma_skip n at ps
comma_skips (times w e f) n at ps = comma_skip n at ps
comma_skips (converted signed from to e) n at ps = comma_skip n at ps
comma_skips (applied f result args) n at ps = comma_skip n at ps

conversion_flat : (signed : Bool) (w : Width) → IsFlat (conversion_terminal signed w)
conversion_flat false W8 = (refl, refl)
conversion_flat false W16 = (refl, refl)
conversion_flat false W32 = (refl, refl)
conversion_flat false W64 = (refl, refl)
conversion_flat true W8 = (refl, refl)
conversion_flat true W16 = (refl, refl)
conversion_flat true W32 = (refl, refl)
conversion_flat true W64 = (refl, refl)

pub relation_flat : (r : Rel) → IsFlat (relation_number r)
relation_flat Eq = (refl, refl)
relation_flat Ne = (refl, refl)
relation_flat Lt = (refl, refl)
relation_flat Le = (refl, refl)
relation_flat Gt = (refl, refl)
relation_flat Ge = (refl, refl)

pub plus_word : IsWord Symbol (codes "+") PLUS
plus_word = mark (codes "+") PLUS refl refl refl refl

pub minus_word : IsWord Symbol (codes "-") MINUS
minus_word = mark (codes "-") MINUS refl refl refl refl

pub star_word : IsWord Symbol (codes "*") STAR
star_word = mark (codes "*") STAR refl refl refl refl

pub and_word : IsWord Symbol (codes "&&") AND
and_word = mark (codes "&&") AND refl refl refl refl

pub or_word : IsWord Symbol (codes "||") OR
or_word = mark (codes "||") OR refl refl refl refl

pub bang_word : IsWord Symbol (codes "!") BANG
bang_word = mark (codes "!") BANG refl refl refl refl

pub true_word : IsWord Name (codes "true") TRUE
true_word = keyword (codes "true") TRUE refl refl refl refl

pub false_word : IsWord Name (codes "false") FALSE
false_word = keyword (codes "false") FALSE refl refl refl refl

abbrev pub signed_number : Rel → ℕ
signed_number Eq = EQ
signed_number Ne = EQ
signed_number Lt = SLT
signed_number Le = SLE
signed_number Gt = SGT
signed_number Ge = SGE

pub signed_word : (r : Rel) → (r ≡ Eq → ⊥) → (r ≡ Ne → ⊥) → IsWord Name (signed_text r) (signed_number r)
signed_word Eq a b = absurd (a refl)
signed_word Ne a b = absurd (b refl)
signed_word Lt a b = keyword (codes "slt") SLT refl refl refl refl
signed_word Le a b = keyword (codes "sle") SLE refl refl refl refl
signed_word Gt a b = keyword (codes "sgt") SGT refl refl refl refl
signed_word Ge a b = keyword (codes "sge") SGE refl refl refl refl

signed_flat : (r : Rel) → IsFlat (signed_number r)
signed_flat Eq = (refl, refl)
signed_flat Ne = (refl, refl)
signed_flat Lt = (refl, refl)
signed_flat Le = (refl, refl)
signed_flat Gt = (refl, refl)
signed_flat Ge = (refl, refl)

module _ (d : Declared) (sorts : List Sort) (few : length sorts ≤ 2 ^ 64) (small : length d.functions ≤ 2 ^ 64) where
  pub expr_skips : (e : ExprTree) (w : Wanted) → HasSorts d sorts w e → Skips (expr_pieces e) (expr_end e)
  expr_skips (number v k) w h =
      let low : k < 2 ^ 64 = omega (arith, h.1, modulus_small v) in word_skips Number _ NUMBER (number_word k low) (refl, refl)
  expr_skips (variable k) w h = word_skips Name _ NAME (variable_word k (omega (arith, slice_get_within sorts k h.0 h.2, few))) (refl, refl)
  expr_skips (plus v e f) w h = spaced_skips (codes "+") PLUS plus_word (refl, refl) (expr_pieces e) (expr_pieces f) (expr_end e) (expr_end f) (expr_skips e w h.1) (expr_skips f w h.2)
  expr_skips (minus v e f) w h = spaced_skips (codes "-") MINUS minus_word (refl, refl) (expr_pieces e) (expr_pieces f) (expr_end e) (expr_end f) (expr_skips e w h.1) (expr_skips f w h.2)
  expr_skips (times v e f) w h = spaced_skips (codes "*") STAR star_word (refl, refl) (expr_pieces e) (expr_pieces f) (expr_end e) (expr_end f) (expr_skips e w h.1) (expr_skips f w h.2)
  expr_skips (converted signed from to e) w h = enclosed_skips (conversion_text signed to) (conversion_terminal signed to) (conversion_word signed to) (conversion_flat signed to) (expr_pieces e) (expr_end e) (expr_skips e (one_of (NumberSort from)) h.1)
  expr_skips (applied f result args) w h = enclosed_skips _ NAME (function_word f (omega (arith, slice_get_within d.functions f _ h.2, small))) (refl, refl) (expr_pieces args) (expr_end args) (expr_skips args (all_of h.0) h.3)
  expr_skips no_arguments w h = λ n at ps. refl
  expr_skips (argument e rest) w h = λ n at ps.
      expr_skips e (one_of h.0) h.3 n at (comma_pieces rest (expr_pieces rest ps)) ∙ comma_skips rest n (expr_end e at) (expr_pieces rest ps)
      ∙ expr_skips rest (all_of h.1) h.4 n (comma_end rest (expr_end e at)) ps

  sides_skip : (rel : Rel) (e f : ExprTree) (s : Sort) → AreSides d sorts s e f → Skips (spaced_pieces (relation_text rel) (expr_pieces e) (expr_pieces f)) (cond_end (compared rel e f))
  sides_skip rel e f s h = spaced_skips (relation_text rel) (relation_number rel) (relation_word rel) (relation_flat rel) (expr_pieces e) (expr_pieces f) (expr_end e) (expr_end f) (expr_skips e (one_of s) h.1) (expr_skips f (one_of s) h.2)

  pub cond_skips : (b : CondTree) → HasSides d sorts b → Skips (cond_pieces b) (cond_end b)
  cond_skips always h = word_skips Name (codes "true") TRUE true_word (refl, refl)
  cond_skips never h = word_skips Name (codes "false") FALSE false_word (refl, refl)
  cond_skips (compared rel e f) h = sides_skip rel e f h.0 h.1
  cond_skips (compared_signed rel w e f) h = λ n at ps.
      let inner = expr_pieces e (symbol (codes ",") ∷ gap 32 ∷ expr_pieces f (symbol (codes ")") ∷ ps)) in
      let begin = at + length (signed_text rel) in
      word_skips Name (signed_text rel) (signed_number rel) (signed_word rel h.1 h.2) (signed_flat rel) n at (symbol (codes "(") ∷ inner) ∙ open_deeper n begin inner
      ∙ expr_skips e (one_of (NumberSort w)) h.0.1 (suc n) (begin + 1) (symbol (codes ",") ∷ gap 32 ∷ expr_pieces f (symbol (codes ")") ∷ ps))
      ∙ comma_skip (suc n) (expr_end e (begin + 1)) (expr_pieces f (symbol (codes ")") ∷ ps))
      ∙ expr_skips f (one_of (NumberSort w)) h.0.2 (suc n) (expr_end e (begin + 1) + 1 + 1) (symbol (codes ")") ∷ ps)
  cond_skips (negation b) h = λ n at ps. word_skips Symbol (codes "!") BANG bang_word (refl, refl) n at (cond_pieces b ps) ∙ cond_skips b h n (at + 1) ps
  cond_skips (both b c) h = spaced_skips (codes "&&") AND and_word (refl, refl) (cond_pieces b) (cond_pieces c) (cond_end b) (cond_end c) (cond_skips b h.0) (cond_skips c h.1)
  cond_skips (either b c) h = spaced_skips (codes "||") OR or_word (refl, refl) (cond_pieces b) (cond_pieces c) (cond_end b) (cond_end c) (cond_skips b h.0) (cond_skips c h.1)
