-- A printed expression is a factor with the same tree.
use Rattle.std.proofs.Common.{◌≡◌, ◌<◌, ◌≤◌, ◌+◌, ◌^◌, ℕ, max, List, ◌∷◌, length, Bool, true, false, Ok, refl, sym, ap, ◌∙◌, subst, inl, inr, arith}
use Rattle.std.proofs.lemmas.Bool.{cases_eq}
use Rattle.std.specs.Prelude.{codes}
use Rattle.std.specs.Fmt.{decimal}
use Rattle.kat_model.specs.declared.limits.TheConstants.{MAX_OPEN}
use Rattle.kat_model.specs.Expressions.{ExprTree, number, variable, plus, minus, times}
use Rattle.text_parser.specs.Pieces.{Piece, word, numeral, symbol}
use Rattle.text_parser.specs.declared.terminal.Terminal.{Terminal}
use Rattle.text_parser.specs.declared.terminal.Terminal.TheVariants.{Zero, One, Number}
use Rattle.text_parser.specs.declared.reading.Context.{Context}
use Rattle.text_parser.specs.Terminals.{number_terminal}
use Rattle.text_parser.specs.Lexemes.{Lexeme, lexeme}
use Rattle.text_parser.specs.Phrases.{fac, Leaf, Phrase, one_mul, more_muls, one_fac, more_facs, zero_fac, one_fac_number, number_fac, name_fac, round_fac, yield_before, MeetsLookahead, IsWithinLimits}
use Rattle.text_parser.specs.Folds.{operator_of, fold}
use Rattle.text_parser.specs.declared.meaning.Meaning.{Meaning}
use Rattle.text_parser.specs.declared.meaning.Meaning.TheVariants.{Var}
use Rattle.text_parser.specs.ScopeParts.{ScopeParts, IsNameOf}
use Rattle.text_parser.specs.Building.{joined, variable_tree, trees}
use Rattle.text_parser.specs.Sound.{inside, IsExprName, IsSound, nesting}
use Rattle.text_print.specs.Printing.{expr_pieces, ExprIsNamed, expr_nesting}
use Rattle.text_print.proofs.WordTerminals.{name_terminal, zero_written, one_written, number_is}
use Rattle.text_print.proofs.PrintedPhrases.{lexemes_from, leaf, Begins, enters, after_left, spaced_spelled, spaced_obeys}

module _ (w : ScopeParts) where
  -- the phrase has tree `e` and the nesting of its text
  pub record IsExprOf (e : ExprTree) (p : Phrase fac) : Type 0 where
    pub tree : (c : Context) → c.depth + expr_nesting e ≤ MAX_OPEN → fold (trees w) c p ≡ Ok e
    pub sound : (c : Context) → c.compares ≡ true → IsSound w c p
    pub fits : (d : ℕ) → d + expr_nesting e ≤ MAX_OPEN → IsWithinLimits d p
    pub deep : nesting w p ≡ expr_nesting e

  number_phrase : (n at : ℕ) (text : List ℕ) (ps : List Piece) (s : Terminal) (p : Phrase fac) → number_terminal text ≡ s → ((ts : List Lexeme) → yield_before p ts ≡ lexeme s at text ∷ ts) → ((ts : List Lexeme) → MeetsLookahead p ts) → IsExprOf (number n) p → Begins fac (IsExprOf (number n)) at (numeral text ∷ ps) ps
  number_phrase n at text ps s p is spelled obeys holds = record {
    phrase = p;
    end = at + length text;
    spelled = ap (λ (v : Terminal). lexeme v at text ∷ lexemes_from (at + length text) ps) is ∙ sym (spelled (lexemes_from (at + length text) ps));
    obeys = obeys (lexemes_from (at + length text) ps);
    holds = holds;
  }

  number_back : (n at : ℕ) (ps : List Piece) → n < 2 ^ 64 → Begins fac (IsExprOf (number n)) at (numeral (decimal n) ∷ ps) ps
  number_back n at ps lt =
      elim (cases_eq n 0) [
        | inl e ↦ number_phrase n at (decimal n) ps Zero (zero_fac (leaf at (decimal n))) (ap number_terminal (ap decimal e ∙ zero_written)) (λ ts. refl) (λ ts. tt) (record { tree = λ c le. ap (λ (k : ℕ). Ok (number k)) (sym e); sound = λ c h. h; fits = λ d le. tt; deep = refl })
        | inr some ↦ elim (cases_eq n 1) [
          | inl e ↦ number_phrase n at (decimal n) ps One (one_fac_number (leaf at (decimal n))) (ap number_terminal (ap decimal e ∙ one_written)) (λ ts. refl) (λ ts. tt) (record { tree = λ c le. ap (λ (k : ℕ). Ok (number k)) (sym e); sound = λ c h. h; fits = λ d le. tt; deep = refl })
          | inr more ↦ number_phrase n at (decimal n) ps (Number n) (number_fac (leaf at (decimal n)) n) (number_is n lt some more) (λ ts. refl) (λ ts. tt) (record { tree = λ c le. refl; sound = λ c h. h; fits = λ d le. tt; deep = refl })
        ]
      ]

  variable_back : (name : List ℕ) (k at : ℕ) (ps : List Piece) → IsNameOf w name (Var k) → Begins fac (IsExprOf (variable k)) at (word name ∷ ps) ps
  variable_back name k at ps is = record {
    phrase = name_fac (leaf at name);
    end = at + length name;
    spelled = ap (λ (s : Terminal). lexeme s at name ∷ lexemes_from (at + length name) ps) (name_terminal name is.identifier.no_keyword);
    obeys = tt;
    holds = record {
      tree = λ c le. ap (λ o. Ok (variable_tree o)) is.means;
      sound = λ c h. (h, subst IsExprName (sym is.means) tt);
      fits = λ d le. tt;
      deep = refl;
    };
  }

  sum_holds : (negative : Bool) (e f s : ExprTree) (p q : Phrase fac) (l m r : Leaf) → joined (operator_of negative) e f ≡ s → expr_nesting s ≡ max (expr_nesting e) (expr_nesting f) + 1 → IsExprOf e p → IsExprOf f q → IsExprOf s (round_fac l (more_muls (one_fac p) m negative (one_mul (one_fac q))) r)
  sum_holds negative e f s p q l m r same deep h k = record {
    tree = λ c le.
        let lt : c.depth < MAX_OPEN = omega arith in
        let left = h.tree (inside c) (omega arith) in
        let right = k.tree (inside c) (omega arith) in
        rw (enters c l.at lt, left, right) (ap Ok same);
    sound = λ c g. (h.sound (inside c) g, k.sound (inside c) g);
    fits = λ d le. (omega arith, (h.fits (d + 1) (omega arith), k.fits (d + 1) (omega arith)));
    deep = let a = h.deep in let b = k.deep in omega (arith, a, b, deep);
  }

  times_holds : (e f : ExprTree) (p q : Phrase fac) (l m r : Leaf) → IsExprOf e p → IsExprOf f q → IsExprOf (times e f) (round_fac l (one_mul (more_facs p m (one_fac q))) r)
  times_holds e f p q l m r h k = record {
    tree = λ c le.
        let lt : c.depth < MAX_OPEN = omega arith in
        let left = h.tree (inside c) (omega arith) in
        let right = k.tree (inside c) (omega arith) in
        rw (enters c l.at lt, left, right) refl;
    sound = λ c g. (h.sound (inside c) g, k.sound (inside c) g);
    fits = λ d le. (omega arith, (h.fits (d + 1) (omega arith), k.fits (d + 1) (omega arith)));
    deep = let a = h.deep in let b = k.deep in omega (arith, a, b);
  }

  module _ (names : Meaning → List ℕ) where
    -- the pieces of an expression begin with a phrase of its tree
    pub expr_back : (e : ExprTree) → ExprIsNamed w names e → (at : ℕ) (ps : List Piece) → Begins fac (IsExprOf e) at (expr_pieces names e ps) ps
    expr_back (number n) is at ps = number_back n at ps is
    expr_back (variable k) is at ps = variable_back (names (Var k)) k at ps is
    expr_back (plus e f) is at ps =
        let a = expr_back e is.0 (at + 1) (after_left (codes "+") (expr_pieces names f) ps) in
        let b = expr_back f is.1 (a.end + 1 + length (codes "+") + 1) (symbol (codes ")") ∷ ps) in
        record {
          phrase = round_fac (leaf at (codes "(")) (more_muls (one_fac a.phrase) (leaf (a.end + 1) (codes "+")) false (one_mul (one_fac b.phrase))) (leaf b.end (codes ")"));
          end = b.end + 1;
          spelled = spaced_spelled fac fac (IsExprOf e) (IsExprOf f) (codes "+") (expr_pieces names e) (expr_pieces names f) at ps a b;
          obeys = (spaced_obeys fac fac (IsExprOf e) (IsExprOf f) (codes "+") (expr_pieces names e) (expr_pieces names f) at ps a b, b.obeys);
          holds = sum_holds false e f (plus e f) a.phrase b.phrase _ _ _ refl refl a.holds b.holds;
        }
    expr_back (minus e f) is at ps =
        let a = expr_back e is.0 (at + 1) (after_left (codes "-") (expr_pieces names f) ps) in
        let b = expr_back f is.1 (a.end + 1 + length (codes "-") + 1) (symbol (codes ")") ∷ ps) in
        record {
          phrase = round_fac (leaf at (codes "(")) (more_muls (one_fac a.phrase) (leaf (a.end + 1) (codes "-")) true (one_mul (one_fac b.phrase))) (leaf b.end (codes ")"));
          end = b.end + 1;
          spelled = spaced_spelled fac fac (IsExprOf e) (IsExprOf f) (codes "-") (expr_pieces names e) (expr_pieces names f) at ps a b;
          obeys = (spaced_obeys fac fac (IsExprOf e) (IsExprOf f) (codes "-") (expr_pieces names e) (expr_pieces names f) at ps a b, b.obeys);
          holds = sum_holds true e f (minus e f) a.phrase b.phrase _ _ _ refl refl a.holds b.holds;
        }
    expr_back (times e f) is at ps =
        let a = expr_back e is.0 (at + 1) (after_left (codes "*") (expr_pieces names f) ps) in
        let b = expr_back f is.1 (a.end + 1 + length (codes "*") + 1) (symbol (codes ")") ∷ ps) in
        record {
          phrase = round_fac (leaf at (codes "(")) (one_mul (more_facs a.phrase (leaf (a.end + 1) (codes "*")) (one_fac b.phrase))) (leaf b.end (codes ")"));
          end = b.end + 1;
          spelled = spaced_spelled fac fac (IsExprOf e) (IsExprOf f) (codes "*") (expr_pieces names e) (expr_pieces names f) at ps a b;
          obeys = (spaced_obeys fac fac (IsExprOf e) (IsExprOf f) (codes "*") (expr_pieces names e) (expr_pieces names f) at ps a b, b.obeys);
          holds = times_holds e f a.phrase b.phrase _ _ _ a.holds b.holds;
        }
