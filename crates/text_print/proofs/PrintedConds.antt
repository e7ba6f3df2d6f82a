-- A printed condition is a literal with the same tree.
use Rattle.std.proofs.Common.{◌≡◌, ◌<◌, ◌≤◌, ◌+◌, ℕ, List, ◌∷◌, length, true, false, Ok, refl, sym, ap, ◌∙◌, subst, arith}
use Rattle.std.proofs.lemmas.Bool.{or_left, or_right}
use Rattle.std.specs.Prelude.{codes}
use Rattle.kat_model.specs.declared.limits.TheConstants.{MAX_OPEN}
use Rattle.kat_model.specs.declared.expression.Rel.{Rel}
use Rattle.kat_model.specs.Expressions.{ExprTree, CondTree, always, never, named, compared, negation, both, either, has_comparison}
use Rattle.text_parser.specs.Pieces.{Piece, symbol}
use Rattle.text_parser.specs.declared.terminal.Terminal.{Terminal}
use Rattle.text_parser.specs.declared.terminal.Terminal.TheVariants.{RoundOpen, RoundClose, Bang}
use Rattle.text_parser.specs.declared.reading.Context.{Context}
use Rattle.text_parser.specs.Lexemes.{Lexeme, lexeme}
use Rattle.text_parser.specs.Conds.{begins_expr}
use Rattle.text_parser.specs.Phrases.{lit, fac, Leaf, Phrase, one_conj, more_conjs, one_lit, more_lits, true_lit, false_lit, name_lit, not_lit, round_lit, relation_lit, one_mul, one_fac, yield_before, MeetsLookahead, IsWithinLimits}
use Rattle.text_parser.specs.Folds.{fold}
use Rattle.text_parser.specs.declared.meaning.Meaning.{Meaning}
use Rattle.text_parser.specs.declared.meaning.Meaning.TheVariants.{Test}
use Rattle.text_parser.specs.ScopeParts.{ScopeParts, IsNameOf}
use Rattle.text_parser.specs.Building.{condition_tree, trees}
use Rattle.text_parser.specs.Sound.{inside, inside_not, IsCondName, IsSound, nesting}
use Rattle.text_print.specs.Printing.{relation_text, expr_pieces, cond_pieces, ExprIsNamed, CondIsNamed, cond_nesting}
use Rattle.text_print.proofs.Matching.{matched, factor_begins}
use Rattle.text_print.proofs.WordTerminals.{relation_terminal, name_terminal}
use Rattle.text_print.proofs.PrintedPhrases.{lexemes_from, leaf, Begins, enters, enters_not, after_left, spaced_spelled, spaced_obeys}
use Rattle.text_print.proofs.PrintedExprs.{IsExprOf, expr_back}

module _ (w : ScopeParts) where
  pub record IsCondOf (b : CondTree) (p : Phrase lit) : Type 0 where
    pub tree : (c : Context) → c.depth + cond_nesting b ≤ MAX_OPEN → fold (trees w) c p ≡ Ok b
    pub sound : (c : Context) → (has_comparison b ≡ true → c.compares ≡ true) → IsSound w c p
    pub fits : (d : ℕ) → d + cond_nesting b ≤ MAX_OPEN → IsWithinLimits d p
    pub deep : nesting w p ≡ cond_nesting b

  -- the next token does not make an expression of what precedes it
  abbrev pub EndsCond : List Piece → Type 0
  EndsCond ps = (at : ℕ) → begins_expr (lexemes_from at ps) ≡ false

  name_holds : (name : List ℕ) (k at : ℕ) → IsNameOf w name (Test k) → IsCondOf (named k) (name_lit (leaf at name))
  name_holds name k at is = record {
    tree = λ c le. ap (λ o. Ok (condition_tree o)) is.means;
    sound = λ c h. subst IsCondName (sym is.means) tt;
    fits = λ d le. tt;
    deep = refl;
  }

  compare_holds : (s : Rel) (e f : ExprTree) (p q : Phrase fac) (l m r : Leaf) → IsExprOf w e p → IsExprOf w f q → IsCondOf (compared s e f) (round_lit l (one_conj (one_lit (relation_lit (one_mul (one_fac p)) m s (one_mul (one_fac q))))) r)
  compare_holds s e f p q l m r h k = record {
    tree = λ c le.
        let lt : c.depth < MAX_OPEN = omega arith in
        let left = h.tree (inside c) (omega arith) in
        let right = k.tree (inside c) (omega arith) in
        rw (enters c l.at lt, left, right) refl;
    sound = λ c g. (h.sound (inside c) (g refl), k.sound (inside c) (g refl));
    fits = λ d le. (omega arith, (h.fits (d + 1) (omega arith), k.fits (d + 1) (omega arith)));
    deep = let a = h.deep in let b = k.deep in omega (arith, a, b);
  }

  not_holds : (b : CondTree) (p : Phrase lit) (l : Leaf) → IsCondOf b p → IsCondOf (negation b) (not_lit l p)
  not_holds b p l h = record {
    tree = λ c le.
        let lt : c.depth < MAX_OPEN = omega arith in
        let operand = h.tree (inside_not c) (omega arith) in
        rw (enters_not c l.at lt, operand) refl;
    sound = λ c g. h.sound (inside_not c) g;
    fits = λ d le. (omega arith, h.fits (d + 1) (omega arith));
    deep = let a = h.deep in omega (arith, a);
  }

  both_holds : (b d : CondTree) (p q : Phrase lit) (l m r : Leaf) → IsCondOf b p → IsCondOf d q → IsCondOf (both b d) (round_lit l (one_conj (more_lits p m (one_lit q))) r)
  both_holds b d p q l m r h k = record {
    tree = λ c le.
        let lt : c.depth < MAX_OPEN = omega arith in
        let left = h.tree (inside c) (omega arith) in
        let right = k.tree (inside c) (omega arith) in
        rw (enters c l.at lt, left, right) refl;
    sound = λ c g. (h.sound (inside c) (λ t. g (or_left (has_comparison b) (has_comparison d) t)), k.sound (inside c) (λ t. g (or_right (has_comparison b) (has_comparison d) t)));
    fits = λ n le. (omega arith, (h.fits (n + 1) (omega arith), k.fits (n + 1) (omega arith)));
    deep = let x = h.deep in let y = k.deep in omega (arith, x, y);
  }

  either_holds : (b d : CondTree) (p q : Phrase lit) (l m r : Leaf) → IsCondOf b p → IsCondOf d q → IsCondOf (either b d) (round_lit l (more_conjs (one_lit p) m (one_conj (one_lit q))) r)
  either_holds b d p q l m r h k = record {
    tree = λ c le.
        let lt : c.depth < MAX_OPEN = omega arith in
        let left = h.tree (inside c) (omega arith) in
        let right = k.tree (inside c) (omega arith) in
        rw (enters c l.at lt, left, right) refl;
    sound = λ c g. (h.sound (inside c) (λ t. g (or_left (has_comparison b) (has_comparison d) t)), k.sound (inside c) (λ t. g (or_right (has_comparison b) (has_comparison d) t)));
    fits = λ n le. (omega arith, (h.fits (n + 1) (omega arith), k.fits (n + 1) (omega arith)));
    deep = let x = h.deep in let y = k.deep in omega (arith, x, y);
  }

  module _ (names : Meaning → List ℕ) where
    compare_back : (s : Rel) (e f : ExprTree) → ExprIsNamed w names e → ExprIsNamed w names f → (at : ℕ) (ps : List Piece) → EndsCond ps → Begins lit (IsCondOf (compared s e f)) at (cond_pieces names (compared s e f) ps) ps
    compare_back s e f is_e is_f at ps ends =
        let a = expr_back w names e is_e (at + 1) (after_left (relation_text s) (expr_pieces names f) ps) in
        let b = expr_back w names f is_f (a.end + 1 + length (relation_text s) + 1) (symbol (codes ")") ∷ ps) in
        let close = leaf b.end (codes ")") in
        let middle = leaf (a.end + 1) (relation_text s) in
        let inner = one_conj (one_lit (relation_lit (one_mul (one_fac a.phrase)) middle s (one_mul (one_fac b.phrase)))) in
        let rest = lexemes_from (b.end + 1) ps in
        record {
          phrase = round_lit (leaf at (codes "(")) inner close;
          end = b.end + 1;
          spelled =
              spaced_spelled fac fac (IsExprOf w e) (IsExprOf w f) (relation_text s) (expr_pieces names e) (expr_pieces names f) at ps a b
              ∙ ap (λ (v : Terminal). lexeme RoundOpen at (codes "(") ∷ yield_before a.phrase (lexeme v (a.end + 1) (relation_text s) ∷ yield_before b.phrase (lexeme RoundClose b.end (codes ")") ∷ rest))) (relation_terminal s);
          obeys = (
            ap begins_expr (matched inner close rest) ∙ ends (b.end + 1),
            (
              factor_begins a.phrase s middle (yield_before b.phrase (lexeme RoundClose b.end (codes ")") ∷ rest)),
              subst (λ (v : Terminal). MeetsLookahead a.phrase (lexeme v (a.end + 1) (relation_text s) ∷ yield_before b.phrase (lexeme RoundClose b.end (codes ")") ∷ rest))) (relation_terminal s)
                  (spaced_obeys fac fac (IsExprOf w e) (IsExprOf w f) (relation_text s) (expr_pieces names e) (expr_pieces names f) at ps a b),
              b.obeys,
            ),
          );
          holds = compare_holds s e f a.phrase b.phrase _ _ _ a.holds b.holds;
        }

    pub cond_back : (b : CondTree) → CondIsNamed w names b → (at : ℕ) (ps : List Piece) → EndsCond ps → Begins lit (IsCondOf b) at (cond_pieces names b ps) ps
    cond_back always is at ps ends = record { phrase = true_lit (leaf at (codes "true")); end = at + length (codes "true"); spelled = refl; obeys = tt; holds = record { tree = λ c le. refl; sound = λ c g. tt; fits = λ d le. tt; deep = refl } }
    cond_back never is at ps ends = record { phrase = false_lit (leaf at (codes "false")); end = at + length (codes "false"); spelled = refl; obeys = tt; holds = record { tree = λ c le. refl; sound = λ c g. tt; fits = λ d le. tt; deep = refl } }
    cond_back (named k) is at ps ends = let name = names (Test k) in record {
      phrase = name_lit (leaf at name);
      end = at + length name;
      spelled = ap (λ (s : Terminal). lexeme s at name ∷ lexemes_from (at + length name) ps) (name_terminal name is.identifier.no_keyword);
      obeys = ends (at + length name);
      holds = name_holds name k at is;
    }
    cond_back (compared s e f) is at ps ends = compare_back s e f is.0 is.1 at ps ends
    cond_back (negation b) is at ps ends =
        let a = cond_back b is (at + 1) ps ends in
        record {
          phrase = not_lit (leaf at (codes "!")) a.phrase;
          end = a.end;
          spelled = ap (λ (l : List Lexeme). lexeme Bang at (codes "!") ∷ l) a.spelled;
          obeys = a.obeys;
          holds = not_holds b a.phrase _ a.holds;
        }
    cond_back (both b d) is at ps ends =
        let a = cond_back b is.0 (at + 1) (after_left (codes "&&") (cond_pieces names d) ps) (λ n. refl) in
        let z = cond_back d is.1 (a.end + 1 + length (codes "&&") + 1) (symbol (codes ")") ∷ ps) (λ n. refl) in
        let close = leaf z.end (codes ")") in
        let inner = one_conj (more_lits a.phrase (leaf (a.end + 1) (codes "&&")) (one_lit z.phrase)) in
        record {
          phrase = round_lit (leaf at (codes "(")) inner close;
          end = z.end + 1;
          spelled = spaced_spelled lit lit (IsCondOf b) (IsCondOf d) (codes "&&") (cond_pieces names b) (cond_pieces names d) at ps a z;
          obeys = (
            ap begins_expr (matched inner close (lexemes_from (z.end + 1) ps)) ∙ ends (z.end + 1),
            (spaced_obeys lit lit (IsCondOf b) (IsCondOf d) (codes "&&") (cond_pieces names b) (cond_pieces names d) at ps a z, z.obeys),
          );
          holds = both_holds b d a.phrase z.phrase _ _ _ a.holds z.holds;
        }
    cond_back (either b d) is at ps ends =
        let a = cond_back b is.0 (at + 1) (after_left (codes "||") (cond_pieces names d) ps) (λ n. refl) in
        let z = cond_back d is.1 (a.end + 1 + length (codes "||") + 1) (symbol (codes ")") ∷ ps) (λ n. refl) in
        let close = leaf z.end (codes ")") in
        let inner = more_conjs (one_lit a.phrase) (leaf (a.end + 1) (codes "||")) (one_conj (one_lit z.phrase)) in
        record {
          phrase = round_lit (leaf at (codes "(")) inner close;
          end = z.end + 1;
          spelled = spaced_spelled lit lit (IsCondOf b) (IsCondOf d) (codes "||") (cond_pieces names b) (cond_pieces names d) at ps a z;
          obeys = (
            ap begins_expr (matched inner close (lexemes_from (z.end + 1) ps)) ∙ ends (z.end + 1),
            (spaced_obeys lit lit (IsCondOf b) (IsCondOf d) (codes "||") (cond_pieces names b) (cond_pieces names d) at ps a z, z.obeys),
          );
          holds = either_holds b d a.phrase z.phrase _ _ _ a.holds z.holds;
        }
