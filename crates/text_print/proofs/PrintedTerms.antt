-- A printed term is a phrase with the same tree.
use Rattle.std.proofs.Common.{◌≡◌, ◌<◌, ◌≤◌, ◌+◌, ℕ, max, List, ◌∷◌, length, false, cond, Some, Ok, refl, sym, ap, ◌∙◌, subst, arith}
use Rattle.std.proofs.lemmas.Bool.{both_ways, or_from}
use Rattle.std.specs.Prelude.{codes}
use Rattle.kat_model.specs.declared.limits.TheConstants.{MAX_OPEN}
use Rattle.kat_model.specs.Expressions.{has_comparison, test_without_comparisons}
use Rattle.kat_model.specs.Trees.{TestTree, bottom, top, prim, complement, meet, join, Term, zero, one, test, act, sum, product, star as star_term}
use Rattle.text_parser.specs.Pieces.{Piece, word, numeral, symbol}
use Rattle.text_parser.specs.declared.terminal.Terminal.{Terminal}
use Rattle.text_parser.specs.declared.terminal.Terminal.TheVariants.{RoundOpen, SquareOpen, Dot}
use Rattle.text_parser.specs.declared.reading.Context.{Context}
use Rattle.text_parser.specs.Lexemes.{Lexeme, lexeme}
use Rattle.text_parser.specs.Phrases.{star, unit, lit, Leaf, Phrase, one_prod, more_prods, one_star, more_stars, bare, starred, zero_unit, one_unit, name_unit, square_unit, round_unit, one_conj, one_lit, yield_before, MeetsLookahead, IsWithinLimits}
use Rattle.text_parser.specs.Folds.{fold}
use Rattle.text_parser.specs.declared.meaning.Meaning.{Meaning}
use Rattle.text_parser.specs.declared.meaning.Meaning.TheVariants.{Test, Action}
use Rattle.text_parser.specs.ScopeParts.{ScopeParts, meaning, IsNameOf}
use Rattle.text_parser.specs.Building.{name_tree, trees}
use Rattle.text_parser.specs.Sound.{inside, IsTermName, IsSound, name_nesting, nesting}
use Rattle.text_print.specs.Printing.{cond_of, is_star, in_round, spaced, cond_pieces, test_pieces, term_pieces, CondIsNamed, TermIsNamed, cond_nesting, test_nesting, term_nesting}
use Rattle.text_print.proofs.WordTerminals.{name_terminal}
use Rattle.text_print.proofs.PrintedPhrases.{lexemes_from, leaf, Begins, enters, after_left, spaced_spelled, spaced_obeys}
use Rattle.text_print.proofs.PrintedConds.{IsCondOf, cond_back}

-- ---- a test as a condition

pub test_of_cond : (b : TestTree) → test_without_comparisons (cond_of b) ≡ b
test_of_cond bottom = refl
test_of_cond top = refl
test_of_cond (prim k) = refl
test_of_cond (complement b) = ap complement (test_of_cond b)
test_of_cond (meet b c) = rw (test_of_cond b, test_of_cond c) refl
test_of_cond (join b c) = rw (test_of_cond b, test_of_cond c) refl

pub no_comparison : (b : TestTree) → has_comparison (cond_of b) ≡ false
no_comparison bottom = refl
no_comparison top = refl
no_comparison (prim k) = refl
no_comparison (complement b) = no_comparison b
no_comparison (meet b c) = or_from (has_comparison (cond_of b)) (has_comparison (cond_of c)) (no_comparison b) (no_comparison c)
no_comparison (join b c) = or_from (has_comparison (cond_of b)) (has_comparison (cond_of c)) (no_comparison b) (no_comparison c)

module _ (w : ScopeParts) where
  -- the phrase has tree `e` and nesting `n`
  pub record IsTermOf (e : Term) (n : ℕ) (p : Phrase star) : Type 0 where
    pub tree : (c : Context) → c.depth + n ≤ MAX_OPEN → fold (trees w) c p ≡ Ok e
    pub sound : (c : Context) → c.negated ≡ false → IsSound w c p
    pub fits : (d : ℕ) → d + n ≤ MAX_OPEN → IsWithinLimits d p
    pub deep : nesting w p ≡ n

  pub record IsUnitOf (e : Term) (n : ℕ) (p : Phrase unit) : Type 0 where
    pub tree : (c : Context) → c.depth + n ≤ MAX_OPEN → fold (trees w) c p ≡ Ok e
    pub sound : (c : Context) → c.negated ≡ false → IsSound w c p
    pub fits : (d : ℕ) → d + n ≤ MAX_OPEN → IsWithinLimits d p
    pub deep : nesting w p ≡ n

  bare_holds : (e : Term) (n : ℕ) (p : Phrase unit) → IsUnitOf e n p → IsTermOf e n (bare p)
  bare_holds e n p h = record { tree = h.tree; sound = h.sound; fits = h.fits; deep = h.deep }

  starred_holds : (e : Term) (n : ℕ) (p : Phrase unit) (l : Leaf) → IsUnitOf e n p → IsTermOf (star_term e) n (starred p l)
  starred_holds e n p l h = record {
    tree = λ c le. let operand = h.tree c le in rw operand refl;
    sound = λ c g. (g, h.sound c g);
    fits = h.fits;
    deep = h.deep;
  }

  round_holds : (e : Term) (n : ℕ) (p : Phrase star) (l r : Leaf) → IsTermOf e n p → IsUnitOf e (n + 1) (round_unit l (one_prod (one_star p)) r)
  round_holds e n p l r h = record {
    tree = λ c le.
        let lt : c.depth < MAX_OPEN = omega arith in
        let inner = h.tree (inside c) (omega arith) in
        rw (enters c l.at lt, inner) refl;
    sound = λ c g. h.sound (inside c) g;
    fits = λ d le. (omega arith, h.fits (d + 1) (omega arith));
    deep = let a = h.deep in omega (arith, a);
  }

  sum_of_holds : (e f : Term) (n k : ℕ) (p q : Phrase star) (l m r : Leaf) → IsTermOf e n p → IsTermOf f k q → IsUnitOf (sum e f) (max n k + 1) (round_unit l (more_prods (one_star p) m (one_prod (one_star q))) r)
  sum_of_holds e f n k p q l m r h g = record {
    tree = λ c le.
        let lt : c.depth < MAX_OPEN = omega arith in
        let left = h.tree (inside c) (omega arith) in
        let right = g.tree (inside c) (omega arith) in
        rw (enters c l.at lt, left, right) refl;
    sound = λ c x. (h.sound (inside c) x, g.sound (inside c) x);
    fits = λ d le. (omega arith, (h.fits (d + 1) (omega arith), g.fits (d + 1) (omega arith)));
    deep = let a = h.deep in let b = g.deep in omega (arith, a, b);
  }

  product_holds : (e f : Term) (n k : ℕ) (p q : Phrase star) (l m r : Leaf) → IsTermOf e n p → IsTermOf f k q → IsUnitOf (product e f) (max n k + 1) (round_unit l (one_prod (more_stars p m (one_star q))) r)
  product_holds e f n k p q l m r h g = record {
    tree = λ c le.
        let lt : c.depth < MAX_OPEN = omega arith in
        let left = h.tree (inside c) (omega arith) in
        let right = g.tree (inside c) (omega arith) in
        rw (enters c l.at lt, left, right) refl;
    sound = λ c x. (h.sound (inside c) x, g.sound (inside c) x);
    fits = λ d le. (omega arith, (h.fits (d + 1) (omega arith), g.fits (d + 1) (omega arith)));
    deep = let a = h.deep in let b = g.deep in omega (arith, a, b);
  }

  name_unit_holds : (name : List ℕ) (m : Meaning) (e : Term) (at : ℕ) → meaning w name ≡ Some m → name_tree w (Some m) ≡ e → ((c : Context) → c.negated ≡ false → IsTermName w c (Some m)) → name_nesting w (Some m) ≡ 0 → IsUnitOf e 0 (name_unit (leaf at name))
  name_unit_holds name m e at is same usable flat = record {
    tree = λ c le. ap (λ o. Ok (name_tree w o)) is ∙ ap Ok same;
    sound = λ c g. subst (λ o. IsTermName w c o) (sym is) (usable c g);
    fits = λ d le. tt;
    deep = ap (λ o. name_nesting w o) is ∙ flat;
  }

  square_holds : (b : TestTree) (p : Phrase lit) (l r : Leaf) → IsCondOf w (cond_of b) p → IsUnitOf (test b) (cond_nesting (cond_of b) + 1) (square_unit l (one_conj (one_lit p)) r)
  square_holds b p l r h = record {
    tree = λ c le.
        let lt : c.depth < MAX_OPEN = omega arith in
        let inner = h.tree (inside c) (omega arith) in
        rw (enters c l.at lt, inner) (ap (λ (v : TestTree). Ok (test v)) (test_of_cond b));
    sound = λ c g. h.sound (inside c) (λ t. absurd (both_ways (has_comparison (cond_of b)) (no_comparison b) t));
    fits = λ d le. (omega arith, h.fits (d + 1) (omega arith));
    deep = let a = h.deep in omega (arith, a);
  }

  module _ (names : Meaning → List ℕ) where
    abbrev UnitBack : Term → ℕ → (List Piece → List Piece) → Type 0
    UnitBack e n pieces = (at : ℕ) (ps : List Piece) → Begins unit (IsUnitOf e n) at (pieces ps) ps

    abbrev StarBack : Term → ℕ → (List Piece → List Piece) → Type 0
    StarBack e n pieces = (at : ℕ) (ps : List Piece) → Begins star (IsTermOf e n) at (pieces ps) ps

    name_back : (m : Meaning) (e : Term) → IsNameOf w (names m) m → name_tree w (Some m) ≡ e → ((c : Context) → c.negated ≡ false → IsTermName w c (Some m)) → name_nesting w (Some m) ≡ 0 → UnitBack e 0 (λ ps. word (names m) ∷ ps)
    name_back m e is same usable flat at ps = let name = names m in record {
      phrase = name_unit (leaf at name);
      end = at + length name;
      spelled = ap (λ (s : Terminal). lexeme s at name ∷ lexemes_from (at + length name) ps) (name_terminal name is.identifier.no_keyword);
      obeys = tt;
      holds = name_unit_holds name m e at is.means same usable flat;
    }

    square_back : (b : TestTree) → CondIsNamed w names (cond_of b) → UnitBack (test b) (cond_nesting (cond_of b) + 1) (λ ps. symbol (codes "[") ∷ cond_pieces names (cond_of b) (symbol (codes "]") ∷ ps))
    square_back b is at ps =
        let a = cond_back w names (cond_of b) is (at + 1) (symbol (codes "]") ∷ ps) (λ n. refl) in
        record {
          phrase = square_unit (leaf at (codes "[")) (one_conj (one_lit a.phrase)) (leaf a.end (codes "]"));
          end = a.end + 1;
          spelled = ap (λ (l : List Lexeme). lexeme SquareOpen at (codes "[") ∷ l) a.spelled;
          obeys = a.obeys;
          holds = square_holds b a.phrase _ _ a.holds;
        }

    test_back : (b : TestTree) → CondIsNamed w names (cond_of b) → UnitBack (test b) (test_nesting b) (test_pieces names b)
    test_back bottom is at ps = square_back bottom is at ps
    test_back top is at ps = square_back top is at ps
    test_back (prim k) is at ps = name_back (Test k) (test (prim k)) is refl (λ c g. tt) refl at ps
    test_back (complement b) is at ps = square_back (complement b) is at ps
    test_back (meet b c) is at ps = square_back (meet b c) is at ps
    test_back (join b c) is at ps = square_back (join b c) is at ps

    bare_back : (e : Term) (n : ℕ) (pieces : List Piece → List Piece) → UnitBack e n pieces → StarBack e n pieces
    bare_back e n pieces f at ps = let a = f at ps in record { phrase = bare a.phrase; end = a.end; spelled = a.spelled; obeys = a.obeys; holds = bare_holds e n a.phrase a.holds }

    round_back : (e : Term) (n : ℕ) (pieces : List Piece → List Piece) → StarBack e n pieces → UnitBack e (n + 1) (in_round pieces)
    round_back e n pieces f at ps =
        let a = f (at + 1) (symbol (codes ")") ∷ ps) in
        record {
          phrase = round_unit (leaf at (codes "(")) (one_prod (one_star a.phrase)) (leaf a.end (codes ")"));
          end = a.end + 1;
          spelled = ap (λ (l : List Lexeme). lexeme RoundOpen at (codes "(") ∷ l) a.spelled;
          obeys = a.obeys;
          holds = round_holds e n a.phrase _ _ a.holds;
        }

    starred_back : (e : Term) (n : ℕ) (pieces : List Piece → List Piece) → UnitBack e n pieces → StarBack (star_term e) n (λ ps. pieces (symbol (codes "*") ∷ ps))
    starred_back e n pieces f at ps =
        let a = f at (symbol (codes "*") ∷ ps) in
        record { phrase = starred a.phrase (leaf a.end (codes "*")); end = a.end + 1; spelled = a.spelled; obeys = a.obeys; holds = starred_holds e n a.phrase _ a.holds }

    sum_back : (e f : Term) (n k : ℕ) (left right : List Piece → List Piece) → StarBack e n left → StarBack f k right → UnitBack (sum e f) (max n k + 1) (spaced (codes "+") left right)
    sum_back e f n k left right g h at ps =
        let a = g (at + 1) (after_left (codes "+") right ps) in
        let b = h (a.end + 1 + length (codes "+") + 1) (symbol (codes ")") ∷ ps) in
        record {
          phrase = round_unit (leaf at (codes "(")) (more_prods (one_star a.phrase) (leaf (a.end + 1) (codes "+")) (one_prod (one_star b.phrase))) (leaf b.end (codes ")"));
          end = b.end + 1;
          spelled = spaced_spelled star star (IsTermOf e n) (IsTermOf f k) (codes "+") left right at ps a b;
          obeys = (spaced_obeys star star (IsTermOf e n) (IsTermOf f k) (codes "+") left right at ps a b, b.obeys);
          holds = sum_of_holds e f n k a.phrase b.phrase _ _ _ a.holds b.holds;
        }

    product_back : (e f : Term) (n k : ℕ) (left right : List Piece → List Piece) → StarBack e n left → StarBack f k right → UnitBack (product e f) (max n k + 1) (λ ps. symbol (codes "(") ∷ left (symbol (codes ".") ∷ right (symbol (codes ")") ∷ ps)))
    product_back e f n k left right g h at ps =
        let a = g (at + 1) (symbol (codes ".") ∷ right (symbol (codes ")") ∷ ps)) in
        let b = h (a.end + 1) (symbol (codes ")") ∷ ps) in
        record {
          phrase = round_unit (leaf at (codes "(")) (one_prod (more_stars a.phrase (leaf a.end (codes ".")) (one_star b.phrase))) (leaf b.end (codes ")"));
          end = b.end + 1;
          spelled = ap (λ (l : List Lexeme). lexeme RoundOpen at (codes "(") ∷ l) (a.spelled ∙ ap (λ (l : List Lexeme). yield_before a.phrase (lexeme Dot a.end (codes ".") ∷ l)) b.spelled);
          obeys = (subst (λ (l : List Lexeme). MeetsLookahead a.phrase (lexeme Dot a.end (codes ".") ∷ l)) b.spelled a.obeys, b.obeys);
          holds = product_holds e f n k a.phrase b.phrase _ _ _ a.holds b.holds;
        }

    -- the operand of a star, in parentheses if it is a star itself
    abbrev operand_pieces : Term → List Piece → List Piece
    operand_pieces e ps = cond (is_star e) (in_round (term_pieces names e) ps) (term_pieces names e ps)

    abbrev operand_nesting : Term → ℕ
    operand_nesting e = cond (is_star e) (term_nesting e + 1) (term_nesting e)

    abbrev Back : Term → Type 0
    Back e = StarBack e (term_nesting e) (term_pieces names e) × UnitBack e (operand_nesting e) (operand_pieces e)

    from_unit : (e : Term) (n : ℕ) (pieces : List Piece → List Piece) → UnitBack e n pieces → StarBack e n pieces × UnitBack e n pieces
    from_unit e n pieces f = (bare_back e n pieces f, f)

    zero_back : UnitBack zero 0 (λ ps. numeral (codes "0") ∷ ps)
    zero_back at ps = record { phrase = zero_unit (leaf at (codes "0")); end = at + 1; spelled = refl; obeys = tt; holds = record { tree = λ c le. refl; sound = λ c g. tt; fits = λ d le. tt; deep = refl } }

    one_back : UnitBack one 0 (λ ps. numeral (codes "1") ∷ ps)
    one_back at ps = record { phrase = one_unit (leaf at (codes "1")); end = at + 1; spelled = refl; obeys = tt; holds = record { tree = λ c le. refl; sound = λ c g. tt; fits = λ d le. tt; deep = refl } }

    pub term_back : (e : Term) → TermIsNamed w names e → Back e
    term_back zero is = from_unit zero 0 (term_pieces names zero) zero_back
    term_back one is = from_unit one 0 (term_pieces names one) one_back
    term_back (test b) is = from_unit (test b) (test_nesting b) (test_pieces names b) (test_back b is)
    term_back (act a) is = from_unit (act a) 0 (term_pieces names (act a)) (name_back (Action a) (act a) is refl (λ c g. g) refl)
    term_back (sum e f) is = from_unit (sum e f) (term_nesting (sum e f)) (term_pieces names (sum e f)) (sum_back e f (term_nesting e) (term_nesting f) (term_pieces names e) (term_pieces names f) (term_back e is.0).0 (term_back f is.1).0)
    term_back (product e f) is = from_unit (product e f) (term_nesting (product e f)) (term_pieces names (product e f)) (product_back e f (term_nesting e) (term_nesting f) (term_pieces names e) (term_pieces names f) (term_back e is.0).0 (term_back f is.1).0)
    term_back (star_term e) is =
        let operand = (term_back e is).1 in
        let s = starred_back e (operand_nesting e) (operand_pieces e) operand in
        (s, round_back (star_term e) (term_nesting (star_term e)) (term_pieces names (star_term e)) s)
