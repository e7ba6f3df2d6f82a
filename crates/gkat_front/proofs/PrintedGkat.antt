-- A printed expression begins with a phrase of its tree, and reads back.
use Rattle.std.proofs.Common.{◌≡◌, ◌<◌, ◌≤◌, ◌+◌, ℕ, max, List, [], ◌∷◌, length, false, cond, Some, Result, Ok, refl, ap, ◌∙◌, subst, arith}
use Rattle.std.proofs.lemmas.Bool.{both_ways}
use Rattle.std.specs.Prelude.{codes}
use Rattle.kat_model.specs.declared.limits.TheConstants.{MAX_OPEN}
use Rattle.kat_model.specs.Trees.{TestTree, bottom, top, prim, complement, meet, join}
use Rattle.kat_model.specs.Expressions.{CondTree, has_comparison, test_without_comparisons}
use Rattle.text_parser.specs.declared.fault.TextFault.{TextFault}
use Rattle.text_parser.specs.declared.lexer.TheConstants.{MAX_LEN}
use Rattle.text_parser.specs.Pieces.{Piece, word, numeral, symbol, gap, spelled}
use Rattle.text_parser.proofs.Printed.{printed}
use Rattle.text_parser.specs.declared.terminal.Terminal.{Terminal}
use Rattle.text_parser.specs.declared.terminal.Terminal.TheVariants.{RoundOpen, SquareOpen, Plus, Dot, Separator}
use Rattle.text_parser.specs.declared.terminal.Separator.TheVariants.{Caret}
use Rattle.text_parser.specs.Lexemes.{Lexeme, lexeme}
use Rattle.text_parser.specs.Parsed.{◌>>=◌}
use Rattle.text_parser.specs.Actions.{context}
use Rattle.text_parser.specs.Phrases.{lit, cond as condition, Leaf, Phrase, one_conj, one_lit}
use Rattle.text_parser.specs.Folds.{fold}
use Rattle.text_parser.specs.declared.extent.Extent.{Extent}
use Rattle.text_parser.specs.declared.meaning.Meaning.{Meaning}
use Rattle.text_parser.specs.declared.meaning.Meaning.TheVariants.{Test, Action}
use Rattle.text_parser.specs.ScopeParts.{ScopeParts, IsNameOf}
use Rattle.text_parser.specs.Measuring.{extents}
use Rattle.text_parser.specs.Building.{trees}
use Rattle.text_parser.proofs.Measured.{cond_decided, ok_value}
use Rattle.text_print.specs.Printing.{cond_of, in_round, CondIsNamed, cond_nesting}
use Rattle.text_print.proofs.WordTerminals.{name_terminal}
use Rattle.text_print.proofs.Separate.{nothing_ends}
use Rattle.text_print.proofs.PrintedPhrases.{lexemes_from, leaf}
use Rattle.text_print.proofs.PrintedConds.{IsCondOf, cond_back}
use Rattle.text_print.proofs.PrintedTerms.{test_of_cond, no_comparison}
use Rattle.while_lang.specs.Blocks.{enter}
use Rattle.while_lang.proofs.ScannedBlocks.{enters}
use Rattle.gkat_front.specs.Expressions.{GkatTree, test, act, product, choice, loop}
use Rattle.gkat_front.specs.GkatMaking.{named_by, making_expr}
use Rattle.gkat_front.specs.GkatPhrases.{Guard, GkatSymbol, factor, unit, GkatPhrase, one_product, two_products, one_factor, more_factors, once, repeated, zero_unit, one_unit, name_unit, guard_unit, round_unit, guard_onto, gkat_onto, GuardObeys, GkatObeys, GuardFits, GkatFits}
use Rattle.gkat_front.specs.GkatFolds.{fold_guard, fold_gkat, cond_fold}
use Rattle.gkat_front.specs.Printing.{is_loop, guard_pieces, gkat_pieces, GkatIsNamed, gkat_nesting}
use Rattle.gkat_front.specs.Laws.{ReadsBack}
use Rattle.gkat_front.proofs.SeparateGkat.{gkat_separate}

-- measuring and then building
measured_built : (m : Result Extent TextFault) (r : Result CondTree TextFault) (x : Extent) (b : CondTree) → m ≡ Ok x → r ≡ Ok b → (m >>= λ y. r >>= λ z. Ok (test_without_comparisons z)) ≡ Ok (test_without_comparisons b)
measured_built m r x b e f = rw (e, f) refl

entered : {V : Type 0} (d at : ℕ) (f : ℕ → Result V TextFault) → d < MAX_OPEN → (enter d at >>= f) ≡ f (d + 1)
entered d at f lt = ap (λ m. m >>= f) (enters d at lt)

module _ (w : ScopeParts) where
  -- ---- the phrase has the tree, and at most this depth

  record IsGuardOf (b : TestTree) (p : Guard) : Type 0 where
    tree : (d : ℕ) → d + (cond_nesting (cond_of b) + 1) ≤ MAX_OPEN → fold_guard (cond_fold w) d p ≡ Ok b
    fits : (d : ℕ) → d + (cond_nesting (cond_of b) + 1) ≤ MAX_OPEN → GuardFits d p

  record IsFactorOf (e : GkatTree) (n : ℕ) (p : GkatPhrase factor) : Type 0 where
    tree : (d : ℕ) → d + n ≤ MAX_OPEN → fold_gkat (making_expr w) (cond_fold w) d p ≡ Ok e
    fits : (d : ℕ) → d + n ≤ MAX_OPEN → GkatFits d p

  record IsUnitOf (e : GkatTree) (n : ℕ) (p : GkatPhrase unit) : Type 0 where
    tree : (d : ℕ) → d + n ≤ MAX_OPEN → fold_gkat (making_expr w) (cond_fold w) d p ≡ Ok e
    fits : (d : ℕ) → d + n ≤ MAX_OPEN → GkatFits d p

  cond_folds : (b : TestTree) (p : Phrase lit) (d : ℕ) → IsCondOf w (cond_of b) p → d + cond_nesting (cond_of b) ≤ MAX_OPEN → cond_fold w d (one_conj (one_lit p)) ≡ Ok b
  cond_folds b p d h le =
      let c = context d false false in
      let inner : Phrase condition = one_conj (one_lit p) in
      let sound = h.sound c (λ t. absurd (both_ways (has_comparison (cond_of b)) (no_comparison b) t)) in
      let m = ok_value (fold (extents w) c inner (λ x. x)) ((cond_decided w c inner).1 (sound, h.fits d le)) in
      let built = h.tree c le in
      measured_built (fold (extents w) c inner (λ x. x)) (fold (trees w) c inner (λ x. x ∷ [])) m.0 (cond_of b) m.1 (rw built refl) ∙ ap Ok (test_of_cond b)

  guard_holds : (b : TestTree) (p : Phrase lit) (l r : Leaf) → IsCondOf w (cond_of b) p → IsGuardOf b (record { opening = l; inner = one_conj (one_lit p); closing = r })
  guard_holds b p l r h = record {
    tree = λ d le. entered d l.at (λ e. cond_fold w e (one_conj (one_lit p))) (omega arith) ∙ cond_folds b p (d + 1) h (omega arith);
    fits = λ d le. (omega arith, h.fits (d + 1) (omega arith));
  }

  once_holds : (e : GkatTree) (n : ℕ) (p : GkatPhrase unit) → IsUnitOf e n p → IsFactorOf e n (once p)
  once_holds e n p h = record { tree = h.tree; fits = h.fits }

  tested_holds : (b : TestTree) (g : Guard) → IsGuardOf b g → IsUnitOf (test b) (cond_nesting (cond_of b) + 1) (guard_unit g)
  tested_holds b g h = record { tree = λ d le. let guard = h.tree d le in rw guard refl; fits = h.fits }

  round_holds : (e : GkatTree) (n : ℕ) (p : GkatPhrase factor) (l r : Leaf) → IsFactorOf e n p → IsUnitOf e (n + 1) (round_unit l (one_product (one_factor p)) r)
  round_holds e n p l r h = record {
    tree = λ d le.
        let lt : d < MAX_OPEN = omega arith in
        let inner = h.tree (d + 1) (omega arith) in
        rw (enters d l.at lt, inner) refl;
    fits = λ d le. (omega arith, h.fits (d + 1) (omega arith));
  }

  product_holds : (e f : GkatTree) (n k : ℕ) (p q : GkatPhrase factor) (l m r : Leaf) → IsFactorOf e n p → IsFactorOf f k q → IsUnitOf (product e f) (max n k + 1) (round_unit l (one_product (more_factors p m (one_factor q))) r)
  product_holds e f n k p q l m r h g = record {
    tree = λ d le.
        let lt : d < MAX_OPEN = omega arith in
        let left = h.tree (d + 1) (omega arith) in
        let right = g.tree (d + 1) (omega arith) in
        rw (enters d l.at lt, left, right) refl;
    fits = λ d le. (omega arith, (h.fits (d + 1) (omega arith), g.fits (d + 1) (omega arith)));
  }

  choice_holds : (b : TestTree) (e f : GkatTree) (n k : ℕ) (g : Guard) (p q : GkatPhrase factor) (l m r : Leaf) → IsGuardOf b g → IsFactorOf e n p → IsFactorOf f k q →
      IsUnitOf (choice b e f) (max (max n k) (cond_nesting (cond_of b) + 1) + 1) (round_unit l (two_products (one_factor p) m g (one_factor q)) r)
  choice_holds b e f n k g p q l m r i h j = record {
    tree = λ d le.
        let lt : d < MAX_OPEN = omega arith in
        let left = h.tree (d + 1) (omega arith) in
        let guard = i.tree (d + 1) (omega arith) in
        let right = j.tree (d + 1) (omega arith) in
        rw (enters d l.at lt, left, guard, right) refl;
    fits = λ d le. (omega arith, (h.fits (d + 1) (omega arith), i.fits (d + 1) (omega arith), j.fits (d + 1) (omega arith)));
  }

  loop_holds : (b : TestTree) (e : GkatTree) (n : ℕ) (g : Guard) (p : GkatPhrase unit) (l : Leaf) → IsGuardOf b g → IsUnitOf e n p → IsFactorOf (loop b e) (max n (cond_nesting (cond_of b) + 1)) (repeated p l g)
  loop_holds b e n g p l i h = record {
    tree = λ d le.
        let body = h.tree d (omega arith) in
        let guard = i.tree d (omega arith) in
        rw (body, guard) refl;
    fits = λ d le. (h.fits d (omega arith), i.fits d (omega arith));
  }

  -- ---- the pieces begin with a phrase, followed by other pieces

  record BeginsGuard (b : TestTree) (at : ℕ) (qs ps : List Piece) : Type 0 where
    phrase : Guard
    end : ℕ
    spelled : lexemes_from at qs ≡ guard_onto phrase (lexemes_from end ps)
    obeys : GuardObeys phrase (lexemes_from end ps)
    holds : IsGuardOf b phrase

  record Begins (x : GkatSymbol) (P : GkatPhrase x → Type 0) (at : ℕ) (qs ps : List Piece) : Type 0 where
    phrase : GkatPhrase x
    end : ℕ
    spelled : lexemes_from at qs ≡ gkat_onto phrase (lexemes_from end ps)
    obeys : GkatObeys phrase (lexemes_from end ps)
    holds : P phrase

  module _ (names : Meaning → List ℕ) where
    abbrev UnitBack : GkatTree → ℕ → (List Piece → List Piece) → Type 0
    UnitBack e n pieces = (at : ℕ) (ps : List Piece) → Begins unit (IsUnitOf e n) at (pieces ps) ps

    abbrev FactorBack : GkatTree → ℕ → (List Piece → List Piece) → Type 0
    FactorBack e n pieces = (at : ℕ) (ps : List Piece) → Begins factor (IsFactorOf e n) at (pieces ps) ps

    guard_back : (b : TestTree) → CondIsNamed w names (cond_of b) → (at : ℕ) (ps : List Piece) → BeginsGuard b at (guard_pieces names b ps) ps
    guard_back b is at ps =
        let a = cond_back w names (cond_of b) is (at + 1) (symbol (codes "]") ∷ ps) (λ n. refl) in
        record {
          phrase = record { opening = leaf at (codes "["); inner = one_conj (one_lit a.phrase); closing = leaf a.end (codes "]") };
          end = a.end + 1;
          spelled = ap (λ (l : List Lexeme). lexeme SquareOpen at (codes "[") ∷ l) a.spelled;
          obeys = a.obeys;
          holds = guard_holds b a.phrase _ _ a.holds;
        }

    name_back : (m : Meaning) (e : GkatTree) → IsNameOf w (names m) m → ((at : ℕ) → named_by at (Some m) ≡ Ok e) → UnitBack e 0 (λ ps. word (names m) ∷ ps)
    name_back m e is same at ps = let name = names m in record {
      phrase = name_unit (leaf at name);
      end = at + length name;
      spelled = ap (λ (s : Terminal). lexeme s at name ∷ lexemes_from (at + length name) ps) (name_terminal name is.identifier.no_keyword);
      obeys = tt;
      holds = record { tree = λ d le. ap (named_by at) is.means ∙ same at; fits = λ d le. tt };
    }

    tested_back : (b : TestTree) → CondIsNamed w names (cond_of b) → UnitBack (test b) (cond_nesting (cond_of b) + 1) (guard_pieces names b)
    tested_back b is at ps =
        let a = guard_back b is at ps in
        record { phrase = guard_unit a.phrase; end = a.end; spelled = a.spelled; obeys = a.obeys; holds = tested_holds b a.phrase a.holds }

    zero_back : UnitBack (test bottom) 0 (λ ps. numeral (codes "0") ∷ ps)
    zero_back at ps = record { phrase = zero_unit (leaf at (codes "0")); end = at + 1; spelled = refl; obeys = tt; holds = record { tree = λ d le. refl; fits = λ d le. tt } }

    one_back : UnitBack (test top) 0 (λ ps. numeral (codes "1") ∷ ps)
    one_back at ps = record { phrase = one_unit (leaf at (codes "1")); end = at + 1; spelled = refl; obeys = tt; holds = record { tree = λ d le. refl; fits = λ d le. tt } }

    once_back : (e : GkatTree) (n : ℕ) (pieces : List Piece → List Piece) → UnitBack e n pieces → FactorBack e n pieces
    once_back e n pieces f at ps = let a = f at ps in record { phrase = once a.phrase; end = a.end; spelled = a.spelled; obeys = a.obeys; holds = once_holds e n a.phrase a.holds }

    round_back : (e : GkatTree) (n : ℕ) (pieces : List Piece → List Piece) → FactorBack e n pieces → UnitBack e (n + 1) (in_round pieces)
    round_back e n pieces f at ps =
        let a = f (at + 1) (symbol (codes ")") ∷ ps) in
        record {
          phrase = round_unit (leaf at (codes "(")) (one_product (one_factor a.phrase)) (leaf a.end (codes ")"));
          end = a.end + 1;
          spelled = ap (λ (l : List Lexeme). lexeme RoundOpen at (codes "(") ∷ l) a.spelled;
          obeys = a.obeys;
          holds = round_holds e n a.phrase _ _ a.holds;
        }

    product_back : (e f : GkatTree) (n k : ℕ) (left right : List Piece → List Piece) → FactorBack e n left → FactorBack f k right →
        UnitBack (product e f) (max n k + 1) (λ ps. symbol (codes "(") ∷ left (symbol (codes ".") ∷ right (symbol (codes ")") ∷ ps)))
    product_back e f n k left right g h at ps =
        let a = g (at + 1) (symbol (codes ".") ∷ right (symbol (codes ")") ∷ ps)) in
        let b = h (a.end + 1) (symbol (codes ")") ∷ ps) in
        record {
          phrase = round_unit (leaf at (codes "(")) (one_product (more_factors a.phrase (leaf a.end (codes ".")) (one_factor b.phrase))) (leaf b.end (codes ")"));
          end = b.end + 1;
          spelled = ap (λ (l : List Lexeme). lexeme RoundOpen at (codes "(") ∷ l) (a.spelled ∙ ap (λ (l : List Lexeme). gkat_onto a.phrase (lexeme Dot a.end (codes ".") ∷ l)) b.spelled);
          obeys = (subst (λ (l : List Lexeme). GkatObeys a.phrase (lexeme Dot a.end (codes ".") ∷ l)) b.spelled a.obeys, b.obeys);
          holds = product_holds e f n k a.phrase b.phrase _ _ _ a.holds b.holds;
        }

    choice_back : (b : TestTree) (e f : GkatTree) (n k : ℕ) (left right : List Piece → List Piece) → CondIsNamed w names (cond_of b) → FactorBack e n left → FactorBack f k right →
        UnitBack (choice b e f) (max (max n k) (cond_nesting (cond_of b) + 1) + 1)
        (λ ps. symbol (codes "(") ∷ left (gap 32 ∷ symbol (codes "+") ∷ guard_pieces names b (gap 32 ∷ right (symbol (codes ")") ∷ ps))))
    choice_back b e f n k left right is g h at ps =
        let after = gap 32 ∷ right (symbol (codes ")") ∷ ps) in
        let a = g (at + 1) (gap 32 ∷ symbol (codes "+") ∷ guard_pieces names b after) in
        let c = guard_back b is (a.end + 1 + 1) after in
        let z = h (c.end + 1) (symbol (codes ")") ∷ ps) in
        let more : lexemes_from (a.end + 1 + 1) (guard_pieces names b after) ≡ guard_onto c.phrase (gkat_onto z.phrase (lexemes_from z.end (symbol (codes ")") ∷ ps))) = c.spelled ∙ ap (guard_onto c.phrase) z.spelled in
        record {
          phrase = round_unit (leaf at (codes "(")) (two_products (one_factor a.phrase) (leaf (a.end + 1) (codes "+")) c.phrase (one_factor z.phrase)) (leaf z.end (codes ")"));
          end = z.end + 1;
          spelled = ap (λ (l : List Lexeme). lexeme RoundOpen at (codes "(") ∷ l) (a.spelled ∙ ap (λ (l : List Lexeme). gkat_onto a.phrase (lexeme Plus (a.end + 1) (codes "+") ∷ l)) more);
          obeys = (
            subst (λ (l : List Lexeme). GkatObeys a.phrase (lexeme Plus (a.end + 1) (codes "+") ∷ l)) more a.obeys,
            subst (GuardObeys c.phrase) z.spelled c.obeys,
            z.obeys,
          );
          holds = choice_holds b e f n k c.phrase a.phrase z.phrase _ _ _ c.holds a.holds z.holds;
        }

    loop_back : (b : TestTree) (e : GkatTree) (n : ℕ) (operand : List Piece → List Piece) → CondIsNamed w names (cond_of b) → UnitBack e n operand →
        FactorBack (loop b e) (max n (cond_nesting (cond_of b) + 1)) (λ ps. operand (symbol (codes "^") ∷ guard_pieces names b ps))
    loop_back b e n operand is f at ps =
        let a = f at (symbol (codes "^") ∷ guard_pieces names b ps) in
        let c = guard_back b is (a.end + 1) ps in
        record {
          phrase = repeated a.phrase (leaf a.end (codes "^")) c.phrase;
          end = c.end;
          spelled = a.spelled ∙ ap (λ (l : List Lexeme). gkat_onto a.phrase (lexeme (Separator Caret) a.end (codes "^") ∷ l)) c.spelled;
          obeys = (subst (λ (l : List Lexeme). GkatObeys a.phrase (lexeme (Separator Caret) a.end (codes "^") ∷ l)) c.spelled a.obeys, c.obeys);
          holds = loop_holds b e n c.phrase a.phrase _ c.holds a.holds;
        }

    -- the operand of a loop; it is in parentheses if it is itself a loop
    abbrev operand_pieces : GkatTree → List Piece → List Piece
    operand_pieces e ps = cond (is_loop e) (in_round (gkat_pieces names e) ps) (gkat_pieces names e ps)

    abbrev operand_nesting : GkatTree → ℕ
    operand_nesting e = cond (is_loop e) (gkat_nesting e + 1) (gkat_nesting e)

    abbrev Back : GkatTree → Type 0
    Back e = FactorBack e (gkat_nesting e) (gkat_pieces names e) × UnitBack e (operand_nesting e) (operand_pieces e)

    from_unit : (e : GkatTree) (n : ℕ) (pieces : List Piece → List Piece) → UnitBack e n pieces → FactorBack e n pieces × UnitBack e n pieces
    from_unit e n pieces f = (once_back e n pieces f, f)

    gkat_back : (e : GkatTree) → GkatIsNamed w names e → Back e
    gkat_back (test bottom) is = from_unit (test bottom) 0 (gkat_pieces names (test bottom)) zero_back
    gkat_back (test top) is = from_unit (test top) 0 (gkat_pieces names (test top)) one_back
    gkat_back (test (prim k)) is = from_unit (test (prim k)) 0 (gkat_pieces names (test (prim k))) (name_back (Test k) (test (prim k)) is (λ at. refl))
    gkat_back (test (complement b)) is = from_unit (test (complement b)) (gkat_nesting (test (complement b))) (gkat_pieces names (test (complement b))) (tested_back (complement b) is)
    gkat_back (test (meet b c)) is = from_unit (test (meet b c)) (gkat_nesting (test (meet b c))) (gkat_pieces names (test (meet b c))) (tested_back (meet b c) is)
    gkat_back (test (join b c)) is = from_unit (test (join b c)) (gkat_nesting (test (join b c))) (gkat_pieces names (test (join b c))) (tested_back (join b c) is)
    gkat_back (act a) is = from_unit (act a) 0 (gkat_pieces names (act a)) (name_back (Action a) (act a) is (λ at. refl))
    gkat_back (product e f) is =
        from_unit (product e f) (gkat_nesting (product e f)) (gkat_pieces names (product e f)) (product_back e f (gkat_nesting e) (gkat_nesting f) (gkat_pieces names e) (gkat_pieces names f) (gkat_back e is.0).0 (gkat_back f is.1).0)
    gkat_back (choice b e f) is =
        from_unit (choice b e f) (gkat_nesting (choice b e f)) (gkat_pieces names (choice b e f)) (choice_back b e f (gkat_nesting e) (gkat_nesting f) (gkat_pieces names e) (gkat_pieces names f) is.0 (gkat_back e is.1).0 (gkat_back f is.2).0)
    gkat_back (loop b e) is =
        let operand = (gkat_back e is.1).1 in
        let turns = loop_back b e (operand_nesting e) (operand_pieces e) is.0 operand in
        (turns, round_back (loop b e) (gkat_nesting (loop b e)) (gkat_pieces names (loop b e)) turns)

    -- ---- text printed within the limits reads back

    pub printed_back : (e : GkatTree) → GkatIsNamed w names e → length (spelled (gkat_pieces names e [])) ≤ MAX_LEN → gkat_nesting e ≤ MAX_OPEN → ReadsBack w (gkat_pieces names e []) e
    printed_back e is len depth =
        let s = (gkat_back e is).0 0 [] in
        let within : 0 + gkat_nesting e ≤ MAX_OPEN = omega (arith, depth) in
        let tree = s.holds.tree 0 within in
        record {
          lexes = printed (gkat_pieces names e []) (gkat_separate w names e is [] nothing_ends tt) len;
          phrase = record { phrase = one_product (one_factor s.phrase); spelled = s.spelled; obeys = s.obeys; fits = s.holds.fits 0 within };
          tree = rw tree refl;
        }
