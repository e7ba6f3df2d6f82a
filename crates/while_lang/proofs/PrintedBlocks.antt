-- A printed program is a block with the same tree, and reads back.
use Rattle.std.proofs.Common.{◌≡◌, ◌<◌, ◌≤◌, ◌+◌, ℕ, max, true, false, List, [], ◌∷◌, ◌++◌, length, Ok, refl, sym, ap, ◌∙◌, subst, arith, append_assoc}
use Rattle.std.proofs.lemmas.Bool.{le-ltb}
use Rattle.std.proofs.lemmas.List.{append-nil}
use Rattle.std.specs.Prelude.{codes}
use Rattle.kat_model.specs.declared.limits.TheConstants.{MAX_TERM_NODES, MAX_EXPR_NODES, MAX_OPEN}
use Rattle.kat_model.specs.Expressions.{ExprTree, CondTree}
use Rattle.text_parser.specs.Pieces.{Piece, word, symbol, gap}
use Rattle.text_parser.proofs.Printed.{printed}
use Rattle.text_parser.specs.declared.terminal.Terminal.{Terminal}
use Rattle.text_parser.specs.declared.terminal.Terminal.TheVariants.{Name, Keyword, Separator}
use Rattle.text_parser.specs.declared.terminal.Keyword.TheVariants as keyword
use Rattle.text_parser.specs.declared.terminal.Separator.TheVariants.{Semicolon, CurlyOpen, Becomes}
use Rattle.text_parser.specs.Lexemes.{Lexeme, lexeme}
use Rattle.text_parser.specs.Parsed.{◌>>=◌, before, change, place_of}
use Rattle.text_parser.specs.Actions.{context}
use Rattle.text_parser.specs.Phrases.{one_conj, one_lit, one_mul, one_fac, yield_before, MeetsLookahead}
use Rattle.text_parser.specs.declared.meaning.Meaning.{Meaning}
use Rattle.text_parser.specs.declared.meaning.Meaning.TheVariants.{Action, Var}
use Rattle.text_parser.specs.ScopeParts.{ScopeParts, IsNameOf}
use Rattle.text_parser.specs.Laws.{given_nodes}
use Rattle.text_parser.specs.Sound.{IsExprName}
use Rattle.text_parser.proofs.Measured.{ok_value}
use Rattle.text_print.specs.Printing.{expr_pieces, cond_pieces, CondIsNamed, ExprIsNamed, expr_nesting, cond_nesting}
use Rattle.text_print.proofs.WordTerminals.{name_terminal}
use Rattle.text_print.proofs.PrintedPhrases.{lexemes_from, leaf}
use Rattle.text_print.proofs.PrintedExprs.{expr_back}
use Rattle.text_print.proofs.PrintedConds.{cond_back}
use Rattle.text_print.proofs.PrintedReadings.{read_as, inside_ok}
use Rattle.while_lang.specs.Programs.{ProgTree, empty, skip_then, abort_then, assert_then, act_then, assign_then, branch_then, loop_then, prog_of, stmts_of}
use Rattle.while_lang.specs.Programs.{StmtTree, skip, abort, assert, act, assign, branch as branch_stmt, loop}
use Rattle.while_lang.specs.ProgramSizes.{prog_size, largest_in}
use Rattle.while_lang.specs.ProgramPrinting.{keyword_pieces, in_curly, stmts_pieces, block_pieces, ProgIsNamed, stmts_nesting, block_levels}
use Rattle.while_lang.specs.NamedProgs.{ProgParts}
use Rattle.while_lang.specs.BlockPhrases.{BlockSymbol, block, stmts, stmt, BlockPhrase, braced, no_stmts, more_stmts, skip_stmt, abort_stmt, assert_stmt, name_stmt, assign_stmt, if_stmt, while_stmt, else_block}
use Rattle.while_lang.specs.BlockPhrases.{block_before, BlockObeys, BlockFits}
use Rattle.while_lang.specs.BlockFolds.{fold_block}
use Rattle.while_lang.specs.BlockBuilding.{named_stmts, block_trees}
use Rattle.while_lang.specs.BlockMeasuring.{extent, block_extents}
use Rattle.while_lang.specs.BlockReadings.{measured_block, built_block, block_at}
use Rattle.while_lang.specs.BlockSound.{IsStmtName, BlockIsSound, name_nesting, block_nesting}
use Rattle.while_lang.specs.BlockLaws.{AreLimited}
use Rattle.while_lang.specs.PrintLaws.{PrintedReadsBack}
use Rattle.while_lang.proofs.ScannedBlocks.{enters}
use Rattle.while_lang.proofs.BlockCompleteness.{parsed}
use Rattle.while_lang.proofs.BlockNestings.{sound_measured}
use Rattle.while_lang.proofs.BlockMeasures.{block_measured, prog_of-stmts_of}
use Rattle.while_lang.proofs.SeparatePrograms.{block_separate}

module _ (w : ScopeParts) (progs : List ProgParts) where
  -- the phrase adds the statements `xs` and has nesting `levels`
  pub record Adds (x : BlockSymbol) (xs : List StmtTree) (levels : ℕ) (p : BlockPhrase x) : Type 0 where
    pub tree : (d : ℕ) → d + levels ≤ MAX_OPEN → (ss : List StmtTree) → fold_block (block_trees w progs) d p ss ≡ Ok (ss ++ xs)
    pub sound : (d : ℕ) → d + levels ≤ MAX_OPEN → BlockIsSound w progs d p
    pub fits : (d : ℕ) → d + levels ≤ MAX_OPEN → BlockFits d p
    pub deep : block_nesting w progs p ≡ levels

  -- the block has the statements `xs`, whatever precedes it
  pub record Makes (xs : List StmtTree) (levels : ℕ) (p : BlockPhrase block) : Type 0 where
    pub tree : (d : ℕ) → d + levels ≤ MAX_OPEN → (ss : List StmtTree) → fold_block (block_trees w progs) d p ss ≡ Ok xs
    pub sound : (d : ℕ) → d + levels ≤ MAX_OPEN → BlockIsSound w progs d p
    pub fits : (d : ℕ) → d + levels ≤ MAX_OPEN → BlockFits d p
    pub deep : block_nesting w progs p ≡ levels

  -- the pieces `qs` begin with a phrase that satisfies `P` and continue with `ps`
  pub record Begins (x : BlockSymbol) (P : BlockPhrase x → Type 0) (at : ℕ) (qs ps : List Piece) : Type 0 where
    pub phrase : BlockPhrase x
    pub end : ℕ
    pub spelled : lexemes_from at qs ≡ block_before phrase (lexemes_from end ps)
    pub obeys : BlockObeys phrase (lexemes_from end ps)
    pub holds : P phrase

  -- ---- lists and blocks

  none_begins : (at : ℕ) (ps : List Piece) → Begins stmts (Adds stmts [] 0) at ps ps
  none_begins at ps = record {
    phrase = no_stmts;
    end = at;
    spelled = refl;
    obeys = tt;
    holds = record { tree = λ d le ss. ap Ok (sym (append-nil ss)); sound = λ d le. tt; fits = λ d le. tt; deep = refl };
  }

  more_begins : (x : StmtTree) (xs : List StmtTree) (m n : ℕ) (at : ℕ) (qs mid ps : List Piece) (a : Begins stmt (Adds stmt (x ∷ []) m) at qs mid) → Begins stmts (Adds stmts xs n) a.end mid ps → Begins stmts (Adds stmts (x ∷ xs) (max m n)) at qs ps
  more_begins x xs m n at qs mid ps a b = record {
    phrase = more_stmts a.phrase b.phrase;
    end = b.end;
    spelled = a.spelled ∙ ap (block_before a.phrase) b.spelled;
    obeys = (subst (BlockObeys a.phrase) b.spelled a.obeys, b.obeys);
    holds = record {
      tree = λ d le ss. rw (a.holds.tree d (omega arith) ss) (b.holds.tree d (omega arith) (ss ++ x ∷ []) ∙ ap Ok (append_assoc ss (x ∷ []) xs));
      sound = λ d le. (a.holds.sound d (omega arith), b.holds.sound d (omega arith));
      fits = λ d le. (a.holds.fits d (omega arith), b.holds.fits d (omega arith));
      deep = let h = a.holds.deep in let k = b.holds.deep in omega (arith, h, k);
    };
  }

  block_begins : (xs : List StmtTree) (n : ℕ) (at : ℕ) (inside : List Piece → List Piece) (ps : List Piece) → Begins stmts (Adds stmts xs n) (at + 1) (inside (gap 32 ∷ symbol (codes "}") ∷ ps)) (gap 32 ∷ symbol (codes "}") ∷ ps) → Begins block (Makes xs (n + 1)) at (in_curly inside ps) ps
  block_begins xs n at inside ps a = record {
    phrase = braced (leaf at (codes "{")) a.phrase (leaf (a.end + 1) (codes "}"));
    end = a.end + 1 + 1;
    spelled = ap (λ (l : List Lexeme). lexeme (Separator CurlyOpen) at (codes "{") ∷ l) a.spelled;
    obeys = a.obeys;
    holds = record {
      tree = λ d le ss. let lt : d < MAX_OPEN = omega arith in rw (enters d at lt, a.holds.tree (d + 1) (omega arith) []) refl;
      sound = λ d le. a.holds.sound (d + 1) (omega arith);
      fits = λ d le. (omega arith, a.holds.fits (d + 1) (omega arith));
      deep = ap (λ (k : ℕ). k + 1) a.holds.deep;
    };
  }

  module _ (names : Meaning → List ℕ) where
    -- ---- statements

    skip_begins : (at : ℕ) (ps : List Piece) → Begins stmt (Adds stmt (skip ∷ []) 0) at (gap 32 ∷ word (codes "skip") ∷ symbol (codes ";") ∷ ps) ps
    skip_begins at ps = record {
      phrase = skip_stmt (leaf (at + 1) (codes "skip")) (leaf (at + 1 + 4) (codes ";"));
      end = at + 1 + 4 + 1;
      spelled = refl;
      obeys = tt;
      holds = record { tree = λ d le ss. refl; sound = λ d le. tt; fits = λ d le. tt; deep = refl };
    }

    abort_begins : (at : ℕ) (ps : List Piece) → Begins stmt (Adds stmt (abort ∷ []) 0) at (gap 32 ∷ word (codes "abort") ∷ symbol (codes ";") ∷ ps) ps
    abort_begins at ps = record {
      phrase = abort_stmt (leaf (at + 1) (codes "abort")) (leaf (at + 1 + 5) (codes ";"));
      end = at + 1 + 5 + 1;
      spelled = refl;
      obeys = tt;
      holds = record { tree = λ d le ss. refl; sound = λ d le. tt; fits = λ d le. tt; deep = refl };
    }

    act_begins : (a : ℕ) → IsNameOf w (names (Action a)) (Action a) → (at : ℕ) (ps : List Piece) → Begins stmt (Adds stmt (act a ∷ []) 0) at (gap 32 ∷ word (names (Action a)) ∷ symbol (codes ";") ∷ ps) ps
    act_begins a is at ps =
        let name = names (Action a) in
        record {
          phrase = name_stmt (leaf (at + 1) name) (leaf (at + 1 + length name) (codes ";"));
          end = at + 1 + length name + 1;
          spelled = ap (λ (t : Terminal). lexeme t (at + 1) name ∷ lexeme (Separator Semicolon) (at + 1 + length name) (codes ";") ∷ lexemes_from (at + 1 + length name + 1) ps) (name_terminal name is.identifier.no_keyword);
          obeys = tt;
          holds = record {
            tree = λ d le ss. ap (λ o. Ok (ss ++ named_stmts progs o)) is.means;
            sound = λ d le. subst (IsStmtName progs d) (sym is.means) tt;
            fits = λ d le. tt;
            deep = ap (name_nesting progs) is.means;
          };
        }

    assert_begins : (b : CondTree) → CondIsNamed w names b → (at : ℕ) (ps : List Piece) → Begins stmt (Adds stmt (assert b ∷ []) (cond_nesting b)) at (keyword_pieces (codes "assert") (cond_pieces names b (symbol (codes ";") ∷ ps))) ps
    assert_begins b is at ps =
        let c = cond_back w names b is (at + 1 + 6 + 1) (symbol (codes ";") ∷ ps) (λ n. refl) in
        record {
          phrase = assert_stmt (leaf (at + 1) (codes "assert")) (one_conj (one_lit c.phrase)) (leaf c.end (codes ";"));
          end = c.end + 1;
          spelled = ap (λ (l : List Lexeme). lexeme (Keyword keyword.Assert) (at + 1) (codes "assert") ∷ l) c.spelled;
          obeys = c.obeys;
          holds = record {
            tree = λ d le ss. let built = c.holds.tree (context d false true) le in rw (built) refl;
            sound = λ d le. c.holds.sound (context d false true) (λ h. refl);
            fits = λ d le. c.holds.fits d le;
            deep = c.holds.deep;
          };
        }

    assign_begins : (x : ℕ) (e : ExprTree) → IsNameOf w (names (Var x)) (Var x) → ExprIsNamed w names e → (at : ℕ) (ps : List Piece) → Begins stmt (Adds stmt (assign x e ∷ []) (expr_nesting e)) at (keyword_pieces (names (Var x)) (symbol (codes ":=") ∷ gap 32 ∷ expr_pieces names e (symbol (codes ";") ∷ ps))) ps
    assign_begins x e is named at ps =
        let name = names (Var x) in
        let becomes = at + 1 + length name + 1 in
        let a = expr_back w names e named (becomes + 2 + 1) (symbol (codes ";") ∷ ps) in
        record {
          phrase = assign_stmt (leaf (at + 1) name) (leaf becomes (codes ":=")) (one_mul (one_fac a.phrase)) (leaf a.end (codes ";"));
          end = a.end + 1;
          spelled =
              ap (λ (t : Terminal). lexeme t (at + 1) name ∷ lexeme (Separator Becomes) becomes (codes ":=") ∷ lexemes_from (becomes + 2 + 1) (expr_pieces names e (symbol (codes ";") ∷ ps))) (name_terminal name is.identifier.no_keyword)
              ∙ ap (λ (l : List Lexeme). lexeme Name (at + 1) name ∷ lexeme (Separator Becomes) becomes (codes ":=") ∷ l) a.spelled;
          obeys = a.obeys;
          holds = record {
            tree = λ d le ss. let built = a.holds.tree (context d false true) le in rw (built, is.means) refl;
            sound = λ d le. (subst IsExprName (sym is.means) tt, a.holds.sound (context d false true) refl);
            fits = λ d le. a.holds.fits d le;
            deep = a.holds.deep;
          };
        }

    -- ---- programs

    pub stmts_begin : (p : ProgTree) → ProgIsNamed w names p → (at : ℕ) (ps : List Piece) → Begins stmts (Adds stmts (stmts_of p) (stmts_nesting p)) at (stmts_pieces names p ps) ps
    stmts_begin empty is at ps = none_begins at ps
    stmts_begin (skip_then rest) is at ps =
        let a = skip_begins at (stmts_pieces names rest ps) in
        deeper (max 0 (stmts_nesting rest)) (stmts_nesting rest) (omega arith) (more_begins skip (stmts_of rest) 0 (stmts_nesting rest) at _ (stmts_pieces names rest ps) ps a (stmts_begin rest is a.end ps))
      where
        deeper : (m n : ℕ) → m ≡ n → Begins stmts (Adds stmts (skip ∷ stmts_of rest) m) at (stmts_pieces names (skip_then rest) ps) ps → Begins stmts (Adds stmts (skip ∷ stmts_of rest) n) at (stmts_pieces names (skip_then rest) ps) ps
        deeper m n e b = subst (λ (k : ℕ). Begins stmts (Adds stmts (skip ∷ stmts_of rest) k) at (stmts_pieces names (skip_then rest) ps) ps) e b
    stmts_begin (abort_then rest) is at ps =
        let a = abort_begins at (stmts_pieces names rest ps) in
        deeper (max 0 (stmts_nesting rest)) (stmts_nesting rest) (omega arith) (more_begins abort (stmts_of rest) 0 (stmts_nesting rest) at _ (stmts_pieces names rest ps) ps a (stmts_begin rest is a.end ps))
      where
        deeper : (m n : ℕ) → m ≡ n → Begins stmts (Adds stmts (abort ∷ stmts_of rest) m) at (stmts_pieces names (abort_then rest) ps) ps → Begins stmts (Adds stmts (abort ∷ stmts_of rest) n) at (stmts_pieces names (abort_then rest) ps) ps
        deeper m n e b = subst (λ (k : ℕ). Begins stmts (Adds stmts (abort ∷ stmts_of rest) k) at (stmts_pieces names (abort_then rest) ps) ps) e b
    stmts_begin (assert_then b rest) is at ps =
        let a = assert_begins b is.0 at (stmts_pieces names rest ps) in
        more_begins (assert b) (stmts_of rest) (cond_nesting b) (stmts_nesting rest) at _ (stmts_pieces names rest ps) ps a (stmts_begin rest is.1 a.end ps)
    stmts_begin (act_then n rest) is at ps =
        let a = act_begins n is.0 at (stmts_pieces names rest ps) in
        deeper (max 0 (stmts_nesting rest)) (stmts_nesting rest) (omega arith) (more_begins (act n) (stmts_of rest) 0 (stmts_nesting rest) at _ (stmts_pieces names rest ps) ps a (stmts_begin rest is.1 a.end ps))
      where
        deeper : (i j : ℕ) → i ≡ j → Begins stmts (Adds stmts (act n ∷ stmts_of rest) i) at (stmts_pieces names (act_then n rest) ps) ps → Begins stmts (Adds stmts (act n ∷ stmts_of rest) j) at (stmts_pieces names (act_then n rest) ps) ps
        deeper i j e b = subst (λ (k : ℕ). Begins stmts (Adds stmts (act n ∷ stmts_of rest) k) at (stmts_pieces names (act_then n rest) ps) ps) e b
    stmts_begin (assign_then x e rest) is at ps =
        let a = assign_begins x e is.0 is.1 at (stmts_pieces names rest ps) in
        more_begins (assign x e) (stmts_of rest) (expr_nesting e) (stmts_nesting rest) at _ (stmts_pieces names rest ps) ps a (stmts_begin rest is.2 a.end ps)
    stmts_begin (branch_then b p q rest) is at ps =
        let mid = stmts_pieces names rest ps in
        let second = in_curly (stmts_pieces names q) mid in
        let after = in_curly (stmts_pieces names p) (keyword_pieces (codes "else") second) in
        let c = cond_back w names b is.0 (at + 1 + 2 + 1) (gap 32 ∷ after) (λ n. refl) in
        let f = block_begins (stmts_of p) (stmts_nesting p) (c.end + 1) (stmts_pieces names p) (keyword_pieces (codes "else") second) (stmts_begin p is.1 (c.end + 1 + 1) (gap 32 ∷ symbol (codes "}") ∷ keyword_pieces (codes "else") second)) in
        let s = block_begins (stmts_of q) (stmts_nesting q) (f.end + 1 + 4 + 1) (stmts_pieces names q) mid (stmts_begin q is.2 (f.end + 1 + 4 + 1 + 1) (gap 32 ∷ symbol (codes "}") ∷ mid)) in
        let last = ap (λ (l : List Lexeme). lexeme (Keyword keyword.Else) (f.end + 1) (codes "else") ∷ l) s.spelled in
        let blocks = f.spelled ∙ ap (block_before f.phrase) last in
        let a : Begins stmt (Adds stmt (branch_stmt b p q ∷ []) (max (cond_nesting b) (max (stmts_nesting p + 1) (stmts_nesting q + 1)))) at (keyword_pieces (codes "if") (cond_pieces names b (gap 32 ∷ after))) mid = record {
          phrase = if_stmt (leaf (at + 1) (codes "if")) (else_block (one_conj (one_lit c.phrase)) f.phrase (leaf (f.end + 1) (codes "else")) s.phrase);
          end = s.end;
          spelled = ap (λ (l : List Lexeme). lexeme (Keyword keyword.If) (at + 1) (codes "if") ∷ l) (c.spelled ∙ ap (yield_before c.phrase) blocks);
          obeys = (subst (MeetsLookahead c.phrase) blocks c.obeys, subst (BlockObeys f.phrase) last f.obeys, s.obeys);
          holds = record {
            tree = λ d le ss.
                let built = c.holds.tree (context d false true) (omega arith) in
                rw (built, f.holds.tree d (omega arith) ss, s.holds.tree d (omega arith) ss, prog_of-stmts_of p, prog_of-stmts_of q) refl;
            sound = λ d le. (c.holds.sound (context d false true) (λ h. refl), f.holds.sound d (omega arith), s.holds.sound d (omega arith));
            fits = λ d le. (c.holds.fits d (omega arith), f.holds.fits d (omega arith), s.holds.fits d (omega arith));
            deep = let x = c.holds.deep in let y = f.holds.deep in let z = s.holds.deep in omega (arith, x, y, z);
          };
        } in
        more_begins (branch_stmt b p q) (stmts_of rest) (max (cond_nesting b) (max (stmts_nesting p + 1) (stmts_nesting q + 1))) (stmts_nesting rest) at _ mid ps a (stmts_begin rest is.3 a.end ps)
    stmts_begin (loop_then b p rest) is at ps =
        let mid = stmts_pieces names rest ps in
        let after = in_curly (stmts_pieces names p) mid in
        let c = cond_back w names b is.0 (at + 1 + 5 + 1) (gap 32 ∷ after) (λ n. refl) in
        let f = block_begins (stmts_of p) (stmts_nesting p) (c.end + 1) (stmts_pieces names p) mid (stmts_begin p is.1 (c.end + 1 + 1) (gap 32 ∷ symbol (codes "}") ∷ mid)) in
        let a : Begins stmt (Adds stmt (loop b p ∷ []) (max (cond_nesting b) (stmts_nesting p + 1))) at (keyword_pieces (codes "while") (cond_pieces names b (gap 32 ∷ after))) mid = record {
          phrase = while_stmt (leaf (at + 1) (codes "while")) (one_conj (one_lit c.phrase)) f.phrase;
          end = f.end;
          spelled = ap (λ (l : List Lexeme). lexeme (Keyword keyword.While) (at + 1) (codes "while") ∷ l) (c.spelled ∙ ap (yield_before c.phrase) f.spelled);
          obeys = (subst (MeetsLookahead c.phrase) f.spelled c.obeys, f.obeys);
          holds = record {
            tree = λ d le ss. let built = c.holds.tree (context d false true) (omega arith) in rw (built, f.holds.tree d (omega arith) ss, prog_of-stmts_of p) refl;
            sound = λ d le. (c.holds.sound (context d false true) (λ h. refl), f.holds.sound d (omega arith));
            fits = λ d le. (c.holds.fits d (omega arith), f.holds.fits d (omega arith));
            deep = let x = c.holds.deep in let y = f.holds.deep in omega (arith, x, y);
          };
        } in
        more_begins (loop b p) (stmts_of rest) (max (cond_nesting b) (stmts_nesting p + 1)) (stmts_nesting rest) at _ mid ps a (stmts_begin rest is.2 a.end ps)

  -- ---- the reading of a printed block

  few : (p : ProgTree) → largest_in p ≤ MAX_EXPR_NODES → prog_size p ≤ MAX_TERM_NODES → given_nodes (largest_in p) (prog_size p) ≤ MAX_TERM_NODES
  few p large size = rw (le-ltb MAX_EXPR_NODES (largest_in p) large) (omega arith)

  read_back : (limited : AreLimited progs) (t : ProgTree) (d n : ℕ) (p : BlockPhrase block) → BlockObeys p [] → Makes (stmts_of t) n p → d + n ≤ MAX_OPEN → largest_in t ≤ MAX_EXPR_NODES → prog_size t ≤ MAX_TERM_NODES → block_at w progs d (block_before p []) ≡ Ok (record { tree = t; nesting = n; rest = [] })
  read_back limited t d n p obeys h le large size =
      let m = ok_value (fold_block (block_extents w progs) d p (extent 0 0)) ((sound_measured w progs d p).1 (h.sound d le, h.fits d le)) in
      let k = block_measured w progs limited d p m.0 m.1 in
      let made : (fold_block (block_trees w progs) d p [] >>= λ ss. Ok (prog_of ss)) ≡ Ok t = rw (h.tree d le [], prog_of-stmts_of t) refl in
      let same : k.tree ≡ t = inside_ok k.tree t (fold_block (block_trees w progs) d p [] >>= λ ss. Ok (prog_of ss)) k.built made in
      let given : (m.0).nodes ≡ given_nodes (largest_in t) (prog_size t) = k.nodes ∙ ap (λ (x : ProgTree). given_nodes (largest_in x) (prog_size x)) same in
      read_as MAX_TERM_NODES (place_of (block_before p [])) (measured_block w progs d (block_before p [])) (built_block w progs d (block_before p [])) m.0 t n
      (parsed (block_extents w progs) p d (extent 0 0) [] obeys ∙ ap (before []) m.1)
      (ap (change prog_of) (parsed (block_trees w progs) p d [] [] obeys) ∙ rw (h.tree d le [], prog_of-stmts_of t) refl)
      (omega (arith, given, few t large size))
      (omega (arith, k.levels, h.deep, le))

pub printed_back : PrintedReadsBack
printed_back w progs names p d limited is len large size depth =
    let a = block_begins w progs (stmts_of p) (stmts_nesting p) 0 (stmts_pieces names p) [] (stmts_begin w progs names p is 1 (gap 32 ∷ symbol (codes "}") ∷ [])) in
    record {
      lexes = printed (block_pieces names p []) (block_separate w names p is [] tt) len;
      reads = ap (block_at w progs d) a.spelled ∙ read_back w progs limited p d (block_levels p) a.phrase a.obeys a.holds depth large size;
    }
