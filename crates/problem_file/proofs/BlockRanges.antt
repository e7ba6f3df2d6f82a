-- The programs of blocks use only declared tests, actions and variables.
use Rattle.std.proofs.Common.{◌≡◌, ℕ, ◌+◌, ◌<◌, List, [], ◌∷◌, ◌++◌, Bool, true, false, nat_lt, cond as if_true, slice_get, Option, Some, None, Ok, Err, refl, subst}
use Rattle.kat_model.specs.declared.limits.TheConstants.{MAX_OPEN}
use Rattle.text_parser.specs.declared.fault.TextFault.TheVariants.{TooDeep}
use Rattle.text_parser.specs.Parsed.{◌>>=◌}
use Rattle.text_parser.specs.Actions.{context}
use Rattle.text_parser.proofs.ParserSoundness.{bind_ok}
use Rattle.text_parser.specs.declared.meaning.Meaning.{Meaning}
use Rattle.text_parser.specs.declared.meaning.Meaning.TheVariants.{Test, Action, Var, Term, Prog}
use Rattle.text_parser.specs.ScopeParts.{ScopeParts, meaning}
use Rattle.text_parser.specs.Sound.{IsExprName}
use Rattle.while_lang.specs.Programs.{ProgTree, empty, skip_then, abort_then, assert_then, act_then, assign_then, branch_then, loop_then}
use Rattle.while_lang.specs.Programs.{StmtTree, skip, abort, assert, act, assign, branch, loop, with_stmt, prog_of, stmts_of}
use Rattle.while_lang.specs.NamedProgs.{ProgParts}
use Rattle.while_lang.specs.Blocks.{enter}
use Rattle.while_lang.specs.BlockPhrases.{BlockSymbol, block, BlockPhrase, braced, no_stmts, more_stmts, skip_stmt, abort_stmt, assert_stmt, name_stmt, assign_stmt, if_stmt, while_stmt, no_else, else_block, else_if}
use Rattle.while_lang.specs.BlockFolds.{fold_cond, fold_expr, fold_block}
use Rattle.while_lang.specs.BlockBuilding.{spliced, named_stmts, target_var, block_trees}
use Rattle.while_lang.specs.BlockSound.{BlockIsSound}
use Rattle.problem_file.specs.Working.Numbers.{AreNumbered}
use Rattle.while_lang.specs.Ranges.{IsProgInRange}
use Rattle.problem_file.proofs.Results.{same_ok}
use Rattle.problem_file.proofs.InRanges.{DefinedInRange, cond_in, expr_in}

-- the numbers in each program are below these bounds
abbrev pub ProgsInRange : List ProgParts → ℕ → ℕ → ℕ → Type 0
ProgsInRange ps t a v = (i : ℕ) (p : ProgParts) → slice_get ps i ≡ Some p → IsProgInRange t a v p.tree

entered : (d e at : ℕ) → enter d at ≡ Ok e → d + 1 ≡ e
entered d e at h = by_depth (nat_lt d MAX_OPEN) h where
  by_depth : (b : Bool) → if_true b (Ok (d + 1)) (Err (TooDeep at)) ≡ Ok e → d + 1 ≡ e
  by_depth true k = same_ok (d + 1) e k
  by_depth false k = absurd cc

module _ (t a v : ℕ) where
  -- the numbers in the program of these statements are below the bounds
  abbrev In : List StmtTree → Type 0
  In ss = IsProgInRange t a v (prog_of ss)

  -- a statement prepended to a program
  in_front : (s : StmtTree) (p q : ProgTree) → IsProgInRange t a v (with_stmt s p) → IsProgInRange t a v q → IsProgInRange t a v (with_stmt s q)
  in_front skip p q h k = k
  in_front abort p q h k = k
  in_front (assert b) p q h k = (h.0, k)
  in_front (act x) p q h k = (h.0, k)
  in_front (assign x e) p q h k = (h.0, h.1, k)
  in_front (branch b f g) p q h k = (h.0, h.1, h.2, k)
  in_front (loop b f) p q h k = (h.0, h.1, k)

  in_rest : (s : StmtTree) (p : ProgTree) → IsProgInRange t a v (with_stmt s p) → IsProgInRange t a v p
  in_rest skip p h = h
  in_rest abort p h = h
  in_rest (assert b) p h = h.1
  in_rest (act x) p h = h.1
  in_rest (assign x e) p h = h.2
  in_rest (branch b f g) p h = h.3
  in_rest (loop b f) p h = h.2

  in_both : (ss rs : List StmtTree) → In ss → In rs → In (ss ++ rs)
  in_both [] rs h k = k
  in_both (s ∷ ss) rs h k = in_front s (prog_of ss) (prog_of (ss ++ rs)) h (in_both ss rs (in_rest s (prog_of ss) h) k)

  -- the statements of a program
  in_list : (p : ProgTree) → IsProgInRange t a v p → In (stmts_of p)
  in_list empty h = tt
  in_list (skip_then p) h = in_list p h
  in_list (abort_then p) h = in_list p h
  in_list (assert_then b p) h = (h.0, in_list p h.1)
  in_list (act_then x p) h = (h.0, in_list p h.1)
  in_list (assign_then x e p) h = (h.0, h.1, in_list p h.2)
  in_list (branch_then b f g p) h = (h.0, h.1, h.2, in_list p h.3)
  in_list (loop_then b f p) h = (h.0, h.1, in_list p h.2)

  module _ (w : ScopeParts) (ps : List ProgParts) (count : ℕ) (numbered : AreNumbered w t a v count) (defined : DefinedInRange w t a) (progs : ProgsInRange ps t a v) where
    spliced_in : (i : ℕ) (o : Option ProgParts) → slice_get ps i ≡ o → In (spliced o)
    spliced_in i None e = tt
    spliced_in i (Some p) e = in_list p.tree (progs i p e)

    named_in : (name : List ℕ) (o : Option Meaning) → meaning w name ≡ o → In (named_stmts ps o)
    named_in name None e = tt
    named_in name (Some (Test k)) e = tt
    named_in name (Some (Action k)) e = (numbered.named_actions name k e, tt)
    named_in name (Some (Var k)) e = tt
    named_in name (Some (Term i)) e = tt
    named_in name (Some (Prog i)) e = spliced_in i (slice_get ps i) refl

    target_in : (name : List ℕ) (o : Option Meaning) → meaning w name ≡ o → IsExprName o → target_var o < v
    target_in name None e h = absurd h
    target_in name (Some (Test k)) e h = absurd h
    target_in name (Some (Action k)) e h = absurd h
    target_in name (Some (Var k)) e h = numbered.named_vars name k e
    target_in name (Some (Term i)) e h = absurd h
    target_in name (Some (Prog i)) e h = absurd h

    stmts_in : (d : ℕ) {x : BlockSymbol} (p : BlockPhrase x) (ss rs : List StmtTree) → BlockIsSound w ps d p → In ss → fold_block (block_trees w ps) d p ss ≡ Ok rs → In rs
    stmts_in d (braced l p r) ss rs sound h e =
        let g = block_trees w ps in
        let m = bind_ok (enter d l.at) (λ k. fold_block g k p [] >>= λ u. Ok u) rs e in
        let n = bind_ok (fold_block g m.0 p []) (λ u. Ok u) rs m.2 in
        subst In (same_ok n.0 rs n.2) (stmts_in m.0 p [] n.0 (subst (λ k. BlockIsSound w ps k p) (entered d m.0 l.at m.1) sound) tt n.1)
    stmts_in d no_stmts ss rs sound h e = subst In (same_ok ss rs e) h
    stmts_in d (more_stmts s p) ss rs sound h e =
        let m = bind_ok (fold_block (block_trees w ps) d s ss) (fold_block (block_trees w ps) d p) rs e in
        stmts_in d p m.0 rs sound.1 (stmts_in d s ss m.0 sound.0 h m.1) m.2
    stmts_in d (skip_stmt l end) ss rs sound h e = subst In (same_ok (ss ++ skip ∷ []) rs e) (in_both ss (skip ∷ []) h tt)
    stmts_in d (abort_stmt l end) ss rs sound h e = subst In (same_ok (ss ++ abort ∷ []) rs e) (in_both ss (abort ∷ []) h tt)
    stmts_in d (assert_stmt l b end) ss rs sound h e =
        let m = bind_ok (fold_cond (block_trees w ps) d b) (λ c. Ok (ss ++ assert c ∷ [])) rs e in
        let c = cond_in t a v w count numbered defined (context d false true) b m.0 m.1 in
        subst In (same_ok (ss ++ assert m.0 ∷ []) rs m.2) (in_both ss (assert m.0 ∷ []) h (c, tt))
    stmts_in d (name_stmt l end) ss rs sound h e =
        subst In (same_ok (ss ++ named_stmts ps (meaning w l.text)) rs e) (in_both ss (named_stmts ps (meaning w l.text)) h (named_in l.text (meaning w l.text) refl))
    stmts_in d (assign_stmt l becomes x end) ss rs sound h e =
        let y = target_var (meaning w l.text) in
        let m = bind_ok (fold_expr (block_trees w ps) d x) (λ c. Ok (ss ++ assign y c ∷ [])) rs e in
        let c = expr_in t a v w count numbered defined (context d false true) x m.0 m.1 in
        subst In (same_ok (ss ++ assign y m.0 ∷ []) rs m.2) (in_both ss (assign y m.0 ∷ []) h (target_in l.text (meaning w l.text) refl sound.0, c, tt))
    stmts_in d (if_stmt l r) ss rs sound h e = stmts_in d r ss rs sound h e
    stmts_in d (while_stmt l b p) ss rs sound h e =
        let g = block_trees w ps in
        let m = bind_ok (fold_cond g d b) (λ c. fold_block g d p ss >>= λ u. Ok (ss ++ loop c (prog_of u) ∷ [])) rs e in
        let n = bind_ok (fold_block g d p ss) (λ u. Ok (ss ++ loop m.0 (prog_of u) ∷ [])) rs m.2 in
        let c = cond_in t a v w count numbered defined (context d false true) b m.0 m.1 in
        subst In (same_ok (ss ++ loop m.0 (prog_of n.0) ∷ []) rs n.2) (in_both ss (loop m.0 (prog_of n.0) ∷ []) h (c, stmts_in d p ss n.0 sound.1 h n.1, tt))
    stmts_in d (no_else b p) ss rs sound h e =
        let g = block_trees w ps in
        let m = bind_ok (fold_cond g d b) (λ c. fold_block g d p ss >>= λ u. Ok (ss ++ branch c (prog_of u) (prog_of []) ∷ [])) rs e in
        let n = bind_ok (fold_block g d p ss) (λ u. Ok (ss ++ branch m.0 (prog_of u) (prog_of []) ∷ [])) rs m.2 in
        let c = cond_in t a v w count numbered defined (context d false true) b m.0 m.1 in
        subst In (same_ok (ss ++ branch m.0 (prog_of n.0) (prog_of []) ∷ []) rs n.2) (in_both ss (branch m.0 (prog_of n.0) (prog_of []) ∷ []) h (c, stmts_in d p ss n.0 sound.1 h n.1, tt, tt))
    stmts_in d (else_block b p l q) ss rs sound h e =
        let g = block_trees w ps in
        let m = bind_ok (fold_cond g d b) (λ c. fold_block g d p ss >>= λ u. fold_block g d q ss >>= λ k. Ok (ss ++ branch c (prog_of u) (prog_of k) ∷ [])) rs e in
        let n = bind_ok (fold_block g d p ss) (λ u. fold_block g d q ss >>= λ k. Ok (ss ++ branch m.0 (prog_of u) (prog_of k) ∷ [])) rs m.2 in
        let o = bind_ok (fold_block g d q ss) (λ k. Ok (ss ++ branch m.0 (prog_of n.0) (prog_of k) ∷ [])) rs n.2 in
        let c = cond_in t a v w count numbered defined (context d false true) b m.0 m.1 in
        subst In (same_ok (ss ++ branch m.0 (prog_of n.0) (prog_of o.0) ∷ []) rs o.2)
        (in_both ss (branch m.0 (prog_of n.0) (prog_of o.0) ∷ []) h (c, stmts_in d p ss n.0 sound.1 h n.1, stmts_in d q ss o.0 sound.2 h o.1, tt))
    stmts_in d (else_if b p l i r) ss rs sound h e =
        let g = block_trees w ps in
        let m = bind_ok (fold_cond g d b) (λ c. fold_block g d p ss >>= λ u. enter d i.at >>= λ k. fold_block g k r [] >>= λ f. Ok (ss ++ branch c (prog_of u) (prog_of f) ∷ [])) rs e in
        let n = bind_ok (fold_block g d p ss) (λ u. enter d i.at >>= λ k. fold_block g k r [] >>= λ f. Ok (ss ++ branch m.0 (prog_of u) (prog_of f) ∷ [])) rs m.2 in
        let k = bind_ok (enter d i.at) (λ k. fold_block g k r [] >>= λ f. Ok (ss ++ branch m.0 (prog_of n.0) (prog_of f) ∷ [])) rs n.2 in
        let o = bind_ok (fold_block g k.0 r []) (λ f. Ok (ss ++ branch m.0 (prog_of n.0) (prog_of f) ∷ [])) rs k.2 in
        let c = cond_in t a v w count numbered defined (context d false true) b m.0 m.1 in
        let last = stmts_in k.0 r [] o.0 (subst (λ j. BlockIsSound w ps j r) (entered d k.0 i.at k.1) sound.2) tt o.1 in
        subst In (same_ok (ss ++ branch m.0 (prog_of n.0) (prog_of o.0) ∷ []) rs o.2) (in_both ss (branch m.0 (prog_of n.0) (prog_of o.0) ∷ []) h (c, stmts_in d p ss n.0 sound.1 h n.1, last, tt))

    pub block_in : (p : BlockPhrase block) (tree : ProgTree) → BlockIsSound w ps 0 p → (fold_block (block_trees w ps) 0 p [] >>= λ ss. Ok (prog_of ss)) ≡ Ok tree → IsProgInRange t a v tree
    block_in p tree sound e =
        let m = bind_ok (fold_block (block_trees w ps) 0 p []) (λ ss. Ok (prog_of ss)) tree e in
        subst (IsProgInRange t a v) (same_ok (prog_of m.0) tree m.2) (stmts_in 0 p [] m.0 sound tt m.1)
