-- The measures of a block are those of its tree.
use Rattle.std.proofs.Common.{◌≡◌, ◌≤◌, ◌<◌, ◌+◌, ℕ, max, Bool, true, false, cond, nat_lt, List, [], ◌∷◌, ◌++◌, slice_get, Option, Some, None, Result, Ok, Err, refl, sym, ap, ◌∙◌, subst, arith}
use Rattle.std.proofs.lemmas.Bool.{ltb-true, ltb-false}
use Rattle.std.proofs.lemmas.List.{append-nil}
use Rattle.kat_model.specs.declared.limits.TheConstants.{MAX_TERM_NODES, MAX_EXPR_NODES, MAX_OPEN}
use Rattle.kat_model.specs.Expressions.{ExprTree, CondTree}
use Rattle.text_parser.specs.declared.fault.TextFault.{TextFault}
use Rattle.text_parser.specs.declared.fault.TextFault.TheVariants.{TooDeep}
use Rattle.text_parser.specs.Parsed.{◌>>=◌}
use Rattle.text_parser.specs.Actions.{context}
use Rattle.text_parser.specs.Phrases.{cond as cond_symbol, expr, Phrase}
use Rattle.text_parser.specs.declared.meaning.Meaning.{Meaning}
use Rattle.text_parser.specs.declared.meaning.Meaning.TheVariants.{Test, Action, Var, Term as TermName, Prog}
use Rattle.text_parser.specs.declared.extent.Extent.{Extent}
use Rattle.text_parser.specs.Sizes.{expr_size, cond_size, largest_expr, capped}
use Rattle.text_parser.specs.ScopeParts.{ScopeParts, meaning}
use Rattle.text_parser.specs.Measuring.{compared_nodes}
use Rattle.text_parser.specs.Laws.{given_nodes}
use Rattle.text_parser.proofs.Related.{Both, both_then}
use Rattle.text_parser.proofs.Measured.{cond_measured, expr_measured, given_compared, given_kept, made, given_of}
use Rattle.while_lang.specs.Programs.{ProgTree, empty, skip_then, abort_then, assert_then, act_then, assign_then, branch_then, loop_then, prog_of, stmts_of}
use Rattle.while_lang.specs.Programs.{StmtTree, skip, abort, assert, act, assign, branch as branch_stmt, loop, with_stmt}
use Rattle.while_lang.specs.ProgramSizes.{prog_size, largest_in}
use Rattle.while_lang.specs.NamedProgs.{ProgParts}
use Rattle.while_lang.specs.Blocks.{enter}
use Rattle.while_lang.specs.BlockPhrases.{BlockSymbol, block, BlockPhrase, braced, no_stmts, more_stmts, skip_stmt, abort_stmt, assert_stmt, name_stmt, assign_stmt, if_stmt, while_stmt, no_else, else_block, else_if, BlockFits}
use Rattle.while_lang.specs.BlockFolds.{fold_cond, fold_expr, fold_block}
use Rattle.while_lang.specs.BlockBuilding.{spliced, named_stmts, target_var, block_trees}
use Rattle.while_lang.specs.BlockMeasuring.{extent, with_node, beside, deeper, spliced_extent, named_extent, check_target, block_extents}
use Rattle.while_lang.specs.BlockSound.{BlockIsSound, block_nesting}
use Rattle.while_lang.specs.BlockLaws.{AreLimited, MeasuresBlock, MeasuresAreOfTrees}
use Rattle.while_lang.proofs.ProgramCounts.{prog_size-with_stmt}
use Rattle.while_lang.proofs.BlockNestings.{block_judged}

-- ---- node counts

given_beside : (a b s t : ℕ) → capped (given_nodes a s + given_nodes b t) ≡ given_nodes (max a b) (s + t)
given_beside a b s t = by_sizes (nat_lt MAX_EXPR_NODES a) refl (nat_lt MAX_EXPR_NODES b) refl (nat_lt MAX_EXPR_NODES (max a b)) refl where
  by_sizes : (x : Bool) → nat_lt MAX_EXPR_NODES a ≡ x → (y : Bool) → nat_lt MAX_EXPR_NODES b ≡ y → (z : Bool) → nat_lt MAX_EXPR_NODES (max a b) ≡ z → capped (cond x (MAX_TERM_NODES + 1) (capped s) + cond y (MAX_TERM_NODES + 1) (capped t)) ≡ cond z (MAX_TERM_NODES + 1) (capped (s + t))
  by_sizes true e y f true g = elim y as (λ v. capped ((MAX_TERM_NODES + 1) + cond v (MAX_TERM_NODES + 1) (capped t)) ≡ (MAX_TERM_NODES + 1)) [ true ↦ omega arith | false ↦ omega arith ]
  by_sizes true e y f false g = let p : MAX_EXPR_NODES < a = ltb-true MAX_EXPR_NODES a e in let q : max a b ≤ MAX_EXPR_NODES = ltb-false MAX_EXPR_NODES (max a b) g in absurd (omega arith)
  by_sizes false e true f true g = omega arith
  by_sizes false e true f false g = let p : MAX_EXPR_NODES < b = ltb-true MAX_EXPR_NODES b f in let q : max a b ≤ MAX_EXPR_NODES = ltb-false MAX_EXPR_NODES (max a b) g in absurd (omega arith)
  by_sizes false e false f true g =
      let p : a ≤ MAX_EXPR_NODES = ltb-false MAX_EXPR_NODES a e in let r : b ≤ MAX_EXPR_NODES = ltb-false MAX_EXPR_NODES b f in let q : MAX_EXPR_NODES < max a b = ltb-true MAX_EXPR_NODES (max a b) g in absurd (omega arith)
  by_sizes false e false f false g = omega arith

given_one : (a s : ℕ) → capped (given_nodes a s + 1) ≡ given_nodes a (s + 1)
given_one a s = elim (nat_lt MAX_EXPR_NODES a) as (λ b. capped (cond b (MAX_TERM_NODES + 1) (capped s) + 1) ≡ cond b (MAX_TERM_NODES + 1) (capped (s + 1))) [ true ↦ omega arith | false ↦ omega arith ]

given_small : (a s : ℕ) → a ≤ MAX_EXPR_NODES → capped s ≡ given_nodes a s
given_small a s le = by_size (nat_lt MAX_EXPR_NODES a) refl where
  by_size : (x : Bool) → nat_lt MAX_EXPR_NODES a ≡ x → capped s ≡ cond x (MAX_TERM_NODES + 1) (capped s)
  by_size true e = let p : MAX_EXPR_NODES < a = ltb-true MAX_EXPR_NODES a e in absurd (omega arith)
  by_size false e = refl

given_same : (a b s t : ℕ) → a ≡ b → s ≡ t → given_nodes a s ≡ given_nodes b t
given_same a b s t e f = ap (λ (x : ℕ). given_nodes x s) e ∙ ap (λ (x : ℕ). given_nodes b x) f

-- the extent has the reported number of nodes
abbrev Represents : Extent → ℕ → ℕ → Type 0
Represents m a s = m.nodes ≡ given_nodes a s

shows_beside : (m v : Extent) (a b s t : ℕ) → Represents m a s → Represents v b t → Represents (beside m v) (max a b) (s + t)
shows_beside m v a b s t e f = ap (λ (k : ℕ). capped (k + v.nodes)) e ∙ ap (λ (k : ℕ). capped (given_nodes a s + k)) f ∙ given_beside a b s t

shows_node : (m v : Extent) (a b s t : ℕ) → Represents m a s → Represents v b t → Represents (with_node m v) (max a b) (s + t + 1)
shows_node m v a b s t e f =
    let sum : capped (m.nodes + v.nodes + 1) ≡ capped (capped (m.nodes + v.nodes) + 1) = omega arith in
    sum ∙ ap (λ (k : ℕ). capped (k + 1)) (shows_beside m v a b s t e f) ∙ given_one (max a b) (s + t)

-- ---- the sizes of lists of statements

largest_in-with_stmt : (s : StmtTree) (rest : ProgTree) → largest_in (with_stmt s rest) ≡ max (largest_in (with_stmt s empty)) (largest_in rest)
largest_in-with_stmt skip rest = omega arith
largest_in-with_stmt abort rest = omega arith
largest_in-with_stmt (assert b) rest = omega arith
largest_in-with_stmt (act a) rest = omega arith
largest_in-with_stmt (assign x e) rest = omega arith
largest_in-with_stmt (branch_stmt b p q) rest = omega arith
largest_in-with_stmt (loop b p) rest = omega arith

size_append : (ss ts : List StmtTree) → prog_size (prog_of (ss ++ ts)) ≡ prog_size (prog_of ss) + prog_size (prog_of ts)
size_append [] ts = omega arith
size_append (s ∷ ss) ts = omega (arith, prog_size-with_stmt s (prog_of (ss ++ ts)), prog_size-with_stmt s (prog_of ss), size_append ss ts)

largest_append : (ss ts : List StmtTree) → largest_in (prog_of (ss ++ ts)) ≡ max (largest_in (prog_of ss)) (largest_in (prog_of ts))
largest_append [] ts = omega arith
largest_append (s ∷ ss) ts = omega (arith, largest_in-with_stmt s (prog_of (ss ++ ts)), largest_in-with_stmt s (prog_of ss), largest_append ss ts)

pub prog_of-stmts_of : (p : ProgTree) → prog_of (stmts_of p) ≡ p
prog_of-stmts_of empty = refl
prog_of-stmts_of (skip_then rest) = ap skip_then (prog_of-stmts_of rest)
prog_of-stmts_of (abort_then rest) = ap abort_then (prog_of-stmts_of rest)
prog_of-stmts_of (assert_then b rest) = ap (assert_then b) (prog_of-stmts_of rest)
prog_of-stmts_of (act_then a rest) = ap (act_then a) (prog_of-stmts_of rest)
prog_of-stmts_of (assign_then x e rest) = ap (assign_then x e) (prog_of-stmts_of rest)
prog_of-stmts_of (branch_then b p q rest) = ap (branch_then b p q) (prog_of-stmts_of rest)
prog_of-stmts_of (loop_then b p rest) = ap (loop_then b p) (prog_of-stmts_of rest)

-- ---- how measures relate to statements

abbrev IsMeasure : Extent → List StmtTree → Type 0
IsMeasure m ss = m.nodes ≡ given_nodes (largest_in (prog_of ss)) (prog_size (prog_of ss))

-- the measure of statements after an appended statement
one_measured : (m v : Extent) (ss : List StmtTree) (x : StmtTree) (b t : ℕ) → IsMeasure m ss → Represents v b t → largest_in (with_stmt x empty) ≡ b → prog_size (with_stmt x empty) ≡ t + 1 → IsMeasure (with_node m v) (ss ++ x ∷ [])
one_measured m v ss x b t h k large size =
    shows_node m v (largest_in (prog_of ss)) b (prog_size (prog_of ss)) t h k
    ∙ given_same (max (largest_in (prog_of ss)) b) (largest_in (prog_of (ss ++ x ∷ []))) (prog_size (prog_of ss) + t + 1) (prog_size (prog_of (ss ++ x ∷ [])))
    (omega (arith, largest_append ss (x ∷ []), large)) (omega (arith, size_append ss (x ∷ []), size))

-- the measure of two lists of statements, one after the other
others_measured : (m v : Extent) (ss ts : List StmtTree) → IsMeasure m ss → IsMeasure v ts → IsMeasure (beside m v) (ss ++ ts)
others_measured m v ss ts h k =
    shows_beside m v (largest_in (prog_of ss)) (largest_in (prog_of ts)) (prog_size (prog_of ss)) (prog_size (prog_of ts)) h k
    ∙ given_same (max (largest_in (prog_of ss)) (largest_in (prog_of ts))) (largest_in (prog_of (ss ++ ts))) (prog_size (prog_of ss) + prog_size (prog_of ts)) (prog_size (prog_of (ss ++ ts)))
    (sym (largest_append ss ts)) (sym (size_append ss ts))

deeper_measured : (m : Extent) (ss : List StmtTree) → IsMeasure m ss → IsMeasure (deeper m) ss
deeper_measured m ss h = ap capped h ∙ given_kept (largest_in (prog_of ss)) (prog_size (prog_of ss))

-- ---- two passes side by side

both_entered : {A B : Type 0} (S : A → B → Type 0) (d at : ℕ) (f : ℕ → Result A TextFault) (g : ℕ → Result B TextFault) → ((e : ℕ) → Both S (f e) (g e)) → Both S (enter d at >>= f) (enter d at >>= g)
both_entered S d at f g h = elim (nat_lt d MAX_OPEN) as (λ b. Both S (cond b (Ok (d + 1)) (Err (TooDeep at)) >>= f) (cond b (Ok (d + 1)) (Err (TooDeep at)) >>= g)) [ true ↦ h (d + 1) | false ↦ tt ]

module _ (w : ScopeParts) (ps : List ProgParts) (limited : AreLimited ps) where
  abbrev CondShows : Extent → CondTree → Type 0
  CondShows m b = m.nodes ≡ given_nodes (largest_expr b) (cond_size b)

  abbrev ExprShows : Extent → ExprTree → Type 0
  ExprShows m e = m.nodes ≡ capped (expr_size e)

  cond_both : (d : ℕ) (b : Phrase cond_symbol) → Both CondShows (fold_cond (block_extents w ps) d b) (fold_cond (block_trees w ps) d b)
  cond_both d b = by_result (fold_cond (block_extents w ps) d b) refl where
    by_result : (r : Result Extent TextFault) → fold_cond (block_extents w ps) d b ≡ r → Both CondShows r (fold_cond (block_trees w ps) d b)
    by_result (Ok m) e = let h = cond_measured w (context d false true) b m e in subst (Both CondShows (Ok m)) (sym h.built) h.nodes
    by_result (Err x) e = tt

  expr_both : (d : ℕ) (x : Phrase expr) → Both ExprShows (fold_expr (block_extents w ps) d x) (fold_expr (block_trees w ps) d x)
  expr_both d x = by_result (fold_expr (block_extents w ps) d x) refl where
    by_result : (r : Result Extent TextFault) → fold_expr (block_extents w ps) d x ≡ r → Both ExprShows r (fold_expr (block_trees w ps) d x)
    by_result (Ok m) e = let h = expr_measured w (context d false true) x m e in subst (Both ExprShows (Ok m)) (sym h.built) h.nodes
    by_result (Err f) e = tt

  none_shows : Represents (extent 0 0) 0 0
  none_shows = refl

  -- ---- names

  spliced_both : (d at i : ℕ) (o : Option ProgParts) → slice_get ps i ≡ o → (m : Extent) (ss : List StmtTree) → IsMeasure m ss → Both IsMeasure (spliced_extent d at o m) (Ok (ss ++ spliced o))
  spliced_both d at i None e m ss h = let same : ss ++ [] ≡ ss = append-nil ss in subst (λ (xs : List StmtTree). IsMeasure m xs) (sym same) h
  spliced_both d at i (Some p) e m ss h =
      elim (nat_lt MAX_OPEN (d + p.nesting)) as (λ b. Both IsMeasure (cond b (Err (TooDeep at)) (Ok (beside m (extent (prog_size p.tree) p.nesting)))) (Ok (ss ++ stmts_of p.tree))) [
        | true ↦ tt
        | false ↦ others_measured m (extent (prog_size p.tree) p.nesting) ss (stmts_of p.tree) h
            (rw (prog_of-stmts_of p.tree) (given_small (largest_in p.tree) (prog_size p.tree) (limited i p e)))
      ]

  named_both : (d at : ℕ) (o : Option Meaning) (m : Extent) (ss : List StmtTree) → IsMeasure m ss → Both IsMeasure (named_extent ps d at o m) (Ok (ss ++ named_stmts ps o))
  named_both d at None m ss h = tt
  named_both d at (Some (Test k)) m ss h = tt
  named_both d at (Some (Action a)) m ss h = one_measured m (extent 0 0) ss (act a) 0 0 h none_shows refl refl
  named_both d at (Some (Var k)) m ss h = tt
  named_both d at (Some (TermName i)) m ss h = tt
  named_both d at (Some (Prog i)) m ss h = spliced_both d at i (slice_get ps i) refl m ss h

  target_both : (at : ℕ) (o : Option Meaning) (r : Result Extent TextFault) (s : Result (List StmtTree) TextFault) → Both IsMeasure r s → Both IsMeasure (check_target at o >>= λ u. r) s
  target_both at None r s h = tt
  target_both at (Some (Test k)) r s h = tt
  target_both at (Some (Action a)) r s h = tt
  target_both at (Some (Var k)) r s h = h
  target_both at (Some (TermName i)) r s h = tt
  target_both at (Some (Prog i)) r s h = tt

  -- ---- statements with parts

  branch_measured : (m v u y : Extent) (ss us vs : List StmtTree) (b : CondTree) → IsMeasure m ss → CondShows v b → IsMeasure u us → IsMeasure y vs → IsMeasure (with_node m (beside v (beside u y))) (ss ++ branch_stmt b (prog_of us) (prog_of vs) ∷ [])
  branch_measured m v u y ss us vs b h c i j =
      let large = max (largest_in (prog_of us)) (largest_in (prog_of vs)) in
      let size = prog_size (prog_of us) + prog_size (prog_of vs) in
      one_measured m (beside v (beside u y)) ss (branch_stmt b (prog_of us) (prog_of vs)) (max (largest_expr b) large) (cond_size b + size) h
      (shows_beside v (beside u y) (largest_expr b) large (cond_size b) size c (shows_beside u y (largest_in (prog_of us)) (largest_in (prog_of vs)) (prog_size (prog_of us)) (prog_size (prog_of vs)) i j))
      (omega arith) (omega arith)

  loop_measured : (m v u : Extent) (ss us : List StmtTree) (b : CondTree) → IsMeasure m ss → CondShows v b → IsMeasure u us → IsMeasure (with_node m (beside v u)) (ss ++ loop b (prog_of us) ∷ [])
  loop_measured m v u ss us b h c i =
      one_measured m (beside v u) ss (loop b (prog_of us)) (max (largest_expr b) (largest_in (prog_of us))) (cond_size b + prog_size (prog_of us)) h
      (shows_beside v u (largest_expr b) (largest_in (prog_of us)) (cond_size b) (prog_size (prog_of us)) c i) (omega arith) (omega arith)

  assign_measured : (m v : Extent) (ss : List StmtTree) (x : ℕ) (e : ExprTree) → IsMeasure m ss → ExprShows v e → IsMeasure (with_node m (extent (compared_nodes v.nodes) v.nesting)) (ss ++ assign x e ∷ [])
  assign_measured m v ss x e h k =
      one_measured m (extent (compared_nodes v.nodes) v.nesting) ss (assign x e) (expr_size e) (expr_size e) h
      (ap capped (given_compared v.nodes (expr_size e) k) ∙ given_kept (expr_size e) (expr_size e)) (omega arith) (omega arith)

  block_both : {x : BlockSymbol} (p : BlockPhrase x) (d : ℕ) (m : Extent) (ss : List StmtTree) → IsMeasure m ss → Both IsMeasure (fold_block (block_extents w ps) d p m) (fold_block (block_trees w ps) d p ss)
  block_both (braced l ts r) d m ss h =
      both_entered IsMeasure d l.at (λ e. fold_block (block_extents w ps) e ts (extent 0 0) >>= λ v. Ok (deeper v)) (λ e. fold_block (block_trees w ps) e ts [] >>= λ v. Ok v)
      (λ e. both_then IsMeasure IsMeasure (fold_block (block_extents w ps) e ts (extent 0 0)) (fold_block (block_trees w ps) e ts []) (λ v. Ok (deeper v)) (λ v. Ok v) (block_both ts e (extent 0 0) [] refl) (λ v us k. deeper_measured v us k))
  block_both no_stmts d m ss h = h
  block_both (more_stmts s ts) d m ss h =
      both_then IsMeasure IsMeasure (fold_block (block_extents w ps) d s m) (fold_block (block_trees w ps) d s ss) (fold_block (block_extents w ps) d ts) (fold_block (block_trees w ps) d ts) (block_both s d m ss h) (λ v us k. block_both ts d v us k)
  block_both (skip_stmt l end) d m ss h = one_measured m (extent 0 0) ss skip 0 0 h none_shows refl refl
  block_both (abort_stmt l end) d m ss h = one_measured m (extent 0 0) ss abort 0 0 h none_shows refl refl
  block_both (assert_stmt l b end) d m ss h =
      both_then CondShows IsMeasure (fold_cond (block_extents w ps) d b) (fold_cond (block_trees w ps) d b) (λ v. Ok (with_node m v)) (λ t. Ok (ss ++ assert t ∷ [])) (cond_both d b)
      (λ v t k. one_measured m v ss (assert t) (largest_expr t) (cond_size t) h k (omega arith) (omega arith))
  block_both (name_stmt l end) d m ss h = named_both d l.at (meaning w l.text) m ss h
  block_both (assign_stmt l becomes x end) d m ss h =
      target_both l.at (meaning w l.text) (fold_expr (block_extents w ps) d x >>= λ v. Ok (with_node m (extent (compared_nodes v.nodes) v.nesting))) (fold_expr (block_trees w ps) d x >>= λ t. Ok (ss ++ assign (target_var (meaning w l.text)) t ∷ []))
      (both_then ExprShows IsMeasure (fold_expr (block_extents w ps) d x) (fold_expr (block_trees w ps) d x) (λ v. Ok (with_node m (extent (compared_nodes v.nodes) v.nesting))) (λ t. Ok (ss ++ assign (target_var (meaning w l.text)) t ∷ [])) (expr_both d x)
      (λ v t k. assign_measured m v ss (target_var (meaning w l.text)) t h k))
  block_both (if_stmt l r) d m ss h = block_both r d m ss h
  block_both (while_stmt l b p) d m ss h =
      both_then CondShows IsMeasure (fold_cond (block_extents w ps) d b) (fold_cond (block_trees w ps) d b) _ _ (cond_both d b)
      (λ v t k. both_then IsMeasure IsMeasure (fold_block (block_extents w ps) d p m) (fold_block (block_trees w ps) d p ss) (λ u. Ok (with_node m (beside v u))) (λ us. Ok (ss ++ loop t (prog_of us) ∷ [])) (block_both p d m ss h)
      (λ u us i. loop_measured m v u ss us t h k i))
  block_both (no_else b p) d m ss h =
      both_then CondShows IsMeasure (fold_cond (block_extents w ps) d b) (fold_cond (block_trees w ps) d b) _ _ (cond_both d b)
      (λ v t k. both_then IsMeasure IsMeasure (fold_block (block_extents w ps) d p m) (fold_block (block_trees w ps) d p ss) (λ u. Ok (with_node m (beside v (beside u (extent 0 0))))) (λ us. Ok (ss ++ branch_stmt t (prog_of us) empty ∷ [])) (block_both p d m ss h)
      (λ u us i. branch_measured m v u (extent 0 0) ss us [] t h k i refl))
  block_both (else_block b p l q) d m ss h =
      both_then CondShows IsMeasure (fold_cond (block_extents w ps) d b) (fold_cond (block_trees w ps) d b) _ _ (cond_both d b)
      (λ v t k. both_then IsMeasure IsMeasure (fold_block (block_extents w ps) d p m) (fold_block (block_trees w ps) d p ss) _ _ (block_both p d m ss h)
      (λ u us i. both_then IsMeasure IsMeasure (fold_block (block_extents w ps) d q m) (fold_block (block_trees w ps) d q ss) (λ y. Ok (with_node m (beside v (beside u y)))) (λ vs. Ok (ss ++ branch_stmt t (prog_of us) (prog_of vs) ∷ [])) (block_both q d m ss h)
      (λ y vs j. branch_measured m v u y ss us vs t h k i j)))
  block_both (else_if b p l f r) d m ss h =
      both_then CondShows IsMeasure (fold_cond (block_extents w ps) d b) (fold_cond (block_trees w ps) d b) _ _ (cond_both d b)
      (λ v t k. both_then IsMeasure IsMeasure (fold_block (block_extents w ps) d p m) (fold_block (block_trees w ps) d p ss) _ _ (block_both p d m ss h)
      (λ u us i. both_entered IsMeasure d f.at (λ e. fold_block (block_extents w ps) e r (extent 0 0) >>= λ y. Ok (with_node m (beside v (beside u (deeper y))))) (λ e. fold_block (block_trees w ps) e r [] >>= λ vs. Ok (ss ++ branch_stmt t (prog_of us) (prog_of vs) ∷ []))
      (λ e. both_then IsMeasure IsMeasure (fold_block (block_extents w ps) e r (extent 0 0)) (fold_block (block_trees w ps) e r []) (λ y. Ok (with_node m (beside v (beside u (deeper y))))) (λ vs. Ok (ss ++ branch_stmt t (prog_of us) (prog_of vs) ∷ [])) (block_both r e (extent 0 0) [] refl)
      (λ y vs j. branch_measured m v u (deeper y) ss us vs t h k i (deeper_measured y vs j)))))

  pub block_measured : (d : ℕ) (p : BlockPhrase block) (m : Extent) → fold_block (block_extents w ps) d p (extent 0 0) ≡ Ok m → MeasuresBlock w ps d p m
  block_measured d p m e =
      let h = made IsMeasure (fold_block (block_extents w ps) d p (extent 0 0)) (fold_block (block_trees w ps) d p []) m e (block_both p d (extent 0 0) [] refl) in
      record {
        tree = prog_of h.0;
        built = ap (λ (r : Result (List StmtTree) TextFault). r >>= λ ss. Ok (prog_of ss)) h.1;
        nodes = h.2;
        levels = given_of (fold_block (block_extents w ps) d p (extent 0 0)) (BlockIsSound w ps d p × BlockFits d p) (block_nesting w ps p) m (block_judged w ps p d (extent 0 0)) e;
      }

pub measures_of_trees : MeasuresAreOfTrees
measures_of_trees w ps d p m limited e = block_measured w ps limited d p m e
