-- Measuring a block succeeds exactly when the block is sound and within the limits; then it gives the nesting of the
-- block.
use Rattle.std.proofs.Common.{◌≡◌, ◌≤◌, ◌<◌, ◌+◌, ℕ, max, min, Bool, true, false, cond, nat_lt, slice_get, List, Option, Some, None, Result, Ok, Err, refl, arith}
use Rattle.std.proofs.lemmas.Bool.{ltb-true, ltb-false}
use Rattle.kat_model.specs.declared.limits.TheConstants.{MAX_OPEN}
use Rattle.text_parser.specs.declared.fault.TextFault.{TextFault}
use Rattle.text_parser.specs.declared.fault.TextFault.TheVariants.{TooDeep}
use Rattle.text_parser.specs.Parsed.{◌>>=◌}
use Rattle.text_parser.specs.Actions.{context}
use Rattle.text_parser.specs.Phrases.{cond as cond_symbol, Phrase, IsWithinLimits}
use Rattle.text_parser.specs.declared.meaning.Meaning.{Meaning}
use Rattle.text_parser.specs.declared.meaning.Meaning.TheVariants.{Test, Action, Var, Term as TermName, Prog}
use Rattle.text_parser.specs.declared.extent.Extent.{Extent}
use Rattle.text_parser.specs.ScopeParts.{ScopeParts, meaning}
use Rattle.text_parser.specs.Measuring.{compared_nodes}
use Rattle.text_parser.specs.Sound.{IsSound, IsExprName, nesting}
use Rattle.text_parser.proofs.MeasureSoundness.{Judged, first, settled, then_judged, changed}
use Rattle.text_parser.proofs.Measured.{cond_judged, expr_judged, decided}
use Rattle.while_lang.specs.ProgramSizes.{prog_size}
use Rattle.while_lang.specs.NamedProgs.{ProgParts}
use Rattle.while_lang.specs.Blocks.{enter}
use Rattle.while_lang.specs.BlockPhrases.{BlockSymbol, block, stmts, stmt, branch, BlockPhrase, braced, no_stmts, more_stmts, skip_stmt, abort_stmt, assert_stmt, name_stmt, assign_stmt, if_stmt, while_stmt}
use Rattle.while_lang.specs.BlockPhrases.{no_else, else_block, else_if, BlockFits}
use Rattle.while_lang.specs.BlockFolds.{fold_cond, fold_expr, fold_block}
use Rattle.while_lang.specs.BlockMeasuring.{extent, with_node, beside, deeper, spliced_extent, named_extent, check_target, block_extents}
use Rattle.while_lang.specs.BlockSound.{IsShallow, IsStmtName, BlockIsSound, prog_nesting, name_nesting, block_nesting}
use Rattle.while_lang.specs.BlockLaws.{SoundAreMeasured}

-- ---- results and their nestings

-- the extent has nesting `n`, capped at `MAX_OPEN + 1`
abbrev pub Nests : Extent → ℕ → Type 0
Nests m n = m.nesting ≡ min n (MAX_OPEN + 1)

entered : (d at : ℕ) (f : ℕ → Result Extent TextFault) (S F : Type 0) (n : ℕ) → Judged (f (d + 1)) (S × F) n → Judged (enter d at >>= f) (S × ((d < MAX_OPEN) × F)) n
entered d at f S F n h = by_depth (nat_lt d MAX_OPEN) refl where
  by_depth : (b : Bool) → nat_lt d MAX_OPEN ≡ b → Judged (cond b (Ok (d + 1)) (Err (TooDeep at)) >>= f) (S × ((d < MAX_OPEN) × F)) n
  by_depth true e = settled (f (d + 1)) (S × F) (S × ((d < MAX_OPEN) × F)) n n (λ x. (x.0, (ltb-true d MAX_OPEN e, x.1))) (λ x. (x.0, x.1.1)) refl h
  by_depth false e = λ x. let lt : d < MAX_OPEN = x.1.0 in let le : MAX_OPEN ≤ d = ltb-false d MAX_OPEN e in absurd (omega arith)

-- ---- the nesting of combined parts

nests_none : Nests (extent 0 0) 0
nests_none = omega arith

nests_node : (m v : Extent) (n a : ℕ) → Nests m n → Nests v a → Nests (with_node m v) (max n a)
nests_node m v n a e f = omega arith

nests_beside : (m v : Extent) (n a : ℕ) → Nests m n → Nests v a → Nests (beside m v) (max n a)
nests_beside m v n a e f = omega arith

nests_deeper : (m : Extent) (n : ℕ) → Nests m n → Nests (deeper m) (n + 1)
nests_deeper m n e = omega arith

nests_extent : (nodes n : ℕ) → Nests (extent nodes n) n
nests_extent nodes n = refl

nests_limited : (nodes : ℕ) (v : Extent) (n : ℕ) → Nests v n → Nests (extent nodes v.nesting) n
nests_limited nodes v n e = omega arith

module _ (w : ScopeParts) (ps : List ProgParts) where
  -- ---- names

  shallow_judged : (d at : ℕ) (p : ProgParts) (m : Extent) (n : ℕ) → Nests m n → Judged (spliced_extent d at (Some p) m) ((d + p.nesting ≤ MAX_OPEN) × Unit {0}) (max n p.nesting)
  shallow_judged d at p m n e = by_depth (nat_lt MAX_OPEN (d + p.nesting)) refl where
    by_depth : (b : Bool) → nat_lt MAX_OPEN (d + p.nesting) ≡ b → Judged (cond b (Err (TooDeep at)) (Ok (beside m (extent (prog_size p.tree) p.nesting)))) ((d + p.nesting ≤ MAX_OPEN) × Unit {0}) (max n p.nesting)
    by_depth true lt = λ x. let past : MAX_OPEN < d + p.nesting = ltb-true MAX_OPEN (d + p.nesting) lt in let le : d + p.nesting ≤ MAX_OPEN = x.0 in absurd (omega arith)
    by_depth false le = ((ltb-false MAX_OPEN (d + p.nesting) le, tt), nests_beside m (extent (prog_size p.tree) p.nesting) n p.nesting e (nests_extent (prog_size p.tree) p.nesting))

  spliced_judged : (d at : ℕ) (o : Option ProgParts) (m : Extent) (n : ℕ) → Nests m n → Judged (spliced_extent d at o m) (IsShallow d o × Unit {0}) (max n (prog_nesting o))
  spliced_judged d at None m n e = ((tt, tt), omega (arith, e))
  spliced_judged d at (Some p) m n e = shallow_judged d at p m n e

  named_judged : (d at : ℕ) (o : Option Meaning) (m : Extent) (n : ℕ) → Nests m n → Judged (named_extent ps d at o m) (IsStmtName ps d o × Unit {0}) (max n (name_nesting ps o))
  named_judged d at None m n e = λ x. x.0
  named_judged d at (Some (Test k)) m n e = λ x. x.0
  named_judged d at (Some (Action a)) m n e = ((tt, tt), nests_node m (extent 0 0) n 0 e nests_none)
  named_judged d at (Some (Var k)) m n e = λ x. x.0
  named_judged d at (Some (TermName i)) m n e = λ x. x.0
  named_judged d at (Some (Prog i)) m n e = spliced_judged d at (slice_get ps i) m n e

  target_judged : (at : ℕ) (o : Option Meaning) (r : Result Extent TextFault) (S F : Type 0) (n : ℕ) → Judged r (S × F) n → Judged (check_target at o >>= λ u. r) ((IsExprName o × S) × F) n
  target_judged at None r S F n h = λ x. x.0.0
  target_judged at (Some (Test k)) r S F n h = λ x. x.0.0
  target_judged at (Some (Action a)) r S F n h = λ x. x.0.0
  target_judged at (Some (Var k)) r S F n h = settled r (S × F) ((Unit {0} × S) × F) n n (λ x. ((tt, x.0), x.1)) (λ x. (x.0.1, x.1)) refl h
  target_judged at (Some (TermName i)) r S F n h = λ x. x.0.0
  target_judged at (Some (Prog i)) r S F n h = λ x. x.0.0

  -- ---- phrases

  abbrev Sound : ℕ → Phrase cond_symbol → Type 0
  Sound d b = IsSound w (context d false true) b

  condition_judged : (d : ℕ) (b : Phrase cond_symbol) → Judged (fold_cond (block_extents w ps) d b) (Sound d b × IsWithinLimits d b) (nesting w b)
  condition_judged d b = cond_judged w (context d false true) b

  -- what a phrase adds to statements of nesting `n`
  abbrev Judges : (x : BlockSymbol) → BlockPhrase x → Type 0
  Judges block p = (d : ℕ) (m : Extent) → Judged (fold_block (block_extents w ps) d p m) (BlockIsSound w ps d p × BlockFits d p) (block_nesting w ps p)
  Judges stmts p = (d : ℕ) (m : Extent) (n : ℕ) → Nests m n → Judged (fold_block (block_extents w ps) d p m) (BlockIsSound w ps d p × BlockFits d p) (max n (block_nesting w ps p))
  Judges stmt p = (d : ℕ) (m : Extent) (n : ℕ) → Nests m n → Judged (fold_block (block_extents w ps) d p m) (BlockIsSound w ps d p × BlockFits d p) (max n (block_nesting w ps p))
  Judges branch p = (d : ℕ) (m : Extent) (n : ℕ) → Nests m n → Judged (fold_block (block_extents w ps) d p m) (BlockIsSound w ps d p × BlockFits d p) (max n (block_nesting w ps p))

  pub block_judged : {x : BlockSymbol} (p : BlockPhrase x) → Judges x p
  block_judged (braced l ss r) = λ d m.
      let S = BlockIsSound w ps (d + 1) ss in
      let F = BlockFits (d + 1) ss in
      let n = block_nesting w ps ss in
      entered d l.at (λ e. fold_block (block_extents w ps) e ss (extent 0 0) >>= λ v. Ok (deeper v)) S F (n + 1)
      (changed (fold_block (block_extents w ps) (d + 1) ss (extent 0 0)) deeper (S × F) n (n + 1) (λ v e. nests_deeper v n e)
      (first (fold_block (block_extents w ps) (d + 1) ss (extent 0 0)) (S × F) n (block_judged ss (d + 1) (extent 0 0) 0 nests_none)))
  block_judged no_stmts = λ d m n e. ((tt, tt), omega (arith, e))
  block_judged (more_stmts s ss) = λ d m n e.
      let S = BlockIsSound w ps d s in
      let F = BlockFits d s in
      let T = BlockIsSound w ps d ss in
      let G = BlockFits d ss in
      let a = block_nesting w ps s in
      let b = block_nesting w ps ss in
      settled (fold_block (block_extents w ps) d s m >>= fold_block (block_extents w ps) d ss) ((S × F) × (T × G)) ((S × T) × (F × G)) (max (max n a) b) (max n (max a b))
      (λ x. ((x.0.0, x.1.0), (x.0.1, x.1.1))) (λ x. ((x.0.0, x.1.0), (x.0.1, x.1.1))) (omega arith)
      (then_judged (fold_block (block_extents w ps) d s m) (fold_block (block_extents w ps) d ss) (S × F) (T × G) (max n a) (max (max n a) b)
      (block_judged s d m n e) (λ v f. block_judged ss d v (max n a) f))
  block_judged (skip_stmt l end) = λ d m n e. ((tt, tt), nests_node m (extent 0 0) n 0 e nests_none)
  block_judged (abort_stmt l end) = λ d m n e. ((tt, tt), nests_node m (extent 0 0) n 0 e nests_none)
  block_judged (assert_stmt l b end) = λ d m n e.
      changed (fold_cond (block_extents w ps) d b) (with_node m) (Sound d b × IsWithinLimits d b) (nesting w b) (max n (nesting w b)) (λ v f. nests_node m v n (nesting w b) e f) (condition_judged d b)
  block_judged (name_stmt l end) = λ d m n e. named_judged d l.at (meaning w l.text) m n e
  block_judged (assign_stmt l becomes x end) = λ d m n e.
      let a = nesting w x in
      let S = IsSound w (context d false true) x in
      let F = IsWithinLimits d x in
      target_judged l.at (meaning w l.text) (fold_expr (block_extents w ps) d x >>= λ v. Ok (with_node m (extent (compared_nodes v.nodes) v.nesting))) S F (max n a)
      (changed (fold_expr (block_extents w ps) d x) (λ v. with_node m (extent (compared_nodes v.nodes) v.nesting)) (S × F) a (max n a)
      (λ v f. nests_node m (extent (compared_nodes v.nodes) v.nesting) n a e (nests_limited (compared_nodes v.nodes) v a f)) (expr_judged w (context d false true) x))
  block_judged (if_stmt l r) = λ d m n e. block_judged r d m n e
  block_judged (while_stmt l b p) = λ d m n e.
      let T = BlockIsSound w ps d p in
      let G = BlockFits d p in
      let a = nesting w b in
      let k = block_nesting w ps p in
      settled (fold_cond (block_extents w ps) d b >>= λ v. fold_block (block_extents w ps) d p m >>= λ u. Ok (with_node m (beside v u)))
      ((Sound d b × IsWithinLimits d b) × (T × G)) ((Sound d b × T) × (IsWithinLimits d b × G)) (max n (max a k)) (max n (max a k))
      (λ x. ((x.0.0, x.1.0), (x.0.1, x.1.1))) (λ x. ((x.0.0, x.1.0), (x.0.1, x.1.1))) refl
      (then_judged (fold_cond (block_extents w ps) d b) (λ v. fold_block (block_extents w ps) d p m >>= λ u. Ok (with_node m (beside v u))) (Sound d b × IsWithinLimits d b) (T × G) a (max n (max a k)) (condition_judged d b)
      (λ v f. changed (fold_block (block_extents w ps) d p m) (λ u. with_node m (beside v u)) (T × G) k (max n (max a k))
      (λ u h. nests_node m (beside v u) n (max a k) e (nests_beside v u a k f h)) (block_judged p d m)))
  block_judged (no_else b p) = λ d m n e.
      let T = BlockIsSound w ps d p in
      let G = BlockFits d p in
      let a = nesting w b in
      let k = block_nesting w ps p in
      settled (fold_cond (block_extents w ps) d b >>= λ v. fold_block (block_extents w ps) d p m >>= λ u. Ok (with_node m (beside v (beside u (extent 0 0)))))
      ((Sound d b × IsWithinLimits d b) × (T × G)) ((Sound d b × T) × (IsWithinLimits d b × G)) (max n (max a (max k 0))) (max n (max a k))
      (λ x. ((x.0.0, x.1.0), (x.0.1, x.1.1))) (λ x. ((x.0.0, x.1.0), (x.0.1, x.1.1))) (omega arith)
      (then_judged (fold_cond (block_extents w ps) d b) (λ v. fold_block (block_extents w ps) d p m >>= λ u. Ok (with_node m (beside v (beside u (extent 0 0))))) (Sound d b × IsWithinLimits d b) (T × G) a (max n (max a (max k 0))) (condition_judged d b)
      (λ v f. changed (fold_block (block_extents w ps) d p m) (λ u. with_node m (beside v (beside u (extent 0 0)))) (T × G) k (max n (max a (max k 0)))
      (λ u h. nests_node m (beside v (beside u (extent 0 0))) n (max a (max k 0)) e (nests_beside v (beside u (extent 0 0)) a (max k 0) f (nests_beside u (extent 0 0) k 0 h nests_none))) (block_judged p d m)))
  block_judged (else_block b p l q) = λ d m n e.
      let T = BlockIsSound w ps d p in
      let G = BlockFits d p in
      let U = BlockIsSound w ps d q in
      let H = BlockFits d q in
      let a = nesting w b in
      let k = block_nesting w ps p in
      let j = block_nesting w ps q in
      let rest = λ (v u : Extent). fold_block (block_extents w ps) d q m >>= λ y. Ok (with_node m (beside v (beside u y))) in
      settled (fold_cond (block_extents w ps) d b >>= λ v. fold_block (block_extents w ps) d p m >>= rest v)
      ((Sound d b × IsWithinLimits d b) × ((T × G) × (U × H))) ((Sound d b × T × U) × (IsWithinLimits d b × G × H)) (max n (max a (max k j))) (max n (max a (max k j)))
      (λ x. ((x.0.0, x.1.0.0, x.1.1.0), (x.0.1, x.1.0.1, x.1.1.1))) (λ x. ((x.0.0, x.1.0), ((x.0.1, x.1.1), (x.0.2, x.1.2)))) refl
      (then_judged (fold_cond (block_extents w ps) d b) (λ v. fold_block (block_extents w ps) d p m >>= rest v) (Sound d b × IsWithinLimits d b) ((T × G) × (U × H)) a (max n (max a (max k j))) (condition_judged d b)
      (λ v f. then_judged (fold_block (block_extents w ps) d p m) (rest v) (T × G) (U × H) k (max n (max a (max k j))) (block_judged p d m)
      (λ u h. changed (fold_block (block_extents w ps) d q m) (λ y. with_node m (beside v (beside u y))) (U × H) j (max n (max a (max k j)))
      (λ y i. nests_node m (beside v (beside u y)) n (max a (max k j)) e (nests_beside v (beside u y) a (max k j) f (nests_beside u y k j h i))) (block_judged q d m))))
  block_judged (else_if b p l i r) = λ d m n e.
      let T = BlockIsSound w ps d p in
      let G = BlockFits d p in
      let U = BlockIsSound w ps (d + 1) r in
      let H = BlockFits (d + 1) r in
      let a = nesting w b in
      let k = block_nesting w ps p in
      let j = block_nesting w ps r in
      let chain = λ (v u : Extent) (c : ℕ). fold_block (block_extents w ps) c r (extent 0 0) >>= λ y. Ok (with_node m (beside v (beside u (deeper y)))) in
      let rest = λ (v u : Extent). enter d i.at >>= chain v u in
      settled (fold_cond (block_extents w ps) d b >>= λ v. fold_block (block_extents w ps) d p m >>= rest v)
      ((Sound d b × IsWithinLimits d b) × ((T × G) × (U × ((d < MAX_OPEN) × H)))) ((Sound d b × T × U) × (IsWithinLimits d b × G × (d < MAX_OPEN) × H)) (max n (max a (max k (j + 1)))) (max n (max a (max k (j + 1))))
      (λ x. ((x.0.0, x.1.0.0, x.1.1.0), (x.0.1, x.1.0.1, x.1.1.1.0, x.1.1.1.1))) (λ x. ((x.0.0, x.1.0), ((x.0.1, x.1.1), (x.0.2, (x.1.2, x.1.3))))) refl
      (then_judged (fold_cond (block_extents w ps) d b) (λ v. fold_block (block_extents w ps) d p m >>= rest v) (Sound d b × IsWithinLimits d b) ((T × G) × (U × ((d < MAX_OPEN) × H))) a (max n (max a (max k (j + 1)))) (condition_judged d b)
      (λ v f. then_judged (fold_block (block_extents w ps) d p m) (rest v) (T × G) (U × ((d < MAX_OPEN) × H)) k (max n (max a (max k (j + 1)))) (block_judged p d m)
      (λ u h. entered d i.at (chain v u) U H (max n (max a (max k (j + 1))))
      (changed (fold_block (block_extents w ps) (d + 1) r (extent 0 0)) (λ y. with_node m (beside v (beside u (deeper y)))) (U × H) j (max n (max a (max k (j + 1))))
      (λ y t. nests_node m (beside v (beside u (deeper y))) n (max a (max k (j + 1))) e (nests_beside v (beside u (deeper y)) a (max k (j + 1)) f (nests_beside u (deeper y) k (j + 1) h (nests_deeper y j t))))
      (first (fold_block (block_extents w ps) (d + 1) r (extent 0 0)) (U × H) j (block_judged r (d + 1) (extent 0 0) 0 nests_none))))))

pub sound_measured : SoundAreMeasured
sound_measured w ps d p = decided (fold_block (block_extents w ps) d p (extent 0 0)) (BlockIsSound w ps d p × BlockFits d p) (block_nesting w ps p) (block_judged w ps p d (extent 0 0))
