-- Steps keep the numbers of statements in range.
use Rattle.std.proofs.Common.{◌≡◌, ℕ, zero, suc, inl, inr, List, [], ◌∷◌, ◌++◌, take, drop, Some, subst}
use Rattle.std.proofs.lemmas.Option.{same_Some}
use Rattle.while_lang.specs.Files.{FileParts}
use Rattle.while_lang.specs.Ranges.{IsProgInRange}
use Rattle.while_lang.specs.Programs.{ProgTree, empty, skip_then, abort_then, assert_then, act_then, assign_then, branch_then, loop_then, StmtTree, skip, abort, assert, act, assign, branch, loop, with_stmt, prog_of, stmts_of}
use Rattle.while_lang.proofs.BlockMeasures.{prog_of-stmts_of}
use Rattle.optimiser_steps.specs.Statements.{block, with_block, single, IsStmtInRange, AreStmtsInRange}
use Rattle.optimiser_steps.specs.Steps.{LeavesOutSkip, LeavesOutUnreached, LeavesOutAssert, TakesFirstBlock, TakesSecondBlock, LeavesOutLoop, TakesEitherBlock, SharesLastStatement, TakesFirstBlockAfter, TakesSecondBlockAfter, UnswitchesLoop, FlattensLoop, step_relations, Step}
use Rattle.optimiser_steps.specs.Paths.{StepsAt}
use Rattle.optimiser_steps.proofs.NumberedSteps.{SomeHolds, some_holds}

module _ (f : FileParts) where
  abbrev InRange : ProgTree → Type 0
  InRange p = IsProgInRange f.tests f.actions f.vars p

  pub stmts_in : (p : ProgTree) → InRange p → AreStmtsInRange f (stmts_of p)
  stmts_in empty h = tt
  stmts_in (skip_then rest) h = (tt, stmts_in rest h)
  stmts_in (abort_then rest) h = (tt, stmts_in rest h)
  stmts_in (assert_then b rest) h = (h.0, stmts_in rest h.1)
  stmts_in (act_then a rest) h = (h.0, stmts_in rest h.1)
  stmts_in (assign_then x e rest) h = ((h.0, h.1), stmts_in rest h.2)
  stmts_in (branch_then b p q rest) h = ((h.0, h.1, h.2), stmts_in rest h.3)
  stmts_in (loop_then b p rest) h = ((h.0, h.1), stmts_in rest h.2)

  with_stmt_in : (s : StmtTree) (rest : ProgTree) → IsStmtInRange f s → InRange rest → InRange (with_stmt s rest)
  with_stmt_in skip rest h k = k
  with_stmt_in abort rest h k = k
  with_stmt_in (assert b) rest h k = (h, k)
  with_stmt_in (act a) rest h k = (h, k)
  with_stmt_in (assign x e) rest h k = (h.0, h.1, k)
  with_stmt_in (branch b p q) rest h k = (h.0, h.1, h.2, k)
  with_stmt_in (loop b p) rest h k = (h.0, h.1, k)

  pub prog_of_in : (ss : List StmtTree) → AreStmtsInRange f ss → InRange (prog_of ss)
  prog_of_in [] h = tt
  prog_of_in (s ∷ ss) h = with_stmt_in s (prog_of ss) h.0 (prog_of_in ss h.1)

  pub single_in : (s : StmtTree) → IsStmtInRange f s → InRange (single s)
  single_in s h = prog_of_in (s ∷ []) (h, tt)

  -- a program is in range if its statements are
  pub prog_in : (p : ProgTree) → AreStmtsInRange f (stmts_of p) → InRange p
  prog_in p h = subst InRange (prog_of-stmts_of p) (prog_of_in (stmts_of p) h)

  pub append_in : (xs ys : List StmtTree) → AreStmtsInRange f xs → AreStmtsInRange f ys → AreStmtsInRange f (xs ++ ys)
  append_in [] ys h k = k
  append_in (x ∷ xs) ys h k = (h.0, append_in xs ys h.1 k)

  pub front_in : (xs ys : List StmtTree) → AreStmtsInRange f (xs ++ ys) → AreStmtsInRange f xs
  front_in [] ys h = tt
  front_in (x ∷ xs) ys h = (h.0, front_in xs ys h.1)

  pub end_in : (xs ys : List StmtTree) → AreStmtsInRange f (xs ++ ys) → AreStmtsInRange f ys
  end_in [] ys h = h
  end_in (x ∷ xs) ys h = end_in xs ys h.1

  pub drop_in : (k : ℕ) (ss : List StmtTree) → AreStmtsInRange f ss → AreStmtsInRange f (drop k ss)
  drop_in zero ss h = h
  drop_in (suc k) [] h = tt
  drop_in (suc k) (s ∷ ss) h = drop_in k ss h.1

  pub take_in : (k : ℕ) (ss : List StmtTree) → AreStmtsInRange f ss → AreStmtsInRange f (take k ss)
  take_in zero ss h = tt
  take_in (suc k) [] h = tt
  take_in (suc k) (s ∷ ss) h = (h.0, take_in k ss h.1)

  -- ---- steps

  skip_in : (ss ts : List StmtTree) → LeavesOutSkip ss ts → AreStmtsInRange f ss → AreStmtsInRange f ts
  skip_in (skip ∷ rest) ts e h = rw e h.1
  skip_in _ ts e h = absurd e

  unreached_in : (ss ts : List StmtTree) → LeavesOutUnreached ss ts → AreStmtsInRange f ss → AreStmtsInRange f ts
  unreached_in (abort ∷ s ∷ rest) ts e h = rw e (tt, h.1.1)
  unreached_in _ ts e h = absurd e

  assert_in : (ss ts : List StmtTree) → LeavesOutAssert f ss ts → AreStmtsInRange f ss → AreStmtsInRange f ts
  assert_in (assert b ∷ rest) ts (v, e) h = rw e h.1
  assert_in _ ts e h = absurd e

  first_in : (ss ts : List StmtTree) → TakesFirstBlock f ss ts → AreStmtsInRange f ss → AreStmtsInRange f ts
  first_in (branch b p q ∷ rest) ts (v, e) h = rw e (append_in (stmts_of p) rest (stmts_in p h.0.1) h.1)
  first_in _ ts e h = absurd e

  second_in : (ss ts : List StmtTree) → TakesSecondBlock f ss ts → AreStmtsInRange f ss → AreStmtsInRange f ts
  second_in (branch b p q ∷ rest) ts (v, e) h = rw e (append_in (stmts_of q) rest (stmts_in q h.0.2) h.1)
  second_in _ ts e h = absurd e

  loop_in : (ss ts : List StmtTree) → LeavesOutLoop f ss ts → AreStmtsInRange f ss → AreStmtsInRange f ts
  loop_in (loop b p ∷ rest) ts (v, e) h = rw e h.1
  loop_in _ ts e h = absurd e

  either_in : (ss ts : List StmtTree) → TakesEitherBlock ss ts → AreStmtsInRange f ss → AreStmtsInRange f ts
  either_in (branch b p q ∷ rest) ts (v, e) h = rw e (append_in (stmts_of p) rest (stmts_in p h.0.1) h.1)
  either_in _ ts e h = absurd e

  shared_in : (ss ts : List StmtTree) → SharesLastStatement ss ts → AreStmtsInRange f ss → AreStmtsInRange f ts
  shared_in (branch b p q ∷ rest) ts (ps, qs, r, ep, eq, e) h =
      let first : AreStmtsInRange f (ps ++ r ∷ []) = subst (AreStmtsInRange f) ep (stmts_in p h.0.1) in
      let second : AreStmtsInRange f (qs ++ r ∷ []) = subst (AreStmtsInRange f) eq (stmts_in q h.0.2) in
      rw e ((h.0.0, prog_of_in ps (front_in ps (r ∷ []) first), prog_of_in qs (front_in qs (r ∷ []) second)), ((end_in ps (r ∷ []) first).0, h.1))
  shared_in _ ts e h = absurd e

  first_after_in : (ss ts : List StmtTree) → TakesFirstBlockAfter f ss ts → AreStmtsInRange f ss → AreStmtsInRange f ts
  first_after_in (s ∷ branch c p q ∷ rest) ts (v, e) h = rw e (h.0, append_in (stmts_of p) rest (stmts_in p h.1.0.1) h.1.1)
  first_after_in _ ts e h = absurd e

  second_after_in : (ss ts : List StmtTree) → TakesSecondBlockAfter f ss ts → AreStmtsInRange f ss → AreStmtsInRange f ts
  second_after_in (s ∷ branch c p q ∷ rest) ts (v, e) h = rw e (h.0, append_in (stmts_of q) rest (stmts_in q h.1.0.2) h.1.1)
  second_after_in (s ∷ loop c p ∷ rest) ts (v, e) h = rw e (h.0, h.1.1)
  second_after_in _ ts e h = absurd e

  unswitched_in : (ss ts : List StmtTree) → UnswitchesLoop f ss ts → AreStmtsInRange f ss → AreStmtsInRange f ts
  unswitched_in (loop b (branch_then c p q empty) ∷ rest) ts (v, w, e) h =
      let guard = h.0.0 in
      let body = h.0.1 in
      rw e ((body.0, single_in (loop b p) (guard, body.1), single_in (loop b q) (guard, body.2)), h.1)
  unswitched_in _ ts e h = absurd e

  flattened_in : (ss ts : List StmtTree) → FlattensLoop ss ts → AreStmtsInRange f ss → AreStmtsInRange f ts
  flattened_in (loop b (loop_then c p empty) ∷ rest) ts (v, e) h = rw e ((h.0.0, h.0.1.1), h.1)
  flattened_in (loop b (branch_then c p q empty) ∷ rest) ts (v, e) h = rw e ((h.0.0, h.0.1.1), h.1)
  flattened_in _ ts e h = absurd e

  pub step_in : (n : ℕ) (ss ts : List StmtTree) → Step f n ss ts → AreStmtsInRange f ss → AreStmtsInRange f ts
  step_in n ss ts step h = by_case (some_holds n (step_relations f ss ts) step)
    where
      by_case : SomeHolds (step_relations f ss ts) → AreStmtsInRange f ts
      by_case (inl x) = skip_in ss ts x h
      by_case (inr (inl x)) = unreached_in ss ts x h
      by_case (inr (inr (inl x))) = assert_in ss ts x h
      by_case (inr (inr (inr (inl x)))) = first_in ss ts x h
      by_case (inr (inr (inr (inr (inl x))))) = second_in ss ts x h
      by_case (inr (inr (inr (inr (inr (inl x)))))) = loop_in ss ts x h
      by_case (inr (inr (inr (inr (inr (inr (inl x))))))) = either_in ss ts x h
      by_case (inr (inr (inr (inr (inr (inr (inr (inl x)))))))) = shared_in ss ts x h
      by_case (inr (inr (inr (inr (inr (inr (inr (inr (inl x))))))))) = first_after_in ss ts x h
      by_case (inr (inr (inr (inr (inr (inr (inr (inr (inr (inl x)))))))))) = second_after_in ss ts x h
      by_case (inr (inr (inr (inr (inr (inr (inr (inr (inr (inr (inl x))))))))))) = unswitched_in ss ts x h
      by_case (inr (inr (inr (inr (inr (inr (inr (inr (inr (inr (inr (inl x)))))))))))) = flattened_in ss ts x h
      by_case (inr (inr (inr (inr (inr (inr (inr (inr (inr (inr (inr (inr x)))))))))))) = absurd x

  -- ---- paths

  pub block_in : (s : StmtTree) (j : ℕ) (p : ProgTree) → block s j ≡ Some p → IsStmtInRange f s → InRange p
  block_in (branch b x y) zero p e h = subst InRange (same_Some x p e) h.1
  block_in (branch b x y) (suc zero) p e h = subst InRange (same_Some y p e) h.2
  block_in (loop b x) zero p e h = subst InRange (same_Some x p e) h.1
  block_in _ _ p e h = absurd cc

  with_block_in : (s : StmtTree) (j : ℕ) (q : ProgTree) → InRange q → IsStmtInRange f s → IsStmtInRange f (with_block s j q)
  with_block_in (branch b x y) zero q k h = (h.0, k, h.2)
  with_block_in (branch b x y) (suc zero) q k h = (h.0, h.1, k)
  with_block_in (loop b x) zero q k h = (h.0, k)
  with_block_in _ _ q k h = h

  pub steps_at_in : (n : ℕ) (path : List ℕ) (ss ts : List StmtTree) → StepsAt f n path ss ts → AreStmtsInRange f ss → AreStmtsInRange f ts
  steps_at_in n [] ss ts made h = absurd made
  steps_at_in n (k ∷ []) ss ts (new, step, e) h = rw e (append_in (take k ss) new (take_in k ss h) (step_in n (drop k ss) new step (drop_in k ss h)))
  steps_at_in n (k ∷ j ∷ path) ss ts (s, rest, p, q, at, is, made, e) h =
      let left : AreStmtsInRange f (s ∷ rest) = subst (AreStmtsInRange f) at (drop_in k ss h) in
      let inner = steps_at_in n path (stmts_of p) (stmts_of q) made (stmts_in p (block_in s j p is left.0)) in
      rw e (append_in (take k ss) (with_block s j q ∷ rest) (take_in k ss h) (with_block_in s j q (prog_in q inner) left.0, left.1))
