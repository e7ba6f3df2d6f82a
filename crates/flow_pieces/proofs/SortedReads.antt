-- A sorted graph reads variables that have sorts only, so each live variable has one.
use Rattle.std.proofs.Common.{◌≡◌, ⊎_elim, ℕ, ◌<◌, Bool, true, false, not, ◌&&◌, List, [], ◌∷◌, length, subst}
use Rattle.std.proofs.lemmas.Bool.{false≢true, or_cases, and_parts, eqb-true}
use Rattle.std.proofs.lemmas.Option.{slice_get_within}
use Rattle.flow_model.specs.declared.sort.Sort.{Sort}
use Rattle.flow_model.specs.Expressions.{ExprTree}
use Rattle.flow_model.specs.Expressions as expr
use Rattle.flow_model.specs.Conditions.{CondTree}
use Rattle.flow_model.specs.Conditions as cond
use Rattle.flow_model.specs.Graphs.{StatementTree, assign, claim, JumpTree, goto, branch, return, abort, Graph}
use Rattle.flow_forms.specs.Expressions.{IsSorted}
use Rattle.flow_ways.specs.Conditions.{IsSortedCond}
use Rattle.flow_ways.specs.Liveness.{reads, any_reads, cond_reads, is_target, live_before, jump_reads, IsLive, is_read, is_left}
use Rattle.flow_ways.specs.Sorted.{AreSorted, AreAssigned, AreSortedStatements, IsSortedJump, IsSortedGraph}
use Rattle.flow_pieces.proofs.SortedStates.{sorted_block}

module _ (sorts : List Sort) (x : ℕ) where
  read_within : (arguments : Bool) (e : ExprTree) → IsSorted sorts arguments e → reads x e ≡ true → x < length sorts
  read_within false (expr.number w n) h r = absurd (false≢true r)
  read_within false (expr.variable k) (sort, e) r = subst (λ y. y < length sorts) (eqb-true k x r) (slice_get_within sorts k sort e)
  read_within false (expr.plus w e f) h r = ⊎_elim (read_within false e h.0) (read_within false f h.1) (or_cases (reads x e) (reads x f) r)
  read_within false (expr.minus w e f) h r = ⊎_elim (read_within false e h.0) (read_within false f h.1) (or_cases (reads x e) (reads x f) r)
  read_within false (expr.times w e f) h r = ⊎_elim (read_within false e h.0) (read_within false f h.1) (or_cases (reads x e) (reads x f) r)
  read_within false (expr.converted signed from to e) h r = read_within false e h.0 r
  read_within false (expr.applied f result args) h r = read_within true args h r
  read_within true expr.no_arguments h r = absurd (false≢true r)
  read_within true (expr.argument e rest) h r = ⊎_elim (read_within false e h.0) (read_within true rest h.1) (or_cases (reads x e) (reads x rest) r)
  read_within _ _ h r = absurd h

  any_within : (es : List ExprTree) → AreSorted sorts es → any_reads x es ≡ true → x < length sorts
  any_within [] h r = absurd (false≢true r)
  any_within (e ∷ es) h r = ⊎_elim (read_within false e h.0) (any_within es h.1) (or_cases (reads x e) (any_reads x es) r)

  assigned_within : (ks : List ℕ) (es : List ExprTree) → AreAssigned sorts ks es → any_reads x es ≡ true → x < length sorts
  assigned_within [] [] h r = absurd (false≢true r)
  assigned_within [] (e ∷ es) h r = absurd h
  assigned_within (k ∷ ks) [] h r = absurd h
  assigned_within (k ∷ ks) (e ∷ es) h r = ⊎_elim (read_within false e h.1) (assigned_within ks es h.2) (or_cases (reads x e) (any_reads x es) r)

  cond_within : (b : CondTree) → IsSortedCond sorts b → cond_reads x b ≡ true → x < length sorts
  cond_within cond.always h r = absurd (false≢true r)
  cond_within cond.never h r = absurd (false≢true r)
  cond_within (cond.compared rel e f) h r = ⊎_elim (read_within false e h.0) (read_within false f h.1) (or_cases (reads x e) (reads x f) r)
  cond_within (cond.compared_signed rel w e f) h r = ⊎_elim (read_within false e h.0) (read_within false f h.1) (or_cases (reads x e) (reads x f) r)
  cond_within (cond.negation b) h r = cond_within b h r
  cond_within (cond.both b c) h r = ⊎_elim (cond_within b h.0) (cond_within c h.1) (or_cases (cond_reads x b) (cond_reads x c) r)
  cond_within (cond.either b c) h r = ⊎_elim (cond_within b h.0) (cond_within c h.1) (or_cases (cond_reads x b) (cond_reads x c) r)

  jump_within : (jump : JumpTree) → IsSortedJump sorts jump → jump_reads x jump ≡ true → x < length sorts
  jump_within (goto k) h r = absurd (false≢true r)
  jump_within (branch b k l) h r = cond_within b h r
  jump_within (return es) h r = any_within es h r
  jump_within abort h r = absurd (false≢true r)

  statements_within : (stmts : List StatementTree) (after : Bool) → AreSortedStatements sorts stmts → (after ≡ true → x < length sorts) → live_before x stmts after ≡ true → x < length sorts
  statements_within [] after h f r = f r
  statements_within (assign ks es ∷ rest) after h f r =
      ⊎_elim (assigned_within ks es h.0)
      (λ q. statements_within rest after h.1 f (and_parts (not (is_target x ks)) (live_before x rest after) q).1)
      (or_cases (any_reads x es) (not (is_target x ks) && live_before x rest after) r)
  statements_within (claim b ∷ rest) after h f r =
      ⊎_elim (cond_within b h.0) (statements_within rest after h.1 f) (or_cases (cond_reads x b) (live_before x rest after) r)

  pub live_has_sort : (g : Graph) (k : ℕ) → IsSortedGraph sorts g → IsLive g x k → x < length sorts
  live_has_sort g k sorted (is_read j block e r) =
      let h = sorted_block sorts g j block sorted e in
      statements_within block.statements (jump_reads x block.jump) h.0 (jump_within block.jump h.1) r
  live_has_sort g k sorted (is_left j l block e h r live) = live_has_sort g l sorted live
