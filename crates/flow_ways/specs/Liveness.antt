-- Live variables: those that may be read before they are set.
use Rattle.std.specs.Prelude.{◌≡◌, ℕ, Bool, true, false, not, ◌&&◌, ◌||◌, nat_eq, List, [], ◌∷◌, length, Some, slice_get, slice_index_or}
use Rattle.kat_model.specs.Members.{Has}
use Rattle.flow_model.specs.Sorts.{State}
use Rattle.flow_model.specs.Expressions.{ExprTree}
use Rattle.flow_model.specs.Expressions as expr
use Rattle.flow_model.specs.Conditions.{CondTree}
use Rattle.flow_model.specs.Conditions as cond
use Rattle.flow_model.specs.Graphs.{StatementTree, assign, claim, JumpTree, goto, branch, return, abort, Block, Graph}
use Rattle.flow_ways.specs.Stops.{Stop, came_to, returned, stuck, unfinished}

-- whether an expression reads variable x
abbrev pub reads : ℕ → ExprTree → Bool
reads x (expr.number w n) = false
reads x (expr.variable k) = nat_eq k x
reads x (expr.plus w e f) = reads x e || reads x f
reads x (expr.minus w e f) = reads x e || reads x f
reads x (expr.times w e f) = reads x e || reads x f
reads x (expr.converted signed from to e) = reads x e
reads x (expr.applied f result args) = reads x args
reads x expr.no_arguments = false
reads x (expr.argument e rest) = reads x e || reads x rest

abbrev pub any_reads : ℕ → List ExprTree → Bool
any_reads x [] = false
any_reads x (e ∷ es) = reads x e || any_reads x es

abbrev pub cond_reads : ℕ → CondTree → Bool
cond_reads x cond.always = false
cond_reads x cond.never = false
cond_reads x (cond.compared rel e f) = reads x e || reads x f
cond_reads x (cond.compared_signed rel w e f) = reads x e || reads x f
cond_reads x (cond.negation b) = cond_reads x b
cond_reads x (cond.both b c) = cond_reads x b || cond_reads x c
cond_reads x (cond.either b c) = cond_reads x b || cond_reads x c

abbrev pub is_target : ℕ → List ℕ → Bool
is_target x [] = false
is_target x (k ∷ ks) = nat_eq k x || is_target x ks

-- whether statements read the variable before they set it, or do not set it and it is live after them
abbrev pub live_before : ℕ → List StatementTree → Bool → Bool
live_before x [] after = after
live_before x (assign ks es ∷ rest) after = any_reads x es || (not (is_target x ks) && live_before x rest after)
live_before x (claim b ∷ rest) after = cond_reads x b || live_before x rest after

abbrev pub jump_reads : ℕ → JumpTree → Bool
jump_reads x (goto k) = false
jump_reads x (branch b k l) = cond_reads x b
jump_reads x (return es) = any_reads x es
jump_reads x abort = false

abbrev pub jump_targets : JumpTree → List ℕ
jump_targets (goto k) = k ∷ []
jump_targets (branch b k l) = k ∷ l ∷ []
jump_targets (return es) = []
jump_targets abort = []

-- Variable x is live at the beginning of a block: the block reads it before it sets it, or leaves it unchanged and it is
-- live at a target of the block's jump. These are the least sets of the equations of liveness (Aho, Lam, Sethi and
-- Ullman, *Compilers*, 2006).
pub data IsLive (g : Graph) (x : ℕ) : ℕ → Type 0 where
  is_read : (k : ℕ) (block : Block) → slice_get g k ≡ Some block → live_before x block.statements (jump_reads x block.jump) ≡ true → IsLive g x k
  is_left : (k l : ℕ) (block : Block) → slice_get g k ≡ Some block → Has (jump_targets block.jump) l → live_before x block.statements true ≡ true → IsLive g x l → IsLive g x k

-- the states agree on the variables that are live at a block
abbrev pub AgreeLive : Graph → ℕ → State → State → Type 0
AgreeLive g k s t = (x : ℕ) → IsLive g x k → slice_index_or s x 0 ≡ slice_index_or t x 0

-- both runs reach one place in states that agree on what is live there, return the same values, or end alike
abbrev pub StopsAgree : Graph → Stop → Stop → Type 0
StopsAgree g (came_to k s) (came_to l t) = (k ≡ l) × (length s ≡ length t) × AgreeLive g k s t
StopsAgree g (returned vs) (returned ws) = vs ≡ ws
StopsAgree g stuck stuck = Unit {0}
StopsAgree g unfinished unfinished = Unit {0}
StopsAgree g a b = ⊥
