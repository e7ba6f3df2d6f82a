-- Runs from block to block, as runs from place to place.
use Rattle.std.proofs.Common.{◌≡◌, ℕ, zero, suc, ◌<◌, Bool, true, false, List, map, Option, Some, None, slice_get, if◌then◌else◌, refl, ap, arith}
use Rattle.flow_model.specs.Sorts.{State}
use Rattle.flow_model.specs.Graphs.{JumpTree, goto, branch, return, abort, Block, Graph}
use Rattle.flow_model.specs.Interpretations.{Interpretation, value, holds}
use Rattle.flow_model.specs.Runs.{End, after_statements, jumped, jumped_after, through, run_from}
use Rattle.flow_model.specs.Runs as runs
use Rattle.flow_ways.specs.Stops.{Stop, came_to, returned, stuck, unfinished, jump_stop, jump_stop_if, block_stop, stop_from, IsSettled}

-- how a run of at most n blocks that returns goes on from a stop
abbrev pub GoesOnFrom : Interpretation → Graph → (ℕ → Bool) → ℕ → List ℕ → Stop → Type 0
GoesOnFrom I g is_place n vs (came_to l t) = (is_place l ≡ true) × (m : ℕ) × (m < n) × (run_from I g m l t ≡ runs.returned vs)
GoesOnFrom I g is_place n vs (returned ws) = ws ≡ vs
GoesOnFrom I g is_place n vs stuck = ⊥
GoesOnFrom I g is_place n vs unfinished = ⊥

pub settled_on : (I : Interpretation) (g : Graph) (is_place : ℕ → Bool) (n : ℕ) (vs : List ℕ) (stop : Stop) → GoesOnFrom I g is_place n vs stop → IsSettled stop
settled_on I g is_place n vs (came_to l t) h = tt
settled_on I g is_place n vs (returned ws) h = tt
settled_on I g is_place n vs stuck h = absurd h
settled_on I g is_place n vs unfinished h = absurd h

longer : (I : Interpretation) (g : Graph) (is_place : ℕ → Bool) (n : ℕ) (vs : List ℕ) (stop : Stop) → GoesOnFrom I g is_place n vs stop → GoesOnFrom I g is_place (suc n) vs stop
longer I g is_place n vs (came_to l t) (p, m, lt, r) = (p, m, omega arith, r)
longer I g is_place n vs (returned ws) h = h
longer I g is_place n vs stuck h = absurd h
longer I g is_place n vs unfinished h = absurd h

module _ (I : Interpretation) (g : Graph) (is_place : ℕ → Bool) where
  -- ---- a run that returns goes on from its stop

  jump_on : (n : ℕ) (vs : List ℕ) (run : ℕ → State → End) (go : ℕ → State → Stop) → ((l : ℕ) (t : State) → run l t ≡ runs.returned vs → GoesOnFrom I g is_place n vs (go l t)) →
      (jump : JumpTree) (s : State) → jumped I run jump s ≡ runs.returned vs → GoesOnFrom I g is_place n vs (jump_stop I go jump s)
  jump_on n vs run go f (goto k) s e = f k s e
  jump_on n vs run go f (branch b k l) s e = f (if holds I s b then k else l) s e
  jump_on n vs run go f (return es) s e = let same : map (value I s) es ≡ vs = cc in same
  jump_on n vs run go f abort s e = absurd cc

  statements_on : (n : ℕ) (vs : List ℕ) (run : ℕ → State → End) (go : ℕ → State → Stop) → ((l : ℕ) (t : State) → run l t ≡ runs.returned vs → GoesOnFrom I g is_place n vs (go l t)) →
      (jump : JumpTree) (o : Option State) → jumped_after I run jump o ≡ runs.returned vs → GoesOnFrom I g is_place n vs (jump_stop_if I go jump o)
  statements_on n vs run go f jump None e = absurd cc
  statements_on n vs run go f jump (Some s) e = jump_on n vs run go f jump s e

  block_on : (n : ℕ) (vs : List ℕ) (run : ℕ → State → End) (go : ℕ → State → Stop) → ((l : ℕ) (t : State) → run l t ≡ runs.returned vs → GoesOnFrom I g is_place n vs (go l t)) →
      (o : Option Block) (s : State) → through I run s o ≡ runs.returned vs → GoesOnFrom I g is_place n vs (block_stop I go o s)
  block_on n vs run go f None s e = absurd cc
  block_on n vs run go f (Some block) s e = statements_on n vs run go f block.jump (after_statements I s block.statements) e

  next_on : (n : ℕ) (vs : List ℕ) (l : ℕ) (t : State) → run_from I g n l t ≡ runs.returned vs → GoesOnFrom I g is_place n vs (stop_from I g is_place n l t) →
      (b : Bool) → is_place l ≡ b → GoesOnFrom I g is_place (suc n) vs (if b then came_to l t else stop_from I g is_place n l t)
  next_on n vs l t r h true p = (p, n, omega arith, r)
  next_on n vs l t r h false p = longer I g is_place n vs (stop_from I g is_place n l t) h

  pub stops_on : (n : ℕ) (vs : List ℕ) (k : ℕ) (s : State) → run_from I g n k s ≡ runs.returned vs → GoesOnFrom I g is_place n vs (stop_from I g is_place n k s)
  stops_on zero vs k s e = absurd cc
  stops_on (suc n) vs k s e =
      block_on (suc n) vs (run_from I g n) (λ l t. if is_place l then came_to l t else stop_from I g is_place n l t)
      (λ l t r. next_on n vs l t r (stops_on n vs l t r) (is_place l) refl)
      (slice_get g k) s e

  -- ---- a run that goes on from its stop returns

  abbrev pub Resumes : List ℕ → Stop → Type 0
  Resumes vs (came_to l t) = (m : ℕ) × (run_from I g m l t ≡ runs.returned vs)
  Resumes vs (returned ws) = ws ≡ vs
  Resumes vs stuck = ⊥
  Resumes vs unfinished = ⊥

  abbrev pub HasReturn : List ℕ → ℕ → State → Type 0
  HasReturn vs k s = (m : ℕ) × (run_from I g m k s ≡ runs.returned vs)

  jump_resumed : (vs : List ℕ) (go : ℕ → State → Stop) → ((l : ℕ) (t : State) → Resumes vs (go l t) → HasReturn vs l t) →
      (jump : JumpTree) (s : State) → Resumes vs (jump_stop I go jump s) → (m : ℕ) × (jumped I (run_from I g m) jump s ≡ runs.returned vs)
  jump_resumed vs go f (goto k) s h = f k s h
  jump_resumed vs go f (branch b k l) s h = f (if holds I s b then k else l) s h
  jump_resumed vs go f (return es) s h = (0, ap runs.returned h)
  jump_resumed vs go f abort s h = absurd h

  statements_resumed : (vs : List ℕ) (go : ℕ → State → Stop) → ((l : ℕ) (t : State) → Resumes vs (go l t) → HasReturn vs l t) →
      (jump : JumpTree) (o : Option State) → Resumes vs (jump_stop_if I go jump o) → (m : ℕ) × (jumped_after I (run_from I g m) jump o ≡ runs.returned vs)
  statements_resumed vs go f jump None h = absurd h
  statements_resumed vs go f jump (Some s) h = jump_resumed vs go f jump s h

  block_resumed : (vs : List ℕ) (go : ℕ → State → Stop) → ((l : ℕ) (t : State) → Resumes vs (go l t) → HasReturn vs l t) →
      (o : Option Block) (s : State) → Resumes vs (block_stop I go o s) → (m : ℕ) × (through I (run_from I g m) s o ≡ runs.returned vs)
  block_resumed vs go f None s h = absurd h
  block_resumed vs go f (Some block) s h = statements_resumed vs go f block.jump (after_statements I s block.statements) h

  next_resumed : (n : ℕ) (vs : List ℕ) (l : ℕ) (t : State) → (Resumes vs (stop_from I g is_place n l t) → HasReturn vs l t) →
      (b : Bool) → Resumes vs (if b then came_to l t else stop_from I g is_place n l t) → HasReturn vs l t
  next_resumed n vs l t f true h = h
  next_resumed n vs l t f false h = f h

  pub resumed : (n : ℕ) (vs : List ℕ) (k : ℕ) (s : State) → Resumes vs (stop_from I g is_place n k s) → HasReturn vs k s
  resumed zero vs k s h = absurd h
  resumed (suc n) vs k s h =
      let b = block_resumed vs (λ l t. if is_place l then came_to l t else stop_from I g is_place n l t)
      (λ l t r. next_resumed n vs l t (λ x. resumed n vs l t x) (is_place l) r)
      (slice_get g k) s h in
      (suc b.0, b.1)

  -- ---- runs stop at places

  abbrev pub StopsAtPlace : Stop → Type 0
  StopsAtPlace (came_to l t) = is_place l ≡ true
  StopsAtPlace (returned ws) = Unit {0}
  StopsAtPlace stuck = Unit {0}
  StopsAtPlace unfinished = Unit {0}

  jump_place : (go : ℕ → State → Stop) → ((l : ℕ) (t : State) → StopsAtPlace (go l t)) → (jump : JumpTree) (s : State) → StopsAtPlace (jump_stop I go jump s)
  jump_place go f (goto k) s = f k s
  jump_place go f (branch b k l) s = f (if holds I s b then k else l) s
  jump_place go f (return es) s = tt
  jump_place go f abort s = tt

  statements_place : (go : ℕ → State → Stop) → ((l : ℕ) (t : State) → StopsAtPlace (go l t)) → (jump : JumpTree) (o : Option State) → StopsAtPlace (jump_stop_if I go jump o)
  statements_place go f jump None = tt
  statements_place go f jump (Some s) = jump_place go f jump s

  block_place : (go : ℕ → State → Stop) → ((l : ℕ) (t : State) → StopsAtPlace (go l t)) → (o : Option Block) (s : State) → StopsAtPlace (block_stop I go o s)
  block_place go f None s = tt
  block_place go f (Some block) s = statements_place go f block.jump (after_statements I s block.statements)

  next_place : (n l : ℕ) (t : State) → StopsAtPlace (stop_from I g is_place n l t) → (b : Bool) → is_place l ≡ b → StopsAtPlace (if b then came_to l t else stop_from I g is_place n l t)
  next_place n l t h true p = p
  next_place n l t h false p = h

  pub stops_at_place : (n k : ℕ) (s : State) → StopsAtPlace (stop_from I g is_place n k s)
  stops_at_place zero k s = tt
  stops_at_place (suc n) k s =
      block_place (λ l t. if is_place l then came_to l t else stop_from I g is_place n l t)
      (λ l t. next_place n l t (stops_at_place n l t) (is_place l) refl)
      (slice_get g k) s
