-- A run of the graph of a side is its opening and a run of the piece, and the stop of the latter gives what it returns.
use Rattle.std.proofs.Common.{◌≡◌, ◌⊎◌, inl, inr, ⊎_elim, ℕ, zero, suc, ◌%◌, ◌<◌, ◌≤◌, Bool, true, false, List, [], ◌∷◌, ◌++◌, length, map, Option, Some, None, slice_get, if◌then◌else◌, eq-or-lt_of_le, refl, sym, ◌∙◌, ap, subst, arith}
use Rattle.std.proofs.lemmas.List.{length-append, append_assoc}
use Rattle.kat_model.specs.Members.{Has}
use Rattle.kat_model.specs.Stores.{modulus}
use Rattle.kat_model.specs.declared.expression.Width.TheVariants.{W32}
use Rattle.flow_model.specs.Sorts.{State}
use Rattle.flow_model.specs.Expressions.{ExprTree}
use Rattle.flow_model.specs.Graphs.{JumpTree, goto, branch, return, abort, Block}
use Rattle.flow_model.specs.Interpretations.{Interpretation, value, holds}
use Rattle.flow_model.specs.Runs.{after_statements, jumped, jumped_after, through, run_from, Returns}
use Rattle.flow_model.specs.Runs as runs
use Rattle.flow_model.proofs.Determined.{IsEnd, ends_alike}
use Rattle.flow_ways.specs.Liveness.{jump_targets}
use Rattle.flow_ways.specs.Stops.{Stop, came_to, returned, stuck, unfinished, jump_stop, jump_stop_if, block_stop, stop_from}
use Rattle.flow_places.specs.Loops.{targets_of, targets}
use Rattle.flow_problem.proofs.RunStops.{GoesOnFrom, stops_on, Resumes, resumed}
use Rattle.flow_pieces.specs.Pieces.{Ends}
use Rattle.flow_pieces.specs.PieceGraphs.{Point, inside, arrival, leaving, Leave, Side, side_blocks, points, number_of, target_of, jump_of, block_inside, arrival_jump, leaving_jump, block_at, side_graph}
use Rattle.flow_pieces.proofs.PointNumbers.{listed_number, any_number, block_of_point, no_block_there, arrivals, inside_listed, leaving_listed, arrival_listed, last_arrival_listed}
use Rattle.flow_pieces.proofs.ClosedBlocks.{first_inside, stays_inside, arrives}

-- the results of the first leave whose condition holds
abbrev pub taken : Interpretation → State → List Leave → List ExprTree → List ExprTree
taken I s [] otherwise = otherwise
taken I s (leave ∷ leaves) otherwise = if holds I s leave.condition then leave.results else taken I s leaves otherwise

-- what the graph of a side returns where the run of the piece stops so
abbrev pub Gives : Interpretation → Side → Stop → List ℕ → Type 0
Gives I side (came_to k s) vs = map (value I s) (taken I s (side.leaves k) side.otherwise) ≡ vs
Gives I side (returned ws) vs = ((0 % modulus W32) ∷ ws) ≡ vs
Gives I side stop vs = ⊥

abbrev is_arrival : Option Point → Bool
is_arrival (Some (arrival k i)) = true
is_arrival o = false

get_at : {X : Type 0} (xs : List X) (y : X) (ys : List X) → slice_get (xs ++ y ∷ ys) (length xs) ≡ Some y
get_at [] y ys = refl
get_at (x ∷ xs) y ys = get_at xs y ys

get_end : {X : Type 0} (xs : List X) → slice_get (xs ++ []) (length xs) ≡ None
get_end [] = refl
get_end (x ∷ xs) = get_end xs

module _ (I : Interpretation) (side : Side) where
  -- ---- runs through the blocks of the piece

  -- the arrivals are the places of the graph of the side
  abbrev is_place : ℕ → Bool
  is_place l = is_arrival (slice_get (points side) l)

  -- stops of the piece, and of the graph of the side
  abbrev Moves : Stop → Stop → Type 0
  Moves (came_to k s) (came_to l t) = Has (arrivals side) k × (l ≡ number_of side (arrival k 0)) × (s ≡ t)
  Moves (returned vs) (returned ws) = ws ≡ (0 % modulus W32) ∷ vs
  Moves stuck stuck = Unit {0}
  Moves unfinished unfinished = Unit {0}
  Moves a b = ⊥

  abbrev IsInside : ℕ → Type 0
  IsInside k = Has (side_blocks side) k ⊎ (slice_get side.graph k ≡ None)

  -- the runs of at most n blocks from blocks inside
  abbrev InsideMoves : ℕ → Type 0
  InsideMoves n = (k : ℕ) → IsInside k → (s : State) → Moves (stop_from I side.graph side.is_matched n k s) (stop_from I (side_graph side) is_place n (number_of side (inside k)) s)

  some_arrival : (k i : ℕ) → Has (arrivals side) k → i ≤ length (side.leaves k) → Has (points side) (arrival k i)
  some_arrival k i h le =
      ⊎_elim (λ e. subst (λ j. Has (points side) (arrival k j)) (sym e) (last_arrival_listed side k h)) (λ lt. arrival_listed side k i h lt) (eq-or-lt_of_le le)

  not_place : (l : ℕ) → is_place (number_of side (inside l)) ≡ false
  not_place l = ⊎_elim (λ e. ap is_arrival e) (λ e. ap is_arrival e) (any_number side (inside l))

  next_moves : (n : ℕ) → InsideMoves n → (j l : ℕ) → Has (side_blocks side) j → Has (targets side.graph j) l → (t : State) →
      Moves (if side.is_matched l then came_to l t else stop_from I side.graph side.is_matched n l t)
      (if is_place (target_of side l) then came_to (target_of side l) t else stop_from I (side_graph side) is_place n (target_of side l) t)
  next_moves n go j l h m t = by_match (side.is_matched l) refl
    where
      by_match : (b : Bool) → side.is_matched l ≡ b →
          Moves (if b then came_to l t else stop_from I side.graph side.is_matched n l t)
          (if is_place (number_of side (if b then arrival l 0 else inside l)) then came_to (number_of side (if b then arrival l 0 else inside l)) t else stop_from I (side_graph side) is_place n (number_of side (if b then arrival l 0 else inside l)) t)
      by_match true e =
          let a = arrives side.graph side.is_matched (side_blocks side) j l h m e in
          let there : is_place (number_of side (arrival l 0)) ≡ true = ap is_arrival (listed_number side (arrival l 0) (some_arrival l 0 a (omega arith))) in
          subst (λ c. Moves (came_to l t) (if c then came_to (number_of side (arrival l 0)) t else stop_from I (side_graph side) is_place n (number_of side (arrival l 0)) t)) (sym there) (a, refl, refl)
      by_match false e =
          subst (λ c. Moves (stop_from I side.graph side.is_matched n l t) (if c then came_to (number_of side (inside l)) t else stop_from I (side_graph side) is_place n (number_of side (inside l)) t)) (sym (not_place l))
          (go l (stays_inside side.graph side.is_matched side.first j l h m e) t)

  jump_moves : (go there : ℕ → State → Stop) (jump : JumpTree) → ((l : ℕ) → Has (jump_targets jump) l → (t : State) → Moves (go l t) (there (target_of side l) t)) →
      (s : State) → Moves (jump_stop I go jump s) (jump_stop I there (jump_of side jump) s)
  jump_moves go there (goto k) f s = f k (inl refl) s
  jump_moves go there (branch b k l) f s = by_truth (holds I s b)
    where
      by_truth : (c : Bool) → Moves (go (if c then k else l) s) (there (if c then target_of side k else target_of side l) s)
      by_truth true = f k (inl refl) s
      by_truth false = f l (inr (inl refl)) s
  jump_moves go there (return es) f s = refl
  jump_moves go there abort f s = tt

  statements_move : (go there : ℕ → State → Stop) (jump : JumpTree) → ((l : ℕ) → Has (jump_targets jump) l → (t : State) → Moves (go l t) (there (target_of side l) t)) →
      (o : Option State) → Moves (jump_stop_if I go jump o) (jump_stop_if I there (jump_of side jump) o)
  statements_move go there jump f None = tt
  statements_move go there jump f (Some s) = jump_moves go there jump f s

  -- a block that is not there
  none_moves : (there : ℕ → State → Stop) (k : ℕ) (s : State) → slice_get side.graph k ≡ None → Moves stuck (block_stop I there (slice_get (side_graph side) (number_of side (inside k))) s)
  none_moves there k s e = by_number (any_number side (inside k))
    where
      by_number : (slice_get (points side) (number_of side (inside k)) ≡ Some (inside k)) ⊎ (slice_get (points side) (number_of side (inside k)) ≡ None) → Moves stuck (block_stop I there (slice_get (side_graph side) (number_of side (inside k))) s)
      by_number (inl q) =
          let block = block_of_point side (number_of side (inside k)) (inside k) q ∙ ap (λ o. Some (block_inside side o)) e in
          subst (λ o. Moves stuck (block_stop I there o s)) (sym block) tt
      by_number (inr q) = subst (λ o. Moves stuck (block_stop I there o s)) (sym (no_block_there side (number_of side (inside k)) q)) tt

  block_moves : (go there : ℕ → State → Stop) (k : ℕ) (block : Block) → slice_get side.graph k ≡ Some block → Has (side_blocks side) k → ((l : ℕ) → Has (targets side.graph k) l → (t : State) → Moves (go l t) (there (target_of side l) t)) →
      (s : State) → Moves (block_stop I go (Some block) s) (block_stop I there (slice_get (side_graph side) (number_of side (inside k))) s)
  block_moves go there k block e h f s =
      let its = block_of_point side (number_of side (inside k)) (inside k) (listed_number side (inside k) (inside_listed side k h)) ∙ ap (λ o. Some (block_inside side o)) e in
      subst (λ o. Moves (block_stop I go (Some block) s) (block_stop I there o s)) (sym its)
      (statements_move go there block.jump (λ l m t. f l (subst (λ ks. Has ks l) (sym (ap targets_of e)) m) t) (after_statements I s block.statements))

  inside_moves : (n : ℕ) → InsideMoves n
  inside_moves zero k h s = tt
  inside_moves (suc n) k h s = by_block (inside_moves n) (slice_get side.graph k) refl h
    where
      by_block : InsideMoves n → (o : Option Block) → slice_get side.graph k ≡ o → IsInside k →
          Moves (block_stop I (λ l t. if side.is_matched l then came_to l t else stop_from I side.graph side.is_matched n l t) o s)
          (block_stop I (λ l t. if is_place l then came_to l t else stop_from I (side_graph side) is_place n l t) (slice_get (side_graph side) (number_of side (inside k))) s)
      by_block go None e i = none_moves (λ l t. if is_place l then came_to l t else stop_from I (side_graph side) is_place n l t) k s e
      by_block go (Some block) e (inl m) =
          block_moves (λ l t. if side.is_matched l then came_to l t else stop_from I side.graph side.is_matched n l t) (λ l t. if is_place l then came_to l t else stop_from I (side_graph side) is_place n l t) k block e m
          (λ l to t. next_moves n go k l m to t) s
      by_block go (Some block) e (inr q) = let never : None ≡ Some block = sym q ∙ e in absurd cc

  -- ---- runs from an arrival

  run_at : (m : ℕ) (x : Point) (s : State) → Has (points side) x → run_from I (side_graph side) (suc m) (number_of side x) s ≡ through I (run_from I (side_graph side) m) s (Some (block_at side x))
  run_at m x s h = ap (through I (run_from I (side_graph side) m) s) (block_of_point side (number_of side x) x (listed_number side x h))

  -- the exits from number i on are tried in turn
  exits_tried : (k : ℕ) → Has (arrivals side) k → (s : State) (rest before : List Leave) (i : ℕ) → length before ≡ i → side.leaves k ≡ before ++ rest →
      (m : ℕ) × (run_from I (side_graph side) m (number_of side (arrival k i)) s ≡ runs.returned (map (value I s) (taken I s rest side.otherwise)))
  exits_tried k h s [] before i l e =
      let none : slice_get (side.leaves k) i ≡ None = ap (λ xs. slice_get xs i) e ∙ (ap (slice_get (before ++ [])) (sym l) ∙ get_end before) in
      let within : i ≤ length (side.leaves k) = omega (arith, l, ap length e, length-append before []) in
      (1, run_at 0 (arrival k i) s (some_arrival k i h within) ∙ ap (λ o. jumped I (run_from I (side_graph side) 0) (arrival_jump side k i o) s) none)
  exits_tried k h s (leave ∷ rest) before i l e =
      by_truth (holds I s leave.condition) refl (exits_tried k h s rest (before ++ leave ∷ []) (suc i) (length-append before (leave ∷ []) ∙ omega (arith, l)) (e ∙ sym (append_assoc before (leave ∷ []) rest)))
    where
      some : slice_get (side.leaves k) i ≡ Some leave
      some = ap (λ xs. slice_get xs i) e ∙ (ap (slice_get (before ++ leave ∷ rest)) (sym l) ∙ get_at before leave rest)

      within : i < length (side.leaves k)
      within = omega (arith, l, ap length e, length-append before (leave ∷ rest))

      arrived : (m : ℕ) (c : Bool) → holds I s leave.condition ≡ c → run_from I (side_graph side) (suc m) (number_of side (arrival k i)) s ≡ run_from I (side_graph side) m (if c then number_of side (leaving k i) else number_of side (arrival k (suc i))) s
      arrived m c t =
          run_at m (arrival k i) s (arrival_listed side k i h within)
          ∙ (ap (λ o. jumped I (run_from I (side_graph side) m) (arrival_jump side k i o) s) some
          ∙ ap (λ b. run_from I (side_graph side) m (if b then number_of side (leaving k i) else number_of side (arrival k (suc i))) s) t)

      by_truth : (c : Bool) → holds I s leave.condition ≡ c →
          (m : ℕ) × (run_from I (side_graph side) m (number_of side (arrival k (suc i))) s ≡ runs.returned (map (value I s) (taken I s rest side.otherwise))) →
          (m : ℕ) × (run_from I (side_graph side) m (number_of side (arrival k i)) s ≡ runs.returned (map (value I s) (if c then leave.results else taken I s rest side.otherwise)))
      by_truth true t later =
          (2, arrived 1 true t ∙ (run_at 0 (leaving k i) s (leaving_listed side k i h within) ∙ ap (λ o. jumped I (run_from I (side_graph side) 0) (leaving_jump o) s) some))
      by_truth false t (m, r) = (suc m, arrived m false t ∙ r)

  arrival_returns : (k : ℕ) → Has (arrivals side) k → (s : State) → (m : ℕ) × (run_from I (side_graph side) m (number_of side (arrival k 0)) s ≡ runs.returned (map (value I s) (taken I s (side.leaves k) side.otherwise)))
  arrival_returns k h s = exits_tried k h s (side.leaves k) [] 0 refl refl

  -- ---- whole runs

  one_end : (vs ws : List ℕ) (l n m : ℕ) (s : State) → run_from I (side_graph side) n l s ≡ runs.returned vs → run_from I (side_graph side) m l s ≡ runs.returned ws → vs ≡ ws
  one_end vs ws l n m s a b =
      let same : runs.returned vs ≡ runs.returned ws = sym a ∙ (ends_alike I (side_graph side) n m l s (subst IsEnd (sym a) tt) (subst IsEnd (sym b) tt) ∙ b) in
      cc

  given_by : (n : ℕ) (vs : List ℕ) (a b : Stop) → Moves a b → GoesOnFrom I (side_graph side) is_place n vs b → Gives I side a vs
  given_by n vs (came_to k s) (came_to l t) (h, at, same) (place, m, lt, ran) =
      let w = arrival_returns k h s in
      one_end (map (value I s) (taken I s (side.leaves k) side.otherwise)) vs (number_of side (arrival k 0)) w.0 m s w.1
      (subst (λ x. run_from I (side_graph side) m x s ≡ runs.returned vs) at (subst (λ u. run_from I (side_graph side) m l u ≡ runs.returned vs) (sym same) ran))
  given_by n vs (came_to k s) (returned ws) h g = absurd h
  given_by n vs (came_to k s) stuck h g = absurd h
  given_by n vs (came_to k s) unfinished h g = absurd h
  given_by n vs (returned us) (came_to l t) h g = absurd h
  given_by n vs (returned us) (returned ws) h g = sym h ∙ g
  given_by n vs (returned us) stuck h g = absurd h
  given_by n vs (returned us) unfinished h g = absurd h
  given_by n vs stuck (came_to l t) h g = absurd h
  given_by n vs stuck (returned ws) h g = absurd h
  given_by n vs stuck stuck h g = absurd g
  given_by n vs stuck unfinished h g = absurd h
  given_by n vs unfinished (came_to l t) h g = absurd h
  given_by n vs unfinished (returned ws) h g = absurd h
  given_by n vs unfinished stuck h g = absurd h
  given_by n vs unfinished unfinished h g = absurd g

  resume : (vs : List ℕ) (a b : Stop) → Moves a b → Gives I side a vs → Resumes I (side_graph side) is_place vs b
  resume vs (came_to k s) (came_to l t) (h, at, same) given =
      let w = arrival_returns k h s in (
        w.0,
        subst (λ x. run_from I (side_graph side) w.0 x t ≡ runs.returned vs) (sym at)
            (subst (λ u. run_from I (side_graph side) w.0 (number_of side (arrival k 0)) u ≡ runs.returned vs) same (w.1 ∙ ap runs.returned given)),
      )
  resume vs (came_to k s) (returned ws) h given = absurd h
  resume vs (came_to k s) stuck h given = absurd h
  resume vs (came_to k s) unfinished h given = absurd h
  resume vs (returned us) (came_to l t) h given = absurd h
  resume vs (returned us) (returned ws) h given = h ∙ given
  resume vs (returned us) stuck h given = absurd h
  resume vs (returned us) unfinished h given = absurd h
  resume vs stuck b h given = absurd given
  resume vs unfinished b h given = absurd given

  -- each return of the graph of the side is given by a stop of the piece
  pub stop_of_return : (u s : State) (vs : List ℕ) → after_statements I u side.opening ≡ Some s → Returns I (side_graph side) u vs → (a : Stop) × Ends I side.graph side.is_matched side.first s a × Gives I side a vs
  stop_of_return u s vs e (zero, r) = absurd cc
  stop_of_return u s vs e (suc n, r) =
      let ran : run_from I (side_graph side) n (number_of side (inside side.first)) s ≡ runs.returned vs = sym (ap (jumped_after I (run_from I (side_graph side) n) (goto (number_of side (inside side.first)))) e) ∙ r in (
        stop_from I side.graph side.is_matched n side.first s,
        (n, refl),
        given_by n vs (stop_from I side.graph side.is_matched n side.first s) (stop_from I (side_graph side) is_place n (number_of side (inside side.first)) s)
            (inside_moves n side.first (first_inside side.graph side.is_matched side.first) s)
            (stops_on I (side_graph side) is_place n vs (number_of side (inside side.first)) s ran),
      )

  -- each stop of the piece gives a return of the graph of the side
  pub return_of_stop : (u s : State) (vs : List ℕ) → after_statements I u side.opening ≡ Some s → (a : Stop) → Ends I side.graph side.is_matched side.first s a → Gives I side a vs → Returns I (side_graph side) u vs
  return_of_stop u s vs e a (n, r) given =
      let moves = subst (λ b. Moves b (stop_from I (side_graph side) is_place n (number_of side (inside side.first)) s)) r (inside_moves n side.first (first_inside side.graph side.is_matched side.first) s) in
      let on = resumed I (side_graph side) is_place n vs (number_of side (inside side.first)) s (resume vs a (stop_from I (side_graph side) is_place n (number_of side (inside side.first)) s) moves given) in
      (suc on.0, ap (jumped_after I (run_from I (side_graph side) on.0) (goto (number_of side (inside side.first)))) e ∙ on.1)
