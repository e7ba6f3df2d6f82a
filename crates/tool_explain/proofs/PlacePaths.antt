-- The path of a place leads to a statement of its kind, and its position is one of the string.
use Rattle.std.proofs.Common.{◌≡◌, ◌≤◌, ◌+◌, ℕ, suc, List, [], ◌∷◌, ◌++◌, length, slice_get, Some, refl, sym, ap, ◌∙◌, subst, Bool, true, false, cond, append_assoc, arith}
use Rattle.std.specs.Prelude.{nat_eq}
use Rattle.kat_model.specs.Steps.{Atom, truth}
use Rattle.kat_model.specs.Strings.{Move, GuardedString}
use Rattle.while_lang.specs.Flows as flow
use Rattle.while_lang.specs.Flows.{FlowTree, FlowStmt, with_stmt, skip, abort, assert, act, branch, loop}
use Rattle.tool_explain.specs.declared.place.Place.{Place}
use Rattle.tool_explain.specs.declared.place.Place.TheVariants.{Ended, Blocked, AtAction}
use Rattle.tool_explain.specs.Places.{PlacedTree, empty, skip_then, abort_then, assert_then, act_then, branch_then, loop_then, path_at, path_in, placed, followed_by, Front, over, blocked, acting, then_front, turn_front, front, stopped, at_end, at_move, walk, place_reached, place_of}
use Rattle.tool_explain.specs.Laws.{statements_of, block_of, statement_at, CanBlock, IsAction, IsPlaceIn, PlacesAreStatements}

module _ (root : FlowTree) where
  abbrev Blocks : List ℕ → Type 0
  Blocks path = CanBlock (statement_at path root)

  abbrev Acts : List ℕ → Type 0
  Acts path = IsAction (statement_at path root)

  -- each path of the placed statements leads to a statement of its kind
  abbrev HasPaths : PlacedTree → Type 0
  HasPaths empty = Unit {0}
  HasPaths (skip_then rest) = HasPaths rest
  HasPaths (abort_then path rest) = Blocks path × HasPaths rest
  HasPaths (assert_then path b rest) = Blocks path × HasPaths rest
  HasPaths (act_then path a rest) = Acts path × HasPaths rest
  HasPaths (branch_then b f g rest) = HasPaths f × HasPaths g × HasPaths rest
  HasPaths (loop_then path b f rest) = Blocks path × HasPaths f × HasPaths rest

  followed_paths : (f g : PlacedTree) → HasPaths f → HasPaths g → HasPaths (followed_by f g)
  followed_paths empty g h k = k
  followed_paths (skip_then rest) g h k = followed_paths rest g h k
  followed_paths (abort_then path rest) g h k = (h.0, followed_paths rest g h.1 k)
  followed_paths (assert_then path b rest) g h k = (h.0, followed_paths rest g h.1 k)
  followed_paths (act_then path a rest) g h k = (h.0, followed_paths rest g h.1 k)
  followed_paths (branch_then b f e rest) g h k = (h.0, h.1, followed_paths rest g h.2 k)
  followed_paths (loop_then path b f rest) g h k = (h.0, h.1, followed_paths rest g h.2 k)

  abbrev FrontPaths : Front → Type 0
  FrontPaths over = Unit {0}
  FrontPaths (blocked path) = Blocks path
  FrontPaths (acting path a rest) = Acts path × HasPaths rest

  then_paths : (c : Front) (g : PlacedTree) (next : Front) → FrontPaths c → HasPaths g → FrontPaths next → FrontPaths (then_front c g next)
  then_paths over g next h k n = n
  then_paths (blocked path) g next h k n = h
  then_paths (acting path a f) g next h k n = (h.0, followed_paths f g h.1 k)

  turn_paths : (c : Front) (path : List ℕ) (again : PlacedTree) → FrontPaths c → Blocks path → HasPaths again → FrontPaths (turn_front c path again)
  turn_paths over path again h b k = b
  turn_paths (blocked inner) path again h b k = h
  turn_paths (acting inner a f) path again h b k = (h.0, followed_paths f again h.1 k)

  either_paths : (t : Bool) (c d : Front) → FrontPaths c → FrontPaths d → FrontPaths (cond t c d)
  either_paths true c d h k = h
  either_paths false c d h k = k

  front_paths : (atom : Atom) (f : PlacedTree) → HasPaths f → FrontPaths (front atom f)
  front_paths atom empty h = tt
  front_paths atom (skip_then rest) h = front_paths atom rest h
  front_paths atom (abort_then path rest) h = h.0
  front_paths atom (assert_then path b rest) h = either_paths (truth b atom) (front atom rest) (blocked path) (front_paths atom rest h.1) h.0
  front_paths atom (act_then path a rest) h = h
  front_paths atom (branch_then b f g rest) h =
      then_paths (cond (truth b atom) (front atom f) (front atom g)) rest (front atom rest)
      (either_paths (truth b atom) (front atom f) (front atom g) (front_paths atom f h.0) (front_paths atom g h.1)) h.2 (front_paths atom rest h.2)
  front_paths atom (loop_then path b f rest) h =
      either_paths (truth b atom) (turn_front (front atom f) path (loop_then path b f rest)) (front atom rest)
      (turn_paths (front atom f) path (loop_then path b f rest) (front_paths atom f h.1) h.0 h) (front_paths atom rest h.2)

  -- a place at a position up to n
  abbrev IsAt : ℕ → Place → Type 0
  IsAt n (Ended k) = k ≤ n
  IsAt n (Blocked k path) = (k ≤ n) × Blocks path
  IsAt n (AtAction k path) = (k ≤ n) × Acts path

  walk_paths : (n : ℕ) (ms : List Move) (k : ℕ) (atom : Atom) (f : PlacedTree) → k + length ms ≤ n → HasPaths f → IsAt n (place_reached (walk ms k atom f))
  walk_paths n [] k atom f few h = go (front atom f) (front_paths atom f h)
    where
      go : (c : Front) → FrontPaths c → IsAt n (place_reached (at_end c k atom))
      go over p = omega (arith, few)
      go (blocked path) p = (omega (arith, few), p)
      go (acting path a rest) p = (omega (arith, few), p.0)
  walk_paths n (m ∷ ms) k atom f few h = go (λ rest. walk_paths n ms (suc k) m.atom rest (omega (arith, few))) (front atom f) (front_paths atom f h)
    where
      went : ((rest : PlacedTree) → HasPaths rest → IsAt n (place_reached (walk ms (suc k) m.atom rest))) → (t : Bool) (path : List ℕ) (rest : PlacedTree) → Acts path → HasPaths rest → IsAt n (place_reached (cond t (walk ms (suc k) m.atom rest) (stopped (AtAction k path))))
      went later true path rest a p = later rest p
      went later false path rest a p = (omega (arith, few), a)

      go : ((rest : PlacedTree) → HasPaths rest → IsAt n (place_reached (walk ms (suc k) m.atom rest))) → (c : Front) → FrontPaths c → IsAt n (place_reached (at_move c k atom m ms (λ rest. walk ms (suc k) m.atom rest)))
      go later over p = omega (arith, few)
      go later (blocked path) p = (omega (arith, few), p)
      go later (acting path a rest) p = went later (nat_eq m.act a) path rest p.0 p.1

  -- the statements at this base are those of g
  abbrev Leads : List ℕ → FlowTree → Type 0
  Leads base g = (path : List ℕ) → statement_at (base ++ path) root ≡ statement_at path g

  -- those from position j on are these
  abbrev IsRest : FlowTree → ℕ → FlowTree → Type 0
  IsRest g j f = (i : ℕ) → slice_get (statements_of g) (j + i) ≡ slice_get (statements_of f) i

  at_path : (base : List ℕ) (g : FlowTree) (j : ℕ) (s : FlowStmt) → Leads base g → slice_get (statements_of g) j ≡ Some s → statement_at (path_at base j) root ≡ Some s
  at_path base g j s leads at = leads (j ∷ []) ∙ at

  block_leads : (base : List ℕ) (g : FlowTree) (j block : ℕ) (s : FlowStmt) → Leads base g → slice_get (statements_of g) j ≡ Some s → Leads (path_in (path_at base j) block) (block_of (Some s) block)
  block_leads base g j block s leads at path =
      ap (λ p. statement_at p root) (append_assoc (path_at base j) (block ∷ []) path ∙ append_assoc base (j ∷ []) (block ∷ path))
      ∙ leads (j ∷ block ∷ path)
      ∙ ap (λ o. statement_at path (block_of o block)) at

  rest_moves : (g : FlowTree) (j : ℕ) (s : FlowStmt) (rest : FlowTree) → IsRest g j (with_stmt s rest) → (slice_get (statements_of g) j ≡ slice_get (statements_of (with_stmt s rest)) 0) × IsRest g (suc j) rest
  rest_moves g j s rest is = (ap (slice_get (statements_of g)) (zero_more j) ∙ is 0, λ i. ap (slice_get (statements_of g)) (one_more j i) ∙ is (suc i) ∙ later s i)
    where
      zero_more : (n : ℕ) → n ≡ n + 0
      zero_more n = omega arith

      one_more : (n i : ℕ) → suc n + i ≡ n + suc i
      one_more n i = omega arith

      later : (t : FlowStmt) (i : ℕ) → slice_get (statements_of (with_stmt t rest)) (suc i) ≡ slice_get (statements_of rest) i
      later skip i = refl
      later abort i = refl
      later (assert b) i = refl
      later (act a) i = refl
      later (branch b f e) i = refl
      later (loop b f) i = refl

  -- a list is the rest of itself from the first position on
  whole_rest : (f : FlowTree) → IsRest f 0 f
  whole_rest f i = ap (slice_get (statements_of f)) (zero_plus i)
    where
      zero_plus : (n : ℕ) → 0 + n ≡ n
      zero_plus n = omega arith

  placed_paths : (f g : FlowTree) (base : List ℕ) (j : ℕ) → Leads base g → IsRest g j f → HasPaths (placed base j f)
  placed_paths flow.empty g base j leads is = tt
  placed_paths (flow.skip_then rest) g base j leads is = let m = rest_moves g j skip rest is in placed_paths rest g base (suc j) leads m.1
  placed_paths (flow.abort_then rest) g base j leads is =
      let m = rest_moves g j abort rest is in
      (subst CanBlock (sym (at_path base g j abort leads m.0)) tt, placed_paths rest g base (suc j) leads m.1)
  placed_paths (flow.assert_then b rest) g base j leads is =
      let m = rest_moves g j (assert b) rest is in
      (subst CanBlock (sym (at_path base g j (assert b) leads m.0)) tt, placed_paths rest g base (suc j) leads m.1)
  placed_paths (flow.act_then a rest) g base j leads is =
      let m = rest_moves g j (act a) rest is in
      (subst IsAction (sym (at_path base g j (act a) leads m.0)) tt, placed_paths rest g base (suc j) leads m.1)
  placed_paths (flow.branch_then b f e rest) g base j leads is =
      let m = rest_moves g j (branch b f e) rest is in (
        placed_paths f f (path_in (path_at base j) 0) 0 (block_leads base g j 0 (branch b f e) leads m.0) (whole_rest f),
        placed_paths e e (path_in (path_at base j) 1) 0 (block_leads base g j 1 (branch b f e) leads m.0) (whole_rest e),
        placed_paths rest g base (suc j) leads m.1,
      )
  placed_paths (flow.loop_then b f rest) g base j leads is =
      let m = rest_moves g j (loop b f) rest is in (
        subst CanBlock (sym (at_path base g j (loop b f) leads m.0)) tt,
        placed_paths f f (path_in (path_at base j) 0) 0 (block_leads base g j 0 (loop b f) leads m.0) (whole_rest f),
        placed_paths rest g base (suc j) leads m.1,
      )

  at_is_place : (x : GuardedString) (place : Place) → IsAt (length x.rest) place → IsPlaceIn root x place
  at_is_place x (Ended k) h = h
  at_is_place x (Blocked k path) h = h
  at_is_place x (AtAction k path) h = h

pub places_lead : PlacesAreStatements
places_lead f x =
    at_is_place f x (place_of f x) (walk_paths f (length x.rest) x.rest 0 x.first (placed [] 0 f) (omega arith) (placed_paths f f f [] 0 (λ path. refl) (whole_rest f f)))
