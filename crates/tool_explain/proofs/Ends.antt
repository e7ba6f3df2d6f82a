-- The recursion on the program gives the end of its walk along the string.
use Rattle.std.proofs.Common.{◌≡◌, ◌⊎◌, inl, inr, ℕ, zero, suc, ◌+◌, List, [], ◌∷◌, drop, slice_get, Option, Some, None, refl, sym, ap, ◌∙◌, Bool, true, false, cond, arith}
use Rattle.std.specs.Prelude.{nat_eq}
use Rattle.kat_model.specs.Trees.{TestTree, one}
use Rattle.kat_model.specs.Steps.{Atom, truth}
use Rattle.kat_model.specs.Strings.{Move, GuardedString}
use Rattle.while_lang.specs.Flows as flow
use Rattle.while_lang.specs.Flows.{FlowTree, FlowStmt, with_stmt}
use Rattle.tool_explain.specs.declared.place.Place.{Place}
use Rattle.tool_explain.specs.declared.place.Place.TheVariants.{Ended, Blocked, AtAction}
use Rattle.tool_explain.specs.declared.walking.Stop.{Stop}
use Rattle.tool_explain.specs.declared.walking.Stop.TheVariants as stop
use Rattle.tool_explain.specs.Places.{PlacedTree, empty, skip_then, abort_then, assert_then, act_then, path_at, path_in, placed, Front, over, blocked, acting, front, Walk, ended, stopped, at_end, at_move, walk, place_reached, place_of}
use Rattle.tool_explain.specs.Working.Walks.{atom_of_move, atom_from, is_act_of, is_next, walk_from, End, halted, end_of, then_on, end_of_walk, placed_stmt, loop_end, list_end, stmt_end, place_at}
use Rattle.tool_explain.specs.Working.Walks as end
use Rattle.tool_explain.proofs.Composition.{then_walk, onward, walk_followed, placed_split}
use Rattle.tool_explain.proofs.Accepted.{walk_same, walk_over, walk_blocked, stops_unended, branch_walk}

-- a list is empty from a position on, or has an element there
elements_from : (ms : List Move) (k : ℕ) → ((drop k ms ≡ []) × (slice_get ms k ≡ None)) ⊎ ((m : Move) × (drop k ms ≡ m ∷ drop (suc k) ms) × (slice_get ms k ≡ Some m))
elements_from [] zero = inl (refl, refl)
elements_from [] (suc k) = inl (refl, refl)
elements_from (m ∷ ms) zero = inr (m, refl, refl)
elements_from (m ∷ ms) (suc k) = elements_from ms k

abbrev pub place_halted : Stop → ℕ → List ℕ → Place
place_halted stop.Blocked k path = Blocked k path
place_halted stop.AtAction k path = AtAction k path

module _ (x : GuardedString) where
  -- the walk with this end
  abbrev pub walk_of : End → Walk
  walk_of (end.over k) = ended k (atom_from x k) (drop k x.rest)
  walk_of (halted why k path) = stopped (place_halted why k path)

  -- a walk that ends has the atom of its position, and the moves from there on
  abbrev HasRest : ℕ → Atom → List Move → Type 0
  HasRest l β left = (β ≡ atom_from x l) × (left ≡ drop l x.rest)

  moved : (k : ℕ) (m : Move) (ms : List Move) → m ∷ ms ≡ drop k x.rest → HasRest (suc k) m.atom ms
  moved k m ms e = by (elements_from x.rest k)
    where
      by : ((drop k x.rest ≡ []) × (slice_get x.rest k ≡ None)) ⊎ ((n : Move) × (drop k x.rest ≡ n ∷ drop (suc k) x.rest) × (slice_get x.rest k ≡ Some n)) → (m.atom ≡ atom_of_move (slice_get x.rest k)) × (ms ≡ drop (suc k) x.rest)
      by (inl h) = let none : m ∷ ms ≡ [] = e ∙ h.0 in absurd cc
      by (inr h) =
          let both : m ∷ ms ≡ h.0 ∷ drop (suc k) x.rest = e ∙ h.1 in
          let first : m ≡ h.0 = cc in
          let rest : ms ≡ drop (suc k) x.rest = cc in
          (ap (λ (n : Move). n.atom) first ∙ ap atom_of_move (sym h.2), rest)

  rest_at : (ms : List Move) (k : ℕ) (atom : Atom) (F : PlacedTree) (l : ℕ) (β : Atom) (left : List Move) → HasRest k atom ms → walk ms k atom F ≡ ended l β left → HasRest l β left
  rest_at [] k atom F l β left h e = go (front atom F) e
    where
      go : (c : Front) → at_end c k atom ≡ ended l β left → (β ≡ atom_from x l) × (left ≡ drop l x.rest)
      go over g =
          let place : k ≡ l = cc in
          let same : atom ≡ β = cc in
          let rest : [] ≡ left = cc in
          (sym same ∙ h.0 ∙ ap (atom_from x) place, sym rest ∙ h.1 ∙ ap (λ n. drop n x.rest) place)
      go (blocked path) g = absurd cc
      go (acting path a rest) g = absurd cc
  rest_at (m ∷ ms) k atom F l β left h e = go (λ g. rest_at ms (suc k) m.atom g l β left (moved k m ms h.1)) (front atom F) e
    where
      went : ((g : PlacedTree) → walk ms (suc k) m.atom g ≡ ended l β left → (β ≡ atom_from x l) × (left ≡ drop l x.rest)) → (t : Bool) (g : PlacedTree) (place : Place) → cond t (walk ms (suc k) m.atom g) (stopped place) ≡ ended l β left → (β ≡ atom_from x l) × (left ≡ drop l x.rest)
      went later true g place q = later g q
      went later false g place q = absurd cc

      go : ((g : PlacedTree) → walk ms (suc k) m.atom g ≡ ended l β left → (β ≡ atom_from x l) × (left ≡ drop l x.rest)) → (c : Front) → at_move c k atom m ms (λ g. walk ms (suc k) m.atom g) ≡ ended l β left → (β ≡ atom_from x l) × (left ≡ drop l x.rest)
      go later over g =
          let place : k ≡ l = cc in
          let same : atom ≡ β = cc in
          let rest : m ∷ ms ≡ left = cc in
          (sym same ∙ h.0 ∙ ap (atom_from x) place, sym rest ∙ h.1 ∙ ap (λ n. drop n x.rest) place)
      go later (blocked path) g = absurd cc
      go later (acting path a rest) g = went later (nat_eq m.act a) rest (AtAction k path) g

  -- the end of a walk has that walk
  pub walk_again : (k : ℕ) (F : PlacedTree) → walk_of (end_of_walk (walk_from x k F)) ≡ walk_from x k F
  walk_again k F = by (walk_from x k F) refl
    where
      by : (w : Walk) → walk_from x k F ≡ w → walk_of (end_of_walk w) ≡ w
      by (ended l β left) e =
          let rest = rest_at (drop k x.rest) k (atom_from x k) F l β left (refl, refl) e in
          ap (λ γ. ended l γ (drop l x.rest)) (sym rest.0) ∙ ap (λ r. ended l β r) (sym rest.1)
      by (stopped (Ended l)) e = absurd (stops_unended (drop k x.rest) k (atom_from x k) F (Ended l) l e refl)
      by (stopped (Blocked l path)) e = refl
      by (stopped (AtAction l path)) e = refl

  -- a second part continues where the first part ended
  then_same : (e : End) (next : ℕ → End) (F : PlacedTree) → ((l : ℕ) → walk_of (next l) ≡ walk_from x l F) → walk_of (then_on e next) ≡ then_walk (walk_of e) (onward F)
  then_same (end.over l) next F so = so l
  then_same (halted why l path) next F so = refl

  -- a first statement and the others
  first_then : (base : List ℕ) (j : ℕ) (s : FlowStmt) (rest : FlowTree) (k : ℕ) (e : End) (next : ℕ → End) → walk_of e ≡ walk_from x k (placed_stmt (path_at base j) s) → ((l : ℕ) → walk_of (next l) ≡ walk_from x l (placed base (suc j) rest))
      → walk_of (then_on e next) ≡ walk_from x k (placed base j (with_stmt s rest))
  first_then base j s rest k e next first so =
      then_same e next (placed base (suc j) rest) so
      ∙ ap (λ w. then_walk w (onward (placed base (suc j) rest))) first
      ∙ sym (ap (walk_from x k) (placed_split base j s rest) ∙ walk_followed (drop k x.rest) k (atom_from x k) (placed_stmt (path_at base j) s) (placed base (suc j) rest))

  -- an assertion
  assert_same : (path : List ℕ) (b : TestTree) (k : ℕ) (t : Bool) → truth b (atom_from x k) ≡ t → walk_of (cond t (end.over k) (halted stop.Blocked k path)) ≡ walk_from x k (placed_stmt path (flow.assert b))
  assert_same path b k true on = sym (walk_over (drop k x.rest) k (atom_from x k) (assert_then path b empty) (ap (λ u. cond u over (blocked path)) on))
  assert_same path b k false off = sym (walk_blocked (drop k x.rest) k (atom_from x k) (assert_then path b empty) path (ap (λ u. cond u over (blocked path)) off))

  -- an action
  act_same : (path : List ℕ) (a k : ℕ) → walk_of (cond (is_next x k a) (end.over (suc k)) (halted stop.AtAction k path)) ≡ walk_from x k (placed_stmt path (flow.act a))
  act_same path a k = by (elements_from x.rest k)
    where
      move_same : (m : Move) → slice_get x.rest k ≡ Some m → (t : Bool) → walk_of (cond t (end.over (suc k)) (halted stop.AtAction k path)) ≡ cond t (walk (drop (suc k) x.rest) (suc k) m.atom empty) (stopped (AtAction k path))
      move_same m is true = ap (λ β. ended (suc k) β (drop (suc k) x.rest)) (ap atom_of_move is) ∙ sym (walk_over (drop (suc k) x.rest) (suc k) m.atom empty refl)
      move_same m is false = refl

      by : ((drop k x.rest ≡ []) × (slice_get x.rest k ≡ None)) ⊎ ((m : Move) × (drop k x.rest ≡ m ∷ drop (suc k) x.rest) × (slice_get x.rest k ≡ Some m)) → walk_of (cond (is_next x k a) (end.over (suc k)) (halted stop.AtAction k path)) ≡ walk_from x k (placed_stmt path (flow.act a))
      by (inl h) =
          ap (λ o. walk_of (cond (is_act_of o a) (end.over (suc k)) (halted stop.AtAction k path))) h.1
          ∙ sym (ap (λ ms. walk ms k (atom_from x k) (act_then path a empty)) h.0)
      by (inr h) =
          ap (λ o. walk_of (cond (is_act_of o a) (end.over (suc k)) (halted stop.AtAction k path))) h.2
          ∙ move_same h.0 h.2 (nat_eq h.0.act a)
          ∙ sym (ap (λ ms. walk ms k (atom_from x k) (act_then path a empty)) h.1)

  -- a branch
  branch_same : (path : List ℕ) (b : TestTree) (f g : FlowTree) (k : ℕ) (c d : End) → walk_of c ≡ walk_from x k (placed (path_in path 0) 0 f) → walk_of d ≡ walk_from x k (placed (path_in path 1) 0 g)
      → walk_of (cond (truth b (atom_from x k)) c d) ≡ walk_from x k (placed_stmt path (flow.branch b f g))
  branch_same path b f g k c d hf hg = by (truth b (atom_from x k)) refl
    where
      by : (t : Bool) → truth b (atom_from x k) ≡ t → walk_of (cond t c d) ≡ walk_from x k (placed_stmt path (flow.branch b f g))
      by true on = hf ∙ sym (branch_walk path b one one (placed (path_in path 0) 0 f) (placed (path_in path 1) 0 g) (drop k x.rest) k (atom_from x k) true on)
      by false off = hg ∙ sym (branch_walk path b one one (placed (path_in path 0) 0 f) (placed (path_in path 1) 0 g) (drop k x.rest) k (atom_from x k) false off)

  one_more : (n : ℕ) → n + 1 ≡ suc n
  one_more n = omega arith

  -- the statements after number j
  after_first : (f : FlowTree) (base : List ℕ) (j l : ℕ) → walk_of (list_end x base (suc j) f l) ≡ walk_from x l (placed base (suc j) f) → walk_of (list_end x base (j + 1) f l) ≡ walk_from x l (placed base (suc j) f)
  after_first f base j l h = ap (λ n. walk_of (list_end x base n f l)) (one_more j) ∙ h

  -- the recursion on the program gives its walk
  pub list_same : (f : FlowTree) (base : List ℕ) (j k : ℕ) → walk_of (list_end x base j f k) ≡ walk_from x k (placed base j f)
  list_same flow.empty base j k = sym (walk_over (drop k x.rest) k (atom_from x k) empty refl)
  list_same (flow.skip_then rest) base j k =
      after_first rest base j k (list_same rest base (suc j) k)
      ∙ sym (walk_same (drop k x.rest) k (atom_from x k) (skip_then (placed base (suc j) rest)) (placed base (suc j) rest) refl)
  list_same (flow.abort_then rest) base j k =
      sym (walk_blocked (drop k x.rest) k (atom_from x k) (abort_then (path_at base j) (placed base (suc j) rest)) (path_at base j) refl)
  list_same (flow.assert_then b rest) base j k =
      first_then base j (flow.assert b) rest k (cond (truth b (atom_from x k)) (end.over k) (halted stop.Blocked k (path_at base j))) (list_end x base (j + 1) rest)
      (assert_same (path_at base j) b k (truth b (atom_from x k)) refl)
      (λ l. after_first rest base j l (list_same rest base (suc j) l))
  list_same (flow.act_then a rest) base j k =
      first_then base j (flow.act a) rest k (cond (is_next x k a) (end.over (k + 1)) (halted stop.AtAction k (path_at base j))) (list_end x base (j + 1) rest)
      (ap (λ n. walk_of (cond (is_next x k a) (end.over n) (halted stop.AtAction k (path_at base j)))) (one_more k) ∙ act_same (path_at base j) a k)
      (λ l. after_first rest base j l (list_same rest base (suc j) l))
  list_same (flow.branch_then b f g rest) base j k =
      first_then base j (flow.branch b f g) rest k
      (cond (truth b (atom_from x k)) (list_end x (path_in (path_at base j) 0) 0 f k) (list_end x (path_in (path_at base j) 1) 0 g k)) (list_end x base (j + 1) rest)
      (branch_same (path_at base j) b f g k (list_end x (path_in (path_at base j) 0) 0 f k) (list_end x (path_in (path_at base j) 1) 0 g k)
      (list_same f (path_in (path_at base j) 0) 0 k) (list_same g (path_in (path_at base j) 1) 0 k))
      (λ l. after_first rest base j l (list_same rest base (suc j) l))
  list_same (flow.loop_then b f rest) base j k =
      first_then base j (flow.loop b f) rest k (loop_end x (path_at base j) b f k) (list_end x base (j + 1) rest)
      (walk_again k (placed_stmt (path_at base j) (flow.loop b f)))
      (λ l. after_first rest base j l (list_same rest base (suc j) l))

  place_of_end : (why : Option Stop) (k : ℕ) (path : List ℕ) → place_reached (walk_of (end_of why k path)) ≡ place_at why k path
  place_of_end None k path = refl
  place_of_end (Some stop.Blocked) k path = refl
  place_of_end (Some stop.AtAction) k path = refl

  -- the end of the whole program is its place
  pub place_same : (f : FlowTree) (why : Option Stop) (k : ℕ) (path : List ℕ) → end_of why k path ≡ list_end x [] 0 f 0 → place_at why k path ≡ place_of f x
  place_same f why k path e = sym (place_of_end why k path) ∙ ap (λ c. place_reached (walk_of c)) e ∙ ap place_reached (list_same f [] 0 0)
