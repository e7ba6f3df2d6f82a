-- The graphs of a piece are as flow files have them: each has a block, and each expression has its sort.
use Rattle.std.proofs.Common.{◌≡◌, inl, inr, ⊎_elim, ℕ, suc, ◌<◌, Bool, true, false, ◌&&◌, nat_eq, List, [], ◌∷◌, ◌++◌, length, map, Option, Some, None, slice_get, get_or, if◌then◌else◌, refl, sym, ap, subst, arith}
use Rattle.std.specs.List.{list_any, range_with_len}
use Rattle.std.proofs.lemmas.Option.{slice_get-get_or}
use Rattle.kat_model.specs.declared.expression.Rel.TheVariants.{Eq}
use Rattle.kat_model.specs.declared.expression.Width.TheVariants.{W64}
use Rattle.kat_model.specs.Members.{Has}
use Rattle.kat_model.proofs.Filters.{has_filter}
use Rattle.kat_model.proofs.Places.{has_at}
use Rattle.flow_model.specs.declared.sort.Sort.{Sort}
use Rattle.flow_model.specs.declared.sort.Sort.TheVariants.{Number, Opaque}
use Rattle.flow_model.specs.Expressions.{ExprTree, variable}
use Rattle.flow_model.specs.Conditions.{CondTree}
use Rattle.flow_model.specs.Graphs.{JumpTree, goto, branch, return, abort, Block, Pair}
use Rattle.flow_model.specs.Matches.{Equation, Match}
use Rattle.flow_forms.specs.Expressions.{or_number, sort_of}
use Rattle.flow_ways.specs.Conditions.{MayCompare, IsSortedCond}
use Rattle.flow_ways.specs.Sorted.{AreSorted, AreAssigned, AreSortedStatements, IsSortedJump, IsSortedBlock, IsSortedGraph}
use Rattle.flow_places.specs.Live.{live}
use Rattle.flow_places.proofs.LiveTests.{live_exactly}
use Rattle.flow_problem.specs.PlacedProblems.{IsFlowPair}
use Rattle.flow_pieces.specs.Matches.{is_shared}
use Rattle.flow_pieces.specs.PieceGraphs.{Point, start, inside, arrival, leaving, Leave, Side, points, jump_of, block_inside, arrival_jump, leaving_jump, block_at, side_graph, Exit, equations_hold, shared_variables, live_equations, leaves_from, leave_before, leave_after, has_block, side_before, side_after, piece_pair}
use Rattle.flow_pieces.specs.PieceQuestions.{AreSortedEquations, IsProper}
use Rattle.flow_pieces.specs.Exits.{candidates, live_after, rows_with, columns_with, is_rectangle, exit_of, arrivals_before, arrivals_after, piece_exits}
use Rattle.flow_pieces.proofs.SortedStates.{sorted_block}
use Rattle.flow_pieces.proofs.SortedReads.{live_has_sort}
use Rattle.flow_pieces.proofs.MatchedExits.{exits_all}

-- ---- equations

may_equal : (sort : Sort) → MayCompare sort Eq
may_equal (Number w) = tt
may_equal (Opaque k) = tt

module _ (sorts : List Sort) where
  append_sorted : (es fs : List ExprTree) → AreSorted sorts es → AreSorted sorts fs → AreSorted sorts (es ++ fs)
  append_sorted [] fs h g = g
  append_sorted (e ∷ es) fs h g = (h.0, append_sorted es fs h.1 g)

  variables_sorted : (xs : List ℕ) → ((x : ℕ) → Has xs x → x < length sorts) → AreSorted sorts (map variable xs)
  variables_sorted [] f = tt
  variables_sorted (x ∷ xs) f =
      ((get_or sorts x (Number W64), slice_get-get_or sorts x (Number W64) (f x (inl refl))), variables_sorted xs (λ y h. f y (inr h)))

  given_sorted : (qs : List Equation) → AreSortedEquations sorts qs → AreSorted sorts (map (λ q. variable q.variable) qs)
  given_sorted [] f = tt
  given_sorted (q ∷ qs) f = ((sort_of sorts q.expression, (f q (inl refl)).0), given_sorted qs (λ r h. f r (inr h)))

  values_sorted : (qs : List Equation) → AreSortedEquations sorts qs → AreSorted sorts (map (λ q. q.expression) qs)
  values_sorted [] f = tt
  values_sorted (q ∷ qs) f = ((f q (inl refl)).1, values_sorted qs (λ r h. f r (inr h)))

  assigned_sorted : (qs : List Equation) → AreSortedEquations sorts qs → AreAssigned sorts (map (λ q. q.variable) qs) (map (λ q. q.expression) qs)
  assigned_sorted [] f = tt
  assigned_sorted (q ∷ qs) f = let own = f q (inl refl) in (own.0, own.1, assigned_sorted qs (λ r h. f r (inr h)))

  hold_sorted : (qs : List Equation) (b : CondTree) → AreSortedEquations sorts qs → IsSortedCond sorts b → IsSortedCond sorts (equations_hold qs b)
  hold_sorted [] b f h = h
  hold_sorted (q ∷ qs) b f h =
      let own = f q (inl refl) in
      (((sort_of sorts q.expression, own.0), own.1, sym (ap or_number own.0), may_equal (or_number (slice_get sorts q.variable))), hold_sorted qs b (λ r g. f r (inr g)) h)

-- ---- the graph of a side

abbrev IsSortedLeave : List Sort → Leave → Type 0
IsSortedLeave sorts leave = IsSortedCond sorts leave.condition × AreSorted sorts leave.results

-- each expression of the parts of a side has its sort
record IsSortedSide (sorts : List Sort) (side : Side) : Type 0 where
  pub graph : IsSortedGraph sorts side.graph
  pub opening : AreSortedStatements sorts side.opening
  pub leaves : (k : ℕ) (leave : Leave) → Has (side.leaves k) leave → IsSortedLeave sorts leave
  pub otherwise : AreSorted sorts side.otherwise

module _ (sorts : List Sort) (side : Side) (sorted : IsSortedSide sorts side) where
  jump_sorted : (jump : JumpTree) → IsSortedJump sorts jump → IsSortedJump sorts (jump_of side jump)
  jump_sorted (goto k) h = tt
  jump_sorted (branch b k l) h = h
  jump_sorted (return es) h = (tt, h)
  jump_sorted abort h = tt

  inside_sorted : (o : Option Block) → ((block : Block) → o ≡ Some block → IsSortedBlock sorts block) → IsSortedBlock sorts (block_inside side o)
  inside_sorted None f = (tt, tt)
  inside_sorted (Some block) f = let own = f block refl in (own.0, jump_sorted block.jump own.1)

  arrival_sorted : (k i : ℕ) (o : Option Leave) → ((leave : Leave) → o ≡ Some leave → IsSortedLeave sorts leave) → IsSortedJump sorts (arrival_jump side k i o)
  arrival_sorted k i None f = sorted.otherwise
  arrival_sorted k i (Some leave) f = (f leave refl).0

  leaving_sorted : (o : Option Leave) → ((leave : Leave) → o ≡ Some leave → IsSortedLeave sorts leave) → IsSortedJump sorts (leaving_jump o)
  leaving_sorted None f = tt
  leaving_sorted (Some leave) f = (f leave refl).1

  leave_sorted : (k i : ℕ) (leave : Leave) → slice_get (side.leaves k) i ≡ Some leave → IsSortedLeave sorts leave
  leave_sorted k i leave e = sorted.leaves k leave (has_at (side.leaves k) i leave e)

  point_sorted : (x : Point) → IsSortedBlock sorts (block_at side x)
  point_sorted start = (sorted.opening, tt)
  point_sorted (inside k) = inside_sorted (slice_get side.graph k) (λ block e. sorted_block sorts side.graph k block sorted.graph e)
  point_sorted (arrival k i) = (tt, arrival_sorted k i (slice_get (side.leaves k) i) (leave_sorted k i))
  point_sorted (leaving k i) = (tt, leaving_sorted (slice_get (side.leaves k) i) (leave_sorted k i))

  points_sorted : (xs : List Point) → IsSortedGraph sorts (map (block_at side) xs)
  points_sorted [] = tt
  points_sorted (x ∷ xs) = (point_sorted x, points_sorted xs)

  side_sorted : IsSortedGraph sorts (side_graph side)
  side_sorted = points_sorted (points side)

side_blocks_there : (side : Side) → 0 < length (side_graph side)
side_blocks_there side = omega arith

-- ---- exits

-- each expression of the match of an exit has its sort, as has each variable that is live there
record IsSortedExit (p : Pair) (e : Exit) : Type 0 where
  pub proper : IsProper p e.match
  pub live : (x : ℕ) → Has e.live x → x < length p.sorts

leaves_sorted : (sorts : List Sort) (leave : ℕ → Exit → Leave) (test : Exit → Bool) (i : ℕ) (es : List Exit) → ((j : ℕ) (e : Exit) → Has es e → IsSortedLeave sorts (leave j e)) →
    (own : Leave) → Has (leaves_from leave test i es) own → IsSortedLeave sorts own
leaves_sorted sorts leave test i [] f own h = absurd h
leaves_sorted sorts leave test i (e ∷ es) f own h = by_test (test e) (leaves_sorted sorts leave test (suc i) es (λ j d g. f j d (inr g))) h
  where
    by_test : (b : Bool) → ((x : Leave) → Has (leaves_from leave test (suc i) es) x → IsSortedLeave sorts x) →
        Has (if b then leave i e ∷ leaves_from leave test (suc i) es else leaves_from leave test (suc i) es) own → IsSortedLeave sorts own
    by_test true later g = ⊎_elim (λ same. subst (IsSortedLeave sorts) same (f i e (inl refl))) (later own) g
    by_test false later g = later own g

module _ (p : Pair) (e : Exit) (sorted : IsSortedExit p e) where
  shared_sorted : AreSorted p.sorts (map variable (shared_variables e))
  shared_sorted = variables_sorted p.sorts (shared_variables e) (λ x h. sorted.live x (has_filter (is_shared e.match) e.live x h).0)

  live_sorted : AreSortedEquations p.sorts (live_equations e)
  live_sorted q h = sorted.proper.forth_sorted q (has_filter (λ r. list_any (λ x. nat_eq x r.variable) e.live) e.match.forth q h).0

  before_sorted : (i : ℕ) → IsSortedLeave p.sorts (leave_before i e)
  before_sorted i = (
    hold_sorted p.sorts e.match.keeping e.match.condition sorted.proper.keeping_sorted sorted.proper.condition_sorted,
    (
      tt,
      append_sorted p.sorts (map variable (shared_variables e) ++ map (λ q. q.expression) (live_equations e)) (map (λ q. variable q.variable) e.match.back)
          (append_sorted p.sorts (map variable (shared_variables e)) (map (λ q. q.expression) (live_equations e)) shared_sorted (values_sorted p.sorts (live_equations e) live_sorted))
          (given_sorted p.sorts e.match.back sorted.proper.back_sorted),
    ),
  )

  after_sorted : (i : ℕ) → IsSortedLeave p.sorts (leave_after i e)
  after_sorted i = (
    tt,
    (
      tt,
      append_sorted p.sorts (map variable (shared_variables e) ++ map (λ q. variable q.variable) (live_equations e)) (map (λ q. q.expression) e.match.back)
          (append_sorted p.sorts (map variable (shared_variables e)) (map (λ q. variable q.variable) (live_equations e)) shared_sorted (given_sorted p.sorts (live_equations e) live_sorted))
          (values_sorted p.sorts e.match.back sorted.proper.back_sorted),
    ),
  )

-- ---- both sides

module _ (p : Pair) (first : IsSortedGraph p.sorts p.before) (second : IsSortedGraph p.sorts p.after) (ms : List Match) (proper : (m : Match) → Has ms m → IsProper p m) (m : Match) (member : Has ms m) where
  live_within : (l x : ℕ) → Has (live_after p l) x → x < length p.sorts
  live_within l x h = live_has_sort p.sorts x p.after l second ((live_exactly p.after l x).0 (has_filter (live p.after l) (range_with_len 0 (length p.sorts)) x h).1)

  exit_sorted : (c : Match) → Has (candidates p ms m) c → IsSortedExit p (exit_of p (candidates p ms m) c)
  exit_sorted c h = by_shape (is_rectangle p (candidates p ms m) c)
    where
      its_match : IsProper p c
      its_match = proper c (has_filter (λ d. has_block (arrivals_before p ms m) d.before && has_block (arrivals_after p ms m) d.after) ms c h).0

      by_shape : (b : Bool) → IsSortedExit p (if b then record { rows = rows_with (candidates p ms m) c; columns = columns_with (candidates p ms m) c; match = c; live = live_after p c.after } else record { rows = c.before ∷ []; columns = c.after ∷ []; match = c; live = live_after p c.after })
      by_shape true = record { proper = its_match; live = live_within c.after }
      by_shape false = record { proper = its_match; live = live_within c.after }

  exits_sorted : (e : Exit) → Has (piece_exits p ms m) e → IsSortedExit p e
  exits_sorted = exits_all (IsSortedExit p) p (candidates p ms m) (candidates p ms m) [] exit_sorted (λ e h. absurd h)

  own : IsProper p m
  own = proper m member

  first_sorted : IsSortedSide p.sorts (side_before p ms m (piece_exits p ms m))
  first_sorted = record {
    graph = first;
    opening = (hold_sorted p.sorts m.keeping m.condition own.keeping_sorted own.condition_sorted, (assigned_sorted p.sorts m.keeping own.keeping_sorted, (assigned_sorted p.sorts m.back own.back_sorted, tt)));
    leaves = λ k. leaves_sorted p.sorts leave_before (λ e. has_block e.rows k) 0 (piece_exits p ms m) (λ j e h. before_sorted p e (exits_sorted e h) j);
    otherwise = (tt, tt);
  }

  second_sorted : IsSortedSide p.sorts (side_after p ms m (piece_exits p ms m))
  second_sorted = record {
    graph = second;
    opening = (hold_sorted p.sorts m.keeping m.condition own.keeping_sorted own.condition_sorted, (assigned_sorted p.sorts m.keeping own.keeping_sorted, (assigned_sorted p.sorts m.forth own.forth_sorted, tt)));
    leaves = λ k. leaves_sorted p.sorts leave_after (λ e. has_block e.columns k) 0 (piece_exits p ms m) (λ j e h. after_sorted p e (exits_sorted e h) j);
    otherwise = (tt, tt);
  }

  pub piece_sorted : IsFlowPair (piece_pair p ms m (piece_exits p ms m))
  piece_sorted = record {
    before_blocks = side_blocks_there (side_before p ms m (piece_exits p ms m));
    after_blocks = side_blocks_there (side_after p ms m (piece_exits p ms m));
    before_sorted = side_sorted p.sorts (side_before p ms m (piece_exits p ms m)) first_sorted;
    after_sorted = side_sorted p.sorts (side_after p ms m (piece_exits p ms m)) second_sorted;
  }
