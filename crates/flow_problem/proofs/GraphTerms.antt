-- The term of a graph leads from each state to the ends of the runs of the graph.
use Rattle.std.proofs.Common.{◌≡◌, ℕ, zero, suc, ◌-◌, ◌<◌, ◌↔◌, true, List, [], ◌∷◌, length, map, slice_index_or, Some, None, refl, sym, ◌∙◌, ap, subst, arith}
use Rattle.std.proofs.lemmas.Option.{slice_get_within, get_or_from_slice_get}
use Rattle.kat_model.specs.Members.{Has}
use Rattle.kat_model.proofs.Places.{place_of_member}
use Rattle.kat_model.specs.Trees.{Term}
use Rattle.kat_model.specs.Relations.{Frame, RelatesIn}
use Rattle.flow_model.specs.declared.sort.Sort.{Sort}
use Rattle.flow_model.specs.Sorts.{State, IsState}
use Rattle.flow_model.specs.Graphs.{Graph}
use Rattle.flow_model.specs.Interpretations.{Interpretation}
use Rattle.flow_model.specs.Runs.{run_from, Returns}
use Rattle.flow_model.specs.Runs as runs
use Rattle.flow_forms.specs.Forms.{FlowFormTree}
use Rattle.flow_forms.specs.Values.{form_value}
use Rattle.flow_forms.specs.Comparisons.{FlowComparisonTree}
use Rattle.flow_ways.specs.Ways.{WayEnd, at_place, at_return, Way, ways, state_of, AllHold}
use Rattle.flow_ways.specs.Sorted.{IsSortedGraph}
use Rattle.flow_ways.specs.Stops.{Stop, came_to, returned, stuck, unfinished, stop_from, EndsAs, IsSettled}
use Rattle.flow_ways.specs.Liveness.{AgreeLive, StopsAgree}
use Rattle.flow_ways.specs.Actions.{action_of, after_action}
use Rattle.flow_ways.proofs.WaysAreRuns.{ways_are_runs, way_lengths}
use Rattle.flow_ways.proofs.LiveRuns.{sorted_runs_alike}
use Rattle.flow_ways.proofs.ActionValues.{acts_as_run}
use Rattle.flow_problem.specs.Edges.{FlowActionTree, given, Edge, Marks, end_action, end_target}
use Rattle.flow_problem.specs.Points.{RunPoint, at, IsPoint, point_after, point_frame, ReturnsAt, LeadsToEnd}
use Rattle.flow_problem.specs.EdgeTerms.{comes_to, is_end, step_term, end_term, place_block, graph_term}
use Rattle.flow_problem.specs.FlowProblems.{MarksGraph}
use Rattle.flow_problem.proofs.Eliminations.{PathOf, HasPath, elimination}
use Rattle.flow_problem.proofs.EdgeRelations.{IsListed, edges_relate, target_of, targets, end_of}
use Rattle.flow_problem.proofs.RunStops.{GoesOnFrom, settled_on, stops_on, Resumes, HasReturn, resumed, StopsAtPlace, stops_at_place}

-- ---- edges that stand for ways

-- in a state, an edge does what a way does
pub record DoesAs (I : Interpretation) (sorts : List Sort) (marks : Marks) (s : State) (e : Edge) (way : Way) : Type 0 where
  pub edge_tests : AllHold I s e.tests
  pub way_tests : AllHold I s way.tests
  pub target : e.target ≡ end_target way.end
  pub point : point_after I sorts e.action s ≡ point_after I sorts (end_action marks sorts way.end) s

-- in a state, the edges whose tests hold do what the ways do whose tests hold
pub record AreWays (I : Interpretation) (sorts : List Sort) (marks : Marks) (s : State) (es : List Edge) (ways : List Way) : Type 0 where
  pub sound : (e : Edge) → Has es e → AllHold I s e.tests → (way : Way) × Has ways way × DoesAs I sorts marks s e way
  pub complete : (way : Way) → Has ways way → AllHold I s way.tests → (e : Edge) × Has es e × DoesAs I sorts marks s e way

-- ---- small facts

length-state_of : (I : Interpretation) (s : State) (sorts : List Sort) (fs : List FlowFormTree) → length fs ≡ length sorts → length (state_of I s sorts fs) ≡ length sorts
length-state_of I s [] [] l = refl
length-state_of I s [] (f ∷ fs) l = refl
length-state_of I s (sort ∷ sorts) [] l = absurd (omega (arith, l))
length-state_of I s (sort ∷ sorts) (f ∷ fs) l = ap suc (length-state_of I s sorts fs (omega (arith, l)))

pub length-state : (sorts : List Sort) (s : State) → IsState sorts s → length s ≡ length sorts
length-state [] [] h = refl
length-state [] (n ∷ ns) h = absurd h
length-state (sort ∷ sorts) [] h = absurd h
length-state (sort ∷ sorts) (n ∷ ns) h = ap suc (length-state sorts ns h.1)

-- results: what a run returns is what the point says
results_end : (I : Interpretation) (sorts : List Sort) (s : State) (results : List (Sort × FlowFormTree)) (ws vs : List ℕ) →
    map (λ r. form_value I s r.0 r.1) results ≡ ws → ReturnsAt (point_after I sorts (given results) s) vs → ws ≡ vs
results_end I sorts s [] ws vs e h = sym e ∙ sym h
results_end I sorts s (r ∷ rs) ws vs e h = sym e ∙ h

end_results : (I : Interpretation) (sorts : List Sort) (s : State) (results : List (Sort × FlowFormTree)) (ws vs : List ℕ) →
    map (λ r. form_value I s r.0 r.1) results ≡ ws → ws ≡ vs → ReturnsAt (point_after I sorts (given results) s) vs
end_results I sorts s [] ws vs e h = sym (e ∙ h)
end_results I sorts s (r ∷ rs) ws vs e h = e ∙ h

results_point : (I : Interpretation) (sorts : List Sort) (s : State) (results : List (Sort × FlowFormTree)) → IsState sorts s → IsPoint sorts (point_after I sorts (given results) s)
results_point I sorts s [] is = is
results_point I sorts s (r ∷ rs) is = tt

module _ (I : Interpretation) (g : Graph) (sorts : List Sort) (marks : Marks) (o : IsSortedGraph sorts g) where
  abbrev stop_at : ℕ → State → Stop
  stop_at k s = stop_from I g marks.is_place (length g) k s

  -- ---- ways that reach a place

  record StepsTo (k : ℕ) (s : State) (j : ℕ) (u : RunPoint) : Type 0 where
    to : State
    there : u ≡ at to
    is_state : IsState sorts to
    came : State
    stop : stop_at k s ≡ came_to j came
    wide : length came ≡ length sorts
    agrees : (x : ℕ) → marks.live j x ≡ true → slice_index_or to x 0 ≡ slice_index_or came x 0

  came_length : (s : State) (forms : List FlowFormTree) (l : ℕ) (came : State) → length forms ≡ length sorts → EndsAs I s sorts (at_place l forms) (came_to l came) → length came ≡ length sorts
  came_length s forms l came n h = subst (λ x. length x ≡ length sorts) h.1 (length-state_of I s sorts forms n)

  step_there : (k : ℕ) (s : State) (j : ℕ) (u : RunPoint) (way : Way) → IsState sorts s → Has (ways g sorts marks.is_place k) way → AllHold I s way.tests →
      (end : WayEnd) → way.end ≡ end → end_target end ≡ Some j → u ≡ point_after I sorts (end_action marks sorts end) s → StepsTo k s j u
  step_there k s j u way is has all (at_place l forms) e t p =
      let a = acts_as_run I g sorts marks.is_place marks.live k s o is way l forms has e all in
      let ends = (ways_are_runs I g sorts marks.is_place k s o is).sound way has all in
      let n = way_lengths g sorts marks.is_place k way has l forms e in
      let there : EndsAs I s sorts (at_place l forms) (came_to l a.0) = subst (λ x. EndsAs I s sorts (at_place l forms) x) a.1 (subst (λ x. EndsAs I s sorts x (stop_at k s)) e ends) in
      let same : l ≡ j = cc in
      subst (λ x. StepsTo k s x u) same
      (record {
        to = after_action I s sorts (action_of (marks.live l) sorts forms);
        there = p;
        is_state = a.2.is_state;
        came = a.0;
        stop = a.1;
        wide = came_length s forms l a.0 n there;
        agrees = a.2.agrees;
      })
  step_there k s j u way is has all (at_return results) e t p = absurd cc

  -- ---- ways that return

  returned_there : (s : State) (stop : Stop) (vs : List ℕ) (end : WayEnd) → EndsAs I s sorts end stop → end_target end ≡ None → ReturnsAt (point_after I sorts (end_action marks sorts end) s) vs → stop ≡ returned vs
  returned_there s stop vs (at_place l forms) h t e = absurd cc
  returned_there s (returned ws) vs (at_return results) h t e = ap returned (results_end I sorts s results ws vs h e)
  returned_there s (came_to l c) vs (at_return results) h t e = absurd h
  returned_there s stuck vs (at_return results) h t e = absurd h
  returned_there s unfinished vs (at_return results) h t e = absurd h

  end_there : (s : State) (ws vs : List ℕ) (end : WayEnd) → IsState sorts s → EndsAs I s sorts end (returned ws) → ws ≡ vs →
      (end_target end ≡ None) × IsPoint sorts (point_after I sorts (end_action marks sorts end) s) × ReturnsAt (point_after I sorts (end_action marks sorts end) s) vs
  end_there s ws vs (at_place l forms) is h e = absurd h
  end_there s ws vs (at_return results) is h e = (refl, results_point I sorts s results is, end_results I sorts s results ws vs h e)

  came_target : (s : State) (j : ℕ) (c : State) (end : WayEnd) → EndsAs I s sorts end (came_to j c) → end_target end ≡ Some j
  came_target s j c (at_place l forms) h = ap Some h.0
  came_target s j c (at_return results) h = absurd h

  -- ---- stops that agree

  agree_returned : (vs : List ℕ) (b : Stop) → StopsAgree g (returned vs) b → Resumes I g marks.is_place vs b
  agree_returned vs (returned ws) h = sym h
  agree_returned vs (came_to l t) h = absurd h
  agree_returned vs stuck h = absurd h
  agree_returned vs unfinished h = absurd h

  record AgreesAt (j : ℕ) (came : State) (b : Stop) : Type 0 where
    state : State
    stop : b ≡ came_to j state
    wide : length came ≡ length state
    live : AgreeLive g j came state

  agree_came : (j : ℕ) (came : State) (b : Stop) → StopsAgree g (came_to j came) b → AgreesAt j came b
  agree_came j came (came_to l t) h = record { state = t; stop = ap (λ x. came_to x t) (sym h.0); wide = h.1; live = h.2 }
  agree_came j came (returned ws) h = absurd h
  agree_came j came stuck h = absurd h
  agree_came j came unfinished h = absurd h

  module _ (marked : MarksGraph g marks) (tests : List FlowComparisonTree) (actions : List FlowActionTree) (edges : ℕ → List Edge)
      (listed : (k : ℕ) → marks.is_place k ≡ true → (e : Edge) → Has (edges k) e → IsListed tests actions e)
      (are : (k : ℕ) (s : State) → IsState sorts s → AreWays I sorts marks s (edges k) (ways g sorts marks.is_place k)) where
    abbrev frame : Frame RunPoint
    frame = point_frame I sorts tests actions

    -- the block of a place, and the terms between blocks
    abbrev block : ℕ → ℕ
    block i = place_block marks.places i

    abbrev block_steps : ℕ → ℕ → Term
    block_steps = step_term tests actions edges

    abbrev block_ends : ℕ → Term
    block_ends = end_term tests actions edges

    -- the terms between places, by their numbers
    abbrev count : ℕ
    count = suc (length marks.places - 1)

    abbrev steps : ℕ → ℕ → Term
    steps i j = block_steps (block i) (block j)

    abbrev ends : ℕ → Term
    ends i = block_ends (block i)

    -- a place has a number
    record IsNumbered (k : ℕ) : Type 0 where
      number : ℕ
      within : number < length marks.places
      is : block number ≡ k

    numbered : (k : ℕ) → marks.is_place k ≡ true → IsNumbered k
    numbered k place =
        let p = place_of_member marks.places k (marked.listed k place) in
        record { number = p.0; within = slice_get_within marks.places p.0 k p.1; is = get_or_from_slice_get marks.places p.0 k 0 p.1 }

    -- the states agree on what is live at a place
    record Alike (k : ℕ) (s t : State) : Type 0 where
      place : marks.is_place k ≡ true
      is_state : IsState sorts s
      wide : length s ≡ length t
      live : AgreeLive g k s t

    stops_alike : (k : ℕ) (s t : State) → Alike k s t → StopsAgree g (stop_at k s) (stop_at k t)
    stops_alike k s t a = sorted_runs_alike I g sorts marks.is_place o (length g) k s t a.wide a.live

    -- where a step leads, a run that agrees reaches the same place
    record GoesAlike (k : ℕ) (s t : State) (j : ℕ) (u : RunPoint) : Type 0 where
      to : State
      there : u ≡ at to
      state : State
      stop : stop_at k t ≡ came_to j state
      alike : Alike j to state

    goes_alike : (k : ℕ) (s t : State) (j : ℕ) (u : RunPoint) → Alike k s t → StepsTo k s j u → GoesAlike k s t j u
    goes_alike k s t j u a step =
        let agree = agree_came j step.came (stop_at k t) (subst (λ x. StopsAgree g x (stop_at k t)) step.stop (stops_alike k s t a)) in
        record {
          to = step.to;
          there = step.there;
          state = agree.state;
          stop = agree.stop;
          alike = record {
            place = subst (StopsAtPlace I g marks.is_place) step.stop (stops_at_place I g marks.is_place (length g) k s);
            is_state = step.is_state;
            wide = length-state sorts step.to step.is_state ∙ sym step.wide ∙ agree.wide;
            live = λ x h. step.agrees x (marked.live j x h) ∙ agree.live x h;
          };
        }

    -- ---- paths are runs

    step_alike : (k : ℕ) (s t : State) (j : ℕ) (u : RunPoint) → Alike k s t → IsPoint sorts u → RelatesIn frame (block_steps k j) (at s) u → GoesAlike k s t j u
    step_alike k s t j u a iu r =
        let l = (edges_relate I sorts tests actions (λ e. comes_to j e.target) (edges k) s u (listed k a.place) a.is_state iu).0 r in
        let way = (are k s a.is_state).sound l.edge l.has l.tests_hold in
        goes_alike k s t j u a
        (step_there k s j u way.0 a.is_state way.1 way.2.way_tests way.0.end refl (sym way.2.target ∙ target_of j l.edge l.passes) (l.ends ∙ way.2.point))

    end_alike : (k : ℕ) (s t : State) (q : RunPoint) (vs : List ℕ) → Alike k s t → IsPoint sorts q → ReturnsAt q vs → RelatesIn frame (block_ends k) (at s) q → HasReturn I g marks.is_place vs k t
    end_alike k s t q vs a iq e r =
        let l = (edges_relate I sorts tests actions (λ e. is_end e.target) (edges k) s q (listed k a.place) a.is_state iq).0 r in
        let way = (are k s a.is_state).sound l.edge l.has l.tests_hold in
        let sound = (ways_are_runs I g sorts marks.is_place k s o a.is_state).sound way.0 way.1 way.2.way_tests in
        let point : q ≡ point_after I sorts (end_action marks sorts way.0.end) s = l.ends ∙ way.2.point in
        let stop = returned_there s (stop_at k s) vs way.0.end sound (sym way.2.target ∙ end_of l.edge l.passes) (subst (λ x. ReturnsAt x vs) point e) in
        resumed I g marks.is_place (length g) vs k t
        (agree_returned vs (stop_at k t) (subst (λ x. StopsAgree g x (stop_at k t)) stop (stops_alike k s t a)))

    path_returns : (m i : ℕ) (s t : State) (q : RunPoint) (vs : List ℕ) → Alike (block i) s t → IsPoint sorts q → ReturnsAt q vs → PathOf frame count steps ends m i (at s) q →
        HasReturn I g marks.is_place vs (block i) t
    path_returns zero i s t q vs a iq e r = end_alike (block i) s t q vs a iq e r
    path_returns (suc m) i s t q vs a iq e (j, lt, u, iu, r, p) =
        let on = step_alike (block i) s t (block j) u a iu r in
        let later = path_returns m j on.to on.state q vs on.alike iq e (subst (λ x. PathOf frame count steps ends m j x q) on.there p) in
        resumed I g marks.is_place (length g) vs (block i) t (subst (Resumes I g marks.is_place vs) (sym on.stop) later)

    -- ---- runs are paths

    record PathFrom (i : ℕ) (s : State) (vs : List ℕ) : Type 0 where
      point : RunPoint
      is_point : IsPoint sorts point
      path : HasPath frame count steps ends i (at s) point
      end : ReturnsAt point vs

    settled_way : (k : ℕ) (s : State) (stop : Stop) → IsState sorts s → stop_at k s ≡ stop → IsSettled stop → (way : Way) × Has (ways g sorts marks.is_place k) way × AllHold I s way.tests
    settled_way k s stop is e h = (ways_are_runs I g sorts marks.is_place k s o is).complete (subst IsSettled (sym e) h)

    way_ends : (k : ℕ) (s : State) (stop : Stop) (way : Way) → IsState sorts s → stop_at k s ≡ stop → Has (ways g sorts marks.is_place k) way → AllHold I s way.tests → EndsAs I s sorts way.end stop
    way_ends k s stop way is e has all = subst (λ x. EndsAs I s sorts way.end x) e ((ways_are_runs I g sorts marks.is_place k s o is).sound way has all)

    path_at_return : (i : ℕ) (s : State) (ws vs : List ℕ) → marks.is_place (block i) ≡ true → IsState sorts s → stop_at (block i) s ≡ returned ws → ws ≡ vs → PathFrom i s vs
    path_at_return i s ws vs place is e same =
        let way = settled_way (block i) s (returned ws) is e tt in
        let edge = (are (block i) s is).complete way.0 way.1 way.2 in
        let end = end_there s ws vs way.0.end is (way_ends (block i) s (returned ws) way.0 is e way.1 way.2) same in
        let last = (edges_relate I sorts tests actions (λ x. is_end x.target) (edges (block i)) s (point_after I sorts (end_action marks sorts way.0.end) s) (listed (block i) place) is end.1).1
        (record { edge = edge.0; has = edge.1; passes = ap is_end (edge.2.target ∙ end.0); tests_hold = edge.2.edge_tests; ends = sym edge.2.point }) in
        record { point = point_after I sorts (end_action marks sorts way.0.end) s; is_point = end.1; path = (0, last); end = end.2 }

    -- a run from a state that reaches a place has a step to a state that agrees with it
    record StepFrom (k : ℕ) (s t : State) (j : ℕ) (state : State) : Type 0 where
      to : State
      relates : RelatesIn frame (block_steps k j) (at s) (at to)
      alike : Alike j to state

    step_at_place : (k : ℕ) (s t : State) (j : ℕ) (c state : State) → Alike k s t → stop_at k s ≡ came_to j c → stop_at k t ≡ came_to j state → StepFrom k s t j state
    step_at_place k s t j c state a e f =
        let way = settled_way k s (came_to j c) a.is_state e tt in
        let edge = (are k s a.is_state).complete way.0 way.1 way.2 in
        let target = came_target s j c way.0.end (way_ends k s (came_to j c) way.0 a.is_state e way.1 way.2) in
        let step = step_there k s j (point_after I sorts (end_action marks sorts way.0.end) s) way.0 a.is_state way.1 way.2 way.0.end refl target refl in
        let on = goes_alike k s t j (point_after I sorts (end_action marks sorts way.0.end) s) a step in
        let same : on.state ≡ state = cc in
        let relates = (edges_relate I sorts tests actions (λ x. comes_to j x.target) (edges k) s (at on.to) (listed k a.place) a.is_state on.alike.is_state).1
        (record { edge = edge.0; has = edge.1; passes = targets j edge.0.target (edge.2.target ∙ target); tests_hold = edge.2.edge_tests; ends = sym on.there ∙ sym edge.2.point }) in
        record { to = on.to; relates = relates; alike = subst (Alike j on.to) same on.alike }

    step_then : (i j : ℕ) (s to : State) (vs : List ℕ) → j < length marks.places → IsState sorts to → RelatesIn frame (steps i j) (at s) (at to) → PathFrom j to vs → PathFrom i s vs
    step_then i j s to vs lt is r p = record {
      point = p.point;
      is_point = p.is_point;
      path = (suc p.path.0, (j, omega arith, at to, is, r, p.path.1));
      end = p.end;
    }

    -- how a run of at most n blocks goes on from its stop, as a path
    path_by_stops : (i : ℕ) (s t : State) (n : ℕ) (vs : List ℕ) → Alike (block i) s t →
        ((m j : ℕ) (to state : State) → m < n → Alike (block j) to state → run_from I g m (block j) state ≡ runs.returned vs → PathFrom j to vs) →
        (a b : Stop) → stop_at (block i) s ≡ a → stop_at (block i) t ≡ b → StopsAgree g a b → GoesOnFrom I g marks.is_place n vs b → PathFrom i s vs
    path_by_stops i s t n vs alike later (came_to k c) (came_to l state) e f h (place, m, lt, r) =
        let same : l ≡ k = sym h.0 in
        let step = step_at_place (block i) s t k c state alike e (f ∙ ap (λ x. came_to x state) same) in
        let j = numbered k step.alike.place in
        let to_block : k ≡ block j.number = sym j.is in
        let run : run_from I g m (block j.number) state ≡ runs.returned vs = subst (λ x. run_from I g m x state ≡ runs.returned vs) (same ∙ to_block) r in
        let relates : RelatesIn frame (steps i j.number) (at s) (at step.to) = subst (λ x. RelatesIn frame (block_steps (block i) x) (at s) (at step.to)) to_block step.relates in
        let there : Alike (block j.number) step.to state = subst (λ x. Alike x step.to state) to_block step.alike in
        step_then i j.number s step.to vs j.within step.alike.is_state relates (later m j.number step.to state lt there run)
    path_by_stops i s t n vs alike later (returned ws) (returned xs) e f h r = path_at_return i s ws vs alike.place alike.is_state e (h ∙ r)
    path_by_stops i s t n vs alike later (came_to k c) (returned xs) e f h r = absurd h
    path_by_stops i s t n vs alike later (returned ws) (came_to l state) e f h r = absurd h
    path_by_stops i s t n vs alike later a stuck e f h r = absurd r
    path_by_stops i s t n vs alike later a unfinished e f h r = absurd r
    path_by_stops i s t n vs alike later stuck (came_to l state) e f h r = absurd h
    path_by_stops i s t n vs alike later stuck (returned xs) e f h r = absurd h
    path_by_stops i s t n vs alike later unfinished (came_to l state) e f h r = absurd h
    path_by_stops i s t n vs alike later unfinished (returned xs) e f h r = absurd h

    run_path : (bound n i : ℕ) (s t : State) (vs : List ℕ) → n < bound → Alike (block i) s t → run_from I g n (block i) t ≡ runs.returned vs → PathFrom i s vs
    run_path zero n i s t vs lt a r = absurd (omega arith)
    run_path (suc bound) n i s t vs lt a r =
        let on = stops_on I g marks.is_place n vs (block i) t r in
        let settled = settled_on I g marks.is_place n vs (stop_from I g marks.is_place n (block i) t) on in
        let same = marked.settles I (block i) n t a.place settled in
        path_by_stops i s t n vs a (λ m j to state l b q. run_path bound m j to state vs (omega arith) b q)
        (stop_at (block i) s) (stop_at (block i) t) refl refl (stops_alike (block i) s t a) (subst (GoesOnFrom I g marks.is_place n vs) (sym same) on)

    itself : (s : State) → IsState sorts s → Alike (block 0) s s
    itself s is = record {
      place = subst (λ k. marks.is_place k ≡ true) (sym marked.first) marked.entry;
      is_state = is;
      wide = refl;
      live = λ x h. refl;
    }

    pub term_of_runs : (s : State) → IsState sorts s → (vs : List ℕ) → Returns I g s vs ↔ LeadsToEnd frame (graph_term tests actions marks.places edges) s vs
    term_of_runs s is vs = (forth, back)
      where
        forth : Returns I g s vs → LeadsToEnd frame (graph_term tests actions marks.places edges) s vs
        forth r =
            let run : run_from I g r.0 (block 0) s ≡ runs.returned vs = subst (λ k. run_from I g r.0 k s ≡ runs.returned vs) (sym marked.first) r.1 in
            let p = run_path (suc r.0) r.0 0 s s vs (omega arith) (itself s is) run in
            (p.point, p.is_point, (elimination frame (length marks.places - 1) steps ends (at s) p.point is p.is_point).1 p.path, p.end)

        back : LeadsToEnd frame (graph_term tests actions marks.places edges) s vs → Returns I g s vs
        back (q, iq, r, e) =
            let p = (elimination frame (length marks.places - 1) steps ends (at s) q is iq).0 r in
            subst (λ k. HasReturn I g marks.is_place vs k s) marked.first (path_returns p.0 0 s s q vs (itself s is) iq e p.1)
