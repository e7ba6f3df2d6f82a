-- Runs of two graphs that follow each other from matched blocks to the next matched blocks return the same values.
use Rattle.std.proofs.Common.{◌≡◌, ℕ, zero, suc, ◌<◌, Bool, List, refl, sym, ◌∙◌, subst, arith}
use Rattle.flow_model.specs.Sorts.{State}
use Rattle.flow_model.specs.Graphs.{Graph}
use Rattle.flow_model.specs.Interpretations.{Interpretation}
use Rattle.flow_model.specs.Runs.{run_from}
use Rattle.flow_model.specs.Runs as runs
use Rattle.flow_ways.specs.Stops.{Stop, came_to, returned, stuck, unfinished, stop_from, IsSettled}
use Rattle.flow_problem.proofs.RunStops.{GoesOnFrom, settled_on, stops_on, resumed, Resumes, HasReturn}
use Rattle.flow_pieces.specs.Pieces.{Ends}

-- a relation of states at blocks of two graphs
abbrev pub Relation : Type 1
Relation = ℕ → ℕ → State → State → Type 0

abbrev pub Flipped : Relation → Relation
Flipped R k l s t = R l k t s

-- two runs end alike: they return the same values, or reach matched blocks in related states
abbrev pub AreStops : Relation → Stop → Stop → Type 0
AreStops R (came_to k s) (came_to l t) = R k l s t
AreStops R (returned vs) (returned ws) = vs ≡ ws
AreStops R a b = ⊥

pub stops_more : (R S : Relation) → ((k l : ℕ) (s t : State) → R k l s t → S k l s t) → (a b : Stop) → AreStops R a b → AreStops S a b
stops_more R S f (came_to k s) (came_to l t) h = f k l s t h
stops_more R S f (came_to k s) (returned ws) h = absurd h
stops_more R S f (came_to k s) stuck h = absurd h
stops_more R S f (came_to k s) unfinished h = absurd h
stops_more R S f (returned vs) (came_to l t) h = absurd h
stops_more R S f (returned vs) (returned ws) h = h
stops_more R S f (returned vs) stuck h = absurd h
stops_more R S f (returned vs) unfinished h = absurd h
stops_more R S f stuck b h = absurd h
stops_more R S f unfinished b h = absurd h

pub stops_flipped : (R : Relation) (a b : Stop) → AreStops R a b → AreStops (Flipped R) b a
stops_flipped R (came_to k s) (came_to l t) h = h
stops_flipped R (came_to k s) (returned ws) h = absurd h
stops_flipped R (came_to k s) stuck h = absurd h
stops_flipped R (came_to k s) unfinished h = absurd h
stops_flipped R (returned vs) (came_to l t) h = absurd h
stops_flipped R (returned vs) (returned ws) h = sym h
stops_flipped R (returned vs) stuck h = absurd h
stops_flipped R (returned vs) unfinished h = absurd h
stops_flipped R stuck b h = absurd h
stops_flipped R unfinished b h = absurd h

-- each stop of the first run is one of the second
abbrev pub Follows : Interpretation → Graph → (ℕ → Bool) → Graph → (ℕ → Bool) → Relation → Relation
Follows I g is_place h is_stop R k l s t =
    (a : Stop) → IsSettled a → Ends I g is_place k s a → (b : Stop) × Ends I h is_stop l t b × AreStops R a b

-- related runs stop alike
abbrev pub FollowsOn : Interpretation → Graph → (ℕ → Bool) → Graph → (ℕ → Bool) → Relation → Type 0
FollowsOn I g is_place h is_stop R = (k l : ℕ) (s t : State) → R k l s t → Follows I g is_place h is_stop R k l s t

-- a run that ends at a stop from which values are returned returns them
ended : (I : Interpretation) (g : Graph) (is_place : ℕ → Bool) (k : ℕ) (s : State) (vs : List ℕ) (a : Stop) → Ends I g is_place k s a → Resumes I g is_place vs a → HasReturn I g is_place vs k s
ended I g is_place k s vs a (n, e) h = resumed I g is_place n vs k s (subst (Resumes I g is_place vs) (sym e) h)

module _ (I : Interpretation) (g : Graph) (is_place : ℕ → Bool) (h : Graph) (is_stop : ℕ → Bool) (R : Relation) (follows : FollowsOn I g is_place h is_stop R) where
  -- runs of fewer blocks of the first graph are followed by the second
  abbrev Shorter : ℕ → List ℕ → Type 0
  Shorter bound vs = (n k l : ℕ) (s t : State) → n < bound → R k l s t → run_from I g n k s ≡ runs.returned vs → HasReturn I h is_stop vs l t

  at_stop : (bound n : ℕ) (vs : List ℕ) → Shorter bound vs → n < suc bound → (a b : Stop) → AreStops R a b → GoesOnFrom I g is_place n vs a → Resumes I h is_stop vs b
  at_stop bound n vs shorter lt (came_to k s) (came_to l t) r (place, i, less, ran) = shorter i k l s t (omega arith) r ran
  at_stop bound n vs shorter lt (came_to k s) (returned ws) r w = absurd r
  at_stop bound n vs shorter lt (came_to k s) stuck r w = absurd r
  at_stop bound n vs shorter lt (came_to k s) unfinished r w = absurd r
  at_stop bound n vs shorter lt (returned us) (came_to l t) r w = absurd r
  at_stop bound n vs shorter lt (returned us) (returned ws) r w = sym r ∙ w
  at_stop bound n vs shorter lt (returned us) stuck r w = absurd r
  at_stop bound n vs shorter lt (returned us) unfinished r w = absurd r
  at_stop bound n vs shorter lt stuck b r w = absurd r
  at_stop bound n vs shorter lt unfinished b r w = absurd r

  shorter_runs : (bound : ℕ) (vs : List ℕ) → Shorter bound vs
  shorter_runs zero vs n k l s t lt r e = absurd (omega arith)
  shorter_runs (suc bound) vs n k l s t lt r e =
      let on = stops_on I g is_place n vs k s e in
      let next = follows k l s t r (stop_from I g is_place n k s) (settled_on I g is_place n vs (stop_from I g is_place n k s) on) (n, refl) in
      ended I h is_stop l t vs next.0 next.1 (at_stop bound n vs (shorter_runs bound vs) lt (stop_from I g is_place n k s) next.0 next.2 on)

  -- what the first graph returns, the second returns
  pub followed : (k l : ℕ) (s t : State) (vs : List ℕ) → R k l s t → HasReturn I g is_place vs k s → HasReturn I h is_stop vs l t
  followed k l s t vs r (n, e) = shorter_runs (suc n) vs n k l s t (omega arith) r e
