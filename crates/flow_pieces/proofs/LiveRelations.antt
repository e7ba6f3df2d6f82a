-- Relations up to variables that are not live: runs from states that agree on what is live follow each other too.
use Rattle.std.proofs.Common.{◌≡◌, ℕ, Bool, List, length, refl, sym, ◌∙◌, subst}
use Rattle.flow_model.specs.declared.sort.Sort.{Sort}
use Rattle.flow_model.specs.Sorts.{State}
use Rattle.flow_model.specs.Graphs.{Graph}
use Rattle.flow_model.specs.Interpretations.{Interpretation}
use Rattle.flow_ways.specs.Liveness.{AgreeLive, StopsAgree}
use Rattle.flow_ways.specs.Sorted.{IsSortedGraph}
use Rattle.flow_ways.specs.Stops.{Stop, came_to, returned, stuck, unfinished, stop_from, IsSettled}
use Rattle.flow_ways.proofs.LiveRuns.{sorted_runs_alike}
use Rattle.flow_pieces.proofs.Followed.{Relation, AreStops, Follows}

-- the states have equally many variables, and agree on those that are live at the block
abbrev pub AgreeAt : Graph → ℕ → State → State → Type 0
AgreeAt g k s t = (length s ≡ length t) × AgreeLive g k s t

pub agree_trans : (g : Graph) (k : ℕ) (s t u : State) → AgreeAt g k s t → AgreeAt g k t u → AgreeAt g k s u
agree_trans g k s t u a b = (a.0 ∙ b.0, λ x live. a.1 x live ∙ b.1 x live)

-- states that agree on what is live with related states
abbrev pub LiveRelated : Graph → Graph → Relation → Relation
LiveRelated g h R k l s t = (u : State) × (v : State) × R k l u v × AgreeAt g k u s × AgreeAt h l v t

settled_alike : (g : Graph) (a b : Stop) → StopsAgree g a b → IsSettled b → IsSettled a
settled_alike g (came_to k s) b r h = tt
settled_alike g (returned vs) b r h = tt
settled_alike g stuck (came_to l t) r h = absurd r
settled_alike g stuck (returned ws) r h = absurd r
settled_alike g stuck stuck r h = h
settled_alike g stuck unfinished r h = absurd r
settled_alike g unfinished (came_to l t) r h = absurd r
settled_alike g unfinished (returned ws) r h = absurd r
settled_alike g unfinished stuck r h = absurd r
settled_alike g unfinished unfinished r h = h

module _ (g h : Graph) (R : Relation) where
  both_came : (k l : ℕ) (u v : State) → R k l u v → (a b : Stop) → StopsAgree g (came_to k u) a → StopsAgree h (came_to l v) b → AreStops (LiveRelated g h R) a b
  both_came k l u v r (came_to i s) (came_to j t) p q = (
    u,
    v,
    subst (λ x. R x j u v) p.0 (subst (λ y. R k y u v) q.0 r),
    (p.1, subst (λ x. AgreeLive g x u s) p.0 p.2),
    (q.1, subst (λ y. AgreeLive h y v t) q.0 q.2),
  )
  both_came k l u v r (came_to i s) (returned ws) p q = absurd q
  both_came k l u v r (came_to i s) stuck p q = absurd q
  both_came k l u v r (came_to i s) unfinished p q = absurd q
  both_came k l u v r (returned vs) b p q = absurd p
  both_came k l u v r stuck b p q = absurd p
  both_came k l u v r unfinished b p q = absurd p

  both_returned : (xs ys : List ℕ) → xs ≡ ys → (a b : Stop) → StopsAgree g (returned xs) a → StopsAgree h (returned ys) b → AreStops (LiveRelated g h R) a b
  both_returned xs ys r (came_to i s) b p q = absurd p
  both_returned xs ys r (returned vs) (came_to j t) p q = absurd q
  both_returned xs ys r (returned vs) (returned ws) p q = sym p ∙ (r ∙ q)
  both_returned xs ys r (returned vs) stuck p q = absurd q
  both_returned xs ys r (returned vs) unfinished p q = absurd q
  both_returned xs ys r stuck b p q = absurd p
  both_returned xs ys r unfinished b p q = absurd p

  joined : (c d a b : Stop) → AreStops R c d → StopsAgree g c a → StopsAgree h d b → AreStops (LiveRelated g h R) a b
  joined (came_to k u) (came_to l v) a b r p q = both_came k l u v r a b p q
  joined (came_to k u) (returned ys) a b r p q = absurd r
  joined (came_to k u) stuck a b r p q = absurd r
  joined (came_to k u) unfinished a b r p q = absurd r
  joined (returned xs) (came_to l v) a b r p q = absurd r
  joined (returned xs) (returned ys) a b r p q = both_returned xs ys r a b p q
  joined (returned xs) stuck a b r p q = absurd r
  joined (returned xs) unfinished a b r p q = absurd r
  joined stuck d a b r p q = absurd r
  joined unfinished d a b r p q = absurd r

-- runs from states that agree on what is live with states whose runs follow each other
pub follows_alike : (I : Interpretation) (sorts : List Sort) (g : Graph) (is_place : ℕ → Bool) (h : Graph) (is_stop : ℕ → Bool) (R : Relation) → IsSortedGraph sorts g → IsSortedGraph sorts h → (k l : ℕ) (u v s t : State) →
    Follows I g is_place h is_stop R k l u v → AgreeAt g k u s → AgreeAt h l v t → Follows I g is_place h is_stop (LiveRelated g h R) k l s t
follows_alike I sorts g is_place h is_stop R first second k l u v s t follows p q a settled (n, e) =
    let here = subst (StopsAgree g (stop_from I g is_place n k u)) e (sorted_runs_alike I g sorts is_place first n k u s p.0 p.1) in
    let next = follows (stop_from I g is_place n k u) (settled_alike g (stop_from I g is_place n k u) a here settled) (n, refl) in
    let there = subst (λ b. StopsAgree h b (stop_from I h is_stop next.1.0 l t)) next.1.1 (sorted_runs_alike I h sorts is_stop second next.1.0 l v t q.0 q.1) in
    (stop_from I h is_stop next.1.0 l t, (next.1.0, refl), joined g h R (stop_from I g is_place n k u) next.0 a (stop_from I h is_stop next.1.0 l t) next.2 here there)
