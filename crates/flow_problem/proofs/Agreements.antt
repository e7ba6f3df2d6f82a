-- If both sides of a problem of two graphs are the same, the graphs always return the same.
use Rattle.std.proofs.Common.{◌≡◌, ℕ, ◌<◌, ◌↔◌, List, length, refl, sym, ◌∙◌, subst, slice_get, Option, Some, None}
use Rattle.std.proofs.lemmas.List.{length-map}
use Rattle.std.proofs.lemmas.Option.{slice_get_within}
use Rattle.kat_model.specs.Relations.{RelatesIn, Same}
use Rattle.flow_model.specs.declared.sort.Sort.{Sort}
use Rattle.flow_model.specs.Graphs.{Pair}
use Rattle.flow_model.specs.Interpretations.{Interpretation}
use Rattle.flow_model.specs.Runs.{Returns}
use Rattle.flow_model.specs.Agreement.{AgreeAlways}
use Rattle.flow_forms.specs.Comparisons.{comparison_holds}
use Rattle.kat_model.proofs.PathTables.{FitsProblem, same_in_frame}
use Rattle.flow_problem.specs.Edges.{FlowActionTree}
use Rattle.flow_problem.specs.Points.{RunPoint, at, numbers_at, IsPoint, ActsAt, point_frame, FlowProblem, IsAbout}

-- an action that leads from a point to another is one of the actions
acts_within : (I : Interpretation) (sorts : List Sort) (actions : List FlowActionTree) (k : ℕ) (p q : RunPoint) → ActsAt I sorts (slice_get actions k) p q → k < length actions
acts_within I sorts actions k p q h = go (slice_get actions k) refl h
  where
    go : (o : Option FlowActionTree) → slice_get actions k ≡ o → ActsAt I sorts o p q → k < length actions
    go None e a = absurd a
    go (Some action) e a = slice_get_within actions k action e

points_fit : (pair : Pair) (p : FlowProblem) → IsAbout pair p → (I : Interpretation) → FitsProblem (point_frame I pair.sorts p.tests p.actions) p.problem
points_fit pair p poses I = record {
  wide = λ s is. length-map p.tests (comparison_holds I (numbers_at s)) ∙ sym poses.tests;
  acts = λ k s t h. subst (λ n. k < n) (sym poses.actions) (acts_within I pair.sorts p.actions k s t h);
  keeps = poses.hypotheses I;
}

pub same_agree : (pair : Pair) (p : FlowProblem) → IsAbout pair p → Same p.problem → AgreeAlways pair
same_agree pair p poses same I s is vs = (forth, back)
  where
    sides : (t : RunPoint) → IsPoint pair.sorts t → RelatesIn (point_frame I pair.sorts p.tests p.actions) p.problem.left (at s) t ↔ RelatesIn (point_frame I pair.sorts p.tests p.actions) p.problem.right (at s) t
    sides t it = same_in_frame (point_frame I pair.sorts p.tests p.actions) p.problem (points_fit pair p poses I) same (at s) t is it

    forth : Returns I pair.before s vs → Returns I pair.after s vs
    forth r = let e = (poses.left I s is vs).0 r in (poses.right I s is vs).1 (e.0, e.1, (sides e.0 e.1).0 e.2, e.3)

    back : Returns I pair.after s vs → Returns I pair.before s vs
    back r = let e = (poses.right I s is vs).0 r in (poses.left I s is vs).1 (e.0, e.1, (sides e.0 e.1).1 e.2, e.3)
