-- Lists of edges and sets that grow at their ends.
use Rattle.std.proofs.Common.{◌≡◌, ℕ, suc, ◌+◌, List, [], ◌∷◌, ◌++◌, map, flat_map, Option, sym, ◌∙◌, ap, arith, append_assoc}
use Rattle.std.proofs.lemmas.List.{append-nil}
use Rattle.flow_model.specs.declared.sort.Sort.{Sort}
use Rattle.flow_forms.specs.Forms.{FlowFormTree}
use Rattle.flow_ways.proofs.CourseLists.{pushed_then}
use Rattle.flow_ways.specs.Conditions.{FlowCondTree}
use Rattle.flow_problem.specs.Edges.{FlowActionTree, Edge}
use Rattle.flow_problem.specs.Splits.{CellTest, sets_with}
use Rattle.flow_edges.specs.Numbers.{with_action}

-- what a variable is set to, and what those after it are set to
pub set_then : (all : List Sort) (x : CellTest) (k : ℕ) (sorts : List Sort) (os : List (Option FlowFormTree)) (set : Option FlowFormTree) (old mid new : List (Option FlowFormTree)) →
    mid ≡ old ++ set ∷ [] → new ≡ mid ++ sets_with all x (k + 1) sorts os → new ≡ old ++ set ∷ sets_with all x (suc k) sorts os
set_then all x k sorts os set old mid new e f =
    let next : k + 1 ≡ suc k = omega arith in
    pushed_then old mid new (sets_with all x (k + 1) sorts os) set e f ∙ ap (λ n. old ++ set ∷ sets_with all x n sorts os) next

pub both_pushed : {X : Type 0} (old mid new : List X) (x y : X) → mid ≡ old ++ x ∷ [] → new ≡ mid ++ y ∷ [] → new ≡ old ++ x ∷ y ∷ []
both_pushed old mid new x y e f = pushed_then old mid new (y ∷ []) x e f

-- an edge with no more tests
pub no_tests : (bs : List FlowCondTree) (action : FlowActionTree) (target : Option ℕ) → ◌≡◌ {A = Edge} (record { tests = bs; action = action; target = target }) (with_action [] action (record { tests = bs; action = action; target = target }))
no_tests bs action target = ap (λ cs. record { tests = cs; action = action; target = target }) (sym (append-nil bs))

-- an edge with more tests and another action
pub more_tests : (e : Edge) (bs cs : List FlowCondTree) (action : FlowActionTree) → bs ≡ e.tests ++ cs → ◌≡◌ {A = Edge} (record { tests = bs; action = action; target = e.target }) (with_action cs action e)
more_tests e bs cs action h = ap (λ ds. record { tests = ds; action = action; target = e.target }) h

-- what the last edge of a list is split into
flat_map-pushed : {X Y Z : Type 0} (f : Y → List Z) (g : X → Y) (xs : List X) (x : X) → flat_map f (map g (xs ++ x ∷ [])) ≡ flat_map f (map g xs) ++ f (g x)
flat_map-pushed f g [] x = append-nil (f (g x))
flat_map-pushed f g (y ∷ xs) x =
    ap (λ zs. f (g y) ++ zs) (flat_map-pushed f g xs x) ∙ sym (append_assoc (f (g y)) (flat_map f (map g xs)) (f (g x)))

pub split_more : {X Y Z : Type 0} (f : Y → List Z) (g : X → Y) (xs : List X) (x : X) (old new : List Z) →
    new ≡ old ++ f (g x) → old ≡ flat_map f (map g xs) → new ≡ flat_map f (map g (xs ++ x ∷ []))
split_more f g xs x old new e h = e ∙ ap (λ zs. zs ++ f (g x)) h ∙ sym (flat_map-pushed f g xs x)
