-- The targets of steps of nodes, from the targets of the nodes that they name.
use Rattle.std.proofs.Common.{◌≡◌, ℕ, ⊎_elim, List, [], ◌++◌, map, slice_get, sym, ap, ◌∙◌, subst, Bool, true, false, cond, Some, Option}
use Rattle.kat_model.specs.Trees.{Term, product, star}
use Rattle.kat_model.specs.Members.{Has, SameMembers}
use Rattle.kat_model.specs.Steps.{Atom, out, next, dot}
use Rattle.kat_model.proofs.Lists.{has_map, map_has, has_append, has_left, has_right}
use Rattle.cert_checker.specs.NodeTables.{TableParts, AreTables, TablesGrow, IsTerm, term_at}
use Rattle.cert_checker.specs.Targets.{Represent, AreAcceptances, AreSteps, leads_to}
use Rattle.cert_checker.proofs.TargetSets.{test_within, holds_kept, entries_kept, chosen_kept}

-- targets that stand for a list also stand for every list with the same members
pub represent_same : (t : TableParts) (es : List (ℕ × ℕ)) (f g : Atom → List Term) → Represent t es f → ((atom : Atom) → SameMembers (f atom) (g atom)) → Represent t es g
represent_same t es f g s same = record {
  entries = s.entries;
  same = λ atom x. ((λ h. (same atom x).0 ((s.same atom x).0 h)), (λ h. (s.same atom x).1 ((same atom x).1 h)));
}

module _ (old new : TableParts) (are : AreTables old) (grows : TablesGrow old new) where
  pub represent_kept : (es : List (ℕ × ℕ)) (f : Atom → List Term) → Represent old es f → Represent new es f
  represent_kept es f s = record {
    entries = entries_kept old new are grows es s.entries;
    same = λ atom. subst (λ l. SameMembers l (f atom)) (sym (chosen_kept old new are grows es atom s.entries)) (s.same atom);
  }

  pub acceptances_kept : (guards : List ℕ) → ((k g : ℕ) → slice_get guards k ≡ Some g → IsTerm old k) → AreAcceptances old guards → AreAcceptances new guards
  acceptances_kept guards within h k g e =
      let was = h k g e in (
        test_within old new are grows g was.0,
        (λ atom. holds_kept old new are grows g atom was.0 ∙ was.1 atom ∙ ap (λ x. out x atom) (sym (grows.nodes.trees k (within k g e)))),
      )

  pub steps_kept : (action : Option ℕ) (Among : ℕ → Type 0) (steps : List (List (ℕ × ℕ))) → ((k : ℕ) (es : List (ℕ × ℕ)) → slice_get steps k ≡ Some es → IsTerm old k) → AreSteps old action Among steps → AreSteps new action Among steps
  steps_kept action Among steps within h k es m e =
      represent_same new es (leads_to action (term_at old k)) (leads_to action (term_at new k)) (represent_kept es (leads_to action (term_at old k)) (h k es m e))
      (λ atom. subst (λ x. SameMembers (leads_to action (term_at old k) atom) (leads_to action x atom)) (sym (grows.nodes.trees k (within k es e))) (λ x. ((λ m. m), (λ m. m))))

-- ---- the rest of a product

map_same : {X Y : Type 0} (f : X → Y) (xs ys : List X) → SameMembers xs ys → SameMembers (map f xs) (map f ys)
map_same f xs ys same y = (
  (λ h. let m = has_map f xs y h in subst (Has (map f ys)) m.2 (map_has f ys m.0 ((same m.0).0 m.1))),
  (λ h. let m = has_map f ys y h in subst (Has (map f xs)) m.2 (map_has f xs m.0 ((same m.0).1 m.1))),
)

pub append_same : {X : Type 0} (ws bs xs ys : List X) → SameMembers ws bs → SameMembers xs ys → SameMembers (ws ++ xs) (bs ++ ys)
append_same ws bs xs ys s t y = (
  (λ h. ⊎_elim (λ k. has_left bs ys y ((s y).0 k)) (λ k. has_right bs ys y ((t y).0 k)) (has_append ws xs y h)),
  (λ h. ⊎_elim (λ k. has_left ws xs y ((s y).1 k)) (λ k. has_right ws xs y ((t y).1 k)) (has_append bs ys y h)),
)

cond_same : {X : Type 0} (b c : Bool) (xs ys : List X) → b ≡ c → SameMembers xs ys → SameMembers (cond b xs []) (cond c ys [])
cond_same true true xs ys e s = s
cond_same true false xs ys e s = absurd cc
cond_same false true xs ys e s = absurd cc
cond_same false false xs ys e s = λ y. ((λ h. h), (λ h. h))

pub product_same : (e f : Term) (atom : Atom) (a : ℕ) (b : Bool) (firsts seconds : List Term) → SameMembers firsts (next e atom a) → SameMembers seconds (next f atom a) → b ≡ out e atom
    → SameMembers (map (λ x. dot x f) firsts ++ cond b seconds []) (next (product e f) atom a)
product_same e f atom a b firsts seconds s t o =
    append_same _ _ _ _ (map_same (λ x. dot x f) firsts (next e atom a) s) (cond_same b (out e atom) seconds (next f atom a) o t)

pub star_same : (e : Term) (atom : Atom) (a : ℕ) (firsts : List Term) → SameMembers firsts (next e atom a) → SameMembers (map (λ x. dot x (star e)) firsts) (next (star e) atom a)
star_same e atom a firsts s = map_same (λ x. dot x (star e)) firsts (next e atom a) s
