-- Results that need no recursion.
use Rattle.std.proofs.Common.{◌≡◌, ◌≢◌, ℕ, ◌<◌, ◌⊎◌, inl, inr, ⊎_elim, Bool, true, false, not, ◌&&◌, ◌||◌, Option, None, Some, IfSome, IfNone, slice_get, refl, sym, ap, subst, ◌∙◌, arith}
use Rattle.std.proofs.lemmas.Option.{slice_get_within}
use Rattle.kat_model.specs.Steps.{Atom}
use Rattle.kat_model.proofs.Places.{one_place}
use Rattle.test_diagrams.specs.declared.diagrams.Node.{Node}
use Rattle.test_diagrams.specs.declared.diagrams.Node.TheVariants.{Constant, Branch}
use Rattle.test_diagrams.specs.declared.diagrams.Operation.{Operation}
use Rattle.test_diagrams.specs.declared.diagrams.Operation.TheVariants.{And, Or, Not}
use Rattle.test_diagrams.specs.Functions.{DiagramsParts, value_of, IsDiagramId, IsDiagramOf}
use Rattle.test_diagrams.specs.Reduced.{level_of, IsReduced}
use Rattle.test_diagrams.specs.Working.Absorption.{IsAbsorbed}
use Rattle.test_diagrams.specs.Operations.{HasOperands, IsResult}
use Rattle.test_diagrams.specs.Working.Operations.{IsOpen}
use Rattle.test_diagrams.proofs.Values.{value_of-constant}
use Rattle.test_diagrams.proofs.Levels.{node_of_id, level_of-branch}

left_of_and : (x y : Bool) → (x ≡ false) ⊎ ((y ≡ true) ⊎ (x ≡ y)) → x ≡ (x && y)
left_of_and false y why = refl
left_of_and true true why = refl
left_of_and true false why = ⊎_elim (λ e. e) (⊎_elim sym (λ e. e)) why

right_of_and : (x y : Bool) → (x ≡ true) ⊎ (y ≡ false) → y ≡ (x && y)
right_of_and true y why = refl
right_of_and false false why = refl
right_of_and false true why = ⊎_elim sym (λ e. e) why

left_of_or : (x y : Bool) → (x ≡ true) ⊎ ((y ≡ false) ⊎ (x ≡ y)) → x ≡ (x || y)
left_of_or true y why = refl
left_of_or false false why = refl
left_of_or false true why = ⊎_elim (λ e. e) (⊎_elim sym (λ e. e)) why

right_of_or : (x y : Bool) → (x ≡ false) ⊎ (y ≡ true) → y ≡ (x || y)
right_of_or false y why = refl
right_of_or true true why = refl
right_of_or true false why = ⊎_elim sym (λ e. e) why

module _ (d : DiagramsParts) (r : IsReduced d) where
  pub value_of-never : (atom : Atom) → value_of d 0 atom ≡ false
  value_of-never atom = value_of-constant d 0 false atom r.never

  pub value_of-always : (atom : Atom) → value_of d 1 atom ≡ true
  value_of-always atom = value_of-constant d 1 true atom r.always

  pub never_is : (value : Bool) → value ≡ false → IsDiagramOf d 0 (λ atom. value)
  never_is value e = record { in_range = slice_get_within d.nodes 0 _ r.never; value = λ atom fits. value_of-never atom ∙ sym e }

  pub always_is : (value : Bool) → value ≡ true → IsDiagramOf d 1 (λ atom. value)
  always_is value e = record { in_range = slice_get_within d.nodes 1 _ r.always; value = λ atom fits. value_of-always atom ∙ sym e }

  -- an id that is not a constant is the id of a branch
  pub level_of-other : (id : ℕ) → IsDiagramId d id → id ≢ 0 → id ≢ 1 → level_of d id < d.tests
  level_of-other id there no_never no_always = let n = node_of_id d id there in by n.0 n.1
    where
      by : (node : Node) → slice_get d.nodes id ≡ Some node → level_of d id < d.tests
      by (Constant false) e = absurd (no_never (one_place d.nodes r.once id 0 _ e r.never))
      by (Constant true) e = absurd (no_always (one_place d.nodes r.once id 1 _ e r.always))
      by (Branch test low high) e =
          let level : level_of d id ≡ test = level_of-branch d id test low high e in
          omega (arith, (r.branches id test low high e).in_range)

  value_if_never : (id : ℕ) (atom : Atom) → id ≡ 0 → value_of d id atom ≡ false
  value_if_never id atom e = ap (λ i. value_of d i atom) e ∙ value_of-never atom

  value_if_always : (id : ℕ) (atom : Atom) → id ≡ 1 → value_of d id atom ≡ true
  value_if_always id atom e = ap (λ i. value_of d i atom) e ∙ value_of-always atom

  value_if_same : (i j : ℕ) (atom : Atom) → i ≡ j → value_of d i atom ≡ value_of d j atom
  value_if_same i j atom e = ap (λ k. value_of d k atom) e

  and_absorbed : (a b id : ℕ) → HasOperands d (And a b) → IsAbsorbed a b 0 1 id → IsResult d (And a b) id
  and_absorbed a b id operands why =
      ⊎_elim
      (λ (e, first). (
        operands,
        record {
          in_range = subst (IsDiagramId d) (sym e) operands.0;
          value = λ atom fits. value_if_same id a atom e ∙ left_of_and _ _
              (⊎_elim (λ z. inl (value_if_never a atom z)) (⊎_elim (λ u. inr (inl (value_if_always b atom u))) (λ s. inr (inr (value_if_same a b atom s)))) first);
        },
      ))
      (λ (e, second). (
        operands,
        record {
          in_range = subst (IsDiagramId d) (sym e) operands.1;
          value = λ atom fits. value_if_same id b atom e ∙ right_of_and _ _ (⊎_elim (λ u. inl (value_if_always a atom u)) (λ z. inr (value_if_never b atom z)) second);
        },
      ))
      why

  or_absorbed : (a b id : ℕ) → HasOperands d (Or a b) → IsAbsorbed a b 1 0 id → IsResult d (Or a b) id
  or_absorbed a b id operands why =
      ⊎_elim
      (λ (e, first). (
        operands,
        record {
          in_range = subst (IsDiagramId d) (sym e) operands.0;
          value = λ atom fits. value_if_same id a atom e ∙ left_of_or _ _
              (⊎_elim (λ z. inl (value_if_always a atom z)) (⊎_elim (λ u. inr (inl (value_if_never b atom u))) (λ s. inr (inr (value_if_same a b atom s)))) first);
        },
      ))
      (λ (e, second). (
        operands,
        record {
          in_range = subst (IsDiagramId d) (sym e) operands.1;
          value = λ atom fits. value_if_same id b atom e ∙ right_of_or _ _ (⊎_elim (λ u. inl (value_if_never a atom u)) (λ z. inr (value_if_always b atom z)) second);
        },
      ))
      why

  -- the same fact about the value that a call returns
  pub and_found : (operation : Operation) (a b : ℕ) → operation ≡ And a b → HasOperands d operation → (found : Option ℕ) → IfSome found (IsAbsorbed a b 0 1) → IfSome found (IsResult d operation)
  and_found operation a b is operands None why = tt
  and_found operation a b is operands (Some id) why =
      subst (λ o. HasOperands d o → IsResult d o id) (sym is) (λ ids. and_absorbed a b id ids why) operands

  pub or_found : (operation : Operation) (a b : ℕ) → operation ≡ Or a b → HasOperands d operation → (found : Option ℕ) → IfSome found (IsAbsorbed a b 1 0) → IfSome found (IsResult d operation)
  or_found operation a b is operands None why = tt
  or_found operation a b is operands (Some id) why =
      subst (λ o. HasOperands d o → IsResult d o id) (sym is) (λ ids. or_absorbed a b id ids why) operands

  pub and_open : (operation : Operation) (a b : ℕ) → operation ≡ And a b → HasOperands d operation → (found : Option ℕ) → IfNone found ((a ≢ 0) × (a ≢ 1)) → IfNone found (IsOpen d operation)
  and_open operation a b is operands (Some id) other = tt
  and_open operation a b is operands None other =
      subst (λ o. HasOperands d o → IsOpen d o) (sym is)
      (λ ids. let lower : level_of d a < d.tests = level_of-other a ids.0 other.0 other.1 in omega arith)
      operands

  pub or_open : (operation : Operation) (a b : ℕ) → operation ≡ Or a b → HasOperands d operation → (found : Option ℕ) → IfNone found ((a ≢ 1) × (a ≢ 0)) → IfNone found (IsOpen d operation)
  or_open operation a b is operands (Some id) other = tt
  or_open operation a b is operands None other =
      subst (λ o. HasOperands d o → IsOpen d o) (sym is)
      (λ ids. let lower : level_of d a < d.tests = level_of-other a ids.0 other.1 other.0 in omega arith)
      operands

  pub not_never : (operation : Operation) (a : ℕ) → operation ≡ Not a → HasOperands d operation → a ≡ 0 → IsResult d operation 1
  not_never operation a is operands e =
      subst (λ o. HasOperands d o → IsResult d o 1) (sym is)
      (λ id. (id, record { in_range = slice_get_within d.nodes 1 _ r.always; value = λ atom fits. value_of-always atom ∙ sym (ap not (value_if_never a atom e)) }))
      operands

  pub not_always : (operation : Operation) (a : ℕ) → operation ≡ Not a → HasOperands d operation → a ≡ 1 → IsResult d operation 0
  not_always operation a is operands e =
      subst (λ o. HasOperands d o → IsResult d o 0) (sym is)
      (λ id. (id, record { in_range = slice_get_within d.nodes 0 _ r.never; value = λ atom fits. value_of-never atom ∙ sym (ap not (value_if_always a atom e)) }))
      operands

  pub not_open : (operation : Operation) (a : ℕ) → operation ≡ Not a → HasOperands d operation → a ≢ 0 → a ≢ 1 → IsOpen d operation
  not_open operation a is operands no_never no_always =
      subst (λ o. HasOperands d o → IsOpen d o) (sym is) (λ id. level_of-other a id no_never no_always) operands
