-- Results of operations, and tables of results, stay correct when nodes are added.
use Rattle.std.proofs.Common.{◌≡◌, ℕ, ◌<◌, List, [], ◌∷◌, Bool, true, false, cond, not, ◌&&◌, ◌||◌, Option, Some, None, IfSome, set, refl, sym, ap, ◌∙◌, subst}
use Rattle.std.specs.Map.{lookup}
use Rattle.indexmap.specs.IndexMap.{insert_entry}
use Rattle.kat_model.specs.Steps.{Atom}
use Rattle.test_diagrams.specs.declared.diagrams.Operation.{Operation}
use Rattle.test_diagrams.specs.declared.diagrams.Operation.TheVariants.{And, Or, Not, Fix}
use Rattle.test_diagrams.specs.Functions.{DiagramsParts, IsDiagramOf, KeepsFunctions}
use Rattle.test_diagrams.specs.Operations.{HasOperands, function_of, IsResult, AreResults}
use Rattle.test_diagrams.proofs.Kept.{IsDiagramOf-kept}

module _ (old new : DiagramsParts) (kept : KeepsFunctions old new) where
  pub operands_kept : (operation : Operation) → HasOperands old operation → HasOperands new operation
  operands_kept (And a b) h = (kept.ids a h.0, kept.ids b h.1)
  operands_kept (Or a b) h = (kept.ids a h.0, kept.ids b h.1)
  operands_kept (Not a) h = kept.ids a h
  operands_kept (Fix a test value) h = (kept.ids a h.0, subst (λ n. test < n) (sym kept.tests) h.1)

  pub function_of-kept : (operation : Operation) → HasOperands old operation → (atom : Atom) → function_of new operation atom ≡ function_of old operation atom
  function_of-kept (And a b) h atom = λ k. kept.values a h.0 atom k && kept.values b h.1 atom k
  function_of-kept (Or a b) h atom = λ k. kept.values a h.0 atom k || kept.values b h.1 atom k
  function_of-kept (Not a) h atom = ap not (kept.values a h atom)
  function_of-kept (Fix a test value) h atom = kept.values a h.0 (set atom test value)

  -- a result for operands of the old collection is a result in the new one
  pub result_from_old : (operation : Operation) (id : ℕ) → HasOperands old operation → IsDiagramOf new id (function_of old operation) → IsResult new operation id
  result_from_old operation id h d = (
    operands_kept operation h,
    record { in_range = d.in_range; value = λ atom fits. d.value atom fits ∙ sym (function_of-kept operation h atom) },
  )

  pub results_kept : (entries : List (Operation × ℕ)) → AreResults old entries → AreResults new entries
  results_kept [] h = tt
  results_kept (entry ∷ entries) h =
      (result_from_old entry.0 entry.1 h.0.0 (IsDiagramOf-kept old new kept entry.1 (function_of old entry.0) h.0.1), results_kept entries h.1)

module _ (d : DiagramsParts) (eq : Operation → Operation → Bool) where
  result_looked_up : (entries : List (Operation × ℕ)) (operation : Operation) (id : ℕ) → AreResults d entries → lookup (eq operation) entries ≡ Some id → ((x y : Operation) → eq x y ≡ true → x ≡ y) → IsResult d operation id
  result_looked_up [] operation id h e same = absurd cc
  result_looked_up (entry ∷ entries) operation id h e same = by (eq operation entry.0) refl e (λ f. result_looked_up entries operation id h.1 f same)
    where
      by : (b : Bool) → eq operation entry.0 ≡ b → cond b (Some entry.1) (lookup (eq operation) entries) ≡ Some id
          → (lookup (eq operation) entries ≡ Some id → IsResult d operation id) → IsResult d operation id
      by true p f later =
          let found : entry.1 ≡ id = cc in
          subst (λ o. IsResult d o id) (sym (same operation entry.0 p)) (subst (λ i. IsResult d entry.0 i) found h.0)
      by false p f later = later f

  -- a lookup in a table of results returns a result of the operation
  pub results_give : (entries : List (Operation × ℕ)) (operation : Operation) (found : Option ℕ) → AreResults d entries → found ≡ lookup (eq operation) entries
      → ((x y : Operation) → eq x y ≡ true → x ≡ y) → IfSome found (IsResult d operation)
  results_give entries operation None h e same = tt
  results_give entries operation (Some id) h e same = result_looked_up entries operation id h (sym e) same

  -- a table of results stays correct after an insert
  pub results_insert : (entries after : List (Operation × ℕ)) (operation : Operation) (id : ℕ) → AreResults d entries → IsResult d operation id → after ≡ insert_entry eq entries operation id
      → ((x y : Operation) → eq x y ≡ true → x ≡ y) → AreResults d after
  results_insert entries after operation id h r e same = subst (AreResults d) (sym e) (more entries h)
    where
      more : (entries : List (Operation × ℕ)) → AreResults d entries → AreResults d (insert_entry eq entries operation id)
      more [] h = (r, tt)
      more (entry ∷ entries) h = by (eq operation entry.0) refl (more entries h.1)
        where
          by : (b : Bool) → eq operation entry.0 ≡ b → AreResults d (insert_entry eq entries operation id)
              → AreResults d (cond b ((entry.0, id) ∷ entries) (entry ∷ insert_entry eq entries operation id))
          by true p later = (subst (λ o. IsResult d o id) (same operation entry.0 p) r, h.1)
          by false p later = (h.0, later)
