-- The tests of the conditions of a program are tests of its problem.
use Rattle.std.proofs.Common.{◌≡◌, ℕ, suc, inl, inr, ⊎_elim, List, ◌∷◌, ◌++◌, refl, subst}
use Rattle.kat_model.specs.Trees.{top, complement, Term, zero, one, test, act, product}
use Rattle.kat_model.specs.Members.{Has}
use Rattle.kat_model.specs.Problems.{IsInRange}
use Rattle.kat_model.specs.Balanced.{product_of}
use Rattle.kat_model.proofs.BalancedTrees.{balanced_holds}
use Rattle.kat_model.proofs.Lists.{has_append}
use Rattle.while_lang.specs.Flows.{FlowTree, empty, skip_then, abort_then, assert_then, act_then, branch_then, loop_then}
use Rattle.while_lang.specs.Encoding.{stmt_terms, branch_term, loop_term}
use Rattle.outline_rules.specs.Places.{last_place}
use Rattle.outline_rules.specs.Follows.{Condition, implies, leads, conditions_from}
use Rattle.outline_rules.specs.Working.Sets.{IsConditionInRange}

module _ (t a : ℕ) where
  abbrev AllInRange : List Term → Type 0
  AllInRange es = (e : Term) → Has es e → IsInRange t a e

  -- if a balanced product is in range, all its members are
  pub product_parts : (es : List Term) → IsInRange t a (product_of es) → AllInRange es
  product_parts =
      balanced_holds one product (λ es x. IsInRange t a x → AllInRange es)
      (λ r e h. absurd h)
      (λ x r e h. ⊎_elim (λ same. subst (IsInRange t a) same r) absurd h)
      (λ xs ys b c p q r e h. ⊎_elim (p r.0 e) (q r.1 e) (has_append xs ys e h))

  later : (x : Term) (es : List Term) → AllInRange (x ∷ es) → AllInRange es
  later x es each e h = each e (inr h)

  one_of : (c d : Condition) → IsConditionInRange t c → c ≡ d → IsConditionInRange t d
  one_of c d is e = subst (IsConditionInRange t) e is

  pub conditions_in : (f : FlowTree) (n : ℕ) → AllInRange (stmt_terms f) → (c : Condition) → Has (conditions_from f n) c → IsConditionInRange t c
  conditions_in empty n each c h = absurd h
  conditions_in (skip_then rest) n each c h = ⊎_elim (one_of (implies n top (suc n)) c tt) (conditions_in rest (suc n) (later one (stmt_terms rest) each) c) h
  conditions_in (abort_then rest) n each c h = conditions_in rest (suc n) (later zero (stmt_terms rest) each) c h
  conditions_in (assert_then b rest) n each c h = ⊎_elim (one_of (implies n b (suc n)) c (each (test b) (inl refl))) (conditions_in rest (suc n) (later (test b) (stmt_terms rest) each) c) h
  conditions_in (act_then b rest) n each c h = ⊎_elim (one_of (leads n b (suc n)) c tt) (conditions_in rest (suc n) (later (act b) (stmt_terms rest) each) c) h
  conditions_in (branch_then b f g rest) n each c h =
      let whole : Term = branch_term b (product_of (stmt_terms f)) (product_of (stmt_terms g)) in
      let r = each whole (inl refl) in
      let second : ℕ = suc (last_place f (suc n)) in
      let after : ℕ = suc (last_place g second) in
      let ends_here : List Condition = implies (last_place f (suc n)) top after ∷ implies (last_place g second) top after ∷ conditions_from rest after in
      ⊎_elim
      (one_of (implies n b (suc n)) c r.0.0)
      (λ k. ⊎_elim
      (conditions_in f (suc n) (product_parts (stmt_terms f) r.0.1) c)
      (λ m. ⊎_elim
      (one_of (implies n (complement b) second) c r.1.0)
      (λ o. ⊎_elim
      (conditions_in g second (product_parts (stmt_terms g) r.1.1) c)
      (λ p. ⊎_elim (one_of (implies (last_place f (suc n)) top after) c tt) (λ s. ⊎_elim (one_of (implies (last_place g second) top after) c tt) (conditions_in rest after (later whole (stmt_terms rest) each) c) s) p)
      (has_append (conditions_from g second) ends_here c o))
      m)
      (has_append (conditions_from f (suc n)) (implies n (complement b) second ∷ (conditions_from g second ++ ends_here)) c k))
      h
  conditions_in (loop_then b f rest) n each c h =
      let whole : Term = loop_term b (product_of (stmt_terms f)) in
      let r = each whole (inl refl) in
      let invariant : ℕ = suc n in
      let body : ℕ = suc invariant in
      let after : ℕ = suc (last_place f body) in
      let ends_here : List Condition = implies (last_place f body) top invariant ∷ implies invariant (complement b) after ∷ conditions_from rest after in
      ⊎_elim
      (one_of (implies n top invariant) c tt)
      (λ k. ⊎_elim
      (one_of (implies invariant b body) c r.0.0)
      (λ m. ⊎_elim
      (conditions_in f body (product_parts (stmt_terms f) r.0.1) c)
      (λ p. ⊎_elim (one_of (implies (last_place f body) top invariant) c tt) (λ s. ⊎_elim (one_of (implies invariant (complement b) after) c r.1) (conditions_in rest after (later whole (stmt_terms rest) each) c) s) p)
      (has_append (conditions_from f body) ends_here c m))
      k)
      h
