-- The direct search returns true exactly when the term relates the states.
use Rattle.std.proofs.Common.{◌≡◌, ℕ, zero as nought, suc, ◌<◌, ◌⊎◌, inl, inr, ⊎_elim, ◌↔◌, refl, sym, ◌∙◌, subst, arith, Bool, false, ◌&&◌, eqb}
use Rattle.std.specs.Bool.{IsTrue}
use Rattle.std.proofs.lemmas.Bool.{true≢false, false≢true, eqb-true, eq-eqb, or_cases, or_left, or_right, and_parts, and_from}
use Rattle.kat_model.specs.Trees.{Term, zero, one, test, act, sum, product, star}
use Rattle.kat_model.specs.Members.{Has}
use Rattle.kat_model.specs.Steps.{truth}
use Rattle.kat_model.specs.Relations.{Step, Table, atom_at, Relates}
use Rattle.kat_model.proofs.Lists.{has_any, any_has}
use Rattle.kat_model.specs.Working.Decided.{same_step, some_below, computes_relation}
use Rattle.kat_model.proofs.Closure.{through_now_leads}

same_step_true : (m n : Step) → IsTrue (same_step m n) → n ≡ m
same_step_true m n h =
    let a = and_parts (eqb m.from n.from) _ h in
    let b = and_parts (eqb m.act n.act) (eqb m.to n.to) a.1 in
    let from = sym (eqb-true m.from n.from a.0) in
    let action = sym (eqb-true m.act n.act b.0) in
    let to = sym (eqb-true m.to n.to b.1) in
    λ i. record { from = from i; act = action i; to = to i }

same_step_self : (m : Step) → IsTrue (same_step m m)
same_step_self m =
    and_from (eqb m.from m.from) _ (eq-eqb m.from m.from refl)
    (and_from (eqb m.act m.act) (eqb m.to m.to) (eq-eqb m.act m.act refl) (eq-eqb m.to m.to refl))

some_below_true : (p : ℕ → Bool) (n : ℕ) → IsTrue (some_below p n) → (k : ℕ) × (k < n) × IsTrue (p k)
some_below_true p nought h = absurd (false≢true h)
some_below_true p (suc n) h =
    ⊎_elim (λ a. (n, omega arith, a)) (λ b. let r = some_below_true p n b in (r.0, omega arith, r.2)) (or_cases (p n) (some_below p n) h)

below_some : (p : ℕ → Bool) (n k : ℕ) → k < n → IsTrue (p k) → IsTrue (some_below p n)
below_some p nought k lt h = absurd (omega arith)
below_some p (suc n) k lt h =
    ⊎_elim
    (λ e. or_left (p n) _ (subst (λ m. IsTrue (p m)) e h))
    (λ l. or_right (p n) _ (below_some p n k l h))
    (cases k n lt)
  where
    cases : (k n : ℕ) → k < suc n → (k ≡ n) ⊎ (k < n)
    cases k n lt = grind arith

module _ (t : Table) where
  pub relates_now_decides : (e : Term) (i j : ℕ) → i < t.states → j < t.states → IsTrue (computes_relation t e i j) ↔ Relates t e i j
  relates_now_decides zero i j li lj = ((λ h. absurd (false≢true h)), absurd)
  relates_now_decides one i j li lj = ((λ h. eqb-true i j h), (λ r. eq-eqb i j r))
  relates_now_decides (test b) i j li lj = (
    (λ h. let p = and_parts (eqb i j) (truth b (atom_at t i)) h in (eqb-true i j p.0, p.1)),
    (λ r. and_from (eqb i j) (truth b (atom_at t i)) (eq-eqb i j r.0) r.1),
  )
  relates_now_decides (act a) i j li lj =
      let m : Step = record { from = i; act = a; to = j } in (
        (λ h. let r = has_any (same_step m) t.moves h in subst (Has t.moves) (same_step_true m r.0 r.2) r.1),
        (λ r. any_has (same_step m) t.moves m r (same_step_self m)),
      )
  relates_now_decides (sum e f) i j li lj =
      let a = relates_now_decides e i j li lj in
      let b = relates_now_decides f i j li lj in (
        (λ h. ⊎_elim (λ p. inl (a.0 p)) (λ q. inr (b.0 q)) (or_cases (computes_relation t e i j) (computes_relation t f i j) h)),
        (λ r. ⊎_elim (λ p. or_left (computes_relation t e i j) _ (a.1 p)) (λ q. or_right (computes_relation t e i j) _ (b.1 q)) r),
      )
  relates_now_decides (product e f) i j li lj = (
    (λ h.
        let r = some_below_true (λ k. computes_relation t e i k && computes_relation t f k j) t.states h in
        let p = and_parts (computes_relation t e i r.0) (computes_relation t f r.0 j) r.2 in
        (r.0, r.1, (relates_now_decides e i r.0 li r.1).0 p.0, (relates_now_decides f r.0 j r.1 lj).0 p.1)),
    (λ r.
        below_some (λ k. computes_relation t e i k && computes_relation t f k j) t.states r.0 r.1
        (and_from (computes_relation t e i r.0) (computes_relation t f r.0 j) ((relates_now_decides e i r.0 li r.1).1 r.2) ((relates_now_decides f r.0 j r.1 lj).1 r.3))),
  )
  relates_now_decides (star e) i j li lj =
      through_now_leads t.states (computes_relation t e) (Relates t e) (λ k l sk sl. relates_now_decides e k l sk sl) i j li lj

  -- if the computed value is true, the term relates the states; if it is false, it does not
  pub computed_relates : (e : Term) (i j : ℕ) → i < t.states → j < t.states → IsTrue (computes_relation t e i j) → Relates t e i j
  computed_relates e i j li lj h = (relates_now_decides e i j li lj).0 h

  pub computed_relates_not : (e : Term) (i j : ℕ) → i < t.states → j < t.states → computes_relation t e i j ≡ false → Relates t e i j → ⊥
  computed_relates_not e i j li lj h r = true≢false (sym ((relates_now_decides e i j li lj).1 r) ∙ h)
