-- The closure of a relation on the numbers below a bound, by Warshall's steps (Warshall 1962). It relates two numbers
-- exactly when some list of numbers leads from one to the other.
use Rattle.std.proofs.Common.{◌≡◌, ℕ, zero, suc, ◌<◌, ◌≤◌, ◌⊎◌, inl, inr, ⊎_elim, ◌↔◌, List, [], ◌∷◌, ◌++◌, refl, sym, subst, arith, Bool, eqb}
use Rattle.std.specs.Bool.{IsTrue}
use Rattle.std.proofs.lemmas.Bool.{eqb-true, eq-eqb, or_cases, or_left, or_right, and_parts, and_from}
use Rattle.kat_model.specs.Relations.{Along}
use Rattle.kat_model.specs.Working.Decided.{warshall}

module _ {S : Type 0} (IsState : S → Type 0) where
  pub along_append : (R : S → S → Type 0) (ks ls : List S) (i m j : S) → Along IsState R i ks m → Along IsState R m ls j → Along IsState R i (ks ++ ls) j
  along_append R [] ls i m j h g = subst (λ s. Along IsState R s ls j) (sym h) g
  along_append R (k ∷ ks) ls i m j h g = (h.0, h.1, along_append R ks ls k m j h.2 g)

  -- a larger relation leads along all states that a smaller one leads along
  pub along_weaken : (R Q : S → S → Type 0) → ((i j : S) → IsState i → IsState j → R i j → Q i j) → (ks : List S) (i j : S) → IsState i → Along IsState R i ks j → Along IsState Q i ks j
  along_weaken R Q w [] i j s h = h
  along_weaken R Q w (k ∷ ks) i j s h = (h.0, w i k s h.0 h.1, along_weaken R Q w ks k j h.0 h.2)

-- some list of numbers leads from i to j, and the numbers between them are below k
abbrev pub Through : (ℕ → ℕ → Type 0) → ℕ → ℕ → ℕ → Type 0
Through R zero i j = (i ≡ j) ⊎ R i j
Through R (suc k) i j = Through R k i j ⊎ (Through R k i k × Through R k k j)

-- some list of numbers below n leads from i to j
abbrev pub Leads : ℕ → (ℕ → ℕ → Type 0) → ℕ → ℕ → Type 0
Leads n R i j = (ks : List ℕ) × Along (λ k. k < n) R i ks j

module _ (R : ℕ → ℕ → Type 0) where
  pub through_leads : (n k i j : ℕ) → k ≤ n → j < n → Through R k i j → Leads n R i j
  through_leads n zero i j le lj h = ⊎_elim (λ e. ([], e)) (λ r. (j ∷ [], (lj, r, refl))) h
  through_leads n (suc k) i j le lj h =
      ⊎_elim
      (λ p. through_leads n k i j (omega arith) lj p)
      (λ q.
      let a = through_leads n k i k (omega arith) (omega arith) q.0 in
      let b = through_leads n k k j (omega arith) lj q.1 in
      (a.0 ++ b.0, along_append (λ m. m < n) R a.0 b.0 i k j a.1 b.1))
      h

  none_through : (k i j : ℕ) → (i ≡ j) ⊎ R i j → Through R k i j
  none_through zero i j h = h
  none_through (suc k) i j h = inl (none_through k i j h)

  -- a step to a number below k, followed by a path through numbers below k
  step_through : (k i m j : ℕ) → m < k → R i m → Through R k m j → Through R k i j
  step_through zero i m j lt r h = absurd (omega arith)
  step_through (suc k) i m j lt r h =
      ⊎_elim
      (λ l. ⊎_elim (λ p. inl (step_through k i m j l r p)) (λ q. inr (step_through k i m k l r q.0, q.1)) h)
      (λ e.
      let here : Through R k i k = none_through k i k (inr (subst (R i) e r)) in
      let rest : Through R (suc k) k j = subst (λ z. Through R (suc k) z j) e h in
      ⊎_elim (λ p. inr (here, p)) (λ q. inr (here, q.1)) rest)
      (cases m k lt)
    where
      cases : (m k : ℕ) → m < suc k → (m < k) ⊎ (m ≡ k)
      cases m k lt = grind arith

  pub leads_through : (n : ℕ) (ks : List ℕ) (i j : ℕ) → Along (λ k. k < n) R i ks j → Through R n i j
  leads_through n [] i j h = none_through n i j (inl h)
  leads_through n (k ∷ ks) i j h = step_through n i k j h.0 h.1 (leads_through n ks k j h.2)

  -- the last of Warshall's steps gives the closure
  pub through_leads_same : (n i j : ℕ) → j < n → Through R n i j ↔ Leads n R i j
  through_leads_same n i j lj = ((λ h. through_leads n n i j (omega arith) lj h), (λ h. leads_through n h.0 i j h.1))

  -- step k does not change column k and row k
  pub through_column : (k i : ℕ) → Through R (suc k) i k → Through R k i k
  through_column k i h = ⊎_elim (λ p. p) (λ q. q.0) h

  pub through_row : (k j : ℕ) → Through R (suc k) k j → Through R k k j
  through_row k j h = ⊎_elim (λ p. p) (λ q. q.1) h

  -- So the step can be done in place: if each pair has its value from before or after the step, the update of a pair
  -- gives its value after the step.
  pub through_in_place : (M : ℕ → ℕ → Type 0) (n k : ℕ) → k < n → ((i j : ℕ) → i < n → j < n → Through R k i j → M i j) → ((i j : ℕ) → i < n → j < n → M i j → Through R (suc k) i j) → (i j : ℕ) → i < n → j < n → (M i j ⊎ (M i k × M k j)) ↔ Through R (suc k) i j
  through_in_place M n k lk before after i j li lj = (
    (λ h. ⊎_elim (λ p. after i j li lj p) (λ q. inr (through_column k i (after i k li lk q.0), through_row k j (after k j lk lj q.1))) h),
    (λ h. ⊎_elim (λ p. inl (before i j li lj p)) (λ q. inr (before i k li lk q.0, before k j lk lj q.1)) h),
  )

-- the same steps on a relation that a Boolean function decides
module _ (r : ℕ → ℕ → Bool) where
  pub through_now_through : (k i j : ℕ) → IsTrue (warshall r k i j) → Through (λ m l. IsTrue (r m l)) k i j
  through_now_through zero i j h = ⊎_elim (λ e. inl (eqb-true i j e)) inr (or_cases (eqb i j) (r i j) h)
  through_now_through (suc k) i j h =
      ⊎_elim
      (λ p. inl (through_now_through k i j p))
      (λ q. let b = and_parts (warshall r k i k) (warshall r k k j) q in inr (through_now_through k i k b.0, through_now_through k k j b.1))
      (or_cases (warshall r k i j) _ h)

  pub through_through_now : (k i j : ℕ) → Through (λ m l. IsTrue (r m l)) k i j → IsTrue (warshall r k i j)
  through_through_now zero i j h = ⊎_elim (λ e. or_left (eqb i j) (r i j) (eq-eqb i j e)) (λ q. or_right (eqb i j) (r i j) q) h
  through_through_now (suc k) i j h =
      ⊎_elim
      (λ p. or_left (warshall r k i j) _ (through_through_now k i j p))
      (λ q. or_right (warshall r k i j) _ (and_from (warshall r k i k) (warshall r k k j) (through_through_now k i k q.0) (through_through_now k k j q.1)))
      h

-- if the Boolean function decides the relation, its steps decide whether some list leads from i to j
pub through_now_leads : (n : ℕ) (r : ℕ → ℕ → Bool) (R : ℕ → ℕ → Type 0) → ((i j : ℕ) → i < n → j < n → IsTrue (r i j) ↔ R i j) → (i j : ℕ) → i < n → j < n → IsTrue (warshall r n i j) ↔ Leads n R i j
through_now_leads n r R same i j li lj = (
  (λ h.
      let p = through_leads (λ m l. IsTrue (r m l)) n n i j (omega arith) lj (through_now_through r n i j h) in
      (p.0, along_weaken (λ k. k < n) (λ m l. IsTrue (r m l)) R (λ k l sk sl x. (same k l sk sl).0 x) p.0 i j li p.1)),
  (λ h. through_through_now r n i j (leads_through (λ m l. IsTrue (r m l)) n h.0 i j (along_weaken (λ k. k < n) R (λ m l. IsTrue (r m l)) (λ k l sk sl x. (same k l sk sl).1 x) h.0 i j li h.1))),
)
