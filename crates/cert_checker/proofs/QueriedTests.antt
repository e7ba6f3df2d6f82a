-- How tests are collected with all their parts, the greatest first, and which tests a question names.
use Rattle.std.proofs.Common.{◌≡◌, ◌<◌, ℕ, ◌⊎◌, inl, inr, ⊎_elim, true, List, [], ◌∷◌, ◌++◌, map, ◌↔◌, slice_get, Some, refl, sym, ap, ◌∙◌, subst, arith, zero, suc, take, reverse}
use Rattle.std.specs.List.{All, list_any}
use Rattle.std.specs.Ordering.{nat_cmp, eq_by_cmp}
use Rattle.std.specs.Set.{IsUnion}
use Rattle.std.specs.BTreeMap.{is_at}
use Rattle.std.specs.declared.cmp.Ordering.TheVariants.{Less}
use Rattle.std.proofs.lemmas.Bool.{or_left, or_right, or_cases}
use Rattle.std.proofs.lemmas.Cmp.{ranked, nat_cmp_total}
use Rattle.std.proofs.lemmas.List.{reverse-append}
use Rattle.std.proofs.lemmas.Option.{same_Some}
use Rattle.std.proofs.lemmas.Map.Lookups.{exact_unsigned}
use Rattle.kat_model.specs.Members.{Has, IsSubset}
use Rattle.kat_model.proofs.Lists.{has_right, has_append, has_map, map_has}
use Rattle.kat_model.proofs.SetKeys.{found_has}
use Rattle.kat_model.proofs.NumberKeys.{all_of, Adds, bound_of, bound_above, bound_least}
use Rattle.term_nodes.specs.declared.TestNode.{TestNode}
use Rattle.term_nodes.specs.Nodes.{test_parts}
use Rattle.term_nodes.proofs.Parts.{IsTestOver-part}
use Rattle.cert_checker.specs.NodeTables.{TableParts, AreTables, IsTest}
use Rattle.cert_checker.specs.Cases.{AreQueried}

-- ---- collecting tests

-- some tests are pending; the parts of a processed test are pending or come before it in `all`, whose first element is
-- the latest
pub record IsQuerying (t : TableParts) (old pending all : List ℕ) : Type 0 where
  pub pending_there : (k : ℕ) → Has pending k → IsTest t k
  pub parts : (i k : ℕ) → slice_get all i ≡ Some k → IsTest t k × ((node : TestNode ℕ) → slice_get t.tests k ≡ Some node → (j : ℕ) → Has (test_parts node) j → Has pending j ⊎ Has (take i all) j)
  pub kept : (k : ℕ) → Has old k → Has pending k ⊎ Has all k

pub querying_starts : (t : TableParts) (old none : List ℕ) → ((k : ℕ) → Has old k → IsTest t k) → none ≡ [] → IsQuerying t old old (reverse none)
querying_starts t old none are empty = subst (λ l. IsQuerying t old old (reverse l)) (sym empty) (record {
  pending_there = are;
  parts = λ i k at. absurd cc;
  kept = λ k h. inl h;
})

pub querying_ends : (t : TableParts) (old pending all queried : List ℕ) → pending ≡ [] → queried ≡ all → IsQuerying t old pending all → AreQueried t queried × IsSubset old queried
querying_ends t old pending all queried empty same g = subst (λ l. AreQueried t l × IsSubset old l) (sym same) (
  (λ i k at. ((g.parts i k at).0, λ node f j p. ⊎_elim (none (take i all) j) (λ o. o) ((g.parts i k at).1 node f j p))),
  (λ k h. ⊎_elim (none all k) (λ o. o) (g.kept k h)),
)
  where
    none : (l : List ℕ) (j : ℕ) → Has pending j → Has l j
    none l j h = absurd (subst (λ l. Has l j) empty h)

module _ (t : TableParts) (old pending rest next items : List ℕ) (k : ℕ) (node : TestNode ℕ) (g : IsQuerying t old pending (reverse items)) (e : pending ≡ rest ++ k ∷ []) (less : All (λ q. nat_cmp q k ≡ Less) rest)
    (are : AreTables t) (at : slice_get t.tests k ≡ Some node) (adds : Adds rest next (test_parts node)) where
  taken : Has pending k
  taken = subst (λ l. Has l k) (sym e) (has_right rest (k ∷ []) k (inl refl))

  under : (i : ℕ) → Has next i → i < k
  under i h = ⊎_elim (λ o. ranked i k Less (sym (all_of (λ q. nat_cmp q k ≡ Less) rest less i o))) (IsTestOver-part k node (are.rules.tests_ordered k node at) i) ((adds i).0 h)

  -- a pending test remains pending or is now processed
  moved : (i : ℕ) (l : List ℕ) → Has pending i ⊎ Has l i → Has next i ⊎ Has (k ∷ l) i
  moved i l h =
      ⊎_elim
      (λ p. ⊎_elim (λ o. inl ((adds i).1 (inl o))) (λ s. ⊎_elim (λ is. inr (inl is)) absurd s) (has_append rest (k ∷ []) i (subst (λ m. Has m i) e p)))
      (λ r. inr (inr r))
      h

  parts_still : (i j : ℕ) → slice_get (k ∷ reverse items) i ≡ Some j → IsTest t j × ((n : TestNode ℕ) → slice_get t.tests j ≡ Some n → (x : ℕ) → Has (test_parts n) x → Has next x ⊎ Has (take i (k ∷ reverse items)) x)
  parts_still zero j f = let same : k ≡ j = same_Some k j f in
      (subst (IsTest t) same (g.pending_there k taken), λ n h x m. inl ((adds x).1 (inr (subst (λ (y : TestNode ℕ). Has (test_parts y) x) (same_Some n node (sym h ∙ ap (slice_get t.tests) (sym same) ∙ at)) m))))
  parts_still (suc i) j f = let was = g.parts i j f in (was.0, λ n h x m. moved x (take i (reverse items)) (was.1 n h x m))

  -- processing the greatest pending test adds its parts, which are smaller
  pub querying_goes_on : (new : List ℕ) → new ≡ items ++ k ∷ [] → IsQuerying t old next (reverse new)
  querying_goes_on new pushed = subst (IsQuerying t old next) (sym (ap reverse pushed ∙ reverse-append items (k ∷ []))) (record {
    pending_there = λ i h. let b = under i h in let c = g.pending_there k taken in omega (arith, b, c);
    parts = parts_still;
    kept = λ i h. moved i (reverse items) (g.kept i h);
  })

  -- and the bound of the pending tests decreases
  pub querying_falls : bound_of next < bound_of pending
  querying_falls =
      let l = bound_least next k under in
      let b = bound_above pending k taken in
      omega (arith, l, b)

-- ---- extended sets

-- an extended set has its old members and the added ones
extended_has : (old added new : List ℕ) → IsUnion (eq_by_cmp nat_cmp) old added new → (k : ℕ) → Has new k ↔ (Has old k ⊎ Has added k)
extended_has old added new e k = (
  (λ h. ⊎_elim (λ o. inl ((found old).0 o)) (λ a. inr ((found added).0 a)) (or_cases _ _ (sym (e k) ∙ (found new).1 h))),
  (λ h. (found new).0 (e k ∙ ⊎_elim (λ o. or_left _ _ ((found old).1 o)) (λ a. or_right _ _ ((found added).1 a)) h)),
)
  where
    found : (ks : List ℕ) → (list_any (is_at (nat_cmp k)) ks ≡ true) ↔ Has ks k
    found ks = found_has nat_cmp_total exact_unsigned k ks

-- ---- the tests that a question names

-- the guards of the entries
abbrev pub guards_of : List (ℕ × ℕ) → List ℕ
guards_of es = map (λ e. e.1) es

-- a set that is extended by the guards of the entries
pub guards_added : (old new : List ℕ) (es : List (ℕ × ℕ)) → IsUnion (eq_by_cmp nat_cmp) old (guards_of es) new → (k : ℕ) → Has new k ↔ (Has old k ⊎ ((e : ℕ × ℕ) × Has es e × (e.1 ≡ k)))
guards_added old new es made k =
    let has = extended_has old (guards_of es) new made k in (
      (λ h. ⊎_elim inl (λ m. inr (has_map (λ (e : ℕ × ℕ). e.1) es k m)) (has.0 h)),
      (λ h. has.1 (⊎_elim inl (λ w. inr (subst (Has (guards_of es)) w.2 (map_has (λ (e : ℕ × ℕ). e.1) es w.0 w.1))) h)),
    )
