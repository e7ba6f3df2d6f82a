-- Runs lead from stores to stores with equally many variables.
use Rattle.std.proofs.Common.{◌≡◌, ℕ, zero, suc, ◌+◌, ◌<◌, ◌⊎◌, inl, inr, List, [], ◌∷◌, ◌++◌, length, set, Bool, true, false, refl, sym, ap, ◌∙◌, subst, arith}
use Rattle.std.proofs.lemmas.List.{length-set}
use Rattle.kat_model.specs.Members.{Has}
use Rattle.kat_model.specs.Stores.{modulus, Store, IsStore, value}
use Rattle.kat_model.specs.declared.expression.Width.{Width}
use Rattle.linear_forms.proofs.StoredValues.{value_below}
use Rattle.while_lang.specs.Programs.{ProgTree, empty, skip_then, abort_then, assert_then, act_then, assign_then, branch_then, loop_then}
use Rattle.while_lang.specs.Runs.{condition, Chosen, Leaves, Turns, Goes}
use Rattle.while_lang.proofs.StoreValues.{set_is_store}

module _ (w : Width) where
  -- a store with equally many variables
  abbrev pub Keeps : Store → Store → Type 0
  Keeps s u = IsStore w u × (length u ≡ length s)

  kept_stays : (s u : Store) → IsStore w s → u ≡ s → Keeps s u
  kept_stays s u is stays = (subst (IsStore w) (sym stays) is, ap length stays)

  kept_then : (s u t : Store) → Keeps s u → Keeps u t → Keeps s t
  kept_then s u t first rest = (rest.0, rest.1 ∙ first.1)

  turns_kept : (b : Store → Bool) (p : ProgTree) → ((s : Store) (k : ℕ) (u : Store) → IsStore w s → Goes w p s k u → Keeps s u) →
      (n : ℕ) (s : Store) (k : ℕ) (u : Store) → IsStore w s → Turns n b (Goes w p) (Leaves b) s k u → Keeps s u
  turns_kept b p body zero s k u is (left, (none, stays)) = kept_stays s u is stays
  turns_kept b p body (suc n) s k u is (i, j, r, (l, on, goes, e), later, d) =
      let first = body s l r is goes in
      kept_then s r u first (turns_kept b p body n r j u first.0 later)

  chosen_kept : (x : Bool) (p q : ProgTree) (s : Store) (k : ℕ) (u : Store) → Chosen x (Goes w p s k u) (Goes w q s k u) → (Goes w p s k u → Keeps s u) → (Goes w q s k u → Keeps s u) → Keeps s u
  chosen_kept true p q s k u chosen first second = first chosen
  chosen_kept false p q s k u chosen first second = second chosen

  pub goes_kept : (p : ProgTree) (s : Store) (k : ℕ) (u : Store) → IsStore w s → Goes w p s k u → Keeps s u
  goes_kept empty s k u is (none, stays) = kept_stays s u is stays
  goes_kept (skip_then rest) s k u is goes = goes_kept rest s k u is goes
  goes_kept (abort_then rest) s k u is goes = elim goes [ ]
  goes_kept (assert_then b rest) s k u is (h, goes) = goes_kept rest s k u is goes
  goes_kept (act_then a rest) s k u is goes = elim goes [ ]
  goes_kept (assign_then x e rest) s k u is goes =
      let n = value w s e in
      kept_then s (set s x n) u (set_is_store w s x n is (value_below w s e is), length-set s x n)
      (goes_kept rest (set s x n) k u (set_is_store w s x n is (value_below w s e is)) goes)
  goes_kept (branch_then b p q rest) s k u is (i, j, r, chosen, goes, e) =
      let first = chosen_kept (condition w b s) p q s i r chosen (λ g. goes_kept p s i r is g) (λ g. goes_kept q s i r is g) in
      kept_then s r u first (goes_kept rest r j u first.0 goes)
  goes_kept (loop_then b p rest) s k u is (i, j, r, (n, turns), goes, e) =
      let first = turns_kept (condition w b) p (λ x l y h g. goes_kept p x l y h g) n s i r is turns in
      kept_then s r u first (goes_kept rest r j u first.0 goes)
