-- The entries of a table after an insert.
use Rattle.std.proofs.Common.{◌≡◌, ◌⊎◌, inl, inr, ⊎_elim, List, [], ◌∷◌, Bool, true, false, cond, Some, refl, sym, ap, ◌∙◌}
use Rattle.std.specs.Map.{lookup}
use Rattle.indexmap.specs.IndexMap.{insert_entry}
use Rattle.kat_model.specs.Members.{Has}

module _ {K V : Type 0} (eq : K → K → Bool) (same : (x y : K) → eq x y ≡ true → x ≡ y) (k : K) (v : V) where
  -- an entry after the insert is an old entry or the new one
  pub insert_entry_has : (es : List (K × V)) (x : K × V) → Has (insert_entry eq es k v) x → Has es x ⊎ (x ≡ (k, v))
  insert_entry_has [] x h = ⊎_elim (λ e. inr (sym e)) absurd h
  insert_entry_has (e ∷ es) x h = by (eq k e.0) refl (insert_entry_has es x) h
    where
      by : (b : Bool) → eq k e.0 ≡ b → (Has (insert_entry eq es k v) x → Has es x ⊎ (x ≡ (k, v)))
          → Has (cond b ((e.0, v) ∷ es) (e ∷ insert_entry eq es k v)) x → Has (e ∷ es) x ⊎ (x ≡ (k, v))
      by true p earlier h = ⊎_elim (λ q. inr (sym q ∙ ap (λ z. (z, v)) (sym (same k e.0 p)))) (λ q. inl (inr q)) h
      by false p earlier h = ⊎_elim (λ q. inl (inl q)) (λ q. ⊎_elim (λ r. inl (inr r)) inr (earlier q)) h

  pub has_insert_entry : (es : List (K × V)) → Has (insert_entry eq es k v) (k, v)
  has_insert_entry [] = inl refl
  has_insert_entry (e ∷ es) = by (eq k e.0) refl (has_insert_entry es)
    where
      by : (b : Bool) → eq k e.0 ≡ b → Has (insert_entry eq es k v) (k, v) → Has (cond b ((e.0, v) ∷ es) (e ∷ insert_entry eq es k v)) (k, v)
      by true p earlier = inl (ap (λ z. (z, v)) (sym (same k e.0 p)))
      by false p earlier = inr earlier

  -- an old entry remains, or it had the inserted key
  pub has_kept : (es : List (K × V)) (x : K × V) → Has es x → Has (insert_entry eq es k v) x ⊎ ((x.0 ≡ k) × (lookup (eq k) es ≡ Some x.1))
  has_kept [] x h = absurd h
  has_kept (e ∷ es) x h = by (eq k e.0) refl (has_kept es x) h
    where
      by : (b : Bool) → eq k e.0 ≡ b → (Has es x → Has (insert_entry eq es k v) x ⊎ ((x.0 ≡ k) × (lookup (eq k) es ≡ Some x.1)))
          → Has (e ∷ es) x → Has (cond b ((e.0, v) ∷ es) (e ∷ insert_entry eq es k v)) x ⊎ ((x.0 ≡ k) × (cond b (Some e.1) (lookup (eq k) es) ≡ Some x.1))
      by true p earlier h = ⊎_elim (λ q. inr (sym (same k e.0 p ∙ ap (λ (z : K × V). z.0) q), ap (λ (z : K × V). Some z.1) q)) (λ q. inl (inr q)) h
      by false p earlier h = ⊎_elim (λ q. inl (inl q)) (λ q. ⊎_elim (λ r. inl (inr r)) inr (earlier q)) h

-- a lookup returns an entry of the table
pub lookup_has : {K V : Type 0} (eq : K → K → Bool) → ((x y : K) → eq x y ≡ true → x ≡ y) → (k : K) (es : List (K × V)) (w : V) → lookup (eq k) es ≡ Some w → Has es (k, w)
lookup_has eq same k [] w h = absurd cc
lookup_has {K} {V} eq same k (e ∷ es) w h = by (eq k e.0) refl (lookup_has eq same k es w) h
  where
    by : (b : Bool) → eq k e.0 ≡ b → (lookup (eq k) es ≡ Some w → Has es (k, w)) → cond b (Some e.1) (lookup (eq k) es) ≡ Some w → Has (e ∷ es) (k, w)
    by true p earlier h =
        let found : e.1 ≡ w = cc in
        inl (λ i. (sym (same k e.0 p) i, found i))
    by false p earlier h = inr (earlier h)
