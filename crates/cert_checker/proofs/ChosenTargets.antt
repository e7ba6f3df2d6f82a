-- The terms that are chosen at an atom, and the guard of a term.
use Rattle.std.proofs.Common.{◌≡◌, ℕ, inl, inr, ⊎_elim, List, [], ◌∷◌, refl, sym, subst, Bool, true, false, cond, Option, Some, None}
use Rattle.std.specs.BTreeMap.{is_at}
use Rattle.std.specs.Option.{option_map_or}
use Rattle.std.specs.Ordering.{nat_cmp}
use Rattle.std.proofs.lemmas.Map.Lookups.{exact_unsigned}
use Rattle.std.proofs.lemmas.Map.Views.{tells_apart}
use Rattle.kat_model.specs.Trees.{Term}
use Rattle.kat_model.specs.Members.{Has}
use Rattle.kat_model.specs.Steps.{Atom}
use Rattle.kat_model.proofs.Lists.{has_left, has_right, has_append}
use Rattle.cert_checker.specs.NodeTables.{TableParts, term_at, holds_at}
use Rattle.cert_checker.specs.Targets.{chosen, guard_of}

-- ---- the terms that are chosen at an atom

pub chosen_has : (t : TableParts) (es : List (ℕ × ℕ)) (atom : Atom) (e : ℕ × ℕ) → Has es e → holds_at t e.1 atom ≡ true → Has (chosen t es atom) (term_at t e.0)
chosen_has t [] atom e h k = absurd h
chosen_has t (d ∷ es) atom e h k =
    ⊎_elim
    (λ same. has_left (cond (holds_at t d.1 atom) (term_at t d.0 ∷ []) []) (chosen t es atom) (term_at t e.0) (first same))
    (λ rest. has_right (cond (holds_at t d.1 atom) (term_at t d.0 ∷ []) []) (chosen t es atom) (term_at t e.0) (chosen_has t es atom e rest k))
    h
  where
    first : d ≡ e → Has (cond (holds_at t d.1 atom) (term_at t d.0 ∷ []) []) (term_at t e.0)
    first same = subst (λ z. Has (cond (holds_at t z.1 atom) (term_at t z.0 ∷ []) []) (term_at t e.0)) (sym same) (rw k (inl refl))

pub has_chosen : (t : TableParts) (es : List (ℕ × ℕ)) (atom : Atom) (x : Term) → Has (chosen t es atom) x → (e : ℕ × ℕ) × Has es e × (holds_at t e.1 atom ≡ true) × (term_at t e.0 ≡ x)
has_chosen t [] atom x h = absurd h
has_chosen t (d ∷ es) atom x h =
    ⊎_elim
    (λ l. let f = first (holds_at t d.1 atom) refl l in (d, inl refl, f.0, f.1))
    (λ r. let f = has_chosen t es atom x r in (f.0, inr f.1, f.2, f.3))
    (has_append (cond (holds_at t d.1 atom) (term_at t d.0 ∷ []) []) (chosen t es atom) x h)
  where
    first : (b : Bool) → holds_at t d.1 atom ≡ b → Has (cond b (term_at t d.0 ∷ []) []) x → (holds_at t d.1 atom ≡ true) × (term_at t d.0 ≡ x)
    first true e k = ⊎_elim (λ s. (e, s)) absurd k
    first false e k = absurd k

-- ---- a term's guard

pub guard_member : (k : ℕ) (es : List (ℕ × ℕ)) (g : ℕ) → guard_of es k ≡ Some g → Has es (k, g)
guard_member k [] g e = absurd cc
guard_member k (d ∷ es) g e = go (is_at (nat_cmp k) d.0) refl (guard_member k es g) e
  where
    go : (b : Bool) → is_at (nat_cmp k) d.0 ≡ b → (guard_of es k ≡ Some g → Has es (k, g)) → cond b (Some d.1) (guard_of es k) ≡ Some g → Has (d ∷ es) (k, g)
    go true s rest f =
        let key : k ≡ d.0 = tells_apart exact_unsigned k d.0 s in
        let value : d.1 ≡ g = cc in
        inl (λ i. (sym key i, value i))
    go false s rest f = inr (rest f)

pub any_value : {X : Type 0} (p : X → Bool) (o : Option X) → option_map_or p o false ≡ true → (x : X) × (o ≡ Some x) × (p x ≡ true)
any_value p None e = absurd cc
any_value p (Some x) e = (x, refl, e)
