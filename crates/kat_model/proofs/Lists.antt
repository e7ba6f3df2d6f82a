-- Members of lists, and of the lists of next terms.
use Rattle.std.proofs.Common.{◌≡◌, ℕ, ◌⊎◌, inl, inr, ⊎_elim, List, [], ◌∷◌, ◌++◌, map, refl, sym, ap, ◌∙◌, subst, Bool, true, false, cond, eqb}
use Rattle.std.specs.List.{list_any, list_all, flat_map}
use Rattle.std.proofs.lemmas.Bool.{false≢true, eqb-true, eq-eqb, or_cases, or_left, or_right, and_parts, and_from}
use Rattle.kat_model.specs.Trees.{Term, one, act, product}
use Rattle.kat_model.specs.Members.{Has, SameMembers, HasNoDoubles}
use Rattle.kat_model.specs.Steps.{Atom, dot, out, next}

module _ {X : Type 0} where
  pub has_left : (xs ys : List X) (x : X) → Has xs x → Has (xs ++ ys) x
  has_left [] ys x h = absurd h
  has_left (y ∷ xs) ys x h = ⊎_elim inl (λ k. inr (has_left xs ys x k)) h

  pub has_right : (xs ys : List X) (x : X) → Has ys x → Has (xs ++ ys) x
  has_right [] ys x h = h
  has_right (y ∷ xs) ys x h = inr (has_right xs ys x h)

  pub has_append : (xs ys : List X) (x : X) → Has (xs ++ ys) x → Has xs x ⊎ Has ys x
  has_append [] ys x h = inr h
  has_append (y ∷ xs) ys x h = ⊎_elim (λ e. inl (inl e)) (λ k. ⊎_elim (λ a. inl (inr a)) inr (has_append xs ys x k)) h

  -- if `list_any` is true, some member passes the test
  pub has_any : (p : X → Bool) (xs : List X) → list_any p xs ≡ true → (x : X) × Has xs x × (p x ≡ true)
  has_any p [] h = absurd (false≢true h)
  has_any p (y ∷ xs) h =
      ⊎_elim (λ t. (y, inl refl, t)) (λ k. let r = has_any p xs k in (r.0, inr r.1, r.2)) (or_cases (p y) (list_any p xs) h)

  pub any_has : (p : X → Bool) (xs : List X) (x : X) → Has xs x → p x ≡ true → list_any p xs ≡ true
  any_has p [] x h t = absurd h
  any_has p (y ∷ xs) x h t =
      ⊎_elim (λ e. or_left (p y) (list_any p xs) (ap p e ∙ t)) (λ k. or_right (p y) (list_any p xs) (any_has p xs x k t)) h

  -- `list_all` is true exactly when each member passes the test
  pub has_all : (p : X → Bool) (xs : List X) → list_all p xs ≡ true → (x : X) → Has xs x → p x ≡ true
  has_all p [] t x h = absurd h
  has_all p (y ∷ xs) t x h =
      let both = and_parts (p y) (list_all p xs) t in
      ⊎_elim (λ e. ap p (sym e) ∙ both.0) (has_all p xs both.1 x) h

  pub all_has : (p : X → Bool) (xs : List X) → ((x : X) → Has xs x → p x ≡ true) → list_all p xs ≡ true
  all_has p [] each = refl
  all_has p (y ∷ xs) each = and_from (p y) (list_all p xs) (each y (inl refl)) (all_has p xs (λ x h. each x (inr h)))

  pub has_at : (xs : List X) (y : X) (ys : List X) → Has (xs ++ y ∷ ys) y
  has_at xs y ys = has_right xs (y ∷ ys) y (inl refl)

  pub has_pushed : (xs : List X) (x y : X) → Has (xs ++ x ∷ []) y → Has xs y ⊎ (x ≡ y)
  has_pushed xs x y h = ⊎_elim inl (λ k. ⊎_elim inr absurd k) (has_append xs (x ∷ []) y h)

  pub no_doubles_pushed : (xs : List X) (x : X) → HasNoDoubles xs → (Has xs x → ⊥) → HasNoDoubles (xs ++ x ∷ [])
  no_doubles_pushed [] x none lacks = ((λ h. h), tt)
  no_doubles_pushed (y ∷ xs) x none lacks = (
    (λ h. ⊎_elim none.0 (λ e. lacks (inl (sym e))) (has_pushed xs x y h)),
    no_doubles_pushed xs x none.1 (λ h. lacks (inr h)),
  )

  -- in a list without doubles a member does not occur earlier
  pub no_earlier : (xs : List X) (y : X) (ys : List X) → HasNoDoubles (xs ++ y ∷ ys) → Has xs y → ⊥
  no_earlier [] y ys none h = h
  no_earlier (x ∷ xs) y ys none h =
      ⊎_elim (λ e. none.0 (subst (λ z. Has (xs ++ y ∷ ys) z) (sym e) (has_at xs y ys))) (no_earlier xs y ys none.1) h

  pub same_members_sym : (xs ys : List X) → SameMembers xs ys → SameMembers ys xs
  same_members_sym xs ys s x = ((s x).1, (s x).0)

  pub same_members_trans : (xs ys zs : List X) → SameMembers xs ys → SameMembers ys zs → SameMembers xs zs
  same_members_trans xs ys zs s t x = ((λ h. (t x).0 ((s x).0 h)), (λ h. (s x).1 ((t x).1 h)))

module _ {X Y : Type 0} where
  pub has_map : (f : X → Y) (xs : List X) (y : Y) → Has (map f xs) y → (x : X) × Has xs x × (f x ≡ y)
  has_map f [] y h = absurd h
  has_map f (x ∷ xs) y h = ⊎_elim (λ e. (x, inl refl, e)) (λ k. let r = has_map f xs y k in (r.0, inr r.1, r.2)) h

  pub map_has : (f : X → Y) (xs : List X) (x : X) → Has xs x → Has (map f xs) (f x)
  map_has f [] x h = absurd h
  map_has f (y ∷ xs) x h = ⊎_elim (λ e. inl (ap f e)) (λ k. inr (map_has f xs x k)) h

  pub has_flat_map : (f : X → List Y) (xs : List X) (y : Y) → Has (flat_map f xs) y → (x : X) × Has xs x × Has (f x) y
  has_flat_map f [] y h = absurd h
  has_flat_map f (x ∷ xs) y h =
      ⊎_elim (λ k. (x, inl refl, k)) (λ k. let r = has_flat_map f xs y k in (r.0, inr r.1, r.2)) (has_append (f x) (flat_map f xs) y h)

  pub flat_map_has : (f : X → List Y) (xs : List X) (x : X) (y : Y) → Has xs x → Has (f x) y → Has (flat_map f xs) y
  flat_map_has f [] x y h k = absurd h
  flat_map_has f (z ∷ xs) x y h k =
      ⊎_elim
      (λ e. has_left (f z) (flat_map f xs) y (subst (λ w. Has (f w) y) (sym e) k))
      (λ l. has_right (f z) (flat_map f xs) y (flat_map_has f xs x y l k))
      h

-- the next terms of an action, and of a product
module _ (atom : Atom) (a : ℕ) where
  pub has_next_act : (b : ℕ) (x : Term) → Has (next (act b) atom a) x → (a ≡ b) × (one ≡ x)
  has_next_act b x h = go (eqb a b) refl h
    where
      go : (c : Bool) → eqb a b ≡ c → Has (cond c (one ∷ []) []) x → (a ≡ b) × (one ≡ x)
      go true e k = ⊎_elim (λ s. (eqb-true a b e, s)) absurd k
      go false e k = absurd k

  pub next_act_has : (b : ℕ) → a ≡ b → Has (next (act b) atom a) one
  next_act_has b e = rw (eq-eqb a b e) (inl refl)

  pub has_next_product : (e f x : Term) → Has (next (product e f) atom a) x → ((y : Term) × Has (next e atom a) y × (dot y f ≡ x)) ⊎ ((out e atom ≡ true) × Has (next f atom a) x)
  has_next_product e f x h =
      ⊎_elim (λ p. inl (has_map (λ y. dot y f) (next e atom a) x p)) (λ q. inr (go (out e atom) refl q)) (has_append (map (λ y. dot y f) (next e atom a)) _ x h)
    where
      go : (c : Bool) → out e atom ≡ c → Has (cond c (next f atom a) []) x → (out e atom ≡ true) × Has (next f atom a) x
      go true o k = (o, k)
      go false o k = absurd k

  pub next_product_first : (e f y : Term) → Has (next e atom a) y → Has (next (product e f) atom a) (dot y f)
  next_product_first e f y h = has_left (map (λ x. dot x f) (next e atom a)) _ (dot y f) (map_has (λ x. dot x f) (next e atom a) y h)

  pub next_product_second : (e f x : Term) → out e atom ≡ true → Has (next f atom a) x → Has (next (product e f) atom a) x
  next_product_second e f x o h = has_right (map (λ y. dot y f) (next e atom a)) _ x (rw o h)
