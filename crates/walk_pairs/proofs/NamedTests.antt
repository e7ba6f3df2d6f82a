-- The tests that terms name, collected term by term, and sets of keys listed in order.
use Rattle.std.proofs.Common.{◌≡◌, ◌≤◌, ◌<◌, ◌+◌, inl, inr, ⊎_elim, ℕ, Bool, true, false, cond, nat_eq, List, [], ◌∷◌, ◌++◌, length, get_or, take, drop, map, slice_get, Some, refl, sym, ap, ◌∙◌, subst, append_assoc, append-nil}
use Rattle.std.proofs.lemmas.Bool.{eqb-true, or_cases}
use Rattle.std.proofs.lemmas.List.{take_all, drop_more, drop_all}
use Rattle.std.specs.List.{list_any}
use Rattle.indexmap.specs.IndexSet.{insert_key}
use Rattle.kat_model.specs.Members.{Has}
use Rattle.kat_model.proofs.Lists.{has_left, has_right, has_append}
use Rattle.term_nodes.specs.NumberSets.{are_ascending}
use Rattle.term_nodes.specs.NodeLists.{NodeParts}
use Rattle.term_nodes.specs.declared.TermNode.{TermNode}
use Rattle.partial_derivs.proofs.Items.{take_item}
use Rattle.term_nodes.specs.Nodes.{tests_of_term}
use Rattle.walk_pairs.specs.Needed.{NamesTests, AddsAll}
use Rattle.certificate.proofs.Ascending.{ascending_seam}
use Rattle.std.proofs.lemmas.Option.{same_Some}

pub names_first : (store : NodeParts) (terms ks : List ℕ) → ks ≡ [] → NamesTests store (take 0 terms) ks
names_first store terms ks e x = ((λ h. absurd (subst (λ l. Has l x) e h)), (λ r. absurd r.member))

pub names_next : (store : NodeParts) (terms ks new : List ℕ) (i term : ℕ) (shape : TermNode ℕ ℕ) → i < length terms → term ≡ get_or terms i term → slice_get store.terms term ≡ Some shape → AddsAll ks new (tests_of_term shape)
    → NamesTests store (take i terms) ks → NamesTests store (take (i + 1) terms) new
names_next store terms ks new i term shape lt is at adds before =
    subst (λ l. NamesTests store l new) (sym (take_item terms i term lt is)) next
  where
    next : NamesTests store (take i terms ++ term ∷ []) new
    next x = (
      (λ h. ⊎_elim
          (λ o. let r = (before x).0 o in record { term = r.term; shape = r.shape; member = has_left (take i terms) (term ∷ []) r.term r.member; at = r.at; names = r.names })
          (λ n. record { term = term; shape = shape; member = has_right (take i terms) (term ∷ []) term (inl refl); at = at; names = n })
          ((adds x).0 h)),
      (λ r. ⊎_elim
          (λ o. (adds x).1 (inl ((before x).1 (record { term = r.term; shape = r.shape; member = o; at = r.at; names = r.names }))))
          (λ m. ⊎_elim
          (λ s. let same : r.shape ≡ shape = same_Some r.shape shape (sym r.at ∙ ap (slice_get store.terms) (sym s) ∙ at) in (adds x).1 (inr (subst (λ (z : TermNode ℕ ℕ). Has (tests_of_term z) x) same r.names)))
          absurd m)
          (has_append (take i terms) (term ∷ []) r.term r.member)),
    )

pub names_last : (store : NodeParts) (terms all ks : List ℕ) (i : ℕ) → terms ≡ all → length terms ≤ i → NamesTests store (take i terms) ks → NamesTests store all ks
names_last store terms all ks i same le names = subst (λ l. NamesTests store l ks) (take_all i terms le ∙ same) names

-- ---- keys in order of insertion

none_there : (k : ℕ) (ks : List ℕ) → (Has ks k → ⊥) → list_any (nat_eq k) ks ≡ false
none_there k ks f = go (list_any (nat_eq k) ks) refl
  where
    there : (js : List ℕ) → list_any (nat_eq k) js ≡ true → Has js k
    there [] e = absurd cc
    there (j ∷ js) e = ⊎_elim (λ s. inl (sym (eqb-true k j s))) (λ r. inr (there js r)) (or_cases (nat_eq k j) (list_any (nat_eq k) js) e)

    go : (b : Bool) → list_any (nat_eq k) ks ≡ b → b ≡ false
    go true e = absurd (f (there ks e))
    go false e = refl

-- if the whole list ascends, inserting the next key appends it
pub listed_next : (all ks rest new : List ℕ) (k : ℕ) → are_ascending all ≡ true → ks ++ k ∷ rest ≡ all → new ≡ insert_key nat_eq ks k → new ++ rest ≡ all
listed_next all ks rest new k up before inserted =
    let ascends : are_ascending (ks ++ k ∷ rest) ≡ true = subst (λ l. are_ascending l ≡ true) (sym before) up in
    let absent : list_any (nat_eq k) ks ≡ false = none_there k ks (ascending_seam ks rest k ascends) in
    let behind : new ≡ ks ++ k ∷ [] = inserted ∙ ap (λ b. cond b ks (ks ++ k ∷ [])) absent in
    ap (λ l. l ++ rest) behind ∙ append_assoc ks (k ∷ []) rest ∙ before

-- ---- lists mapped element by element

pub mapped_next : {X Y : Type 0} (f : X → Y) (ids : List X) (i : ℕ) (x : X) (y : Y) (ys new all : List Y) → i < length ids → x ≡ get_or ids i x → y ≡ f x → new ≡ ys ++ y ∷ [] → ys ++ map f (drop i ids) ≡ all → new ++ map f (drop (i + 1) ids) ≡ all
mapped_next f ids i x y ys new all lt is own pushed before =
    ap (λ l. l ++ map f (drop (i + 1) ids)) pushed
    ∙ append_assoc ys (y ∷ []) (map f (drop (i + 1) ids))
    ∙ ap (λ z. ys ++ z ∷ map f (drop (i + 1) ids)) (own ∙ ap f is)
    ∙ ap (λ l. ys ++ map f l) (sym (drop_more ids i x lt))
    ∙ before

pub mapped_last : {X Y : Type 0} (f : X → Y) (ids : List X) (i : ℕ) (ys all : List Y) → length ids ≤ i → ys ++ map f (drop i ids) ≡ all → ys ≡ all
mapped_last f ids i ys all le before = sym (append-nil ys) ∙ ap (λ l. ys ++ map f l) (sym (drop_all i ids le)) ∙ before
