-- What a new name changes in a scope.
use Rattle.std.proofs.Common.{◌≡◌, ◌<◌, ◌≤◌, ◌+◌, ℕ, List, [], ◌∷◌, ◌++◌, length, map, Some, false, sym, ap, ◌∙◌, subst, ◌⊎◌, inl, inr, ⊎_elim, arith, length-append}
use Rattle.std.specs.Ordering.{nat_cmp}
use Rattle.std.specs.Cmp.Lexicographic.{slice_cmp}
use Rattle.std.specs.FinMap.{get, insert, get-empty}
use Rattle.std.proofs.lemmas.Bool.{true≢false}
use Rattle.std.proofs.lemmas.Option.{none-some, same_Some}
use Rattle.std.proofs.lemmas.List.{length-map, map_push}
use Rattle.text_parser.specs.declared.definition.Definition.{Definition as Defined}
use Rattle.text_parser.specs.declared.meaning.Meaning.{Meaning}
use Rattle.text_parser.specs.declared.meaning.Meaning.TheVariants.{Term}
use Rattle.text_parser.specs.ScopeParts.{Definition, Meanings, ScopeParts, Means, IsUnnamed, IsIdentifier, IsWellFormed, empty_scope, is_term, declared, defined}
use Rattle.text_parser.specs.Definitions.{definition_of}
use Rattle.text_parser.proofs.Inverse.{insert_extends}

pub world_empty : IsWellFormed empty_scope
world_empty = record {
  identifiers = λ name m e. absurd (none-some m (sym (get-empty (slice_cmp nat_cmp) name) ∙ e));
  in_range = λ name i e. absurd (none-some (Term i) (sym (get-empty (slice_cmp nat_cmp) name) ∙ e));
  one_name = λ name other m e h. absurd (none-some m (sym (get-empty (slice_cmp nat_cmp) name) ∙ e));
}

-- a scope with an additional name and the terms `terms`
module _ (w : ScopeParts) (name : List ℕ) (m : Meaning) (terms : List Definition) where
  -- a name of the new scope is the new name with its meaning, or a name of the old scope
  abbrev new : ScopeParts
  new = record { meanings = insert w.meanings name m; terms = terms }

  new_or_old : (a : List ℕ) (x : Meaning) → Means new a x → ((a ≡ name) × (m ≡ x)) ⊎ Means w a x
  new_or_old a x e =
      let more = insert_extends w.meanings name m in
      ⊎_elim
      (λ (p : a ≡ name). inl (p, same_Some m x (sym more.here ∙ ap (get (insert w.meanings name m)) (sym p) ∙ e)))
      (λ (q : get (insert w.meanings name m) a ≡ get w.meanings a). inr (sym q ∙ e))
      (more.others a)

  pub world_more : IsWellFormed w → IsIdentifier name → IsUnnamed w m → length w.terms ≤ length terms → ((i : ℕ) → m ≡ Term i → i < length terms) → IsWellFormed (record { meanings = insert w.meanings name m; terms = terms })
  world_more old identifier unnamed longer inside = record {
    identifiers = λ a x e. ⊎_elim (λ p. subst IsIdentifier (sym p.0) identifier) (λ h. old.identifiers a x h) (new_or_old a x e);
    in_range = λ a i e. ⊎_elim (λ p. inside i p.1) (λ h. let below : i < length w.terms = old.in_range a i h in omega arith) (new_or_old a (Term i) e);
    one_name = λ a b x e h.
        ⊎_elim
        (λ p. ⊎_elim (λ q. q.0 ∙ sym p.0) (λ k. absurd (unnamed b (k ∙ ap Some (sym p.1)))) (new_or_old b x h))
        (λ j. ⊎_elim (λ q. absurd (unnamed a (j ∙ ap Some (sym q.1)))) (λ k. old.one_name a b x j k) (new_or_old b x h))
        (new_or_old a x e);
  }

pub world_declared : (w : ScopeParts) (name : List ℕ) (m : Meaning) → IsWellFormed w → IsIdentifier name → is_term m ≡ false → IsUnnamed w m → IsWellFormed (declared w name m)
world_declared w name m old identifier no_term unnamed =
    world_more w name m w.terms old identifier unnamed (omega arith) (λ i e. absurd (true≢false (ap is_term (sym e) ∙ no_term)))

-- no name denotes the next term
pub next_unnamed : (w : ScopeParts) → IsWellFormed w → IsUnnamed w (Term (length w.terms))
next_unnamed w world name e = let below : length w.terms < length w.terms = world.in_range name (length w.terms) e in omega arith

term_number : (i k : ℕ) → Term i ≡ Term k → i ≡ k
term_number i k e = cc

pub world_defined : (w : ScopeParts) (name : List ℕ) (d : Definition) → IsWellFormed w → IsIdentifier name → IsWellFormed (defined w name d)
world_defined w name d old identifier =
    let longer : length (w.terms ++ d ∷ []) ≡ length w.terms + 1 = length-append w.terms (d ∷ []) in
    world_more w name (Term (length w.terms)) (w.terms ++ d ∷ []) old identifier (next_unnamed w old) (omega arith)
    (λ i e. let same : length w.terms ≡ i = term_number (length w.terms) i e in omega arith)

-- the same for the definitions that the program stores
pub world_pushed : (names : Meanings) (ds : List Defined) (name : List ℕ) (d : Defined) (n : ℕ) → n ≡ length ds → IsWellFormed (record { meanings = names; terms = map definition_of ds }) → IsIdentifier name
    → IsWellFormed (record { meanings = insert names name (Term n); terms = map definition_of (ds ++ d ∷ []) })
world_pushed names ds name d n count old identifier =
    let number : n ≡ length (map definition_of ds) = count ∙ sym (length-map ds definition_of) in
    rw (number, map_push definition_of ds d) (world_defined (record { meanings = names; terms = map definition_of ds }) name (definition_of d) old identifier)

pub defined_pushed : (names : Meanings) (ds : List Defined) (name : List ℕ) (d : Defined) (n : ℕ) (w : ScopeParts) → n ≡ length ds → record { meanings = names; terms = map definition_of ds } ≡ w
    → record { meanings = insert names name (Term n); terms = map definition_of (ds ++ d ∷ []) } ≡ defined w name (definition_of d)
defined_pushed names ds name d n w count same =
    let number : n ≡ length (map definition_of ds) = count ∙ sym (length-map ds definition_of) in
    rw (number, map_push definition_of ds d) (ap (λ (v : ScopeParts). defined v name (definition_of d)) same)

pub next_pushed : (names : Meanings) (ds : List Defined) (n : ℕ) → n ≡ length ds → IsWellFormed (record { meanings = names; terms = map definition_of ds }) → IsUnnamed (record { meanings = names; terms = map definition_of ds }) (Term n)
next_pushed names ds n count world =
    let number : n ≡ length (map definition_of ds) = count ∙ sym (length-map ds definition_of) in
    subst (λ (k : ℕ). IsUnnamed (record { meanings = names; terms = map definition_of ds }) (Term k)) (sym number) (next_unnamed (record { meanings = names; terms = map definition_of ds }) world)
