-- The moves of a string are followed one by one.
use Rattle.std.proofs.Common.{◌≡◌, ◌<◌, ◌+◌, ℕ, List, ◌∷◌, length, get_or, drop, slice_get, Some, None, Bool, true, false, cond, ◌&&◌, sym, ap, ◌∙◌}
use Rattle.std.proofs.lemmas.List.{drop_more}
use Rattle.kat_model.specs.Stores.{modulus, Store}
use Rattle.kat_model.specs.Strings.{Move}
use Rattle.abstraction.specs.Abstracts.{AbstractParts}
use Rattle.store_trials.specs.Following.{has_values, store_after, followed_on, moves_followed}

module _ (a : AbstractParts) (ms : List Move) (k : ℕ) (v : Move) (s t : Store) (taken result : Bool) (lt : k < length ms) (is : v ≡ get_or ms k v)
    (takes : cond taken (Some t) None ≡ store_after (modulus a.width) (slice_get a.actions v.act) s) (so_far : moves_followed a (drop k ms) s ≡ result) where
  abbrev rest : Store → Bool
  rest u = moves_followed a (drop (k + 1) ms) u

  next : drop k ms ≡ v ∷ drop (k + 1) ms
  next = drop_more ms k v lt ∙ ap (λ (u : Move). u ∷ drop (k + 1) ms) (sym is)

  opened : followed_on a v rest (cond taken (Some t) None) ≡ result
  opened = ap (followed_on a v rest) takes ∙ sym (ap (λ (vs : List Move). moves_followed a vs s) next) ∙ so_far

  pub not_taken : taken ≡ false → false ≡ result
  not_taken e = ap (λ (b : Bool). followed_on a v rest (cond b (Some t) None)) (sym e) ∙ opened

  module _ (was : taken ≡ true) (found : Bool) (is_found : found ≡ has_values (modulus a.width) t a.tests v.atom) where
    at_store : (has_values (modulus a.width) t a.tests v.atom && rest t) ≡ result
    at_store = ap (λ (b : Bool). followed_on a v rest (cond b (Some t) None)) (sym was) ∙ opened

    pub not_there : found ≡ false → false ≡ result
    not_there e = ap (λ (b : Bool). b && rest t) (sym (sym is_found ∙ e)) ∙ at_store

    pub there : found ≡ true → moves_followed a (drop (k + 1) ms) t ≡ result
    there e = ap (λ (b : Bool). b && rest t) (sym (sym is_found ∙ e)) ∙ at_store
