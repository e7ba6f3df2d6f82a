-- The store of a word is a store of the file: it has a number of the width for each variable of the file.
use Rattle.std.proofs.Common.{◌≡◌, ◌<◌, ◌⊎◌, ℕ, zero, suc, List, [], ◌∷◌, length, map, set, replicate, slice_get, codes, Bool, true, false, ◌&&◌, ◌==◌, cond, nat_lt, Option, None, Some, unwrap_or, refl, sym, ap, ◌∙◌, subst, inl, inr, ⊎_elim, lit<, ltb-true}
use Rattle.std.specs.Option.{option_map}
use Rattle.std.specs.List.{slice_split, before_first, after_first}
use Rattle.std.specs.Str.{bytes_eq}
use Rattle.std.proofs.lemmas.Bool.{and_parts}
use Rattle.std.proofs.lemmas.Option.{same_Some, none-some}
use Rattle.std.proofs.lemmas.List.{length-map, length-replicate}
use Rattle.std.proofs.Math.ListN.{length-set}
use Rattle.kat_model.specs.Members.{Has}
use Rattle.kat_model.specs.Stores.{modulus, Store}
use Rattle.kat_model.specs.declared.expression.Width.{Width}
use Rattle.kat_model.specs.declared.expression.Width.TheVariants.{W8, W16, W32, W64}
use Rattle.kat_model.proofs.Options.{some_of_map, some_of_then, some_of_cond}
use Rattle.text_parser.specs.ScopeParts.{ScopeParts, meaning}
use Rattle.text_parser.specs.Terminals.{value_from}
use Rattle.while_lang.specs.Files.{FileParts}
use Rattle.while_lang.specs.Concrete.{IsStoreOf}
use Rattle.tool_commands.specs.Numbers.{is_number, number_below}
use Rattle.tool_commands.specs.StoreWords.{Values, is_free, variable_meant, setting_of, with_setting, with_item, with_items, values_of, store_of}

-- ---- numbers of the width

pub number_is_below : (bound : ℕ) (word : List ℕ) (n : ℕ) → number_below bound word ≡ Some n → n < bound
number_is_below bound word n e =
    let made = some_of_cond (is_number word && nat_lt (value_from 0 word) bound) (value_from 0 word) n e in
    subst (λ m. m < bound) made.1 (ltb-true (value_from 0 word) bound (and_parts (is_number word) (nat_lt (value_from 0 word) bound) made.0).1)

pub some_numbers : (w : Width) → 0 < modulus w
some_numbers W8 = lit< tt
some_numbers W16 = lit< tt
some_numbers W32 = lit< tt
some_numbers W64 = lit< tt

setting_below : (w : ScopeParts) (width : Width) (item : List ℕ) (x : ℕ × ℕ) → setting_of w width item ≡ Some x → x.1 < modulus width
setting_below w width item x e =
    let number = number_below (modulus width) (after_first (λ b. b == 61) item) in
    let found = some_of_then (λ k. option_map (λ n. (k, n)) number) (variable_meant (meaning w (before_first (λ b. b == 61) item))) x e in
    let made = some_of_map (λ n. (found.0, n)) number x found.2 in
    subst (λ (p : ℕ × ℕ). p.1 < modulus width) made.2 (number_is_below (modulus width) (after_first (λ b. b == 61) item) made.0 made.1)

-- ---- values

-- each value is below the bound
abbrev AreBelow : ℕ → Values → Type 0
AreBelow m vs = (n : ℕ) → Has vs (Some n) → n < m

set_has : (vs : Values) (k : ℕ) (v u : Option ℕ) → Has (set vs k v) u → (v ≡ u) ⊎ Has vs u
set_has [] k v u h = inr h
set_has (x ∷ vs) zero v u (inl e) = inl e
set_has (x ∷ vs) zero v u (inr h) = inr (inr h)
set_has (x ∷ vs) (suc k) v u (inl e) = inr (inl e)
set_has (x ∷ vs) (suc k) v u (inr h) = ⊎_elim {C = (v ≡ u) ⊎ Has (x ∷ vs) u} (λ e. inl e) (λ m. inr (inr m)) (set_has vs k v u h)

-- the number of values is unchanged, and each value is below the bound if the values before were
record Follows (m : ℕ) (vs us : Values) : Type 0 where
  count : length us ≡ length vs
  below : AreBelow m vs → AreBelow m us

setting_follows : (m : ℕ) (vs us : Values) (x : ℕ × ℕ) → x.1 < m → with_setting vs x ≡ Some us → Follows m vs us
setting_follows m vs us x lt e =
    let made = some_of_cond (is_free (slice_get vs x.0)) (set vs x.0 (Some x.1)) us e in
    subst (Follows m vs) made.1 (record {
      count = length-set vs x.0 (Some x.1);
      below = λ are n h. ⊎_elim {C = n < m} (λ same. subst (λ (k : ℕ). k < m) (same_Some x.1 n same) lt) (are n) (set_has vs x.0 (Some x.1) (Some n) h);
    })

item_follows : (w : ScopeParts) (width : Width) (vs us : Values) (item : List ℕ) → with_item w width vs item ≡ Some us → Follows (modulus width) vs us
item_follows w width vs us item e =
    let made = some_of_then (with_setting vs) (setting_of w width item) us e in
    setting_follows (modulus width) vs us made.0 (setting_below w width item made.0 made.1) made.2

items_follow : (w : ScopeParts) (width : Width) (vs us : Values) (items : List (List ℕ)) → with_items w width vs items ≡ Some us → Follows (modulus width) vs us
items_follow w width vs us [] e = subst (Follows (modulus width) vs) (same_Some vs us e) (record { count = refl; below = λ are. are })
items_follow w width vs us (item ∷ items) e =
    let made = some_of_then (λ ts. with_items w width ts items) (with_item w width vs item) us e in
    let first = item_follows w width vs made.0 item made.1 in
    let rest = items_follow w width made.0 us items made.2 in
    record { count = rest.count ∙ first.count; below = λ are. rest.below (first.below are) }

none_below : (m n : ℕ) → AreBelow m (replicate n None)
none_below m zero k h = absurd h
none_below m (suc n) k (inl e) = absurd (none-some k e)
none_below m (suc n) k (inr h) = none_below m n k h

-- ---- stores

-- a variable without a value is 0
filled_below : (m : ℕ) (vs : Values) → 0 < m → AreBelow m vs → (n : ℕ) → Has (map (λ v. unwrap_or v 0) vs) n → n < m
filled_below m [] some are n h = absurd h
filled_below m (None ∷ vs) some are n (inl e) = subst (λ (k : ℕ). k < m) e some
filled_below m (Some v ∷ vs) some are n (inl e) = are n (inl (ap Some e))
filled_below m (v ∷ vs) some are n (inr h) = filled_below m vs some (λ k g. are k (inr g)) n h

values_follow : (f : FileParts) (word : List ℕ) (us : Values) → values_of f word ≡ Some us → Follows (modulus f.width) (replicate f.vars None) us
values_follow f word us e = chosen (bytes_eq word (codes "zero")) e
  where
    chosen : (b : Bool) → cond b (Some (replicate f.vars None)) (with_items f.scope f.width (replicate f.vars None) (slice_split (λ b. b == 44) word)) ≡ Some us → Follows (modulus f.width) (replicate f.vars None) us
    chosen true e = subst (Follows (modulus f.width) (replicate f.vars None)) (same_Some (replicate f.vars None) us e) (record { count = refl; below = λ are. are })
    chosen false e = items_follow f.scope f.width (replicate f.vars None) us (slice_split (λ b. b == 44) word) e

pub store_is : (f : FileParts) (word : List ℕ) (s : Store) → store_of f word ≡ Some s → IsStoreOf f s
store_is f word s e =
    let made = some_of_map (λ vs. map (λ v. unwrap_or v 0) vs) (values_of f word) s e in
    let follows = values_follow f word made.0 made.1 in
    subst (IsStoreOf f) made.2 (
      length-map made.0 (λ v. unwrap_or v 0) ∙ follows.count ∙ length-replicate f.vars None,
      filled_below (modulus f.width) made.0 (some_numbers f.width) (follows.below (none_below (modulus f.width) f.vars)),
    )

-- the store with the values of the word is a store of the file
pub numbers_are : (f : FileParts) (word : List ℕ) (vs : Values) (s : Store) → values_of f word ≡ Some vs → s ≡ map (λ v. unwrap_or v 0) vs → IsStoreOf f s
numbers_are f word vs s values numbers = store_is f word s (ap (option_map (λ us. map (λ v. unwrap_or v 0) us)) values ∙ ap Some (sym numbers))
