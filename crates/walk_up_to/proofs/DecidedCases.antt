-- Cases with an additional test decided.
use Rattle.std.proofs.Common.{◌≡◌, inl, inr, ℕ, zero, suc, Bool, true, false, nat_eq, List, [], ◌∷◌, length, set, slice_get, Option, Some, refl, sym, ap, ◌∙◌, length-set}
use Rattle.std.proofs.lemmas.Bool.{eqb-true, eqb-false}
use Rattle.kat_model.specs.Members.{Has}
use Rattle.test_diagrams.specs.Functions.{DiagramsParts, KeepsFunctions}
use Rattle.walk_pairs.specs.declared.items.Item.{Item}
use Rattle.walk_up_to.specs.Cases.{IsFixedItem, IsCase, AreItemsWith}

get_apart : (ds : List (Option Bool)) (j k : ℕ) (d : Option Bool) → (k ≡ j → ⊥) → slice_get (set ds j d) k ≡ slice_get ds k
get_apart [] j k d apart = refl
get_apart (x ∷ ds) zero zero d apart = absurd (apart refl)
get_apart (x ∷ ds) zero (suc k) d apart = refl
get_apart (x ∷ ds) (suc j) zero d apart = refl
get_apart (x ∷ ds) (suc j) (suc k) d apart = get_apart ds j k d (λ e. apart (ap suc e))

pub decided_case : (c d : DiagramsParts) (decided ds : List (Option Bool)) (items new : List Item) (test : ℕ) (value : Bool) → KeepsFunctions c d → IsCase c decided items → AreItemsWith c d items test value new → ds ≡ set decided test (Some value) → IsCase d ds new
decided_case c d decided ds items new test value kept before gathered is = record {
  tests = ap length is ∙ length-set decided test (Some value) ∙ before.tests ∙ sym kept.tests;
  are = gathered.are;
  fixed = λ i h k b e. by k (nat_eq k test) refl i h b (ap (λ l. slice_get l k) (sym is) ∙ e);
}
  where
    by : (k : ℕ) (same : Bool) → nat_eq k test ≡ same → (i : Item) → Has new i → (b : Bool) → slice_get (set decided test (Some value)) k ≡ Some (Some b) → IsFixedItem d k i
    by k true p i h b e = gathered.independent k (inr (eqb-true k test p)) i h
    by k false p i h b e = gathered.independent k (inl (λ j m. before.fixed j m k b (sym (get_apart decided test k (Some value) (eqb-false k test p)) ∙ e))) i h
