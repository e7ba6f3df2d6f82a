-- The name of a meaning in a scope.
use Rattle.std.proofs.Common.{◌≡◌, ℕ, List, [], ◌∷◌, map, Bool, true, false, cond, Option, Some, None, refl, sym, ap, ◌∙◌, subst, inl, inr}
use Rattle.std.proofs.lemmas.Bool.{cases_Bool, both_ways}
use Rattle.std.proofs.lemmas.Option.{none-some}
use Rattle.std.specs.Ordering.{nat_cmp, eq_by_cmp}
use Rattle.std.specs.Cmp.{Equal-is, eq_by_cmp_equiv, nat_cmp_total}
use Rattle.std.specs.Cmp.Lexicographic.{slice_cmp}
use Rattle.std.specs.FinMap.{find, entries, get-entries, nat_cmp-IsAntisymmetric, slice_cmp-IsAntisymmetric}
use Rattle.text_parser.specs.declared.meaning.Meaning.{Meaning}
use Rattle.text_parser.specs.declared.meaning.Meaning.TheVariants.{Test, Action, Var, Term, Prog}
use Rattle.text_parser.specs.ScopeParts.{ScopeParts, meaning, Means, IsUnnamed, IsNameOf}
use Rattle.text_print.specs.Printing.{is_meant, first_name, name_of}
use Rattle.text_parser.proofs.MeaningOrder.{same_meaning}

meant_is : (m : Meaning) (o : Option Meaning) → is_meant m o ≡ true → o ≡ Some m
meant_is m None e = absurd cc
meant_is m (Some n) e = ap Some (sym (same_meaning m n e))

number_ties : (i : ℕ) → eq_by_cmp nat_cmp i i ≡ true
number_ties i = (eq_by_cmp_equiv nat_cmp_total).refl i

meant_self : (m : Meaning) → is_meant m (Some m) ≡ true
meant_self (Test i) = number_ties i
meant_self (Action i) = number_ties i
meant_self (Var i) = number_ties i
meant_self (Term i) = number_ties i
meant_self (Prog i) = number_ties i

module _ (w : ScopeParts) (m : Meaning) where
  chosen : (b : Bool) (x y : List ℕ) → (b ≡ true → Means w x m) → (b ≡ false → Means w y m) → Means w (cond b x y) m
  chosen true x y f g = f refl
  chosen false x y f g = g refl

  -- an entry with another meaning is not the entry of a name of `m`
  later : (name : List ℕ) (x : List ℕ × Meaning) (es : List (List ℕ × Meaning)) → find (slice_cmp nat_cmp) name (x ∷ es) ≡ Some m → Means w name m → is_meant m (meaning w x.0) ≡ false → find (slice_cmp nat_cmp) name es ≡ Some m
  later name x es e h f =
      elim (cases_Bool (eq_by_cmp (slice_cmp nat_cmp) name x.0)) [
        | inl q ↦
            let same : name ≡ x.0 = slice_cmp-IsAntisymmetric nat_cmp-IsAntisymmetric name x.0 ((Equal-is (slice_cmp nat_cmp name x.0)).0 q) in
            absurd (both_ways (is_meant m (meaning w x.0)) f (ap (λ (n : List ℕ). is_meant m (meaning w n)) (sym same) ∙ ap (is_meant m) h ∙ meant_self m))
        | inr q ↦ subst (λ (b : Bool). cond b (Some x.1) (find (slice_cmp nat_cmp) name es) ≡ Some m) q e
      ]

  -- if some name denotes `m`, the first name found denotes it
  found : (name : List ℕ) (es : List (List ℕ × Meaning)) → find (slice_cmp nat_cmp) name es ≡ Some m → Means w name m → Means w (first_name w m (map (λ e. e.0) es)) m
  found name [] e h = absurd (none-some m e)
  found name (x ∷ es) e h =
      chosen (is_meant m (meaning w x.0)) x.0 (first_name w m (map (λ e. e.0) es))
      (meant_is m (meaning w x.0))
      (λ f. found name es (later name x es e h f) h)

  kept : (b : Bool) (x y : List ℕ) → (b ≡ true → ⊥) → y ≡ [] → cond b x y ≡ []
  kept true x y f e = absurd (f refl)
  kept false x y f e = e

  none_found : (names : List (List ℕ)) → IsUnnamed w m → first_name w m names ≡ []
  none_found [] none = refl
  none_found (x ∷ xs) none = kept (is_meant m (meaning w x)) x (first_name w m xs) (λ t. none x (meant_is m (meaning w x) t)) (none_found xs none)

  pub name_occurs : (name : List ℕ) → Means w name m → Means w (name_of w m) m
  name_occurs name h = found name (entries w.meanings) (sym (get-entries w.meanings name) ∙ h) h

  -- the only name of a meaning is the one found
  pub name_is : (name : List ℕ) → IsNameOf w name m → name ≡ name_of w m
  name_is name h = sym (h.only (name_of w m) (name_occurs name h.means))

  pub no_name : IsUnnamed w m → [] ≡ name_of w m
  no_name none = sym (none_found _ none)
