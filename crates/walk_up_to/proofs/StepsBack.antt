-- The string of the steps that lead to a listed pair, built from its end.
use Rattle.std.proofs.Common.{◌≡◌, ◌<◌, ⊎_elim, ℕ, Bool, List, [], ◌∷◌, ◌++◌, length, slice_get, Option, Some, None, refl, sym, ap, ◌∙◌, subst, arith, append_assoc, reverse}
use Rattle.std.proofs.lemmas.Option.{slice_get_cases}
use Rattle.std.proofs.lemmas.List.{reverse-append}
use Rattle.kat_model.specs.Strings.{Move, GuardedString}
use Rattle.walk_up_to.specs.Walks.{StepOrigin, after_trail}
use Rattle.walk_up_to.specs.Listings.{IdEntry, AreTraced, ComesEarlier, origin_in, origin_of, LeadsBack}

-- the string of an atom and moves
abbrev pub string_of : List Bool → List Move → GuardedString
string_of first rest = record { first = first; rest = rest }

-- the moves so far, in reverse order, are those of the steps from `back` to `place`
pub record IsSpelling (pairs : List IdEntry) (place : ℕ) (last : List Bool) (back : ℕ) (first : List Bool) (moves : List Move) : Type 0 where
  pub within : back < length pairs
  pub steps : List StepOrigin
  pub leads : (os : List StepOrigin) → LeadsBack pairs back os → LeadsBack pairs place (steps ++ os)
  pub spells : (os : List StepOrigin) → after_trail (steps ++ os) (string_of last []) ≡ after_trail os (string_of first (reverse moves))

pub spelling_first : (pairs : List IdEntry) (place : ℕ) (last : List Bool) → place < length pairs → IsSpelling pairs place last place last []
spelling_first pairs place last within = record { within = within; steps = []; leads = λ os h. h; spells = λ os. refl }

reverse_more : (xs : List Move) (x : Move) → reverse (xs ++ x ∷ []) ≡ x ∷ reverse xs
reverse_more xs x = reverse-append xs (x ∷ [])

pub spelling_next : (pairs : List IdEntry) (place : ℕ) (last : List Bool) (back : ℕ) (first : List Bool) (moves : List Move) (o : StepOrigin) → AreTraced pairs → IsSpelling pairs place last back first moves → origin_of pairs back ≡ Some o
    → IsSpelling pairs place last o.place o.atom (moves ++ record { act = o.act; atom = first } ∷ [])
spelling_next pairs place last back first moves o traced s is = record {
  within = let l = earlier in let w = s.within in omega (arith, l, w);
  steps = s.steps ++ o ∷ [];
  leads = λ os h. subst (LeadsBack pairs place) (sym (append_assoc s.steps (o ∷ []) os)) (s.leads (o ∷ os) (is, h));
  spells = λ os.
      ap (λ l. after_trail l (string_of last [])) (append_assoc s.steps (o ∷ []) os)
      ∙ s.spells (o ∷ os)
      ∙ ap (λ ms. after_trail os (string_of o.atom ms)) (sym (reverse_more moves (record { act = o.act; atom = first })));
}
  where
    earlier : o.place < back
    earlier = go (slice_get pairs back) refl is
      where
        go : (e : Option IdEntry) → slice_get pairs back ≡ e → origin_in e ≡ Some o → o.place < back
        go None at f = absurd cc
        go (Some e) at f = subst (ComesEarlier back) f (traced back e at)

pub spelling_last : (pairs : List IdEntry) (place : ℕ) (last : List Bool) (back : ℕ) (first : List Bool) (moves : List Move) → AreTraced pairs → IsSpelling pairs place last back first moves → origin_of pairs back ≡ None
    → (trail : List StepOrigin) × LeadsBack pairs place trail × (string_of first (reverse moves) ≡ after_trail trail (string_of last []))
spelling_last pairs place last back first moves traced s none = (s.steps ++ [], s.leads [] start, sym (s.spells []))
  where
    start : back ≡ 0
    start = go (slice_get pairs back) refl none
      where
        go : (e : Option IdEntry) → slice_get pairs back ≡ e → origin_in e ≡ None → back ≡ 0
        go None at f = ⊎_elim (λ x. let some : Some x.0 ≡ None = sym x.2 ∙ at in absurd cc) (λ r. let w = s.within in let l = r.0 in absurd (omega (arith, w, l))) (slice_get_cases pairs back).1
        go (Some e) at f = subst (ComesEarlier back) f (traced back e at)

pub spelling_goes_on : (pairs : List IdEntry) (place : ℕ) (last : List Bool) (back : ℕ) (first : List Bool) (moves : List Move) (o : StepOrigin) → AreTraced pairs → IsSpelling pairs place last back first moves → origin_of pairs back ≡ Some o
    → (to : ℕ) (atom : List Bool) (more : List Move) → to ≡ o.place → atom ≡ o.atom → more ≡ moves ++ record { act = o.act; atom = first } ∷ [] → IsSpelling pairs place last to atom more
spelling_goes_on pairs place last back first moves o traced s is to atom more e f g =
    subst (λ n. IsSpelling pairs place last n atom more) (sym e)
    (subst (λ a. IsSpelling pairs place last o.place a more) (sym f)
    (subst (IsSpelling pairs place last o.place o.atom) (sym g) (spelling_next pairs place last back first moves o traced s is)))
