-- Finding an atom at which a diagram is true, test by test.
use Rattle.std.proofs.Common.{◌≡◌, ◌≢◌, ◌<◌, ◌+◌, ◌⊎◌, inl, inr, ⊎_elim, ℕ, Bool, true, false, not, nat_eq, [], ◌∷◌, ◌++◌, length, get_or, set, drop, refl, sym, ap, ◌∙◌, arith, append_assoc, append-nil, ◌≤◌}
use Rattle.std.specs.Bool.{IsTrue}
use Rattle.std.proofs.lemmas.Bool.{true_from_ne_false, false≢true}
use Rattle.std.proofs.lemmas.List.{set-get_or, drop-set, drop_all}
use Rattle.std.proofs.Math.ListN.{length-set}
use Rattle.kat_model.specs.Steps.{Atom}
use Rattle.test_diagrams.specs.Functions.{DiagramsParts, value_of, IsDiagramId, IsAtomOf, IsDiagramOf, KeepsFunctions}
use Rattle.test_diagrams.specs.Reduced.{IsReduced}
use Rattle.test_diagrams.proofs.Apart.{different_apart}
use Rattle.walk_pairs.specs.Outputs.{one_of, IsSomewhereTrue, IsFirstValue}

-- a truth value is the wished one or its negation
same_or_not : (b wish : Bool) → (b ≡ wish) ⊎ (b ≡ not wish)
same_or_not true true = inl refl
same_or_not true false = inr refl
same_or_not false true = inr refl
same_or_not false false = inl refl

module _ (d e : DiagramsParts) (id part never test : ℕ) (wish : Bool) (tests : e.tests ≡ d.tests) (is_part : IsDiagramOf e part (λ atom. value_of d id (set atom test wish))) (is_never : IsDiagramOf e never (λ atom. false)) where
  holds_here : (s : IsSomewhereTrue d id) (b : Bool) → get_or s.atom test false ≡ b → IsTrue (value_of d id (set s.atom test b))
  holds_here s b own = ap (value_of d id) (ap (set s.atom test) (sym own) ∙ set-get_or s.atom test false) ∙ s.holds

  -- if the diagram is false everywhere with the wished value, it is true somewhere with the other
  pub other_value : part ≡ never → IsSomewhereTrue d id → IsFirstValue d id test (not wish)
  other_value same s =
      ⊎_elim
      (λ own.
      let wide : IsAtomOf e s.atom = s.fits ∙ sym tests in
      let there : value_of e part s.atom ≡ true = is_part.value s.atom wide ∙ holds_here s wish own in
      absurd (false≢true (sym (is_never.value s.atom wide) ∙ sym (ap (λ i. value_of e i s.atom) same) ∙ there)))
      (λ own. record { atom = s.atom; fits = s.fits; holds = holds_here s (not wish) own })
      (same_or_not (get_or s.atom test false) wish)

  pub this_value : IsReduced e → part ≢ never → IsFirstValue d id test wish
  this_value r differ =
      let apart = different_apart e r part never is_part.in_range is_never.in_range differ in
      record {
        atom = apart.atom;
        fits = apart.fits ∙ tests;
        holds = sym (is_part.value apart.atom apart.fits) ∙ true_from_ne_false (value_of e part apart.atom) (λ f. apart.apart (f ∙ sym (is_never.value apart.atom apart.fits)));
      }

-- ---- test by test

-- the rest is true somewhere, and equals the diagram with the first tests fixed to the values of the atom
pub record IsRest (d : DiagramsParts) (id : ℕ) (e : DiagramsParts) (rest : ℕ) (atom : Atom) (k : ℕ) : Type 0 where
  pub kept : KeepsFunctions d e
  pub is_id : IsDiagramId e rest
  pub somewhere : IsSomewhereTrue e rest
  pub count : length atom ≡ k
  pub given : (b : Atom) → IsAtomOf e b → value_of e rest b ≡ value_of d id (atom ++ drop k b)

pub rest_first : (d : DiagramsParts) (id : ℕ) → IsDiagramId d id → KeepsFunctions d d → IsSomewhereTrue d id → IsRest d id d id [] 0
rest_first d id is kept s = record { kept = kept; is_id = is; somewhere = s; count = refl; given = λ b fits. refl }

pub rest_next : (d : DiagramsParts) (id : ℕ) (e f g : DiagramsParts) (rest next : ℕ) (atom : Atom) (k : ℕ) (value : Bool) → KeepsFunctions d g → IsRest d id e rest atom k → k < e.tests → KeepsFunctions e f → KeepsFunctions f g
    → IsFirstValue e rest k value → IsDiagramOf g next (λ b. value_of f rest (set b k value)) → IsRest d id g next (atom ++ value ∷ []) (k + 1)
rest_next d id e f g rest next atom k value all r lt kept more first is = record {
  kept = all;
  is_id = is.in_range;
  somewhere = record {
    atom = first.atom;
    fits = first.fits ∙ sym (more.tests ∙ kept.tests);
    holds = is.value first.atom (first.fits ∙ sym (more.tests ∙ kept.tests)) ∙ kept.values rest r.is_id (set first.atom k value) ∙ first.holds;
  };
  count = grown atom ∙ ap (λ n. n + 1) r.count;
  given = λ b fits.
      let wide : IsAtomOf e b = fits ∙ more.tests ∙ kept.tests in
      let within : k < length b = omega (arith, lt, wide) in
      is.value b fits ∙ kept.values rest r.is_id (set b k value) ∙ r.given (set b k value) (length-set b k value ∙ wide)
      ∙ ap (λ l. value_of d id (atom ++ l)) (drop-set b k value within) ∙ ap (value_of d id) (sym (append_assoc atom (value ∷ []) (drop (k + 1) b)));
}
  where
    grown : (xs : Atom) → length (xs ++ value ∷ []) ≡ length xs + 1
    grown [] = refl
    grown (x ∷ xs) = let g = grown xs in omega (arith, g)

pub rest_last : (d : DiagramsParts) (id : ℕ) (e : DiagramsParts) (rest : ℕ) (atom : Atom) (k : ℕ) → IsRest d id e rest atom k → e.tests ≤ k → IsTrue (value_of d id atom)
rest_last d id e rest atom k r n =
    let s = r.somewhere in
    let gone : drop k s.atom ≡ [] = drop_all k s.atom (omega (arith, s.fits, n)) in
    ap (value_of d id) (sym (append-nil atom) ∙ ap (λ l. atom ++ l) (sym gone)) ∙ sym (r.given s.atom s.fits) ∙ s.holds

-- ---- two diagrams

one_differ : (b c : Bool) → b ≢ c → one_of b c ≡ true
one_differ true true n = absurd (n refl)
one_differ true false n = refl
one_differ false true n = refl
one_differ false false n = absurd (n refl)

differ_one : (b c : Bool) → one_of b c ≡ true → b ≢ c
differ_one true true e s = absurd cc
differ_one true false e s = absurd cc
differ_one false true e s = absurd cc
differ_one false false e s = absurd cc

module _ (d e : DiagramsParts) (a b id : ℕ) (kept : KeepsFunctions d e) (first : IsDiagramId d a) (second : IsDiagramId d b) (is : IsDiagramOf e id (λ atom. one_of (value_of d a atom) (value_of d b atom))) where
  pub apart_somewhere : IsReduced e → a ≢ b → IsSomewhereTrue e id
  apart_somewhere r two =
      let apart = different_apart e r a b (kept.ids a first) (kept.ids b second) two in
      record {
        atom = apart.atom;
        fits = apart.fits;
        holds = is.value apart.atom apart.fits ∙ one_differ (value_of d a apart.atom) (value_of d b apart.atom) (λ s. apart.apart (kept.values a first apart.atom ∙ s ∙ sym (kept.values b second apart.atom)));
      }

  pub apart_there : (atom : Atom) → IsAtomOf e atom → IsTrue (value_of e id atom) → value_of d a atom ≢ value_of d b atom
  apart_there atom fits h = differ_one (value_of d a atom) (value_of d b atom) (sym (is.value atom fits) ∙ h)
