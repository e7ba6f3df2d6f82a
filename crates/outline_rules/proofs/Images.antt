-- Images of relations: true for some values of all tests before a step, then the atom after the step replaced by the
-- atom before it.
use Rattle.std.proofs.Common.{◌≡◌, ℕ, zero, suc, ◌+◌, ◌<◌, ◌≤◌, inl, inr, ⊎_elim, List, [], ◌∷◌, ◌++◌, length, take, drop, get_or, Bool, true, false, ◌||◌, Result, Ok, Err, refl, sym, ap, ◌∙◌, subst, arith, append-nil}
use mathlib.Core.Path.{ap₂}
use Rattle.std.specs.Result.{IfOk}
use Rattle.std.proofs.Math.ListN.{set, length-set}
use Rattle.std.specs.Bool.{IsTrue}
use Rattle.std.proofs.lemmas.Bool.{or_cases, or_left, or_right}
use Rattle.kat_model.specs.Steps.{Atom}
use Rattle.outline_rules.specs.StepFunctions.{StepDiagramsParts, step_value, IsStepDiagram, KeepsSteps, IsImage}
use Rattle.outline_rules.specs.Working.Quantified.{some_first, with_first}
use Rattle.outline_rules.proofs.StepSets.{IsStepDiagram-same}

-- ---- some values of the first tests

-- from test k on, two atoms have equal values
abbrev AgreeFrom : ℕ → Atom → Atom → Type 0
AgreeFrom k w x = drop k w ≡ drop k x

drop-set_below : (k : ℕ) (x : Atom) (v : Bool) → drop (suc k) (set x k v) ≡ drop (suc k) x
drop-set_below k [] v = refl
drop-set_below zero (b ∷ x) v = refl
drop-set_below (suc k) (b ∷ x) v = drop-set_below k x v

agree_set : (k : ℕ) (w x : Atom) → length w ≡ length x → AgreeFrom (suc k) w x → AgreeFrom k w (set x k (get_or w k false))
agree_set k [] [] e h = refl
agree_set k [] (b ∷ x) e h = absurd (omega (arith, e))
agree_set k (a ∷ w) [] e h = absurd (omega (arith, e))
agree_set zero (a ∷ w) (b ∷ x) e h = ap (λ (l : Atom). a ∷ l) h
agree_set (suc k) (a ∷ w) (b ∷ x) e h = agree_set k w x (omega (arith, e)) h

drop_agree : (k : ℕ) (w x : Atom) → AgreeFrom k w x → AgreeFrom (suc k) w x
drop_agree zero [] [] h = refl
drop_agree zero [] (b ∷ x) h = cc
drop_agree zero (a ∷ w) [] h = cc
drop_agree zero (a ∷ w) (b ∷ x) h = cc
drop_agree (suc k) [] [] h = refl
drop_agree (suc k) [] (b ∷ x) h = later k x h
  where
    later : (k : ℕ) (x : Atom) → [] ≡ drop k x → [] ≡ drop (suc k) x
    later zero [] h = refl
    later zero (b ∷ x) h = cc
    later (suc k) [] h = refl
    later (suc k) (b ∷ x) h = later k x h
drop_agree (suc k) (a ∷ w) [] h = later k w h
  where
    later : (k : ℕ) (x : Atom) → drop k x ≡ [] → drop (suc k) x ≡ []
    later zero [] h = refl
    later zero (b ∷ x) h = cc
    later (suc k) [] h = refl
    later (suc k) (b ∷ x) h = later k x h
drop_agree (suc k) (a ∷ w) (b ∷ x) h = drop_agree k w x h

module _ (f : Atom → Bool) where
  -- if `some_first` is true at an atom, the function is true at some atom
  pub some_first_source : (k : ℕ) (x : Atom) → some_first k f x ≡ true → (w : Atom) × (length w ≡ length x) × (f w ≡ true)
  some_first_source zero x e = (x, refl, e)
  some_first_source (suc k) x e =
      ⊎_elim
      (λ p. let s = some_first_source k (set x k false) p in (s.0, s.1 ∙ length-set x k false, s.2))
      (λ p. let s = some_first_source k (set x k true) p in (s.0, s.1 ∙ length-set x k true, s.2))
      (or_cases (some_first k f (set x k false)) (some_first k f (set x k true)) e)

  -- an atom at which the function is true makes `some_first` true at each atom that differs only in the first k tests
  pub some_first_reached : (k : ℕ) (w x : Atom) → length w ≡ length x → AgreeFrom k w x → f w ≡ true → some_first k f x ≡ true
  some_first_reached zero w x e h t = subst (λ y. f y ≡ true) h t
  some_first_reached (suc k) w x e h t =
      by_value (get_or w k false) (agree_set k w x e h)
      (λ a. some_first_reached k w (set x k false) (e ∙ sym (length-set x k false)) a t)
      (λ a. some_first_reached k w (set x k true) (e ∙ sym (length-set x k true)) a t)
    where
      by_value : (v : Bool) → AgreeFrom k w (set x k v) → (AgreeFrom k w (set x k false) → some_first k f (set x k false) ≡ true) → (AgreeFrom k w (set x k true) → some_first k f (set x k true) ≡ true) → some_first (suc k) f x ≡ true
      by_value false a p q = or_left (some_first k f (set x k false)) (some_first k f (set x k true)) (p a)
      by_value true a p q = or_right (some_first k f (set x k false)) (some_first k f (set x k true)) (q a)

drop_whole : (x : Atom) (n : ℕ) → length x ≡ n → drop n x ≡ []
drop_whole [] zero e = refl
drop_whole [] (suc n) e = absurd (omega (arith, e))
drop_whole (b ∷ x) zero e = absurd (omega (arith, e))
drop_whole (b ∷ x) (suc n) e = drop_whole x n (omega (arith, e))

-- ---- the first values of another atom

pub with_first-set : (k : ℕ) (x y : Atom) → length x ≡ length y → k < length x → with_first k x (set y k (get_or x k false)) ≡ with_first (suc k) x y
with_first-set k [] y e lt = absurd (omega (arith, lt))
with_first-set k (a ∷ x) [] e lt = absurd (omega (arith, e))
with_first-set zero (a ∷ x) (b ∷ y) e lt = refl
with_first-set (suc k) (a ∷ x) (b ∷ y) e lt = ap (λ (l : Atom). a ∷ l) (with_first-set k x y (omega (arith, e)) (omega (arith, lt)))

take_whole : (x : Atom) (n : ℕ) → length x ≡ n → take n x ≡ x
take_whole [] zero e = refl
take_whole [] (suc n) e = refl
take_whole (b ∷ x) zero e = absurd (omega (arith, e))
take_whole (b ∷ x) (suc n) e = ap (λ (l : Atom). b ∷ l) (take_whole x n (omega (arith, e)))

pub with_first-whole : (n : ℕ) (x y : Atom) → length x ≡ n → length y ≡ n → with_first n x y ≡ x
with_first-whole n x y ex ey = rw (take_whole x n ex, drop_whole y n ey) (append-nil x)

-- ---- images

pub image_of : (old new : StepDiagramsParts) (relation image : ℕ) → new.tests ≡ old.tests → IsStepDiagram new image (λ x y. some_first old.tests (λ w. step_value old relation w x) x) → IsImage old relation new image
image_of old new relation image tests is =
    record {
      in_range = is.in_range;
      reached = λ from to after lf lt la r.
          is.value to after (lt ∙ sym tests) (la ∙ sym tests)
          ∙ some_first_reached (λ w. step_value old relation w to) old.tests from to (lf ∙ sym lt) (drop_whole from old.tests lf ∙ sym (drop_whole to old.tests lt)) r;
      source = λ to after lt la r.
          let s = some_first_source (λ w. step_value old relation w to) old.tests to (sym (is.value to after (lt ∙ sym tests) (la ∙ sym tests)) ∙ r) in
          (s.0, s.1 ∙ lt, s.2);
    }

-- ---- the loops

pub some_more : (first s new : StepDiagramsParts) (t n relation set_ one : ℕ) → KeepsSteps first s → KeepsSteps s new → n ≡ suc t
    → IsStepDiagram s set_ (λ x y. some_first t (λ w. step_value first relation w y) x)
    → IsStepDiagram new one (λ x y. step_value s set_ (set x t false) y || step_value s set_ (set x t true) y)
    → IsStepDiagram new one (λ x y. some_first n (λ w. step_value first relation w y) x)
some_more first s new t n relation set_ one k1 k2 e was now =
    subst (λ m. IsStepDiagram new one (λ x y. some_first m (λ w. step_value first relation w y) x)) (sym e)
    (IsStepDiagram-same new one _ _ now
    (λ x y lx ly.
    ap₂ (λ p q. p || q)
    (was.value (set x t false) y (length-set x t false ∙ lx ∙ k2.tests) (ly ∙ k2.tests))
    (was.value (set x t true) y (length-set x t true ∙ lx ∙ k2.tests) (ly ∙ k2.tests))))

pub moved_more : (first s new : StepDiagramsParts) (t n start moved one : ℕ) → KeepsSteps first s → KeepsSteps s new → n ≡ suc t → t < first.tests
    → IsStepDiagram s moved (λ x y. step_value first start x (with_first t x y))
    → IsStepDiagram new one (λ x y. step_value s moved x (set y t (get_or x t false)))
    → IsStepDiagram new one (λ x y. step_value first start x (with_first n x y))
moved_more first s new t n start moved one k1 k2 e lt was now =
    subst (λ m. IsStepDiagram new one (λ x y. step_value first start x (with_first m x y))) (sym e)
    (IsStepDiagram-same new one _ _ now
    (λ x y lx ly.
    was.value x (set y t (get_or x t false)) (lx ∙ k2.tests) (length-set y t (get_or x t false) ∙ ly ∙ k2.tests)
    ∙ ap (step_value first start x) (with_first-set t x y (lx ∙ sym ly) (omega (arith, lt, lx, k1.tests, k2.tests)))))

pub moved_all : (first s : StepDiagramsParts) (t start moved : ℕ) → KeepsSteps first s → first.tests ≡ t → IsStepDiagram s moved (λ x y. step_value first start x (with_first t x y)) → IsStepDiagram s moved (λ x y. step_value first start x x)
moved_all first s t start moved k e is =
    IsStepDiagram-same s moved _ _ is (λ x y lx ly. ap (step_value first start x) (with_first-whole t x y (lx ∙ k.tests ∙ e) (ly ∙ k.tests ∙ e)))

pub image_tail : {E : Type 0} (r : Result ℕ E) (old mid new : StepDiagramsParts) (relation ends : ℕ) → KeepsSteps old mid → KeepsSteps mid new
    → IsStepDiagram mid ends (λ x y. some_first old.tests (λ w. step_value old relation w y) x) → IfOk r (λ id. IsStepDiagram new id (λ x y. step_value mid ends x x))
    → IfOk r (λ id. IsImage old relation new id)
image_tail (Ok id) old mid new relation ends k1 k2 some is =
    image_of old new relation id (k2.tests ∙ k1.tests) (IsStepDiagram-same new id _ _ is (λ x y lx ly. some.value x x (lx ∙ k2.tests) (lx ∙ k2.tests)))
image_tail (Err e) old mid new relation ends k1 k2 some is = tt
