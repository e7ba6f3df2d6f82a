-- Values along a list, each computed from all earlier ones: their number, the value of each element, and that later
-- elements do not change the values of earlier ones.
use Rattle.std.proofs.Common.{◌≡◌, ℕ, zero, suc, ◌+◌, ◌<◌, List, [], ◌∷◌, ◌++◌, length, Some, slice_get, get_or, refl, sym, ap, ◌∙◌, arith, length-append}
use Rattle.std.proofs.lemmas.List.{get_or_append_left}
use Rattle.std.proofs.Math.Seq.{get_or-append_seam}
use Rattle.kat_model.specs.CourseOfValues.{continued, course_of_values}

module _ {X Y : Type 0} (step : List Y → X → Y) where
  -- the values so far do not change
  get_or-continued : (values : List Y) (xs : List X) (d : Y) (i : ℕ) → i < length values → get_or (continued step values xs) i d ≡ get_or values i d
  get_or-continued values [] d i h = refl
  get_or-continued values (x ∷ xs) d i h =
      let longer : i < length (values ++ step values x ∷ []) = omega (arith, length-append values (step values x ∷ [])) in
      get_or-continued (values ++ step values x ∷ []) xs d i longer ∙ get_or_append_left values (step values x ∷ []) d i h

  length-continued : (values : List Y) (xs : List X) → length (continued step values xs) ≡ length values + length xs
  length-continued values [] = omega arith
  length-continued values (x ∷ xs) =
      omega (arith, length-continued (values ++ step values x ∷ []) xs, length-append values (step values x ∷ []))

  pub length-course_of_values : (xs : List X) → length (course_of_values step xs) ≡ length xs
  length-course_of_values xs = omega (arith, length-continued [] xs)

  continued-append : (values : List Y) (xs more : List X) → continued step values (xs ++ more) ≡ continued step (continued step values xs) more
  continued-append values [] more = refl
  continued-append values (x ∷ xs) more = continued-append (values ++ step values x ∷ []) xs more

  -- later elements do not change the values of earlier ones
  pub course_of_values-append : (xs more : List X) (d : Y) (i : ℕ) → i < length xs → get_or (course_of_values step (xs ++ more)) i d ≡ get_or (course_of_values step xs) i d
  course_of_values-append xs more d i h =
      let within : i < length (course_of_values step xs) = omega (arith, length-course_of_values xs) in
      ap (λ l. get_or l i d) (continued-append [] xs more) ∙ get_or-continued (course_of_values step xs) more d i within

  -- the value at an index is computed from its element and the values before it
  pub record IsStepAt (d : Y) (values : List Y) (i : ℕ) (x : X) : Type 0 where
    pub front : List Y
    pub here : get_or values i d ≡ step front x
    pub before : (j : ℕ) → j < i → get_or front j d ≡ get_or values j d

  continued-at : (d : Y) (values : List Y) (xs : List X) (k i : ℕ) (x : X) → i ≡ length values + k → slice_get xs k ≡ Some x → IsStepAt d (continued step values xs) i x
  continued-at d values [] k i x p e = absurd cc
  continued-at d values (y ∷ xs) zero i x p e =
      let same : y ≡ x = cc in
      let value = step values y in
      let longer : length (values ++ value ∷ []) ≡ i + 1 = omega (arith, length-append values (value ∷ [])) in
      let last : i ≡ length values = omega arith in
      record {
        front = values;
        here = get_or-continued (values ++ value ∷ []) xs d i (omega arith) ∙ ap (λ k. get_or (values ++ value ∷ []) k d) last ∙ get_or-append_seam values value [] d ∙ ap (step values) same;
        before = λ j h. sym (get_or-continued (values ++ value ∷ []) xs d j (omega arith) ∙ get_or_append_left values (value ∷ []) d j (omega arith));
      }
  continued-at d values (y ∷ xs) (suc k) i x p e =
      continued-at d (values ++ step values y ∷ []) xs k i x (omega (arith, length-append values (step values y ∷ []))) e

  pub course_of_values-at : (d : Y) (xs : List X) (i : ℕ) (x : X) → slice_get xs i ≡ Some x → IsStepAt d (course_of_values step xs) i x
  course_of_values-at d xs i x e = continued-at d [] xs i i x (omega arith) e

-- steps that agree at each element give the same values
module _ {X Y : Type 0} (first second : List Y → X → Y) where
  continued-same : (values : List Y) (xs : List X) → ((i : ℕ) (x : X) → slice_get xs i ≡ Some x → (before : List Y) → first before x ≡ second before x) → continued first values xs ≡ continued second values xs
  continued-same values [] agree = refl
  continued-same values (x ∷ xs) agree =
      ap (λ y. continued first (values ++ y ∷ []) xs) (agree 0 x refl values) ∙ continued-same (values ++ second values x ∷ []) xs (λ i y e. agree (suc i) y e)

  pub course_of_values-same : (xs : List X) → ((i : ℕ) (x : X) → slice_get xs i ≡ Some x → (before : List Y) → first before x ≡ second before x) → course_of_values first xs ≡ course_of_values second xs
  course_of_values-same xs agree = continued-same [] xs agree
