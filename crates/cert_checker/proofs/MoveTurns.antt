-- The loop over the forbidden pairs of tests of a move.
use Rattle.std.proofs.Common.{◌≡◌, ◌⊎◌, ℕ, ◌+◌, ◌<◌, ◌≤◌, inl, inr, ⊎_elim, List, [], ◌∷◌, length, get_or, take, refl, sym, ap, ◌∙◌, subst, true, false, ◌&&◌, Option, Some, None}
use Rattle.std.specs.Prelude.{IfSome}
use Rattle.std.specs.Option.{option_or}
use Rattle.std.specs.List.{list_any}
use Rattle.std.proofs.lemmas.Bool.{or_right}
use Rattle.std.proofs.lemmas.List.{take_all, take_more}
use Rattle.std.proofs.lemmas.Option.{slice_get-get_or}
use Rattle.kat_model.specs.Members.{Has}
use Rattle.kat_model.proofs.Lists.{any_has, has_append}
use Rattle.kat_model.proofs.Places.{has_at}
use Rattle.cert_checker.specs.declared.known.TestCase.{TestCase}
use Rattle.cert_checker.specs.declared.known.Truth.{Truth}
use Rattle.cert_checker.specs.declared.known.Truth.TheVariants.{Known, Undecided}
use Rattle.cert_checker.specs.Cases.{known_and, known_of, known_test, falsely, truly}
use Rattle.cert_checker.specs.Moves.{DoesCount, is_excluded}
use Rattle.cert_checker.specs.Questions.{QuestionParts}
use Rattle.cert_checker.specs.Waiting.{IsWaited}
use Rattle.cert_checker.specs.Working.MoveTests.{loose_by, tied_by, undecided_in}

one_waits : (x y : Truth) (k : ℕ) → known_and x y ≡ Undecided k → (x ≡ Undecided k) ⊎ (y ≡ Undecided k)
one_waits (Known false) y k e = absurd cc
one_waits (Known true) y k e = inr e
one_waits (Undecided j) (Known false) k e = absurd cc
one_waits (Undecided j) (Known true) k e = inl e
one_waits (Undecided j) (Undecided l) k e = inl e

given_cases : (x y : Truth) → truly (known_and x y) ≡ false
    → ((known_and x y ≡ Known false) × (tied_by x y ≡ None) × (loose_by x y ≡ None))
    ⊎ ((k : ℕ) × (known_and x y ≡ Undecided k) × (((tied_by x y ≡ Some k) × (loose_by x y ≡ None)) ⊎ ((tied_by x y ≡ None) × (loose_by x y ≡ Some k))))
given_cases (Known false) (Known false) off = inl (refl, refl, refl)
given_cases (Known false) (Known true) off = inl (refl, refl, refl)
given_cases (Known false) (Undecided l) off = inl (refl, refl, refl)
given_cases (Known true) (Known false) off = inl (refl, refl, refl)
given_cases (Known true) (Known true) off = absurd cc
given_cases (Known true) (Undecided l) off = inr (l, refl, inl (refl, refl))
given_cases (Undecided k) (Known false) off = inl (refl, refl, refl)
given_cases (Undecided k) (Known true) off = inr (k, refl, inl (refl, refl))
given_cases (Undecided k) (Undecided l) off = inr (k, refl, inr (refl, refl))

both_true : (x y : Truth) → truly (known_and x y) ≡ true → (truly x && truly y) ≡ true
both_true (Known false) y on = absurd cc
both_true (Known true) y on = on
both_true (Undecided k) (Known false) on = absurd cc
both_true (Undecided k) (Known true) on = absurd cc
both_true (Undecided k) (Undecided l) on = absurd cc

or_none : (o : Option ℕ) → option_or o None ≡ o
or_none None = refl
or_none (Some k) = refl

-- after some of the forbidden pairs: an undecided test that is tied to a true one, or another undecided test; without
-- either, the test of the pair is true, and each of these forbidden pairs has a false test
pub record IsGiven (q : QuestionParts) (c : TestCase) (done : List (ℕ × ℕ)) (tied waiting : Option ℕ) : Type 0 where
  pub tied_waits : IfSome tied (IsWaited q c)
  pub waits : IfSome waiting (IsWaited q c)
  pub pair_test : waiting ≡ None → known_test c.begin.items q.pair_test ≡ Known true
  pub free : tied ≡ None → waiting ≡ None → (f : ℕ × ℕ) → Has done f → known_and (known_of c.begin.items f.0) (known_of c.end.items f.1) ≡ Known false

module _ (q : QuestionParts) (c : TestCase) where
  forbidden_waits : (f : ℕ × ℕ) → Has q.action_pass.forbidden f → (k : ℕ) → known_and (known_of c.begin.items f.0) (known_of c.end.items f.1) ≡ Undecided k → IsWaited q c k
  forbidden_waits f h k e =
      ⊎_elim
      (λ l. (f.0, inl (inr (f, h, refl), l)))
      (λ r. (f.1, inr (inl (f, h, refl), r)))
      (one_waits (known_of c.begin.items f.0) (known_of c.end.items f.1) k e)

  or_some : (o : Option ℕ) (k : ℕ) → option_or o (Some k) ≡ None → ⊥
  or_some None k e = absurd cc
  or_some (Some j) k e = absurd cc

  or_waits : (o : Option ℕ) (k : ℕ) → IfSome o (IsWaited q c) → IsWaited q c k → IfSome (option_or o (Some k)) (IsWaited q c)
  or_waits None k h w = w
  or_waits (Some j) k h w = h

  given_free : (i : ℕ) (d : ℕ × ℕ) → i < length q.action_pass.forbidden → (tied waiting : Option ℕ) → IsGiven q c (take i q.action_pass.forbidden) tied waiting → known_and (known_of c.begin.items (get_or q.action_pass.forbidden i d).0) (known_of c.end.items (get_or q.action_pass.forbidden i d).1) ≡ Known false → IsGiven q c (take (i + 1) q.action_pass.forbidden) tied waiting
  given_free i d low tied waiting given e = record {
    tied_waits = given.tied_waits;
    waits = given.waits;
    pair_test = given.pair_test;
    free = λ n m f h.
        ⊎_elim
        (given.free n m f)
        (λ s. ⊎_elim (λ same. subst (λ (z : ℕ × ℕ). known_and (known_of c.begin.items z.0) (known_of c.end.items z.1) ≡ Known false) same e) absurd s)
        (has_append (take i q.action_pass.forbidden) (get_or q.action_pass.forbidden i d ∷ []) f (subst (λ (l : List (ℕ × ℕ)). Has l f) (take_more q.action_pass.forbidden i d low) h));
  }

  given_tied : (i : ℕ) (tied waiting : Option ℕ) → IsGiven q c (take i q.action_pass.forbidden) tied waiting → (k : ℕ) → IsWaited q c k → IsGiven q c (take (i + 1) q.action_pass.forbidden) (option_or tied (Some k)) waiting
  given_tied i tied waiting given k w = record { tied_waits = or_waits tied k given.tied_waits w; waits = given.waits; pair_test = given.pair_test; free = λ n m f h. absurd (or_some tied k n) }

  given_waits : (i : ℕ) (tied waiting : Option ℕ) → IsGiven q c (take i q.action_pass.forbidden) tied waiting → (k : ℕ) → IsWaited q c k → IsGiven q c (take (i + 1) q.action_pass.forbidden) tied (option_or waiting (Some k))
  given_waits i tied waiting given k w = record { tied_waits = given.tied_waits; waits = or_waits waiting k given.waits w; pair_test = λ m. absurd (or_some waiting k m); free = λ n m f h. absurd (or_some waiting k m) }

  -- one additional pair, by its computed values
  module _ (fs : List (ℕ × ℕ)) (is : fs ≡ q.action_pass.forbidden) (begin end : List Truth) (begin_is : begin ≡ c.begin.items) (end_is : end ≡ c.end.items) (i : ℕ) (d : ℕ × ℕ) (low : i < length fs) (x y z : Truth)
      (x_is : x ≡ known_of begin (get_or fs i d).0) (y_is : y ≡ known_of end (get_or fs i d).1) (z_is : z ≡ known_and x y) (tied waiting now_tied now_waiting : Option ℕ) (given : IsGiven q c (take i q.action_pass.forbidden) tied waiting) where
    below : i < length q.action_pass.forbidden
    below = subst (λ (l : List (ℕ × ℕ)). i < length l) is low

    both_are : z ≡ known_and (known_of c.begin.items (get_or q.action_pass.forbidden i d).0) (known_of c.end.items (get_or q.action_pass.forbidden i d).1)
    both_are =
        z_is ∙ ap (λ (k : Truth). known_and k y) (x_is ∙ ap (λ (l : List Truth). known_of l (get_or fs i d).0) begin_is ∙ ap (λ (l : List (ℕ × ℕ)). known_of c.begin.items (get_or l i d).0) is)
        ∙ ap (known_and (known_of c.begin.items (get_or q.action_pass.forbidden i d).0)) (y_is ∙ ap (λ (l : List Truth). known_of l (get_or fs i d).1) end_is ∙ ap (λ (l : List (ℕ × ℕ)). known_of c.end.items (get_or l i d).1) is)

    here_waits : (k : ℕ) → z ≡ Undecided k → IsWaited q c k
    here_waits k e = forbidden_waits (get_or q.action_pass.forbidden i d) (has_at q.action_pass.forbidden i (get_or q.action_pass.forbidden i d) (slice_get-get_or q.action_pass.forbidden i d below)) k (sym both_are ∙ e)

    as_given : (o p : Option ℕ) → now_tied ≡ o → now_waiting ≡ p → IsGiven q c (take (i + 1) q.action_pass.forbidden) o p → IsGiven q c (take (i + 1) q.action_pass.forbidden) now_tied now_waiting
    as_given o p e f h = subst (λ (u : Option ℕ). IsGiven q c (take (i + 1) q.action_pass.forbidden) u now_waiting) (sym e) (subst (λ (u : Option ℕ). IsGiven q c (take (i + 1) q.action_pass.forbidden) o u) (sym f) h)

    pub next_given : truly z ≡ false → now_tied ≡ option_or tied (tied_by x y) → now_waiting ≡ option_or waiting (loose_by x y) → IsGiven q c (take (i + 1) q.action_pass.forbidden) now_tied now_waiting
    next_given off e f =
        ⊎_elim
        (λ n. as_given tied waiting (e ∙ ap (option_or tied) n.1 ∙ or_none tied) (f ∙ ap (option_or waiting) n.2 ∙ or_none waiting) (given_free i d below tied waiting given (sym both_are ∙ z_is ∙ n.0)))
        (λ u.
        ⊎_elim
        (λ t. as_given (option_or tied (Some u.0)) waiting (e ∙ ap (option_or tied) t.0) (f ∙ ap (option_or waiting) t.1 ∙ or_none waiting) (given_tied i tied waiting given u.0 (here_waits u.0 (z_is ∙ u.1))))
        (λ t. as_given tied (option_or waiting (Some u.0)) (e ∙ ap (option_or tied) t.0 ∙ or_none tied) (f ∙ ap (option_or waiting) t.1) (given_waits i tied waiting given u.0 (here_waits u.0 (z_is ∙ u.1))))
        u.2)
        (given_cases x y (sym (ap truly z_is) ∙ off))

    -- a pair of true tests excludes the move
    pub excluded_here : truly z ≡ true → is_excluded q c ≡ true
    excluded_here on =
        or_right (falsely (known_test c.begin.items q.pair_test)) (list_any (λ (f : ℕ × ℕ). truly (known_of c.begin.items f.0) && truly (known_of c.end.items f.1)) q.action_pass.forbidden)
        (any_has (λ (f : ℕ × ℕ). truly (known_of c.begin.items f.0) && truly (known_of c.end.items f.1)) q.action_pass.forbidden (get_or q.action_pass.forbidden i d)
        (has_at q.action_pass.forbidden i (get_or q.action_pass.forbidden i d) (slice_get-get_or q.action_pass.forbidden i d below))
        (both_true (known_of c.begin.items (get_or q.action_pass.forbidden i d).0) (known_of c.end.items (get_or q.action_pass.forbidden i d).1) (sym (ap truly both_are) ∙ on)))

  -- ---- before the loop and after it

  pair_waits : (k : ℕ) (o : Option ℕ) → q.pair_test ≡ o → known_test c.begin.items o ≡ Undecided k → IsWaited q c k
  pair_waits k None is e = absurd cc
  pair_waits k (Some g) is e = (g, inl (inl (inl is), e))

  pub begun : (x : Truth) → known_test c.begin.items q.pair_test ≡ x → falsely x ≡ false → IsGiven q c [] None (undecided_in x)
  begun (Known true) e off = record { tied_waits = tt; waits = tt; pair_test = λ _. e; free = λ n m f h. absurd h }
  begun (Known false) e off = absurd cc
  begun (Undecided k) e off = record { tied_waits = tt; waits = pair_waits k q.pair_test refl e; pair_test = λ m. absurd (or_some None k m); free = λ n m f h. absurd h }

  pub ended : (i : ℕ) (tied waiting : Option ℕ) → length q.action_pass.forbidden ≤ i → IsGiven q c (take i q.action_pass.forbidden) tied waiting → tied ≡ None → waiting ≡ None → DoesCount q c
  ended i tied waiting high given n m = record {
    pair_test = given.pair_test m;
    free = λ f h. given.free n m f (subst (λ (l : List (ℕ × ℕ)). Has l f) (sym (take_all i q.action_pass.forbidden high)) h);
  }
