-- The first reason of one turn, from what is known of the processed pairs: of outputs or of one action.
use Rattle.std.proofs.Common.{◌≡◌, ◌↔◌, ℕ, zero, suc, ◌+◌, ◌<◌, ◌⊎◌, inl, inr, ⊎_elim, [], ◌∷◌, ◌++◌, take, drop, length, slice_get, refl, sym, ap, ◌∙◌, subst, arith, add-one, Option, Some, None}
use Rattle.std.specs.Option.{option_map}
use Rattle.std.proofs.lemmas.Option.{slice_get_within, slice_get-map}
use Rattle.std.proofs.Math.Seq.{take-append_seam, drop-append_seam}
use Rattle.std.proofs.lemmas.List.{length-map, length-take-le, length-drop, length-append, take-append-drop}
use Rattle.kat_model.specs.Problems.{ProblemParts}
use Rattle.kat_model.specs.Steps.{Atom}
use Rattle.kat_model.specs.TestedPairs.{TestedPair}
use Rattle.certificate.specs.declared.nodes.Style.{Style}
use Rattle.certificate.specs.declared.nodes.Style.TheVariants.{Plain, UpTo, Under}
use Rattle.certificate.specs.PairParts.{PairParts}
use Rattle.certificate.specs.Certs.{CertParts, nodes_of}
use Rattle.certificate.specs.Accepted.{tested_pair_of, tested_pairs}
use Rattle.cert_checker.specs.declared.answer.Reason.{Reason}
use Rattle.cert_checker.specs.declared.answer.Reason.TheVariants.{FirstPair, Output, Missing, MissingTo, Shape, HypBroken, EndsAgree, TestNode, TermNode}
use Rattle.cert_checker.specs.Answers.{Turn, turn_of, IsEarlier, OutputsHold, StepHolds, MoveHolds, FailsBy}
use Rattle.cert_checker.specs.AtomOrder.{IsLess}
use Rattle.cert_checker.specs.Cases.{Extends, undecided}
use Rattle.cert_checker.specs.LeastFailures.{IsFirstFailure}
use Rattle.cert_checker.specs.Working.Places.{IsAmong, IsFirstOf, TurnHolds, turn_number, reason_at}
use Rattle.cert_checker.proofs.Halves.{less_append, less_behind}

-- every atom of length n extends n undecided tests
pub undecided_extends : (n : ℕ) (x : Atom) → length x ≡ n → Extends (undecided n) x
undecided_extends zero [] e = tt
undecided_extends zero (b ∷ bs) e = absurd (omega (arith, e))
undecided_extends (suc n) [] e = absurd (omega (arith, e))
undecided_extends (suc n) (b ∷ bs) e = undecided_extends n bs (omega (arith, e))

pub undecided_length : (n : ℕ) (x : Atom) → Extends (undecided n) x → length x ≡ n
undecided_length zero [] h = refl
undecided_length zero (b ∷ bs) h = absurd h
undecided_length (suc n) [] h = absurd h
undecided_length (suc n) (b ∷ bs) h = ap suc (undecided_length n bs h)

-- an earlier turn of the same stage and action has a lesser number, or the same number and lesser atoms
earlier_parts : (s t : Turn) → s.stage ≡ t.stage → s.action ≡ t.action → IsEarlier s t → (s.number < t.number) ⊎ ((s.number ≡ t.number) × (IsLess s.atom t.atom ⊎ ((s.atom ≡ t.atom) × IsLess s.to t.to)))
earlier_parts s t e a h =
    ⊎_elim (λ l. absurd (omega (arith, l, e)))
    (λ k. ⊎_elim inl (λ l. inr (l.0, ⊎_elim inl (λ m. ⊎_elim (λ n. absurd (omega (arith, n, a))) (λ n. inr (m.0, n.1)) m.1) l.1)) k.1)
    h

-- the turn of the reason of a place
pub place_turn : (s : Style) (k : ℕ) (atom : Atom) (o : Option ℕ) (to : Atom)
    → ((turn_of (reason_at s k atom o to)).stage ≡ 3) × ((turn_of (reason_at s k atom o to)).number ≡ k) × ((turn_of (reason_at s k atom o to)).atom ≡ atom) × ((turn_of (reason_at s k atom o to)).action ≡ turn_number o)
place_turn Plain k atom None to = (refl, refl, refl, refl)
place_turn UpTo k atom None to = (refl, refl, refl, refl)
place_turn Under k atom None to = (refl, refl, refl, refl)
place_turn Plain k atom (Some a) to = (refl, refl, refl, sym (add-one a))
place_turn UpTo k atom (Some a) to = (refl, refl, refl, sym (add-one a))
place_turn Under k atom (Some a) to = (refl, refl, refl, sym (add-one a))

module _ (q : ProblemParts) (c : CertParts) (action : Option ℕ) where
  -- the pair at the place holds at all pairs of atoms, for its outputs or for the action
  abbrev pub HoldsAtEach : ℕ → Type 0
  HoldsAtEach k = (p : TestedPair) → slice_get (tested_pairs c) k ≡ Some p → (atom to : Atom) → length atom ≡ q.tests → length to ≡ q.tests → TurnHolds c.style q c p action atom to

  -- the property holds at the first and the second half of the values
  abbrev pub HoldsAtHalves : TestedPair → Atom → Type 0
  HoldsAtHalves p x = TurnHolds c.style q c p action (take q.tests x) (drop q.tests x)

  one_pair : (j k : ℕ) (p r : TestedPair) → j ≡ k → slice_get (tested_pairs c) j ≡ Some p → slice_get (tested_pairs c) k ≡ Some r → r ≡ p
  one_pair j k p r s e h = let f : Some r ≡ Some p = sym h ∙ ap (slice_get (tested_pairs c)) (sym s) ∙ e in cc

  halves_hold : (p : TestedPair) (atom to : Atom) → length atom ≡ q.tests → HoldsAtHalves p (atom ++ to) → TurnHolds c.style q c p action atom to
  halves_hold p atom to l h =
      let front : take q.tests (atom ++ to) ≡ atom = ap (λ n. take n (atom ++ to)) (sym l) ∙ take-append_seam atom to in
      let back : drop q.tests (atom ++ to) ≡ to = ap (λ n. drop n (atom ++ to)) (sym l) ∙ drop-append_seam atom to in
      subst (λ z. TurnHolds c.style q c p action atom z) back (subst (λ z. TurnHolds c.style q c p action z (drop q.tests (atom ++ to))) front h)

  both_extend : (atom to : Atom) → length atom ≡ q.tests → length to ≡ q.tests → Extends (undecided (q.tests + q.tests)) (atom ++ to)
  both_extend atom to l m = undecided_extends (q.tests + q.tests) (atom ++ to) (omega (arith, l, m, length-append atom to))

  pub pair_holds : (k : ℕ) (p : TestedPair) → slice_get (tested_pairs c) k ≡ Some p → IsFirstFailure (HoldsAtHalves p) (undecided (q.tests + q.tests)) None → HoldsAtEach k
  pair_holds k p is f r h atom to l m =
      subst (λ z. TurnHolds c.style q c z action atom to) (one_pair k k r p refl h is)
      (halves_hold p atom to l (f (atom ++ to) (both_extend atom to l m)))

  -- the condition of a turn is the condition on its outputs, its step or its move
  outputs_of : (s : Style) (o : Option ℕ) (p : TestedPair) (atom to : Atom) → turn_number o ≡ 0 → TurnHolds s q c p o atom to → OutputsHold s q p atom
  outputs_of s None p atom to e h = h
  outputs_of s (Some a) p atom to e h = absurd (omega (arith, e))

  step_of : (s : Style) (o : Option ℕ) (m : ℕ) (p : TestedPair) (atom to : Atom) → turn_number o ≡ suc m → TurnHolds s q c p o atom to → StepHolds s q c p atom m
  step_of s None m p atom to e h = absurd (omega (arith, e))
  step_of Plain (Some a) m p atom to e h = let same : a ≡ m = omega (arith, e) in subst (λ z. StepHolds Plain q c p atom z) same h
  step_of UpTo (Some a) m p atom to e h = let same : a ≡ m = omega (arith, e) in subst (λ z. StepHolds UpTo q c p atom z) same h
  step_of Under (Some a) m p atom to e h = tt

  move_status : (s : Style) (o : Option ℕ) (m : ℕ) (p : TestedPair) (atom to : Atom) → turn_number o ≡ suc m → TurnHolds s q c p o atom to → MoveHolds s q c p atom (record { act = m; atom = to })
  move_status s None m p atom to e h = absurd (omega (arith, e))
  move_status Plain (Some a) m p atom to e h = tt
  move_status UpTo (Some a) m p atom to e h = tt
  move_status Under (Some a) m p atom to e h = let same : a ≡ m = omega (arith, e) in subst (λ z. MoveHolds Under q c p atom (record { act = z; atom = to })) same h

  within_pairs : (k : ℕ) (p : TestedPair) → slice_get (tested_pairs c) k ≡ Some p → k < length c.pairs
  within_pairs k p e = subst (λ n. k < n) (length-map c.pairs _) (slice_get_within (tested_pairs c) k p e)

  pub none_fails : ((k : ℕ) → k < length c.pairs → HoldsAtEach k) → IsFirstOf q c (λ n. n ≡ turn_number action) None
  none_fails all (Output k atom) a = λ p e l. outputs_of c.style action p atom atom (sym a.1) (all k (within_pairs k p e) p e atom atom l l)
  none_fails all (Missing k atom m) a = λ p e l low. step_of c.style action m p atom atom (sym a.1) (all k (within_pairs k p e) p e atom atom l l)
  none_fails all (MissingTo k atom m to) a = λ p e l low wide. move_status c.style action m p atom to (sym a.1) (all k (within_pairs k p e) p e atom to l wide)
  none_fails all FirstPair a = tt
  none_fails all (Shape k) a = tt
  none_fails all (HypBroken h i j) a = tt
  none_fails all EndsAgree a = tt
  none_fails all (TestNode k) a = tt
  none_fails all (TermNode k) a = tt

  module _ (low : turn_number action < q.actions + 1) (k : ℕ) (p : TestedPair) (is : slice_get (tested_pairs c) k ≡ Some p) (before : (j : ℕ) → j < k → HoldsAtEach j)
      (x : Atom) (f : IsFirstFailure (HoldsAtHalves p) (undecided (q.tests + q.tests)) (Some x)) where
    abbrev front : Atom
    front = take q.tests x

    abbrev back : Atom
    back = drop q.tests x

    wide : length x ≡ q.tests + q.tests
    wide = undecided_length (q.tests + q.tests) x f.within

    front_wide : length front ≡ q.tests
    front_wide = length-take-le q.tests x (omega (arith, wide))

    back_wide : length back ≡ q.tests
    back_wide = omega (arith, wide, length-drop q.tests x)

    abbrev reason : Reason
    reason = reason_at c.style k front action back

    action_pass : ((turn_of reason).stage ≡ 3) × ((turn_of reason).number ≡ k) × ((turn_of reason).atom ≡ front) × ((turn_of reason).action ≡ turn_number action)
    action_pass = place_turn c.style k front action back

    -- the certificate fails by the reason
    turn_from_step : (s : Style) (a : ℕ) → (s ≡ Under → ⊥) → StepHolds s q c p front a → TurnHolds s q c p (Some a) front back
    turn_from_step Plain a other h = h
    turn_from_step UpTo a other h = h
    turn_from_step Under a other h = absurd (other refl)

    turn_from_move : (s : Style) (a : ℕ) → s ≡ Under → MoveHolds s q c p front (record { act = a; atom = back }) → TurnHolds s q c p (Some a) front back
    turn_from_move Plain a e h = absurd cc
    turn_from_move UpTo a e h = absurd cc
    turn_from_move Under a e h = h

    outputs_fail : (TurnHolds c.style q c p None front back → ⊥) → FailsBy q c (Output k front)
    outputs_fail never = (p, is, front_wide, never)

    place_fails : (s : Style) → c.style ≡ s → (o : Option ℕ) → turn_number o < q.actions + 1 → (TurnHolds c.style q c p o front back → ⊥) → FailsBy q c (reason_at s k front o back)
    place_fails Plain e None below never = outputs_fail never
    place_fails UpTo e None below never = outputs_fail never
    place_fails Under e None below never = outputs_fail never
    place_fails Plain e (Some a) below never = (p, is, front_wide, omega arith, λ h. never (turn_from_step c.style a (λ u. absurd cc) h))
    place_fails UpTo e (Some a) below never = (p, is, front_wide, omega arith, λ h. never (turn_from_step c.style a (λ u. absurd cc) h))
    place_fails Under e (Some a) below never = (p, is, front_wide, omega arith, back_wide, λ h. never (turn_from_move c.style a e h))

    -- and by no earlier reason
    whole : front ++ back ≡ x
    whole = take-append-drop q.tests x

    less_first : (atom to : Atom) → IsLess atom front → IsLess (atom ++ to) x
    less_first atom to h = subst (IsLess (atom ++ to)) whole (less_append atom front to back h)

    less_second : (atom to : Atom) → atom ≡ front → IsLess to back → IsLess (atom ++ to) x
    less_second atom to e h = subst (λ z. IsLess (z ++ to) x) (sym e) (subst (IsLess (front ++ to)) whole (less_behind front to back h))

    ordered : (s : Reason) → IsAmong (λ n. n ≡ turn_number action) s → IsEarlier (turn_of s) (turn_of reason) → (to : Atom) → (IsLess (turn_of s).to (turn_of reason).to → IsLess to back)
        → ((turn_of s).number < k) ⊎ (((turn_of s).number ≡ k) × IsLess ((turn_of s).atom ++ to) x)
    ordered s a e to behind =
        ⊎_elim
        (λ l. inl (omega (arith, l, action_pass.1)))
        (λ r. inr (r.0 ∙ action_pass.1, ⊎_elim (λ l. less_first (turn_of s).atom to (subst (IsLess (turn_of s).atom) action_pass.2 l)) (λ m. less_second (turn_of s).atom to (m.0 ∙ action_pass.2) (behind m.1)) r.1))
        (earlier_parts (turn_of s) (turn_of reason) (a.0 ∙ sym action_pass.0) (a.1 ∙ sym action_pass.3) e)

    never_before : (j : ℕ) (g : TestedPair) → slice_get (tested_pairs c) j ≡ Some g → (atom to : Atom) → length atom ≡ q.tests → length to ≡ q.tests → (TurnHolds c.style q c g action atom to → ⊥) → (j < k) ⊎ ((j ≡ k) × IsLess (atom ++ to) x) → ⊥
    never_before j g e atom to l m never h =
        ⊎_elim
        (λ b. never (before j b g e atom to l m))
        (λ b. never (subst (λ z. TurnHolds c.style q c z action atom to) (one_pair j k g p b.0 e is) (halves_hold p atom to l (f.least (atom ++ to) (both_extend atom to l m) b.1))))
        h

    to_of : (s : Style) (o : Option ℕ) (m : ℕ) (g : TestedPair) (atom to : Atom) → turn_number o ≡ suc m → (MoveHolds s q c g atom (record { act = m; atom = to }) → ⊥) → (turn_of (reason_at s k front o back)).to ≡ back
    to_of s None m g atom to e never = absurd (omega (arith, e))
    to_of Plain (Some a) m g atom to e never = absurd (never tt)
    to_of UpTo (Some a) m g atom to e never = absurd (never tt)
    to_of Under (Some a) m g atom to e never = refl

    none : (s : Reason) → IsAmong (λ n. n ≡ turn_number action) s → IsEarlier (turn_of s) (turn_of reason) → FailsBy q c s → ⊥
    none (Output j atom) a e g = never_before j g.0 g.1 atom back g.2 back_wide (λ h. g.3 (outputs_of c.style action g.0 atom back (sym a.1) h)) (ordered (Output j atom) a e back absurd)
    none (Missing j atom m) a e g = never_before j g.0 g.1 atom back g.2 back_wide (λ h. g.4 (step_of c.style action m g.0 atom back (sym a.1) h)) (ordered (Missing j atom m) a e back absurd)
    none (MissingTo j atom m to) a e g =
        never_before j g.0 g.1 atom to g.2 g.4 (λ h. g.5 (move_status c.style action m g.0 atom to (sym a.1) h))
        (ordered (MissingTo j atom m to) a e to (λ l. subst (IsLess to) (to_of c.style action m g.0 atom to (sym a.1) g.5) l))
    none FirstPair a e g = absurd (omega (arith, a.0))
    none (Shape j) a e g = g
    none (HypBroken h i j) a e g = g
    none EndsAgree a e g = g
    none (TestNode j) a e g = absurd (omega (arith, a.0))
    none (TermNode j) a e g = absurd (omega (arith, a.0))

    pub first_fails : IsFirstOf q c (λ n. n ≡ turn_number action) (Some (reason_at c.style k (take q.tests x) action (drop q.tests x)))
    first_fails = ((action_pass.0, action_pass.3), place_fails c.style refl action low f.fails, none)

pub tested_at : (c : CertParts) (k : ℕ) (p : PairParts) → slice_get c.pairs k ≡ Some p → slice_get (tested_pairs c) k ≡ Some (tested_pair_of (nodes_of c) p)
tested_at c k p e = slice_get-map (tested_pair_of (nodes_of c)) c.pairs k ∙ ap (option_map (tested_pair_of (nodes_of c))) e

-- an equivalent description of the turns gives the same first reason
pub first_of_same : (q : ProblemParts) (c : CertParts) (T U : ℕ → Type 0) (o : Option Reason) → ((n : ℕ) → T n ↔ U n) → IsFirstOf q c T o → IsFirstOf q c U o
first_of_same q c T U None same f = λ s a. f s (a.0, (same (turn_of s).action).1 a.1)
first_of_same q c T U (Some r) same f = ((f.0.0, (same (turn_of r).action).0 f.0.1), f.1, λ s a. f.2 s (a.0, (same (turn_of s).action).1 a.1))
