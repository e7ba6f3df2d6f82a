-- The test to decide next, and what is known if no such test exists.
use Rattle.std.proofs.Common.{◌≡◌, ℕ, ◌+◌, ◌<◌, inr, ⊎_elim, List, [], ◌∷◌, length, get_or, take, refl, ◌∙◌, subst, Bool, Option, Some, None}
use Rattle.std.specs.Option.{MatchOption}
use Rattle.std.proofs.lemmas.List.{take_more}
use Rattle.kat_model.specs.Members.{Has}
use Rattle.kat_model.proofs.Lists.{has_append}
use Rattle.certificate.specs.PairParts.{PairParts}
use Rattle.cert_checker.specs.Targets.{guard_of}
use Rattle.cert_checker.proofs.ChosenTargets.{guard_member}
use Rattle.cert_checker.specs.declared.known.TestCase.{TestCase}
use Rattle.cert_checker.specs.declared.known.Truth.{Truth}
use Rattle.cert_checker.specs.declared.known.Truth.TheVariants.{Known, Undecided as UndecidedBy}
use Rattle.cert_checker.specs.Cases.{known_of, known_test}
use Rattle.cert_checker.specs.Questions.{QuestionParts}
use Rattle.cert_checker.specs.Waiting.{IsWaited}
use Rattle.cert_checker.specs.Sides.{IsWaitedBy}
use Rattle.cert_checker.specs.Waiting.{AreTestsSettled}

-- the guard of a term waits
pub guard_waits : (known : List Truth) (es : List (ℕ × ℕ)) (term g k : ℕ) → guard_of es term ≡ Some g → known_of known g ≡ UndecidedBy k → IsWaitedBy known es k
guard_waits known es term g k at e = ((term, g), guard_member term es g at, e)

-- ---- the tests of pairs

module _ (q : QuestionParts) (c : TestCase) where
  pub pair_waits : (p : PairParts) → Has q.action_pass.pairs p → (k : ℕ) → known_test c.end.items p.test ≡ UndecidedBy k → IsWaited q c k
  pair_waits p h k e = go p.test refl e
    where
      go : (o : Option ℕ) → p.test ≡ o → known_test c.end.items o ≡ UndecidedBy k → IsWaited q c k
      go None is w = absurd cc
      go (Some g) is w = (g, inr (inr (p, h, is), w))

-- one additional pair has a test with a value
pub pairs_more : (known : List Truth) (ps : List PairParts) (i : ℕ) (p : PairParts) (o : Option ℕ) (W : ℕ → Type 0) → i < length ps → p ≡ get_or ps i p → (b : Bool) × (known_test known p.test ≡ Known b) → MatchOption o (AreTestsSettled known (take i ps)) W → MatchOption o (AreTestsSettled known (take (i + 1) ps)) W
pairs_more known ps i p (Some k) W low is value h = h
pairs_more known ps i p None W low is value h = λ r m.
    ⊎_elim
    (h r)
    (λ s. ⊎_elim (λ same. subst (λ (z : PairParts). (b : Bool) × (known_test known z.test ≡ Known b)) (is ∙ same) value) absurd s)
    (has_append (take i ps) (get_or ps i p ∷ []) r (subst (λ (l : List PairParts). Has l r) (take_more ps i p low) m))
