-- Ends of runs that show that a goal is false from a store, and that it does not hold for all stores.
use Rattle.std.proofs.Common.{◌≡◌, ℕ, ◌+◌, inl, inr, List, [], ◌∷◌, refl, sym, ap, ◌∙◌, subst, Bool, true, ◌&&◌, arith}
use Rattle.std.proofs.lemmas.Bool.{both_ways}
use Rattle.kat_model.specs.Expressions.{CondTree, always, never, named, compared, negation, both, either}
use Rattle.kat_model.specs.Stores.{Store, holds}
use Rattle.kat_model.specs.declared.expression.Width.{Width}
use Rattle.while_lang.specs.Programs.{ProgTree, empty, skip_then, abort_then, assert_then, act_then, assign_then, branch_then, loop_then, is_concrete_cond, is_concrete}
use Rattle.while_lang.specs.Runs.{Ends, HasOutcome, HasOneOutcome}
use Rattle.while_lang.specs.declared.outcome.Outcome.{Outcome}
use Rattle.while_lang.specs.declared.outcome.Outcome.TheVariants.{Done, Stuck, More}
use Rattle.while_lang.proofs.Outcomes.{one_outcome}
use Rattle.one_loop.proofs.KeptStores.{goes_kept}
use Rattle.while_lang.specs.Files.{term_side, prog_side, GoalTree, equal, below, triple, FileParts}
use Rattle.while_lang.specs.Ranges.{IsCondInRange, IsProgInRange, IsGoalInRange}
use Rattle.while_lang.specs.Concrete.{PosesProgs, IsConcrete, IsStoreOf, EndAlike, MeetsTriple, GoalAgrees}
use Rattle.store_trials.specs.RunEnds.{EndParts}
use Rattle.store_trials.specs.Trials.{EndApart, BreaksTriple, IsFalseFrom, OutcomesDiffer, OutcomeFails, AreEnds, ShowFalse, IsConcreteGoal}
use Rattle.store_trials.specs.Laws.{IsFalse}

-- ---- a goal over no tests and no actions is concrete

and_true : {a b : Bool} → a ≡ true → b ≡ true → (a && b) ≡ true
and_true {a} {b} x y = ap (λ c. c && b) x ∙ y

module _ (v : ℕ) where
  cond_is_concrete : (b : CondTree) → IsCondInRange 0 v b → is_concrete_cond b ≡ true
  cond_is_concrete always h = refl
  cond_is_concrete never h = refl
  cond_is_concrete (named k) h = absurd (omega (arith, h))
  cond_is_concrete (compared r e f) h = refl
  cond_is_concrete (negation b) h = cond_is_concrete b h
  cond_is_concrete (both b c) h = and_true (cond_is_concrete b h.0) (cond_is_concrete c h.1)
  cond_is_concrete (either b c) h = and_true (cond_is_concrete b h.0) (cond_is_concrete c h.1)

  prog_is_concrete : (p : ProgTree) → IsProgInRange 0 0 v p → is_concrete p ≡ true
  prog_is_concrete empty h = refl
  prog_is_concrete (skip_then rest) h = prog_is_concrete rest h
  prog_is_concrete (abort_then rest) h = prog_is_concrete rest h
  prog_is_concrete (assert_then b rest) h = and_true (cond_is_concrete b h.0) (prog_is_concrete rest h.1)
  prog_is_concrete (act_then a rest) h = absurd (omega (arith, h.0))
  prog_is_concrete (assign_then x e rest) h = prog_is_concrete rest h.2
  prog_is_concrete (branch_then b p q rest) h =
      and_true (and_true (cond_is_concrete b h.0) (and_true (prog_is_concrete p h.1) (prog_is_concrete q h.2))) (prog_is_concrete rest h.3)
  prog_is_concrete (loop_then b p rest) h = and_true (and_true (cond_is_concrete b h.0) (prog_is_concrete p h.1)) (prog_is_concrete rest h.2)

  goal_is_concrete : (g : GoalTree) → PosesProgs g → IsGoalInRange 0 0 v g → IsConcreteGoal g
  goal_is_concrete (equal (prog_side p) (prog_side q)) poses h = (prog_is_concrete p h.0, prog_is_concrete q h.1)
  goal_is_concrete (equal (prog_side p) (term_side e)) poses h = absurd poses
  goal_is_concrete (equal (term_side e) t) poses h = absurd poses
  goal_is_concrete (below s t) poses h = absurd poses
  goal_is_concrete (triple b (prog_side p) c) poses h = prog_is_concrete p h.1
  goal_is_concrete (triple b (term_side e) c) poses h = absurd poses

-- the goal of a concrete file is concrete
pub concrete_goal : (f : FileParts) → IsConcrete f → IsGoalInRange f.tests f.actions f.vars f.goal → IsConcreteGoal f.goal
concrete_goal f concrete range =
    goal_is_concrete f.vars f.goal concrete.poses
    (subst (λ t. IsGoalInRange t 0 f.vars f.goal) concrete.tests (subst (λ a. IsGoalInRange f.tests a f.vars f.goal) concrete.actions range))

-- ---- runs have one end

module _ (w : Width) (p : ProgTree) (s : Store) (concrete : is_concrete p ≡ true) where
  -- two ends of a program are the same
  ends_once : (t u : Store) → Ends w p s t → Ends w p s u → t ≡ u
  ends_once t u (j, x) (k, y) =
      let one : HasOneOutcome w p s (j + k) = one_outcome w p s (j + k) concrete in
      (one.only Done t (j, omega arith, x)).1 ∙ sym (one.only Done u (k, omega arith, y)).1

  -- a program that is stuck does not end
  stuck_never_ends : (n : ℕ) (t u : Store) → HasOutcome w p s n Stuck t → Ends w p s u → ⊥
  stuck_never_ends n t u (j, least, x) (k, y) =
      let one : HasOneOutcome w p s (j + k) = one_outcome w p s (j + k) concrete in
      let both : Stuck ≡ Done = (one.only Stuck t (j, omega arith, x)).0 ∙ sym (one.only Done u (k, omega arith, y)).0 in
      absurd cc

-- ---- what ends show

module _ (w : Width) (n : ℕ) (p q : ProgTree) (s : Store) (first : is_concrete p ≡ true) (second : is_concrete q ≡ true) where
  differ_apart : (o r : Outcome) (t u : Store) → HasOutcome w p s n o t → HasOutcome w q s n r u → OutcomesDiffer o t r u → EndApart w p q s
  differ_apart Done Done t u (j, least, x) (k, few, y) apart = inl (t, (j, x), λ h. apart (ends_once w q s second t u h (k, y)))
  differ_apart Done Stuck t u (j, least, x) y apart = inl (t, (j, x), stuck_never_ends w q s second n u t y)
  differ_apart Done More t u x y apart = absurd apart
  differ_apart Stuck Done t u x (k, few, y) apart = inr (u, stuck_never_ends w p s first n t u x, (k, y))
  differ_apart Stuck Stuck t u x y apart = absurd apart
  differ_apart Stuck More t u x y apart = absurd apart
  differ_apart More r t u x y apart = absurd apart

fails_break : (w : Width) (n : ℕ) (b : CondTree) (p : ProgTree) (c : CondTree) (s : Store) (o : Outcome) (t : Store) → HasOutcome w p s n o t → holds w s b ≡ true → OutcomeFails w c o t → BreaksTriple w b p c s
fails_break w n b p c s Done t (k, few, x) starts fails = (starts, (t, (k, x), fails))
fails_break w n b p c s Stuck t x starts fails = absurd fails
fails_break w n b p c s More t x starts fails = absurd fails

pub false_from : (w : Width) (n : ℕ) (g : GoalTree) (s : Store) (ends : List EndParts) → IsConcreteGoal g → AreEnds w n g s ends → ShowFalse w g s ends → IsFalseFrom w g s
false_from w n (equal (prog_side p) (prog_side q)) s (d ∷ e ∷ []) concrete are show = differ_apart w n p q s concrete.0 concrete.1 d.outcome e.outcome d.store e.store are.0 are.1 show
false_from w n (equal (prog_side p) (prog_side q)) s [] concrete are show = absurd are
false_from w n (equal (prog_side p) (prog_side q)) s (d ∷ []) concrete are show = absurd are
false_from w n (equal (prog_side p) (prog_side q)) s (d ∷ e ∷ x ∷ es) concrete are show = absurd are
false_from w n (equal (prog_side p) (term_side e)) s ends concrete are show = absurd concrete.1
false_from w n (equal (term_side e) t) s ends concrete are show = absurd concrete.0
false_from w n (below l r) s ends concrete are show = absurd concrete
false_from w n (triple b (prog_side p) c) s (e ∷ []) concrete are show = fails_break w n b p c s e.outcome e.store are show.0 show.1
false_from w n (triple b (prog_side p) c) s [] concrete are show = absurd are
false_from w n (triple b (prog_side p) c) s (d ∷ e ∷ es) concrete are show = absurd are
false_from w n (triple b (term_side e) c) s ends concrete are show = absurd concrete

-- ---- the goal does not hold for all stores

module _ (f : FileParts) (s : Store) (is : IsStoreOf f s) where
  end_is_store : (p : ProgTree) (t : Store) → Ends f.width p s t → IsStoreOf f t
  end_is_store p t (k, x) = let kept = goes_kept f.width p s k t is.1 x in (kept.1 ∙ is.0, kept.0)

  apart_disagree : (p q : ProgTree) → EndApart f.width p q s → EndAlike f p q → ⊥
  apart_disagree p q (inl (t, there, none)) alike = none ((alike s t is (end_is_store p t there)).0 there)
  apart_disagree p q (inr (t, none, there)) alike = none ((alike s t is (end_is_store q t there)).1 there)

  breaks_disagree : (b : CondTree) (p : ProgTree) (c : CondTree) → BreaksTriple f.width b p c s → MeetsTriple f b p c → ⊥
  breaks_disagree b p c (starts, (t, there, fails)) meets = both_ways (holds f.width t c) fails (meets s t is (end_is_store p t there) starts there)

  false_disagrees : (g : GoalTree) → IsFalseFrom f.width g s → GoalAgrees f g → ⊥
  false_disagrees (equal (prog_side p) (prog_side q)) wrong agrees = apart_disagree p q wrong agrees
  false_disagrees (equal (prog_side p) (term_side e)) wrong agrees = absurd agrees
  false_disagrees (equal (term_side e) t) wrong agrees = absurd agrees
  false_disagrees (below l r) wrong agrees = absurd agrees
  false_disagrees (triple b (prog_side p) c) wrong agrees = breaks_disagree b p c wrong agrees
  false_disagrees (triple b (term_side e) c) wrong agrees = absurd agrees

pub shown_false : (f : FileParts) (s : Store) (n : ℕ) (ends : List EndParts) → IsConcrete f → IsGoalInRange f.tests f.actions f.vars f.goal → IsStoreOf f s
    → AreEnds f.width n f.goal s ends → ShowFalse f.width f.goal s ends → IsFalse f s
shown_false f s n ends concrete range is are show =
    let from : IsFalseFrom f.width f.goal s = false_from f.width n f.goal s ends (concrete_goal f concrete range) are show in
    record { from = from; not_agrees = false_disagrees f s is f.goal from }
