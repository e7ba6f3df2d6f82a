-- A loop is left at once, or its body is entered and the loop runs again.
use Rattle.std.proofs.Common.{◌≡◌, ℕ, zero, suc, ◌+◌, false, ◌⊎◌, inl, inr, refl, subst, arith}
use Rattle.kat_model.specs.Expressions.{CondTree}
use Rattle.kat_model.specs.Stores.{Store}
use Rattle.kat_model.specs.declared.expression.Width.{Width}
use Rattle.while_lang.specs.Programs.{ProgTree, loop_then}
use Rattle.while_lang.specs.Runs.{condition, Then, Enters, Goes}
use Rattle.while_lang.specs.Laws.{LoopsAgain}

pub loops_again : (w : Width) (b : CondTree) (p rest : ProgTree) (s : Store) (k : ℕ) (t : Store) → LoopsAgain w b p rest s k t
loops_again w b p rest s k t = (there, back)
  where
    there : Goes w (loop_then b p rest) s k t → ((condition w b s ≡ false) × Goes w rest s k t) ⊎ Then (Enters (condition w b) (Goes w p)) (Goes w (loop_then b p rest)) s k t
    there (i, j, u, (zero, (left, (none, stays))), goes, sum) =
        inl (left, subst (λ (v : Store). Goes w rest v k t) stays (subst (λ (n : ℕ). Goes w rest u n t) (omega (arith, none, sum)) goes))
    there (i, j, u, (suc n, (i1, j1, u1, entered, turns, sum1)), goes, sum) =
        inr (i1, j1 + j, u1, entered, (j1, j, u, (n, turns), goes, refl), omega (arith, sum, sum1))

    back : ((condition w b s ≡ false) × Goes w rest s k t) ⊎ Then (Enters (condition w b) (Goes w p)) (Goes w (loop_then b p rest)) s k t → Goes w (loop_then b p rest) s k t
    back (inl (left, goes)) = (0, k, s, (0, (left, (refl, refl))), goes, omega arith)
    back (inr (i1, l, u1, entered, (j1, j, u, (n, turns), goes, sum), sum1)) =
        (i1 + j1, j, u, (suc n, (i1, j1, u1, entered, turns, refl)), goes, omega (arith, sum, sum1))
