-- Tests on which diagrams depend, checked one after the other.
use Rattle.std.proofs.Common.{◌≡◌, ◌+◌, ◌<◌, ◌≢◌, ◌⊎◌, ⊎_elim, ℕ, Bool, true, false, List, [], ◌∷◌, ◌++◌, length, get_or, set, refl, sym, ◌∙◌, subst, arith}
use Rattle.std.proofs.lemmas.Bool.{true≢false, false≢true, cases_eq}
use Rattle.std.proofs.lemmas.Grind.{get_or-set_at}
use Rattle.std.proofs.lemmas.List.{get_or_default, get_or-set_other}
use Rattle.kat_model.proofs.Lists.{has_append}
use Rattle.test_diagrams.specs.Functions.{DiagramsParts, IsDiagramId, IsIndependent, KeepsFunctions}
use Rattle.walk_regions.specs.Working.Querying.{IsUnaskedTest, Poses, AreFreshTests}
use Rattle.walk_regions.proofs.ImageTables.{independent_kept}

pub fresh_first : (d : DiagramsParts) (id : ℕ) (queried : List Bool) → AreFreshTests d id queried queried 0 []
fresh_first d id queried = record { still = λ t u. u; free = λ t l u. absurd (omega arith); first = λ t h. absurd h }

module _ (c d : DiagramsParts) (kept : KeepsFunctions c d) (id : ℕ) (is : IsDiagramId c id) (old queried new : List Bool) (i : ℕ) (fresh : List ℕ) (so_far : AreFreshTests c id old queried i fresh) where
  module _ (answer : Bool) (a : Poses d id queried new i answer) where
    still : (t : ℕ) → IsUnaskedTest new t → IsUnaskedTest old t
    still t u = so_far.still t (a.still t u)

    free : (t : ℕ) → t < i + 1 → IsUnaskedTest new t → IsIndependent d id t
    free t l u = ⊎_elim (λ lt. independent_kept c d kept id t is (so_far.free t lt (a.still t u))) (λ e. subst (IsIndependent d id) (sym e) (a.free (subst (IsUnaskedTest new) e u))) (cases t l)
      where
        cases : (t : ℕ) → t < i + 1 → (t < i) ⊎ (t ≡ i)
        cases t l = grind arith

    pub fresh_skipped : AreFreshTests d id old new (i + 1) fresh
    fresh_skipped = record { still = still; free = free; first = so_far.first }

    pub fresh_pushed : answer ≡ true → AreFreshTests d id old new (i + 1) (fresh ++ i ∷ [])
    fresh_pushed queries = record {
      still = still;
      free = free;
      first = λ t h. ⊎_elim (so_far.first t) (λ m. ⊎_elim (λ e. subst (IsUnaskedTest old) e (so_far.still i (a.fresh queries))) absurd m) (has_append fresh (i ∷ []) t h);
    }

-- ---- one test

module _ (d : DiagramsParts) (id : ℕ) (queried : List Bool) (test : ℕ) (within : test < length queried) where
  pub queried_before : get_or queried test false ≡ true → Poses d id queried queried test false
  queried_before was = record {
    still = λ t u. u;
    free = λ u. absurd (true≢false (sym was ∙ get_or_default queried test false true within ∙ u));
    fresh = λ h. absurd (false≢true h);
  }

  module _ (unasked : get_or queried test false ≡ false) (answer : Bool) where
    fresh : answer ≡ true → IsUnaskedTest queried test
    fresh h = get_or_default queried test true false within ∙ unasked

    pub queried_now : Poses d id queried (set queried test true) test answer
    queried_now = record { still = λ t u. still t u (cases_eq t test); free = λ u. absurd (true≢false (sym (get_or-set_at queried test test true true refl within) ∙ u)); fresh = fresh }
      where
        still : (t : ℕ) → IsUnaskedTest (set queried test true) t → (t ≡ test) ⊎ (t ≢ test) → IsUnaskedTest queried t
        still t u c = ⊎_elim (λ e. absurd (true≢false (sym (get_or-set_at queried test t true true e within) ∙ u))) (λ other. sym (get_or-set_other queried test t true true other) ∙ u) c

    pub queried_never : answer ≡ false → (answer ≡ false → IsIndependent d id test) → Poses d id queried queried test answer
    queried_never is free = record { still = λ t u. u; free = λ u. free is; fresh = fresh }
