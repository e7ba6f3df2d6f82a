-- The status of a clause with an additional literal.
use Rattle.std.proofs.Common.{◌≡◌, ◌⊎◌, inl, inr, ⊎_elim, List, [], ◌∷◌, ◌++◌, sym, ◌∙◌, subst}
use Rattle.kat_model.specs.Members.{Has}
use Rattle.kat_model.proofs.Lists.{has_left, has_at, has_pushed}
use Rattle.lrat_checker.specs.Propagation.{IsFalsified, IsUnit, IsOpen}
use Rattle.lrat_checker.specs.Working.Steps.{IsStatus}
use Rattle.lrat_checker.specs.declared.literal.Literal.{Literal}
use Rattle.lrat_checker.specs.declared.status.Status.{Status}
use Rattle.lrat_checker.specs.declared.status.Status.TheVariants.{AllFalse, OneOpen, TwoOpen}

module _ (falses done : List Literal) (l : Literal) where
  -- an additional literal in a clause that is neither falsified nor unit
  pub open_more : IsOpen falses done → IsOpen falses (done ++ l ∷ [])
  open_more both = record {
    not_falsified = λ all. both.not_falsified (λ m h. all m (has_left done (l ∷ []) m h));
    not_unit = λ k u. both.not_falsified (λ m h. ⊎_elim (λ e. absurd (both.not_unit k (within k u (subst (λ x. Has done x) e h)))) (λ f. f) (u.others m (has_left done (l ∷ []) m h)));
  }
    where
      within : (k : Literal) → IsUnit falses (done ++ l ∷ []) k → Has done k → IsUnit falses done k
      within k u here = record { member = here; not_false = u.not_false; others = λ m h. u.others m (has_left done (l ∷ []) m h) }

  unit_more : (first : Literal) → ((m : Literal) → l ≡ m → (m ≡ first) ⊎ Has falses m) → IsUnit falses done first → IsUnit falses (done ++ l ∷ []) first
  unit_more first last u = record {
    member = has_left done (l ∷ []) first u.member;
    not_false = u.not_false;
    others = λ m h. ⊎_elim (λ k. u.others m k) (λ e. last m e) (has_pushed done l m h);
  }

  -- an additional literal that is false
  pub status_false : Has falses l → (s : Status) → IsStatus falses done s → IsStatus falses (done ++ l ∷ []) s
  status_false here AllFalse all = λ m h. ⊎_elim (λ k. all m k) (λ e. subst (λ x. Has falses x) e here) (has_pushed done l m h)
  status_false here (OneOpen first) u = unit_more first (λ m e. inr (subst (λ x. Has falses x) e here)) u
  status_false here TwoOpen both = open_more both

  -- the first literal that is not false
  pub status_first : (Has falses l → ⊥) → IsFalsified falses done → IsUnit falses (done ++ l ∷ []) l
  status_first miss all = record {
    member = has_at done l [];
    not_false = miss;
    others = λ m h. ⊎_elim (λ k. inr (all m k)) (λ e. inl (sym e)) (has_pushed done l m h);
  }

  -- the same literal again
  pub status_again : (first : Literal) → first ≡ l → IsUnit falses done first → IsUnit falses (done ++ l ∷ []) first
  status_again first e u = unit_more first (λ m f. inl (sym (e ∙ f))) u

  -- another literal that is not false
  pub status_second : (first : Literal) → (first ≡ l → ⊥) → (Has falses l → ⊥) → IsUnit falses done first → IsOpen falses (done ++ l ∷ [])
  status_second first differ miss u = record {
    not_falsified = λ all. u.not_false (all first (has_left done (l ∷ []) first u.member));
    not_unit = λ k other.
        let here : first ≡ k = ⊎_elim (λ e. e) (λ f. absurd (u.not_false f)) (other.others first (has_left done (l ∷ []) first u.member)) in
        let there : l ≡ k = ⊎_elim (λ e. e) (λ f. absurd (miss f)) (other.others l (has_at done l [])) in
        differ (here ∙ sym there);
  }
