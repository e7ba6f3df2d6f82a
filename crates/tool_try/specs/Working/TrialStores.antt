-- The stores on which the goal of a file is tried are stores of the file.
use Rattle.std.proofs.Common.{◌≡◌, ℕ, zero, suc, List, [], ◌∷◌, ◌++◌, length, slice_get, Some, sym, ap, ◌∙◌, subst}
use Rattle.std.specs.Prelude.{All}
use Rattle.std.proofs.lemmas.List.Elements.{All-head, All-tail, All-append, All-filter, All-weaker}
use Rattle.std.proofs.lemmas.Option.{same_Some, none-some}
use Rattle.kat_model.specs.Stores.{Store, IsStore}
use Rattle.kat_model.specs.Strings.{GuardedString}
use Rattle.while_lang.specs.Files.{FileParts}
use Rattle.while_lang.specs.Concrete.{IsStoreOf}
use Rattle.abstraction.specs.Abstracts.{AbstractParts}
use Rattle.store_trials.specs.Following.{is_followed, followers}
use Rattle.store_trials.specs.Numbers.{AreTriedNumbers}
use Rattle.store_trials.specs.StoreLists.{all_stores}
use Rattle.store_trials.specs.Trials.{IsTrial, IsConcreteGoal}
use Rattle.store_trials.specs.declared.trials.Trial.{Trial}
use Rattle.store_trials.proofs.StoreBounds.{all_within, numbers_within, one_list_of_numbers}
use Rattle.tool_try.specs.TryTexts.{trial_text, trial_status}
use Rattle.tool_try.specs.Try.{AreTrialStores, HasTried}

pub all_at : (P : Store → Type 0) (stores : List Store) (i : ℕ) (s : Store) → All P stores → slice_get stores i ≡ Some s → P s
all_at P [] i s all e = absurd (none-some s e)
all_at P (t ∷ stores) zero s all e = subst P (same_Some t s e) (All-head P t stores all)
all_at P (t ∷ stores) (suc i) s all e = all_at P stores i s (All-tail P t stores all) e

-- the stores over the numbers of the file's goal are its trial stores, and stores of the file
module _ (f view : FileParts) (same : view ≡ f) (stores : List Store) where
  pub trial_stores_are : (ns slice : List ℕ) → slice ≡ ns → AreTriedNumbers view.width view.goal ns → stores ≡ all_stores view.width slice view.vars → AreTrialStores f stores
  trial_stores_are ns slice is are listed =
      let own : AreTrialStores view stores = record { numbers = ns; are_numbers = are; listed = listed ∙ ap (λ (l : List ℕ). all_stores view.width l view.vars) is } in
      subst (λ (g : FileParts). AreTrialStores g stores) same own

  pub stores_of_file : All (λ s. (length s ≡ view.vars) × IsStore view.width s) stores → All (IsStoreOf f) stores
  stores_of_file all = subst (λ (g : FileParts). All (IsStoreOf g) stores) same all

  -- the goal of a file is tried on stores of the file
  pub goal_of_file : IsConcreteGoal f.goal → IsConcreteGoal view.goal
  goal_of_file is = subst (λ (g : FileParts). IsConcreteGoal g.goal) (sym same) is

  pub stores_within : All (IsStoreOf f) stores → All (IsStore view.width) stores
  stores_within all = All-weaker (IsStoreOf view) (IsStore view.width) (λ s h. h.1) stores (subst (λ (g : FileParts). All (IsStoreOf g) stores) (sym same) all)

  pub has_tried : (turns : ℕ) (trial : Trial) (status : ℕ) (output : List ℕ) → IsTrial view.width turns view.goal stores trial → status ≡ trial_status trial → output ≡ trial_text view.scope (length stores) trial → HasTried f turns stores status output
  has_tried turns trial status output is ends printed =
      let own : HasTried view turns stores status output = record { trial = trial; is_trial = is; has_status = ends; printed = printed } in
      subst (λ (g : FileParts). HasTried g turns stores status output) same own

pub trial_stores_within : (f : FileParts) (stores : List Store) → AreTrialStores f stores → All (IsStoreOf f) stores
trial_stores_within f stores are = subst (All (IsStoreOf f)) (sym are.listed) (all_within f.width are.numbers (numbers_within f.width f.goal are.numbers are.are_numbers) f.vars)

-- so are those from which a string can be followed, and both lists in turn
pub followers_within : (f : FileParts) (a : AbstractParts) (x : GuardedString) (stores : List Store) → All (IsStoreOf f) stores → All (IsStoreOf f) (followers a x stores ++ stores)
followers_within f a x stores all = All-append (IsStoreOf f) (followers a x stores) stores (All-filter (is_followed a x) (IsStoreOf f) stores all) all

pub trial_store_of : (f : FileParts) (stores : List Store) → AreTrialStores f stores → (s : Store) (i : ℕ) → slice_get stores i ≡ Some s → IsStoreOf f s
trial_store_of f stores are s i e = all_at (IsStoreOf f) stores i s (trial_stores_within f stores are) e

pub follower_of : (f : FileParts) (a : AbstractParts) (x : GuardedString) (stores : List Store) → AreTrialStores f stores → (s : Store) (i : ℕ) → slice_get (followers a x stores ++ stores) i ≡ Some s → IsStoreOf f s
follower_of f a x stores are s i e = all_at (IsStoreOf f) (followers a x stores ++ stores) i s (followers_within f a x stores (trial_stores_within f stores are)) e

-- a file has one list of stores
pub one_list : (f : FileParts) (xs ys : List Store) → AreTrialStores f xs → AreTrialStores f ys → xs ≡ ys
one_list f xs ys x y =
    x.listed ∙ ap (λ (ns : List ℕ). all_stores f.width ns f.vars) (one_list_of_numbers f.width f.goal x.numbers y.numbers x.are_numbers y.are_numbers) ∙ sym y.listed
