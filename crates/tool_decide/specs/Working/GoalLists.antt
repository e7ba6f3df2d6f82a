-- The goals of a text in order, each with its file.
use Rattle.std.proofs.Common.{◌≡◌, ◌<◌, ◌≤◌, ℕ, zero, suc, ◌+◌, List, [], ◌∷◌, ◌++◌, map, length, take, drop, get_or, slice_get, Some, None, inl, inr, refl, sym, ap, subst, ◌∙◌, arith, take_all}
use Rattle.std.specs.Option.{option_map}
use Rattle.std.proofs.lemmas.Option.{slice_get_past, none-some, slice_get_read, slice_get-map}
use Rattle.std.proofs.lemmas.List.{length-map}
use Rattle.kat_model.specs.Members.{Has}
use Rattle.while_lang.specs.declared.file.Goal.{Goal}
use Rattle.while_lang.specs.Files.{GoalTree, FileParts}
use Rattle.while_lang.specs.Trees.{goal_tree}
use Rattle.abstraction.specs.Abstracts.{with_goal}
use Rattle.tool_decide.specs.Batch.{with_each, PosesSome, IsFirstRefused}
use Rattle.tool_inputs.specs.TextProblem.{HasNoAbstraction}

no_goal : (k : ℕ) (g : GoalTree) → slice_get [] k ≡ Some g → ⊥
no_goal k g e = let none : slice_get [] k ≡ None = slice_get_past [] k (omega arith) in none-some g (sym none ∙ e)

-- the tree of the goal at an index
pub goal_at : (gs : List Goal) (i : ℕ) (g : Goal) → i < length gs → g ≡ get_or gs i g → slice_get (map goal_tree gs) i ≡ Some (goal_tree g)
goal_at gs i g lt is = slice_get-map goal_tree gs i ∙ ap (option_map goal_tree) (slice_get_read gs (length gs) i g refl lt is)

-- a file with its own goal is the file
pub own_goal : (f v : FileParts) → v ≡ f → with_goal f v.goal ≡ f
own_goal f v e = ap (λ (x : FileParts). with_goal f x.goal) e

module _ (f : FileParts) where
  -- the file with its first goal, and with each of the first `k` other goals
  abbrev pub with_first : ℕ → List GoalTree → List FileParts
  with_first k more = f ∷ map (with_goal f) (take k more)

  others_split : (more : List GoalTree) (k : ℕ) (g : GoalTree) → slice_get more k ≡ Some g → map (with_goal f) more ≡ map (with_goal f) (take k more) ++ with_goal f g ∷ map (with_goal f) (drop (suc k) more)
  others_split [] k g e = absurd (no_goal k g e)
  others_split (x ∷ xs) zero g e = let same : x ≡ g = cc in ap (λ y. with_goal f y ∷ map (with_goal f) xs) same
  others_split (x ∷ xs) (suc k) g e = ap (λ ys. with_goal f x ∷ ys) (others_split xs k g e)

  others_next : (more : List GoalTree) (k : ℕ) (g : GoalTree) → slice_get more k ≡ Some g → map (with_goal f) (take (suc k) more) ≡ map (with_goal f) (take k more) ++ with_goal f g ∷ []
  others_next [] k g e = absurd (no_goal k g e)
  others_next (x ∷ xs) zero g e = let same : x ≡ g = cc in ap (λ y. with_goal f y ∷ []) same
  others_next (x ∷ xs) (suc k) g e = ap (λ ys. with_goal f x ∷ ys) (others_next xs k g e)

  -- the files of all goals are those before a goal, its own file, and those after it
  each_split : (more : List GoalTree) (k : ℕ) (g : GoalTree) → slice_get more k ≡ Some g → with_each f more ≡ with_first k more ++ with_goal f g ∷ map (with_goal f) (drop (suc k) more)
  each_split more k g e = ap (λ ys. f ∷ ys) (others_split more k g e)

  pub first_next : (more : List GoalTree) (k : ℕ) (g : GoalTree) → slice_get more k ≡ Some g → with_first (k + 1) more ≡ with_first k more ++ with_goal f g ∷ []
  first_next more k g e =
      let one : k + 1 ≡ suc k = omega arith in
      ap (λ n. with_first n more) one ∙ ap (λ ys. f ∷ ys) (others_next more k g e)

  others_length : (more : List GoalTree) (k : ℕ) (g : GoalTree) → slice_get more k ≡ Some g → length (map (with_goal f) (take k more)) ≡ k
  others_length [] k g e = absurd (no_goal k g e)
  others_length (x ∷ xs) zero g e = refl
  others_length (x ∷ xs) (suc k) g e = ap suc (others_length xs k g e)

  pub length_first : (more : List GoalTree) (k : ℕ) (g : GoalTree) → slice_get more k ≡ Some g → 0 + length (with_first k more) ≡ k + 1
  length_first more k g e = let all : suc (length (map (with_goal f) (take k more))) ≡ suc k = ap suc (others_length more k g e) in omega (arith, all)

  -- the file with a goal of the list is one of the files
  pub other_has : (more : List GoalTree) (k : ℕ) (g : GoalTree) → slice_get more k ≡ Some g → Has (map (with_goal f) more) (with_goal f g)
  other_has [] k g e = absurd (no_goal k g e)
  other_has (x ∷ xs) zero g e = let same : x ≡ g = cc in inl (ap (with_goal f) same)
  other_has (x ∷ xs) (suc k) g e = inr (other_has xs k g e)

  -- if the index is not below the number of goals, no goal is left out
  pub all_first : (gs : List Goal) (i : ℕ) → length gs ≤ i → with_first i (map goal_tree gs) ≡ with_each f (map goal_tree gs)
  all_first gs i past = ap (λ ys. f ∷ map (with_goal f) ys) (take_all i (map goal_tree gs) (subst (λ n. n ≤ i) (sym (length-map gs goal_tree)) past))

  -- if each file of a list asks a question, and an additional file does, so does each file of the longer list
  has_last : (xs : List FileParts) (x g : FileParts) → Has (xs ++ x ∷ []) g → ((h : FileParts) → Has xs h → PosesSome h) → PosesSome x → PosesSome g
  has_last [] x g (inl is) some one = subst PosesSome is one
  has_last [] x g (inr has) some one = elim has [ ]
  has_last (y ∷ ys) x g (inl is) some one = some g (inl is)
  has_last (y ∷ ys) x g (inr has) some one = has_last ys x g has (λ h there. some h (inr there)) one

  pub some_next : (more : List GoalTree) (k : ℕ) (g : GoalTree) → slice_get more k ≡ Some g → ((h : FileParts) → Has (with_first k more) h → PosesSome h) → PosesSome (with_goal f g) → (h : FileParts) → Has (with_first (k + 1) more) h → PosesSome h
  some_next more k g e some one h has = has_last (with_first k more) (with_goal f g) h (subst (λ xs. Has xs h) (first_next more k g e) has) some one

  -- the first refused file follows files that ask a question
  refused_behind : (before after : List FileParts) (x : FileParts) (line : List ℕ) → ((g : FileParts) → Has before g → PosesSome g) → HasNoAbstraction x line → IsFirstRefused (before ++ x ∷ after) line
  refused_behind [] after x line some none = inl none
  refused_behind (g ∷ before) after x line some none = inr (some g (inl refl), refused_behind before after x line (λ h has. some h (inr has)) none)

  pub refused_at : (more : List GoalTree) (k : ℕ) (g : GoalTree) (line : List ℕ) → slice_get more k ≡ Some g → ((h : FileParts) → Has (with_first k more) h → PosesSome h) → HasNoAbstraction (with_goal f g) line → IsFirstRefused (with_each f more) line
  refused_at more k g line e some none = subst (λ xs. IsFirstRefused xs line) (sym (each_split more k g e)) (refused_behind (with_first k more) (map (with_goal f) (drop (suc k) more)) (with_goal f g) line some none)
