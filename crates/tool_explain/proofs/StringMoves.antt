-- The next move of a string, read from the list of its moves.
use Rattle.std.proofs.Common.{◌≡◌, ℕ, List, length, slice_get, Option, Some, None, true, false, nat_eq, refl, sym, ap, ◌∙◌, inl, inr}
use Rattle.std.specs.Option.{option_map}
use Rattle.std.specs.List.{ItemBy}
use Rattle.std.proofs.lemmas.Bool.Decides.{eqb_tells}
use Rattle.std.proofs.lemmas.Option.{slice_get_past, slice_get_read}
use Rattle.kat_model.specs.Strings.{Move, GuardedString}
use Rattle.tool_explain.specs.Working.Walks.{is_act_of, is_next}

-- an element borrowed from a list is the element at that place
pub item_read : {R X : Type 0} (now : R → X) (xs : List X) (i : ℕ) (found : Option R) → ItemBy now xs i i found → slice_get xs i ≡ option_map now found
item_read now xs i None item = slice_get_past xs i item.3
item_read now xs i (Some x) item = slice_get_read xs (length xs) i (now x) refl item.3.0 item.1

module _ {R : Type 0} (now : R → Move) (x : GuardedString) (moves : List Move) (k a : ℕ) (found : Option R) (same : moves ≡ x.rest) (item : ItemBy now moves k k found) where
  next_by : is_next x k a ≡ is_act_of (option_map now found) a
  next_by = ap (λ (o : Option Move). is_act_of o a) (ap (λ (l : List Move). slice_get l k) (sym same) ∙ item_read now moves k found item)

  next_is : (m : R) → found ≡ Some m → is_next x k a ≡ nat_eq (now m).act a
  next_is m is = next_by ∙ ap (λ (o : Option R). is_act_of (option_map now o) a) is

  -- the next move is this action, or another one, or there is none
  pub next_same : (m : R) → found ≡ Some m → (now m).act ≡ a → true ≡ is_next x k a
  next_same m is here = elim (eqb_tells (now m).act a) [
    | inl same ↦ sym (next_is m is ∙ same.0)
    | inr other ↦ absurd (other.1 here)
  ]

  pub next_other : (m : R) → found ≡ Some m → ((now m).act ≡ a → ⊥) → false ≡ is_next x k a
  next_other m is apart = elim (eqb_tells (now m).act a) [
    | inl same ↦ absurd (apart same.1)
    | inr other ↦ sym (next_is m is ∙ other.0)
  ]

  pub next_none : found ≡ None → false ≡ is_next x k a
  next_none is = sym (next_by ∙ ap (λ (o : Option R). is_act_of (option_map now o) a) is)
