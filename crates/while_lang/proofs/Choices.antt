-- The chosen part of a run, by cases.
use Rattle.std.proofs.Common.{◌≡◌, ◌⊎◌, inl, inr, Bool, true, false, refl}
use Rattle.while_lang.specs.Runs.{Chosen}

pub chosen_parts : {A B : Type 0} (b : Bool) → Chosen b A B → ((b ≡ true) × A) ⊎ ((b ≡ false) × B)
chosen_parts true h = inl (refl, h)
chosen_parts false h = inr (refl, h)

pub parts_chosen : {A B : Type 0} (b : Bool) → ((b ≡ true) × A) ⊎ ((b ≡ false) × B) → Chosen b A B
parts_chosen true (inl h) = h.1
parts_chosen true (inr h) = absurd cc
parts_chosen false (inl h) = absurd cc
parts_chosen false (inr h) = h.1
