-- Elimination of disjunctions of several facts.
use Rattle.std.proofs.Common.{◌⊎◌, inl, inr}

pub one_of_five : {A B C D E R : Type 0} → A ⊎ (B ⊎ (C ⊎ (D ⊎ E))) → (A → R) → (B → R) → (C → R) → (D → R) → (E → R) → R
one_of_five (inl x) a b c d e = a x
one_of_five (inr (inl x)) a b c d e = b x
one_of_five (inr (inr (inl x))) a b c d e = c x
one_of_five (inr (inr (inr (inl x)))) a b c d e = d x
one_of_five (inr (inr (inr (inr x)))) a b c d e = e x

pub one_of_six : {A B C D E F R : Type 0} → A ⊎ (B ⊎ (C ⊎ (D ⊎ (E ⊎ F)))) → (A → R) → (B → R) → (C → R) → (D → R) → (E → R) → (F → R) → R
one_of_six (inl x) a b c d e f = a x
one_of_six (inr (inl x)) a b c d e f = b x
one_of_six (inr (inr (inl x))) a b c d e f = c x
one_of_six (inr (inr (inr (inl x)))) a b c d e f = d x
one_of_six (inr (inr (inr (inr (inl x))))) a b c d e f = e x
one_of_six (inr (inr (inr (inr (inr x))))) a b c d e f = f x
