-- Ids that rounds over pairs cannot mark.
use Rattle.std.proofs.Common.{◌≡◌, ℕ, zero, suc, ◌⊎◌, inl, inr, ⊎_elim, List, [], ◌∷◌, get_or, set, refl, sym, ap, ◌∙◌, subst, Bool, true, false, ◌&&◌, ◌||◌, cond, Option, Some, None}
use Rattle.std.proofs.lemmas.Bool.{and_right}
use Rattle.kat_model.specs.Members.{Has}
use Rattle.kat_model.proofs.Places.{get_or-set_cases}
use Rattle.walk_up_to.specs.Listings.{IdEntry}
use Rattle.walk_up_to.specs.Marks.{are_marked, with_marks, with_pair_marked, round_marked, rounds_marked, are_reached, ListedPairsParts, AreMembers, AllMarked, Stays}
use Rattle.walk_up_to.proofs.MarkSteps.{rounds_keep}
use Rattle.walk_up_to.proofs.Memberships.{AreWithin}

-- each new mark was there before or is in `all`
abbrev pub IsFrom : List Bool → List Bool → List Bool → Type 0
IsFrom all marks more = (j : ℕ) → get_or more j false ≡ true → (get_or marks j false ≡ true) ⊎ (get_or all j false ≡ true)

marks_from : (all marks : List Bool) (ids : List ℕ) → AllMarked all ids → IsFrom all marks (with_marks marks ids)
marks_from all marks [] s j e = inl e
marks_from all marks (i ∷ ids) s j e =
    ⊎_elim
    (λ h. ⊎_elim (λ own. inr (subst (λ k. get_or all k false ≡ true) (sym own) (s i (inl refl)))) inl (get_or-set_cases marks i j true true false h))
    inr
    (marks_from all (set marks i true) ids (λ x h. s x (inr h)) j e)

pair_from : (all marks : List Bool) (p : IdEntry) → AllMarked all p.left → AllMarked all p.right → IsFrom all marks (with_pair_marked marks p)
pair_from all marks p left right = go (are_marked marks p.left) (are_marked marks p.right)
  where
    go : (b c : Bool) → IsFrom all marks (cond b (with_marks marks p.right) (cond c (with_marks marks p.left) marks))
    go true c = marks_from all marks p.right right
    go false true = marks_from all marks p.left left
    go false false = λ j e. inl e

round_from : (all : List Bool) (ps : List IdEntry) (marks : List Bool) → AreWithin ps all → IsFrom all marks (round_marked ps marks)
round_from all [] marks w = λ j e. inl e
round_from all (p ∷ ps) marks w = λ j e.
    ⊎_elim
    (λ h. pair_from all marks p (w p (inl refl)).0 (w p (inl refl)).1 j h)
    inr
    (round_from all ps (with_pair_marked marks p) (λ q h. w q (inr h)) j e)

rounds_from : (all : List Bool) (n : ℕ) (ps : List IdEntry) (marks : List Bool) → AreWithin ps all → IsFrom all marks (rounds_marked n ps marks)
rounds_from all zero ps marks w = λ j e. inl e
rounds_from all (suc n) ps marks w = λ j e.
    ⊎_elim (λ h. round_from all ps marks w j h) inr (rounds_from all n ps (round_marked ps marks) w j e)

-- so any other mark is unchanged
same_bool : (a b : Bool) → (b ≡ true → a ≡ true) → (a ≡ true → b ≡ true) → a ≡ b
same_bool true true f g = refl
same_bool true false f g = sym (g refl)
same_bool false true f g = f refl
same_bool false false f g = refl

other_same : (all marks more : List Bool) → Stays marks more → IsFrom all marks more → (j : ℕ) → (get_or all j false ≡ true → ⊥) → get_or more j false ≡ get_or marks j false
other_same all marks more s f j none = same_bool (get_or more j false) (get_or marks j false) (s j) (λ e. ⊎_elim (λ h. h) (λ h. absurd (none h)) (f j e))

pub one_unmarked : (marks : List Bool) (ids : List ℕ) (t : ℕ) → Has ids t → get_or marks t false ≡ false → are_marked marks ids ≡ false
one_unmarked marks [] t h e = absurd h
one_unmarked marks (i ∷ ids) t h e =
    ⊎_elim
    (λ own. ap (λ (b : Bool). b && are_marked marks ids) (subst (λ k. get_or marks k false ≡ false) (sym own) e))
    (λ r. and_right (get_or marks i false) (are_marked marks ids) (one_unmarked marks ids t r e))
    h

-- if neither the universal term nor some target is marked or a member of a pair, rounds do not change whether the
-- targets are reached
pub stays_out : (r : ListedPairsParts) (marks : List Bool) (targets : List ℕ) (n : ℕ) → AreMembers r
    → ((u : ℕ) → r.universal ≡ Some u → get_or r.members u false ≡ true → ⊥)
    → (t : ℕ) → Has targets t → get_or marks t false ≡ false → (get_or r.members t false ≡ true → ⊥)
    → are_reached r.universal targets (rounds_marked n r.pairs marks) ≡ are_reached r.universal targets marks
stays_out r marks targets n w none t target off out = go r.universal none
  where
    more : List Bool
    more = rounds_marked n r.pairs marks

    same : (j : ℕ) → (get_or r.members j false ≡ true → ⊥) → get_or more j false ≡ get_or marks j false
    same = other_same r.members marks more (rounds_keep n r.pairs marks) (rounds_from r.members n r.pairs marks w)

    all : are_marked more targets ≡ are_marked marks targets
    all = one_unmarked more targets t target (same t out ∙ off) ∙ sym (one_unmarked marks targets t target off)

    go : (o : Option ℕ) → ((u : ℕ) → o ≡ Some u → get_or r.members u false ≡ true → ⊥) → are_reached o targets more ≡ are_reached o targets marks
    go None f = all
    go (Some u) f = ap (λ (b : Bool). b || are_marked more targets) (same u (f u refl)) ∙ ap (λ (b : Bool). get_or marks u false || b) all
