-- Rounds over pairs: a round that changes nothing, and marks that remain.
use Rattle.std.proofs.Common.{◌≡◌, ℕ, zero, suc, ⊎_elim, List, [], ◌∷◌, get_or, set, refl, ap, ◌∙◌, Bool, true, false, cond, Option, Some, None}
use Rattle.std.proofs.lemmas.Bool.{and_parts, and_from, or_cases, or_left, or_right}
use Rattle.kat_model.proofs.Places.{get_or-set_kept}
use Rattle.walk_pairs.specs.declared.items.Side.{Side}
use Rattle.walk_up_to.specs.Listings.{IdEntry, set_on, set_across}
use Rattle.walk_up_to.specs.Marks.{are_marked, with_marks, with_side_marked, with_pair_marked, round_marked, rounds_marked, are_reached, Stays}

-- after a round that changes nothing, no other round changes anything
pub rounds_stay : (n : ℕ) (ps : List IdEntry) (marks : List Bool) → round_marked ps marks ≡ marks → rounds_marked n ps marks ≡ marks
rounds_stay zero ps marks e = refl
rounds_stay (suc n) ps marks e = ap (rounds_marked n ps) e ∙ rounds_stay n ps marks e

-- ---- marks remain

marks_stay : (marks : List Bool) (ids : List ℕ) → Stays marks (with_marks marks ids)
marks_stay marks [] j e = e
marks_stay marks (i ∷ ids) j e = marks_stay (set marks i true) ids j (get_or-set_kept marks i j true false e)

pub side_stays : (side : Side) (marks : List Bool) (p : IdEntry) → Stays marks (with_side_marked side marks p)
side_stays side marks p = go (are_marked marks (set_on side p))
  where
    go : (b : Bool) → Stays marks (cond b (with_marks marks (set_across side p)) marks)
    go true = marks_stay marks (set_across side p)
    go false = λ j e. e

pub pair_stays : (marks : List Bool) (p : IdEntry) → Stays marks (with_pair_marked marks p)
pair_stays marks p = go (are_marked marks p.left) (are_marked marks p.right)
  where
    go : (b c : Bool) → Stays marks (cond b (with_marks marks p.right) (cond c (with_marks marks p.left) marks))
    go true c = marks_stay marks p.right
    go false true = marks_stay marks p.left
    go false false = λ j e. e

round_stays : (ps : List IdEntry) (marks : List Bool) → Stays marks (round_marked ps marks)
round_stays [] marks = λ j e. e
round_stays (p ∷ ps) marks = λ j e. round_stays ps (with_pair_marked marks p) j (pair_stays marks p j e)

pub rounds_keep : (n : ℕ) (ps : List IdEntry) (marks : List Bool) → Stays marks (rounds_marked n ps marks)
rounds_keep zero ps marks = λ j e. e
rounds_keep (suc n) ps marks = λ j e. rounds_keep n ps (round_marked ps marks) j (round_stays ps marks j e)

pub all_stay : (marks more : List Bool) → Stays marks more → (ids : List ℕ) → are_marked marks ids ≡ true → are_marked more ids ≡ true
all_stay marks more s [] e = refl
all_stay marks more s (i ∷ ids) e =
    let parts = and_parts (get_or marks i false) (are_marked marks ids) e in
    and_from (get_or more i false) (are_marked more ids) (s i parts.0) (all_stay marks more s ids parts.1)

-- reached targets remain reached
pub reached_stays : (marks more : List Bool) → Stays marks more → (universal : Option ℕ) (targets : List ℕ) → are_reached universal targets marks ≡ true → are_reached universal targets more ≡ true
reached_stays marks more s None targets e = all_stay marks more s targets e
reached_stays marks more s (Some u) targets e =
    ⊎_elim
    (λ h. or_left (get_or more u false) (are_marked more targets) (s u h))
    (λ h. or_right (get_or more u false) (are_marked more targets) (all_stay marks more s targets h))
    (or_cases (get_or marks u false) (are_marked marks targets) e)
