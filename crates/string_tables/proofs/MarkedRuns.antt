-- The marks of a term along a string: a set of remaining terms accepts the rest of the string if the term accepts the
-- string from some earlier beginning on. So the end of the term is reached where such a part ends.
use Rattle.std.proofs.Common.{◌≡◌, ◌≢◌, ⊎_elim, ℕ, suc, ◌+◌, ◌-◌, ◌<◌, ◌≤◌, List, [], ◌∷◌, ◌++◌, take, drop, length, get_or, nat_le, Bool, true, false, ◌&&◌, ◌||◌, refl, sym, ap, ◌∙◌, subst, arith, add-one, append_assoc, append-nil, length-drop, take-suc, get_or-drop}
use mathlib.Core.Path.{ap₂}
use Rattle.std.proofs.lemmas.Bool.{and_parts, and_cases, both_ways, leb-true, le-leb}
use Rattle.kat_model.specs.Trees.{Term}
use Rattle.kat_model.specs.Steps.{Atom, out}
use Rattle.kat_model.specs.Strings.{Move, GuardedString, last_atom, accepts, set_accepts}
use Rattle.kat_model.specs.Working.Decided.{some_below}
use Rattle.kat_model.proofs.Cuts.{last_atom-append}
use Rattle.kat_model.proofs.Numbers.{below_next}
use Rattle.string_tables.specs.Working.Marks.{MarkTree, nowhere, reached, moved}
use Rattle.string_tables.specs.Parts.{atom_of, accepts_part, is_between, ends_at, HasNoEnd}
use Rattle.string_tables.proofs.Reported.{some_below_same}
use Rattle.string_tables.proofs.MarkedTerms.{marked, reached_given, moved_given, none_marked}

or_comm : (a b : Bool) → (a || b) ≡ (b || a)
or_comm true true = refl
or_comm true false = refl
or_comm false true = refl
or_comm false false = refl

no_moves : (ms : List Move) (k : ℕ) → take (k - k) ms ≡ []
no_moves ms k = let none : k - k ≡ 0 = omega arith in ap (λ n. take n ms) none

-- an additional move at the end of a part
part_more : (ms after : List Move) (i k : ℕ) (m : Move) → i ≤ k → k < length ms → m ≡ get_or ms k m → take (suc k - i) (drop i ms) ++ after ≡ take (k - i) (drop i ms) ++ (m ∷ after)
part_more ms after i k m le lt is =
    let count : suc k - i ≡ suc (k - i) = omega arith in
    let place : i + (k - i) ≡ k = omega arith in
    let room : k - i < length (drop i ms) = omega (arith, length-drop i ms) in
    let read : get_or (drop i ms) (k - i) m ≡ m = get_or-drop i ms (k - i) m ∙ ap (λ j. get_or ms j m) place ∙ sym is in
    ap (λ n. take n (drop i ms) ++ after) count
    ∙ ap (λ l. l ++ after) (take-suc (drop i ms) (k - i) m room)
    ∙ append_assoc (take (k - i) (drop i ms)) (get_or (drop i ms) (k - i) m ∷ []) after
    ∙ ap (λ z. take (k - i) (drop i ms) ++ (z ∷ after)) read

-- the atom after a move
pub atom_after : (x : GuardedString) (k : ℕ) (m : Move) → k < length x.rest → m ≡ get_or x.rest k m → atom_of x (suc k) ≡ m.atom
atom_after x k m lt is =
    ap (last_atom x.first) (take-suc x.rest k m lt ∙ ap (λ z. take k x.rest ++ z ∷ []) (sym is))
    ∙ last_atom-append x.first (take k x.rest) (m ∷ [])

pub atom_before : (x : GuardedString) (k : ℕ) (m : Move) → k ≢ 0 → k ≤ length x.rest → m ≡ get_or x.rest (k - 1) m → m.atom ≡ atom_of x k
atom_before x k m positive le is =
    let next : suc (k - 1) ≡ k = omega arith in
    let lt : k - 1 < length x.rest = omega arith in
    sym (atom_after x (k - 1) m lt is) ∙ ap (atom_of x) next

module _ (x : GuardedString) (e : Term) (from to : ℕ) where
  -- whether the term accepts the string from some earlier beginning on, with these moves after position k
  abbrev pub led : ℕ → List Move → Bool
  led k after = some_below (λ i. is_between from to i && accepts e (atom_of x i) (take (k - i) (drop i x.rest) ++ after)) k

  -- the marks at position k
  abbrev pub AreMarksAt : ℕ → MarkTree → Type 0
  AreMarksAt k marks = (after : List Move) → set_accepts (marked e marks) (atom_of x k) after ≡ led k after

  pub marks_begin : AreMarksAt 0 nowhere
  marks_begin after = none_marked e (λ f. accepts f (atom_of x 0) after)

  pub marks_step : (k : ℕ) (m : Move) (marks : MarkTree) → k < length x.rest → m ≡ get_or x.rest k m → AreMarksAt k marks → AreMarksAt (suc k) (moved e marks (is_between from to k) (atom_of x k) m.act)
  marks_step k m marks lt is at = remain
    where
      here : (after : List Move) → (is_between from to k && accepts e (atom_of x k) (m ∷ after)) ≡ (is_between from to k && accepts e (atom_of x k) (take (suc k - k) (drop k x.rest) ++ after))
      here after =
          let le : k ≤ k = omega arith in
          ap (λ l. is_between from to k && accepts e (atom_of x k) l) (sym (part_more x.rest after k k m le lt is ∙ ap (λ l. l ++ (m ∷ after)) (no_moves (drop k x.rest) k)))

      earlier : (after : List Move) → led k (m ∷ after) ≡ some_below (λ i. is_between from to i && accepts e (atom_of x i) (take (suc k - i) (drop i x.rest) ++ after)) k
      earlier after =
          some_below_same _ _ k (λ i li.
          let le : i ≤ k = omega arith in
          ap (λ l. is_between from to i && accepts e (atom_of x i) l) (sym (part_more x.rest after i k m le lt is)))

      remain : (after : List Move) → set_accepts (marked e (moved e marks (is_between from to k) (atom_of x k) m.act)) (atom_of x (suc k)) after ≡ led (suc k) after
      remain after =
          ap (λ a. set_accepts (marked e (moved e marks (is_between from to k) (atom_of x k) m.act)) a after) (atom_after x k m lt is)
          ∙ moved_given (atom_of x k) m.act e (λ f. accepts f m.atom after) marks (is_between from to k)
          ∙ ap (λ b. b || (is_between from to k && accepts e (atom_of x k) (m ∷ after))) (at (m ∷ after))
          ∙ or_comm (led k (m ∷ after)) (is_between from to k && accepts e (atom_of x k) (m ∷ after))
          ∙ ap₂ ◌||◌ (here after) (earlier after)

  pub reached_ends : (k : ℕ) (marks : MarkTree) → AreMarksAt k marks → reached e marks (is_between from to k) (atom_of x k) ≡ ends_at x e from to k
  reached_ends k marks at =
      reached_given (atom_of x k) e marks (is_between from to k)
      ∙ ap (λ b. b || (is_between from to k && out e (atom_of x k))) (at [])
      ∙ or_comm (led k []) (is_between from to k && out e (atom_of x k))
      ∙ ap₂ ◌||◌ here earlier
    where
      here : (is_between from to k && out e (atom_of x k)) ≡ (is_between from to k && accepts_part x e k k)
      here = ap (λ l. is_between from to k && accepts e (atom_of x k) l) (sym (no_moves (drop k x.rest) k))

      earlier : led k [] ≡ some_below (λ i. is_between from to i && accepts_part x e i k) k
      earlier = some_below_same _ _ k (λ i li. ap (λ l. is_between from to i && accepts e (atom_of x i) l) (append-nil (take (k - i) (drop i x.rest))))

  -- the loop over the moves: the marks after a move, whether a part ends, and where none did so far

  pub run_more : (k : ℕ) (m : Move) (marks new : MarkTree) (begins : Bool) (atom : Atom) (action : ℕ) → k < length x.rest → m ≡ get_or x.rest k m → begins ≡ is_between from to k → atom ≡ atom_of x k → action ≡ m.act
      → new ≡ moved e marks begins atom action → AreMarksAt k marks → AreMarksAt (k + 1) new
  run_more k m marks new begins atom action lt is begun there named made at =
      let made_so : new ≡ moved e marks (is_between from to k) (atom_of x k) m.act = made ∙ ap₂ (λ b a. moved e marks b a action) begun there ∙ ap (moved e marks (is_between from to k) (atom_of x k)) named in
      let more = subst (AreMarksAt (suc k)) (sym made_so) (marks_step k m marks lt is at) in
      rw add-one more

  pub run_ends : (k : ℕ) (marks : MarkTree) (begins ends : Bool) (atom : Atom) → begins ≡ is_between from to k → atom ≡ atom_of x k → ends ≡ reached e marks begins atom → AreMarksAt k marks → ends ≡ ends_at x e from to k
  run_ends k marks begins ends atom begun there given at = given ∙ ap₂ (reached e marks) begun there ∙ reached_ends k marks at

  pub none_yet : (after k : ℕ) → ((j : ℕ) → after ≤ j → j < k → ends_at x e from to j ≡ false) → (after ≤ k → ends_at x e from to k ≡ false) → (j : ℕ) → after ≤ j → j < k + 1 → ends_at x e from to j ≡ false
  none_yet after k before here j le lt =
      ⊎_elim
      (λ less. before j le less)
      (λ same. let own : after ≤ k = omega (arith, same) in ap (ends_at x e from to) same ∙ here own)
      (below_next j k lt)

  -- a part that ends at position k ends late enough, or it does not count

  pub late_end : (after k : ℕ) (ends found : Bool) → ends ≡ ends_at x e from to k → found ≡ (ends && nat_le after k) → found ≡ true → (after ≤ k) × (ends_at x e from to k ≡ true)
  late_end after k ends found is given t =
      let parts = and_parts ends (nat_le after k) (sym given ∙ t) in
      (leb-true after k parts.1, sym is ∙ parts.0)

  pub no_late_end : (after k : ℕ) (ends found : Bool) → ends ≡ ends_at x e from to k → found ≡ (ends && nat_le after k) → found ≡ false → after ≤ k → ends_at x e from to k ≡ false
  no_late_end after k ends found is given f le =
      ⊎_elim
      (λ none. sym is ∙ none)
      (λ early. absurd (both_ways (nat_le after k) early (le-leb after k le)))
      (and_cases ends (nat_le after k) (sym given ∙ f))

  pub no_end : (after n : ℕ) → n ≡ length x.rest → ((j : ℕ) → after ≤ j → j < n → ends_at x e from to j ≡ false) → (after ≤ n → ends_at x e from to n ≡ false) → HasNoEnd x e from to after
  no_end after n count before here k le within =
      let lt : k < n + 1 = omega arith in
      none_yet after n before here k le lt
