-- The marks of the literals that are false.
use Rattle.std.proofs.Common.{◌≡◌, ℕ, zero, suc, ◌<◌, ⊎_elim, List, [], ◌∷◌, ◌++◌, length, get_or, set, refl, sym, ap, subst, ◌∙◌, arith, Bool, true, false}
use mathlib.Core.Path.{ap₂}
use Rattle.std.proofs.lemmas.Bool.{true≢false, cases_eq}
use Rattle.std.proofs.lemmas.List.{get_or-set_same, get_or-set_other}
use Rattle.kat_model.specs.Members.{Has}
use Rattle.kat_model.proofs.Lists.{has_left, has_at, has_pushed}
use Rattle.lrat_checker.specs.Working.Marks.{place_at, place_of, has_mark, AreMarked, without_marks}
use Rattle.lrat_checker.specs.declared.literal.Literal.{Literal}

-- the place determines the literal
same_place : (v w : ℕ) (b c : Bool) → place_at v b ≡ place_at w c → (v ≡ w) × (b ≡ c)
same_place v w true true e = (omega arith, refl)
same_place v w false false e = (omega arith, refl)
same_place v w true false e = absurd (omega arith)
same_place v w false true e = absurd (omega arith)

pub same_literal : (l m : Literal) → place_of l ≡ place_of m → l ≡ m
same_literal l m e =
    let parts = same_place l.variable m.variable l.positive m.positive e in
    let make : ℕ → Bool → Literal = λ v b. record { variable = v; positive = b } in
    ap₂ make parts.0 parts.1

-- a literal is marked exactly if it is in the list
pub marked_exactly : (ls : List Literal) (marks : List Bool) (l : Literal) → AreMarked ls marks → (has_mark marks (place_of l) ≡ true → Has ls l) × (Has ls l → has_mark marks (place_of l) ≡ true)
marked_exactly ls marks l m = (
  (λ e. let found = m.only (place_of l) e in subst (λ k. Has ls k) (sym (same_literal l found.0 found.2)) found.1),
  m.marked l,
)

-- the same marks, as far as they are read
pub marked_again : (ls : List Literal) (marks more : List Bool) → ((j : ℕ) → has_mark more j ≡ has_mark marks j) → AreMarked ls marks → AreMarked ls more
marked_again ls marks more same m = record {
  marked = λ l h. same (place_of l) ∙ m.marked l h;
  only = λ j e. m.only j (sym (same j) ∙ e);
}

pub marked_more : (ls : List Literal) (marks : List Bool) (l : Literal) → place_of l < length marks → AreMarked ls marks → AreMarked (ls ++ l ∷ []) (set marks (place_of l) true)
marked_more ls marks l within m = record {
  marked = λ k h. ⊎_elim (λ e. at_place k e) (λ apart. ⊎_elim (λ old. get_or-set_other marks (place_of l) (place_of k) true false apart ∙ m.marked k old) (λ e. absurd (apart (ap place_of (sym e)))) (has_pushed ls l k h)) (cases_eq (place_of k) (place_of l));
  only = λ j e. ⊎_elim (λ s. (l, has_at ls l [], s)) (λ apart. let found = m.only j (sym (get_or-set_other marks (place_of l) j true false apart) ∙ e) in (found.0, has_left ls (l ∷ []) found.0 found.1, found.2)) (cases_eq j (place_of l));
}
  where
    at_place : (k : Literal) → place_of k ≡ place_of l → get_or (set marks (place_of l) true) (place_of k) false ≡ true
    at_place k e = subst (λ (j : ℕ). get_or (set marks (place_of l) true) j false ≡ true) (sym e) (get_or-set_same marks (place_of l) true false within)

-- a mark that remains was there and is not the one that was removed
off_set : (m : List Bool) (i j : ℕ) → get_or (set m i false) j false ≡ true → (get_or m j false ≡ true) × (j ≡ i → ⊥)
off_set [] i j e = absurd (true≢false (sym e))
off_set (b ∷ m) zero zero e = absurd (true≢false (sym e))
off_set (b ∷ m) zero (suc j) e = (e, λ s. cc)
off_set (b ∷ m) (suc i) zero e = (e, λ s. cc)
off_set (b ∷ m) (suc i) (suc j) e = let rest = off_set m i j e in (rest.0, λ s. rest.1 (cc))

without_off : (ls : List Literal) (m : List Bool) (j : ℕ) → get_or (without_marks m ls) j false ≡ true → (get_or m j false ≡ true) × ((l : Literal) → Has ls l → j ≡ place_of l → ⊥)
without_off [] m j e = (e, λ l h s. h)
without_off (l ∷ ls) m j e =
    let rest = without_off ls (set m (place_of l) false) j e in
    let first = off_set m (place_of l) j rest.0 in
    (first.0, λ k h s. ⊎_elim (λ same. first.1 (s ∙ ap place_of (sym same))) (λ h. rest.1 k h s) h)

-- without the marks of all marked literals no mark remains
pub none_marked : (ls : List Literal) (marks : List Bool) → AreMarked ls marks → AreMarked [] (without_marks marks ls)
none_marked ls marks m = record {
  marked = λ l h. absurd h;
  only = λ j e. let left = without_off ls marks j e in let found = m.only j left.0 in absurd (left.1 found.0 found.1 found.2);
}

pub marked_none : AreMarked [] []
marked_none = record { marked = λ l h. absurd h; only = λ j e. absurd (true≢false (sym e)) }
