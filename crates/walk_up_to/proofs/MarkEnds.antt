-- As many rounds as there are pairs suffice: each round that adds a mark settles an additional pair.
use Rattle.std.proofs.Common.{◌≡◌, ℕ, zero, suc, ◌+◌, ◌<◌, ◌≤◌, ◌⊎◌, inl, inr, ⊎_elim, List, [], ◌∷◌, length, get_or, set, slice_get, refl, sym, ap, ◌∙◌, subst, arith, Bool, true, false, ◌&&◌, cond, Option, Some, None}
use Rattle.std.proofs.lemmas.Bool.{and_parts, and_from, and_right, true≢false}
use Rattle.kat_model.specs.Members.{Has}
use Rattle.walk_up_to.specs.Listings.{IdEntry}
use Rattle.walk_up_to.specs.Marks.{are_marked, with_marks, with_pair_marked, round_marked, rounds_marked, Stays, AreClosed}
use Rattle.walk_up_to.proofs.MarkSteps.{rounds_stay, pair_stays, all_stay}

-- whether a mark is true or out of range
abbrev pub fine : Option Bool → Bool
fine None = true
fine (Some b) = b

abbrev pub held : List Bool → List ℕ → Bool
held m [] = true
held m (k ∷ ks) = fine (slice_get m k) && held m ks

-- ---- one mark

marked_fine : (m : List Bool) (k : ℕ) → get_or m k false ≡ true → fine (slice_get m k) ≡ true
marked_fine [] k e = refl
marked_fine (b ∷ m) zero e = e
marked_fine (b ∷ m) (suc k) e = marked_fine m k e

fine_same : (m : List Bool) (k : ℕ) → fine (slice_get m k) ≡ true → set m k true ≡ m
fine_same [] k e = refl
fine_same (b ∷ m) zero e = ap (λ x. x ∷ m) (sym e)
fine_same (b ∷ m) (suc k) e = ap (λ x. b ∷ x) (fine_same m k e)

set_fine : (m : List Bool) (k : ℕ) → fine (slice_get (set m k true) k) ≡ true
set_fine [] k = refl
set_fine (b ∷ m) zero = refl
set_fine (b ∷ m) (suc k) = set_fine m k

kept_fine : (m : List Bool) (j k : ℕ) → fine (slice_get m k) ≡ true → fine (slice_get (set m j true) k) ≡ true
kept_fine [] j k e = e
kept_fine (b ∷ m) zero zero e = refl
kept_fine (b ∷ m) zero (suc k) e = e
kept_fine (b ∷ m) (suc j) zero e = e
kept_fine (b ∷ m) (suc j) (suc k) e = kept_fine m j k e

-- ---- lists of ids

abbrev pub KeepsFine : List Bool → List Bool → Type 0
KeepsFine m n = (k : ℕ) → fine (slice_get m k) ≡ true → fine (slice_get n k) ≡ true

held_kept : (m n : List Bool) → KeepsFine m n → (ks : List ℕ) → held m ks ≡ true → held n ks ≡ true
held_kept m n keeps [] e = refl
held_kept m n keeps (k ∷ ks) e =
    let parts = and_parts (fine (slice_get m k)) (held m ks) e in
    and_from (fine (slice_get n k)) (held n ks) (keeps k parts.0) (held_kept m n keeps ks parts.1)

pub marked_held : (m : List Bool) (ks : List ℕ) → are_marked m ks ≡ true → held m ks ≡ true
marked_held m [] e = refl
marked_held m (k ∷ ks) e =
    let parts = and_parts (get_or m k false) (are_marked m ks) e in
    and_from (fine (slice_get m k)) (held m ks) (marked_fine m k parts.0) (marked_held m ks parts.1)

pub held_same : (ks : List ℕ) (m : List Bool) → held m ks ≡ true → with_marks m ks ≡ m
held_same [] m e = refl
held_same (k ∷ ks) m e =
    let parts = and_parts (fine (slice_get m k)) (held m ks) e in
    ap (λ n. with_marks n ks) (fine_same m k parts.0) ∙ held_same ks m parts.1

marks_fine : (ks : List ℕ) (m : List Bool) → KeepsFine m (with_marks m ks)
marks_fine [] m k e = e
marks_fine (j ∷ ks) m k e = marks_fine ks (set m j true) k (kept_fine m j k e)

marks_held : (ks : List ℕ) (m : List Bool) → held (with_marks m ks) ks ≡ true
marks_held [] m = refl
marks_held (k ∷ ks) m =
    and_from (fine (slice_get (with_marks (set m k true) ks) k)) (held (with_marks (set m k true) ks) ks)
    (marks_fine ks (set m k true) k (set_fine m k))
    (marks_held ks (set m k true))

-- ---- pairs

-- whether both sides are marked, as far as marks exist
abbrev pub settled : List Bool → IdEntry → Bool
settled m p = held m p.left && held m p.right

abbrev pub SideMarked : List Bool → IdEntry → Type 0
SideMarked m p = (are_marked m p.left ≡ true) ⊎ (are_marked m p.right ≡ true)

settled_kept : (m n : List Bool) (p : IdEntry) → KeepsFine m n → settled m p ≡ true → settled n p ≡ true
settled_kept m n p keeps e =
    let parts = and_parts (held m p.left) (held m p.right) e in
    and_from (held n p.left) (held n p.right) (held_kept m n keeps p.left parts.0) (held_kept m n keeps p.right parts.1)

pair_fine : (m : List Bool) (p : IdEntry) → KeepsFine m (with_pair_marked m p)
pair_fine m p = go (are_marked m p.left) (are_marked m p.right)
  where
    go : (b c : Bool) → KeepsFine m (cond b (with_marks m p.right) (cond c (with_marks m p.left) m))
    go true c = marks_fine p.right m
    go false true = marks_fine p.left m
    go false false = λ k e. e

round_fine : (ps : List IdEntry) (m : List Bool) → KeepsFine m (round_marked ps m)
round_fine [] m = λ k e. e
round_fine (p ∷ ps) m = λ k e. round_fine ps (with_pair_marked m p) k (pair_fine m p k e)

side_kept : (m n : List Bool) (p : IdEntry) → Stays m n → SideMarked m p → SideMarked n p
side_kept m n p s h = ⊎_elim (λ l. inl (all_stay m n s p.left l)) (λ r. inr (all_stay m n s p.right r)) h

-- a pair with a marked side is settled after it is applied
side_settles : (m : List Bool) (p : IdEntry) → SideMarked m p → settled (with_pair_marked m p) p ≡ true
side_settles m p s = go (are_marked m p.left) (are_marked m p.right) refl refl
  where
    go : (b c : Bool) → are_marked m p.left ≡ b → are_marked m p.right ≡ c → settled (cond b (with_marks m p.right) (cond c (with_marks m p.left) m)) p ≡ true
    go true c e f =
        and_from (held (with_marks m p.right) p.left) (held (with_marks m p.right) p.right)
        (held_kept m (with_marks m p.right) (marks_fine p.right m) p.left (marked_held m p.left e))
        (marks_held p.right m)
    go false true e f =
        and_from (held (with_marks m p.left) p.left) (held (with_marks m p.left) p.right)
        (marks_held p.left m)
        (held_kept m (with_marks m p.left) (marks_fine p.left m) p.right (marked_held m p.right f))
    go false false e f = absurd (⊎_elim (λ h. true≢false (sym h ∙ e)) (λ h. true≢false (sym h ∙ f)) s)

-- a pair adds nothing, or one of its sides is marked and it is not settled
pair_cases : (m : List Bool) (p : IdEntry) → (with_pair_marked m p ≡ m) ⊎ (SideMarked m p × (settled m p ≡ false))
pair_cases m p = go (are_marked m p.left) (are_marked m p.right) refl refl
  where
    on_right : are_marked m p.left ≡ true → (h : Bool) → held m p.right ≡ h → (with_marks m p.right ≡ m) ⊎ (SideMarked m p × (settled m p ≡ false))
    on_right e true h = inl (held_same p.right m h)
    on_right e false h = inr (inl e, and_right (held m p.left) (held m p.right) h)

    on_left : are_marked m p.right ≡ true → (h : Bool) → held m p.left ≡ h → (with_marks m p.left ≡ m) ⊎ (SideMarked m p × (settled m p ≡ false))
    on_left e true h = inl (held_same p.left m h)
    on_left e false h = inr (inr e, ap (λ (b : Bool). b && held m p.right) h)

    go : (b c : Bool) → are_marked m p.left ≡ b → are_marked m p.right ≡ c → (cond b (with_marks m p.right) (cond c (with_marks m p.left) m) ≡ m) ⊎ (SideMarked m p × (settled m p ≡ false))
    go true c e f = on_right e (held m p.right) refl
    go false true e f = on_left f (held m p.left) refl
    go false false e f = inl refl

-- marks are closed, or some pair with a marked side is not settled
closed_cases : (ps : List IdEntry) (m : List Bool) → AreClosed ps m ⊎ ((p : IdEntry) × Has ps p × SideMarked m p × (settled m p ≡ false))
closed_cases [] m = inl (λ p h. absurd h)
closed_cases (p ∷ ps) m =
    ⊎_elim
    (λ here.
    ⊎_elim
    (λ rest. inl (λ q h. ⊎_elim (λ e. subst (λ z. with_pair_marked m z ≡ m) e here) (rest q) h))
    (λ found. inr (found.0, inr found.1, found.2, found.3))
    (closed_cases ps m))
    (λ found. inr (p, inl refl, found.0, found.1))
    (pair_cases m p)

-- a round settles each pair with a marked side
round_settles : (ps : List IdEntry) (m : List Bool) (p : IdEntry) → Has ps p → SideMarked m p → settled (round_marked ps m) p ≡ true
round_settles [] m p h s = absurd h
round_settles (q ∷ ps) m p h s =
    ⊎_elim
    (λ e. settled_kept (with_pair_marked m q) (round_marked ps (with_pair_marked m q)) p (round_fine ps (with_pair_marked m q))
    (subst (λ z. settled (with_pair_marked m z) p ≡ true) (sym e) (side_settles m p s)))
    (λ k. round_settles ps (with_pair_marked m q) p k (side_kept m (with_pair_marked m q) p (pair_stays m q) s))
    h

-- ---- the number of unsettled pairs

abbrev pub lacking : List Bool → List IdEntry → ℕ
lacking m [] = 0
lacking m (p ∷ ps) = cond (settled m p) 0 1 + lacking m ps

lacking-le-length : (m : List Bool) (ps : List IdEntry) → lacking m ps ≤ length ps
lacking-le-length m [] = omega arith
lacking-le-length m (p ∷ ps) = go (settled m p) (lacking-le-length m ps)
  where
    go : (b : Bool) → lacking m ps ≤ length ps → cond b 0 1 + lacking m ps ≤ suc (length ps)
    go true h = omega arith
    go false h = omega arith

module _ (m n : List Bool) (keeps : KeepsFine m n) where
  one_fewer : (p : IdEntry) → cond (settled n p) 0 1 ≤ cond (settled m p) 0 1
  one_fewer p = go (settled m p) (settled n p) refl refl
    where
      go : (b c : Bool) → settled m p ≡ b → settled n p ≡ c → cond c 0 1 ≤ cond b 0 1
      go true true l r = omega arith
      go true false l r = absurd (true≢false (sym (settled_kept m n p keeps l) ∙ r))
      go false true l r = omega arith
      go false false l r = omega arith

  lacking_fewer : (ps : List IdEntry) → lacking n ps ≤ lacking m ps
  lacking_fewer [] = omega arith
  lacking_fewer (p ∷ ps) = omega (arith, one_fewer p, lacking_fewer ps)

  one_less : (p : IdEntry) → settled m p ≡ false → settled n p ≡ true → cond (settled n p) 0 1 < cond (settled m p) 0 1
  one_less p l b = rw (l, b) (omega arith)

  lacking_less : (ps : List IdEntry) (p : IdEntry) → Has ps p → settled m p ≡ false → settled n p ≡ true → lacking n ps < lacking m ps
  lacking_less [] p h l b = absurd h
  lacking_less (q ∷ ps) p h l b =
      ⊎_elim
      (λ e. omega (arith, lacking_fewer ps, subst (λ z. cond (settled n z) 0 1 < cond (settled m z) 0 1) (sym e) (one_less p l b)))
      (λ k. omega (arith, one_fewer q, lacking_less ps p k l b))
      h

-- marks are closed, or a round leaves fewer unsettled pairs
round_cases : (ps : List IdEntry) (m : List Bool) → AreClosed ps m ⊎ (lacking (round_marked ps m) ps < lacking m ps)
round_cases ps m =
    ⊎_elim
    inl
    (λ found. inr (lacking_less m (round_marked ps m) (round_fine ps m) ps found.0 found.1 found.3 (round_settles ps m found.0 found.1 found.2)))
    (closed_cases ps m)

closed_round : (ps : List IdEntry) (m : List Bool) → AreClosed ps m → round_marked ps m ≡ m
closed_round [] m c = refl
closed_round (p ∷ ps) m c = ap (round_marked ps) (c p (inl refl)) ∙ closed_round ps m (λ q h. c q (inr h))

rounds_end : (n : ℕ) (ps : List IdEntry) (m : List Bool) → lacking m ps ≤ n → AreClosed ps (rounds_marked n ps m)
rounds_end zero ps m h = ⊎_elim (λ c. c) (λ l. absurd (omega arith)) (round_cases ps m)
rounds_end (suc n) ps m h =
    ⊎_elim
    (λ c. subst (AreClosed ps) (sym (rounds_stay (suc n) ps m (closed_round ps m c))) c)
    (λ l. rounds_end n ps (round_marked ps m) (omega arith))
    (round_cases ps m)

-- the marks after as many rounds as there are pairs are closed
pub all_rounds_closed : (ps : List IdEntry) (m : List Bool) → AreClosed ps (rounds_marked (length ps) ps m)
all_rounds_closed ps m = rounds_end (length ps) ps m (lacking-le-length m ps)
