-- Worked examples of hypotheses: the Hoare triple {b} p {c} as b.p.!c = 0, and what it implies on tables. It is
-- equivalent to b.p = b.p.c (Kozen, On Hoare logic and Kleene algebra with tests, 2000).
use Rattle.std.proofs.Common.{◌≡◌, ℕ, ◌<◌, ◌⊎◌, true, false, inl, inr, ⊎_elim, List, [], ◌∷◌, length, Some, refl, sym, subst, arith}
use Rattle.std.proofs.lemmas.Bool.{cases_Bool, not_from_false}
use Rattle.kat_model.specs.Trees.{complement, Term, zero, one, test, product, star}
use Rattle.kat_model.specs.Members.{Has}
use Rattle.kat_model.specs.Steps.{Atom, truth, set_out, set_next}
use Rattle.kat_model.specs.Problems.{ProblemParts}
use Rattle.kat_model.specs.Relations.{Step, Table, IsTable, atom_at, Relates, Keeps, Same}
use Rattle.kat_model.specs.Closed.{closed, inside}
use Rattle.kat_model.specs.Pairs.{SetPair, plain, AreMatched, AreAccepted}
use Rattle.kat_model.proofs.Decided.{computed_relates, computed_relates_not}
use Rattle.kat_model.proofs.Rows.{HasRows, has_rows, no_rows}
use Rattle.kat_model.proofs.Examples.{b, c, p}

abbrev triple : Term
triple = product (test b) (product p (test (complement c)))

abbrev left : Term
left = product (test b) p

abbrev right : Term
right = product (test b) (product p (test c))

-- 0 -p-> 1, with b at 0, and c at 1

abbrev kept : Table
kept = record { states = 2; truths = (true ∷ false ∷ []) ∷ (false ∷ true ∷ []) ∷ []; moves = record { from = 0; act = 0; to = 1 } ∷ [] }

kept_triple : HasRows kept triple ([] ∷ [] ∷ [])
kept_triple = has_rows refl

kept_keeps : Keeps kept (triple ∷ [])
kept_keeps h k i j li lj r =
    ⊎_elim (λ e. no_rows kept triple kept_triple i j li lj (subst (λ x. Relates kept x i j) (sym e) r)) absurd k

-- the same without c at 1

abbrev broken : Table
broken = record { states = 2; truths = (true ∷ false ∷ []) ∷ (false ∷ false ∷ []) ∷ []; moves = record { from = 0; act = 0; to = 1 } ∷ [] }

broken_triple : HasRows broken triple ((1 ∷ []) ∷ [] ∷ [])
broken_triple = has_rows refl

broken_keeps_not : Keeps broken (triple ∷ []) → ⊥
broken_keeps_not keeps =
    keeps triple (inl refl) 0 1 (omega arith) (omega arith) (computed_relates broken triple 0 1 (omega arith) (omega arith) refl)

-- a table must keep every hypothesis
broken_keeps_not_both : Keeps broken (zero ∷ triple ∷ []) → ⊥
broken_keeps_not_both keeps = broken_keeps_not (λ h k. keeps h (inr k))

-- every table keeps the empty list of hypotheses
broken_keeps_none : Keeps broken []
broken_keeps_none h k = absurd k

-- b.p = b.p.c holds under the hypothesis, and does not hold without it

abbrev poses : List Term → ProblemParts
poses hyps = record { tests = 2; actions = 1; hyps = hyps; left = left; right = right }

triple_same : Same (poses (triple ∷ []))
triple_same t is keeps i j li lj = (there, back)
  where
    there : Relates t left i j → Relates t right i j
    there r =
        let k = r.0 in
        ⊎_elim
        (λ e. (k, r.1, r.2, (j, lj, r.3, (refl, e))))
        (λ e. absurd (keeps triple (inl refl) i j li lj (k, r.1, r.2, (j, lj, r.3, (refl, not_from_false (truth c (atom_at t j)) e)))))
        (cases_Bool (truth c (atom_at t j)))

    back : Relates t right i j → Relates t left i j
    back r = (r.0, r.1, r.2, subst (λ k. Has t.moves (record { from = r.0; act = 0; to = k })) r.3.3.0 r.3.2)

broken_is_table : IsTable 2 1 broken
broken_is_table = record { rows = refl; wide = wide; moves = moves }
  where
    cases : (i : ℕ) → i < 2 → (0 ≡ i) ⊎ (1 ≡ i)
    cases i li = grind arith

    wide : (i : ℕ) → i < 2 → length (atom_at broken i) ≡ 2
    wide i li = ⊎_elim (λ e. subst (λ k. length (atom_at broken k) ≡ 2) e refl) (λ e. subst (λ k. length (atom_at broken k) ≡ 2) e refl) (cases i li)

    IsMove : Step → Type 0
    IsMove m = (m.from < 2) × (m.act < 1) × (m.to < 2)

    moves : (m : Step) → Has broken.moves m → IsMove m
    moves m h = ⊎_elim (λ e. subst IsMove e (omega arith, omega arith, omega arith)) absurd h

broken_left : HasRows broken left ((1 ∷ []) ∷ [] ∷ [])
broken_left = has_rows refl

broken_right : HasRows broken right ([] ∷ [] ∷ [])
broken_right = has_rows refl

differ_without : Same (poses []) → ⊥
differ_without h =
    let both = h broken broken_is_table broken_keeps_none 0 1 (omega arith) (omega arith) in
    computed_relates_not broken right 0 1 (omega arith) (omega arith) refl (both.0 (computed_relates broken left 0 1 (omega arith) (omega arith) refl))

-- Under the hypothesis 1 = 0 all terms are the same, since no table with a state keeps it. The pair of closed sides is
-- sufficient evidence: after p both sets contain the universal term.

abbrev collapsed : ProblemParts
collapsed = record { tests = 0; actions = 1; hyps = one ∷ []; left = zero; right = one }

collapsed_same : Same collapsed
collapsed_same t is keeps i j li lj = absurd (keeps one (inl refl) i i li li refl)

abbrev sides : SetPair
sides = record { left = (closed collapsed).left ∷ []; right = (closed collapsed).right ∷ [] }

next_left : (atom : Atom) → set_next sides.left atom 0 ≡ inside (star p) one ∷ star p ∷ []
next_left atom = refl

next_right : (atom : Atom) → set_next sides.right atom 0 ≡ inside (star p) one ∷ star p ∷ []
next_right atom = refl

collapsed_accepted : AreAccepted plain collapsed (sides ∷ [])
collapsed_accepted = record { rest = []; first = refl; bisimulation = record { outputs = outputs; steps = steps } }
  where
    outputs : (s : SetPair) → Has (sides ∷ []) s → (atom : Atom) → length atom ≡ 0 → set_out s.left atom ≡ set_out s.right atom
    outputs s h atom long = ⊎_elim (λ e. subst (λ z. set_out z.left atom ≡ set_out z.right atom) e refl) absurd h

    IsMatched : SetPair → Atom → ℕ → Type 0
    IsMatched s atom a = AreMatched plain (Some (star p)) (sides ∷ []) (set_next s.left atom a) (set_next s.right atom a)

    steps : (s : SetPair) → Has (sides ∷ []) s → (atom : Atom) → length atom ≡ 0 → (a : ℕ) → a < 1 → IsMatched s atom a
    steps s h atom long a la =
        let zeroth : 0 ≡ a = omega arith in
        let here : IsMatched sides atom 0 = inr (inr (inl refl), inr (inl refl)) in
        ⊎_elim (λ e. subst (λ z. IsMatched z atom a) e (subst (IsMatched sides atom) zeroth here)) absurd h
