-- Worked examples of short hypotheses and of pairs under tests. If p preserves b, stated by the Hoare triple {b} p {b}
-- as b.p.!b = 0, the loop `while b do p` ends only if b is false before it.
use Rattle.std.proofs.Common.{◌≡◌, ◌<◌, true, false, inl, inr, ⊎_elim, List, [], ◌∷◌, length, Some, None, refl, sym, subst, arith}
use Rattle.std.specs.Bool.{IsTrue}
use Rattle.std.proofs.lemmas.Bool.{true≢false}
use Rattle.kat_model.specs.Trees.{TestTree, top, complement, Term, test, sum, product, star}
use Rattle.kat_model.specs.Members.{Has}
use Rattle.kat_model.specs.Steps.{Atom, truth, set_out, set_next}
use Rattle.kat_model.specs.Strings.{Move}
use Rattle.kat_model.specs.Problems.{ProblemParts}
use Rattle.kat_model.specs.Relations.{Same}
use Rattle.kat_model.specs.Pairs.{IsCongruent}
use Rattle.kat_model.specs.Degrees.{degree, is_short, short_hyps, long_hyps, with_hyps}
use Rattle.kat_model.specs.AllowedMoves.{IsAllowedAtom, IsAllowedMove}
use Rattle.kat_model.specs.TestedPairs.{TestedPair, pairs_at, IsTestedBisimulation, AreAcceptedUnder}
use Rattle.kat_model.proofs.Congruence.{listed_same}
use Rattle.kat_model.proofs.Splits.{split_by_degree}
use Rattle.kat_model.proofs.Sameness.{accepted_under_same}
use Rattle.kat_model.proofs.Examples.{b, p, q, while_b}

-- b.p.!b
abbrev leaves_alone : Term
leaves_alone = product (test b) (product p (test (complement b)))

-- degrees

-- a test and its negation
degree_tests : degree (product (test b) (test (complement b))) ≡ Some 0
degree_tests = refl

-- one action between tests
degree_triple : degree leaves_alone ≡ Some 1
degree_triple = refl

-- the greater of 1 and 2
degree_choice : degree (sum q (product p q)) ≡ Some 2
degree_choice = refl

-- tests, however often
degree_star : degree (star (test b)) ≡ Some 0
degree_star = refl

degree_loop : degree while_b ≡ None
degree_loop = refl

short_triple : is_short leaves_alone ≡ true
short_triple = refl

-- moves, one test and one action

abbrev pub moves_to : Atom → Move
moves_to after = record { act = 0; atom = after }

-- what a bisimulation under tests requires of a pair and a move
abbrev pub IsMatched : List TestedPair → TestedPair → Atom → Move → Type 0
IsMatched pairs s atom m = IsCongruent None (pairs_at pairs m.atom) (set_next s.sets.left atom m.act) (set_next s.sets.right atom m.act)

-- with one action, every move is a move by action 0
pub one_action_steps : (hyps : List Term) (pairs : List TestedPair)
    → ((s : TestedPair) → Has pairs s → (atom after : Atom) → IsAllowedMove hyps atom (moves_to after) → IsMatched pairs s atom (moves_to after))
    → (s : TestedPair) → Has pairs s → (atom : Atom) → length atom ≡ 1 → IsTrue (truth s.test atom)
    → (m : Move) → m.act < 1 → length m.atom ≡ 1 → IsAllowedMove hyps atom m → IsMatched pairs s atom m
one_action_steps hyps pairs each s h atom wide t m la long allowed =
    let zeroth : m.act ≡ 0 = omega arith in
    let same : m ≡ moves_to m.atom = λ i. record { act = zeroth i; atom = m.atom } in
    subst (IsMatched pairs s atom) (sym same) (each s h atom m.atom (subst (IsAllowedMove hyps atom) same allowed))

abbrev hyps : List Term
hyps = leaves_alone ∷ []

stays : IsAllowedMove hyps (true ∷ []) (moves_to (true ∷ []))
stays = record { from = refl; to = refl; move = refl }

leaves : IsAllowedMove hyps (true ∷ []) (moves_to (false ∷ [])) → ⊥
leaves m = true≢false m.move

-- the hypothesis b = 0 forbids an atom
forbidden : IsAllowedAtom (test b ∷ []) (true ∷ []) → ⊥
forbidden h = true≢false h

-- the question, which has a short hypothesis

abbrev poses : ProblemParts
poses = record { tests = 1; actions = 1; hyps = hyps; left = while_b; right = test (complement b) }

short_one : short_hyps poses ≡ hyps
short_one = refl

long_none : long_hyps poses ≡ []
long_none = refl

-- The sides agree at every atom. Inside the loop, while b is true, nothing is accepted.

abbrev pair : List Term → List Term → TestTree → TestedPair
pair es fs t = record { sets = record { left = es; right = fs }; test = t }

abbrev start : TestedPair
start = pair (while_b ∷ []) (test (complement b) ∷ []) top

abbrev inside : TestedPair
inside = pair (while_b ∷ []) [] b

abbrev both : List TestedPair
both = start ∷ inside ∷ []

-- an allowed move leads to a set that contains the loop only if b is true
next_congruent : (atom after : Atom) → IsAllowedMove hyps atom (moves_to after) → IsCongruent None (pairs_at both after) (set_next (while_b ∷ []) atom 0) []
next_congruent [] after m = inl (λ x. ((λ h. h), (λ h. h)))
next_congruent (false ∷ xs) after m = inl (λ x. ((λ h. h), (λ h. h)))
next_congruent (true ∷ xs) [] m = absurd (true≢false m.move)
next_congruent (true ∷ xs) (false ∷ ys) m = absurd (true≢false m.move)
next_congruent (true ∷ xs) (true ∷ ys) m =
    inl
    (listed_same (pairs_at both (true ∷ ys)) (while_b ∷ []) [] (record { pair = inside.sets; listed = inr (inl refl); lefts = λ x. ((λ h. h), (λ h. h)); rights = λ x. ((λ h. h), (λ h. h)) }))

both_accepted : AreAcceptedUnder (short_hyps poses) (with_hyps poses (long_hyps poses)) both
both_accepted = record { test = top; rest = inside ∷ []; first = refl; holds = λ atom wide allowed. refl; bisimulation = record { outputs = outputs; steps = one_action_steps hyps both steps } }
  where
    outputs : (s : TestedPair) → Has both s → (atom : Atom) → length atom ≡ 1 → IsAllowedAtom hyps atom → IsTrue (truth s.test atom)
        → set_out s.sets.left atom ≡ set_out s.sets.right atom
    outputs s h atom wide allowed t =
        ⊎_elim
        (λ e. subst (λ (z : TestedPair). set_out z.sets.left atom ≡ set_out z.sets.right atom) e refl)
        (λ k.
        ⊎_elim
        (λ e.
        let holds : IsTrue (truth b atom) = subst (λ (z : TestedPair). IsTrue (truth z.test atom)) (sym e) t in
        subst (λ (z : TestedPair). set_out z.sets.left atom ≡ set_out z.sets.right atom) e (rw holds refl))
        absurd k)
        h

    steps : (s : TestedPair) → Has both s → (atom after : Atom) → IsAllowedMove hyps atom (moves_to after) → IsMatched both s atom (moves_to after)
    steps s h atom after allowed =
        let found = next_congruent atom after allowed in
        ⊎_elim
        (λ e. subst (λ z. IsMatched both z atom (moves_to after)) e found)
        (λ k. ⊎_elim (λ e. subst (λ z. IsMatched both z atom (moves_to after)) e found) absurd k)
        h

-- so both sides are the same
loop_same : Same poses
loop_same = accepted_under_same poses (short_hyps poses) (long_hyps poses) both (split_by_degree poses) both_accepted

-- without its test the second pair is refused: the loop ends if b is false
everywhere_refused : IsTestedBisimulation hyps 1 1 None (start ∷ pair (while_b ∷ []) [] top ∷ []) → ⊥
everywhere_refused h = true≢false (h.outputs (pair (while_b ∷ []) [] top) (inr (inl refl)) (false ∷ []) refl refl refl)

-- without the hypothesis the move out of the loop is allowed, and only the first pair holds after it
every_move_refused : IsTestedBisimulation [] 1 1 None both → ⊥
every_move_refused h =
    ⊎_elim (λ s. (s while_b).0 (inl refl)) (λ u. u)
    (h.steps inside (inr (inl refl)) (true ∷ []) refl refl (moves_to (false ∷ [])) (omega arith) refl (record { from = refl; to = refl; move = refl }))
