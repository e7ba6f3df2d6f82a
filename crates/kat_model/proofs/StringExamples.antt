-- Worked examples of the strings that terms accept. The expected values, words of the regular expressions or runs of
-- the loop, were found by hand.
use Rattle.std.proofs.Common.{◌≡◌, ℕ, zero as nought, suc, true, false, List, [], ◌∷◌, ◌++◌, map, refl}
use Rattle.std.specs.List.{flat_map, filter}
use Rattle.kat_model.specs.Trees.{Term, zero, one, test, sum, product, star}
use Rattle.kat_model.specs.Steps.{Atom}
use Rattle.kat_model.specs.Strings.{Move, last_atom, accepts, set_accepts}
use Rattle.kat_model.proofs.Examples.{b, p, q, on, off, while_b, nested, denested, slid_right, slid_left}

-- Words over the actions p and q, with no tests.

abbrev moves_of : List ℕ → List Move
moves_of = map (λ a. record { act = a; atom = [] })

abbrev words_of : ℕ → List (List ℕ)
words_of nought = [] ∷ []
words_of (suc n) = flat_map (λ w. (0 ∷ w) ∷ (1 ∷ w) ∷ []) (words_of n)

-- the words of at most three actions that the term accepts, shorter words first
abbrev words : Term → List (List ℕ)
words e = filter (λ w. accepts e [] (moves_of w)) (words_of 0 ++ words_of 1 ++ words_of 2 ++ words_of 3)

words_zero : words zero ≡ []
words_zero = refl

words_one : words one ≡ [] ∷ []
words_one = refl

words_act : words q ≡ (1 ∷ []) ∷ []
words_act = refl

-- p.q accepts the word pq, and not qp
words_product : words (product p q) ≡ (0 ∷ 1 ∷ []) ∷ []
words_product = refl

words_sum : words (sum (product p q) one) ≡ [] ∷ (0 ∷ 1 ∷ []) ∷ []
words_sum = refl

words_star : words (star p) ≡ [] ∷ (0 ∷ []) ∷ (0 ∷ 0 ∷ []) ∷ (0 ∷ 0 ∷ 0 ∷ []) ∷ []
words_star = refl

words_star_zero : words (star zero) ≡ [] ∷ []
words_star_zero = refl

-- sliding: p, then qp any number of times
words_slid_right : words slid_right ≡ (0 ∷ []) ∷ (0 ∷ 1 ∷ 0 ∷ []) ∷ []
words_slid_right = refl

words_slid_left : words slid_left ≡ (0 ∷ []) ∷ (0 ∷ 1 ∷ 0 ∷ []) ∷ []
words_slid_left = refl

-- denesting: both sides accept every word
words_nested : words nested ≡ words_of 0 ++ words_of 1 ++ words_of 2 ++ words_of 3
words_nested = refl

words_denested : words denested ≡ words_of 0 ++ words_of 1 ++ words_of 2 ++ words_of 3
words_denested = refl

-- a set with p and p.q accepts p and pq
words_set : filter (λ w. set_accepts (p ∷ product p q ∷ []) [] (moves_of w)) (words_of 1 ++ words_of 2) ≡ (0 ∷ []) ∷ (0 ∷ 1 ∷ []) ∷ []
words_set = refl

-- Guarded strings over one test: the loop takes a turn if b is true, and ends if it is false.

abbrev then_p : Atom → Move
then_p atom = record { act = 0; atom = atom }

while_none : accepts while_b off [] ≡ true
while_none = refl

while_once : accepts while_b on (then_p off ∷ []) ≡ true
while_once = refl

while_twice : accepts while_b on (then_p on ∷ then_p off ∷ []) ≡ true
while_twice = refl

-- the loop does not end while b is true
while_unended : accepts while_b on [] ≡ false
while_unended = refl

while_unended_later : accepts while_b on (then_p on ∷ []) ≡ false
while_unended_later = refl

-- the loop takes no turn if b is false
while_too_long : accepts while_b off (then_p off ∷ []) ≡ false
while_too_long = refl

while_other_action : accepts while_b on (record { act = 1; atom = off } ∷ []) ≡ false
while_other_action = refl

-- a test after an action is evaluated at the atom after the action
test_after : accepts (product p (test b)) off (then_p on ∷ []) ≡ true
test_after = refl

test_after_off : accepts (product p (test b)) on (then_p off ∷ []) ≡ false
test_after_off = refl

last_atom_example : last_atom on (then_p on ∷ then_p off ∷ []) ≡ off
last_atom_example = refl
