-- Worked examples of functions of a whole term or question: reach, sizes, balanced sums, closed sides, faults, and
-- guarded terms. The expected values were found by hand.
use Rattle.std.proofs.Common.{◌≡◌, ℕ, List, [], ◌∷◌, Option, Some, None, refl, inl}
use Rattle.kat_model.specs.Trees.{prim, complement, meet, Term, zero, one, test, act, sum, product, star, test_size, term_size, term_height, acts}
use Rattle.kat_model.specs.Steps.{reach}
use Rattle.kat_model.specs.Balanced.{sum_of, product_of}
use Rattle.kat_model.specs.Problems.{ProblemParts, problem_fault}
use Rattle.kat_model.specs.Closed.{universal_of, closed}
use Rattle.kat_model.specs.Guarded.{IsGuarded, guarded_act, guarded_choice, guarded_loop}
use Rattle.kat_model.specs.Laws.{HasOneStep}
use Rattle.kat_model.specs.declared.problem.BadProblem.{BadProblem}
use Rattle.kat_model.specs.declared.problem.BadProblem.TheVariants.{TooManyTests, TooManyActions, TestRange, ActionRange}
use Rattle.kat_model.proofs.Examples.{b, c, p, q, r, while_b, nested, denested}

-- Reach: a term for each occurrence of an action (Antimirov 1996).

reach_nested : reach nested ≡ nested ∷ nested ∷ []
reach_nested = refl

-- after p in the inner star, after q, and after p in the last star
reach_denested : reach denested ≡ product (product (product (star p) q) (star (product (star p) q))) (star p) ∷ denested ∷ star p ∷ []
reach_denested = refl

reach_test : reach (product (test b) zero) ≡ []
reach_test = refl

acts_nested : acts nested ≡ 2
acts_nested = refl

acts_denested : acts denested ≡ 3
acts_denested = refl

acts_while : acts while_b ≡ 1
acts_while = refl

-- Sizes: a test in a term is a node, with the nodes of its own tree below it.

test_size_example : test_size (meet b (complement c)) ≡ 4
test_size_example = refl

-- b.p has 4 nodes, its star 5, and !b has 3
term_size_while : term_size while_b ≡ 9
term_size_while = refl

term_size_denested : term_size denested ≡ 8
term_size_denested = refl

-- product, star, product, leaf
term_height_while : term_height while_b ≡ 4
term_height_while = refl

-- product, star, product, star, leaf
term_height_denested : term_height denested ≡ 5
term_height_denested = refl

-- Balanced sums: the first half is the shorter one.

sum_of_none : sum_of [] ≡ zero
sum_of_none = refl

sum_of_one : sum_of (p ∷ []) ≡ p
sum_of_one = refl

sum_of_two : sum_of (p ∷ q ∷ []) ≡ sum p q
sum_of_two = refl

sum_of_three : sum_of (p ∷ q ∷ r ∷ []) ≡ sum p (sum q r)
sum_of_three = refl

sum_of_four : sum_of (p ∷ q ∷ r ∷ one ∷ []) ≡ sum (sum p q) (sum r one)
sum_of_four = refl

sum_of_five : sum_of (p ∷ q ∷ r ∷ one ∷ zero ∷ []) ≡ sum (sum p q) (sum r (sum one zero))
sum_of_five = refl

product_of_none : product_of [] ≡ one
product_of_none = refl

product_of_three : product_of (p ∷ q ∷ r ∷ []) ≡ product p (product q r)
product_of_three = refl

-- Closed sides: unchanged without hypotheses, and otherwise with u.h.u added (Kozen and Smith 1996).

universal_of_none : universal_of 0 ≡ star zero
universal_of_none = refl

universal_of_three : universal_of 3 ≡ star (sum p (sum q r))
universal_of_three = refl

abbrev poses : List Term → ProblemParts
poses hyps = record { tests = 2; actions = 2; hyps = hyps; left = p; right = q }

closed_without : closed (poses []) ≡ record { left = p; right = q; universal = None }
closed_without = refl

closed_with_one : closed (poses (r ∷ [])) ≡ record {
  left = sum p (product (star (sum p q)) (product r (star (sum p q))));
  right = sum q (product (star (sum p q)) (product r (star (sum p q))));
  universal = Some (star (sum p q));
}
closed_with_one = refl

-- the sum of two hypotheses is used
closed_with_two : (closed (poses (r ∷ one ∷ []))).left ≡ sum p (product (star (sum p q)) (product (sum r one) (star (sum p q))))
closed_with_two = refl

-- Faults, in the order of a problem's limits and of preorder.

abbrev fault_of : ℕ → ℕ → List Term → Term → Term → Option BadProblem
fault_of tests actions hyps left right = problem_fault (record { tests = tests; actions = actions; hyps = hyps; left = left; right = right })

fault_none : fault_of 48 48 (act 47 ∷ []) (test (prim 47)) while_b ≡ None
fault_none = refl

fault_tests : fault_of 49 49 [] (test (prim 60)) p ≡ Some (TooManyTests 49)
fault_tests = refl

fault_actions : fault_of 48 50 [] (test (prim 60)) p ≡ Some (TooManyActions 50)
fault_actions = refl

-- hypotheses come before the sides, and the left side before the right
fault_hyps : fault_of 1 1 (act 3 ∷ act 4 ∷ []) (act 5) (act 6) ≡ Some (ActionRange 3)
fault_hyps = refl

fault_left : fault_of 1 1 (p ∷ []) (act 5) (act 6) ≡ Some (ActionRange 5)
fault_left = refl

fault_right : fault_of 1 1 (p ∷ []) (test b) (act 1) ≡ Some (ActionRange 1)
fault_right = refl

fault_preorder : fault_of 1 1 [] (product (test (meet b (prim 2))) (act 7)) zero ≡ Some (TestRange 2)
fault_preorder = refl

-- Guarded terms: if b then p else q, and a loop in a loop, but no choice and no loop without a test.

guarded_if : IsGuarded (sum (product (test b) p) (product (test (complement b)) q))
guarded_if = guarded_choice b (guarded_act 0) (guarded_act 1)

guarded_loops : IsGuarded (product (star (product (test c) while_b)) (test (complement c)))
guarded_loops = guarded_loop c (guarded_loop b (guarded_act 0))

not_guarded_sum : IsGuarded (sum p q) → ⊥
not_guarded_sum h = elim h [ ]

not_guarded_star : IsGuarded (star p) → ⊥
not_guarded_star h = elim h [ ]

-- p + q has a step by either action
many_steps_sum : HasOneStep (sum p q) → ⊥
many_steps_sum h = let same = (h.alone [] 0 1 one one (inl refl) (inl refl)).0 in absurd cc
