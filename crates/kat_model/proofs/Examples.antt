-- Worked examples of tests and terms: what they accept under an atom, and what remains of them after a step. The
-- definitions compute each value; the expected values were found by hand.
use Rattle.std.proofs.Common.{◌≡◌, Bool, true, false, List, [], ◌∷◌, map, refl}
use Rattle.kat_model.specs.Trees.{TestTree, bottom, top, prim, complement, meet, join, Term, zero, one, test, act, sum, product, star}
use Rattle.kat_model.specs.Steps.{Atom, truth, dot, out, next, set_out, set_next}

-- two tests and three actions

abbrev pub b : TestTree
b = prim 0

abbrev pub c : TestTree
c = prim 1

abbrev pub p : Term
p = act 0

abbrev pub q : Term
q = act 1

abbrev pub r : Term
r = act 2

-- while b do p, which is (b.p)*.!b (Kozen 1997)
abbrev pub while_b : Term
while_b = product (star (product (test b) p)) (test (complement b))

-- both sides of the denesting rule (p + q)* = (p*.q)*.p* (Kozen 1990)

abbrev pub nested : Term
nested = star (sum p q)

abbrev pub denested : Term
denested = product (star (product (star p) q)) (star p)

-- both sides of the sliding rule p.(q.p)* = (p.q)*.p (Kozen 1990)

abbrev pub slid_right : Term
slid_right = product p (star (product q p))

abbrev pub slid_left : Term
slid_left = product (star (product p q)) p

-- The truth table of each connective over the four atoms of two tests.

abbrev pub two_tests : List Atom
two_tests = (true ∷ true ∷ []) ∷ (true ∷ false ∷ []) ∷ (false ∷ true ∷ []) ∷ (false ∷ false ∷ []) ∷ []

truth_bottom : map (truth bottom) two_tests ≡ false ∷ false ∷ false ∷ false ∷ []
truth_bottom = refl

truth_top : map (truth top) two_tests ≡ true ∷ true ∷ true ∷ true ∷ []
truth_top = refl

truth_first : map (truth b) two_tests ≡ true ∷ true ∷ false ∷ false ∷ []
truth_first = refl

truth_second : map (truth c) two_tests ≡ true ∷ false ∷ true ∷ false ∷ []
truth_second = refl

-- a test that the atom does not assign is false
truth_beyond : map (truth (prim 2)) two_tests ≡ false ∷ false ∷ false ∷ false ∷ []
truth_beyond = refl

truth_complement : map (truth (complement b)) two_tests ≡ false ∷ false ∷ true ∷ true ∷ []
truth_complement = refl

truth_meet : map (truth (meet b c)) two_tests ≡ true ∷ false ∷ false ∷ false ∷ []
truth_meet = refl

truth_join : map (truth (join b c)) two_tests ≡ true ∷ true ∷ true ∷ false ∷ []
truth_join = refl

-- De Morgan's law at each atom
truth_de_morgan : map (truth (complement (meet b c))) two_tests ≡ map (truth (join (complement b) (complement c))) two_tests
truth_de_morgan = refl

-- Whether a term accepts the atoms of one test: first the atom with b true, then the one with b false.

abbrev pub on : Atom
on = true ∷ []

abbrev pub off : Atom
off = false ∷ []

abbrev outs : Term → List Bool
outs e = out e on ∷ out e off ∷ []

out_zero : outs zero ≡ false ∷ false ∷ []
out_zero = refl

out_one : outs one ≡ true ∷ true ∷ []
out_one = refl

out_test : outs (test b) ≡ true ∷ false ∷ []
out_test = refl

out_act : outs p ≡ false ∷ false ∷ []
out_act = refl

out_sum : outs (sum p (test b)) ≡ true ∷ false ∷ []
out_sum = refl

out_product : outs (product one (test b)) ≡ true ∷ false ∷ []
out_product = refl

-- b.p does not accept an atom
out_product_act : outs (product (test b) p) ≡ false ∷ false ∷ []
out_product_act = refl

-- a star accepts every atom, with no turn
out_star : outs (star (product (test b) p)) ≡ true ∷ true ∷ []
out_star = refl

-- the loop ends at once if its test is false
out_while : outs while_b ≡ false ∷ true ∷ []
out_while = refl

-- What remains after an action.

dot_one : dot one q ≡ q
dot_one = refl

dot_zero : dot zero q ≡ product zero q
dot_zero = refl

dot_test : dot (test top) q ≡ product (test top) q
dot_test = refl

dot_product : dot (product p q) r ≡ product (product p q) r
dot_product = refl

next_zero : next zero on 0 ≡ []
next_zero = refl

next_one : next one on 0 ≡ []
next_one = refl

next_test : next (test b) on 0 ≡ []
next_test = refl

next_act : next p on 0 ≡ one ∷ []
next_act = refl

next_other_act : next p on 1 ≡ []
next_other_act = refl

next_sum : next (sum p q) on 1 ≡ one ∷ []
next_sum = refl

-- a list may contain a term twice
next_sum_twice : next (sum p p) on 0 ≡ one ∷ one ∷ []
next_sum_twice = refl

-- p.q leaves q after p, and does not begin with q
next_product : next (product p q) on 0 ≡ q ∷ []
next_product = refl

next_product_second : next (product p q) on 1 ≡ []
next_product_second = refl

-- b.p begins only if b is true
next_guarded_on : next (product (test b) p) on 0 ≡ one ∷ []
next_guarded_on = refl

next_guarded_off : next (product (test b) p) off 0 ≡ []
next_guarded_off = refl

-- p*.q continues with p or ends with q
next_star_product : next (product (star p) q) on 0 ≡ product (star p) q ∷ []
next_star_product = refl

next_star_product_end : next (product (star p) q) on 1 ≡ one ∷ []
next_star_product_end = refl

next_nested : next nested on 1 ≡ nested ∷ []
next_nested = refl

-- a turn, which is taken if b is true, leaves the loop unchanged
next_while_on : next while_b on 0 ≡ while_b ∷ []
next_while_on = refl

next_while_off : next while_b off 0 ≡ []
next_while_off = refl

-- p*.p* continues in the first star or in the second
next_star_twice : next (product (star p) (star p)) on 0 ≡ product (star p) (star p) ∷ star p ∷ []
next_star_twice = refl

-- a set accepts an atom if a member does, and steps to what its members step to
set_out_example : set_out (p ∷ test b ∷ []) on ∷ set_out (p ∷ test b ∷ []) off ∷ set_out [] on ∷ [] ≡ true ∷ false ∷ false ∷ []
set_out_example = refl

set_next_example : set_next (product p q ∷ q ∷ p ∷ []) on 0 ≡ q ∷ one ∷ []
set_next_example = refl
