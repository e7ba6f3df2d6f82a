-- The problems of small graphs, computed.
use Rattle.std.proofs.Common.{◌≡◌, ℕ, Bool, true, false, ◌||◌, nat_eq, List, [], ◌∷◌, Some, Ok, refl}
use Rattle.kat_model.specs.Trees.{prim, complement, Term, test, act, product, star}
use Rattle.kat_model.specs.declared.expression.Rel.TheVariants.{Eq}
use Rattle.kat_model.specs.declared.expression.Width.TheVariants.{W8}
use Rattle.flow_model.specs.declared.sort.Sort.{Sort}
use Rattle.flow_model.specs.declared.sort.Sort.TheVariants.{Number}
use Rattle.flow_model.specs.Expressions.{ExprTree}
use Rattle.flow_model.specs.Expressions as expr
use Rattle.flow_model.specs.Conditions.{compared}
use Rattle.flow_model.specs.Graphs.{assign, goto, branch, return, Graph}
use Rattle.flow_forms.specs.Forms.{FlowFormTree, constant, term, one, factor, variable}
use Rattle.flow_forms.specs.Comparisons.{zero_form}
use Rattle.flow_problem.specs.Edges.{assigned, given, Marks}
use Rattle.flow_problem.specs.FlowProblems.{FlowQuestion, PairMarks, flow_parts, flow_actions, flow_tests, problem_by}

-- one variable of 8 bits
abbrev sorts : List Sort
sorts = Number W8 ∷ []

abbrev x : ExprTree
x = expr.variable 0

abbrev x_plus : ℕ → ExprTree
x_plus n = expr.plus W8 x (expr.number W8 n)

-- x + n as a form
abbrev sum : ℕ → FlowFormTree
sum n = term 1 (factor (variable 0) one) (constant n)

abbrev at_entry : Marks
at_entry = record { places = 0 ∷ []; is_place = λ i. nat_eq i 0; live = λ i v. true }

abbrev at_head : Marks
at_head = record { places = 0 ∷ 1 ∷ []; is_place = λ i. nat_eq i 0 || nat_eq i 1; live = λ i v. true }

abbrev question : Graph → Graph → ℕ → Bool → FlowQuestion
question g h rounds splits = record { pair = record { sorts = sorts; before = g; after = h }; rounds = rounds; splits = splits }

-- ---- two additions, and one

abbrev twice : Graph
twice = record { is_cut = false; statements = assign (0 ∷ []) (x_plus 1 ∷ []) ∷ assign (0 ∷ []) (x_plus 1 ∷ []) ∷ []; jump = return (x ∷ []) } ∷ []

abbrev once : Graph
once = record { is_cut = false; statements = assign (0 ∷ []) (x_plus 2 ∷ []) ∷ []; jump = return (x ∷ []) } ∷ []

abbrev straight : PairMarks
straight = record { before = at_entry; after = at_entry }

-- both are one action: the result is x + 2
pub same_sums : problem_by (question twice once 1 false) straight
    ≡ Ok (record {
      problem = record { tests = 0; actions = 1; hyps = []; left = act 0; right = act 0 };
      tests = [];
      actions = given ((Number W8, sum 2) ∷ []) ∷ [];
    })
same_sums = refl

-- ---- a loop that counts down to 0

abbrev countdown : Graph
countdown =
    record { is_cut = false; statements = []; jump = goto 1 }
    ∷ record { is_cut = false; statements = []; jump = branch (compared Eq x (expr.number W8 0)) 2 3 }
    ∷ record { is_cut = false; statements = []; jump = return (x ∷ []) }
    ∷ record { is_cut = false; statements = assign (0 ∷ []) (x_plus 255 ∷ []) ∷ []; jump = goto 1 } ∷ []

abbrev looping : PairMarks
looping = record { before = at_head; after = at_head }

-- while x is not 0, the second action; then the first one
abbrev counted : Term
counted = product (star (product (test (complement (prim 0))) (act 1))) (product (test (prim 0)) (act 0))

pub loop_term : (flow_parts (question countdown countdown 0 false) looping).left ≡ counted
loop_term = refl

pub loop_actions : flow_actions (question countdown countdown 0 false) looping ≡ given ((Number W8, sum 0) ∷ []) ∷ assigned (Some (sum 255) ∷ []) ∷ []
loop_actions = refl

-- a round adds the test before the action
pub loop_tests : flow_tests (question countdown countdown 1 false) looping ≡ zero_form W8 (sum 0) ∷ zero_form W8 (sum 255) ∷ []
loop_tests = refl

-- the first test holds after the action where the second one holds before it, and both exclude one another
pub loop_hypotheses : (flow_parts (question countdown countdown 1 false) looping).hyps
    ≡ product (test (prim 1)) (product (act 1) (test (complement (prim 0))))
    ∷ product (test (complement (prim 1))) (product (act 1) (test (prim 0)))
    ∷ product (test (prim 0)) (test (prim 1)) ∷ []
loop_hypotheses = refl

-- where the way is split, the result is the number
pub split_result : flow_actions (question countdown countdown 0 true) looping ≡ given ((Number W8, constant 0) ∷ []) ∷ assigned (Some (sum 255) ∷ []) ∷ []
split_result = refl
