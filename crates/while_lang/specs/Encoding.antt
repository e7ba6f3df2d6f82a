-- Programs as terms (Kozen 1997).
use Rattle.std.specs.Prelude.{List, [], ◌∷◌}
use Rattle.kat_model.specs.Trees.{TestTree, complement, Term, zero, one, test, act, sum, product, star}
use Rattle.kat_model.specs.Balanced.{product_of}
use Rattle.while_lang.specs.Flows.{FlowTree, empty, skip_then, abort_then, assert_then, act_then, branch_then, loop_then}

-- if b then e else f: b.e + !b.f
abbrev pub branch_term : TestTree → Term → Term → Term
branch_term b e f = sum (product (test b) e) (product (test (complement b)) f)

-- while b do e: (b.e)*.!b
abbrev pub loop_term : TestTree → Term → Term
loop_term b e = product (star (product (test b) e)) (test (complement b))

-- the terms of the statements, in order
abbrev pub stmt_terms : FlowTree → List Term
stmt_terms empty = []
stmt_terms (skip_then rest) = one ∷ stmt_terms rest
stmt_terms (abort_then rest) = zero ∷ stmt_terms rest
stmt_terms (assert_then b rest) = test b ∷ stmt_terms rest
stmt_terms (act_then a rest) = act a ∷ stmt_terms rest
stmt_terms (branch_then b f g rest) = branch_term b (product_of (stmt_terms f)) (product_of (stmt_terms g)) ∷ stmt_terms rest
stmt_terms (loop_then b f rest) = loop_term b (product_of (stmt_terms f)) ∷ stmt_terms rest

-- the term of a flow: the balanced product of its statements
abbrev pub encoded : FlowTree → Term
encoded f = product_of (stmt_terms f)
