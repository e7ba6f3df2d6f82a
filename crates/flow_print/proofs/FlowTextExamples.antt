-- A worked example: the text of a flow problem, written by hand.
use Rattle.std.proofs.Common.{◌≡◌, List, [], ◌∷◌, ◌++◌, false, Some, None, refl}
use Rattle.std.specs.Prelude.{codes}
use Rattle.std.specs.Fmt.{digits}
use Rattle.kat_model.specs.Trees.{prim, complement, test, act, product}
use Rattle.kat_model.specs.declared.expression.Width.TheVariants.{W8, W64}
use Rattle.flow_model.specs.declared.sort.Sort.TheVariants.{Number, Opaque}
use Rattle.flow_forms.specs.Forms.{FlowFormTree, constant, term, one, factor, variable, applied, converted, no_arguments, argument, cell_form}
use Rattle.flow_forms.specs.Comparisons.{zero_form, less_form}
use Rattle.flow_problem.specs.Edges.{assigned, given}
use Rattle.flow_problem.specs.FlowFacts.{FlowRule, by_assignment, by_intervals}
use Rattle.flow_problem.specs.Points.{FlowProblem}
use Rattle.flow_print.specs.NameTables.{NameTable}
use Rattle.flow_print.specs.FlowTexts.{flow_text}

-- var u64 p, q, n; var mem m; var u8 c; fun u8 load(mem, u64);
abbrev names : NameTable
names = record {
  variables = codes "p" ∷ codes "q" ∷ codes "n" ∷ codes "m" ∷ codes "c" ∷ [];
  sorts = Number W64 ∷ Number W64 ∷ Number W64 ∷ Opaque 0 ∷ Number W8 ∷ [];
  functions = codes "load" ∷ [];
}

-- load(m, q), and q - p
abbrev loaded : FlowFormTree
loaded = applied 0 (Number W8) (argument (Opaque 0) (variable 3) (argument (Number W64) (cell_form (variable 1)) no_arguments))

abbrev distance : FlowFormTree
distance = term 18446744073709551615 (factor (variable 0) one) (term 1 (factor (variable 1) one) (constant 0))

abbrev rules : List FlowRule
rules = by_assignment 0 1 ∷ by_assignment 0 1 ∷ by_intervals (0 ∷ 2 ∷ []) ∷ []

abbrev walk : FlowProblem
walk = record {
  problem = record {
    tests = 3;
    actions = 2;
    hyps = product (test (prim 1)) (product (act 0) (test (complement (prim 1)))) ∷ product (test (complement (prim 1))) (product (act 0) (test (prim 1))) ∷ product (test (prim 0)) (test (prim 2)) ∷ [];
    left = product (test (prim 0)) (act 0);
    right = act 1;
  };
  tests = zero_form W8 (cell_form loaded) ∷ less_form W64 distance (constant 10) ∷ zero_form W8 (term 1 (factor (variable 4) one) (constant 56)) ∷ [];
  actions =
      assigned (None ∷ Some (term 1 (factor (variable 1) one) (constant 1)) ∷ Some (cell_form (converted false W8 W64 (cell_form loaded))) ∷ None ∷ None ∷ [])
      ∷ given ((Number W64, distance) ∷ []) ∷ [];
}

text_of_walk : flow_text names rules walk
    ≡ codes "# t0 is load(m, q) == 0\n" ++ codes "# t1 is 0 - p + q < 10\n" ++ codes "# t2 is c == 200\n" ++ codes "test t0, t1, t2;\n"
    ++ codes "# a0 is q, n := q + 1, u64(load(m, q))\n" ++ codes "# a1 is return 0 - p + q\n" ++ codes "action a0, a1;\n"
    ++ codes "# assign a0 t1\n" ++ codes "hyp (t1.(a0.[!t1])) = 0;\n" ++ codes "hyp ([!t1].(a0.t1)) = 0;\n"
    ++ codes "# F9 t0 t2\n" ++ codes "hyp (t0.t2) = 0;\n"
    ++ codes "goal equal (t0.a0), a1;\n"
unfolding digits
text_of_walk = refl
