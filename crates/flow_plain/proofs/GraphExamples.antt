-- Two graphs, worked by hand, with their plainest text: so the premise of the law can be met, and the order of operands,
-- arguments and targets can be seen.
use Rattle.std.proofs.Common.{◌≡◌, ◌≤◌, List, [], ◌∷◌, ℕ, true, false, Some, length, refl, sym, subst, lit<, arith}
use Rattle.std.proofs.lemmas.Fmt.{decimal_digit}
use Rattle.std.specs.Prelude.{codes}
use Rattle.std.specs.Fmt.{decimal}
use Rattle.kat_model.specs.declared.expression.Rel.TheVariants.{Eq, Ne, Lt}
use Rattle.kat_model.specs.declared.expression.Width.TheVariants.{W8, W64}
use Rattle.kat_model.specs.declared.limits.TheConstants.{MAX_TEXT_BYTES}
use Rattle.text_print.proofs.WordTerminals.{zero_written, one_written}
use Rattle.flow_model.specs.declared.sort.Sort.{Sort}
use Rattle.flow_model.specs.declared.sort.Sort.TheVariants.{Number, Opaque}
use Rattle.flow_model.specs.Expressions.{ExprTree, number, variable, minus, converted, applied, no_arguments, argument}
use Rattle.flow_model.specs.Conditions.{CondTree, compared_signed}
use Rattle.flow_model.specs.Graphs.{StatementTree, assign, claim, branch, return, abort, Graph, Pair}
use Rattle.flow_text.specs.Scopes.{function_parts}
use Rattle.flow_text.specs.Checking.{FlowFileParts}
use Rattle.flow_text.specs.Texts.{IsFlowText}
use Rattle.flow_plain.specs.PlainGraphs.{Declared, graphs_text}
use Rattle.flow_plain.specs.PrintableGraphs.{IsPlainExpr, IsPlainCond, IsPlainStatement, ArePlainGraphs}
use Rattle.flow_plain.specs.Laws.{Compares}
use Rattle.flow_plain.proofs.ReadBack.{read_back}

abbrev declared : Declared
declared = record { sorts = 1; functions = function_parts (Number W8) (Opaque 0 ∷ Number W8 ∷ []) ∷ []; rounds = Some 2; splits = true }

abbrev sorts : List Sort
sorts = Number W64 ∷ Opaque 0 ∷ []

-- a variable is counted down
abbrev less : ExprTree
less = minus W64 (variable 0) (number W64 1)

abbrev counts : StatementTree
counts = assign (0 ∷ []) (less ∷ [])

-- it is below 8 as two's complement
abbrev is_low : CondTree
is_low = compared_signed Lt W64 (variable 0) (number W64 8)

-- the function of the other variable and of the low byte of this one
abbrev loaded : ExprTree
loaded = applied 0 (Number W8) (argument (variable 1) (argument (converted false W64 W8 (variable 0)) no_arguments))

abbrev checks : Graph
checks =
    record { is_cut = false; statements = counts ∷ []; jump = branch is_low 1 2 }
    ∷ record { is_cut = false; statements = []; jump = return (loaded ∷ []) }
    ∷ record { is_cut = false; statements = []; jump = abort }
    ∷ []

abbrev asserts : Graph
asserts = record { is_cut = false; statements = counts ∷ claim is_low ∷ []; jump = return (loaded ∷ []) } ∷ []

abbrev pair : Pair
pair = record { sorts = sorts; before = checks; after = asserts }

abbrev pair_text : List ℕ
pair_text = codes "sort o0;\nfun u8 f0(o0, u8);\nvar u64 x0;\nvar o0 x1;\ngraph before {\n  block b0 { x0 := (x0 - 1); if slt(x0, 8) goto b1 else b2; }\n  block b1 { return f0(x1, u8(x0)); }\n  block b2 { abort; }\n}\ngraph after {\n  block b0 { x0 := (x0 - 1); assert slt(x0, 8); return f0(x1, u8(x0)); }\n}\nrounds 2;\nsplit;\nequal before, after;\n"

two_written : decimal 2 ≡ codes "2"
two_written = decimal_digit 2 (lit< tt)

eight_written : decimal 8 ≡ codes "8"
eight_written = decimal_digit 8 (lit< tt)

pair_spelled : graphs_text declared pair ≡ pair_text
pair_spelled = rw (zero_written, one_written, two_written, eight_written) refl

less_plain : IsPlainExpr declared sorts (Number W64) less
less_plain = record {
  sorted = (refl, (Number W64, refl, refl), (refl, lit< tt));
  small = let three : 3 ≤ 1000 = omega arith in three;
  shallow = let three : 3 ≤ 200 = omega arith in three;
}

loaded_plain : IsPlainExpr declared sorts (Number W8) loaded
loaded_plain = record {
  sorted = (Opaque 0 ∷ Number W8 ∷ [], refl, refl, (Opaque 0, Number W8 ∷ [], refl, (Opaque 0, refl, refl), (Number W8, [], refl, (refl, (Number W64, refl, refl), refl), refl)));
  small = let four : 4 ≤ 1000 = omega arith in four;
  shallow = let four : 4 ≤ 200 = omega arith in four;
}

no_equality : Lt ≡ Eq → ⊥
no_equality e = cc

no_inequality : Lt ≡ Ne → ⊥
no_inequality e = cc

low_plain : IsPlainCond declared sorts is_low
low_plain =
    let one : 1 ≤ 1000 = omega arith in
    record {
      sorted = ((refl, (Number W64, refl, refl), (refl, lit< tt), one, one), no_equality, no_inequality);
      shallow = let three : 3 ≤ 200 = omega arith in three;
    }

some : {X : Type 0} (x : X) (xs : List X) → x ∷ xs ≡ [] → ⊥
some x xs e = cc

counts_plain : IsPlainStatement declared sorts counts
counts_plain = (some 0 [], (λ h. h, tt), (Number W64, refl, less_plain, tt))

pair_plain : ArePlainGraphs declared pair
pair_plain = record {
  short = subst (λ (l : List ℕ). length l ≤ MAX_TEXT_BYTES) (sym pair_spelled) (let bytes : 317 ≤ 1048576 = omega arith in bytes);
  sorts = let one : 1 ≤ 64 = omega arith in one;
  functions = (tt, (lit< tt, (tt, tt)), (let two : 2 ≤ 16 = omega arith in two), tt);
  few_functions = let one : 1 ≤ 256 = omega arith in one;
  rounds = let two : 2 ≤ 16 = omega arith in two;
  variables = (tt, (lit< tt, tt));
  few_variables = let two : 2 ≤ 256 = omega arith in two;
  before = record {
    some = some _ _;
    few = let three : 3 ≤ 1000 = omega arith in three;
    small = let nodes : 17 ≤ 100000 = omega arith in nodes;
    blocks = ((counts_plain, tt), (low_plain, lit< tt, lit< tt), (tt, (loaded_plain, tt), (tt, tt, tt)));
  };
  after = record {
    some = some _ _;
    few = let one : 1 ≤ 1000 = omega arith in one;
    small = let nodes : 14 ≤ 100000 = omega arith in nodes;
    blocks = ((counts_plain, (low_plain, tt)), (loaded_plain, tt), tt);
  };
  small = let nodes : 31 ≤ 1000000 = omega arith in nodes;
}

-- so the text is read as these graphs
pub pair_read : (f : FlowFileParts) × IsFlowText pair_text f × Compares declared pair f
pair_read = subst (λ (l : List ℕ). (f : FlowFileParts) × IsFlowText l f × Compares declared pair f) pair_spelled (read_back declared pair pair_plain)
