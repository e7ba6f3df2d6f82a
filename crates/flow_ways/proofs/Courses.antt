-- Steps of courses.
use Rattle.std.proofs.Common.{◌≡◌, ◌-◌, Bool, true, false, ◌&&◌, List, ◌∷◌, length, map, take, drop, Option, Some, None, refl, sym, ◌∙◌, ap, arith}
use mathlib.Core.Path.{ap₂}
use Rattle.std.proofs.lemmas.List.{nil_from_length, take_all}
use Rattle.flow_model.specs.declared.sort.Sort.{Sort}
use Rattle.flow_model.specs.declared.graph.Statement.{Statement}
use Rattle.flow_model.specs.Graphs.{StatementTree, assign, claim}
use Rattle.flow_model.specs.Polish.{statement_of}
use Rattle.flow_ways.specs.Conditions.{FlowCondTree, constantly, atom, negation, both, either, is_true, is_false}
use Rattle.flow_ways.specs.Ways.{SymbolicRun, with_queried, with_test, and_then, after_statements}
use Rattle.flow_ways.specs.Outcomes.{statement_fits, after_statement, fits_if, statements_fit}
use Rattle.flow_ways.specs.CourseTrees.{if_goes}

-- a test is new, or known

pub test_true : (symbolic_run : SymbolicRun) (b : FlowCondTree) → is_true b ≡ true → Some symbolic_run ≡ with_test symbolic_run b
test_true symbolic_run (constantly true) e = refl
test_true symbolic_run (constantly false) e = absurd cc
test_true symbolic_run _ e = absurd cc

pub test_false : (symbolic_run : SymbolicRun) (b : FlowCondTree) → is_false b ≡ true → None ≡ with_test symbolic_run b
test_false symbolic_run (constantly true) e = absurd cc
test_false symbolic_run (constantly false) e = refl
test_false symbolic_run _ e = absurd cc

pub test_queried : (symbolic_run next : SymbolicRun) (b : FlowCondTree) → is_true b ≡ false → is_false b ≡ false → next ≡ with_queried symbolic_run b → Some next ≡ with_test symbolic_run b
test_queried symbolic_run next (constantly true) e f h = absurd cc
test_queried symbolic_run next (constantly false) e f h = absurd cc
test_queried symbolic_run next (atom c) e f h = ap (λ x. Some x) h
test_queried symbolic_run next (negation b) e f h = ap (λ x. Some x) h
test_queried symbolic_run next (both b c) e f h = ap (λ x. Some x) h
test_queried symbolic_run next (either b c) e f h = ap (λ x. Some x) h

-- statements one after the other

pub after_first : (sorts : List Sort) (s : StatementTree) (rest : List StatementTree) (symbolic_run : SymbolicRun) → after_statements sorts (s ∷ rest) symbolic_run ≡ and_then (after_statement sorts s symbolic_run) (after_statements sorts rest)
after_first sorts (assign ks es) rest symbolic_run = refl
after_first sorts (claim b) rest symbolic_run = refl

goes_on : (goes : Bool) (next : SymbolicRun) (o : Option SymbolicRun) → goes ≡ true → if_goes goes next ≡ o → o ≡ Some next
goes_on goes next o t e = sym e ∙ ap (λ b. if_goes b next) t

stops : (goes : Bool) (next : SymbolicRun) (o : Option SymbolicRun) → goes ≡ false → if_goes goes next ≡ o → o ≡ None
stops goes next o t e = sym e ∙ ap (λ b. if_goes b next) t

first_stops : (sorts : List Sort) (s : StatementTree) (rest : List StatementTree) (old mid : SymbolicRun) (goes : Bool) → goes ≡ false → if_goes goes mid ≡ after_statement sorts s old → None ≡ after_statements sorts (s ∷ rest) old
first_stops sorts s rest old mid goes t e =
    sym (after_first sorts s rest old ∙ ap (λ o. and_then o (after_statements sorts rest)) (stops goes mid (after_statement sorts s old) t e))

first_goes : (sorts : List Sort) (s : StatementTree) (rest : List StatementTree) (old mid : SymbolicRun) (goes : Bool) (last : Option SymbolicRun) → goes ≡ true → if_goes goes mid ≡ after_statement sorts s old → last ≡ after_statements sorts rest mid → last ≡ after_statements sorts (s ∷ rest) old
first_goes sorts s rest old mid goes last t e f =
    f ∙ sym (after_first sorts s rest old ∙ ap (λ o. and_then o (after_statements sorts rest)) (goes_on goes mid (after_statement sorts s old) t e))

stops_fit : (sorts : List Sort) (s : Statement) (rest : List Statement) (old mid : SymbolicRun) (goes : Bool) → goes ≡ false → if_goes goes mid ≡ after_statement sorts (statement_of s) old → statement_fits sorts s old ≡ true → statements_fit sorts (s ∷ rest) old ≡ true
stops_fit sorts s rest old mid goes t e h =
    ap₂ (λ a o. a && fits_if o (statements_fit sorts rest)) h (stops goes mid (after_statement sorts (statement_of s) old) t e)

first_unfit : (sorts : List Sort) (s : Statement) (rest : List Statement) (old : SymbolicRun) → statement_fits sorts s old ≡ false → statements_fit sorts (s ∷ rest) old ≡ false
first_unfit sorts s rest old h = ap (λ a. a && fits_if (after_statement sorts (statement_of s) old) (statements_fit sorts rest)) h

-- the first of the statements that are left, after which the course goes on: what they lead to stays the same

without_first : (left others : List Statement) (s : Statement) → left ≡ s ∷ others → take (length left - 1) (drop 1 left) ≡ others
without_first left others s is =
    ap (λ ss. take (length ss - 1) (drop 1 ss)) is ∙ take_all (length (s ∷ others) - 1) others (omega arith)

pub still_after : (sorts : List Sort) (left others : List Statement) (s : Statement) (old mid : SymbolicRun) (goes : Bool) (all : Option SymbolicRun) → left ≡ s ∷ others → goes ≡ true → if_goes goes mid ≡ after_statement sorts (statement_of s) old →
    after_statements sorts (map statement_of left) old ≡ all → after_statements sorts (map statement_of (take (length left - 1) (drop 1 left))) mid ≡ all
still_after sorts left others s old mid goes all is t e so_far =
    ap (λ ss. after_statements sorts (map statement_of ss) mid) (without_first left others s is)
    ∙ first_goes sorts (statement_of s) (map statement_of others) old mid goes (after_statements sorts (map statement_of others) mid) t e refl
    ∙ ap (λ ss. after_statements sorts (map statement_of ss) old) (sym is)
    ∙ so_far

pub still_fits : (sorts : List Sort) (left others : List Statement) (s : Statement) (old mid : SymbolicRun) (goes all : Bool) → left ≡ s ∷ others → goes ≡ true → if_goes goes mid ≡ after_statement sorts (statement_of s) old → statement_fits sorts s old ≡ true →
    statements_fit sorts left old ≡ all → statements_fit sorts (take (length left - 1) (drop 1 left)) mid ≡ all
still_fits sorts left others s old mid goes all is t e h so_far =
    ap (λ ss. statements_fit sorts ss mid) (without_first left others s is)
    ∙ sym (ap₂ (λ a o. a && fits_if o (statements_fit sorts others)) h (goes_on goes mid (after_statement sorts (statement_of s) old) t e))
    ∙ ap (λ ss. statements_fit sorts ss old) (sym is)
    ∙ so_far

-- the first of the statements that are left, at which the course stops or which does not fit

pub stops_after : (sorts : List Sort) (left others : List Statement) (s : Statement) (old mid : SymbolicRun) (goes : Bool) (all : Option SymbolicRun) → left ≡ s ∷ others → goes ≡ false → if_goes goes mid ≡ after_statement sorts (statement_of s) old →
    after_statements sorts (map statement_of left) old ≡ all → None ≡ all
stops_after sorts left others s old mid goes all is t e so_far =
    first_stops sorts (statement_of s) (map statement_of others) old mid goes t e ∙ ap (λ ss. after_statements sorts (map statement_of ss) old) (sym is) ∙ so_far

pub stops_fitting : (sorts : List Sort) (left others : List Statement) (s : Statement) (old mid : SymbolicRun) (goes all : Bool) → left ≡ s ∷ others → goes ≡ false → if_goes goes mid ≡ after_statement sorts (statement_of s) old → statement_fits sorts s old ≡ true →
    statements_fit sorts left old ≡ all → all ≡ true
stops_fitting sorts left others s old mid goes all is t e h so_far =
    sym so_far ∙ ap (λ ss. statements_fit sorts ss old) is ∙ stops_fit sorts s others old mid goes t e h

pub left_unfit : (sorts : List Sort) (left others : List Statement) (s : Statement) (old : SymbolicRun) (all : Bool) → left ≡ s ∷ others → statement_fits sorts s old ≡ false → statements_fit sorts left old ≡ all → all ≡ false
left_unfit sorts left others s old all is h so_far =
    sym so_far ∙ ap (λ ss. statements_fit sorts ss old) is ∙ first_unfit sorts s others old h

-- no statement is left

pub none_left : (sorts : List Sort) (left : List Statement) (mid : SymbolicRun) (all : Option SymbolicRun) → length left ≡ 0 → after_statements sorts (map statement_of left) mid ≡ all → Some mid ≡ all
none_left sorts left mid all e so_far =
    sym (ap (λ ss. after_statements sorts (map statement_of ss) mid) (nil_from_length left e)) ∙ so_far

pub none_unfit : (sorts : List Sort) (left : List Statement) (mid : SymbolicRun) (all : Bool) → length left ≡ 0 → statements_fit sorts left mid ≡ all → all ≡ true
none_unfit sorts left mid all e so_far = sym so_far ∙ ap (λ ss. statements_fit sorts ss mid) (nil_from_length left e)
