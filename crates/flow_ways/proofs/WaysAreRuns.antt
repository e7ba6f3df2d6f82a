-- Ways are runs from place to place.
use Rattle.std.proofs.Common.{◌≡◌, ◌⊎◌, inl, inr, ℕ, zero, suc, Bool, true, false, not, List, [], ◌∷◌, ◌++◌, length, map, Option, Some, None, slice_get, if◌then◌else◌, refl, sym, ◌∙◌, ap, subst}
use mathlib.Core.Path.{ap₂}
use Rattle.kat_model.specs.Members.{Has}
use Rattle.kat_model.proofs.Lists.{has_left, has_right, has_append}
use Rattle.flow_model.specs.declared.sort.Sort.{Sort}
use Rattle.flow_model.specs.Sorts.{State, IsState}
use Rattle.flow_model.specs.Expressions.{ExprTree}
use Rattle.flow_model.specs.Conditions.{CondTree}
use Rattle.flow_model.specs.Graphs.{StatementTree, assign, claim, JumpTree, goto, branch, return, abort, Block, Graph}
use Rattle.flow_model.specs.Interpretations.{Interpretation, value, holds}
use Rattle.flow_model.specs.Runs.{with_values}
use Rattle.flow_model.specs.Runs as runs
use Rattle.flow_forms.specs.Forms.{FlowFormTree}
use Rattle.flow_forms.specs.Values.{form_value}
use Rattle.flow_forms.specs.Expressions.{sort_of, form_of, HasForms}
use Rattle.flow_forms.proofs.ExpressionValues.{kept}
use Rattle.flow_ways.specs.Conditions.{FlowCondTree, constantly, atom, negation, both, either, cond_holds, opposite_cond, facts_of, cond_form, IsSortedCond}
use Rattle.flow_ways.specs.Ways.{SymbolicRun, at_place, at_return, Way, with_queried, with_test, and_then, with_forms, condition_on, after_statements, ways_if, jump_ways, block_ways, ways_from, first_course, ways, state_of, AllHold}
use Rattle.flow_ways.specs.Sorted.{AreSorted, AreAssigned, AreSortedStatements, IsSortedJump, IsSortedBlock, IsSortedGraph}
use Rattle.flow_ways.specs.Stops.{Stop, came_to, returned, jump_stop, jump_stop_if, block_stop, stop_from, EndsAs, IsSettled}
use Rattle.flow_ways.specs.Laws.{AreRuns}
use Rattle.flow_ways.proofs.CondValues.{FactsHold, FactsHold-append, holds-opposite_cond, holds-simplified, facts_hold, holds-cond_form}
use Rattle.flow_ways.proofs.States.{has_forms, length-with_forms, state_of-with_forms, own_state, own_length}

-- the course follows a run from the state s that has reached the state t
pub record Follows (I : Interpretation) (s : State) (sorts : List Sort) (t : State) (symbolic_run : SymbolicRun) : Type 0 where
  pub state : state_of I s sorts symbolic_run.forms ≡ t
  pub lengths : length symbolic_run.forms ≡ length sorts
  pub known : AllHold I s symbolic_run.tests → FactsHold I s symbolic_run.facts

forms_of : (I : Interpretation) (s : State) (sorts : List Sort) (t : State) (symbolic_run : SymbolicRun) → Follows I s sorts t symbolic_run → HasForms I s sorts symbolic_run.forms t
forms_of I s sorts t symbolic_run v = subst (λ u. HasForms I s sorts symbolic_run.forms u) v.state (has_forms I s sorts symbolic_run.forms v.lengths)

-- tests

AllHold-pushed : (I : Interpretation) (s : State) (bs : List FlowCondTree) (b : FlowCondTree) → AllHold I s bs → cond_holds I s b ≡ true → AllHold I s (bs ++ b ∷ [])
AllHold-pushed I s [] b h k = (k, tt)
AllHold-pushed I s (c ∷ bs) b h k = (h.0, AllHold-pushed I s bs b h.1 k)

pushed_hold : (I : Interpretation) (s : State) (bs : List FlowCondTree) (b : FlowCondTree) → AllHold I s (bs ++ b ∷ []) → AllHold I s bs × (cond_holds I s b ≡ true)
pushed_hold I s [] b h = (tt, h.0)
pushed_hold I s (c ∷ bs) b h = let k = pushed_hold I s bs b h.1 in ((h.0, k.0), k.1)

queried_follows : (I : Interpretation) (s : State) (sorts : List Sort) (t : State) (symbolic_run : SymbolicRun) (b : FlowCondTree) → Follows I s sorts t symbolic_run → Follows I s sorts t (with_queried symbolic_run b)
queried_follows I s sorts t symbolic_run b v = record {
  state = v.state;
  lengths = v.lengths;
  known = λ h. let k = pushed_hold I s symbolic_run.tests b h in FactsHold-append I s symbolic_run.facts (facts_of b true) (v.known k.0) (facts_hold I s b true k.1);
}

-- where a test leads: the course follows the run, and its tests say that the condition holds
record Leads (I : Interpretation) (s : State) (sorts : List Sort) (t : State) (symbolic_run : SymbolicRun) (b : FlowCondTree) (next : SymbolicRun) : Type 0 where
  follows : Follows I s sorts t next
  before : AllHold I s next.tests → AllHold I s symbolic_run.tests
  holds_there : AllHold I s next.tests → cond_holds I s b ≡ true

queried_leads : (I : Interpretation) (s : State) (sorts : List Sort) (t : State) (symbolic_run : SymbolicRun) (b : FlowCondTree) (next : SymbolicRun) → Follows I s sorts t symbolic_run → Some (with_queried symbolic_run b) ≡ Some next → Leads I s sorts t symbolic_run b next
queried_leads I s sorts t symbolic_run b next v e =
    let same : with_queried symbolic_run b ≡ next = cc in
    subst (Leads I s sorts t symbolic_run b) same
    (record {
      follows = queried_follows I s sorts t symbolic_run b v;
      before = λ h. (pushed_hold I s symbolic_run.tests b h).0;
      holds_there = λ h. (pushed_hold I s symbolic_run.tests b h).1;
    })

test_leads : (I : Interpretation) (s : State) (sorts : List Sort) (t : State) (symbolic_run : SymbolicRun) (b : FlowCondTree) (next : SymbolicRun) → Follows I s sorts t symbolic_run → with_test symbolic_run b ≡ Some next → Leads I s sorts t symbolic_run b next
test_leads I s sorts t symbolic_run (constantly true) next v e =
    let same : symbolic_run ≡ next = cc in
    subst (Leads I s sorts t symbolic_run (constantly true)) same (record { follows = v; before = λ h. h; holds_there = λ h. refl })
test_leads I s sorts t symbolic_run (constantly false) next v e = absurd cc
test_leads I s sorts t symbolic_run (atom c) next v e = queried_leads I s sorts t symbolic_run (atom c) next v e
test_leads I s sorts t symbolic_run (negation b) next v e = queried_leads I s sorts t symbolic_run (negation b) next v e
test_leads I s sorts t symbolic_run (both b c) next v e = queried_leads I s sorts t symbolic_run (both b c) next v e
test_leads I s sorts t symbolic_run (either b c) next v e = queried_leads I s sorts t symbolic_run (either b c) next v e

-- a test that holds leads on
record GoesOn (I : Interpretation) (s : State) (symbolic_run : SymbolicRun) (b : FlowCondTree) : Type 0 where
  next : SymbolicRun
  leads : with_test symbolic_run b ≡ Some next
  tests : AllHold I s next.tests

queried_goes_on : (I : Interpretation) (s : State) (symbolic_run : SymbolicRun) (b : FlowCondTree) → with_test symbolic_run b ≡ Some (with_queried symbolic_run b) → AllHold I s symbolic_run.tests → cond_holds I s b ≡ true → GoesOn I s symbolic_run b
queried_goes_on I s symbolic_run b e h k = record { next = with_queried symbolic_run b; leads = e; tests = AllHold-pushed I s symbolic_run.tests b h k }

test_goes_on : (I : Interpretation) (s : State) (symbolic_run : SymbolicRun) (b : FlowCondTree) → AllHold I s symbolic_run.tests → cond_holds I s b ≡ true → GoesOn I s symbolic_run b
test_goes_on I s symbolic_run (constantly true) h k = record { next = symbolic_run; leads = refl; tests = h }
test_goes_on I s symbolic_run (constantly false) h k = absurd cc
test_goes_on I s symbolic_run (atom c) h k = queried_goes_on I s symbolic_run (atom c) refl h k
test_goes_on I s symbolic_run (negation b) h k = queried_goes_on I s symbolic_run (negation b) refl h k
test_goes_on I s symbolic_run (both b c) h k = queried_goes_on I s symbolic_run (both b c) refl h k
test_goes_on I s symbolic_run (either b c) h k = queried_goes_on I s symbolic_run (either b c) refl h k

condition_holds : (I : Interpretation) (s : State) (sorts : List Sort) (t : State) (symbolic_run : SymbolicRun) (b : CondTree) → Follows I s sorts t symbolic_run → IsSortedCond sorts b → AllHold I s symbolic_run.tests → cond_holds I s (condition_on sorts symbolic_run b) ≡ holds I t b
condition_holds I s sorts t symbolic_run b v o h =
    holds-simplified I s symbolic_run.facts (cond_form sorts symbolic_run.forms b) (v.known h)
    ∙ holds-cond_form I s sorts symbolic_run.forms t (forms_of I s sorts t symbolic_run v) b o

-- statements

assigned_follows : (I : Interpretation) (s : State) (sorts : List Sort) (t : State) (symbolic_run : SymbolicRun) (ks : List ℕ) (es : List ExprTree) → Follows I s sorts t symbolic_run → AreAssigned sorts ks es →
    Follows I s sorts (with_values t ks (map (value I t) es)) (record symbolic_run { forms = with_forms symbolic_run.forms ks (map (form_of sorts symbolic_run.forms) es) })
assigned_follows I s sorts t symbolic_run ks es v o = record {
  state =
      state_of-with_forms I s sorts symbolic_run.forms t (forms_of I s sorts t symbolic_run v) symbolic_run.forms ks es v.lengths o
      ∙ ap (λ u. with_values u ks (map (value I t) es)) v.state;
  lengths = length-with_forms symbolic_run.forms ks (map (form_of sorts symbolic_run.forms) es) ∙ v.lengths;
  known = v.known;
}

-- a course after statements
record Comes (I : Interpretation) (s : State) (sorts : List Sort) (t : State) (symbolic_run : SymbolicRun) (stmts : List StatementTree) (next : SymbolicRun) : Type 0 where
  to : State
  after : runs.after_statements I t stmts ≡ Some to
  follows : Follows I s sorts to next
  before : AllHold I s symbolic_run.tests

some_mid : (o : Option SymbolicRun) (go : SymbolicRun → Option SymbolicRun) (next : SymbolicRun) → and_then o go ≡ Some next → (mid : SymbolicRun) × (o ≡ Some mid) × (go mid ≡ Some next)
some_mid None go next e = absurd cc
some_mid (Some mid) go next e = (mid, refl, e)

after_claim : (I : Interpretation) (t : State) (b : CondTree) (rest : List StatementTree) → holds I t b ≡ true → runs.after_statements I t (claim b ∷ rest) ≡ runs.after_statements I t rest
after_claim I t b rest e = rw (e) refl

comes : (I : Interpretation) (s : State) (sorts : List Sort) (stmts : List StatementTree) (t : State) (symbolic_run next : SymbolicRun) → Follows I s sorts t symbolic_run → AreSortedStatements sorts stmts →
    after_statements sorts stmts symbolic_run ≡ Some next → AllHold I s next.tests → Comes I s sorts t symbolic_run stmts next
comes I s sorts [] t symbolic_run next v o e h =
    let same : symbolic_run ≡ next = cc in
    record {
      to = t;
      after = refl;
      follows = subst (Follows I s sorts t) same v;
      before = subst (λ c. AllHold I s c.tests) (sym same) h;
    }
comes I s sorts (assign ks es ∷ rest) t symbolic_run next v o e h =
    let later = comes I s sorts rest (with_values t ks (map (value I t) es)) (record symbolic_run { forms = with_forms symbolic_run.forms ks (map (form_of sorts symbolic_run.forms) es) }) next (assigned_follows I s sorts t symbolic_run ks es v o.0) o.1 e h in
    record { to = later.to; after = later.after; follows = later.follows; before = later.before }
comes I s sorts (claim b ∷ rest) t symbolic_run next v o e h =
    let mid = some_mid (with_test symbolic_run (condition_on sorts symbolic_run b)) (after_statements sorts rest) next e in
    let leads = test_leads I s sorts t symbolic_run (condition_on sorts symbolic_run b) mid.0 v mid.1 in
    let later = comes I s sorts rest t mid.0 next leads.follows o.1 mid.2 h in
    let before = leads.before later.before in
    let true_there : holds I t b ≡ true = sym (condition_holds I s sorts t symbolic_run b v o.0 before) ∙ leads.holds_there later.before in
    record { to = later.to; after = after_claim I t b rest true_there ∙ later.after; follows = later.follows; before = before }

-- the course of statements that a run takes
record Courses (I : Interpretation) (s : State) (sorts : List Sort) (to : State) (symbolic_run : SymbolicRun) (stmts : List StatementTree) : Type 0 where
  next : SymbolicRun
  after : after_statements sorts stmts symbolic_run ≡ Some next
  follows : Follows I s sorts to next
  tests : AllHold I s next.tests

claim_held : (I : Interpretation) (t to : State) (b : CondTree) (rest : List StatementTree) → runs.after_statements I t (claim b ∷ rest) ≡ Some to → (holds I t b ≡ true) × (runs.after_statements I t rest ≡ Some to)
claim_held I t to b rest e = by_truth (holds I t b) e
  where
    by_truth : (v : Bool) → (if v then runs.after_statements I t rest else None) ≡ Some to → (v ≡ true) × (runs.after_statements I t rest ≡ Some to)
    by_truth true q = (refl, q)
    by_truth false q = absurd cc

courses : (I : Interpretation) (s : State) (sorts : List Sort) (stmts : List StatementTree) (t to : State) (symbolic_run : SymbolicRun) → Follows I s sorts t symbolic_run → AreSortedStatements sorts stmts →
    AllHold I s symbolic_run.tests → runs.after_statements I t stmts ≡ Some to → Courses I s sorts to symbolic_run stmts
courses I s sorts [] t to symbolic_run v o h e =
    let same : t ≡ to = cc in record { next = symbolic_run; after = refl; follows = subst (λ u. Follows I s sorts u symbolic_run) same v; tests = h }
courses I s sorts (assign ks es ∷ rest) t to symbolic_run v o h e =
    let later = courses I s sorts rest (with_values t ks (map (value I t) es)) to (record symbolic_run { forms = with_forms symbolic_run.forms ks (map (form_of sorts symbolic_run.forms) es) }) (assigned_follows I s sorts t symbolic_run ks es v o.0) o.1 h e in
    record { next = later.next; after = later.after; follows = later.follows; tests = later.tests }
courses I s sorts (claim b ∷ rest) t to symbolic_run v o h e =
    let held = claim_held I t to b rest e in
    let on = test_goes_on I s symbolic_run (condition_on sorts symbolic_run b) h (condition_holds I s sorts t symbolic_run b v o.0 h ∙ held.0) in
    let leads = test_leads I s sorts t symbolic_run (condition_on sorts symbolic_run b) on.next v on.leads in
    let later = courses I s sorts rest t to on.next leads.follows o.1 on.tests held.1 in
    record { next = later.next; after = ap (λ x. and_then x (after_statements sorts rest)) on.leads ∙ later.after; follows = later.follows; tests = later.tests }

-- ways

some_way : (o : Option SymbolicRun) (go : SymbolicRun → List Way) (way : Way) → Has (ways_if o go) way → (next : SymbolicRun) × (o ≡ Some next) × Has (go next) way
some_way None go way h = absurd h
some_way (Some next) go way h = (next, refl, h)

-- each way of `go` has the tests of its course
abbrev AreLonger : Interpretation → State → (ℕ → SymbolicRun → List Way) → Type 0
AreLonger I s go = (k : ℕ) (symbolic_run : SymbolicRun) (way : Way) → Has (go k symbolic_run) way → AllHold I s way.tests → AllHold I s symbolic_run.tests

test_before : (I : Interpretation) (s : State) (symbolic_run : SymbolicRun) (b : FlowCondTree) (next : SymbolicRun) → with_test symbolic_run b ≡ Some next → AllHold I s next.tests → AllHold I s symbolic_run.tests
test_before I s symbolic_run (constantly true) next e h = let same : symbolic_run ≡ next = cc in subst (λ c. AllHold I s c.tests) (sym same) h
test_before I s symbolic_run (constantly false) next e h = absurd cc
test_before I s symbolic_run b next e h =
    let same : with_queried symbolic_run b ≡ next = cc in
    (pushed_hold I s symbolic_run.tests b (subst (λ c. AllHold I s c.tests) (sym same) h)).0

jump_longer : (I : Interpretation) (s : State) (sorts : List Sort) (go : ℕ → SymbolicRun → List Way) → AreLonger I s go → (jump : JumpTree) (symbolic_run : SymbolicRun) (way : Way) → Has (jump_ways sorts go jump symbolic_run) way → AllHold I s way.tests → AllHold I s symbolic_run.tests
jump_longer I s sorts go f (goto k) symbolic_run way h all = f k symbolic_run way h all
jump_longer I s sorts go f (branch b k l) symbolic_run way h all =
    by_cases (has_append (ways_if (with_test symbolic_run c) (go k)) (ways_if (with_test symbolic_run (opposite_cond c)) (go l)) way h)
  where
    c : FlowCondTree
    c = condition_on sorts symbolic_run b

    by_cases : Has (ways_if (with_test symbolic_run c) (go k)) way ⊎ Has (ways_if (with_test symbolic_run (opposite_cond c)) (go l)) way → AllHold I s symbolic_run.tests
    by_cases (inl a) =
        let mid = some_way (with_test symbolic_run c) (go k) way a in
        test_before I s symbolic_run c mid.0 mid.1 (f k mid.0 way mid.2 all)
    by_cases (inr a) =
        let mid = some_way (with_test symbolic_run (opposite_cond c)) (go l) way a in
        test_before I s symbolic_run (opposite_cond c) mid.0 mid.1 (f l mid.0 way mid.2 all)
jump_longer I s sorts go f (return es) symbolic_run way (inl e) all = subst (λ w. AllHold I s w.tests) (sym e) all
jump_longer I s sorts go f (return es) symbolic_run way (inr e) all = absurd e
jump_longer I s sorts go f abort symbolic_run way h all = absurd h

-- each way of `go` ends as `stop` does
abbrev AreSound : Interpretation → State → List Sort → (ℕ → SymbolicRun → List Way) → (ℕ → State → Stop) → Type 0
AreSound I s sorts go stop =
    (k : ℕ) (t : State) (symbolic_run : SymbolicRun) (way : Way) → Follows I s sorts t symbolic_run → Has (go k symbolic_run) way → AllHold I s way.tests → EndsAs I s sorts way.end (stop k t)

chosen : (I : Interpretation) (b : CondTree) (t : State) (k l : ℕ) (v : Bool) → holds I t b ≡ v → (stop : ℕ → State → Stop) → stop (if v then k else l) t ≡ jump_stop I stop (branch b k l) t
chosen I b t k l v e stop = ap (λ x. stop (if x then k else l) t) (sym e)

returned_values : (I : Interpretation) (s : State) (sorts : List Sort) (env : List FlowFormTree) (t : State) → HasForms I s sorts env t → (es : List ExprTree) → AreSorted sorts es →
    map (λ (r : Sort × FlowFormTree). form_value I s r.0 r.1) (map (λ e. (sort_of sorts e, form_of sorts env e)) es) ≡ map (value I t) es
returned_values I s sorts env t h [] o = refl
returned_values I s sorts env t h (e ∷ es) o = ap₂ (λ n ns. n ∷ ns) (sym (kept I s sorts env t h false e o.0)) (returned_values I s sorts env t h es o.1)

not_true : (b : Bool) → not b ≡ true → b ≡ false
not_true true e = absurd cc
not_true false e = refl

jump_sound : (I : Interpretation) (s : State) (sorts : List Sort) (go : ℕ → SymbolicRun → List Way) (stop : ℕ → State → Stop) → AreLonger I s go → AreSound I s sorts go stop →
    (jump : JumpTree) (t : State) (symbolic_run : SymbolicRun) (way : Way) → Follows I s sorts t symbolic_run → IsSortedJump sorts jump → Has (jump_ways sorts go jump symbolic_run) way → AllHold I s way.tests →
    EndsAs I s sorts way.end (jump_stop I stop jump t)
jump_sound I s sorts go stop f g (goto k) t symbolic_run way v o h all = g k t symbolic_run way v h all
jump_sound I s sorts go stop f g (branch b k l) t symbolic_run way v o h all =
    by_cases (has_append (ways_if (with_test symbolic_run c) (go k)) (ways_if (with_test symbolic_run (opposite_cond c)) (go l)) way h)
  where
    c : FlowCondTree
    c = condition_on sorts symbolic_run b

    by_cases : Has (ways_if (with_test symbolic_run c) (go k)) way ⊎ Has (ways_if (with_test symbolic_run (opposite_cond c)) (go l)) way → EndsAs I s sorts way.end (jump_stop I stop (branch b k l) t)
    by_cases (inl a) =
        let mid = some_way (with_test symbolic_run c) (go k) way a in
        let leads = test_leads I s sorts t symbolic_run c mid.0 v mid.1 in
        let there = f k mid.0 way mid.2 all in
        let truth : holds I t b ≡ true = sym (condition_holds I s sorts t symbolic_run b v o (leads.before there)) ∙ leads.holds_there there in
        subst (EndsAs I s sorts way.end) (chosen I b t k l true truth stop) (g k t mid.0 way leads.follows mid.2 all)
    by_cases (inr a) =
        let mid = some_way (with_test symbolic_run (opposite_cond c)) (go l) way a in
        let leads = test_leads I s sorts t symbolic_run (opposite_cond c) mid.0 v mid.1 in
        let there = f l mid.0 way mid.2 all in
        let falsity : cond_holds I s c ≡ false = not_true (cond_holds I s c) (sym (holds-opposite_cond I s c) ∙ leads.holds_there there) in
        let truth : holds I t b ≡ false = sym (condition_holds I s sorts t symbolic_run b v o (leads.before there)) ∙ falsity in
        subst (EndsAs I s sorts way.end) (chosen I b t k l false truth stop) (g l t mid.0 way leads.follows mid.2 all)
jump_sound I s sorts go stop f g (return es) t symbolic_run way v o (inl e) all =
    subst (λ w. EndsAs I s sorts w.end (returned (map (value I t) es))) e
    (returned_values I s sorts symbolic_run.forms t (forms_of I s sorts t symbolic_run v) es o)
jump_sound I s sorts go stop f g (return es) t symbolic_run way v o (inr e) all = absurd e
jump_sound I s sorts go stop f g abort t symbolic_run way v o h all = absurd h

block_sound : (I : Interpretation) (s : State) (sorts : List Sort) (go : ℕ → SymbolicRun → List Way) (stop : ℕ → State → Stop) → AreLonger I s go → AreSound I s sorts go stop →
    (block : Block) (t : State) (symbolic_run : SymbolicRun) (way : Way) → Follows I s sorts t symbolic_run → IsSortedBlock sorts block → Has (block_ways sorts go (Some block) symbolic_run) way → AllHold I s way.tests →
    EndsAs I s sorts way.end (block_stop I stop (Some block) t)
block_sound I s sorts go stop f g block t symbolic_run way v o h all =
    let mid = some_way (after_statements sorts block.statements symbolic_run) (jump_ways sorts go block.jump) way h in
    let there = jump_longer I s sorts go f block.jump mid.0 way mid.2 all in
    let later = comes I s sorts block.statements t symbolic_run mid.0 v o.0 mid.1 there in
    subst (EndsAs I s sorts way.end) (ap (jump_stop_if I stop block.jump) (sym later.after))
    (jump_sound I s sorts go stop f g block.jump later.to mid.0 way later.follows o.1 mid.2 all)

statements_before : (I : Interpretation) (s : State) (sorts : List Sort) (stmts : List StatementTree) (symbolic_run next : SymbolicRun) → after_statements sorts stmts symbolic_run ≡ Some next → AllHold I s next.tests → AllHold I s symbolic_run.tests
statements_before I s sorts [] symbolic_run next e h = let same : symbolic_run ≡ next = cc in subst (λ c. AllHold I s c.tests) (sym same) h
statements_before I s sorts (assign ks es ∷ rest) symbolic_run next e h =
    statements_before I s sorts rest (record symbolic_run { forms = with_forms symbolic_run.forms ks (map (form_of sorts symbolic_run.forms) es) }) next e h
statements_before I s sorts (claim b ∷ rest) symbolic_run next e h =
    let mid = some_mid (with_test symbolic_run (condition_on sorts symbolic_run b)) (after_statements sorts rest) next e in
    test_before I s symbolic_run (condition_on sorts symbolic_run b) mid.0 mid.1 (statements_before I s sorts rest mid.0 next mid.2 h)

block_longer : (I : Interpretation) (s : State) (sorts : List Sort) (go : ℕ → SymbolicRun → List Way) → AreLonger I s go → (block : Option Block) (symbolic_run : SymbolicRun) (way : Way) → Has (block_ways sorts go block symbolic_run) way → AllHold I s way.tests → AllHold I s symbolic_run.tests
block_longer I s sorts go f None symbolic_run way h all = absurd h
block_longer I s sorts go f (Some block) symbolic_run way h all =
    let mid = some_way (after_statements sorts block.statements symbolic_run) (jump_ways sorts go block.jump) way h in
    statements_before I s sorts block.statements symbolic_run mid.0 mid.1 (jump_longer I s sorts go f block.jump mid.0 way mid.2 all)

sorted_block : (sorts : List Sort) (g : Graph) (k : ℕ) (block : Block) → IsSortedGraph sorts g → slice_get g k ≡ Some block → IsSortedBlock sorts block
sorted_block sorts [] zero block o e = absurd cc
sorted_block sorts [] (suc k) block o e = absurd cc
sorted_block sorts (b ∷ g) zero block o e = let same : b ≡ block = cc in subst (IsSortedBlock sorts) same o.0
sorted_block sorts (b ∷ g) (suc k) block o e = sorted_block sorts g k block o.1 e

-- how ways go on at a block, and how runs do
abbrev going : Graph → List Sort → (ℕ → Bool) → ℕ → ℕ → SymbolicRun → List Way
going g sorts is_place n l next = if is_place l then record { tests = next.tests; end = at_place l next.forms } ∷ [] else ways_from g sorts is_place n l next

abbrev stopping : Interpretation → Graph → (ℕ → Bool) → ℕ → ℕ → State → Stop
stopping I g is_place n l t = if is_place l then came_to l t else stop_from I g is_place n l t

going_longer : (I : Interpretation) (s : State) (g : Graph) (sorts : List Sort) (is_place : ℕ → Bool) (n : ℕ) → AreLonger I s (ways_from g sorts is_place n) → AreLonger I s (going g sorts is_place n)
going_longer I s g sorts is_place n f l next way = by_place (is_place l)
  where
    by_place : (b : Bool) → Has (if b then record { tests = next.tests; end = at_place l next.forms } ∷ [] else ways_from g sorts is_place n l next) way → AllHold I s way.tests → AllHold I s next.tests
    by_place true (inl e) all = subst (λ w. AllHold I s w.tests) (sym e) all
    by_place true (inr e) all = absurd e
    by_place false h all = f l next way h all

ways_longer : (I : Interpretation) (s : State) (g : Graph) (sorts : List Sort) (is_place : ℕ → Bool) (n : ℕ) → AreLonger I s (ways_from g sorts is_place n)
ways_longer I s g sorts is_place zero k symbolic_run way h all = absurd h
ways_longer I s g sorts is_place (suc n) k symbolic_run way h all =
    block_longer I s sorts (going g sorts is_place n) (going_longer I s g sorts is_place n (ways_longer I s g sorts is_place n)) (slice_get g k) symbolic_run way h all

going_sound : (I : Interpretation) (s : State) (g : Graph) (sorts : List Sort) (is_place : ℕ → Bool) (n : ℕ) → AreSound I s sorts (ways_from g sorts is_place n) (stop_from I g is_place n) → AreSound I s sorts (going g sorts is_place n) (stopping I g is_place n)
going_sound I s g sorts is_place n f l t next way v = by_place (is_place l)
  where
    by_place : (b : Bool) → Has (if b then record { tests = next.tests; end = at_place l next.forms } ∷ [] else ways_from g sorts is_place n l next) way → AllHold I s way.tests →
        EndsAs I s sorts way.end (if b then came_to l t else stop_from I g is_place n l t)
    by_place true (inl e) all = subst (λ w. EndsAs I s sorts w.end (came_to l t)) e (refl, v.state)
    by_place true (inr e) all = absurd e
    by_place false h all = f l t next way v h all

ways_sound : (I : Interpretation) (s : State) (g : Graph) (sorts : List Sort) (is_place : ℕ → Bool) → IsSortedGraph sorts g → (n : ℕ) → AreSound I s sorts (ways_from g sorts is_place n) (stop_from I g is_place n)
ways_sound I s g sorts is_place o zero k t symbolic_run way v h all = absurd h
ways_sound I s g sorts is_place o (suc n) k t symbolic_run way v h all = at_block (ways_sound I s g sorts is_place o n) (slice_get g k) refl h all
  where
    at_block : AreSound I s sorts (ways_from g sorts is_place n) (stop_from I g is_place n) → (b : Option Block) → slice_get g k ≡ b → Has (block_ways sorts (going g sorts is_place n) b symbolic_run) way → AllHold I s way.tests → EndsAs I s sorts way.end (block_stop I (stopping I g is_place n) b t)
    at_block later None e h all = absurd h
    at_block later (Some block) e h all =
        block_sound I s sorts (going g sorts is_place n) (stopping I g is_place n)
        (going_longer I s g sorts is_place n (ways_longer I s g sorts is_place n))
        (going_sound I s g sorts is_place n later)
        block t symbolic_run way v (sorted_block sorts g k block o e) h all

-- each run that settles has a way

abbrev HasWay : Interpretation → State → List Way → Type 0
HasWay I s ways = (way : Way) × Has ways way × AllHold I s way.tests

abbrev AreComplete : Interpretation → State → List Sort → (ℕ → SymbolicRun → List Way) → (ℕ → State → Stop) → Type 0
AreComplete I s sorts go stop =
    (k : ℕ) (t : State) (symbolic_run : SymbolicRun) → Follows I s sorts t symbolic_run → AllHold I s symbolic_run.tests → IsSettled (stop k t) → HasWay I s (go k symbolic_run)

way_if : (I : Interpretation) (s : State) (o : Option SymbolicRun) (go : SymbolicRun → List Way) (next : SymbolicRun) → o ≡ Some next → HasWay I s (go next) → HasWay I s (ways_if o go)
way_if I s None go next e h = absurd cc
way_if I s (Some mid) go next e h = let same : next ≡ mid = cc in subst (λ c. HasWay I s (go c)) same h

way_left : (I : Interpretation) (s : State) (xs ys : List Way) → HasWay I s xs → HasWay I s (xs ++ ys)
way_left I s xs ys (way, h, all) = (way, has_left xs ys way h, all)

way_right : (I : Interpretation) (s : State) (xs ys : List Way) → HasWay I s ys → HasWay I s (xs ++ ys)
way_right I s xs ys (way, h, all) = (way, has_right xs ys way h, all)

opposite_true : (I : Interpretation) (s : State) (c : FlowCondTree) → cond_holds I s c ≡ false → cond_holds I s (opposite_cond c) ≡ true
opposite_true I s c e = holds-opposite_cond I s c ∙ ap not e

jump_complete : (I : Interpretation) (s : State) (sorts : List Sort) (go : ℕ → SymbolicRun → List Way) (stop : ℕ → State → Stop) → AreComplete I s sorts go stop →
    (jump : JumpTree) (t : State) (symbolic_run : SymbolicRun) → Follows I s sorts t symbolic_run → IsSortedJump sorts jump → AllHold I s symbolic_run.tests → IsSettled (jump_stop I stop jump t) → HasWay I s (jump_ways sorts go jump symbolic_run)
jump_complete I s sorts go stop f (goto k) t symbolic_run v o h e = f k t symbolic_run v h e
jump_complete I s sorts go stop f (branch b k l) t symbolic_run v o h e = by_truth (holds I t b) refl e
  where
    c : FlowCondTree
    c = condition_on sorts symbolic_run b

    truth : cond_holds I s (condition_on sorts symbolic_run b) ≡ holds I t b
    truth = condition_holds I s sorts t symbolic_run b v o h

    by_truth : (x : Bool) → holds I t b ≡ x → IsSettled (stop (if x then k else l) t) → HasWay I s (jump_ways sorts go (branch b k l) symbolic_run)
    by_truth true p q =
        let on = test_goes_on I s symbolic_run c h (truth ∙ p) in
        let leads = test_leads I s sorts t symbolic_run c on.next v on.leads in
        way_left I s (ways_if (with_test symbolic_run c) (go k)) (ways_if (with_test symbolic_run (opposite_cond c)) (go l))
        (way_if I s (with_test symbolic_run c) (go k) on.next on.leads (f k t on.next leads.follows on.tests q))
    by_truth false p q =
        let on = test_goes_on I s symbolic_run (opposite_cond c) h (opposite_true I s c (truth ∙ p)) in
        let leads = test_leads I s sorts t symbolic_run (opposite_cond c) on.next v on.leads in
        way_right I s (ways_if (with_test symbolic_run c) (go k)) (ways_if (with_test symbolic_run (opposite_cond c)) (go l))
        (way_if I s (with_test symbolic_run (opposite_cond c)) (go l) on.next on.leads (f l t on.next leads.follows on.tests q))
jump_complete I s sorts go stop f (return es) t symbolic_run v o h e = (_, inl refl, h)
jump_complete I s sorts go stop f abort t symbolic_run v o h e = absurd e

block_complete : (I : Interpretation) (s : State) (sorts : List Sort) (go : ℕ → SymbolicRun → List Way) (stop : ℕ → State → Stop) → AreComplete I s sorts go stop →
    (block : Block) (t : State) (symbolic_run : SymbolicRun) → Follows I s sorts t symbolic_run → IsSortedBlock sorts block → AllHold I s symbolic_run.tests → IsSettled (block_stop I stop (Some block) t) → HasWay I s (block_ways sorts go (Some block) symbolic_run)
block_complete I s sorts go stop f block t symbolic_run v o h e = at_end (runs.after_statements I t block.statements) refl e
  where
    at_end : (x : Option State) → runs.after_statements I t block.statements ≡ x → IsSettled (jump_stop_if I stop block.jump x) → HasWay I s (block_ways sorts go (Some block) symbolic_run)
    at_end None p q = absurd q
    at_end (Some to) p q =
        let later = courses I s sorts block.statements t to symbolic_run v o.0 h p in
        way_if I s (after_statements sorts block.statements symbolic_run) (jump_ways sorts go block.jump) later.next later.after
        (jump_complete I s sorts go stop f block.jump to later.next later.follows o.1 later.tests q)

going_complete : (I : Interpretation) (s : State) (g : Graph) (sorts : List Sort) (is_place : ℕ → Bool) (n : ℕ) → AreComplete I s sorts (ways_from g sorts is_place n) (stop_from I g is_place n) → AreComplete I s sorts (going g sorts is_place n) (stopping I g is_place n)
going_complete I s g sorts is_place n f l t next v h = by_place (is_place l)
  where
    by_place : (b : Bool) → IsSettled (if b then came_to l t else stop_from I g is_place n l t) → HasWay I s (if b then record { tests = next.tests; end = at_place l next.forms } ∷ [] else ways_from g sorts is_place n l next)
    by_place true q = (_, inl refl, h)
    by_place false q = f l t next v h q

ways_complete : (I : Interpretation) (s : State) (g : Graph) (sorts : List Sort) (is_place : ℕ → Bool) → IsSortedGraph sorts g → (n : ℕ) → AreComplete I s sorts (ways_from g sorts is_place n) (stop_from I g is_place n)
ways_complete I s g sorts is_place o zero k t symbolic_run v h e = absurd e
ways_complete I s g sorts is_place o (suc n) k t symbolic_run v h e = at_block (ways_complete I s g sorts is_place o n) (slice_get g k) refl e
  where
    at_block : AreComplete I s sorts (ways_from g sorts is_place n) (stop_from I g is_place n) → (b : Option Block) → slice_get g k ≡ b → IsSettled (block_stop I (stopping I g is_place n) b t) → HasWay I s (block_ways sorts (going g sorts is_place n) b symbolic_run)
    at_block later None e q = absurd q
    at_block later (Some block) e q =
        block_complete I s sorts (going g sorts is_place n) (stopping I g is_place n)
        (going_complete I s g sorts is_place n later)
        block t symbolic_run v (sorted_block sorts g k block o e) h q

first_follows : (I : Interpretation) (s : State) (sorts : List Sort) → IsState sorts s → Follows I s sorts s (first_course sorts)
first_follows I s sorts o = record { state = own_state I s sorts o; lengths = own_length 0 sorts; known = λ h. tt }

pub ways_are_runs : (I : Interpretation) (g : Graph) (sorts : List Sort) (is_place : ℕ → Bool) (k : ℕ) (s : State) → IsSortedGraph sorts g → IsState sorts s → AreRuns I g sorts is_place k s
ways_are_runs I g sorts is_place k s o p = record {
  sound = λ way h all. ways_sound I s g sorts is_place o (length g) k s (first_course sorts) way (first_follows I s sorts p) h all;
  complete = λ e. ways_complete I s g sorts is_place o (length g) k s (first_course sorts) (first_follows I s sorts p) tt e;
}

-- a way that ends at a place has a form for each variable

abbrev HaveLengths : List Sort → List Way → Type 0
HaveLengths sorts ways = (way : Way) → Has ways way → (l : ℕ) (forms : List FlowFormTree) → way.end ≡ at_place l forms → length forms ≡ length sorts

abbrev GoWithLengths : List Sort → (ℕ → SymbolicRun → List Way) → Type 0
GoWithLengths sorts go = (k : ℕ) (symbolic_run : SymbolicRun) → length symbolic_run.forms ≡ length sorts → HaveLengths sorts (go k symbolic_run)

length_tested : (sorts : List Sort) (symbolic_run : SymbolicRun) (b : FlowCondTree) (next : SymbolicRun) → length symbolic_run.forms ≡ length sorts → with_test symbolic_run b ≡ Some next → length next.forms ≡ length sorts
length_tested sorts symbolic_run (constantly true) next l e = let same : symbolic_run ≡ next = cc in subst (λ c. length c.forms ≡ length sorts) same l
length_tested sorts symbolic_run (constantly false) next l e = absurd cc
length_tested sorts symbolic_run b next l e = let same : with_queried symbolic_run b ≡ next = cc in subst (λ c. length c.forms ≡ length sorts) same l

length_after : (sorts : List Sort) (stmts : List StatementTree) (symbolic_run next : SymbolicRun) → length symbolic_run.forms ≡ length sorts → after_statements sorts stmts symbolic_run ≡ Some next → length next.forms ≡ length sorts
length_after sorts [] symbolic_run next l e = let same : symbolic_run ≡ next = cc in subst (λ c. length c.forms ≡ length sorts) same l
length_after sorts (assign ks es ∷ rest) symbolic_run next l e =
    length_after sorts rest (record symbolic_run { forms = with_forms symbolic_run.forms ks (map (form_of sorts symbolic_run.forms) es) }) next
    (length-with_forms symbolic_run.forms ks (map (form_of sorts symbolic_run.forms) es) ∙ l) e
length_after sorts (claim b ∷ rest) symbolic_run next l e =
    let mid = some_mid (with_test symbolic_run (condition_on sorts symbolic_run b)) (after_statements sorts rest) next e in
    length_after sorts rest mid.0 next (length_tested sorts symbolic_run (condition_on sorts symbolic_run b) mid.0 l mid.1) mid.2

never_there : (results : List (Sort × FlowFormTree)) (l : ℕ) (forms : List FlowFormTree) → at_return results ≡ at_place l forms → ⊥
never_there results l forms e = absurd cc

jump_lengths : (sorts : List Sort) (go : ℕ → SymbolicRun → List Way) → GoWithLengths sorts go → (jump : JumpTree) (symbolic_run : SymbolicRun) → length symbolic_run.forms ≡ length sorts → HaveLengths sorts (jump_ways sorts go jump symbolic_run)
jump_lengths sorts go f (goto k) symbolic_run n way h l forms e = f k symbolic_run n way h l forms e
jump_lengths sorts go f (branch b k j) symbolic_run n way h l forms e =
    by_cases (has_append (ways_if (with_test symbolic_run c) (go k)) (ways_if (with_test symbolic_run (opposite_cond c)) (go j)) way h)
  where
    c : FlowCondTree
    c = condition_on sorts symbolic_run b

    by_cases : Has (ways_if (with_test symbolic_run c) (go k)) way ⊎ Has (ways_if (with_test symbolic_run (opposite_cond c)) (go j)) way → length forms ≡ length sorts
    by_cases (inl a) =
        let mid = some_way (with_test symbolic_run c) (go k) way a in
        f k mid.0 (length_tested sorts symbolic_run c mid.0 n mid.1) way mid.2 l forms e
    by_cases (inr a) =
        let mid = some_way (with_test symbolic_run (opposite_cond c)) (go j) way a in
        f j mid.0 (length_tested sorts symbolic_run (opposite_cond c) mid.0 n mid.1) way mid.2 l forms e
jump_lengths sorts go f (return es) symbolic_run n way (inl q) l forms e =
    absurd (never_there (map (λ e. (sort_of sorts e, form_of sorts symbolic_run.forms e)) es) l forms (ap (λ w. w.end) q ∙ e))
jump_lengths sorts go f (return es) symbolic_run n way (inr q) l forms e = absurd q
jump_lengths sorts go f abort symbolic_run n way h l forms e = absurd h

block_lengths : (sorts : List Sort) (go : ℕ → SymbolicRun → List Way) → GoWithLengths sorts go → (block : Option Block) (symbolic_run : SymbolicRun) → length symbolic_run.forms ≡ length sorts → HaveLengths sorts (block_ways sorts go block symbolic_run)
block_lengths sorts go f None symbolic_run n way h l forms e = absurd h
block_lengths sorts go f (Some block) symbolic_run n way h l forms e =
    let mid = some_way (after_statements sorts block.statements symbolic_run) (jump_ways sorts go block.jump) way h in
    jump_lengths sorts go f block.jump mid.0 (length_after sorts block.statements symbolic_run mid.0 n mid.1) way mid.2 l forms e

forms_there : (j l : ℕ) (fs forms : List FlowFormTree) → at_place j fs ≡ at_place l forms → fs ≡ forms
forms_there j l fs forms e = cc

going_lengths : (g : Graph) (sorts : List Sort) (is_place : ℕ → Bool) (n : ℕ) → GoWithLengths sorts (ways_from g sorts is_place n) → GoWithLengths sorts (going g sorts is_place n)
going_lengths g sorts is_place n f j next m way = by_place (is_place j)
  where
    by_place : (b : Bool) → Has (if b then record { tests = next.tests; end = at_place j next.forms } ∷ [] else ways_from g sorts is_place n j next) way →
        (l : ℕ) (forms : List FlowFormTree) → way.end ≡ at_place l forms → length forms ≡ length sorts
    by_place true (inl q) l forms e =
        subst (λ fs. length fs ≡ length sorts) (forms_there j l next.forms forms (ap (λ w. w.end) q ∙ e)) m
    by_place true (inr q) l forms e = absurd q
    by_place false h l forms e = f j next m way h l forms e

ways_from_lengths : (g : Graph) (sorts : List Sort) (is_place : ℕ → Bool) (n : ℕ) → GoWithLengths sorts (ways_from g sorts is_place n)
ways_from_lengths g sorts is_place zero k symbolic_run m way h l forms e = absurd h
ways_from_lengths g sorts is_place (suc n) k symbolic_run m way h l forms e =
    block_lengths sorts (going g sorts is_place n) (going_lengths g sorts is_place n (ways_from_lengths g sorts is_place n)) (slice_get g k) symbolic_run m way h l forms e

pub way_lengths : (g : Graph) (sorts : List Sort) (is_place : ℕ → Bool) (k : ℕ) (way : Way) → Has (ways g sorts is_place k) way → (l : ℕ) (forms : List FlowFormTree) → way.end ≡ at_place l forms → length forms ≡ length sorts
way_lengths g sorts is_place k way h l forms e =
    ways_from_lengths g sorts is_place (length g) k (first_course sorts) (own_length 0 sorts) way h l forms e
