-- The items of a text use only numbers of declared tests, actions, variables and programs, and each declared one has a
-- name.
use Rattle.std.proofs.Common.{◌≡◌, ◌≤◌, ◌<◌, ◌+◌, ⊎_elim, ℕ, List, [], ◌∷◌, ◌++◌, length, drop, nat_lt, Bool, slice_get, Option, Some, None, refl, sym, ap, subst, ◌∙◌, false, true, arith, length-append}
use Rattle.std.proofs.lemmas.Bool.{ltb-true, ltb-false}
use Rattle.std.proofs.lemmas.Option.{slice_get_past, none-some}
use Rattle.std.specs.FinMap.{get, insert}
use Rattle.kat_model.specs.declared.limits.TheConstants.{MAX_TESTS, MAX_ACTIONS, MAX_VARS}
use Rattle.kat_model.specs.Trees.{Term, term_size}
use Rattle.kat_model.specs.Expressions.{ExprTree, number, variable, plus, minus, times, CondTree, always, never, named, compared, negation, both, either}
use Rattle.kat_model.specs.Problems.{IsInRange, AreInRange}
use Rattle.kat_model.specs.Members.{Has}
use Rattle.kat_model.proofs.Places.{slice_get_last}
use Rattle.kat_model.proofs.Ranges.{AreInRange-append}
use Rattle.text_parser.specs.Actions.{context}
use Rattle.text_parser.specs.Phrases.{term, Leaf, Phrase}
use Rattle.text_parser.specs.Sizes.{cond_size}
use Rattle.text_parser.specs.Sound.{nesting}
use Rattle.text_parser.specs.declared.meaning.Meaning.{Meaning}
use Rattle.text_parser.specs.declared.meaning.Meaning.TheVariants.{Test, Action, Var, Term as TermName, Prog}
use Rattle.text_parser.specs.ScopeParts.{Definition, ScopeParts, Means, IsUndeclared, declared, defined}
use Rattle.text_parser.proofs.Inverse.{insert_extends}
use Rattle.while_lang.specs.Programs.{ProgTree, empty, skip_then, abort_then, assert_then, act_then, assign_then, branch_then, loop_then}
use Rattle.while_lang.specs.ProgramSizes.{prog_size}
use Rattle.while_lang.specs.NamedProgs.{ProgParts}
use Rattle.while_lang.specs.BlockSound.{block_nesting}
use Rattle.while_lang.proofs.RangesGrow.{IsInRange-more, progs_at, meant_in}
use Rattle.problem_file.specs.declared.goal_limit.GoalLimit.{GoalLimit}
use Rattle.problem_file.specs.declared.goal_limit.GoalLimit.TheVariants.{One, Batch}
use Rattle.problem_file.specs.Working.Numbers.{AreNumbered}
use Rattle.while_lang.specs.Files.{FileParts, SideTree, term_side, prog_side, GoalTree, equal, below, triple, prog_meant}
use Rattle.problem_file.specs.Files.{State, start, file_of, add_prog, state_hyp, state_goal, triple_term}
use Rattle.problem_file.specs.Phrases.{Names, one_name, more_names, Body, tests, actions, variables, definition, program, hypothesis, hyp_triple, rounds, width, goal_equal, goal_below, goal_triple, Item, lone_leaf}
use Rattle.problem_file.specs.Sound.{with_test, with_action, with_var, grown, EachName, DeclaresTest, DeclaresAction, DeclaresVar, named_by, IsSide, side_size, PosesSides, Makes, MakeAll}
use Rattle.while_lang.specs.Ranges.{IsExprInRange, IsCondInRange, IsProgInRange, AreProgsInRange, IsSideInRange, IsGoalInRange, AreNamed, AreNamesOfProgs, IsNumbered}
use Rattle.problem_file.specs.Reads.{Denotes}
use Rattle.problem_file.specs.Laws.{AreInRanges, AreAllInRanges}
use Rattle.problem_file.proofs.Numbering.{same_bound, next_bound, empty_numbered, test_numbered, action_numbered, var_numbered, prog_numbered, term_numbered}
use Rattle.problem_file.proofs.InRanges.{DefinedInRange, test_of_in, term_in, cond_in}
use Rattle.problem_file.proofs.BlockRanges.{block_in}

-- ---- additional tests, actions and variables

expr_more : (v x : ℕ) → v ≤ x → (e : ExprTree) → IsExprInRange v e → IsExprInRange x e
expr_more v x more (number n) h = tt
expr_more v x more (variable k) h = omega (arith, h, more)
expr_more v x more (plus e f) h = (expr_more v x more e h.0, expr_more v x more f h.1)
expr_more v x more (minus e f) h = (expr_more v x more e h.0, expr_more v x more f h.1)
expr_more v x more (times e f) h = (expr_more v x more e h.0, expr_more v x more f h.1)

module _ (t a v u b x : ℕ) (more_tests : t ≤ u) (more_actions : a ≤ b) (more_vars : v ≤ x) where
  cond_more : (c : CondTree) → IsCondInRange t v c → IsCondInRange u x c
  cond_more always h = tt
  cond_more never h = tt
  cond_more (named k) h = omega (arith, h, more_tests)
  cond_more (compared r e f) h = (expr_more v x more_vars e h.0, expr_more v x more_vars f h.1)
  cond_more (negation c) h = cond_more c h
  cond_more (both c d) h = (cond_more c h.0, cond_more d h.1)
  cond_more (either c d) h = (cond_more c h.0, cond_more d h.1)

  terms_more : (es : List Term) → AreInRange t a es → AreInRange u b es
  terms_more [] h = tt
  terms_more (e ∷ es) h = (IsInRange-more t a u b more_tests more_actions e h.0, terms_more es h.1)

  prog_more : (p : ProgTree) → IsProgInRange t a v p → IsProgInRange u b x p
  prog_more empty h = tt
  prog_more (skip_then p) h = prog_more p h
  prog_more (abort_then p) h = prog_more p h
  prog_more (assert_then c p) h = (cond_more c h.0, prog_more p h.1)
  prog_more (act_then k p) h = let below : k < b = omega (arith, h.0, more_actions) in (below, prog_more p h.1)
  prog_more (assign_then k e p) h = let below : k < x = omega (arith, h.0, more_vars) in (below, expr_more v x more_vars e h.1, prog_more p h.2)
  prog_more (branch_then c f g p) h = (cond_more c h.0, prog_more f h.1, prog_more g h.2, prog_more p h.3)
  prog_more (loop_then c f p) h = (cond_more c h.0, prog_more f h.1, prog_more p h.2)

  progs_more : (ps : List ProgParts) → AreProgsInRange t a v ps → AreProgsInRange u b x ps
  progs_more [] h = tt
  progs_more (p ∷ ps) h = (prog_more p.tree h.0, progs_more ps h.1)

  side_more : (s : SideTree) → IsSideInRange t a v s → IsSideInRange u b x s
  side_more (term_side e) h = IsInRange-more t a u b more_tests more_actions e h
  side_more (prog_side p) h = prog_more p h

  goal_more : (g : GoalTree) → IsGoalInRange t a v g → IsGoalInRange u b x g
  goal_more (equal l r) h = (side_more l h.0, side_more r h.1)
  goal_more (below l r) h = (side_more l h.0, side_more r h.1)
  goal_more (triple pre body post) h = (cond_more pre h.0, side_more body h.1, cond_more post h.2)

  defined_more : (w : ScopeParts) → DefinedInRange w t a → DefinedInRange w u b
  defined_more w h i d e = IsInRange-more t a u b more_tests more_actions d.tree (h i d e)

-- the numbers in all goals are below the bounds
abbrev GoalsInRange : ℕ → ℕ → ℕ → List GoalTree → Type 0
GoalsInRange t a v [] = Unit {0}
GoalsInRange t a v (g ∷ gs) = IsGoalInRange t a v g × GoalsInRange t a v gs

module _ (t a v : ℕ) where
  goals_last : (gs : List GoalTree) (g : GoalTree) → GoalsInRange t a v gs → IsGoalInRange t a v g → GoalsInRange t a v (gs ++ g ∷ [])
  goals_last [] g h k = (k, tt)
  goals_last (x ∷ gs) g h k = (h.0, goals_last gs g h.1 k)

  first_goal : (gs : List GoalTree) (g : GoalTree) → slice_get gs 0 ≡ Some g → GoalsInRange t a v gs → IsGoalInRange t a v g
  first_goal [] g e h = let none : slice_get [] 0 ≡ None = slice_get_past [] 0 (omega arith) in absurd (none-some g (sym none ∙ e))
  first_goal (x ∷ gs) g e h = let same : x ≡ g = cc in subst (IsGoalInRange t a v) same h.0

  goal_of : (gs : List GoalTree) (g : GoalTree) → Has gs g → GoalsInRange t a v gs → IsGoalInRange t a v g
  goal_of [] g has h = elim has [ ]
  goal_of (x ∷ gs) g has h = ⊎_elim (λ same. subst (IsGoalInRange t a v) same h.0) (λ later. goal_of gs g later h.1) has

  later_goal : (gs : List GoalTree) (g : GoalTree) → Has (drop 1 gs) g → GoalsInRange t a v gs → IsGoalInRange t a v g
  later_goal [] g has h = elim has [ ]
  later_goal (x ∷ gs) g has h = goal_of gs g has h.1

  progs_last : (ps : List ProgParts) (p : ProgParts) → AreProgsInRange t a v ps → IsProgInRange t a v p.tree → AreProgsInRange t a v (ps ++ p ∷ [])
  progs_last [] p h k = (k, tt)
  progs_last (q ∷ ps) p h k = (h.0, progs_last ps p h.1 k)

goals_more : (t a v u b x : ℕ) → t ≤ u → a ≤ b → v ≤ x → (gs : List GoalTree) → GoalsInRange t a v gs → GoalsInRange u b x gs
goals_more t a v u b x p q r [] h = tt
goals_more t a v u b x p q r (g ∷ gs) h = (goal_more t a v u b x p q r g h.0, goals_more t a v u b x p q r gs h.1)

-- ---- names of numbers

module _ (w : ScopeParts) (name : List ℕ) (m : Meaning) (new : IsUndeclared w name) where
  still_means : (a : List ℕ) (x : Meaning) → Means w a x → Means (declared w name m) a x
  still_means a x e =
      let more = insert_extends w.meanings name m in
      ⊎_elim
      (λ (p : a ≡ name). absurd (none-some x (sym new ∙ ap (get w.meanings) (sym p) ∙ e)))
      (λ (q : get (insert w.meanings name m) a ≡ get w.meanings a). q ∙ e)
      (more.others a)

  more_named : (kind : ℕ → Meaning) (n : ℕ) → AreNamed w kind n → AreNamed (declared w name m) kind n
  more_named kind n h k lt = let x = h k lt in (x.0, still_means x.0 (kind k) x.1)

  next_named : (kind : ℕ → Meaning) (n : ℕ) → m ≡ kind n → AreNamed w kind n → AreNamed (declared w name m) kind (n + 1)
  next_named kind n is h k lt = by_number (nat_lt k n) refl where
    by_number : (b : Bool) → nat_lt k n ≡ b → (a : List ℕ) × Means (declared w name m) a (kind k)
    by_number true e = more_named kind n h k (ltb-true k n e)
    by_number false e =
        let same : n ≡ k = omega (arith, ltb-false k n e, lt) in
        (name, (insert_extends w.meanings name m).here ∙ ap Some (is ∙ ap kind same))

  names_still : (names : List (List ℕ)) → AreNamesOfProgs w names → AreNamesOfProgs (declared w name m) names
  names_still names h i n e = still_means n (Prog i) (h i n e)

-- the next program gets the last name
next_name : (w : ScopeParts) (name : List ℕ) (ps : List ProgParts) (names : List (List ℕ)) → IsUndeclared w name → length names ≡ length ps → AreNamesOfProgs w names → AreNamesOfProgs (declared w name (Prog (length ps))) (names ++ name ∷ [])
next_name w name ps names new counted h i n e =
    let m = Prog (length ps) in
    ⊎_elim
    (λ old. still_means w name m new n (Prog i) (h i n old))
    (λ last.
    let same : length ps ≡ i = sym counted ∙ sym last.0 in
    subst (λ x. Means (declared w name m) x (Prog i)) last.1 ((insert_extends w.meanings name m).here ∙ ap (λ k. Some (Prog k)) same))
    (slice_get_last names name i n e)

-- ---- states

-- all declarations and statements use only declared numbers
pub record Ranged (s : State) : Type 0 where
  pub numbers : AreNumbered s.world s.tests s.actions s.vars (length s.progs)
  pub defined : DefinedInRange s.world s.tests s.actions
  pub tests : s.tests ≤ MAX_TESTS
  pub actions : s.actions ≤ MAX_ACTIONS
  pub vars : s.vars ≤ MAX_VARS
  pub named_tests : AreNamed s.world Test s.tests
  pub named_actions : AreNamed s.world Action s.actions
  pub named_vars : AreNamed s.world Var s.vars
  pub counted : length s.prog_names ≡ length s.progs
  pub named_progs : AreNamesOfProgs s.world s.prog_names
  pub hyps : AreInRange s.tests s.actions s.hyps
  pub progs : AreProgsInRange s.tests s.actions s.vars s.progs
  pub goals : GoalsInRange s.tests s.actions s.vars s.goals

start_ranged : (limit : GoalLimit) → Ranged (start limit)
start_ranged limit = record {
  numbers = empty_numbered;
  defined = λ i d e. absurd (no_term i d e);
  tests = omega arith;
  actions = omega arith;
  vars = omega arith;
  named_tests = λ k lt. absurd (omega (arith, lt));
  named_actions = λ k lt. absurd (omega (arith, lt));
  named_vars = λ k lt. absurd (omega (arith, lt));
  counted = refl;
  named_progs = λ i name e. absurd (no_name i name e);
  hyps = tt;
  progs = tt;
  goals = tt;
} where
  no_term : (i : ℕ) (d : Definition) → slice_get [] i ≡ Some d → ⊥
  no_term i d e = let none : slice_get [] i ≡ None = slice_get_past [] i (omega arith) in none-some d (sym none ∙ e)

  no_name : (i : ℕ) (name : List ℕ) → slice_get [] i ≡ Some name → ⊥
  no_name i name e = let none : slice_get [] i ≡ None = slice_get_past [] i (omega arith) in none-some name (sym none ∙ e)

next_within : (n most : ℕ) → n < most → n + 1 ≤ most
next_within n most lt = omega arith

test_ranged : (s : State) (l : Leaf) (t : State) → DeclaresTest s l t → Ranged s → Ranged t
test_ranged s l t made r =
    let m = Test s.tests in
    let same = next_bound s.tests in
    let a = same_bound s.actions in
    let v = same_bound s.vars in
    subst Ranged (sym made.2) (record {
      numbers = test_numbered s.world s.tests s.actions s.vars (length s.progs) r.numbers (with_test s l.text).world l.text refl;
      defined = defined_more s.tests s.actions s.vars (s.tests + 1) s.actions s.vars same a v s.world r.defined;
      tests = next_within s.tests MAX_TESTS made.1;
      actions = r.actions;
      vars = r.vars;
      named_tests = next_named s.world l.text m made.0 Test s.tests refl r.named_tests;
      named_actions = more_named s.world l.text m made.0 Action s.actions r.named_actions;
      named_vars = more_named s.world l.text m made.0 Var s.vars r.named_vars;
      counted = r.counted;
      named_progs = names_still s.world l.text m made.0 s.prog_names r.named_progs;
      hyps = terms_more s.tests s.actions s.vars (s.tests + 1) s.actions s.vars same a v s.hyps r.hyps;
      progs = progs_more s.tests s.actions s.vars (s.tests + 1) s.actions s.vars same a v s.progs r.progs;
      goals = goals_more s.tests s.actions s.vars (s.tests + 1) s.actions s.vars same a v s.goals r.goals;
    })

action_ranged : (s : State) (l : Leaf) (t : State) → DeclaresAction s l t → Ranged s → Ranged t
action_ranged s l t made r =
    let m = Action s.actions in
    let same = same_bound s.tests in
    let a = next_bound s.actions in
    let v = same_bound s.vars in
    subst Ranged (sym made.2) (record {
      numbers = action_numbered s.world s.tests s.actions s.vars (length s.progs) r.numbers (with_action s l.text).world l.text refl;
      defined = defined_more s.tests s.actions s.vars s.tests (s.actions + 1) s.vars same a v s.world r.defined;
      tests = r.tests;
      actions = next_within s.actions MAX_ACTIONS made.1;
      vars = r.vars;
      named_tests = more_named s.world l.text m made.0 Test s.tests r.named_tests;
      named_actions = next_named s.world l.text m made.0 Action s.actions refl r.named_actions;
      named_vars = more_named s.world l.text m made.0 Var s.vars r.named_vars;
      counted = r.counted;
      named_progs = names_still s.world l.text m made.0 s.prog_names r.named_progs;
      hyps = terms_more s.tests s.actions s.vars s.tests (s.actions + 1) s.vars same a v s.hyps r.hyps;
      progs = progs_more s.tests s.actions s.vars s.tests (s.actions + 1) s.vars same a v s.progs r.progs;
      goals = goals_more s.tests s.actions s.vars s.tests (s.actions + 1) s.vars same a v s.goals r.goals;
    })

var_ranged : (s : State) (l : Leaf) (t : State) → DeclaresVar s l t → Ranged s → Ranged t
var_ranged s l t made r =
    let m = Var s.vars in
    let same = same_bound s.tests in
    let a = same_bound s.actions in
    let v = next_bound s.vars in
    subst Ranged (sym made.2) (record {
      numbers = var_numbered s.world s.tests s.actions s.vars (length s.progs) r.numbers (with_var s l.text).world l.text refl;
      defined = r.defined;
      tests = r.tests;
      actions = r.actions;
      vars = next_within s.vars MAX_VARS made.1;
      named_tests = more_named s.world l.text m made.0 Test s.tests r.named_tests;
      named_actions = more_named s.world l.text m made.0 Action s.actions r.named_actions;
      named_vars = next_named s.world l.text m made.0 Var s.vars refl r.named_vars;
      counted = r.counted;
      named_progs = names_still s.world l.text m made.0 s.prog_names r.named_progs;
      hyps = r.hyps;
      progs = progs_more s.tests s.actions s.vars s.tests s.actions (s.vars + 1) same a v s.progs r.progs;
      goals = goals_more s.tests s.actions s.vars s.tests s.actions (s.vars + 1) same a v s.goals r.goals;
    })

names_ranged : (each : State → Leaf → State → Type 0) → ((s : State) (l : Leaf) (t : State) → each s l t → Ranged s → Ranged t) → (ns : Names) (s t : State) → EachName each s ns t → Ranged s → Ranged t
names_ranged each step (one_name l) s t h r = step s l t h r
names_ranged each step (more_names l c ns) s t h r = names_ranged each step ns h.0 t h.2 (step s l h.0 h.1 r)

-- an additional defined term
term_defined : (w : ScopeParts) (name : List ℕ) (d : Definition) (t a : ℕ) → DefinedInRange w t a → IsInRange t a d.tree → DefinedInRange (defined w name d) t a
term_defined w name d t a old new i x e = ⊎_elim (λ p. old i x p) (λ q. subst (λ (y : Definition). IsInRange t a y.tree) q.1 new) (slice_get_last w.terms d i x e)

-- additional nodes, and an additional program, hypothesis or goal
prog_ranged : (s : State) (n : ℕ) (name : List ℕ) (tree : ProgTree) (levels : ℕ) → IsUndeclared s.world name → IsProgInRange s.tests s.actions s.vars tree → Ranged s → Ranged (add_prog (grown s n) name tree levels)
prog_ranged s n name tree levels new h r =
    let m = Prog (length s.progs) in
    let d : ProgParts = record { tree = tree; nesting = levels } in
    let more : length (s.progs ++ d ∷ []) ≡ length s.progs + 1 = length-append s.progs (d ∷ []) in
    record {
      numbers = subst (AreNumbered (declared s.world name m) s.tests s.actions s.vars) (sym more) (prog_numbered s.world s.tests s.actions s.vars (length s.progs) r.numbers (declared s.world name m) name refl);
      defined = r.defined;
      tests = r.tests;
      actions = r.actions;
      vars = r.vars;
      named_tests = more_named s.world name m new Test s.tests r.named_tests;
      named_actions = more_named s.world name m new Action s.actions r.named_actions;
      named_vars = more_named s.world name m new Var s.vars r.named_vars;
      counted = length-append s.prog_names (name ∷ []) ∙ ap (λ k. k + 1) r.counted ∙ sym more;
      named_progs = next_name s.world name s.progs s.prog_names new r.counted r.named_progs;
      hyps = r.hyps;
      progs = progs_last s.tests s.actions s.vars s.progs d r.progs h;
      goals = r.goals;
    }

hyp_ranged : (s : State) (n : ℕ) (e : Term) → IsInRange s.tests s.actions e → Ranged s → Ranged (state_hyp (grown s n) e)
hyp_ranged s n e h r = record {
  numbers = r.numbers;
  defined = r.defined;
  tests = r.tests;
  actions = r.actions;
  vars = r.vars;
  named_tests = r.named_tests;
  named_actions = r.named_actions;
  named_vars = r.named_vars;
  counted = r.counted;
  named_progs = r.named_progs;
  hyps = AreInRange-append s.tests s.actions s.hyps (e ∷ []) r.hyps (h, tt);
  progs = r.progs;
  goals = r.goals;
}

goal_ranged : (s : State) (n : ℕ) (g : GoalTree) → IsGoalInRange s.tests s.actions s.vars g → Ranged s → Ranged (state_goal (grown s n) g)
goal_ranged s n g h r = record {
  numbers = r.numbers;
  defined = r.defined;
  tests = r.tests;
  actions = r.actions;
  vars = r.vars;
  named_tests = r.named_tests;
  named_actions = r.named_actions;
  named_vars = r.named_vars;
  counted = r.counted;
  named_progs = r.named_progs;
  hyps = r.hyps;
  progs = r.progs;
  goals = goals_last s.tests s.actions s.vars s.goals g r.goals h;
}

-- ---- the goals and statements of a state

module _ (s : State) (r : Ranged s) where
  term_ranged : (p : Phrase term) (e : Term) (h : IsSide s p (term_side e)) → IsInRange s.tests s.actions e
  term_ranged p e h = term_in s.tests s.actions s.vars s.world (length s.progs) r.numbers r.defined (context 0 false false) p e h.built

  leaf_ranged : (p : Phrase term) (o : Option Leaf) (d : ProgParts) → lone_leaf p ≡ o → named_by s p ≡ Some d → IsProgInRange s.tests s.actions s.vars d.tree
  leaf_ranged p None d h e = let given : named_by s p ≡ None = rw (h) refl in absurd (none-some d (sym given ∙ e))
  leaf_ranged p (Some l) d h e = let given : named_by s p ≡ prog_meant s.progs (get s.world.meanings l.text) = rw (h) refl in meant_in s.tests s.actions s.vars s.progs (get s.world.meanings l.text) d r.progs (sym given ∙ e)

  side_ranged : (p : Phrase term) (side : SideTree) → IsSide s p side → IsSideInRange s.tests s.actions s.vars side
  side_ranged p (term_side e) h = term_ranged p e h
  side_ranged p (prog_side q) h = subst (IsProgInRange s.tests s.actions s.vars) (sym h.same) (leaf_ranged p (lone_leaf p) h.parts refl h.named)

sides_ranged : (f : SideTree → SideTree → GoalTree) → ((t a v : ℕ) (l r : SideTree) → IsSideInRange t a v l → IsSideInRange t a v r → IsGoalInRange t a v (f l r)) →
    (s t : State) (p : Phrase term) (c : Leaf) (q : Phrase term) (e : Leaf) → PosesSides f s p c q e t → Ranged s → Ranged t
sides_ranged f joins s t p c q e h r =
    let left = side_ranged s r p h.left h.is_left in
    let right = side_ranged s r q h.right h.is_right in
    subst Ranged (sym h.made) (goal_ranged s (side_size h.left + side_size h.right) (f h.left h.right) (joins s.tests s.actions s.vars h.left h.right left right) r)

body_ranged : (b : Body) (s t : State) → Makes s b t → Ranged s → Ranged t
body_ranged (tests ns e) s t h r = names_ranged DeclaresTest test_ranged ns s t h r
body_ranged (actions ns e) s t h r = names_ranged DeclaresAction action_ranged ns s t h r
body_ranged (variables ns e) s t h r = names_ranged DeclaresVar var_ranged ns s t h r
body_ranged (definition name q p e) s t h r =
    let tree = term_ranged s r p h.tree h.is_term in
    let d : Definition = record { tree = h.tree; nesting = nesting s.world p } in
    let m = TermName (length s.world.terms) in
    subst Ranged (sym h.made) (record {
      numbers = term_numbered s.world s.tests s.actions s.vars (length s.progs) r.numbers (defined s.world name.text d) name.text d refl;
      defined = term_defined s.world name.text d s.tests s.actions r.defined tree;
      tests = r.tests;
      actions = r.actions;
      vars = r.vars;
      named_tests = more_named s.world name.text m h.new Test s.tests r.named_tests;
      named_actions = more_named s.world name.text m h.new Action s.actions r.named_actions;
      named_vars = more_named s.world name.text m h.new Var s.vars r.named_vars;
      counted = r.counted;
      named_progs = names_still s.world name.text m h.new s.prog_names r.named_progs;
      hyps = r.hyps;
      progs = r.progs;
      goals = r.goals;
    })
body_ranged (program name b) s t h r =
    let tree = block_in s.tests s.actions s.vars s.world s.progs (length s.progs) r.numbers r.defined (progs_at s.tests s.actions s.vars s.progs r.progs) b h.tree h.is_block.sound h.is_block.built in
    subst Ranged (sym h.made) (prog_ranged s (prog_size h.tree) name.text h.tree (block_nesting s.world s.progs b) h.new tree r)
body_ranged (hypothesis p q z e) s t h r = subst Ranged (sym h.made) (hyp_ranged s (term_size h.tree) h.tree (term_ranged s r p h.tree h.is_term) r)
body_ranged (hyp_triple l x e) s t h r =
    let count = length s.progs in
    let pre = test_of_in s.tests s.actions s.vars h.pre (cond_in s.tests s.actions s.vars s.world count r.numbers r.defined (context 1 false false) (x.pre).inner h.pre h.is_pre.built) in
    let body = term_ranged s r x.body h.body h.is_body in
    let post = test_of_in s.tests s.actions s.vars h.post (cond_in s.tests s.actions s.vars s.world count r.numbers r.defined (context 1 false false) (x.post).inner h.post h.is_post.built) in
    subst Ranged (sym h.made) (hyp_ranged s (term_size (triple_term h.pre h.body h.post)) (triple_term h.pre h.body h.post) (pre, (body, post)) r)
body_ranged (rounds n e) s t h r = subst Ranged (sym h.made) (record {
  numbers = r.numbers;
  defined = r.defined;
  tests = r.tests;
  actions = r.actions;
  vars = r.vars;
  named_tests = r.named_tests;
  named_actions = r.named_actions;
  named_vars = r.named_vars;
  counted = r.counted;
  named_progs = r.named_progs;
  hyps = r.hyps;
  progs = r.progs;
  goals = r.goals;
})
body_ranged (width n e) s t h r = subst Ranged (sym h.made) (record {
  numbers = r.numbers;
  defined = r.defined;
  tests = r.tests;
  actions = r.actions;
  vars = r.vars;
  named_tests = r.named_tests;
  named_actions = r.named_actions;
  named_vars = r.named_vars;
  counted = r.counted;
  named_progs = r.named_progs;
  hyps = r.hyps;
  progs = r.progs;
  goals = r.goals;
})
body_ranged (goal_equal l p c q e) s t h r = sides_ranged equal (λ t a v x y m n. (m, n)) s t p c q e h r
body_ranged (goal_below l p c q e) s t h r = sides_ranged below (λ t a v x y m n. (m, n)) s t p c q e h r
body_ranged (goal_triple l x e) s t h r =
    let count = length s.progs in
    let pre = cond_in s.tests s.actions s.vars s.world count r.numbers r.defined (context 1 false true) (x.pre).inner h.pre h.is_pre.built in
    let body = side_ranged s r x.body h.body h.is_body in
    let post = cond_in s.tests s.actions s.vars s.world count r.numbers r.defined (context 1 false true) (x.post).inner h.post h.is_post.built in
    subst Ranged (sym h.made) (goal_ranged s (cond_size h.pre + side_size h.body + cond_size h.post) (triple h.pre h.body h.post) (pre, body, post) r)

all_ranged : (is : List Item) (s t : State) → MakeAll s is t → Ranged s → Ranged t
all_ranged [] s t h r = subst Ranged (sym h) r
all_ranged (i ∷ is) s t h r = all_ranged is h.0 t h.2 (body_ranged i.body s h.0 h.1 r)

-- the numbers in the file are below the bounds, with any of the goals
file_numbered : (s : State) (g : GoalTree) → IsGoalInRange s.tests s.actions s.vars g → Ranged s → IsNumbered (file_of s g)
file_numbered s g goal r = record {
  tests = r.tests;
  actions = r.actions;
  vars = r.vars;
  named_tests = r.named_tests;
  named_actions = r.named_actions;
  named_vars = r.named_vars;
  counted = r.counted;
  named_progs = r.named_progs;
  hyps = r.hyps;
  progs = r.progs;
  goal = goal;
}

module _ (limit : GoalLimit) (bytes : List ℕ) (x : Denotes limit bytes) where
  denoted_ranged : Ranged x.state
  denoted_ranged = all_ranged x.items (start limit) x.state x.make (start_ranged limit)

  denoted_numbered : IsNumbered (file_of x.state x.goal)
  denoted_numbered = file_numbered x.state x.goal (first_goal (x.state).tests (x.state).actions (x.state).vars (x.state).goals x.goal x.has_goal denoted_ranged.goals) denoted_ranged

pub are_in_ranges : AreInRanges
are_in_ranges bytes f reads = subst IsNumbered (sym reads.file) (denoted_numbered One bytes reads.denotes)

pub all_are_in_ranges : AreAllInRanges
all_are_in_ranges = record {
  file = λ bytes f more reads. subst IsNumbered (sym reads.file) (denoted_numbered Batch bytes reads.denotes);
  goals = λ bytes f more reads g has.
      let s = (reads.denotes).state in
      let goal : IsGoalInRange s.tests s.actions s.vars g = later_goal s.tests s.actions s.vars s.goals g (subst (λ gs. Has gs g) reads.goals has) (denoted_ranged Batch bytes reads.denotes).goals in
      subst (λ (x : FileParts). IsGoalInRange x.tests x.actions x.vars g) (sym reads.file) goal;
}
