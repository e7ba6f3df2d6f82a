-- In a file that is read, no name means the variable after the last one.
use Rattle.std.proofs.Common.{◌≡◌, ◌<◌, ◌≤◌, ℕ, List, [], ◌∷◌, length, ⊎_elim, sym, subst, ◌∙◌, arith}
use Rattle.std.proofs.lemmas.Option.{none-some}
use Rattle.std.specs.Ordering.{nat_cmp}
use Rattle.std.specs.Cmp.Lexicographic.{slice_cmp}
use Rattle.std.specs.FinMap.{get-empty}
use Rattle.text_parser.specs.Phrases.{Leaf}
use Rattle.text_parser.specs.declared.meaning.Meaning.{Meaning}
use Rattle.text_parser.specs.declared.meaning.Meaning.TheVariants.{Test, Action, Var, Term, Prog}
use Rattle.text_parser.specs.ScopeParts.{Means, IsUnnamed, declared}
use Rattle.while_lang.specs.Files.{FileParts}
use Rattle.problem_file.specs.Files.{State}
use Rattle.problem_file.specs.Phrases.{Names, one_name, more_names, Body, tests, actions, variables, definition, program, hypothesis, hyp_triple, rounds, width, goal_equal, goal_below, goal_triple, Item}
use Rattle.problem_file.specs.Sound.{with_var, EachName, DeclaresTest, DeclaresAction, DeclaresVar, Makes, MakeAll}
use Rattle.problem_file.specs.Reads.{Reads, start_one}
use Rattle.problem_file.proofs.Numbering.{new_or_old}

-- each variable with a name is declared
abbrev HasVarsBelow : State → Type 0
HasVarsBelow s = (name : List ℕ) (k : ℕ) → Means s.world name (Var k) → k < s.vars

-- an additional name keeps the variables below the bound
more_below : (s : State) (name : List ℕ) (m : Meaning) (v : ℕ) → HasVarsBelow s → s.vars ≤ v → ((k : ℕ) → m ≡ Var k → k < v) → (other : List ℕ) (k : ℕ) → Means (declared s.world name m) other (Var k) → k < v
more_below s name m v h le new other k e = ⊎_elim (λ p. new k p) (λ old. let below : k < s.vars = h other k old in omega (arith, below, le)) (new_or_old s.world name m other (Var k) e)

test_below : (s : State) (l : Leaf) (t : State) → DeclaresTest s l t → HasVarsBelow s → HasVarsBelow t
test_below s l t made h = subst HasVarsBelow (sym made.2) (more_below s l.text (Test s.tests) s.vars h (omega arith) (λ k e. absurd cc))

action_below : (s : State) (l : Leaf) (t : State) → DeclaresAction s l t → HasVarsBelow s → HasVarsBelow t
action_below s l t made h = subst HasVarsBelow (sym made.2) (more_below s l.text (Action s.actions) s.vars h (omega arith) (λ k e. absurd cc))

var_below : (s : State) (l : Leaf) (t : State) → DeclaresVar s l t → HasVarsBelow s → HasVarsBelow t
var_below s l t made h =
    subst HasVarsBelow (sym made.2) (more_below s l.text (Var s.vars) (with_var s l.text).vars h (omega arith) (λ k e. let same : s.vars ≡ k = cc in omega (arith, same)))

names_below : (each : State → Leaf → State → Type 0) → ((s : State) (l : Leaf) (t : State) → each s l t → HasVarsBelow s → HasVarsBelow t) → (ns : Names) (s t : State) → EachName each s ns t → HasVarsBelow s → HasVarsBelow t
names_below each step (one_name l) s t made h = step s l t made h
names_below each step (more_names l c ns) s t made h = names_below each step ns made.0 t made.2 (step s l made.0 made.1 h)

body_below : (b : Body) (s t : State) → Makes s b t → HasVarsBelow s → HasVarsBelow t
body_below (tests ns e) s t made h = names_below DeclaresTest test_below ns s t made h
body_below (actions ns e) s t made h = names_below DeclaresAction action_below ns s t made h
body_below (variables ns e) s t made h = names_below DeclaresVar var_below ns s t made h
body_below (definition name q p e) s t made h = subst HasVarsBelow (sym made.made) (more_below s name.text (Term (length (s.world).terms)) s.vars h (omega arith) (λ k e. absurd cc))
body_below (program name b) s t made h = subst HasVarsBelow (sym made.made) (more_below s name.text (Prog (length s.progs)) s.vars h (omega arith) (λ k e. absurd cc))
body_below (hypothesis p q z e) s t made h = subst HasVarsBelow (sym made.made) h
body_below (hyp_triple l x e) s t made h = subst HasVarsBelow (sym made.made) h
body_below (rounds n e) s t made h = subst HasVarsBelow (sym made.made) h
body_below (width n e) s t made h = subst HasVarsBelow (sym made.made) h
body_below (goal_equal l p c q e) s t made h = subst HasVarsBelow (sym made.made) h
body_below (goal_below l p c q e) s t made h = subst HasVarsBelow (sym made.made) h
body_below (goal_triple l x e) s t made h = subst HasVarsBelow (sym made.made) h

all_below : (is : List Item) (s t : State) → MakeAll s is t → HasVarsBelow s → HasVarsBelow t
all_below [] s t made h = subst HasVarsBelow (sym made) h
all_below (i ∷ is) s t made h = all_below is made.0 t made.2 (body_below i.body s made.0 made.1 h)

start_below : HasVarsBelow start_one
start_below name k e = absurd (none-some (Var k) (sym (get-empty (slice_cmp nat_cmp) name) ∙ e))

pub next_unnamed : (text : List ℕ) (f : FileParts) → Reads text f → IsUnnamed f.scope (Var f.vars)
next_unnamed text f reads =
    let denotes = reads.denotes in
    let below : HasVarsBelow denotes.state = all_below denotes.items start_one denotes.state denotes.make start_below in
    subst (λ (g : FileParts). IsUnnamed g.scope (Var g.vars)) (sym reads.file) (λ name e. let less : (denotes.state).vars < (denotes.state).vars = below name (denotes.state).vars e in omega (arith, less))
