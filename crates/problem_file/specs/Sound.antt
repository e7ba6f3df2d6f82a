-- The states that the items of a text make, one after the other, if every requirement holds.
use Rattle.std.specs.Prelude.{◌≡◌, ◌≤◌, ◌<◌, ℕ, ◌+◌, List, [], ◌∷◌, length, Bool, true, false, Ok, Option, Some, None, option_and_then}
use Rattle.kat_model.specs.declared.limits.TheConstants.{MAX_TESTS, MAX_ACTIONS, MAX_VARS, MAX_ROUNDS, MAX_TERM_NODES, MAX_EXPR_NODES, MAX_TEXT_NODES, MAX_HYPS}
use Rattle.kat_model.specs.Trees.{Term, term_size}
use Rattle.kat_model.specs.Expressions.{CondTree}
use Rattle.kat_model.specs.declared.expression.Width.{Width}
use Rattle.text_parser.specs.Parsed.{◌>>=◌}
use Rattle.text_parser.specs.Actions.{context}
use Rattle.text_parser.specs.Phrases.{term, cond, Leaf, Phrase}
use Rattle.text_parser.specs.Folds.{fold}
use Rattle.text_parser.specs.declared.meaning.Meaning.TheVariants.{Test, Action, Var}
use Rattle.text_parser.specs.Sizes.{cond_size, largest_expr}
use Rattle.text_parser.specs.ScopeParts.{ScopeParts, IsUndeclared, declared}
use Rattle.text_parser.specs.Building.{trees}
use Rattle.text_parser.specs.Sound.{IsSound, nesting}
use Rattle.while_lang.specs.Programs.{ProgTree, prog_of as prog_with}
use Rattle.while_lang.specs.ProgramSizes.{prog_size, largest_in}
use Rattle.while_lang.specs.NamedProgs.{ProgParts}
use Rattle.while_lang.specs.BlockPhrases.{block, BlockPhrase}
use Rattle.while_lang.specs.BlockFolds.{fold_block}
use Rattle.while_lang.specs.BlockBuilding.{block_trees}
use Rattle.while_lang.specs.BlockSound.{BlockIsSound, block_nesting}
use Rattle.while_lang.specs.Files.{SideTree, term_side, prog_side, GoalTree, equal, below, triple, prog_named}
use Rattle.problem_file.specs.Files.{State, most_goals, width_of, has_begun, with_rounds, with_width, width_with}
use Rattle.problem_file.specs.Files.{define, add_prog, state_hyp, state_goal, triple_term}
use Rattle.problem_file.specs.Numbers.{AreNarrow}
use Rattle.problem_file.specs.Phrases.{Names, one_name, more_names, Numeral, TriplePhrase, Body, tests, actions, variables, definition, program, hypothesis, hyp_triple, rounds, width, goal_equal, goal_below, goal_triple, Item}
use Rattle.problem_file.specs.Phrases.{lone_leaf, ended, sides_onto, triple_onto, prog_onto}
use Rattle.problem_file.specs.Folds.{numeral_value}

-- ---- names

-- an additional test, with the next number
abbrev pub with_test : State → List ℕ → State
with_test s name = record s { world = declared s.world name (Test s.tests); tests = s.tests + 1 }

-- an additional action, with the next number
abbrev pub with_action : State → List ℕ → State
with_action s name = record s { world = declared s.world name (Action s.actions); actions = s.actions + 1 }

-- an additional variable, with the next number
abbrev pub with_var : State → List ℕ → State
with_var s name = record s { world = declared s.world name (Var s.vars); vars = s.vars + 1 }

-- the name is new, and there are fewer than `MAX_TESTS` tests
abbrev pub DeclaresTest : State → Leaf → State → Type 0
DeclaresTest s l t = IsUndeclared s.world l.text × (s.tests < MAX_TESTS) × (t ≡ with_test s l.text)

-- the name is new, and there are fewer than `MAX_ACTIONS` actions
abbrev pub DeclaresAction : State → Leaf → State → Type 0
DeclaresAction s l t = IsUndeclared s.world l.text × (s.actions < MAX_ACTIONS) × (t ≡ with_action s l.text)

-- the name is new, and there are fewer than `MAX_VARS` variables
abbrev pub DeclaresVar : State → Leaf → State → Type 0
DeclaresVar s l t = IsUndeclared s.world l.text × (s.vars < MAX_VARS) × (t ≡ with_var s l.text)

-- each of the names in turn
abbrev pub EachName : {S : Type 0} → (S → Leaf → S → Type 0) → S → Names → S → Type 0
EachName each s (one_name l) t = each s l t
EachName {S} each s (more_names l c ns) t = (u : S) × each s l u × EachName each u ns t

-- ---- phrases

-- the phrase denotes this term, which is not too large
pub record IsTerm (w : ScopeParts) (p : Phrase term) (tree : Term) : Type 0 where
  pub sound : IsSound w (context 0 false false) p
  pub built : fold (trees w) (context 0 false false) p (λ e. e ∷ []) ≡ Ok tree
  pub small : term_size tree ≤ MAX_TERM_NODES

-- the phrase, which is in braces, denotes this condition, which is not too large
pub record IsCond (w : ScopeParts) (compares : Bool) (p : Phrase cond) (tree : CondTree) : Type 0 where
  pub sound : IsSound w (context 1 false compares) p
  pub built : fold (trees w) (context 1 false compares) p (λ b. b ∷ []) ≡ Ok tree
  pub narrow : largest_expr tree ≤ MAX_EXPR_NODES
  pub small : cond_size tree ≤ MAX_TERM_NODES

-- the block denotes this program, with earlier programs spliced in, and it is not too large
pub record IsBlock (w : ScopeParts) (ps : List ProgParts) (p : BlockPhrase block) (tree : ProgTree) : Type 0 where
  pub sound : BlockIsSound w ps 0 p
  pub built : (fold_block (block_trees w ps) 0 p [] >>= λ ss. Ok (prog_with ss)) ≡ Ok tree
  pub narrow : largest_in tree ≤ MAX_EXPR_NODES
  pub small : prog_size tree ≤ MAX_TERM_NODES

-- the program that a phrase names, if the phrase is only a program's name
abbrev pub named_by : State → Phrase term → Option ProgParts
named_by s p = option_and_then (λ l. prog_named s.world s.progs l.text) (lone_leaf p)

-- the phrase is only the name of this program
pub record NamesProg (s : State) (p : Phrase term) (tree : ProgTree) : Type 0 where
  pub parts : ProgParts
  pub named : named_by s p ≡ Some parts
  pub same : tree ≡ parts.tree
  pub small : prog_size tree ≤ MAX_TERM_NODES

-- a side of a goal
abbrev pub IsSide : State → Phrase term → SideTree → Type 0
IsSide s p (term_side e) = IsTerm s.world p e
IsSide s p (prog_side q) = NamesProg s p q

abbrev pub side_size : SideTree → ℕ
side_size (term_side e) = term_size e
side_size (prog_side p) = prog_size p

-- ---- nodes

-- the state with this number of additional nodes
abbrev pub grown : State → ℕ → State
grown s nodes = record s { size = s.size + nodes }

-- all items together have at most `MAX_TEXT_NODES` nodes
abbrev pub HasRoom : State → ℕ → Type 0
HasRoom s nodes = s.size + nodes ≤ MAX_TEXT_NODES

-- ---- definitions

pub record Defines (s : State) (name : Leaf) (p : Phrase term) (t : State) : Type 0 where
  pub new : IsUndeclared s.world name.text
  pub tree : Term
  pub is_term : IsTerm s.world p tree
  pub room : HasRoom s (term_size tree)
  pub made : t ≡ define (grown s (term_size tree)) name.text tree (nesting s.world p)

-- a program whose item has no number of 2 to the width or more
pub record DefinesProg (s : State) (name : Leaf) (p : BlockPhrase block) (t : State) : Type 0 where
  pub new : IsUndeclared s.world name.text
  pub tree : ProgTree
  pub is_block : IsBlock s.world s.progs p tree
  pub numbers : AreNarrow (width_of s) (prog_onto name p [])
  pub room : HasRoom s (prog_size tree)
  pub made : t ≡ add_prog (grown s (prog_size tree)) name.text tree (block_nesting s.world s.progs p)

-- ---- hypotheses

-- a hypothesis, of at most `MAX_HYPS`
pub record States (s : State) (p : Phrase term) (t : State) : Type 0 where
  pub few : length s.hyps < MAX_HYPS
  pub tree : Term
  pub is_term : IsTerm s.world p tree
  pub room : HasRoom s (term_size tree)
  pub made : t ≡ state_hyp (grown s (term_size tree)) tree

-- a hypothesis that is a triple, without comparisons and without a program; its size is the size of its term
pub record StatesTriple (s : State) (x : TriplePhrase) (t : State) : Type 0 where
  pub few : length s.hyps < MAX_HYPS
  pub pre : CondTree
  pub body : Term
  pub post : CondTree
  pub is_pre : IsCond s.world false x.pre.inner pre
  pub is_body : IsTerm s.world x.body body
  pub is_post : IsCond s.world false x.post.inner post
  pub small : term_size (triple_term pre body post) ≤ MAX_TERM_NODES
  pub room : HasRoom s (term_size (triple_term pre body post))
  pub made : t ≡ state_hyp (grown s (term_size (triple_term pre body post))) (triple_term pre body post)

-- ---- rounds and width

-- the only `rounds`, at most `MAX_ROUNDS`
pub record SetsRounds (s : State) (x : Numeral) (t : State) : Type 0 where
  pub first : s.rounds ≡ None
  pub number : ℕ
  pub is_number : numeral_value x ≡ Ok number
  pub few : number ≤ MAX_ROUNDS
  pub made : t ≡ with_rounds s number

-- the only `width`, before the first `var`, `prog` and `goal`
pub record SetsWidth (s : State) (x : Numeral) (t : State) : Type 0 where
  pub first : s.width ≡ None
  pub early : has_begun s ≡ false
  pub number : ℕ
  pub is_number : numeral_value x ≡ Ok number
  pub chosen : Width
  pub is_width : width_with number ≡ Some chosen
  pub made : t ≡ with_width s chosen

-- ---- goals

-- a goal of two sides, within the limit of goals; its item has no number of 2 to the width or more
pub record PosesSides (f : SideTree → SideTree → GoalTree) (s : State) (p : Phrase term) (comma : Leaf) (q : Phrase term) (end : Leaf) (t : State) : Type 0 where
  pub few : length s.goals < most_goals s.limit
  pub left : SideTree
  pub right : SideTree
  pub is_left : IsSide s p left
  pub is_right : IsSide s q right
  pub numbers : AreNarrow (width_of s) (sides_onto p comma q (ended end []))
  pub room : HasRoom s (side_size left + side_size right)
  pub made : t ≡ state_goal (grown s (side_size left + side_size right)) (f left right)

-- a goal of a side between two conditions, which may compare
pub record PosesTriple (s : State) (x : TriplePhrase) (end : Leaf) (t : State) : Type 0 where
  pub few : length s.goals < most_goals s.limit
  pub pre : CondTree
  pub body : SideTree
  pub post : CondTree
  pub is_pre : IsCond s.world true x.pre.inner pre
  pub is_body : IsSide s x.body body
  pub is_post : IsCond s.world true x.post.inner post
  pub numbers : AreNarrow (width_of s) (triple_onto x (ended end []))
  pub room : HasRoom s (cond_size pre + side_size body + cond_size post)
  pub made : t ≡ state_goal (grown s (cond_size pre + side_size body + cond_size post)) (triple pre body post)

-- ---- items

-- the item leads from state `s` to state `t`
abbrev pub Makes : State → Body → State → Type 0
Makes s (tests ns e) t = EachName DeclaresTest s ns t
Makes s (actions ns e) t = EachName DeclaresAction s ns t
Makes s (variables ns e) t = EachName DeclaresVar s ns t
Makes s (definition name q p e) t = Defines s name p t
Makes s (program name b) t = DefinesProg s name b t
Makes s (hypothesis p q z e) t = States s p t
Makes s (hyp_triple l x e) t = StatesTriple s x t
Makes s (rounds n e) t = SetsRounds s n t
Makes s (width n e) t = SetsWidth s n t
Makes s (goal_equal l p c q e) t = PosesSides equal s p c q e t
Makes s (goal_below l p c q e) t = PosesSides below s p c q e t
Makes s (goal_triple l x e) t = PosesTriple s x e t

-- the items lead from state `s` to state `t`, one after the other
abbrev pub MakeAll : State → List Item → State → Type 0
MakeAll s [] t = t ≡ s
MakeAll s (i ∷ is) t = (u : State) × Makes s i.body u × MakeAll u is t
