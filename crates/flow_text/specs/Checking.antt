-- A flow file checked item by item: its graphs, or its first fault.
use Rattle.std.specs.Prelude.{ℕ, ◌+◌, List, [], ◌∷◌, ◌++◌, length, map, Bool, true, false, not, ◌&&◌, ◌||◌, nat_eq, nat_lt, if◌then◌else◌, Option, Some, None, Result, Ok, Err, slice_get}
use Rattle.std.specs.Str.{bytes_eq}
use Rattle.std.specs.List.{list_any}
use Rattle.kat_model.specs.declared.limits.TheConstants.{MAX_ROUNDS}
use Rattle.text_parser.specs.declared.fault.TextFault.{TextFault}
use Rattle.text_parser.specs.declared.fault.TextFault.TheVariants as fault
use Rattle.text_parser.specs.TokenParts.{TokenParts, place_of, bytes_of}
use Rattle.text_parser.specs.Parsed.{◌>>=◌}
use Rattle.flow_model.specs.declared.sort.Sort.{Sort}
use Rattle.flow_model.specs.Expressions.{ExprTree}
use Rattle.flow_model.specs.Conditions.{CondTree, always}
use Rattle.flow_model.specs.Graphs as model
use Rattle.flow_model.specs.Graphs.{StatementTree, JumpTree, Block, Graph}
use Rattle.flow_syntax.specs.Terminals.{spelled_number}
use Rattle.flow_syntax.specs.Syntax.{FirstSyntax, no_name, ExprSyntax, CondSyntax, StatementSyntax, assign, claim, JumpSyntax, goto, branch, return, abort, BlockSyntax, a_block, EquationSyntax, equation, BlockMatchSyntax, MatchSyntax, same_names, two_blocks, ItemSyntax, sorts, function, variables, graph, rounds, split, equal, matching}
use Rattle.flow_text.specs.declared.limits.TheConstants.{MAX_BLOCKS, MAX_MATCHES}
use Rattle.flow_text.specs.declared.meaning.Meaning.{Meaning}
use Rattle.flow_text.specs.declared.meaning.Meaning.TheVariants.{Variable, GraphName}
use Rattle.flow_syntax.specs.Actions.{first_name}
use Rattle.flow_text.specs.Scopes.{ScopeParts, Counts, no_names, meaning, meaning_in, sorts_declared, may_have_function, with_function, variables_declared, may_have_graph, with_graph, counts_of, scope_before, sort_named, parameters_after, sort_fault, unknown}
use Rattle.flow_text.specs.DeclaredNames.{variable_names, function_names}
use Rattle.flow_text.specs.Resolving.{sort_of_first, sort_or_u64, expression_of, condition_of}
use Rattle.flow_syntax.specs.Sizes.{nodes_with, nodes_with_match}
use Rattle.flow_model.specs.Matches.{Equation, Match}
use Rattle.flow_text.specs.Matches.{MatchName, FileMatch}
use Rattle.flow_text.specs.MatchNames.{names_of_match}

-- the number of the first of some names that is the text
abbrev pub found : List (List ℕ × ℕ) → List ℕ → Option ℕ
found [] text = None
found (x ∷ xs) text = if bytes_eq x.0 text then Some x.1 else found xs text

-- whether a variable is one of the targets so far
abbrev pub is_set : List (ℕ × Sort) → ℕ → Bool
is_set targets k = list_any (λ x. nat_eq x.0 k) targets

-- the variable that an assignment sets, with its sort; `before` are the targets before it
abbrev pub target_of : List (ℕ × Sort) → TokenParts → ℕ → Option Sort → Result (ℕ × Sort) TextFault
target_of before t k None = unknown t
target_of before t k (Some sort) = if is_set before k then Err (fault.DoubleName (place_of t)) else Ok (k, sort)

abbrev pub target_meant : ScopeParts → List (ℕ × Sort) → TokenParts → Option Meaning → Result (ℕ × Sort) TextFault
target_meant s before t None = unknown t
target_meant s before t (Some (Variable k)) = target_of before t k (slice_get s.variables k)
target_meant s before t (Some other) = sort_fault t

abbrev pub next_target : ScopeParts → List (ℕ × Sort) → TokenParts → Result (ℕ × Sort) TextFault
next_target s before t = target_meant s before t (meaning_in s t)

-- the targets before, and those of the tokens
abbrev pub targets_after : ScopeParts → List (ℕ × Sort) → List TokenParts → Result (List (ℕ × Sort)) TextFault
targets_after s before [] = Ok before
targets_after s before (t ∷ ts) = next_target s before t >>= λ x. targets_after s (before ++ x ∷ []) ts

-- the expressions before, and expressions of the sorts that are left, one for each
abbrev pub expressions_after : ScopeParts → List ExprTree → List Sort → List ExprSyntax → Result (List ExprTree) TextFault
expressions_after s before [] es = Ok before
expressions_after s before (sort ∷ expected) [] = Ok before
expressions_after s before (sort ∷ expected) (e ∷ es) = expression_of s sort e >>= λ x. expressions_after s (before ++ x ∷ []) expected es

abbrev pub expressions_of : ScopeParts → List Sort → List ExprSyntax → Result (List ExprTree) TextFault
expressions_of s expected es = expressions_after s [] expected es

abbrev pub firsts : {X Y : Type 0} → List (X × Y) → List X
firsts xs = map (λ x. x.0) xs

abbrev pub seconds : {X Y : Type 0} → List (X × Y) → List Y
seconds xs = map (λ x. x.1) xs

abbrev pub assigned : ScopeParts → List TokenParts → TokenParts → List ExprSyntax → Result StatementTree TextFault
assigned s targets becomes es =
    targets_after s [] targets >>= λ xs. (if nat_eq (length targets) (length es)
    then (expressions_of s (seconds xs) es >>= λ vs. Ok (model.assign (firsts xs) vs))
    else sort_fault becomes)

abbrev pub statement_of : ScopeParts → StatementSyntax → Result StatementTree TextFault
statement_of s (assign targets becomes es) = assigned s targets becomes es
statement_of s (claim b) = condition_of s b >>= λ x. Ok (model.claim x)

-- the statements before, and others
abbrev pub statements_after : ScopeParts → List StatementTree → List StatementSyntax → Result (List StatementTree) TextFault
statements_after s before [] = Ok before
statements_after s before (x ∷ xs) = statement_of s x >>= λ y. statements_after s (before ++ y ∷ []) xs

-- the names of the blocks of a graph with their numbers, from `k` on
abbrev pub block_names : ℕ → List BlockSyntax → List (List ℕ × ℕ)
block_names k [] = []
block_names k (a_block is_cut name statements jump ∷ bs) = (bytes_of name, k) ∷ block_names (k + 1) bs

abbrev pub block_or_fault : TokenParts → Option ℕ → Result ℕ TextFault
block_or_fault t None = unknown t
block_or_fault t (Some k) = Ok k

-- The jump of a block, where `find` gives the number of a block by its name. The results of a `return` are checked last:
-- `results` has their sorts then, and until then they are left out.
abbrev pub returned : ScopeParts → Option (List Sort) → TokenParts → List ExprSyntax → Result JumpTree TextFault
returned s None word es = Ok (model.return [])
returned s (Some results) word es =
    if nat_eq (length results) (length es) then (expressions_of s results es >>= λ vs. Ok (model.return vs)) else sort_fault word

abbrev pub gone_to : TokenParts → Option ℕ → Result JumpTree TextFault
gone_to t k = block_or_fault t k >>= λ l. Ok (model.goto l)

abbrev pub branched : ScopeParts → (List ℕ → Option ℕ) → CondSyntax → TokenParts → TokenParts → Result JumpTree TextFault
branched s find b t u =
    condition_of s b >>= λ x. block_or_fault t (find (bytes_of t)) >>= λ k. block_or_fault u (find (bytes_of u))
    >>= λ l. Ok (model.branch x k l)

abbrev pub jump_of : ScopeParts → Option (List Sort) → (List ℕ → Option ℕ) → JumpSyntax → Result JumpTree TextFault
jump_of s results find (goto t) = gone_to t (find (bytes_of t))
jump_of s results find (branch b t u) = branched s find b t u
jump_of s results find (return word es) = returned s results word es
jump_of s results find abort = Ok model.abort

-- block `k` must have a name that no block before it has: `found` is the number of the first block with its name
abbrev pub may_have_block : ℕ → TokenParts → Option ℕ → Result (Unit {0}) TextFault
may_have_block k t None = unknown t
may_have_block k t (Some j) =
    if not (nat_eq j k) then Err (fault.DoubleName (place_of t))
    else if nat_lt k MAX_BLOCKS then Ok tt
    else Err (fault.TooMany (place_of t))

abbrev pub block_name : BlockSyntax → TokenParts
block_name (a_block is_cut name statements jump) = name

abbrev pub with_mark : Bool → List StatementTree → JumpTree → Block
with_mark is_cut statements jump = record { is_cut = is_cut; statements = statements; jump = jump }

-- a block without a check of its name
abbrev pub block_of : ScopeParts → Option (List Sort) → (List ℕ → Option ℕ) → BlockSyntax → Result Block TextFault
block_of s results find (a_block is_cut name statements jump) =
    statements_after s [] statements >>= λ xs. jump_of s results find jump >>= λ j. Ok (with_mark is_cut xs j)

-- block `k` of a graph
abbrev pub next_block : ScopeParts → Option (List Sort) → (List ℕ → Option ℕ) → ℕ → BlockSyntax → Result Block TextFault
next_block s results find k b = may_have_block k (block_name b) (find (bytes_of (block_name b))) >>= λ u. block_of s results find b

-- the blocks before, and others
abbrev pub blocks_after : ScopeParts → Option (List Sort) → (List ℕ → Option ℕ) → Graph → List BlockSyntax → Result Graph TextFault
blocks_after s results find before [] = Ok before
blocks_after s results find before (b ∷ bs) = next_block s results find (length before) b >>= λ x. blocks_after s results find (before ++ x ∷ []) bs

-- the graph of some blocks
abbrev pub graph_of : ScopeParts → Option (List Sort) → List BlockSyntax → Result Graph TextFault
graph_of s results bs = blocks_after s results (found (block_names 0 bs)) [] bs

-- a graph with the numbers of declarations before it
pub data GraphSyntax : Type 0 where
  a_graph : (before : Counts) → (blocks : List BlockSyntax) → GraphSyntax

-- what a `match` says, with its keyword and the numbers of declarations before it
pub data GivenMatch : Type 0 where
  given_match : (before : Counts) → (word : TokenParts) → (m : MatchSyntax) → GivenMatch

-- what is known of the items so far
pub record Known : Type 0 where
  pub scope : ScopeParts
  pub graphs : List GraphSyntax
  pub matches : List GivenMatch
  pub rounds : Option ℕ
  pub splits : Bool
  pub goal : Option (ℕ × ℕ)
  pub nodes : ℕ

abbrev pub nothing_known : Known
nothing_known = record { scope = no_names; graphs = []; matches = []; rounds = None; splits = false; goal = None; nodes = 0 }

abbrev pub in_scope : Known → ScopeParts → Known
in_scope k s = record { scope = s; graphs = k.graphs; matches = k.matches; rounds = k.rounds; splits = k.splits; goal = k.goal; nodes = k.nodes }

abbrev pub graph_meant : TokenParts → Option Meaning → Result ℕ TextFault
graph_meant t None = unknown t
graph_meant t (Some (GraphName k)) = Ok k
graph_meant t (Some other) = sort_fault t

-- an item of which there may be one
abbrev pub at_most_once : {X : Type 0} → Option X → TextFault → Result (Unit {0}) TextFault
at_most_once None other = Ok tt
at_most_once (Some x) other = Err other

abbrev pub with_nodes : Known → TokenParts → TokenParts → List BlockSyntax → Option ℕ → Result Known TextFault
with_nodes k word t bs None = Err (fault.TooLarge (place_of word))
with_nodes k word t bs (Some nodes) =
    Ok (record { scope = with_graph k.scope t (length k.graphs); graphs = k.graphs ++ a_graph (counts_of k.scope) bs ∷ []; matches = k.matches; rounds = k.rounds; splits = k.splits; goal = k.goal; nodes = nodes })

-- a number of rounds, which must be within the limit of problem files
abbrev pub few_rounds : TokenParts → Option ℕ → Result ℕ TextFault
few_rounds t None = Err (fault.TooMany (place_of t))
few_rounds t (Some n) = if nat_lt n (MAX_ROUNDS + 1) then Ok n else Err (fault.TooMany (place_of t))

-- ---- the items so far and one more, for each kind

abbrev pub sorts_known : Known → List TokenParts → Result Known TextFault
sorts_known k names = sorts_declared k.scope names >>= λ s. Ok (in_scope k s)

abbrev pub function_known : Known → TokenParts → TokenParts → List TokenParts → Result Known TextFault
function_known k result name parameters =
    sort_named k.scope result >>= λ r. may_have_function k.scope name >>= λ u. parameters_after k.scope [] parameters
    >>= λ ps. Ok (in_scope k (with_function k.scope name r ps))

abbrev pub variables_known : Known → TokenParts → List TokenParts → Result Known TextFault
variables_known k sort names =
    sort_named k.scope sort >>= λ x. variables_declared k.scope x names >>= λ s. Ok (in_scope k s)

abbrev pub graph_known : Known → TokenParts → TokenParts → List BlockSyntax → Result Known TextFault
graph_known k word name blocks =
    may_have_graph k.scope name >>= λ u. graph_of k.scope None blocks >>= λ g. with_nodes k word name blocks (nodes_with k.nodes blocks)

abbrev pub rounds_known : Known → TokenParts → TokenParts → Result Known TextFault
rounds_known k word number =
    at_most_once k.rounds (fault.DoubleName (place_of word)) >>= λ u. few_rounds number (spelled_number number)
    >>= λ n. Ok (record { scope = k.scope; graphs = k.graphs; matches = k.matches; rounds = Some n; splits = k.splits; goal = k.goal; nodes = k.nodes })

abbrev pub split_known : Known → TokenParts → Result Known TextFault
split_known k word =
    if k.splits then Err (fault.DoubleName (place_of word))
    else Ok (record { scope = k.scope; graphs = k.graphs; matches = k.matches; rounds = k.rounds; splits = true; goal = k.goal; nodes = k.nodes })

abbrev pub goal_known : Known → TokenParts → TokenParts → TokenParts → Result Known TextFault
goal_known k word before after =
    at_most_once k.goal (fault.TwoGoals (place_of word)) >>= λ u. graph_meant before (meaning k.scope before)
    >>= λ i. graph_meant after (meaning k.scope after)
    >>= λ j. Ok (record { scope = k.scope; graphs = k.graphs; matches = k.matches; rounds = k.rounds; splits = k.splits; goal = Some (i, j); nodes = k.nodes })

abbrev pub with_match : Known → TokenParts → MatchSyntax → Option ℕ → Result Known TextFault
with_match k word m None = Err (fault.TooLarge (place_of word))
with_match k word m (Some nodes) =
    Ok (record { scope = k.scope; graphs = k.graphs; matches = k.matches ++ given_match (counts_of k.scope) word m ∷ []; rounds = k.rounds; splits = k.splits; goal = k.goal; nodes = nodes })

-- the names of a match are resolved after all items, since it may precede the goal
abbrev pub match_known : Known → TokenParts → MatchSyntax → Result Known TextFault
match_known k word m = with_match k word m (nodes_with_match k.nodes m)

abbrev pub item_known : Known → ItemSyntax → Result Known TextFault
item_known k (sorts word names) = sorts_known k names
item_known k (function word result name parameters) = function_known k result name parameters
item_known k (variables word sort names) = variables_known k sort names
item_known k (graph word name blocks) = graph_known k word name blocks
item_known k (rounds word number) = rounds_known k word number
item_known k (split word) = split_known k word
item_known k (equal word before after) = goal_known k word before after
item_known k (matching word m) = match_known k word m

abbrev pub items_known : Known → List ItemSyntax → Result Known TextFault
items_known k [] = Ok k
items_known k (x ∷ xs) = item_known k x >>= λ l. items_known l xs

-- ---- matches

-- whether some of the equations gives the variable
abbrev pub is_given_by : List Equation → ℕ → Bool
is_given_by qs k = list_any (λ q. nat_eq q.variable k) qs

-- the equation of a variable, with its sort, after others
abbrev pub equation_for : ScopeParts → List Equation → TokenParts → ExprSyntax → ℕ × Sort → Result Equation TextFault
equation_for s before y e x =
    if is_given_by before x.0 then Err (fault.DoubleName (place_of y))
    else (expression_of s x.1 e >>= λ v. Ok (record { variable = x.0; expression = v }))

abbrev pub next_equation : ScopeParts → List Equation → EquationSyntax → Result Equation TextFault
next_equation s before (equation y e) = next_target s [] y >>= equation_for s before y e

-- the equations before, and others
abbrev pub equations_after : ScopeParts → List Equation → List EquationSyntax → Result (List Equation) TextFault
equations_after s before [] = Ok before
equations_after s before (q ∷ qs) = next_equation s before q >>= λ x. equations_after s (before ++ x ∷ []) qs

abbrev pub condition_or_always : ScopeParts → CondSyntax → Result CondTree TextFault
condition_or_always s [] = Ok always
condition_or_always s (n ∷ ns) = condition_of s (n ∷ ns)

abbrev pub rounds_given : Option TokenParts → Result (Option ℕ) TextFault
rounds_given None = Ok None
rounds_given (Some t) = few_rounds t (spelled_number t) >>= λ n. Ok (Some n)

-- whether the blocks are matched: the entries always are
abbrev pub is_matched : List FileMatch → ℕ → ℕ → Bool
is_matched ms k l = (nat_eq k 0 && nat_eq l 0) || list_any (λ m. nat_eq m.blocks.before k && nat_eq m.blocks.after l) ms

-- the blocks may be matched: they are not yet, and with them and the entries there are few matches
abbrev pub may_match : List FileMatch → ℕ → ℕ → TokenParts → Result (Unit {0}) TextFault
may_match before k l t =
    if is_matched before k l then Err (fault.DoubleName (place_of t))
    else if nat_lt (length before + 1) MAX_MATCHES then Ok tt
    else Err (fault.TooMany (place_of t))

-- the blocks that the names of a match denote
abbrev pub blocks_matched : List FileMatch → TokenParts → TokenParts → Option ℕ → Option ℕ → Result (ℕ × ℕ) TextFault
blocks_matched ms t u i j =
    block_or_fault t i >>= λ k. block_or_fault u j >>= λ l. may_match ms k l t >>= λ v. Ok (k, l)

abbrev pub file_match : ℕ × ℕ → List Equation → List Equation → List Equation → CondTree → Option ℕ → Bool → ℕ → List MatchName → FileMatch
file_match blocks forth back keeping condition n splits at names =
    record {
      blocks = record { before = blocks.0; after = blocks.1; forth = forth; back = back; keeping = keeping; condition = condition };
      rounds = n;
      splits = splits;
      at = at;
      names = names;
    }

-- what relates the states at matched blocks, what is said of their question, and the variables that are named there
abbrev pub resolved_match : ScopeParts → ℕ × ℕ → ℕ → BlockMatchSyntax → Result FileMatch TextFault
resolved_match s blocks at m =
    equations_after s [] m.forth >>= λ f. equations_after s [] m.back >>= λ g. equations_after s [] m.keeping
    >>= λ q. condition_or_always s m.condition >>= λ c. rounds_given m.rounds >>= λ n. Ok (file_match blocks f g q c n m.splits at (names_of_match s m))

-- the matches before, and one of blocks of the same name
abbrev pub with_name : List FileMatch → TokenParts → ℕ → Option ℕ → Result (List FileMatch) TextFault
with_name before word k None = Ok before
with_name before word k (Some l) =
    if nat_eq k 0 && nat_eq l 0 then Ok before
    else (may_match before k l word >>= λ u. Ok (before ++ file_match (k, l) [] [] [] always None false (place_of word) [] ∷ []))

-- likewise for each of some names of blocks of the first graph, where `find` gives the number of a block of the second
abbrev pub with_names : (List ℕ → Option ℕ) → TokenParts → List FileMatch → List (List ℕ × ℕ) → Result (List FileMatch) TextFault
with_names find word before [] = Ok before
with_names find word before (x ∷ xs) = with_name before word x.1 (find x.0) >>= λ ms. with_names find word ms xs

-- the matches before, and one of two blocks; `first` and `second` give the numbers of blocks of both graphs
abbrev pub with_blocks : ScopeParts → (List ℕ → Option ℕ) → (List ℕ → Option ℕ) → List FileMatch → TokenParts → BlockMatchSyntax → Result (List FileMatch) TextFault
with_blocks s first second before word m =
    blocks_matched before m.before m.after (first (bytes_of m.before)) (second (bytes_of m.after))
    >>= λ blocks. resolved_match s blocks (place_of word) m >>= λ x. Ok (before ++ x ∷ [])

-- the matches before, and those of an item; `names` are those of the blocks of the first graph
abbrev pub next_matches : ScopeParts → List (List ℕ × ℕ) → (List ℕ → Option ℕ) → (List ℕ → Option ℕ) → List FileMatch → GivenMatch → Result (List FileMatch) TextFault
next_matches s names first second before (given_match n word same_names) = with_names second word before names
next_matches s names first second before (given_match n word (two_blocks m)) = with_blocks (scope_before s n) first second before word m

abbrev pub matches_after : ScopeParts → List (List ℕ × ℕ) → (List ℕ → Option ℕ) → (List ℕ → Option ℕ) → List FileMatch → List GivenMatch → Result (List FileMatch) TextFault
matches_after s names first second before [] = Ok before
matches_after s names first second before (x ∷ xs) =
    next_matches s names first second before x >>= λ ms. matches_after s names first second ms xs

abbrev pub blocks_or_none : Option GraphSyntax → List BlockSyntax
blocks_or_none None = []
blocks_or_none (Some (a_graph before bs)) = bs

-- the matches between the blocks of two graphs
abbrev pub matches_between : ScopeParts → List BlockSyntax → List BlockSyntax → List GivenMatch → Result (List FileMatch) TextFault
matches_between s bs cs ms =
    matches_after s (block_names 0 bs) (found (block_names 0 bs)) (found (block_names 0 cs)) [] ms

-- the matches of a file
abbrev pub matches_of : Known → ℕ × ℕ → Result (List FileMatch) TextFault
matches_of k goal = matches_between k.scope (blocks_or_none (slice_get k.graphs goal.0)) (blocks_or_none (slice_get k.graphs goal.1)) k.matches

-- ---- the sorts of results

abbrev pub first_sort : Option Sort → Option Sort → Option Sort
first_sort None y = y
first_sort (Some s) y = Some s

-- the first name of the first expression, if there is one
abbrev pub next_first : List ExprSyntax → FirstSyntax
next_first [] = no_name
next_first (e ∷ es) = first_name e

abbrev pub other_exprs : List ExprSyntax → List ExprSyntax
other_exprs [] = []
other_exprs (e ∷ es) = es

-- for each place the sort that was known, or that of the first name of the expression there
abbrev pub first_sorts : ScopeParts → List (Option Sort) → List ExprSyntax → List (Option Sort)
first_sorts s [] es = []
first_sorts s (x ∷ xs) es = first_sort x (sort_of_first s (next_first es)) ∷ first_sorts s xs (other_exprs es)

-- the sorts of the first names of expressions
abbrev pub named_sorts : ScopeParts → List ExprSyntax → List (Option Sort)
named_sorts s es = map (λ e. sort_of_first s (first_name e)) es

-- The sorts of the results of some `return`s in text order, as far as they are known: as many as the first `return` has,
-- each that of the first expression in its place whose first name or conversion has a sort; `None` for no `return`.
abbrev pub ResultSorts : Type 0
ResultSorts = Option (List (Option Sort))

abbrev pub with_return : ScopeParts → ResultSorts → List ExprSyntax → ResultSorts
with_return s None es = Some (named_sorts s es)
with_return s (Some xs) es = Some (first_sorts s xs es)

abbrev pub with_jump : ScopeParts → ResultSorts → JumpSyntax → ResultSorts
with_jump s xs (goto t) = xs
with_jump s xs (branch b t u) = xs
with_jump s xs (return word es) = with_return s xs es
with_jump s xs abort = xs

abbrev pub with_results : ScopeParts → ResultSorts → BlockSyntax → ResultSorts
with_results s xs (a_block is_cut name statements jump) = with_jump s xs jump

abbrev pub with_all_results : ScopeParts → ResultSorts → List BlockSyntax → ResultSorts
with_all_results s xs [] = xs
with_all_results s xs (b ∷ bs) = with_all_results s (with_results s xs b) bs

abbrev pub with_graph_results : ScopeParts → ResultSorts → GraphSyntax → ResultSorts
with_graph_results s xs (a_graph before bs) = with_all_results (scope_before s before) xs bs

abbrev pub sorts_or_u64 : List (Option Sort) → List Sort
sorts_or_u64 xs = map sort_or_u64 xs

abbrev pub known_sorts : ResultSorts → List Sort
known_sorts None = []
known_sorts (Some xs) = sorts_or_u64 xs

-- whether the goal names graph `i`
abbrev pub is_named : ℕ × ℕ → ℕ → Bool
is_named goal i = nat_eq i goal.0 || nat_eq i goal.1

-- the sorts of results with those of graph `i`, if the goal names it
abbrev pub with_named : ScopeParts → ℕ × ℕ → ResultSorts → ℕ → GraphSyntax → ResultSorts
with_named s goal xs i g = if is_named goal i then with_graph_results s xs g else xs

-- the sorts of the results of both graphs that the goal names, from graph `i` on
abbrev pub shared_results : ScopeParts → ℕ × ℕ → ResultSorts → ℕ → List GraphSyntax → ResultSorts
shared_results s goal xs i [] = xs
shared_results s goal xs i (g ∷ gs) = shared_results s goal (with_named s goal xs i g) (i + 1) gs

abbrev pub shared_sorts : ScopeParts → ℕ × ℕ → List GraphSyntax → List Sort
shared_sorts s goal gs = known_sorts (shared_results s goal None 0 gs)

-- those that the goal names return the same sorts, and each other graph those of its own
abbrev pub sorts_returned : ScopeParts → ℕ × ℕ → List Sort → ℕ → GraphSyntax → List Sort
sorts_returned s goal shared i g = if is_named goal i then shared else known_sorts (with_graph_results s None g)

abbrev pub whole_graph : ScopeParts → List Sort → GraphSyntax → Result Graph TextFault
whole_graph s results (a_graph before bs) = graph_of (scope_before s before) (Some results) bs

-- graph `i` with its results
abbrev pub next_graph : ScopeParts → ℕ × ℕ → List Sort → ℕ → GraphSyntax → Result Graph TextFault
next_graph s goal shared i g = whole_graph s (sorts_returned s goal shared i g) g

-- the graphs before, and others with their results
abbrev pub graphs_after : ScopeParts → ℕ × ℕ → List Sort → List Graph → List GraphSyntax → Result (List Graph) TextFault
graphs_after s goal shared before [] = Ok before
graphs_after s goal shared before (g ∷ gs) = next_graph s goal shared (length before) g >>= λ x. graphs_after s goal shared (before ++ x ∷ []) gs

-- a flow file: the sorts of its variables, its graphs, which of them the goal compares, the matches beside that of the
-- entries, and the names of its variables and of its functions
pub record FlowFileParts : Type 0 where
  pub sorts : List Sort
  pub graphs : List Graph
  pub before : ℕ
  pub after : ℕ
  pub matches : List FileMatch
  pub rounds : ℕ
  pub splits : Bool
  pub variable_names : List (List ℕ)
  pub function_names : List (List ℕ)

abbrev pub rounds_or_one : Option ℕ → ℕ
rounds_or_one None = 1
rounds_or_one (Some n) = n

-- the file of what is known of all items, with the names that they declare
abbrev pub with_goal : List (List ℕ) → List (List ℕ) → Known → Option (ℕ × ℕ) → Result FlowFileParts TextFault
with_goal vs fs k None = Err fault.NoGoal
with_goal vs fs k (Some goal) =
    matches_of k goal >>= λ ms. graphs_after k.scope goal (shared_sorts k.scope goal k.graphs) [] k.graphs
    >>= λ gs. Ok (record { sorts = k.scope.variables; graphs = gs; before = goal.0; after = goal.1; matches = ms; rounds = rounds_or_one k.rounds; splits = k.splits; variable_names = vs; function_names = fs })

-- the file of some items, or its first fault
abbrev pub file_of : List ItemSyntax → Result FlowFileParts TextFault
file_of items = items_known nothing_known items >>= λ k. with_goal (variable_names items) (function_names items) k k.goal

abbrev pub graph_or_none : Option Graph → Graph
graph_or_none None = []
graph_or_none (Some g) = g

-- the two graphs that the goal names
abbrev pub pair_of : FlowFileParts → model.Pair
pair_of f = record { sorts = f.sorts; before = graph_or_none (slice_get f.graphs f.before); after = graph_or_none (slice_get f.graphs f.after) }
