-- Flow files of whole items are sorted, and each of their graphs has a block; the blocks of their matches exist.
use Rattle.std.proofs.Common.{◌≡◌, ◌<◌, ◌≤◌, ℕ, zero, suc, ◌+◌, List, [], ◌∷◌, ◌++◌, length, length-append, map, Bool, true, false, cond, if◌then◌else◌, Option, Some, None, Result, Ok, slice_get, refl, sym, ◌∙◌, ap, subst, arith}
use Rattle.std.specs.Ordering.{nat_cmp}
use Rattle.std.specs.Cmp.Lexicographic.{slice_cmp}
use Rattle.std.specs.FinMap.{FinMap, empty, get, insert, get-empty}
use Rattle.std.specs.Str.{bytes_eq}
use Rattle.std.proofs.lemmas.List.{append_assoc, append-nil, length-map, map-append}
use Rattle.text_parser.specs.declared.fault.TextFault.{TextFault}
use Rattle.text_parser.specs.declared.fault.TextFault.TheVariants as fault
use Rattle.text_parser.specs.TokenParts.{TokenParts, place_of, bytes_of}
use Rattle.text_parser.specs.Parsed.{◌>>=◌}
use Rattle.flow_model.specs.declared.sort.Sort.{Sort}
use Rattle.flow_model.specs.Graphs.{Graph}
use Rattle.flow_ways.specs.Sorted.{IsSortedGraph}
use Rattle.flow_problem.specs.PlacedProblems.{IsFlowPair}
use Rattle.flow_syntax.specs.Syntax.{BlockSyntax, MatchSyntax, ItemSyntax, sorts, function, variables, graph, rounds, split, equal, matching}
use Rattle.flow_syntax.specs.Sizes.{nodes_with, nodes_with_match}
use Rattle.flow_syntax.specs.Terminals.{spelled_number}
use Rattle.flow_syntax.proofs.WholeSyntax.{AreWholeBlocks, IsWholeMatch, IsWholeItem, AreWholeItems}
use Rattle.flow_syntax.proofs.SpelledWhole.{spelled_whole}
use Rattle.flow_text.specs.declared.meaning.Meaning.{Meaning}
use Rattle.flow_text.specs.declared.meaning.Meaning.TheVariants.{SortName, Function, Variable, GraphName}
use Rattle.flow_text.specs.DeclaredNames.{variable_names, function_names}
use Rattle.flow_text.specs.Scopes.{ScopeParts, counts, meaning, may_declare, with_sort, may_have_function, with_function, with_variable, may_have_graph, counts_of, scope_before, sorts_declared, variables_declared, sort_named, parameters_after}
use Rattle.flow_text.specs.Matches.{FileMatch}
use Rattle.flow_text.specs.Checking.{FlowFileParts, GraphSyntax, a_graph, given_match, Known, nothing_known, in_scope, graph_meant, at_most_once, with_nodes, with_match, few_rounds, function_known, variables_known, graph_known, rounds_known, split_known, goal_known, item_known, items_known, blocks_or_none, matches_of, shared_sorts, sorts_returned, whole_graph, next_graph, graphs_after, with_goal, file_of, graph_of, graph_or_none, pair_of}
use Rattle.flow_text.specs.Texts.{IsFlowText}
use Rattle.flow_text.proofs.NameTables.{get-insert_name}
use Rattle.flow_laws.proofs.Holding.{Holds, any_holds, then_holds, weakened, value_holds}
use Rattle.flow_laws.proofs.SortedGraphs.{GraphOf, taken_declared, graph_good}
use Rattle.flow_laws.proofs.SortedMatches.{AreMatches, AreWholeGiven, given_more, matches_good}

-- ---- graphs

abbrev IsWhole : GraphSyntax → Type 0
IsWhole (a_graph before bs) = (0 < length bs) × AreWholeBlocks bs

abbrev AreWhole : List GraphSyntax → Type 0
AreWhole [] = Unit {0}
AreWhole (g ∷ gs) = IsWhole g × AreWhole gs

whole_more : (gs : List GraphSyntax) (g : GraphSyntax) → AreWhole gs → IsWhole g → AreWhole (gs ++ g ∷ [])
whole_more [] g h k = (k, tt)
whole_more (x ∷ xs) g h k = (h.0, whole_more xs g h.1 k)

abbrev pub IsGood : List Sort → Graph → Type 0
IsGood vars g = (0 < length g) × IsSortedGraph vars g

abbrev pub AreGood : List Sort → List Graph → Type 0
AreGood vars [] = Unit {0}
AreGood vars (g ∷ gs) = IsGood vars g × AreGood vars gs

good_more : (vars : List Sort) (gs : List Graph) (g : Graph) → AreGood vars gs → IsGood vars g → AreGood vars (gs ++ g ∷ [])
good_more vars [] g h k = (k, tt)
good_more vars (x ∷ xs) g h k = (h.0, good_more vars xs g h.1 k)

good_at : (vars : List Sort) (gs : List Graph) (i : ℕ) → AreGood vars gs → i < length gs → IsGood vars (graph_or_none (slice_get gs i))
good_at vars [] i h lt = absurd (omega (arith, lt))
good_at vars (g ∷ gs) zero h lt = h.0
good_at vars (g ∷ gs) (suc i) h lt = good_at vars gs i h.1 (omega (arith, lt))

-- the numbers of blocks of graphs
abbrev sizes : List Graph → List ℕ
sizes gs = map (λ (g : Graph). length g) gs

abbrev written_size : GraphSyntax → ℕ
written_size (a_graph before bs) = length bs

-- good graphs with these numbers of blocks
abbrev GraphsOf : List Sort → List ℕ → List Graph → Type 0
GraphsOf vars ns gs = AreGood vars gs × (sizes gs ≡ ns)

-- likewise one graph
abbrev IsGraphOf : List Sort → ℕ → Graph → Type 0
IsGraphOf vars n g = IsGood vars g × (length g ≡ n)

size_at : (gs : List Graph) (written : List GraphSyntax) (i : ℕ) → sizes gs ≡ map written_size written → length (graph_or_none (slice_get gs i)) ≡ length (blocks_or_none (slice_get written i))
size_at [] [] i e = refl
size_at [] (w ∷ ws) i e = absurd cc
size_at (g ∷ gs) [] i e = absurd cc
size_at (g ∷ gs) (a_graph before bs ∷ ws) zero e = cc
size_at (g ∷ gs) (w ∷ ws) (suc i) e = let more : sizes gs ≡ map written_size ws = cc in size_at gs ws i more

whole_good : (s : ScopeParts) (results : List Sort) (g : GraphSyntax) → IsWhole g → Holds (IsGraphOf s.variables (written_size g)) (whole_graph s results g)
whole_good s results (a_graph (counts i m n j) bs) h =
    let t = scope_before s (counts i m n j) in
    weakened (GraphOf s.variables (length bs)) (IsGraphOf s.variables (length bs)) (graph_of t (Some results) bs) (graph_good t s.variables (taken_declared n s.variables) (Some results) bs h.1)
    (λ g a. (let some = h.0 in let same = a.1 in (omega (arith, some, same), a.0), a.1))

graphs_good : (s : ScopeParts) (goal : ℕ × ℕ) (shared : List Sort) (ns : List ℕ) (gs : List GraphSyntax) (before : List Graph) → sizes before ++ map written_size gs ≡ ns → AreWhole gs → AreGood s.variables before → Holds (GraphsOf s.variables ns) (graphs_after s goal shared before gs)
graphs_good s goal shared ns [] before e h k = (k, sym (append-nil (sizes before)) ∙ e)
graphs_good s goal shared ns (g ∷ gs) before e h k =
    then_holds (IsGraphOf s.variables (written_size g)) (GraphsOf s.variables ns) (next_graph s goal shared (length before) g) (λ x. graphs_after s goal shared (before ++ x ∷ []) gs)
    (whole_good s (sorts_returned s goal shared (length before) g) g h.0)
    (λ x a.
    let more : sizes (before ++ x ∷ []) ++ map written_size gs ≡ ns =
    ap (λ (l : List ℕ). l ++ map written_size gs) (map-append (λ (b : Graph). length b) before (x ∷ [])) ∙ append_assoc (sizes before) (length x ∷ []) (map written_size gs)
    ∙ ap (λ (n : ℕ). sizes before ++ n ∷ map written_size gs) a.1 ∙ e in
    graphs_good s goal shared ns gs (before ++ x ∷ []) more h.1 (good_more s.variables before x k a.0))

-- ---- names of graphs mean graphs that there are

abbrev IsBelow : ℕ → Meaning → Type 0
IsBelow n (SortName k) = Unit {0}
IsBelow n (Function k) = Unit {0}
IsBelow n (Variable k) = Unit {0}
IsBelow n (GraphName k) = k < n

abbrev AreBelow : ℕ → FinMap (slice_cmp nat_cmp) Meaning → Type 0
AreBelow n names = (name : List ℕ) (m : Meaning) → get names name ≡ Some m → IsBelow n m

below_more : (n k : ℕ) (m : Meaning) → n ≤ k → IsBelow n m → IsBelow k m
below_more n k (SortName i) h b = tt
below_more n k (Function i) h b = tt
below_more n k (Variable i) h b = tt
below_more n k (GraphName i) h b = omega (arith, h, b)

same_meaning : (v m : Meaning) → Some v ≡ Some m → v ≡ m
same_meaning v m e = cc

if_below : (n : ℕ) (b : Bool) (v m : Meaning) (o : Option Meaning) → IsBelow n v → (o ≡ Some m → IsBelow n m) → cond b (Some v) o ≡ Some m → IsBelow n m
if_below n true v m o h k e = subst (IsBelow n) (same_meaning v m e) h
if_below n false v m o h k e = k e

names_more : (n : ℕ) (names : FinMap (slice_cmp nat_cmp) Meaning) (name : List ℕ) (v : Meaning) → AreBelow n names → IsBelow n v → AreBelow n (insert names name v)
names_more n names name v h b q m e = if_below n (bytes_eq name q) v m (get names q) b (h q m) (sym (get-insert_name names name v q) ∙ e)

abbrev NamesBelow : ℕ → ScopeParts → Type 0
NamesBelow n s = AreBelow n s.meanings

sort_below : (n : ℕ) (s : ScopeParts) (t : TokenParts) → NamesBelow n s → Holds (NamesBelow n) (with_sort s t)
sort_below n s t h = then_holds (λ u. Unit {0}) (NamesBelow n) (may_declare (meaning s t) s.sorts _ t) _ (any_holds (may_declare (meaning s t) s.sorts _ t)) (λ u v. names_more n s.meanings (bytes_of t) (SortName s.sorts) h tt)

sorts_below : (n : ℕ) (s : ScopeParts) (ts : List TokenParts) → NamesBelow n s → Holds (NamesBelow n) (sorts_declared s ts)
sorts_below n s [] h = h
sorts_below n s (t ∷ ts) h = then_holds (NamesBelow n) (NamesBelow n) (with_sort s t) (λ u. sorts_declared u ts) (sort_below n s t h) (λ u k. sorts_below n u ts k)

variable_below : (n : ℕ) (s : ScopeParts) (sort : Sort) (t : TokenParts) → NamesBelow n s → Holds (NamesBelow n) (with_variable s sort t)
variable_below n s sort t h =
    then_holds (λ u. Unit {0}) (NamesBelow n) (may_declare (meaning s t) (length s.variables) _ t) _ (any_holds (may_declare (meaning s t) (length s.variables) _ t)) (λ u v. names_more n s.meanings (bytes_of t) (Variable (length s.variables)) h tt)

variables_below : (n : ℕ) (s : ScopeParts) (sort : Sort) (ts : List TokenParts) → NamesBelow n s → Holds (NamesBelow n) (variables_declared s sort ts)
variables_below n s sort [] h = h
variables_below n s sort (t ∷ ts) h =
    then_holds (NamesBelow n) (NamesBelow n) (with_variable s sort t) (λ u. variables_declared u sort ts) (variable_below n s sort t h) (λ u k. variables_below n u sort ts k)

-- ---- what is known of the items so far

abbrev IsGoal : ℕ → Option (ℕ × ℕ) → Type 0
IsGoal n None = Unit {0}
IsGoal n (Some goal) = (goal.0 < n) × (goal.1 < n)

goal_more : (n k : ℕ) (goal : Option (ℕ × ℕ)) → n ≤ k → IsGoal n goal → IsGoal k goal
goal_more n k None h g = tt
goal_more n k (Some goal) h g = let i = g.0 in let j = g.1 in (omega (arith, h, i), omega (arith, h, j))

-- graphs and matches are whole, and names and the goal mean some of the graphs
abbrev IsKnown : Known → Type 0
IsKnown k = AreWhole k.graphs × NamesBelow (length k.graphs) k.scope × IsGoal (length k.graphs) k.goal × AreWholeGiven k.matches

scope_known : (k : Known) (m : Result ScopeParts TextFault) → IsKnown k → Holds (NamesBelow (length k.graphs)) m → Holds IsKnown (m >>= λ s. Ok (in_scope k s))
scope_known k m h g = then_holds (NamesBelow (length k.graphs)) IsKnown m (λ s. Ok (in_scope k s)) g (λ s n. (h.0, n, h.2, h.3))

function_kept : (k : Known) (result name : TokenParts) (parameters : List TokenParts) → IsKnown k → Holds IsKnown (function_known k result name parameters)
function_kept k result name parameters h =
    then_holds (λ r. Unit {0}) IsKnown (sort_named k.scope result) _ (any_holds (sort_named k.scope result)) (λ r u.
    then_holds (λ x. Unit {0}) IsKnown (may_have_function k.scope name) _ (any_holds (may_have_function k.scope name)) (λ x v.
    then_holds (λ ps. Unit {0}) IsKnown (parameters_after k.scope [] parameters) (λ ps. Ok (in_scope k (with_function k.scope name r ps))) (any_holds (parameters_after k.scope [] parameters)) (λ ps w.
    (h.0, names_more (length k.graphs) k.scope.meanings (bytes_of name) (Function (length k.scope.functions)) h.1 tt, h.2, h.3))))

variables_kept : (k : Known) (sort : TokenParts) (names : List TokenParts) → IsKnown k → Holds IsKnown (variables_known k sort names)
variables_kept k sort names h =
    then_holds (λ x. Unit {0}) IsKnown (sort_named k.scope sort) _ (any_holds (sort_named k.scope sort)) (λ x u.
    scope_known k (variables_declared k.scope x names) h (variables_below (length k.graphs) k.scope x names h.1))

nodes_kept : (k : Known) (word t : TokenParts) (bs : List BlockSyntax) (n : Option ℕ) → (0 < length bs) × AreWholeBlocks bs → IsKnown k → Holds IsKnown (with_nodes k word t bs n)
nodes_kept k word t bs None w h = tt
nodes_kept k word t bs (Some n) w h =
    let g = a_graph (counts_of k.scope) bs in
    let more : length (k.graphs ++ g ∷ []) ≡ length k.graphs + 1 = length-append k.graphs (g ∷ []) in (
      whole_more k.graphs g h.0 w,
      names_more (length (k.graphs ++ g ∷ [])) k.scope.meanings (bytes_of t) (GraphName (length k.graphs))
          (λ q m e. below_more (length k.graphs) (length (k.graphs ++ g ∷ [])) m (omega (arith, more)) (h.1 q m e)) (omega (arith, more)),
      goal_more (length k.graphs) (length (k.graphs ++ g ∷ [])) k.goal (omega (arith, more)) h.2,
      h.3,
    )

graph_kept : (k : Known) (word name : TokenParts) (bs : List BlockSyntax) → (0 < length bs) × AreWholeBlocks bs → IsKnown k → Holds IsKnown (graph_known k word name bs)
graph_kept k word name bs w h =
    then_holds (λ u. Unit {0}) IsKnown (may_have_graph k.scope name) _ (any_holds (may_have_graph k.scope name)) (λ u v.
    then_holds (λ g. Unit {0}) IsKnown (graph_of k.scope None bs) (λ g. with_nodes k word name bs (nodes_with k.nodes bs)) (any_holds (graph_of k.scope None bs)) (λ g x.
    nodes_kept k word name bs (nodes_with k.nodes bs) w h))

rounds_kept : (k : Known) (word number : TokenParts) → IsKnown k → Holds IsKnown (rounds_known k word number)
rounds_kept k word number h =
    then_holds (λ u. Unit {0}) IsKnown (at_most_once k.rounds (fault.DoubleName (place_of word))) _ (any_holds (at_most_once k.rounds (fault.DoubleName (place_of word)))) (λ u v.
    then_holds (λ n. Unit {0}) IsKnown (few_rounds number (spelled_number number)) _ (any_holds (few_rounds number (spelled_number number))) (λ n w. (h.0, h.1, h.2, h.3)))

if_not : {V : Type 0} (P : V → Type 0) (b : Bool) (x y : Result V TextFault) → Holds P x → Holds P y → Holds P (if b then x else y)
if_not P true x y h k = h
if_not P false x y h k = k

split_kept : (k : Known) (word : TokenParts) → IsKnown k → Holds IsKnown (split_known k word)
split_kept k word h =
    if_not IsKnown k.splits _ (Ok (record { scope = k.scope; graphs = k.graphs; matches = k.matches; rounds = k.rounds; splits = true; goal = k.goal; nodes = k.nodes })) tt (h.0, h.1, h.2, h.3)

meant_below : (n : ℕ) (t : TokenParts) (o : Option Meaning) → ((m : Meaning) → o ≡ Some m → IsBelow n m) → Holds (λ i. i < n) (graph_meant t o)
meant_below n t None h = tt
meant_below n t (Some (GraphName k)) h = h (GraphName k) refl
meant_below n t (Some other) h = tt

goal_kept : (k : Known) (word before after : TokenParts) → IsKnown k → Holds IsKnown (goal_known k word before after)
goal_kept k word before after h =
    then_holds (λ u. Unit {0}) IsKnown (at_most_once k.goal (fault.TwoGoals (place_of word))) _ (any_holds (at_most_once k.goal (fault.TwoGoals (place_of word)))) (λ u v.
    then_holds (λ i. i < length k.graphs) IsKnown (graph_meant before (meaning k.scope before)) _ (meant_below (length k.graphs) before (meaning k.scope before) (h.1 (bytes_of before))) (λ i a.
    then_holds (λ j. j < length k.graphs) IsKnown (graph_meant after (meaning k.scope after)) _ (meant_below (length k.graphs) after (meaning k.scope after) (h.1 (bytes_of after))) (λ j b.
    (h.0, h.1, (a, b), h.3))))

match_kept : (k : Known) (word : TokenParts) (m : MatchSyntax) (n : Option ℕ) → IsWholeMatch m → IsKnown k → Holds IsKnown (with_match k word m n)
match_kept k word m None w h = tt
match_kept k word m (Some n) w h = (h.0, h.1, h.2, given_more k.matches (given_match (counts_of k.scope) word m) h.3 w)

item_kept : (k : Known) (x : ItemSyntax) → IsWholeItem x → IsKnown k → Holds IsKnown (item_known k x)
item_kept k (sorts word names) w h = scope_known k (sorts_declared k.scope names) h (sorts_below (length k.graphs) k.scope names h.1)
item_kept k (function word result name parameters) w h = function_kept k result name parameters h
item_kept k (variables word sort names) w h = variables_kept k sort names h
item_kept k (graph word name blocks) w h = graph_kept k word name blocks w h
item_kept k (rounds word number) w h = rounds_kept k word number h
item_kept k (split word) w h = split_kept k word h
item_kept k (equal word before after) w h = goal_kept k word before after h
item_kept k (matching word m) w h = match_kept k word m (nodes_with_match k.nodes m) w h

items_kept : (k : Known) (xs : List ItemSyntax) → AreWholeItems xs → IsKnown k → Holds IsKnown (items_known k xs)
items_kept k [] w h = h
items_kept k (x ∷ xs) w h = then_holds IsKnown IsKnown (item_known k x) (λ l. items_known l xs) (item_kept k x w.0 h) (λ l a. items_kept l xs w.1 a)

no_name : (q : List ℕ) (m : Meaning) → get (empty {X = Meaning} {R = slice_cmp nat_cmp}) q ≡ Some m → ⊥
no_name q m e = let none : get (empty {X = Meaning} {R = slice_cmp nat_cmp}) q ≡ None = get-empty (slice_cmp nat_cmp) q in absurd cc

known_first : IsKnown nothing_known
known_first = (tt, λ q m e. absurd (no_name q m e), tt, tt)

-- ---- files

abbrev IsGoodFile : FlowFileParts → Type 0
IsGoodFile f = AreGood f.sorts f.graphs × IsFlowPair (pair_of f) × AreMatches f.sorts (length (pair_of f).before) (length (pair_of f).after) f.matches

matches_fit : (vars : List Sort) (gs : List Graph) (written : List GraphSyntax) (goal : ℕ × ℕ) (ms : List FileMatch) → sizes gs ≡ map written_size written → AreMatches vars (length (blocks_or_none (slice_get written goal.0))) (length (blocks_or_none (slice_get written goal.1))) ms → AreMatches vars (length (graph_or_none (slice_get gs goal.0))) (length (graph_or_none (slice_get gs goal.1))) ms
matches_fit vars gs written goal ms e h =
    subst (λ n. AreMatches vars n (length (graph_or_none (slice_get gs goal.1))) ms) (sym (size_at gs written goal.0 e))
    (subst (λ n. AreMatches vars (length (blocks_or_none (slice_get written goal.0))) n ms) (sym (size_at gs written goal.1 e)) h)

goal_good : (vs fs : List (List ℕ)) (k : Known) (goal : Option (ℕ × ℕ)) → IsKnown k → IsGoal (length k.graphs) goal → Holds IsGoodFile (with_goal vs fs k goal)
goal_good vs fs k None h g = tt
goal_good vs fs k (Some goal) h g =
    let vars = k.scope.variables in
    let bs = blocks_or_none (slice_get k.graphs goal.0) in
    let cs = blocks_or_none (slice_get k.graphs goal.1) in
    then_holds (AreMatches vars (length bs) (length cs)) IsGoodFile (matches_of k goal) _ (matches_good k.scope bs cs k.matches h.3) (λ ms m.
    then_holds (GraphsOf vars (map written_size k.graphs)) IsGoodFile (graphs_after k.scope goal (shared_sorts k.scope goal k.graphs) [] k.graphs) _
    (graphs_good k.scope goal (shared_sorts k.scope goal k.graphs) (map written_size k.graphs) k.graphs [] refl h.0 tt)
    (λ gs a.
    let many : length gs ≡ length k.graphs = sym (length-map gs (λ (x : Graph). length x)) ∙ ap length a.1 ∙ length-map k.graphs written_size in
    let before = good_at vars gs goal.0 a.0 (subst (λ n. goal.0 < n) (sym many) g.0) in
    let after = good_at vars gs goal.1 a.0 (subst (λ n. goal.1 < n) (sym many) g.1) in
    (a.0, record { before_blocks = before.0; after_blocks = after.0; before_sorted = before.1; after_sorted = after.1 }, matches_fit vars gs k.graphs goal ms a.1 m)))

file_good : (is : List ItemSyntax) → AreWholeItems is → Holds IsGoodFile (file_of is)
file_good is w =
    then_holds IsKnown IsGoodFile (items_known nothing_known is) (λ k. with_goal (variable_names is) (function_names is) k k.goal) (items_kept nothing_known is w known_first)
    (λ k h. goal_good (variable_names is) (function_names is) k k.goal h h.2)

text_good : (text : List ℕ) (f : FlowFileParts) → IsFlowText text f → IsGoodFile f
text_good text f h = value_holds IsGoodFile (file_of h.spelled) f (file_good h.spelled (spelled_whole h.spells.tokens (length text) h.spelled h.spells.spelled)) h.file

-- the graphs of a flow file are sorted, and each has a block
pub flow_graphs_good : (text : List ℕ) (f : FlowFileParts) → IsFlowText text f → AreGood f.sorts f.graphs
flow_graphs_good text f h = (text_good text f h).0

-- likewise both of the goal, and their matches
pub flow_pairs_sorted : (text : List ℕ) (f : FlowFileParts) → IsFlowText text f → IsFlowPair (pair_of f)
flow_pairs_sorted text f h = (text_good text f h).1

pub flow_matches_sorted : (text : List ℕ) (f : FlowFileParts) → IsFlowText text f → AreMatches f.sorts (length (pair_of f).before) (length (pair_of f).after) f.matches
flow_matches_sorted text f h = (text_good text f h).2
