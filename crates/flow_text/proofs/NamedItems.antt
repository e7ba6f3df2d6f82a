-- No item has the fault `NoMemory`.
use Rattle.std.proofs.Common.{ℕ, ◌+◌, List, [], ◌∷◌, ◌++◌, length, Bool, Option, Some, None, not, ◌&&◌, nat_eq, nat_lt, slice_get}
use Rattle.kat_model.specs.Stores.{modulus}
use Rattle.kat_model.specs.declared.expression.Rel.{Rel}
use Rattle.kat_model.specs.declared.expression.Rel.TheVariants.{Eq, Ne}
use Rattle.kat_model.specs.declared.expression.Width.{Width}
use Rattle.kat_model.specs.declared.limits.TheConstants.{MAX_ROUNDS}
use Rattle.text_parser.specs.declared.fault.TextFault.{TextFault}
use Rattle.text_parser.specs.TokenParts.{TokenParts, place_of, bytes_of}
use Rattle.text_parser.proofs.NamedFaults.{IsNamedFault, IsNamed, then_named}
use Rattle.flow_model.specs.declared.sort.Sort.{Sort}
use Rattle.flow_model.specs.declared.sort.Sort.TheVariants.{Number, Opaque}
use Rattle.flow_model.specs.declared.graph.ExprNode.{ExprNode}
use Rattle.flow_model.specs.declared.graph.ExprNode.TheVariants as node
use Rattle.flow_model.specs.Expressions.{ExprTree}
use Rattle.flow_model.specs.Polish.{CondPart}
use Rattle.flow_model.specs.Graphs.{StatementTree, Graph}
use Rattle.flow_text.specs.declared.limits.TheConstants.{MAX_BLOCKS, MAX_MATCHES, MAX_PARAMETERS}
use Rattle.flow_text.specs.declared.meaning.Meaning.{Meaning}
use Rattle.flow_text.specs.declared.meaning.Meaning.TheVariants.{SortName, Function, Variable, GraphName}
use Rattle.flow_syntax.specs.Terminals.{spelled_number}
use Rattle.flow_syntax.proofs.NamedSyntax.{if_named}
use Rattle.flow_syntax.specs.Syntax.{NodeSyntax, numeral, named, called, converted, operation, ExprSyntax, CondNodeSyntax, always, never, compared, compared_signed, negation, both, either, CondSyntax, StatementSyntax, assign, claim, JumpSyntax, goto, branch, return, abort, BlockSyntax, a_block, EquationSyntax, equation, BlockMatchSyntax, MatchSyntax, same_names, two_blocks, ItemSyntax, sorts, function, variables, graph, rounds, split, equal, matching}
use Rattle.flow_text.specs.Scopes.{FunctionParts, function_parts, ScopeParts, meaning, meaning_in, may_declare, with_sort, with_variable, sorts_declared, variables_declared, sort_meant, sort_or_width, sort_named, width_named, few_parameters, next_parameter, parameters_after, same_sort, may_have_function, may_have_graph, scope_before}
use Rattle.flow_text.specs.Resolving.{Expected, operand, second_operand, number_of_width, number_in, with_expected_sort, variable_in, application_of, function_in, conversion_in, sort_or_u64, sort_of_first, sort_of_sides, node_in, sort_expected, next_node, nodes_after, expression_of, relation_on, rel_named, width_of_sort, comparison_of, signed_comparison_of, part_of, parts_after, condition_of}
use Rattle.flow_syntax.specs.Sizes.{nodes_with, nodes_with_match}
use Rattle.flow_model.specs.Matches.{Equation}
use Rattle.flow_text.specs.Matches.{FileMatch}
use Rattle.flow_text.specs.Checking.{is_set, target_of, target_meant, next_target, targets_after, expressions_after, expressions_of, seconds, assigned, statement_of, statements_after, block_or_fault, found, block_names, block_name, returned, jump_of, may_have_block, block_of, next_block, blocks_after, graph_of, GraphSyntax, a_graph, GivenMatch, given_match, Known, nothing_known, graph_meant, at_most_once, with_nodes, with_match, few_rounds, is_given_by, equation_for, next_equation, equations_after, condition_or_always, rounds_given, is_matched, may_match, blocks_matched, resolved_match, with_name, with_names, with_blocks, next_matches, matches_after, blocks_or_none, matches_of, item_known, items_known, sorts_returned, shared_sorts, whole_graph, next_graph, graphs_after, with_goal, file_of}

-- ---- names

declare_named : (m : Option Meaning) (count limit : ℕ) (t : TokenParts) → IsNamed (may_declare m count limit t)
declare_named (Some m) count limit t = tt
declare_named None count limit t = if_named (nat_lt count limit) _ _ tt tt

sorts_declared_named : (s : ScopeParts) (ts : List TokenParts) → IsNamed (sorts_declared s ts)
sorts_declared_named s [] = tt
sorts_declared_named s (t ∷ ts) = then_named (with_sort s t) _ (then_named (may_declare (meaning s t) s.sorts _ t) _ (declare_named (meaning s t) s.sorts _ t) (λ u. tt)) (λ u. sorts_declared_named u ts)

variables_declared_named : (s : ScopeParts) (sort : Sort) (ts : List TokenParts) → IsNamed (variables_declared s sort ts)
variables_declared_named s sort [] = tt
variables_declared_named s sort (t ∷ ts) =
    then_named (with_variable s sort t) _ (then_named (may_declare (meaning s t) (length s.variables) _ t) _ (declare_named (meaning s t) (length s.variables) _ t) (λ u. tt)) (λ u. variables_declared_named u sort ts)

sort_meant_named : (t : TokenParts) (m : Option Meaning) → IsNamed (sort_meant t m)
sort_meant_named t None = tt
sort_meant_named t (Some (SortName k)) = tt
sort_meant_named t (Some other) = tt

sort_or_width_named : (s : ScopeParts) (t : TokenParts) (x : Option (Bool × Width)) → IsNamed (sort_or_width s t x)
sort_or_width_named s t None = sort_meant_named t (meaning s t)
sort_or_width_named s t (Some x) = tt

sort_named_named : (s : ScopeParts) (t : TokenParts) → IsNamed (sort_named s t)
sort_named_named s t = sort_or_width_named s t (width_named (bytes_of t))

next_parameter_named : (s : ScopeParts) (t : TokenParts) (count : ℕ) → IsNamed (next_parameter s t count)
next_parameter_named s t count = then_named (sort_named s t) (few_parameters t count) (sort_named_named s t) (λ sort. if_named (nat_lt count MAX_PARAMETERS) _ _ tt tt)

parameters_named : (s : ScopeParts) (made : List Sort) (ts : List TokenParts) → IsNamed (parameters_after s made ts)
parameters_named s made [] = tt
parameters_named s made (t ∷ ts) = then_named (next_parameter s t (length made)) _ (next_parameter_named s t (length made)) (λ x. parameters_named s (made ++ x ∷ []) ts)

-- ---- expressions

number_of_width_named : (w : Width) (t : TokenParts) (n : Option ℕ) → IsNamed (number_of_width w t n)
number_of_width_named w t None = tt
number_of_width_named w t (Some n) = if_named (nat_lt n (modulus w)) _ _ tt tt

number_named : (sort : Sort) (t : TokenParts) → IsNamed (number_in sort t)
number_named (Opaque k) t = tt
number_named (Number w) t = number_of_width_named w t (spelled_number t)

with_sort_named : (expected : Sort) (t : TokenParts) (n : ExprNode) (sort : Option Sort) → IsNamed (with_expected_sort expected t n sort)
with_sort_named expected t n None = tt
with_sort_named expected t n (Some sort) = if_named (same_sort sort expected) _ _ tt tt

variable_named : (s : ScopeParts) (expected : Sort) (t : TokenParts) (m : Option Meaning) → IsNamed (variable_in s expected t m)
variable_named s expected t None = tt
variable_named s expected t (Some (Variable k)) = with_sort_named expected t (node.Variable k) _
variable_named s expected t (Some other) = tt

application_named : (expected : Sort) (t : TokenParts) (count k : ℕ) (f : Option FunctionParts) → IsNamed (application_of expected t count k f)
application_named expected t count k None = tt
application_named expected t count k (Some (function_parts result parameters)) = if_named (same_sort result expected && nat_eq count (length parameters)) _ _ tt tt

function_named : (s : ScopeParts) (expected : Sort) (t : TokenParts) (count : ℕ) (m : Option Meaning) → IsNamed (function_in s expected t count m)
function_named s expected t count None = tt
function_named s expected t count (Some (Function k)) = application_named expected t count k _
function_named s expected t count (Some other) = tt

conversion_named : (expected : Sort) (word : TokenParts) (x : Option (Bool × Width)) (sort : Sort) → IsNamed (conversion_in expected word x sort)
conversion_named (Number v) word (Some x) (Number from) = if_named (same_sort (Number x.1) (Number v)) _ _ tt tt
conversion_named expected word x sort = tt

node_named : (s : ScopeParts) (expected : Sort) (ws : List Expected) (n : NodeSyntax) → IsNamed (node_in s expected ws n)
node_named s expected ws (numeral t) = then_named (number_in expected t) _ (number_named expected t) (λ n. tt)
node_named s expected ws (named t) = then_named (variable_in s expected t (meaning_in s t)) _ (variable_named s expected t (meaning_in s t)) (λ n. tt)
node_named s expected ws (called t count) = then_named (function_in s expected t count (meaning_in s t)) _ (function_named s expected t count (meaning_in s t)) (λ n. tt)
node_named s expected ws (converted word first) =
    let sort : Sort = sort_or_u64 (sort_of_first s first) in
    then_named (conversion_in expected word (width_named (bytes_of word)) sort) _ (conversion_named expected word (width_named (bytes_of word)) sort) (λ c. tt)
node_named s expected ws (operation o) = tt

sort_expected_named : (w : Expected) → IsNamed (sort_expected w)
sort_expected_named (operand sort) = tt
sort_expected_named (second_operand o (Opaque k)) = tt
sort_expected_named (second_operand o (Number w)) = tt

next_node_named : (s : ScopeParts) (w : Expected) (ws : List Expected) (n : NodeSyntax) → IsNamed (next_node s w ws n)
next_node_named s w ws n = then_named (sort_expected w) _ (sort_expected_named w) (λ sort. node_named s sort ws n)

nodes_named : (s : ScopeParts) (made : List ExprNode) (ws : List Expected) (e : ExprSyntax) → IsNamed (nodes_after s made ws e)
nodes_named s made ws [] = tt
nodes_named s made [] (n ∷ ns) = tt
nodes_named s made (w ∷ ws) (n ∷ ns) = then_named (next_node s w ws n) _ (next_node_named s w ws n) (λ x. nodes_named s (made ++ x.0 ∷ []) x.1 ns)

expression_named : (s : ScopeParts) (sort : Sort) (e : ExprSyntax) → IsNamed (expression_of s sort e)
expression_named s sort e = then_named (nodes_after s [] (operand sort ∷ []) e) _ (nodes_named s [] (operand sort ∷ []) e) (λ ns. tt)

-- ---- conditions

relation_named : (sort : Sort) (t : TokenParts) (rel : Rel) → IsNamed (relation_on sort t rel)
relation_named (Number w) t rel = tt
relation_named (Opaque k) t Eq = tt
relation_named (Opaque k) t Ne = tt
relation_named (Opaque k) t rel = tt

width_named_sort : (sort : Sort) (t : TokenParts) → IsNamed (width_of_sort sort t)
width_named_sort (Number w) t = tt
width_named_sort (Opaque k) t = tt

comparison_named : (s : ScopeParts) (sort : Sort) (t : TokenParts) (e f : ExprSyntax) → IsNamed (comparison_of s sort t e f)
comparison_named s sort t e f =
    then_named (expression_of s sort e) _ (expression_named s sort e) (λ x.
    then_named (relation_on sort t (rel_named (bytes_of t))) _ (relation_named sort t (rel_named (bytes_of t))) (λ rel.
    then_named (expression_of s sort f) _ (expression_named s sort f) (λ y. tt)))

signed_named : (s : ScopeParts) (sort : Sort) (t : TokenParts) (e f : ExprSyntax) → IsNamed (signed_comparison_of s sort t e f)
signed_named s sort t e f =
    then_named (width_of_sort sort t) _ (width_named_sort sort t) (λ w.
    then_named (expression_of s (Number w) e) _ (expression_named s (Number w) e) (λ x.
    then_named (expression_of s (Number w) f) _ (expression_named s (Number w) f) (λ y. tt)))

part_named : (s : ScopeParts) (n : CondNodeSyntax) → IsNamed (part_of s n)
part_named s always = tt
part_named s never = tt
part_named s (compared t e f) = comparison_named s (sort_of_sides s e f) t e f
part_named s (compared_signed t e f) = signed_named s (sort_of_sides s e f) t e f
part_named s negation = tt
part_named s both = tt
part_named s either = tt

parts_named : (s : ScopeParts) (made : List CondPart) (b : CondSyntax) → IsNamed (parts_after s made b)
parts_named s made [] = tt
parts_named s made (n ∷ ns) = then_named (part_of s n) _ (part_named s n) (λ x. parts_named s (made ++ x ∷ []) ns)

condition_named : (s : ScopeParts) (b : CondSyntax) → IsNamed (condition_of s b)
condition_named s b = then_named (parts_after s [] b) _ (parts_named s [] b) (λ ps. tt)

-- ---- statements

target_of_named : (made : List (ℕ × Sort)) (t : TokenParts) (k : ℕ) (sort : Option Sort) → IsNamed (target_of made t k sort)
target_of_named made t k None = tt
target_of_named made t k (Some sort) = if_named (is_set made k) _ _ tt tt

target_meant_named : (s : ScopeParts) (made : List (ℕ × Sort)) (t : TokenParts) (m : Option Meaning) → IsNamed (target_meant s made t m)
target_meant_named s made t None = tt
target_meant_named s made t (Some (Variable k)) = target_of_named made t k _
target_meant_named s made t (Some other) = tt

targets_named : (s : ScopeParts) (made : List (ℕ × Sort)) (ts : List TokenParts) → IsNamed (targets_after s made ts)
targets_named s made [] = tt
targets_named s made (t ∷ ts) = then_named (next_target s made t) _ (target_meant_named s made t (meaning_in s t)) (λ x. targets_named s (made ++ x ∷ []) ts)

expressions_named : (s : ScopeParts) (made : List ExprTree) (expected : List Sort) (es : List ExprSyntax) → IsNamed (expressions_after s made expected es)
expressions_named s made [] es = tt
expressions_named s made (sort ∷ expected) [] = tt
expressions_named s made (sort ∷ expected) (e ∷ es) = then_named (expression_of s sort e) _ (expression_named s sort e) (λ x. expressions_named s (made ++ x ∷ []) expected es)

assigned_named : (s : ScopeParts) (targets : List TokenParts) (becomes : TokenParts) (es : List ExprSyntax) → IsNamed (assigned s targets becomes es)
assigned_named s targets becomes es =
    then_named (targets_after s [] targets) _ (targets_named s [] targets) (λ xs.
    if_named (nat_eq (length targets) (length es)) _ _ (then_named (expressions_of s (seconds xs) es) _ (expressions_named s [] (seconds xs) es) (λ vs. tt)) tt)

statement_named : (s : ScopeParts) (x : StatementSyntax) → IsNamed (statement_of s x)
statement_named s (assign targets becomes es) = assigned_named s targets becomes es
statement_named s (claim b) = then_named (condition_of s b) _ (condition_named s b) (λ x. tt)

statements_named : (s : ScopeParts) (made : List StatementTree) (xs : List StatementSyntax) → IsNamed (statements_after s made xs)
statements_named s made [] = tt
statements_named s made (x ∷ xs) = then_named (statement_of s x) _ (statement_named s x) (λ y. statements_named s (made ++ y ∷ []) xs)

-- ---- blocks

block_or_fault_named : (t : TokenParts) (k : Option ℕ) → IsNamed (block_or_fault t k)
block_or_fault_named t None = tt
block_or_fault_named t (Some k) = tt

module _ (s : ScopeParts) (results : Option (List Sort)) (find : List ℕ → Option ℕ) where
  returned_named : (expected : Option (List Sort)) (word : TokenParts) (es : List ExprSyntax) → IsNamed (returned s expected word es)
  returned_named None word es = tt
  returned_named (Some expected) word es = if_named (nat_eq (length expected) (length es)) _ _ (then_named (expressions_of s expected es) _ (expressions_named s [] expected es) (λ vs. tt)) tt

  jump_named : (j : JumpSyntax) → IsNamed (jump_of s results find j)
  jump_named (goto t) = then_named (block_or_fault t (find (bytes_of t))) _ (block_or_fault_named t (find (bytes_of t))) (λ k. tt)
  jump_named (branch b t u) =
      then_named (condition_of s b) _ (condition_named s b) (λ x.
      then_named (block_or_fault t (find (bytes_of t))) _ (block_or_fault_named t (find (bytes_of t))) (λ k.
      then_named (block_or_fault u (find (bytes_of u))) _ (block_or_fault_named u (find (bytes_of u))) (λ l. tt)))
  jump_named (return word es) = returned_named results word es
  jump_named abort = tt

  may_have_named : (k : ℕ) (t : TokenParts) (j : Option ℕ) → IsNamed (may_have_block k t j)
  may_have_named k t None = tt
  may_have_named k t (Some j) = if_named (not (nat_eq j k)) _ _ tt (if_named (nat_lt k MAX_BLOCKS) _ _ tt tt)

  block_named : (b : BlockSyntax) → IsNamed (block_of s results find b)
  block_named (a_block is_cut name statements jump) =
      then_named (statements_after s [] statements) _ (statements_named s [] statements) (λ xs. then_named (jump_of s results find jump) _ (jump_named jump) (λ j. tt))

  blocks_named : (made : Graph) (bs : List BlockSyntax) → IsNamed (blocks_after s results find made bs)
  blocks_named made [] = tt
  blocks_named made (b ∷ bs) =
      then_named (next_block s results find (length made) b) _
      (then_named (may_have_block (length made) (block_name b) (find (bytes_of (block_name b)))) _ (may_have_named (length made) (block_name b) (find (bytes_of (block_name b)))) (λ u. block_named b))
      (λ x. blocks_named (made ++ x ∷ []) bs)

graph_named : (s : ScopeParts) (results : Option (List Sort)) (bs : List BlockSyntax) → IsNamed (graph_of s results bs)
graph_named s results bs = blocks_named s results (found (block_names 0 bs)) [] bs

-- ---- items

graph_meant_named : (t : TokenParts) (m : Option Meaning) → IsNamed (graph_meant t m)
graph_meant_named t None = tt
graph_meant_named t (Some (GraphName k)) = tt
graph_meant_named t (Some other) = tt

once_named : {X : Type 0} (x : Option X) (e : TextFault) → IsNamedFault e → IsNamed (at_most_once x e)
once_named None e h = tt
once_named (Some x) e h = h

nodes_with_named : (k : Known) (word t : TokenParts) (bs : List BlockSyntax) (n : Option ℕ) → IsNamed (with_nodes k word t bs n)
nodes_with_named k word t bs None = tt
nodes_with_named k word t bs (Some n) = tt

few_rounds_named : (t : TokenParts) (n : Option ℕ) → IsNamed (few_rounds t n)
few_rounds_named t None = tt
few_rounds_named t (Some n) = if_named (nat_lt n (MAX_ROUNDS + 1)) _ _ tt tt

match_nodes_named : (k : Known) (word : TokenParts) (m : MatchSyntax) (n : Option ℕ) → IsNamed (with_match k word m n)
match_nodes_named k word m None = tt
match_nodes_named k word m (Some n) = tt

item_named : (k : Known) (x : ItemSyntax) → IsNamed (item_known k x)
item_named k (sorts word names) = then_named (sorts_declared k.scope names) _ (sorts_declared_named k.scope names) (λ s. tt)
item_named k (function word result name parameters) =
    then_named (sort_named k.scope result) _ (sort_named_named k.scope result) (λ r.
    then_named (may_have_function k.scope name) _ (declare_named (meaning k.scope name) _ _ name) (λ u.
    then_named (parameters_after k.scope [] parameters) _ (parameters_named k.scope [] parameters) (λ ps. tt)))
item_named k (variables word sort names) =
    then_named (sort_named k.scope sort) _ (sort_named_named k.scope sort) (λ x. then_named (variables_declared k.scope x names) _ (variables_declared_named k.scope x names) (λ s. tt))
item_named k (graph word name blocks) =
    then_named (may_have_graph k.scope name) _ (declare_named (meaning k.scope name) 0 1 name) (λ u.
    then_named (graph_of k.scope None blocks) _ (graph_named k.scope None blocks) (λ g. nodes_with_named k word name blocks (nodes_with k.nodes blocks)))
item_named k (rounds word number) =
    then_named (at_most_once k.rounds _) _ (once_named k.rounds _ tt) (λ u. then_named (few_rounds number (spelled_number number)) _ (few_rounds_named number (spelled_number number)) (λ n. tt))
item_named k (split word) = if_named k.splits _ _ tt tt
item_named k (equal word before after) =
    then_named (at_most_once k.goal _) _ (once_named k.goal _ tt) (λ u.
    then_named (graph_meant before (meaning k.scope before)) _ (graph_meant_named before (meaning k.scope before)) (λ i.
    then_named (graph_meant after (meaning k.scope after)) _ (graph_meant_named after (meaning k.scope after)) (λ j. tt)))
item_named k (matching word m) = match_nodes_named k word m (nodes_with_match k.nodes m)

items_named : (k : Known) (xs : List ItemSyntax) → IsNamed (items_known k xs)
items_named k [] = tt
items_named k (x ∷ xs) = then_named (item_known k x) _ (item_named k x) (λ l. items_named l xs)

-- ---- matches

equation_for_named : (s : ScopeParts) (made : List Equation) (y : TokenParts) (e : ExprSyntax) (x : ℕ × Sort) → IsNamed (equation_for s made y e x)
equation_for_named s made y e x = if_named (is_given_by made x.0) _ _ tt (then_named (expression_of s x.1 e) _ (expression_named s x.1 e) (λ v. tt))

equations_named : (s : ScopeParts) (made : List Equation) (qs : List EquationSyntax) → IsNamed (equations_after s made qs)
equations_named s made [] = tt
equations_named s made (equation y e ∷ qs) =
    then_named (next_equation s made (equation y e)) _ (then_named (next_target s [] y) _ (target_meant_named s [] y (meaning_in s y)) (λ x. equation_for_named s made y e x)) (λ q. equations_named s (made ++ q ∷ []) qs)

condition_or_always_named : (s : ScopeParts) (b : CondSyntax) → IsNamed (condition_or_always s b)
condition_or_always_named s [] = tt
condition_or_always_named s (n ∷ ns) = condition_named s (n ∷ ns)

rounds_given_named : (t : Option TokenParts) → IsNamed (rounds_given t)
rounds_given_named None = tt
rounds_given_named (Some t) = then_named (few_rounds t (spelled_number t)) _ (few_rounds_named t (spelled_number t)) (λ n. tt)

may_match_named : (ms : List FileMatch) (k l : ℕ) (t : TokenParts) → IsNamed (may_match ms k l t)
may_match_named ms k l t = if_named (is_matched ms k l) _ _ tt (if_named (nat_lt (length ms + 1) MAX_MATCHES) _ _ tt tt)

blocks_matched_named : (ms : List FileMatch) (t u : TokenParts) (i j : Option ℕ) → IsNamed (blocks_matched ms t u i j)
blocks_matched_named ms t u i j =
    then_named (block_or_fault t i) _ (block_or_fault_named t i) (λ k.
    then_named (block_or_fault u j) _ (block_or_fault_named u j) (λ l.
    then_named (may_match ms k l t) _ (may_match_named ms k l t) (λ v. tt)))

resolved_match_named : (s : ScopeParts) (blocks : ℕ × ℕ) (at : ℕ) (m : BlockMatchSyntax) → IsNamed (resolved_match s blocks at m)
resolved_match_named s blocks at m =
    then_named (equations_after s [] m.forth) _ (equations_named s [] m.forth) (λ f.
    then_named (equations_after s [] m.back) _ (equations_named s [] m.back) (λ g.
    then_named (equations_after s [] m.keeping) _ (equations_named s [] m.keeping) (λ q.
    then_named (condition_or_always s m.condition) _ (condition_or_always_named s m.condition) (λ c.
    then_named (rounds_given m.rounds) _ (rounds_given_named m.rounds) (λ n. tt)))))

with_name_named : (made : List FileMatch) (word : TokenParts) (k : ℕ) (l : Option ℕ) → IsNamed (with_name made word k l)
with_name_named made word k None = tt
with_name_named made word k (Some l) = if_named (nat_eq k 0 && nat_eq l 0) _ _ tt (then_named (may_match made k l word) _ (may_match_named made k l word) (λ u. tt))

with_names_named : (find : List ℕ → Option ℕ) (word : TokenParts) (made : List FileMatch) (names : List (List ℕ × ℕ)) → IsNamed (with_names find word made names)
with_names_named find word made [] = tt
with_names_named find word made (x ∷ xs) = then_named (with_name made word x.1 (find x.0)) _ (with_name_named made word x.1 (find x.0)) (λ ms. with_names_named find word ms xs)

module _ (s : ScopeParts) (names : List (List ℕ × ℕ)) (first second : List ℕ → Option ℕ) where
  with_blocks_named : (t : ScopeParts) (made : List FileMatch) (word : TokenParts) (m : BlockMatchSyntax) → IsNamed (with_blocks t first second made word m)
  with_blocks_named t made word m =
      then_named (blocks_matched made m.before m.after (first (bytes_of m.before)) (second (bytes_of m.after))) _ (blocks_matched_named made m.before m.after (first (bytes_of m.before)) (second (bytes_of m.after))) (λ blocks.
      then_named (resolved_match t blocks (place_of word) m) _ (resolved_match_named t blocks (place_of word) m) (λ x. tt))

  next_matches_named : (made : List FileMatch) (x : GivenMatch) → IsNamed (next_matches s names first second made x)
  next_matches_named made (given_match n word same_names) = with_names_named second word made names
  next_matches_named made (given_match n word (two_blocks m)) = with_blocks_named (scope_before s n) made word m

  matches_after_named : (made : List FileMatch) (xs : List GivenMatch) → IsNamed (matches_after s names first second made xs)
  matches_after_named made [] = tt
  matches_after_named made (x ∷ xs) = then_named (next_matches s names first second made x) _ (next_matches_named made x) (λ ms. matches_after_named ms xs)

matches_named : (k : Known) (goal : ℕ × ℕ) → IsNamed (matches_of k goal)
matches_named k goal =
    let bs = blocks_or_none (slice_get k.graphs goal.0) in
    let cs = blocks_or_none (slice_get k.graphs goal.1) in
    matches_after_named k.scope (block_names 0 bs) (found (block_names 0 bs)) (found (block_names 0 cs)) [] k.matches

-- ---- files

whole_named : (s : ScopeParts) (results : List Sort) (g : GraphSyntax) → IsNamed (whole_graph s results g)
whole_named s results (a_graph before bs) = graph_named (scope_before s before) (Some results) bs

graphs_named : (s : ScopeParts) (goal : ℕ × ℕ) (shared : List Sort) (made : List Graph) (gs : List GraphSyntax) → IsNamed (graphs_after s goal shared made gs)
graphs_named s goal shared made [] = tt
graphs_named s goal shared made (g ∷ gs) =
    then_named (next_graph s goal shared (length made) g) _ (whole_named s (sorts_returned s goal shared (length made) g) g) (λ x. graphs_named s goal shared (made ++ x ∷ []) gs)

goal_named : (vs fs : List (List ℕ)) (k : Known) (goal : Option (ℕ × ℕ)) → IsNamed (with_goal vs fs k goal)
goal_named vs fs k None = tt
goal_named vs fs k (Some goal) =
    then_named (matches_of k goal) _ (matches_named k goal) (λ ms.
    then_named (graphs_after k.scope goal (shared_sorts k.scope goal k.graphs) [] k.graphs) _ (graphs_named k.scope goal (shared_sorts k.scope goal k.graphs) [] k.graphs) (λ gs. tt))

pub file_named : (is : List ItemSyntax) → IsNamed (file_of is)
file_named is = then_named (items_known nothing_known is) _ (items_named nothing_known is) (λ k. goal_named _ _ k k.goal)
