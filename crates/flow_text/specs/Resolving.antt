-- Expressions and conditions with their names resolved and their sorts checked, or the first fault in text order.
use Rattle.std.specs.Prelude.{ℕ, List, [], ◌∷◌, ◌++◌, length, map, Bool, ◌&&◌, nat_eq, nat_lt, if◌then◌else◌, Option, Some, None, Result, Ok, Err, codes, slice_get}
use Rattle.std.specs.Str.{bytes_eq}
use Rattle.kat_model.specs.Stores.{modulus}
use Rattle.kat_model.specs.declared.expression.Rel.{Rel}
use Rattle.kat_model.specs.declared.expression.Rel.TheVariants.{Eq, Ne, Lt, Le, Gt, Ge}
use Rattle.kat_model.specs.declared.expression.Width.{Width}
use Rattle.kat_model.specs.declared.expression.Width.TheVariants.{W64}
use Rattle.text_parser.specs.declared.fault.TextFault.{TextFault}
use Rattle.text_parser.specs.declared.fault.TextFault.TheVariants as fault
use Rattle.text_parser.specs.TokenParts.{TokenParts, place_of, bytes_of}
use Rattle.text_parser.specs.Parsed.{◌>>=◌}
use Rattle.flow_model.specs.declared.sort.Sort.{Sort}
use Rattle.flow_model.specs.declared.sort.Sort.TheVariants.{Number, Opaque}
use Rattle.flow_model.specs.declared.graph.ExprNode.{ExprNode}
use Rattle.flow_model.specs.declared.graph.ExprNode.TheVariants as node
use Rattle.flow_model.specs.Expressions.{ExprTree}
use Rattle.flow_model.specs.Conditions as condition
use Rattle.flow_model.specs.Conditions.{CondTree}
use Rattle.flow_model.specs.Polish.{CondPart, a_condition, a_negation, a_conjunction, a_disjunction, conds_of}
use Rattle.flow_text.specs.declared.meaning.Meaning.{Meaning}
use Rattle.flow_text.specs.declared.meaning.Meaning.TheVariants.{Function, Variable}
use Rattle.flow_syntax.specs.Terminals.{spelled_number}
use Rattle.flow_syntax.specs.Syntax.{FirstSyntax, no_name, a_name, a_conversion, NodeSyntax, numeral, named, called, converted, operation, ExprSyntax, CondNodeSyntax, always, never, compared, compared_signed, negation, both, either, CondSyntax}
use Rattle.flow_syntax.specs.Actions.{first_of, first_name}
use Rattle.flow_text.specs.Trees.{expr_of, only_cond}
use Rattle.flow_text.specs.Scopes.{FunctionParts, function_parts, ScopeParts, meaning_in, width_named, same_sort, sort_fault, unknown}

-- ---- sorts

abbrev pub result_of : Option FunctionParts → Option Sort
result_of None = None
result_of (Some (function_parts result parameters)) = Some result

-- the sort of a name of a variable or of a function
abbrev pub sort_of_meaning : ScopeParts → Option Meaning → Option Sort
sort_of_meaning s (Some (Variable k)) = slice_get s.variables k
sort_of_meaning s (Some (Function k)) = result_of (slice_get s.functions k)
sort_of_meaning s other = None

abbrev pub sort_of_word : Option (Bool × Width) → Option Sort
sort_of_word None = None
sort_of_word (Some x) = Some (Number x.1)

-- the sort of the first name or conversion of an expression
abbrev pub sort_of_first : ScopeParts → FirstSyntax → Option Sort
sort_of_first s no_name = None
sort_of_first s (a_name t) = sort_of_meaning s (meaning_in s t)
sort_of_first s (a_conversion word) = sort_of_word (width_named (bytes_of word))

-- the sort, or u64 where there is none
abbrev pub sort_or_u64 : Option Sort → Sort
sort_or_u64 None = Number W64
sort_or_u64 (Some s) = s

-- the sort of both sides of a comparison
abbrev pub sort_of_sides : ScopeParts → ExprSyntax → ExprSyntax → Sort
sort_of_sides s e f = sort_or_u64 (sort_of_first s (first_of (first_name e) (first_name f)))

-- ---- nodes of expressions

-- what is wanted next: an operand of a sort, which is the second one of an operator, or not
pub data Expected : Type 0 where
  operand : (sort : Sort) → Expected
  second_operand : (operator : TokenParts) → (sort : Sort) → Expected

-- a number where a sort is wanted
abbrev pub number_of_width : Width → TokenParts → Option ℕ → Result ExprNode TextFault
number_of_width w t None = Err (fault.NumberTooWide (place_of t))
number_of_width w t (Some n) = if nat_lt n (modulus w) then Ok (node.Number w n) else Err (fault.NumberTooWide (place_of t))

abbrev pub number_in : Sort → TokenParts → Result ExprNode TextFault
number_in (Opaque k) t = sort_fault t
number_in (Number w) t = number_of_width w t (spelled_number t)

abbrev pub with_expected_sort : Sort → TokenParts → ExprNode → Option Sort → Result ExprNode TextFault
with_expected_sort expected t n None = unknown t
with_expected_sort expected t n (Some sort) = if same_sort sort expected then Ok n else sort_fault t

abbrev pub variable_in : ScopeParts → Sort → TokenParts → Option Meaning → Result ExprNode TextFault
variable_in s expected t None = unknown t
variable_in s expected t (Some (Variable k)) = with_expected_sort expected t (node.Variable k) (slice_get s.variables k)
variable_in s expected t (Some other) = sort_fault t

-- the function of a call with `count` arguments, and the sorts of its parameters
abbrev pub application_of : Sort → TokenParts → ℕ → ℕ → Option FunctionParts → Result (ExprNode × List Sort) TextFault
application_of expected t count k None = unknown t
application_of expected t count k (Some (function_parts result parameters)) =
    if same_sort result expected && nat_eq count (length parameters) then Ok (node.Applied k result count, parameters) else sort_fault t

abbrev pub function_in : ScopeParts → Sort → TokenParts → ℕ → Option Meaning → Result (ExprNode × List Sort) TextFault
function_in s expected t count None = unknown t
function_in s expected t count (Some (Function k)) = application_of expected t count k (slice_get s.functions k)
function_in s expected t count (Some other) = sort_fault t

-- a conversion of an operand of sort `from`, and the width of the operand
abbrev pub conversion_in : Sort → TokenParts → Option (Bool × Width) → Sort → Result (ExprNode × Width) TextFault
conversion_in (Number v) word (Some x) (Number from) = if same_sort (Number x.1) (Number v) then Ok (node.Converted x.0 from x.1, from) else sort_fault word
conversion_in _ word _ _ = sort_fault word

-- the node of an operator on numbers
abbrev pub operator_on : Width → List ℕ → ExprNode
operator_on w text =
    if bytes_eq text (codes "+") then node.Plus w
    else if bytes_eq text (codes "-") then node.Minus w
    else node.Times w

abbrev pub operator_in : Sort → List ℕ → ExprNode
operator_in (Number w) text = operator_on w text
operator_in (Opaque k) text = operator_on W64 text

-- a call with its parameters wanted before `ws`
abbrev pub with_parameters : List Expected → Result (ExprNode × List Sort) TextFault → Result (ExprNode × List Expected) TextFault
with_parameters ws m = m >>= λ f. Ok (f.0, map operand f.1 ++ ws)

-- a conversion with its operand wanted before `ws`
abbrev pub with_operand : List Expected → Result (ExprNode × Width) TextFault → Result (ExprNode × List Expected) TextFault
with_operand ws m = m >>= λ c. Ok (c.0, operand (Number c.1) ∷ ws)

-- a node where a sort is wanted; `ws` is what is wanted after it, and its operands are wanted before that
abbrev pub node_in : ScopeParts → Sort → List Expected → NodeSyntax → Result (ExprNode × List Expected) TextFault
node_in s expected ws (numeral t) = number_in expected t >>= λ n. Ok (n, ws)
node_in s expected ws (named t) = variable_in s expected t (meaning_in s t) >>= λ n. Ok (n, ws)
node_in s expected ws (called t count) = with_parameters ws (function_in s expected t count (meaning_in s t))
node_in s expected ws (converted word first) = with_operand ws (conversion_in expected word (width_named (bytes_of word)) (sort_or_u64 (sort_of_first s first)))
node_in s expected ws (operation o) = Ok (operator_in expected (bytes_of o), operand expected ∷ second_operand o expected ∷ ws)

-- the sort that is wanted; before a second operand, an opaque sort has no operators
abbrev pub sort_expected : Expected → Result Sort TextFault
sort_expected (operand sort) = Ok sort
sort_expected (second_operand o (Opaque k)) = sort_fault o
sort_expected (second_operand o (Number w)) = Ok (Number w)

-- the next node, where `w` is wanted
abbrev pub next_node : ScopeParts → Expected → List Expected → NodeSyntax → Result (ExprNode × List Expected) TextFault
next_node s w ws n = sort_expected w >>= λ sort. node_in s sort ws n

-- the nodes before, and those of an expression for each operand that is wanted
abbrev pub nodes_after : ScopeParts → List ExprNode → List Expected → ExprSyntax → Result (List ExprNode) TextFault
nodes_after s before ws [] = Ok before
nodes_after s before [] (n ∷ ns) = Ok before
nodes_after s before (w ∷ ws) (n ∷ ns) = next_node s w ws n >>= λ x. nodes_after s (before ++ x.0 ∷ []) x.1 ns

-- the nodes of an expression of a sort
abbrev pub resolved : ScopeParts → Sort → ExprSyntax → Result (List ExprNode) TextFault
resolved s sort e = nodes_after s [] (operand sort ∷ []) e

-- an expression of a sort
abbrev pub expression_of : ScopeParts → Sort → ExprSyntax → Result ExprTree TextFault
expression_of s sort e = resolved s sort e >>= λ ns. Ok (expr_of ns)

-- ---- conditions

-- the relation that a token means
abbrev pub rel_named : List ℕ → Rel
rel_named text =
    if bytes_eq text (codes "==") then Eq
    else if bytes_eq text (codes "!=") then Ne
    else if bytes_eq text (codes "<") then Lt
    else if bytes_eq text (codes "<=") then Le
    else if bytes_eq text (codes ">") then Gt
    else Ge

abbrev pub signed_rel_named : List ℕ → Rel
signed_rel_named text =
    if bytes_eq text (codes "slt") then Lt
    else if bytes_eq text (codes "sle") then Le
    else if bytes_eq text (codes "sgt") then Gt
    else Ge

-- opaque values are compared for equality only
abbrev pub relation_on : Sort → TokenParts → Rel → Result Rel TextFault
relation_on (Number w) t rel = Ok rel
relation_on (Opaque k) t Eq = Ok Eq
relation_on (Opaque k) t Ne = Ok Ne
relation_on (Opaque k) t rel = sort_fault t

abbrev pub width_of_sort : Sort → TokenParts → Result Width TextFault
width_of_sort (Number w) t = Ok w
width_of_sort (Opaque k) t = sort_fault t

abbrev pub comparison_of : ScopeParts → Sort → TokenParts → ExprSyntax → ExprSyntax → Result CondPart TextFault
comparison_of s sort relation e f =
    expression_of s sort e >>= λ x. relation_on sort relation (rel_named (bytes_of relation))
    >>= λ rel. expression_of s sort f >>= λ y. Ok (a_condition (condition.compared rel x y))

abbrev pub signed_comparison_of : ScopeParts → Sort → TokenParts → ExprSyntax → ExprSyntax → Result CondPart TextFault
signed_comparison_of s sort word e f =
    width_of_sort sort word >>= λ w. expression_of s (Number w) e
    >>= λ x. expression_of s (Number w) f >>= λ y. Ok (a_condition (condition.compared_signed (signed_rel_named (bytes_of word)) w x y))

abbrev pub part_of : ScopeParts → CondNodeSyntax → Result CondPart TextFault
part_of s always = Ok (a_condition condition.always)
part_of s never = Ok (a_condition condition.never)
part_of s (compared relation e f) = comparison_of s (sort_of_sides s e f) relation e f
part_of s (compared_signed word e f) = signed_comparison_of s (sort_of_sides s e f) word e f
part_of s negation = Ok a_negation
part_of s both = Ok a_conjunction
part_of s either = Ok a_disjunction

-- the nodes before, and others
abbrev pub parts_after : ScopeParts → List CondPart → CondSyntax → Result (List CondPart) TextFault
parts_after s before [] = Ok before
parts_after s before (n ∷ ns) = part_of s n >>= λ x. parts_after s (before ++ x ∷ []) ns

abbrev pub condition_of : ScopeParts → CondSyntax → Result CondTree TextFault
condition_of s b = parts_after s [] b >>= λ ps. Ok (only_cond (conds_of ps))
