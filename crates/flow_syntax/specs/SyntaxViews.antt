-- The program's values as syntax: its lists are from the last member to the first.
use Rattle.std.specs.Prelude.{List, map, reverse, Vec}
use Rattle.std.specs.Option.{option_map}
use Rattle.std.specs.declared.alloc.Global.{Global}
use Rattle.text_parser.specs.TokenParts.{parts_of_token, parts_of_tokens}
use Rattle.text_parser.specs.declared.token.Token.{Token}
use Rattle.text_parser.specs.TokenParts.{TokenParts}
use Rattle.flow_syntax.specs.declared.written.FirstName.{FirstName}
use Rattle.flow_syntax.specs.declared.written.FirstName.TheVariants.{NoName, Name, Word}
use Rattle.flow_syntax.specs.declared.written.Node.{Node}
use Rattle.flow_syntax.specs.declared.written.Node.TheVariants.{Numeral, Named, Called, Converted, Operation}
use Rattle.flow_syntax.specs.declared.written.CondNode.{CondNode}
use Rattle.flow_syntax.specs.declared.written.CondNode.TheVariants.{Always, Never, Compared, ComparedSigned, Negation, Both, Either}
use Rattle.flow_syntax.specs.declared.written.Statement.{Statement}
use Rattle.flow_syntax.specs.declared.written.Statement.TheVariants.{Assign, Claim}
use Rattle.flow_syntax.specs.declared.written.Jump.{Jump}
use Rattle.flow_syntax.specs.declared.written.Jump.TheVariants.{Goto, Branch, Return, Abort}
use Rattle.flow_syntax.specs.declared.written.Block.{Block}
use Rattle.flow_syntax.specs.declared.written.Equation.{Equation}
use Rattle.flow_syntax.specs.declared.written.BlockMatch.{BlockMatch}
use Rattle.flow_syntax.specs.declared.written.Match.{Match}
use Rattle.flow_syntax.specs.declared.written.Match.TheVariants.{SameNames, TwoBlocks}
use Rattle.flow_syntax.specs.declared.written.Item.{Item}
use Rattle.flow_syntax.specs.declared.written.Item.TheVariants.{Sorts, Function, Variables, Graph, Rounds, Split, Equal, Match as MatchItem}
use Rattle.flow_syntax.specs.declared.value.Value.{Value}
use Rattle.flow_syntax.specs.declared.value.Value.TheVariants as value
use Rattle.flow_syntax.specs.Syntax.{FirstSyntax, no_name, a_name, a_conversion, NodeSyntax, numeral, named, called, converted, operation, ExprSyntax, CondNodeSyntax, always, never, compared, compared_signed, negation, both, either, CondSyntax, StatementSyntax, assign, claim, JumpSyntax, goto, branch, return, abort, BlockSyntax, a_block, EquationSyntax, equation, BlockMatchSyntax, MatchSyntax, same_names, two_blocks, ItemSyntax, sorts, function, variables, graph, rounds, split, equal, matching}
use Rattle.flow_syntax.specs.Actions.{ValueSyntax, token, tokens, expr, exprs, operations, no_call, cond, body, blocks, equations, a_match, items}

unfoldable pub tokens_syntax : List Token → List TokenParts
tokens_syntax ts = parts_of_tokens (reverse ts)

abbrev pub first_syntax : FirstName → FirstSyntax
first_syntax NoName = no_name
first_syntax (Name t) = a_name (parts_of_token t)
first_syntax (Word t) = a_conversion (parts_of_token t)

abbrev pub node_syntax : Node → NodeSyntax
node_syntax (Numeral t) = numeral (parts_of_token t)
node_syntax (Named t) = named (parts_of_token t)
node_syntax (Called t n) = called (parts_of_token t) n
node_syntax (Converted t first) = converted (parts_of_token t) (first_syntax first)
node_syntax (Operation t) = operation (parts_of_token t)

unfoldable pub expr_syntax : List Node → ExprSyntax
expr_syntax ns = map node_syntax (reverse ns)

unfoldable pub exprs_syntax : List (Vec Node Global) → List ExprSyntax
exprs_syntax es = map (λ e. expr_syntax e.items) (reverse es)

abbrev pub cond_node_syntax : CondNode → CondNodeSyntax
cond_node_syntax Always = always
cond_node_syntax Never = never
cond_node_syntax (Compared t e f) = compared (parts_of_token t) (expr_syntax e.items) (expr_syntax f.items)
cond_node_syntax (ComparedSigned t e f) = compared_signed (parts_of_token t) (expr_syntax e.items) (expr_syntax f.items)
cond_node_syntax Negation = negation
cond_node_syntax Both = both
cond_node_syntax Either = either

unfoldable pub cond_syntax : List CondNode → CondSyntax
cond_syntax ns = map cond_node_syntax (reverse ns)

abbrev pub statement_syntax : Statement → StatementSyntax
statement_syntax (Assign targets becomes es) = assign (tokens_syntax targets.items) (parts_of_token becomes) (exprs_syntax es.items)
statement_syntax (Claim b) = claim (cond_syntax b.items)

unfoldable pub statements_syntax : List Statement → List StatementSyntax
statements_syntax ss = map statement_syntax (reverse ss)

abbrev pub jump_syntax : Jump → JumpSyntax
jump_syntax (Goto t) = goto (parts_of_token t)
jump_syntax (Branch b t u) = branch (cond_syntax b.items) (parts_of_token t) (parts_of_token u)
jump_syntax (Return t es) = return (parts_of_token t) (exprs_syntax es.items)
jump_syntax Abort = abort

abbrev pub block_syntax : Block → BlockSyntax
block_syntax b = a_block b.is_cut (parts_of_token b.name) (statements_syntax b.statements.items) (jump_syntax b.jump)

unfoldable pub blocks_syntax : List Block → List BlockSyntax
blocks_syntax bs = map block_syntax (reverse bs)

abbrev pub equation_syntax : Equation → EquationSyntax
equation_syntax q = equation (parts_of_token q.variable) (expr_syntax q.value.items)

unfoldable pub equations_syntax : List Equation → List EquationSyntax
equations_syntax qs = map equation_syntax (reverse qs)

abbrev pub block_match_syntax : BlockMatch → BlockMatchSyntax
block_match_syntax m = record { before = parts_of_token m.before; after = parts_of_token m.after; forth = equations_syntax m.forth.items; back = equations_syntax m.back.items; keeping = equations_syntax m.keeping.items; condition = cond_syntax m.condition.items; rounds = option_map parts_of_token m.rounds; splits = m.splits }

abbrev pub match_syntax : Match → MatchSyntax
match_syntax SameNames = same_names
match_syntax (TwoBlocks m) = two_blocks (block_match_syntax m)

abbrev pub item_syntax : Item → ItemSyntax
item_syntax (Sorts t names) = sorts (parts_of_token t) (tokens_syntax names.items)
item_syntax (Function t result name parameters) = function (parts_of_token t) (parts_of_token result) (parts_of_token name) (tokens_syntax parameters.items)
item_syntax (Variables t sort names) = variables (parts_of_token t) (parts_of_token sort) (tokens_syntax names.items)
item_syntax (Graph t name list) = graph (parts_of_token t) (parts_of_token name) (blocks_syntax list.items)
item_syntax (Rounds t number) = rounds (parts_of_token t) (parts_of_token number)
item_syntax (Split t) = split (parts_of_token t)
item_syntax (Equal t before after) = equal (parts_of_token t) (parts_of_token before) (parts_of_token after)
item_syntax (MatchItem t m) = matching (parts_of_token t) (match_syntax m)

unfoldable pub items_syntax : List Item → List ItemSyntax
items_syntax is = map item_syntax (reverse is)

unfoldable pub value_syntax : Value → ValueSyntax
value_syntax (value.Token t) = token (parts_of_token t)
value_syntax (value.Tokens ts) = tokens (tokens_syntax ts.items)
value_syntax (value.Expr e) = expr (expr_syntax e.items)
value_syntax (value.Exprs es) = exprs (exprs_syntax es.items)
value_syntax (value.Operations operators operands) = operations (tokens_syntax operators.items) (expr_syntax operands.items)
value_syntax value.NoCall = no_call
value_syntax (value.Cond b) = cond (cond_syntax b.items)
value_syntax (value.Body statements jump) = body (statements_syntax statements.items) (jump_syntax jump)
value_syntax (value.Blocks bs) = blocks (blocks_syntax bs.items)
value_syntax (value.Equations qs) = equations (equations_syntax qs.items)
value_syntax (value.Match m) = a_match (match_syntax m)
value_syntax (value.Items is) = items (items_syntax is.items)

-- a stack of values, the last first
unfoldable pub stack_syntax : List Value → List ValueSyntax
stack_syntax vs = map value_syntax (reverse vs)
