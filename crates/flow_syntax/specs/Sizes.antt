-- Sizes of items. An expression counts its nodes; a condition counts one for each node, and for a comparison both
-- expressions too; an assignment counts its targets and its expressions, and an equation of a match likewise.
use Rattle.std.specs.Prelude.{ℕ, ◌+◌, List, [], ◌∷◌, length, Bool, true, not, ◌&&◌, nat_lt, if◌then◌else◌, Option, Some, None}
use Rattle.kat_model.specs.declared.limits.TheConstants.{MAX_EXPR_NODES, MAX_TERM_NODES, MAX_TEXT_NODES}
use Rattle.flow_syntax.specs.Syntax.{ExprSyntax, CondNodeSyntax, always, never, compared, compared_signed, negation, both, either, StatementSyntax, assign, claim, JumpSyntax, goto, branch, return, abort, BlockSyntax, a_block, EquationSyntax, equation, MatchSyntax, same_names, two_blocks}

abbrev pub total : {X : Type 0} → (X → ℕ) → List X → ℕ
total nodes [] = 0
total nodes (x ∷ xs) = nodes x + total nodes xs

abbrev pub expr_nodes : ExprSyntax → ℕ
expr_nodes e = length e

abbrev pub cond_node_nodes : CondNodeSyntax → ℕ
cond_node_nodes (compared relation e f) = 1 + (expr_nodes e + expr_nodes f)
cond_node_nodes (compared_signed word e f) = 1 + (expr_nodes e + expr_nodes f)
cond_node_nodes always = 1
cond_node_nodes never = 1
cond_node_nodes negation = 1
cond_node_nodes both = 1
cond_node_nodes either = 1

abbrev pub statement_nodes : StatementSyntax → ℕ
statement_nodes (assign targets becomes es) = length targets + total expr_nodes es
statement_nodes (claim b) = 1 + total cond_node_nodes b

abbrev pub jump_nodes : JumpSyntax → ℕ
jump_nodes (goto t) = 1
jump_nodes (branch b t u) = 1 + total cond_node_nodes b
jump_nodes (return word es) = 1 + total expr_nodes es
jump_nodes abort = 1

abbrev pub block_nodes : BlockSyntax → ℕ
block_nodes (a_block is_cut name statements jump) = 1 + (total statement_nodes statements + jump_nodes jump)

-- whether no expression has more than `MAX_EXPR_NODES` nodes
abbrev pub is_short : ExprSyntax → Bool
is_short e = not (nat_lt MAX_EXPR_NODES (expr_nodes e))

abbrev pub all_pass : {X : Type 0} → (X → Bool) → List X → Bool
all_pass p [] = true
all_pass p (x ∷ xs) = p x && all_pass p xs

abbrev pub cond_node_short : CondNodeSyntax → Bool
cond_node_short (compared relation e f) = is_short e && is_short f
cond_node_short (compared_signed word e f) = is_short e && is_short f
cond_node_short always = true
cond_node_short never = true
cond_node_short negation = true
cond_node_short both = true
cond_node_short either = true

abbrev pub statement_short : StatementSyntax → Bool
statement_short (assign targets becomes es) = all_pass is_short es
statement_short (claim b) = all_pass cond_node_short b

abbrev pub jump_short : JumpSyntax → Bool
jump_short (goto t) = true
jump_short (branch b t u) = all_pass cond_node_short b
jump_short (return word es) = all_pass is_short es
jump_short abort = true

abbrev pub block_short : BlockSyntax → Bool
block_short (a_block is_cut name statements jump) = all_pass statement_short statements && jump_short jump

-- `n` nodes with `m` others, in which each expression is short or not; `None` if the others or all together are too many
abbrev pub few_nodes : Bool → ℕ → ℕ → Option ℕ
few_nodes short n m =
    if short then (if nat_lt MAX_TERM_NODES m then None else (if nat_lt MAX_TEXT_NODES (n + m) then None else Some (n + m))) else None

abbrev pub nodes_with : ℕ → List BlockSyntax → Option ℕ
nodes_with n bs = few_nodes (all_pass block_short bs) n (total block_nodes bs)

-- ---- matches

abbrev pub equation_nodes : EquationSyntax → ℕ
equation_nodes (equation y e) = 1 + expr_nodes e

abbrev pub equation_short : EquationSyntax → Bool
equation_short (equation y e) = is_short e

abbrev pub match_nodes : MatchSyntax → ℕ
match_nodes same_names = 1
match_nodes (two_blocks m) =
    1 + (total equation_nodes m.forth + (total equation_nodes m.back + (total equation_nodes m.keeping + total cond_node_nodes m.condition)))

abbrev pub match_short : MatchSyntax → Bool
match_short same_names = true
match_short (two_blocks m) =
    all_pass equation_short m.forth && (all_pass equation_short m.back && (all_pass equation_short m.keeping && all_pass cond_node_short m.condition))

abbrev pub nodes_with_match : ℕ → MatchSyntax → Option ℕ
nodes_with_match n m = few_nodes (match_short m) n (match_nodes m)
