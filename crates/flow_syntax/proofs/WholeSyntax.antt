-- Items that are whole: each node has its operands, each expression and each condition is exactly one, and each graph has a
-- block.
use Rattle.std.proofs.Common.{◌≡◌, ◌<◌, ℕ, zero, suc, ◌+◌, List, [], ◌∷◌, ◌++◌, length, subst, arith}
use Rattle.text_parser.specs.TokenParts.{TokenParts}
use Rattle.flow_syntax.specs.Syntax.{NodeSyntax, numeral, named, called, converted, operation, ExprSyntax, CondNodeSyntax, always, never, compared, compared_signed, negation, both, either, CondSyntax, StatementSyntax, assign, claim, JumpSyntax, goto, branch, return, abort, BlockSyntax, a_block, EquationSyntax, equation, MatchSyntax, same_names, two_blocks, ItemSyntax, sorts, function, variables, graph, rounds, split, equal, matching}
use Rattle.flow_syntax.specs.Actions.{ValueSyntax, no_call, exprs_in, joined, all_nodes, call_of, linked}

abbrev pub operand_count : NodeSyntax → ℕ
operand_count (numeral t) = 0
operand_count (named t) = 0
operand_count (called t n) = n
operand_count (converted word first) = 1
operand_count (operation o) = 2

-- the nodes are those of this number of expressions, one after the other
abbrev pub ArePolish : ℕ → ExprSyntax → Type 0
ArePolish zero [] = Unit {0}
ArePolish (suc n) (x ∷ xs) = ArePolish (operand_count x + n) xs
ArePolish n xs = ⊥

abbrev pub AreAllPolish : List ExprSyntax → Type 0
AreAllPolish [] = Unit {0}
AreAllPolish (e ∷ es) = ArePolish 1 e × AreAllPolish es

abbrev pub IsWholeNode : CondNodeSyntax → Type 0
IsWholeNode always = Unit {0}
IsWholeNode never = Unit {0}
IsWholeNode (compared relation e f) = ArePolish 1 e × ArePolish 1 f
IsWholeNode (compared_signed word e f) = ArePolish 1 e × ArePolish 1 f
IsWholeNode negation = Unit {0}
IsWholeNode both = Unit {0}
IsWholeNode either = Unit {0}

abbrev pub condition_count : CondNodeSyntax → ℕ
condition_count always = 0
condition_count never = 0
condition_count (compared relation e f) = 0
condition_count (compared_signed word e f) = 0
condition_count negation = 1
condition_count both = 2
condition_count either = 2

-- the nodes are those of this number of conditions, one after the other
abbrev pub AreWholeConds : ℕ → CondSyntax → Type 0
AreWholeConds zero [] = Unit {0}
AreWholeConds (suc n) (x ∷ xs) = IsWholeNode x × AreWholeConds (condition_count x + n) xs
AreWholeConds n xs = ⊥

abbrev pub IsWholeCond : CondSyntax → Type 0
IsWholeCond b = AreWholeConds 1 b

-- a condition, or none
abbrev pub IsWholeOrNone : CondSyntax → Type 0
IsWholeOrNone [] = Unit {0}
IsWholeOrNone (n ∷ ns) = IsWholeCond (n ∷ ns)

abbrev pub AreWholeStatements : List StatementSyntax → Type 0
AreWholeStatements [] = Unit {0}
AreWholeStatements (assign targets becomes es ∷ xs) = AreAllPolish es × AreWholeStatements xs
AreWholeStatements (claim b ∷ xs) = IsWholeCond b × AreWholeStatements xs

abbrev pub IsWholeJump : JumpSyntax → Type 0
IsWholeJump (goto block) = Unit {0}
IsWholeJump (branch b block other) = IsWholeCond b
IsWholeJump (return word es) = AreAllPolish es
IsWholeJump abort = Unit {0}

abbrev pub AreWholeBlocks : List BlockSyntax → Type 0
AreWholeBlocks [] = Unit {0}
AreWholeBlocks (a_block is_cut name statements jump ∷ bs) = AreWholeStatements statements × IsWholeJump jump × AreWholeBlocks bs

abbrev pub AreWholeEquations : List EquationSyntax → Type 0
AreWholeEquations [] = Unit {0}
AreWholeEquations (equation y e ∷ qs) = ArePolish 1 e × AreWholeEquations qs

abbrev pub IsWholeMatch : MatchSyntax → Type 0
IsWholeMatch same_names = Unit {0}
IsWholeMatch (two_blocks m) = AreWholeEquations m.forth × AreWholeEquations m.back × AreWholeEquations m.keeping × IsWholeOrNone m.condition

abbrev pub IsWholeItem : ItemSyntax → Type 0
IsWholeItem (sorts word names) = Unit {0}
IsWholeItem (function word result name parameters) = Unit {0}
IsWholeItem (variables word sort names) = Unit {0}
IsWholeItem (graph word name bs) = (0 < length bs) × AreWholeBlocks bs
IsWholeItem (rounds word number) = Unit {0}
IsWholeItem (split word) = Unit {0}
IsWholeItem (equal word before after) = Unit {0}
IsWholeItem (matching word m) = IsWholeMatch m

abbrev pub AreWholeItems : List ItemSyntax → Type 0
AreWholeItems [] = Unit {0}
AreWholeItems (x ∷ xs) = IsWholeItem x × AreWholeItems xs

-- ---- lists one after the other

pub polish-append : (m n : ℕ) (xs ys : ExprSyntax) → ArePolish m xs → ArePolish n ys → ArePolish (m + n) (xs ++ ys)
polish-append zero n [] ys h k = let e : n ≡ 0 + n = omega arith in subst (λ i. ArePolish i ys) e k
polish-append (suc m) n (x ∷ xs) ys h k =
    let one : suc (m + n) ≡ suc m + n = omega arith in
    let more : operand_count x + m + n ≡ operand_count x + (m + n) = omega arith in
    subst (λ i. ArePolish i (x ∷ xs ++ ys)) one (subst (λ i. ArePolish i (xs ++ ys)) more (polish-append (operand_count x + m) n xs ys h k))
polish-append m n xs ys h k = absurd h

conds-append : (m n : ℕ) (xs ys : CondSyntax) → AreWholeConds m xs → AreWholeConds n ys → AreWholeConds (m + n) (xs ++ ys)
conds-append zero n [] ys h k = let e : n ≡ 0 + n = omega arith in subst (λ i. AreWholeConds i ys) e k
conds-append (suc m) n (x ∷ xs) ys h k =
    let one : suc (m + n) ≡ suc m + n = omega arith in
    let more : condition_count x + m + n ≡ condition_count x + (m + n) = omega arith in
    subst (λ i. AreWholeConds i (x ∷ xs ++ ys)) one (h.0, subst (λ i. AreWholeConds i (xs ++ ys)) more (conds-append (condition_count x + m) n xs ys h.1 k))
conds-append m n xs ys h k = absurd h

pub blocks-append : (bs cs : List BlockSyntax) → AreWholeBlocks bs → AreWholeBlocks cs → AreWholeBlocks (bs ++ cs)
blocks-append [] cs h k = k
blocks-append (a_block is_cut name statements jump ∷ bs) cs h k = (h.0, h.1, blocks-append bs cs h.2 k)

-- ---- what actions make

pub all_polish : (es : List ExprSyntax) → AreAllPolish es → ArePolish (length es) (all_nodes es)
all_polish [] h = tt
all_polish (e ∷ es) h =
    let more : 1 + length es ≡ suc (length es) = omega arith in
    subst (λ i. ArePolish i (e ++ all_nodes es)) more (polish-append 1 (length es) e (all_nodes es) h.0 (all_polish es h.1))

joined_polish : (os : List TokenParts) (e : ExprSyntax) → ArePolish (suc (length os)) e → ArePolish 1 (joined os e)
joined_polish [] e h = h
joined_polish (o ∷ os) e h =
    let more : suc (suc (length os)) ≡ 2 + length os = omega arith in
    joined_polish os (operation o ∷ e) (subst (λ i. ArePolish i e) more h)

pub join_polish : (os : List TokenParts) (e rest : ExprSyntax) → ArePolish 1 e → ArePolish (length os) rest → ArePolish 1 (joined os (e ++ rest))
join_polish os e rest h k =
    let more : 1 + length os ≡ suc (length os) = omega arith in
    joined_polish os (e ++ rest) (subst (λ i. ArePolish i (e ++ rest)) more (polish-append 1 (length os) e rest h k))

pub operations_polish : (n : ℕ) (e rest : ExprSyntax) → ArePolish 1 e → ArePolish n rest → ArePolish (suc n) (e ++ rest)
operations_polish n e rest h k =
    let more : 1 + n ≡ suc n = omega arith in subst (λ i. ArePolish i (e ++ rest)) more (polish-append 1 n e rest h k)

called_polish : (t : TokenParts) (es : List ExprSyntax) → AreAllPolish es → ArePolish 1 (called t (length es) ∷ all_nodes es)
called_polish t es h = let e : length es ≡ length es + 0 = omega arith in subst (λ i. ArePolish i (all_nodes es)) e (all_polish es h)

pub call_polish : (t : TokenParts) (v : ValueSyntax) → AreAllPolish (exprs_in v) → ArePolish 1 (call_of t v)
call_polish t no_call h = tt
call_polish t v h = called_polish t (exprs_in v) h

-- a node of two conditions links them
pub linked_whole : (n : CondNodeSyntax) (b c : CondSyntax) → IsWholeNode n → condition_count n ≡ 2 → IsWholeCond b → IsWholeOrNone c → IsWholeCond (linked n b c)
linked_whole n b [] w two h k = h
linked_whole n b (x ∷ xs) w two h k =
    let both_of : 1 + 1 ≡ condition_count n + 0 = omega (arith, two) in
    (w, subst (λ i. AreWholeConds i (b ++ (x ∷ xs))) both_of (conds-append 1 1 b (x ∷ xs) h k))

pub whole_or_none : (b : CondSyntax) → IsWholeCond b → IsWholeOrNone b
whole_or_none [] h = tt
whole_or_none (n ∷ ns) h = h

pub more_whole : (n : CondNodeSyntax) (b c : CondSyntax) → IsWholeNode n → condition_count n ≡ 2 → IsWholeCond b → IsWholeOrNone c → IsWholeOrNone (linked n b c)
more_whole n b c w two h k = whole_or_none (linked n b c) (linked_whole n b c w two h k)

pub graph_whole : (bs cs : List BlockSyntax) → 0 < length bs → AreWholeBlocks bs → AreWholeBlocks cs → (0 < length (bs ++ cs)) × AreWholeBlocks (bs ++ cs)
graph_whole [] cs h k l = absurd (omega (arith, h))
graph_whole (b ∷ bs) cs h k l = (omega arith, blocks-append (b ∷ bs) cs k l)
