-- Exits and same texts, computed: a loop that counts i up to n, with two copies in the other graph. Variable c chooses the
-- copy that is entered.
use Rattle.std.proofs.Common.{◌≡◌, ℕ, true, false, List, [], ◌∷◌, map, refl}
use Rattle.kat_model.specs.declared.expression.Rel.TheVariants.{Eq, Ne}
use Rattle.kat_model.specs.declared.expression.Width.TheVariants.{W8}
use Rattle.flow_model.specs.declared.sort.Sort.TheVariants.{Number}
use Rattle.flow_model.specs.Expressions.{number, variable, plus}
use Rattle.flow_model.specs.Conditions.{CondTree, compared, negation}
use Rattle.flow_model.specs.Graphs.{StatementTree, assign, JumpTree, goto, branch, return, Block, Graph, Pair}
use Rattle.flow_model.specs.Matches.{Match}
use Rattle.flow_pieces.specs.Matches.{entry_match}
use Rattle.flow_pieces.specs.PieceQuestions.{plain_match}
use Rattle.flow_pieces.specs.Exits.{piece_exits, is_ambiguous}
use Rattle.flow_pieces.specs.SameTexts.{has_same_text}

abbrev i : ℕ
i = 0

abbrev n : ℕ
n = 1

abbrev c : ℕ
c = 2

abbrev a_block : List StatementTree → JumpTree → Block
a_block stmts jump = record { is_cut = false; statements = stmts; jump = jump }

abbrev head_to : ℕ → ℕ → Block
head_to body end = a_block [] (branch (compared Ne (variable i) (variable n)) body end)

abbrev body_to : ℕ → Block
body_to next = a_block (assign (i ∷ []) (plus W8 (variable i) (number W8 1) ∷ []) ∷ []) (goto next)

abbrev is_zero : CondTree
is_zero = compared Eq (variable c) (number W8 0)

abbrev one_loop : Graph
one_loop = a_block [] (goto 1) ∷ head_to 2 3 ∷ body_to 1 ∷ a_block [] (return (variable i ∷ [])) ∷ []

-- two copies of the loop, at blocks 1 and 3: the bodies jump to the given heads
abbrev two_copies : ℕ → ℕ → Graph
two_copies first second =
    a_block [] (branch is_zero 1 3) ∷ head_to 2 5 ∷ body_to first ∷ head_to 4 5 ∷ body_to second ∷ a_block [] (return (variable i ∷ [])) ∷ []

abbrev pair_of : Graph → Graph → Pair
pair_of before after = record { sorts = Number W8 ∷ Number W8 ∷ Number W8 ∷ []; before = before; after = after }

abbrev match_if : ℕ → ℕ → CondTree → Match
match_if k l b = record { before = k; after = l; forth = []; back = []; keeping = []; condition = b }

-- ---- exits

abbrev unrolled : Pair
unrolled = pair_of one_loop (two_copies 3 1)

abbrev unrolled_matches : List Match
unrolled_matches = entry_match ∷ plain_match 1 1 ∷ plain_match 1 3 ∷ []

-- a loop that is unrolled and may be entered at both copies: the head is matched with both, which share one exit
unrolled_exits : piece_exits unrolled unrolled_matches entry_match ≡ record { rows = 1 ∷ []; columns = 1 ∷ 3 ∷ []; match = plain_match 1 1; live = i ∷ n ∷ [] } ∷ []
unrolled_exits = refl

-- from the first copy only the second is reached
copy_exits : piece_exits unrolled unrolled_matches (plain_match 1 1) ≡ record { rows = 1 ∷ []; columns = 3 ∷ []; match = plain_match 1 3; live = i ∷ n ∷ [] } ∷ []
copy_exits = refl

abbrev versions : Pair
versions = pair_of one_loop (two_copies 1 3)

-- two versions of a loop, each under its condition, have an exit each
versions_exits : map {B = List ℕ × List ℕ × CondTree} (λ e. (e.rows, e.columns, e.match.condition)) (piece_exits versions (entry_match ∷ match_if 1 1 is_zero ∷ match_if 1 3 (negation is_zero) ∷ []) entry_match)
    ≡ (1 ∷ [], 1 ∷ [], is_zero) ∷ (1 ∷ [], 3 ∷ [], negation is_zero) ∷ []
versions_exits = refl

versions_unambiguous : is_ambiguous (piece_exits versions (entry_match ∷ match_if 1 1 is_zero ∷ match_if 1 3 (negation is_zero) ∷ []) entry_match) ≡ false
versions_unambiguous = refl

-- the other way round both exits have the one head as their column
merged_ambiguous :
    is_ambiguous (piece_exits (pair_of (two_copies 1 3) one_loop) (entry_match ∷ match_if 1 1 is_zero ∷ match_if 3 1 (negation is_zero) ∷ []) entry_match) ≡ true
merged_ambiguous = refl

-- matches that are alike but not all pairs of their blocks have an exit each
no_rectangle : map {B = List ℕ × List ℕ} (λ e. (e.rows, e.columns)) (piece_exits (pair_of (two_copies 1 3) (two_copies 1 3)) (entry_match ∷ plain_match 1 1 ∷ plain_match 3 3 ∷ plain_match 1 3 ∷ []) entry_match)
    ≡ (1 ∷ [], 1 ∷ []) ∷ (3 ∷ [], 3 ∷ []) ∷ (1 ∷ [], 3 ∷ []) ∷ []
no_rectangle = refl

-- ---- same texts

same_loops : has_same_text (pair_of one_loop one_loop) (entry_match ∷ plain_match 1 1 ∷ []) (plain_match 1 1) ≡ true
same_loops = refl

same_copies : has_same_text (pair_of (two_copies 3 1) (two_copies 3 1)) (entry_match ∷ []) entry_match ≡ true
same_copies = refl

-- the pair to which the piece leads has a condition
conditional_pair : has_same_text (pair_of one_loop one_loop) (entry_match ∷ match_if 1 1 is_zero ∷ []) entry_match ≡ false
conditional_pair = refl

-- the match has a condition
conditional_match : has_same_text (pair_of one_loop one_loop) (match_if 0 0 is_zero ∷ []) (match_if 0 0 is_zero) ≡ false
conditional_match = refl

-- a jump leads to a matched block on one side only
half_matched : has_same_text (pair_of one_loop one_loop) (entry_match ∷ plain_match 1 2 ∷ []) entry_match ≡ false
half_matched = refl

-- one head has two partners
two_partners : has_same_text (pair_of (two_copies 1 1) (two_copies 1 3)) (entry_match ∷ []) entry_match ≡ false
two_partners = refl

-- one statement differs
unlike_bodies : has_same_text (pair_of one_loop (a_block [] (goto 1) ∷ head_to 2 3 ∷ a_block [] (goto 1) ∷ a_block [] (return (variable i ∷ [])) ∷ [])) (entry_match ∷ []) entry_match ≡ false
unlike_bodies = refl
