-- The pieces of two loops, computed: one counts up to n, the other down to 0, with `k := n - i` at their heads.
use Rattle.std.proofs.Common.{◌≡◌, ℕ, false, List, [], ◌∷◌, refl}
use Rattle.kat_model.specs.declared.expression.Rel.TheVariants.{Eq, Ne}
use Rattle.kat_model.specs.declared.expression.Width.TheVariants.{W8}
use Rattle.flow_model.specs.declared.sort.Sort.TheVariants.{Number}
use Rattle.flow_model.specs.Expressions.{number, variable, plus, minus}
use Rattle.flow_model.specs.Conditions.{CondTree, always, compared}
use Rattle.flow_model.specs.Graphs.{StatementTree, assign, JumpTree, goto, branch, return, Block, Graph, Pair}
use Rattle.flow_model.specs.Interpretations.{Interpretation}
use Rattle.flow_model.specs.Runs.{run_from, returned, stuck}
use Rattle.flow_model.specs.Matches.{Equation, Match}
use Rattle.flow_pieces.specs.Matches.{entry_match}
use Rattle.flow_pieces.specs.PieceGraphs.{Exit, side_before, side_blocks, piece_pair}

abbrev no_functions : Interpretation
no_functions f ns = 0

abbrev i : ℕ
i = 0

abbrev n : ℕ
n = 1

abbrev s : ℕ
s = 2

abbrev k : ℕ
k = 3

abbrev a_block : List StatementTree → JumpTree → Block
a_block stmts jump = record { is_cut = false; statements = stmts; jump = jump }

abbrev up : Graph
up =
    a_block (assign (i ∷ s ∷ []) (number W8 0 ∷ number W8 0 ∷ []) ∷ []) (goto 1)
    ∷ a_block [] (branch (compared Ne (variable i) (variable n)) 2 3)
    ∷ a_block (assign (s ∷ []) (plus W8 (variable s) (variable i) ∷ []) ∷ assign (i ∷ []) (plus W8 (variable i) (number W8 1) ∷ []) ∷ []) (goto 1)
    ∷ a_block [] (return (variable s ∷ []))
    ∷ []

abbrev down : Graph
down =
    a_block (assign (k ∷ s ∷ []) (variable n ∷ number W8 0 ∷ []) ∷ []) (goto 1)
    ∷ a_block [] (branch (compared Ne (variable k) (number W8 0)) 2 3)
    ∷ a_block (assign (s ∷ k ∷ []) (plus W8 (variable s) (minus W8 (variable n) (variable k)) ∷ minus W8 (variable k) (number W8 1) ∷ []) ∷ []) (goto 1)
    ∷ a_block [] (return (variable s ∷ []))
    ∷ []

abbrev loops : Pair
loops = record { sorts = Number W8 ∷ Number W8 ∷ Number W8 ∷ Number W8 ∷ []; before = up; after = down }

abbrev heads_with : List Equation → CondTree → Match
heads_with keeping condition = record {
  before = 1;
  after = 1;
  forth = record { variable = k; expression = minus W8 (variable n) (variable i) } ∷ [];
  back = [];
  keeping = keeping;
  condition = condition;
}

abbrev heads : Match
heads = heads_with [] always

abbrev to_heads : Match → Exit
to_heads m = record { rows = 1 ∷ []; columns = 1 ∷ []; match = m; live = n ∷ s ∷ k ∷ [] }

abbrev piece_of : Match → Pair
piece_of m = piece_pair loops (entry_match ∷ heads ∷ []) m (to_heads heads ∷ [])

-- the piece of the heads has the blocks after the head and the head itself
its_blocks : side_blocks (side_before loops (entry_match ∷ heads ∷ []) heads []) ≡ 1 ∷ 3 ∷ 2 ∷ []
its_blocks = refl

-- from i = 3, n = 5 and s = 7 both sides go round once, and return the mark of the exit, n, s, and k or its value
once_up : run_from no_functions (piece_of heads).before 9 0 (3 ∷ 5 ∷ 7 ∷ 0 ∷ []) ≡ returned (3 ∷ 5 ∷ 10 ∷ 1 ∷ [])
once_up = refl

once_down : run_from no_functions (piece_of heads).after 9 0 (3 ∷ 5 ∷ 7 ∷ 0 ∷ []) ≡ returned (3 ∷ 5 ∷ 10 ∷ 1 ∷ [])
once_down = refl

-- at the end both return the mark of a return, and s
end_up : run_from no_functions (piece_of heads).before 9 0 (5 ∷ 5 ∷ 7 ∷ 0 ∷ []) ≡ returned (0 ∷ 7 ∷ [])
end_up = refl

end_down : run_from no_functions (piece_of heads).after 9 0 (5 ∷ 5 ∷ 7 ∷ 0 ∷ []) ≡ returned (0 ∷ 7 ∷ [])
end_down = refl

-- the piece of the entries leads to the heads
entry_up : run_from no_functions (piece_of entry_match).before 9 0 (3 ∷ 5 ∷ 7 ∷ 0 ∷ []) ≡ returned (3 ∷ 5 ∷ 0 ∷ 5 ∷ [])
entry_up = refl

entry_down : run_from no_functions (piece_of entry_match).after 9 0 (3 ∷ 5 ∷ 7 ∷ 0 ∷ []) ≡ returned (3 ∷ 5 ∷ 0 ∷ 5 ∷ [])
entry_down = refl

-- an exit whose condition fails is not left by: the mark is one that only the first side returns
lost : run_from no_functions (piece_pair loops (entry_match ∷ heads ∷ []) heads (to_heads (heads_with [] (compared Eq (variable i) (number W8 0))) ∷ [])).before 9 0 (3 ∷ 5 ∷ 7 ∷ 0 ∷ []) ≡ returned (1 ∷ [])
lost = refl

-- without an exit the second side returns a mark of its own
nowhere : run_from no_functions (piece_pair loops (entry_match ∷ heads ∷ []) heads []).after 9 0 (3 ∷ 5 ∷ 7 ∷ 0 ∷ []) ≡ returned (2 ∷ [])
nowhere = refl

-- what a match keeps is supposed at its piece
unkept : run_from no_functions (piece_of (heads_with (record { variable = i; expression = number W8 0 } ∷ []) always)).before 9 0 (3 ∷ 5 ∷ 7 ∷ 0 ∷ []) ≡ stuck
unkept = refl
