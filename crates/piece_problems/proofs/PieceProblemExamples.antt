-- Pieces and their questions, computed: in one graph x is returned, in the other x + 0.
use Rattle.std.proofs.Common.{◌≡◌, inl, ⊎_elim, ℕ, false, List, [], ◌∷◌, refl, subst, lit<}
use Rattle.std.proofs.lemmas.Bool.{false≢true}
use Rattle.kat_model.specs.declared.expression.Width.TheVariants.{W8}
use Rattle.kat_model.specs.Members.{Has}
use Rattle.flow_model.specs.declared.sort.Sort.TheVariants.{Number}
use Rattle.flow_model.specs.Expressions.{ExprTree, number, variable, plus}
use Rattle.flow_model.specs.Conditions.{always}
use Rattle.flow_model.specs.Graphs.{StatementTree, assign, claim, JumpTree, goto, return, Block, Graph, Pair}
use Rattle.flow_model.specs.Agreement.{AgreeAlways}
use Rattle.flow_model.specs.Matches.{Match}
use Rattle.flow_pieces.specs.Matches.{entry_match}
use Rattle.flow_pieces.specs.PieceGraphs.{return_mark}
use Rattle.flow_pieces.specs.PieceQuestions.{plain_match, IsProper}
use Rattle.piece_problems.specs.Questions.{AskedMatch, piece_question, HasGraphs, IsSamePiece}
use Rattle.piece_problems.proofs.SamePieces.{pieces_agree}

abbrev a_block : List StatementTree → JumpTree → Block
a_block stmts jump = record { is_cut = false; statements = stmts; jump = jump }

abbrev returning : ExprTree → Graph
returning e = a_block [] (goto 1) ∷ a_block [] (return (e ∷ [])) ∷ []

abbrev x : ExprTree
x = variable 0

abbrev pair_of : Graph → Graph → Pair
pair_of before after = record { sorts = Number W8 ∷ []; before = before; after = after }

abbrev sums : Pair
sums = pair_of (returning x) (returning (plus W8 x (number W8 0)))

abbrev ends : Match
ends = plain_match 1 1

abbrev ms : List Match
ms = entry_match ∷ ends ∷ []

abbrev asked_once : Match → AskedMatch
asked_once m = record { match = m; rounds = 1; splits = false }

-- the blocks before the returns have the same text
entry_holds : IsSamePiece sums ms (asked_once entry_match)
entry_holds = inl refl

-- the returns have two graphs
ends_unlike : HasGraphs sums ms (asked_once ends)
ends_unlike = record { unlike = refl; unambiguous = refl }

-- what is known at a match without equations
abbrev known : List StatementTree
known = claim always ∷ assign [] [] ∷ assign [] [] ∷ []

-- the question of the returns is whether x and x + 0, each after the mark of a return, are the same
its_question : piece_question sums ms (asked_once ends) ≡ record {
  pair =
      pair_of (a_block known (goto 1) ∷ a_block [] (return (return_mark ∷ x ∷ [])) ∷ [])
      (a_block known (goto 1) ∷ a_block [] (return (return_mark ∷ plus W8 x (number W8 0) ∷ [])) ∷ []);
  rounds = 1;
  splits = false;
}
its_question = refl

-- ---- the law, at two graphs with the same text

abbrev twins : Pair
twins = pair_of (returning x) (returning x)

plain_proper : (k l : ℕ) → IsProper twins (plain_match k l)
plain_proper k l = record {
  forth_sorted = λ e h. absurd h;
  back_sorted = λ e h. absurd h;
  keeping_sorted = λ e h. absurd h;
  condition_sorted = tt;
  ungiven = λ y h. absurd (⊎_elim false≢true false≢true h);
  unread = λ y h. absurd (⊎_elim false≢true false≢true h);
  own = λ y h live. absurd (false≢true h);
}

abbrev HoldsProperly : Match → Type 0
HoldsProperly m = IsProper twins m × IsSamePiece twins ms (asked_once m)

each_holds : (m : Match) → Has ms m → HoldsProperly m
each_holds m h =
    ⊎_elim (λ e. subst HoldsProperly e (plain_proper 0 0, inl refl))
    (λ q. ⊎_elim (λ e. subst HoldsProperly e (plain_proper 1 1, inl refl)) absurd q) h

twins_agree : AgreeAlways twins
twins_agree =
    pieces_agree twins ms ((tt, tt), ((tt, ((Number W8, refl), tt)), tt)) ((tt, tt), ((tt, ((Number W8, refl), tt)), tt)) (inl refl) (lit< tt)
    (λ m h. let holds = each_holds m h in (holds.0, (1, false, holds.1)))
