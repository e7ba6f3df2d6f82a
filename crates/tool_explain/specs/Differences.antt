-- A string that refutes a question, in the words of the file: its states and actions, which side relates its ends, and
-- where each side that is a program is then.
use Rattle.std.specs.Prelude.{◌≡◌, ◌<◌, ◌⊎◌, ℕ, suc, List, [], ◌∷◌, ◌++◌, codes, Bool, true, false, ◌&&◌, nat_eq, if◌then◌else◌, slice_get, length, map, Some}
use Rattle.std.specs.Fmt.{decimal}
use Rattle.kat_model.specs.Stores.{modulus}
use Rattle.kat_model.specs.Steps.{Atom}
use Rattle.kat_model.specs.Strings.{Move, GuardedString}
use Rattle.text_parser.specs.declared.meaning.Meaning.{Meaning}
use Rattle.text_print.specs.Printing.{name_of}
use Rattle.while_lang.specs.Programs.{ProgTree}
use Rattle.while_lang.specs.Files.{SideTree, term_side, prog_side, GoalTree, equal, below, triple, FileParts}
use Rattle.abstraction.specs.declared.rows.TestRow.{TestRow}
use Rattle.abstraction.specs.declared.rows.ActionRow.{ActionRow}
use Rattle.abstraction.specs.Abstracts.{AbstractParts}
use Rattle.abstraction.specs.ShownTables.{shown_tables}
use Rattle.abstraction.specs.Tests.{prog_flow}
use Rattle.tool_explain.specs.declared.place.Place.{Place}
use Rattle.tool_explain.specs.declared.place.Place.TheVariants.{Ended, Blocked, AtAction}
use Rattle.tool_explain.specs.Places.{place_of}
use Rattle.kat_report.specs.Paths.{path_text}
use Rattle.tool_explain.specs.Signed.{is_same, literal_text, action_at_text}

-- ---- states and actions

-- the text before a test of a state
abbrev pub comma_text : Bool → List ℕ
comma_text true = codes " "
comma_text false = codes ", "

-- the tests of an atom; `changes_text`: those whose value differs from that in the atom before
abbrev pub literals_text : ℕ → (Meaning → List ℕ) → Bool → List TestRow → Atom → List ℕ
literals_text m names first [] atom = []
literals_text m names first (row ∷ rows) [] = []
literals_text m names first (row ∷ rows) (b ∷ bs) = comma_text first ++ literal_text m names b row ++ literals_text m names false rows bs

-- a test with its value before and after, if they differ
abbrev pub change_text : ℕ → (Meaning → List ℕ) → Bool → Bool → Bool → TestRow → List ℕ
change_text m names first a b row = if is_same a b then [] else comma_text first ++ literal_text m names b row

abbrev pub changes_text : ℕ → (Meaning → List ℕ) → Bool → List TestRow → Atom → Atom → List ℕ
changes_text m names first [] olds news = []
changes_text m names first (row ∷ rows) [] news = []
changes_text m names first (row ∷ rows) (a ∷ olds) [] = []
changes_text m names first (row ∷ rows) (a ∷ olds) (b ∷ news) =
    change_text m names first a b row ++ changes_text m names (first && is_same a b) rows olds news

-- the line of a state, with its number; and of an action
abbrev pub state_line : ℕ → List ℕ → List ℕ
state_line k tests = decimal k ++ codes ":" ++ tests ++ codes "\n"

abbrev pub action_line : ℕ → (Meaning → List ℕ) → List ActionRow → ℕ → List ℕ
action_line m names rows a = codes "  " ++ action_at_text m names (slice_get rows a) ++ codes "\n"

-- the moves from a state with this number and this atom on
abbrev pub moves_text : ℕ → (Meaning → List ℕ) → AbstractParts → ℕ → Atom → List Move → List ℕ
moves_text m names a k atom [] = []
moves_text m names a k atom (v ∷ vs) =
    action_line m names a.actions v.act
    ++ state_line (suc k) (changes_text m names true a.tests atom v.atom)
    ++ moves_text m names a (suc k) v.atom vs

abbrev pub string_text : ℕ → (Meaning → List ℕ) → AbstractParts → GuardedString → List ℕ
string_text m names a x = state_line 0 (literals_text m names true a.tests x.first) ++ moves_text m names a 0 x.first x.rest

-- ---- sides

-- the program is listed at this position; the name is that of the first program of the file that is this program
abbrev pub IsListed : FileParts → ProgTree → ℕ → Type 0
IsListed f p i = slice_get (map (λ n. n.tree) f.progs) i ≡ Some p

pub record IsNameOfProg (f : FileParts) (p : ProgTree) (name : List ℕ) : Type 0 where
  pub position : ℕ
  pub listed : IsListed f p position
  pub first : (j : ℕ) → j < position → IsListed f p j → ⊥
  pub named : slice_get f.prog_names position ≡ Some name

-- the name of a side: of its program, or this word if it is a term
abbrev pub IsSideName : FileParts → List ℕ → SideTree → List ℕ → Type 0
IsSideName f word (term_side e) name = name ≡ word
IsSideName f word (prog_side p) name = IsNameOfProg f p name ⊎ (((i : ℕ) → IsListed f p i → ⊥) × (name ≡ word))

-- the names of the sides of a goal; a triple has one side, and the second name is empty
abbrev pub AreSideNames : FileParts → GoalTree → List ℕ → List ℕ → Type 0
AreSideNames f (equal s t) l r = IsSideName f (codes "left") s l × IsSideName f (codes "right") t r
AreSideNames f (below s t) l r = IsSideName f (codes "left") s l × IsSideName f (codes "right") t r
AreSideNames f (triple b s c) l r = IsSideName f (codes "body") s l × (r ≡ [])

-- ---- the last lines

-- which side relates the ends
abbrev pub relation_line : List ℕ → List ℕ → List ℕ
relation_line relating other = relating ++ codes " relates the ends, " ++ other ++ codes " does not\n"

abbrev pub sides_line : Bool → List ℕ → List ℕ → List ℕ
sides_line true l r = relation_line l r
sides_line false l r = relation_line r l

abbrev pub triple_line : List ℕ → ℕ → List ℕ
triple_line name last = name ++ codes " relates the ends: the precondition holds at 0, the postcondition fails at " ++ decimal last ++ codes "\n"

-- where a program is, by its place; `last` is the last position
abbrev pub ended_line : List ℕ → ℕ → ℕ → List ℕ
ended_line name last k = if nat_eq k last then name ++ codes " has ended\n" else name ++ codes " has ended too early, at " ++ decimal k ++ codes "\n"

abbrev pub blocked_line : List ℕ → ℕ → List ℕ → List ℕ
blocked_line name k path = name ++ codes " cannot continue at " ++ decimal k ++ codes ": it is at " ++ path_text path ++ codes "\n"

abbrev pub at_action_line : List ℕ → ℕ → ℕ → List ℕ → List ℕ
at_action_line name last k path = if nat_eq k last then name ++ codes " has more to do: it is at " ++ path_text path ++ codes "\n" else blocked_line name k path

abbrev pub place_line : List ℕ → ℕ → Place → List ℕ
place_line name last (Ended k) = ended_line name last k
place_line name last (Blocked k path) = blocked_line name k path
place_line name last (AtAction k path) = at_action_line name last k path

-- the line of a side, if it is a program
abbrev pub side_line : AbstractParts → GuardedString → List ℕ → SideTree → List ℕ
side_line a x name (term_side e) = []
side_line a x name (prog_side p) = place_line name (length x.rest) (place_of (prog_flow (shown_tables a) p) x)

-- the last lines, where `left` says that the left side relates the ends
abbrev pub goal_lines : AbstractParts → GuardedString → Bool → List ℕ → List ℕ → GoalTree → List ℕ
goal_lines a x left l r (equal s t) = sides_line left l r ++ side_line a x l s ++ side_line a x r t
goal_lines a x left l r (below s t) = sides_line left l r ++ side_line a x l s ++ side_line a x r t
goal_lines a x left l r (triple b s c) = triple_line l (length x.rest)

-- ---- the whole

abbrev pub difference_text : FileParts → AbstractParts → GuardedString → Bool → List ℕ → List ℕ → List ℕ
difference_text f a x left l r = string_text (modulus a.width) (name_of f.scope) a x ++ goal_lines a x left l r f.goal

-- the output explains the string: with the names of the sides
pub record ExplainsString (f : FileParts) (a : AbstractParts) (x : GuardedString) (left : Bool) (output : List ℕ) : Type 0 where
  pub left_name : List ℕ
  pub right_name : List ℕ
  pub names : AreSideNames f f.goal left_name right_name
  pub printed : output ≡ difference_text f a x left left_name right_name
