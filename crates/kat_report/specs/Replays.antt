-- A string as text, position by position, and what it shows about a problem.
use Rattle.std.specs.Prelude.{ℕ, suc, Bool, true, false, List, [], ◌∷◌, ◌++◌, codes}
use Rattle.std.specs.Fmt.{decimal}
use Rattle.kat_model.specs.Steps.{Atom}
use Rattle.kat_model.specs.Strings.{Move, GuardedString}
use Rattle.string_tables.specs.declared.finding.Finding.{Finding}
use Rattle.string_tables.specs.declared.finding.Finding.TheVariants.{Refutes, Shape, HypBroken, EndsAgree}

-- a space and test i, or its complement if it is false
abbrev pub literal_text : ℕ → Bool → List ℕ
literal_text i true = codes " t" ++ decimal i
literal_text i false = codes " !t" ++ decimal i

-- the tests of an atom from test i on
abbrev pub literals_text : ℕ → Atom → List ℕ
literals_text i [] = []
literals_text i (b ∷ bs) = literal_text i b ++ literals_text (suc i) bs

-- the line of a position: its number and its atom
abbrev pub position_line : ℕ → Atom → List ℕ
position_line k atom = decimal k ++ literals_text 0 atom ++ 10 ∷ []

-- the line of a move
abbrev pub move_line : ℕ → List ℕ
move_line a = codes "a" ++ decimal a ++ 10 ∷ []

-- the moves, each followed by its position, from position k on
abbrev pub moves_text : ℕ → List Move → List ℕ
moves_text k [] = []
moves_text k (m ∷ ms) = move_line m.act ++ position_line k m.atom ++ moves_text (suc k) ms

-- the positions of the string, and the moves between them
abbrev pub string_text : GuardedString → List ℕ
string_text x = position_line 0 x.first ++ moves_text 1 x.rest

-- the finding of a string that fits
abbrev pub finding_line : Finding → List ℕ
finding_line (Refutes true) = codes "refutes: left relates the ends, right does not\n"
finding_line (Refutes false) = codes "refutes: right relates the ends, left does not\n"
finding_line (HypBroken h i j) = codes "hypothesis " ++ decimal h ++ codes " relates " ++ decimal i ++ codes " to " ++ decimal j ++ 10 ∷ []
finding_line (EndsAgree true) = codes "both relate the ends\n"
finding_line (EndsAgree false) = codes "neither relates the ends\n"
finding_line (Shape k) = []

abbrev pub replay_text : GuardedString → Finding → List ℕ
replay_text x f = string_text x ++ finding_line f

-- the finding is for a string that fits
abbrev pub Fits : Finding → Type 0
Fits (Refutes b) = Unit {0}
Fits (HypBroken h i j) = Unit {0}
Fits (EndsAgree b) = Unit {0}
Fits (Shape k) = ⊥
