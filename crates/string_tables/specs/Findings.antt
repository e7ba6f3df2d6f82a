-- What a string shows of a question: the first case that holds, with its least numbers.
use Rattle.std.specs.Prelude.{◌≡◌, ◌⊎◌, ◌<◌, ℕ, suc, List, [], ◌∷◌, length, Option, Some, None, slice_get, true, false, ◌&&◌, ◌==◌, nat_lt, if◌then◌else◌}
use Rattle.kat_model.specs.Trees.{Term}
use Rattle.kat_model.specs.Problems.{ProblemParts}
use Rattle.kat_model.specs.Relations.{Relates, Keeps}
use Rattle.kat_model.specs.Strings.{Move, GuardedString}
use Rattle.string_tables.specs.Tables.{table_of, RelatesEnds}
use Rattle.string_tables.specs.declared.finding.Finding.{Finding}
use Rattle.string_tables.specs.declared.finding.Finding.TheVariants.{Refutes as RefutesBy, Shape, HypBroken, EndsAgree}

-- the least position from k on whose atom does not assign every test, or whose action is out of range
abbrev pub misfit_from : ℕ → ℕ → ℕ → List Move → Option ℕ
misfit_from tests actions k [] = None
misfit_from tests actions k (m ∷ ms) = if nat_lt m.act actions && (length m.atom == tests) then misfit_from tests actions (suc k) ms else Some k

abbrev pub misfit : ProblemParts → GuardedString → Option ℕ
misfit q x = if length x.first == q.tests then misfit_from q.tests q.actions 1 x.rest else Some 0

-- hypothesis h relates position i to position j
pub record IsBroken (q : ProblemParts) (x : GuardedString) (h i j : ℕ) : Type 0 where
  pub hyp : Term
  pub is : slice_get q.hyps h ≡ Some hyp
  pub from : i < suc (length x.rest)
  pub to : j < suc (length x.rest)
  pub relates : Relates (table_of x) hyp i j

-- triples are ordered by the first number, then by the second, then by the third
abbrev pub IsBefore : ℕ → ℕ → ℕ → ℕ → ℕ → ℕ → Type 0
IsBefore g h i k j l = (g < h) ⊎ ((g ≡ h) × ((i < k) ⊎ ((i ≡ k) × (j < l))))

pub record IsFirstBroken (q : ProblemParts) (x : GuardedString) (h i j : ℕ) : Type 0 where
  pub broken : IsBroken q x h i j
  pub first : (g k l : ℕ) → IsBefore g h k i l j → IsBroken q x g k l → ⊥

-- the string fits and its table keeps the hypotheses
abbrev pub Counts : ProblemParts → GuardedString → Type 0
Counts q x = (misfit q x ≡ None) × Keeps (table_of x) q.hyps

abbrev pub IsFinding : ProblemParts → GuardedString → Finding → Type 0
IsFinding q x (Shape k) = misfit q x ≡ Some k
IsFinding q x (HypBroken h i j) = (misfit q x ≡ None) × IsFirstBroken q x h i j
IsFinding q x (EndsAgree true) = Counts q x × RelatesEnds x q.left × RelatesEnds x q.right
IsFinding q x (EndsAgree false) = Counts q x × (RelatesEnds x q.left → ⊥) × (RelatesEnds x q.right → ⊥)
IsFinding q x (RefutesBy true) = Counts q x × RelatesEnds x q.left × (RelatesEnds x q.right → ⊥)
IsFinding q x (RefutesBy false) = Counts q x × (RelatesEnds x q.left → ⊥) × RelatesEnds x q.right
