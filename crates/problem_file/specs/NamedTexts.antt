-- The text that asks a question, where the tests and actions have any names.
use Rattle.std.specs.Prelude.{◌≡◌, ◌<◌, ◌≤◌, ℕ, List, ◌∷◌, ◌++◌, length, map, codes, All, flat_map}
use Rattle.std.specs.List.{range_with_len}
use Rattle.kat_model.specs.declared.limits.TheConstants.{MAX_HYPS, MAX_OPEN, MAX_TEXT_BYTES}
use Rattle.kat_model.specs.Problems.{ProblemParts, IsProblem}
use Rattle.text_parser.specs.declared.meaning.Meaning.{Meaning}
use Rattle.text_parser.specs.declared.meaning.Meaning.TheVariants.{Test, Action}
use Rattle.text_parser.specs.ScopeParts.{IsIdentifier}
use Rattle.text_print.specs.Printing.{term_nesting}
use Rattle.problem_file.specs.Questions.{declaration_text, hyp_text, goal_text}

-- the declaration of the first `n` meanings of a kind, by their names; empty if `n` is 0
abbrev pub names_line : List ℕ → (Meaning → List ℕ) → (ℕ → Meaning) → ℕ → List ℕ
names_line keyword names kind n = declaration_text keyword (map (λ k. names (kind k)) (range_with_len 0 n))

-- the text that asks the question, where each meaning has a name
abbrev pub named_text : (Meaning → List ℕ) → ProblemParts → List ℕ
named_text names q =
    names_line (codes "test") names Test q.tests ++ names_line (codes "action") names Action q.actions ++ flat_map (hyp_text names) q.hyps ++ goal_text names q.left q.right

-- a test or an action whose number is in range
abbrev pub IsOneOf : ℕ → ℕ → Meaning → Type 0
IsOneOf tests actions (Test k) = k < tests
IsOneOf tests actions (Action a) = a < actions
IsOneOf tests actions _ = ⊥

-- each of the tests and actions has an identifier as its name, and no two have the same name
pub record AreNames (names : Meaning → List ℕ) (tests actions : ℕ) : Type 0 where
  pub identifiers : (m : Meaning) → IsOneOf tests actions m → IsIdentifier (names m)
  pub apart : (m n : Meaning) → IsOneOf tests actions m → IsOneOf tests actions n → names m ≡ names n → m ≡ n

-- the question is a problem whose tests and actions have such names, and its text is within the limits on hypotheses,
-- on open constructs, and on bytes
pub record IsNamedPrintable (names : Meaning → List ℕ) (q : ProblemParts) : Type 0 where
  pub problem : IsProblem q
  pub named : AreNames names q.tests q.actions
  pub hyps : length q.hyps ≤ MAX_HYPS
  pub shallow : All (λ e. term_nesting e ≤ MAX_OPEN) (q.left ∷ q.right ∷ q.hyps)
  pub short : length (named_text names q) ≤ MAX_TEXT_BYTES
