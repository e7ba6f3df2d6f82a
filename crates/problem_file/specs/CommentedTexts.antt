-- The text that asks a question, with any names and with comments before its declarations and its hypotheses.
use Rattle.std.specs.Prelude.{◌≡◌, ◌≤◌, ℕ, List, [], ◌∷◌, ◌++◌, length, true, not, ◌==◌, codes, All, flat_map}
use Rattle.std.specs.List.{list_all}
use Rattle.std.specs.Str.{IsUtf8}
use Rattle.kat_model.specs.declared.limits.TheConstants.{MAX_HYPS, MAX_OPEN, MAX_TEXT_BYTES}
use Rattle.kat_model.specs.Trees.{Term}
use Rattle.kat_model.specs.Problems.{ProblemParts, IsProblem}
use Rattle.text_parser.specs.declared.meaning.Meaning.{Meaning}
use Rattle.text_parser.specs.declared.meaning.Meaning.TheVariants.{Test, Action}
use Rattle.text_print.specs.Printing.{term_nesting}
use Rattle.problem_file.specs.Questions.{hyp_text, goal_text}
use Rattle.problem_file.specs.NamedTexts.{names_line, AreNames}

-- the bytes are text in one line
abbrev pub IsComment : List ℕ → Type 0
IsComment bytes = IsUtf8 bytes × (list_all (λ b. not (b == 10)) bytes ≡ true)

-- `#`, the comment, and a line feed
abbrev pub comment_text : List ℕ → List ℕ
comment_text bytes = codes "#" ++ bytes ++ codes "\n"

abbrev pub comments_text : List (List ℕ) → List ℕ
comments_text cs = flat_map comment_text cs

-- the comments before the tests, before the actions, and before each hypothesis
pub record Comments : Type 0 where
  pub tests : List (List ℕ)
  pub actions : List (List ℕ)
  pub hyps : List (List (List ℕ))

-- the comments before the first hypothesis, and those before the others; there may be none
abbrev pub first_comments : List (List (List ℕ)) → List (List ℕ)
first_comments [] = []
first_comments (c ∷ cs) = c

abbrev pub later_comments : List (List (List ℕ)) → List (List (List ℕ))
later_comments [] = []
later_comments (c ∷ cs) = cs

abbrev pub commented_hyps : (Meaning → List ℕ) → List (List (List ℕ)) → List Term → List ℕ
commented_hyps names cs [] = []
commented_hyps names cs (e ∷ es) = comments_text (first_comments cs) ++ hyp_text names e ++ commented_hyps names (later_comments cs) es

-- the text that asks the question, with comments, where each meaning has a name
abbrev pub commented_text : (Meaning → List ℕ) → Comments → ProblemParts → List ℕ
commented_text names c q =
    comments_text c.tests ++ names_line (codes "test") names Test q.tests ++ comments_text c.actions ++ names_line (codes "action") names Action q.actions
    ++ commented_hyps names c.hyps q.hyps ++ goal_text names q.left q.right

abbrev pub AreComments : List (List ℕ) → Type 0
AreComments [] = Unit {0}
AreComments (c ∷ cs) = IsComment c × AreComments cs

abbrev pub EachAreComments : List (List (List ℕ)) → Type 0
EachAreComments [] = Unit {0}
EachAreComments (c ∷ cs) = AreComments c × EachAreComments cs

-- each comment is text in one line
pub record AreOneLine (c : Comments) : Type 0 where
  pub tests : AreComments c.tests
  pub actions : AreComments c.actions
  pub hyps : EachAreComments c.hyps

-- the question is a problem whose tests and actions have names, the comments are lines, and the text with comments is
-- within the limits
pub record IsCommentedPrintable (names : Meaning → List ℕ) (c : Comments) (q : ProblemParts) : Type 0 where
  pub problem : IsProblem q
  pub named : AreNames names q.tests q.actions
  pub hyps : length q.hyps ≤ MAX_HYPS
  pub shallow : All (λ e. term_nesting e ≤ MAX_OPEN) (q.left ∷ q.right ∷ q.hyps)
  pub comments : AreOneLine c
  pub short : length (commented_text names c q) ≤ MAX_TEXT_BYTES
