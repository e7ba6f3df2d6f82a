-- The pieces of a text with any names spell it, and no piece extends the one before it.
use Rattle.std.proofs.Common.{◌≡◌, ℕ, List, [], ◌∷◌, ◌++◌, map, refl, sym, ap, ◌∙◌, append_assoc}
use Rattle.std.proofs.lemmas.List.{append-nil}
use Rattle.std.specs.Prelude.{codes, flat_map}
use Rattle.std.specs.List.{range_with_len}
use Rattle.kat_model.specs.Trees.{Term}
use Rattle.kat_model.specs.Problems.{ProblemParts}
use Rattle.text_parser.specs.Pieces.{Piece, word, numeral, symbol, gap, spelled, AreSeparate}
use Rattle.text_parser.specs.declared.token.Kind.TheVariants.{Name}
use Rattle.text_parser.specs.Kinds.{IsToken}
use Rattle.text_parser.proofs.PrintedWords.{keyword_is_name}
use Rattle.text_parser.specs.declared.meaning.Meaning.{Meaning}
use Rattle.text_parser.specs.declared.meaning.Meaning.TheVariants.{Test, Action}
use Rattle.text_parser.specs.ScopeParts.{ScopeParts, IsIdentifier}
use Rattle.text_print.specs.Printing.{term_text, term_pieces, TermIsNamed}
use Rattle.text_print.proofs.PieceTexts.{term_spells}
use Rattle.text_print.proofs.Separate.{EndsWords, term_separate}
use Rattle.problem_file.specs.Questions.{declaration_text, hyp_text, goal_text}
use Rattle.problem_file.specs.NamedTexts.{names_line, named_text}
use Rattle.problem_file.specs.CommentedTexts.{comment_text, comments_text, Comments, first_comments, later_comments, commented_hyps, commented_text}
use Rattle.problem_file.proofs.Lines.{comment_pieces, spelled-comment}

-- the further names of a declaration, and its end
abbrev pub names_pieces : List (List ℕ) → List Piece → List Piece
names_pieces [] ps = symbol (codes ";") ∷ gap 10 ∷ ps
names_pieces (name ∷ names) ps = symbol (codes ",") ∷ gap 32 ∷ word name ∷ names_pieces names ps

abbrev pub declaration_pieces : List ℕ → List (List ℕ) → List Piece → List Piece
declaration_pieces keyword [] ps = ps
declaration_pieces keyword (name ∷ names) ps = word keyword ∷ gap 32 ∷ word name ∷ names_pieces names ps

-- the pieces after the term of a hypothesis
abbrev pub zero_pieces : List Piece → List Piece
zero_pieces ps = gap 32 ∷ symbol (codes "=") ∷ gap 32 ∷ numeral (codes "0") ∷ symbol (codes ";") ∷ gap 10 ∷ ps

-- comments, each on a line
abbrev pub comments_pieces : List (List ℕ) → List Piece → List Piece
comments_pieces [] ps = ps
comments_pieces (c ∷ cs) ps = comment_pieces c (comments_pieces cs ps)

-- the pieces after the right side of a goal, and those after its left side
abbrev pub end_pieces : List Piece
end_pieces = symbol (codes ";") ∷ gap 10 ∷ []

-- ---- their texts

names_spell : (names : List (List ℕ)) (ps : List Piece) → spelled (names_pieces names ps) ≡ flat_map (λ y. codes ", " ++ y) names ++ (59 ∷ 10 ∷ spelled ps)
names_spell [] ps = refl
names_spell (x ∷ xs) ps =
    ap (λ (l : List ℕ). 44 ∷ 32 ∷ (x ++ l)) (names_spell xs ps)
    ∙ ap (λ (l : List ℕ). 44 ∷ 32 ∷ l) (sym (append_assoc x (flat_map (λ y. codes ", " ++ y) xs) (59 ∷ 10 ∷ spelled ps)))

declaration_regrouped : (keyword x f r : List ℕ) → keyword ++ codes " " ++ (x ++ f) ++ codes ";\n" ++ r ≡ keyword ++ (32 ∷ (x ++ (f ++ (59 ∷ 10 ∷ r))))
declaration_regrouped keyword x f r = simp append_assoc

pub declaration_spells : (keyword : List ℕ) (names : List (List ℕ)) (ps : List Piece) → spelled (declaration_pieces keyword names ps) ≡ declaration_text keyword names ++ spelled ps
declaration_spells keyword [] ps = refl
declaration_spells keyword (x ∷ xs) ps =
    ap (λ (l : List ℕ). keyword ++ (32 ∷ (x ++ l))) (names_spell xs ps)
    ∙ sym (declaration_regrouped keyword x (flat_map (λ y. codes ", " ++ y) xs) (spelled ps))

hyp_regrouped : (x r : List ℕ) → codes "hyp " ++ x ++ codes " = 0;\n" ++ r ≡ 104 ∷ 121 ∷ 112 ∷ 32 ∷ (x ++ (32 ∷ 61 ∷ 32 ∷ 48 ∷ 59 ∷ 10 ∷ r))
hyp_regrouped x r = simp append_assoc

comments_spell : (cs : List (List ℕ)) (ps : List Piece) → spelled (comments_pieces cs ps) ≡ comments_text cs ++ spelled ps
comments_spell [] ps = refl
comments_spell (c ∷ cs) ps =
    spelled-comment c (comments_pieces cs ps)
    ∙ ap (λ (l : List ℕ). comment_text c ++ l) (comments_spell cs ps)
    ∙ sym (append_assoc (comment_text c) (comments_text cs) (spelled ps))

hyps_regrouped : (a b c d : List ℕ) → a ++ b ++ c ++ d ≡ a ++ (b ++ (c ++ d))
hyps_regrouped a b c d = simp append_assoc

goal_regrouped : (x y : List ℕ) → codes "goal equal " ++ x ++ codes ", " ++ y ++ codes ";\n" ≡ codes "goal equal " ++ (x ++ (44 ∷ 32 ∷ (y ++ (59 ∷ 10 ∷ []))))
goal_regrouped x y = simp append_assoc

question_regrouped : (a b c d e g : List ℕ) → a ++ b ++ c ++ d ++ e ++ g ≡ a ++ (b ++ (c ++ (d ++ (e ++ g))))
question_regrouped a b c d e g = simp append_assoc

-- ---- no piece of a declaration extends the one before it

abbrev pub AreIdentifiers : List (List ℕ) → Type 0
AreIdentifiers [] = Unit {0}
AreIdentifiers (name ∷ names) = IsIdentifier name × AreIdentifiers names

names_end : (names : List (List ℕ)) (ps : List Piece) → EndsWords (names_pieces names ps)
names_end [] ps = record { name = λ b. refl; number = λ b. refl }
names_end (x ∷ xs) ps = record { name = λ b. refl; number = λ b. refl }

names_separate : (names : List (List ℕ)) (ps : List Piece) → AreIdentifiers names → AreSeparate ps → AreSeparate (names_pieces names ps)
names_separate [] ps is after = (refl, refl, (refl, after))
names_separate (x ∷ xs) ps is after = (refl, refl, (refl, (is.0.name, (names_end xs ps).name x, names_separate xs ps is.1 after)))

pub declaration_separate : (keyword : List ℕ) (names : List (List ℕ)) (ps : List Piece) → IsToken Name keyword → AreIdentifiers names → AreSeparate ps → AreSeparate (declaration_pieces keyword names ps)
declaration_separate keyword [] ps token is after = after
declaration_separate keyword (x ∷ xs) ps token is after = (token, refl, (refl, (is.0.name, (names_end xs ps).name x, names_separate xs ps is.1 after)))

-- ---- questions

-- the text without comments
abbrev pub no_comments : Comments
no_comments = record { tests = []; actions = []; hyps = [] }

module _ (names : Meaning → List ℕ) where
  abbrev pub hyp_pieces : Term → List Piece → List Piece
  hyp_pieces e ps = word (codes "hyp") ∷ gap 32 ∷ term_pieces names e (zero_pieces ps)

  -- hypotheses, each after its comments
  abbrev pub hyps_pieces : List (List (List ℕ)) → List Term → List Piece → List Piece
  hyps_pieces cs [] ps = ps
  hyps_pieces cs (e ∷ es) ps = comments_pieces (first_comments cs) (hyp_pieces e (hyps_pieces (later_comments cs) es ps))

  abbrev pub right_pieces : Term → List Piece
  right_pieces right = symbol (codes ",") ∷ gap 32 ∷ term_pieces names right end_pieces

  abbrev pub goal_pieces : Term → Term → List Piece
  goal_pieces left right = word (codes "goal") ∷ gap 32 ∷ word (codes "equal") ∷ gap 32 ∷ term_pieces names left (right_pieces right)

  -- the names of `n` tests from number `k` on, and of `n` actions
  abbrev pub test_names : ℕ → ℕ → List (List ℕ)
  test_names k n = map (λ j. names (Test j)) (range_with_len k n)

  abbrev pub action_names : ℕ → ℕ → List (List ℕ)
  action_names k n = map (λ j. names (Action j)) (range_with_len k n)

  abbrev pub posed_pieces : Comments → ProblemParts → List Piece
  posed_pieces c q = hyps_pieces c.hyps q.hyps (goal_pieces q.left q.right)

  -- the actions, and what follows them
  abbrev pub acting_pieces : Comments → ProblemParts → List Piece
  acting_pieces c q = comments_pieces c.actions (declaration_pieces (codes "action") (action_names 0 q.actions) (posed_pieces c q))

  abbrev pub question_pieces : Comments → ProblemParts → List Piece
  question_pieces c q = comments_pieces c.tests (declaration_pieces (codes "test") (test_names 0 q.tests) (acting_pieces c q))

  -- ---- the texts of the pieces

  -- the declarations of the tests and of the actions
  abbrev tests_line : ProblemParts → List ℕ
  tests_line q = names_line (codes "test") names Test q.tests

  abbrev actions_line : ProblemParts → List ℕ
  actions_line q = names_line (codes "action") names Action q.actions

  hyp_spells : (e : Term) (ps : List Piece) → spelled (hyp_pieces e ps) ≡ hyp_text names e ++ spelled ps
  hyp_spells e ps =
      ap (λ (l : List ℕ). 104 ∷ 121 ∷ 112 ∷ 32 ∷ l) (term_spells names e (zero_pieces ps))
      ∙ sym (hyp_regrouped (term_text names e) (spelled ps))

  hyps_spell : (cs : List (List (List ℕ))) (es : List Term) (ps : List Piece) → spelled (hyps_pieces cs es ps) ≡ commented_hyps names cs es ++ spelled ps
  hyps_spell cs [] ps = refl
  hyps_spell cs (e ∷ es) ps =
      comments_spell (first_comments cs) (hyp_pieces e (hyps_pieces (later_comments cs) es ps))
      ∙ ap (λ (l : List ℕ). comments_text (first_comments cs) ++ l)
      (hyp_spells e (hyps_pieces (later_comments cs) es ps)
      ∙ ap (λ (l : List ℕ). hyp_text names e ++ l) (hyps_spell (later_comments cs) es ps))
      ∙ sym (hyps_regrouped (comments_text (first_comments cs)) (hyp_text names e) (commented_hyps names (later_comments cs) es) (spelled ps))

  goal_spells : (left right : Term) → spelled (goal_pieces left right) ≡ goal_text names left right
  goal_spells left right =
      ap (λ (l : List ℕ). codes "goal equal " ++ l)
      (term_spells names left (right_pieces right)
      ∙ ap (λ (l : List ℕ). term_text names left ++ (44 ∷ 32 ∷ l)) (term_spells names right end_pieces))
      ∙ sym (goal_regrouped (term_text names left) (term_text names right))

  pub question_spells : (c : Comments) (q : ProblemParts) → spelled (question_pieces c q) ≡ commented_text names c q
  question_spells c q =
      let goal = goal_pieces q.left q.right in
      let posed = posed_pieces c q in
      let actions = declaration_pieces (codes "action") (action_names 0 q.actions) posed in
      let acting = acting_pieces c q in
      comments_spell c.tests (declaration_pieces (codes "test") (test_names 0 q.tests) acting)
      ∙ ap (λ (l : List ℕ). comments_text c.tests ++ l)
      (declaration_spells (codes "test") (test_names 0 q.tests) acting
      ∙ ap (λ (l : List ℕ). tests_line q ++ l)
      (comments_spell c.actions actions
      ∙ ap (λ (l : List ℕ). comments_text c.actions ++ l)
      (declaration_spells (codes "action") (action_names 0 q.actions) posed
      ∙ ap (λ (l : List ℕ). actions_line q ++ l) (hyps_spell c.hyps q.hyps goal ∙ ap (λ (l : List ℕ). commented_hyps names c.hyps q.hyps ++ l) (goal_spells q.left q.right)))))
      ∙ sym (question_regrouped (comments_text c.tests) (tests_line q) (comments_text c.actions) (actions_line q) (commented_hyps names c.hyps q.hyps) (goal_text names q.left q.right))

  uncommented_hyps : (es : List Term) → commented_hyps names [] es ≡ flat_map (hyp_text names) es
  uncommented_hyps [] = refl
  uncommented_hyps (e ∷ es) = ap (λ (l : List ℕ). hyp_text names e ++ l) (uncommented_hyps es)

  pub uncommented_text : (q : ProblemParts) → commented_text names no_comments q ≡ named_text names q
  uncommented_text q =
      ap (λ (l : List ℕ). l ++ actions_line q ++ commented_hyps names [] q.hyps ++ goal_text names q.left q.right) (append-nil (tests_line q))
      ∙ ap (λ (l : List ℕ). tests_line q ++ actions_line q ++ l ++ goal_text names q.left q.right) (uncommented_hyps q.hyps)

  -- ---- the pieces are separate

  module _ (w : ScopeParts) where
    abbrev pub AreNamed : List Term → Type 0
    AreNamed [] = Unit {0}
    AreNamed (e ∷ es) = TermIsNamed w names e × AreNamed es

    pub hyp_separate : (e : Term) (ps : List Piece) → TermIsNamed w names e → AreSeparate ps → AreSeparate (hyp_pieces e ps)
    hyp_separate e ps is after =
        let rest : AreSeparate (zero_pieces ps) = (refl, (refl, refl, (refl, (refl, refl, (refl, refl, (refl, after)))))) in
        (keyword_is_name (codes "hyp") refl, refl, (refl, term_separate w names e is (zero_pieces ps) (record { name = λ b. refl; number = λ b. refl }) rest))

    pub goal_separate : (left right : Term) → TermIsNamed w names left → TermIsNamed w names right → AreSeparate (goal_pieces left right)
    goal_separate left right l r =
        let last : AreSeparate end_pieces = (refl, refl, (refl, tt)) in
        let second : AreSeparate (right_pieces right) = (refl, refl, (refl, term_separate w names right r end_pieces (record { name = λ b. refl; number = λ b. refl }) last)) in
        (keyword_is_name (codes "goal") refl, refl, (refl, (keyword_is_name (codes "equal") refl, refl, (refl, term_separate w names left l (right_pieces right) (record { name = λ b. refl; number = λ b. refl }) second))))
