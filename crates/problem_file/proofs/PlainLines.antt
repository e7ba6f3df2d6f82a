-- The pieces of a text with comments are those of its lines.
use Rattle.std.proofs.Common.{◌≡◌, ℕ, List, [], ◌∷◌, ◌++◌, Bool, true, false, if◌then◌else◌, refl, ap, ◌∙◌, subst}
use Rattle.std.specs.Prelude.{codes}
use Rattle.kat_model.specs.Trees.{TestTree, bottom, top, prim, complement, meet, join, Term, zero, one, test, act, sum, product, star}
use Rattle.kat_model.specs.Problems.{ProblemParts}
use Rattle.text_parser.specs.declared.token.Kind.TheVariants.{Name}
use Rattle.text_parser.specs.Kinds.{IsToken}
use Rattle.text_parser.specs.Pieces.{Piece, word, numeral, symbol, gap, AreSeparate}
use Rattle.text_parser.specs.declared.meaning.Meaning.{Meaning}
use Rattle.text_parser.specs.ScopeParts.{ScopeParts}
use Rattle.text_print.specs.Printing.{cond_of, is_star, in_round, spaced, cond_pieces, test_pieces, term_pieces, TermIsNamed}
use Rattle.problem_file.specs.CommentedTexts.{Comments, first_comments, later_comments, AreComments, EachAreComments}
use Rattle.problem_file.proofs.Lines.{Line, code, remark, comment_pieces, lines_pieces, AreLines}
use Rattle.problem_file.proofs.PlainPieces.{names_pieces, declaration_pieces, hyp_pieces, comments_pieces, hyps_pieces, goal_pieces, test_names, action_names, posed_pieces, acting_pieces, question_pieces, AreIdentifiers, declaration_separate, AreNamed, hyp_separate, goal_separate}

-- ---- phrases before two lists of pieces

-- the pieces of the phrase precede both
abbrev Appends : (List Piece → List Piece) → Type 0
Appends pieces = (xs ys : List Piece) → pieces (xs ++ ys) ≡ pieces xs ++ ys

spaced_appends : (between : List ℕ) (left right : List Piece → List Piece) → Appends left → Appends right → Appends (spaced between left right)
spaced_appends between left right l r xs ys =
    let close = symbol (codes ")") in
    let inner = gap 32 ∷ symbol between ∷ gap 32 ∷ right (close ∷ xs) in
    ap (λ (ps : List Piece). symbol (codes "(") ∷ ps)
    (ap (λ (ps : List Piece). left (gap 32 ∷ symbol between ∷ gap 32 ∷ ps)) (r (close ∷ xs) ys) ∙ l inner ys)

star_appends : (inside : List Piece → List Piece) → Appends inside → (b : Bool) (xs ys : List Piece)
    → (if b then in_round inside (symbol (codes "*") ∷ (xs ++ ys)) else inside (symbol (codes "*") ∷ (xs ++ ys))) ≡ (if b then in_round inside (symbol (codes "*") ∷ xs) else inside (symbol (codes "*") ∷ xs)) ++ ys
star_appends inside h true xs ys = ap (λ (ps : List Piece). symbol (codes "(") ∷ ps) (h (symbol (codes ")") ∷ symbol (codes "*") ∷ xs) ys)
star_appends inside h false xs ys = h (symbol (codes "*") ∷ xs) ys

module _ (names : Meaning → List ℕ) where
  cond_appends : (b : TestTree) → Appends (cond_pieces names (cond_of b))
  cond_appends bottom xs ys = refl
  cond_appends top xs ys = refl
  cond_appends (prim k) xs ys = refl
  cond_appends (complement b) xs ys = ap (λ (ps : List Piece). symbol (codes "!") ∷ ps) (cond_appends b xs ys)
  cond_appends (meet b c) xs ys = spaced_appends (codes "&&") (cond_pieces names (cond_of b)) (cond_pieces names (cond_of c)) (cond_appends b) (cond_appends c) xs ys
  cond_appends (join b c) xs ys = spaced_appends (codes "||") (cond_pieces names (cond_of b)) (cond_pieces names (cond_of c)) (cond_appends b) (cond_appends c) xs ys

  bracket_appends : (b : TestTree) → Appends (λ ps. symbol (codes "[") ∷ cond_pieces names (cond_of b) (symbol (codes "]") ∷ ps))
  bracket_appends b xs ys = ap (λ (ps : List Piece). symbol (codes "[") ∷ ps) (cond_appends b (symbol (codes "]") ∷ xs) ys)

  test_appends : (b : TestTree) → Appends (test_pieces names b)
  test_appends (prim k) xs ys = refl
  test_appends bottom xs ys = bracket_appends bottom xs ys
  test_appends top xs ys = bracket_appends top xs ys
  test_appends (complement b) xs ys = bracket_appends (complement b) xs ys
  test_appends (meet b c) xs ys = bracket_appends (meet b c) xs ys
  test_appends (join b c) xs ys = bracket_appends (join b c) xs ys

  term_appends : (e : Term) → Appends (term_pieces names e)
  term_appends zero xs ys = refl
  term_appends one xs ys = refl
  term_appends (test b) xs ys = test_appends b xs ys
  term_appends (act a) xs ys = refl
  term_appends (sum e f) xs ys = spaced_appends (codes "+") (term_pieces names e) (term_pieces names f) (term_appends e) (term_appends f) xs ys
  term_appends (product e f) xs ys =
      let close = symbol (codes ")") in
      let inner = symbol (codes ".") ∷ term_pieces names f (close ∷ xs) in
      ap (λ (ps : List Piece). symbol (codes "(") ∷ ps)
      (ap (λ (ps : List Piece). term_pieces names e (symbol (codes ".") ∷ ps)) (term_appends f (close ∷ xs) ys) ∙ term_appends e inner ys)
  term_appends (star e) xs ys = star_appends (term_pieces names e) (term_appends e) (is_star e) xs ys

-- ---- the lines

-- the further names of a declaration and the semicolon
abbrev names_line : List (List ℕ) → List Piece
names_line [] = symbol (codes ";") ∷ []
names_line (name ∷ names) = symbol (codes ",") ∷ gap 32 ∷ word name ∷ names_line names

abbrev declaration_lines : List ℕ → List (List ℕ) → List Line → List Line
declaration_lines keyword [] ls = ls
declaration_lines keyword (name ∷ names) ls = code (word keyword ∷ gap 32 ∷ word name ∷ names_line names) ∷ ls

abbrev comments_lines : List (List ℕ) → List Line → List Line
comments_lines [] ls = ls
comments_lines (c ∷ cs) ls = remark c ∷ comments_lines cs ls

-- what follows the term of a hypothesis on its line
abbrev zero_line : List Piece
zero_line = gap 32 ∷ symbol (codes "=") ∷ gap 32 ∷ numeral (codes "0") ∷ symbol (codes ";") ∷ []

-- ---- declarations and comments have the pieces of their lines

names_are : (names : List (List ℕ)) (ps : List Piece) → names_pieces names ps ≡ names_line names ++ (gap 10 ∷ ps)
names_are [] ps = refl
names_are (x ∷ xs) ps = ap (λ (l : List Piece). symbol (codes ",") ∷ gap 32 ∷ word x ∷ l) (names_are xs ps)

declaration_are : (keyword : List ℕ) (names : List (List ℕ)) (ps : List Piece) (ls : List Line) → ps ≡ lines_pieces ls → declaration_pieces keyword names ps ≡ lines_pieces (declaration_lines keyword names ls)
declaration_are keyword [] ps ls e = e
declaration_are keyword (x ∷ xs) ps ls e =
    ap (λ (l : List Piece). word keyword ∷ gap 32 ∷ word x ∷ l) (names_are xs ps ∙ ap (λ (l : List Piece). names_line xs ++ (gap 10 ∷ l)) e)

comments_are : (cs : List (List ℕ)) (ps : List Piece) (ls : List Line) → ps ≡ lines_pieces ls → comments_pieces cs ps ≡ lines_pieces (comments_lines cs ls)
comments_are [] ps ls e = e
comments_are (c ∷ cs) ps ls e = ap (comment_pieces c) (comments_are cs ps ls e)

-- ---- no piece of theirs extends the one before it

declaration_good : (keyword : List ℕ) (names : List (List ℕ)) (ls : List Line) → IsToken Name keyword → AreIdentifiers names → AreLines ls → AreLines (declaration_lines keyword names ls)
declaration_good keyword [] ls token is good = good
declaration_good keyword (x ∷ xs) ls token is good = (subst AreSeparate (declaration_are keyword (x ∷ xs) [] [] refl) (declaration_separate keyword (x ∷ xs) [] token is tt), good)

comments_good : (cs : List (List ℕ)) (ls : List Line) → AreComments cs → AreLines ls → AreLines (comments_lines cs ls)
comments_good [] ls is good = good
comments_good (c ∷ cs) ls is good = (is.0, comments_good cs ls is.1 good)

first_are : (cs : List (List (List ℕ))) → EachAreComments cs → AreComments (first_comments cs)
first_are [] is = tt
first_are (c ∷ cs) is = is.0

later_are : (cs : List (List (List ℕ))) → EachAreComments cs → EachAreComments (later_comments cs)
later_are [] is = tt
later_are (c ∷ cs) is = is.1

-- ---- questions

module _ (names : Meaning → List ℕ) where
  abbrev hyp_line : Term → List Piece
  hyp_line e = word (codes "hyp") ∷ gap 32 ∷ term_pieces names e zero_line

  abbrev hyps_lines : List (List (List ℕ)) → List Term → List Line → List Line
  hyps_lines cs [] ls = ls
  hyps_lines cs (e ∷ es) ls = comments_lines (first_comments cs) (code (hyp_line e) ∷ hyps_lines (later_comments cs) es ls)

  -- what follows the left side of a goal on its line
  abbrev right_line : Term → List Piece
  right_line right = symbol (codes ",") ∷ gap 32 ∷ term_pieces names right (symbol (codes ";") ∷ [])

  abbrev goal_line : Term → Term → List Piece
  goal_line left right = word (codes "goal") ∷ gap 32 ∷ word (codes "equal") ∷ gap 32 ∷ term_pieces names left (right_line right)

  abbrev pub posed_lines : Comments → ProblemParts → List Line
  posed_lines c q = hyps_lines c.hyps q.hyps (code (goal_line q.left q.right) ∷ [])

  abbrev acting_lines : Comments → ProblemParts → List Line
  acting_lines c q = comments_lines c.actions (declaration_lines (codes "action") (action_names names 0 q.actions) (posed_lines c q))

  abbrev pub question_lines : Comments → ProblemParts → List Line
  question_lines c q = comments_lines c.tests (declaration_lines (codes "test") (test_names names 0 q.tests) (acting_lines c q))

  -- ---- they have the pieces of the text

  hyp_is : (e : Term) (ps : List Piece) → hyp_pieces names e ps ≡ hyp_line e ++ (gap 10 ∷ ps)
  hyp_is e ps = ap (λ (l : List Piece). word (codes "hyp") ∷ gap 32 ∷ l) (term_appends names e zero_line (gap 10 ∷ ps))

  hyps_are : (cs : List (List (List ℕ))) (es : List Term) (ps : List Piece) (ls : List Line) → ps ≡ lines_pieces ls → hyps_pieces names cs es ps ≡ lines_pieces (hyps_lines cs es ls)
  hyps_are cs [] ps ls e = e
  hyps_are cs (x ∷ xs) ps ls e =
      let later = hyps_pieces names (later_comments cs) xs ps in
      comments_are (first_comments cs) (hyp_pieces names x later) (code (hyp_line x) ∷ hyps_lines (later_comments cs) xs ls)
      (hyp_is x later ∙ ap (λ (l : List Piece). hyp_line x ++ (gap 10 ∷ l)) (hyps_are (later_comments cs) xs ps ls e))

  goal_is : (left right : Term) → goal_pieces names left right ≡ goal_line left right ++ (gap 10 ∷ [])
  goal_is left right =
      ap (λ (l : List Piece). word (codes "goal") ∷ gap 32 ∷ word (codes "equal") ∷ gap 32 ∷ l)
      (ap (λ (l : List Piece). term_pieces names left (symbol (codes ",") ∷ gap 32 ∷ l)) (term_appends names right (symbol (codes ";") ∷ []) (gap 10 ∷ []))
      ∙ term_appends names left (right_line right) (gap 10 ∷ []))

  pub question_are : (c : Comments) (q : ProblemParts) → question_pieces names c q ≡ lines_pieces (question_lines c q)
  question_are c q =
      let posed = hyps_are c.hyps q.hyps (goal_pieces names q.left q.right) (code (goal_line q.left q.right) ∷ []) (goal_is q.left q.right) in
      let actions = declaration_are (codes "action") (action_names names 0 q.actions) (posed_pieces names c q) (posed_lines c q) posed in
      let acting = comments_are c.actions (declaration_pieces (codes "action") (action_names names 0 q.actions) (posed_pieces names c q)) (declaration_lines (codes "action") (action_names names 0 q.actions) (posed_lines c q)) actions in
      comments_are c.tests (declaration_pieces (codes "test") (test_names names 0 q.tests) (acting_pieces names c q)) (declaration_lines (codes "test") (test_names names 0 q.tests) (acting_lines c q))
      (declaration_are (codes "test") (test_names names 0 q.tests) (acting_pieces names c q) (acting_lines c q) acting)

  -- ---- no piece extends the one before it

  module _ (w : ScopeParts) where
    hyps_good : (cs : List (List (List ℕ))) (es : List Term) (ls : List Line) → EachAreComments cs → AreNamed names w es → AreLines ls → AreLines (hyps_lines cs es ls)
    hyps_good cs [] ls comments is good = good
    hyps_good cs (e ∷ es) ls comments is good =
        comments_good (first_comments cs) (code (hyp_line e) ∷ hyps_lines (later_comments cs) es ls) (first_are cs comments)
        (subst AreSeparate (hyp_is e []) (hyp_separate names w e [] is.0 tt), hyps_good (later_comments cs) es ls (later_are cs comments) is.1 good)

    pub posed_good : (c : Comments) (q : ProblemParts) → EachAreComments c.hyps → AreNamed names w q.hyps → TermIsNamed w names q.left → TermIsNamed w names q.right → AreLines (posed_lines c q)
    posed_good c q comments hyps left right =
        hyps_good c.hyps q.hyps (code (goal_line q.left q.right) ∷ []) comments hyps (subst AreSeparate (goal_is q.left q.right) (goal_separate names w q.left q.right left right), tt)

  pub question_good : (c : Comments) (q : ProblemParts) → AreComments c.tests → AreComments c.actions → IsToken Name (codes "test") → IsToken Name (codes "action") → AreIdentifiers (test_names names 0 q.tests) → AreIdentifiers (action_names names 0 q.actions)
      → AreLines (posed_lines c q) → AreLines (question_lines c q)
  question_good c q tests actions test_word action_word test_names_are action_names_are posed =
      comments_good c.tests (declaration_lines (codes "test") (test_names names 0 q.tests) (acting_lines c q)) tests
      (declaration_good (codes "test") (test_names names 0 q.tests) (acting_lines c q) test_word test_names_are
      (comments_good c.actions (declaration_lines (codes "action") (action_names names 0 q.actions) (posed_lines c q)) actions
      (declaration_good (codes "action") (action_names names 0 q.actions) (posed_lines c q) action_word action_names_are posed)))
