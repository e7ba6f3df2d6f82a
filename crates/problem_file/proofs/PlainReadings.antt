-- A text with any names reads as the question that it was printed from.
use Rattle.std.proofs.Common.{◌≡◌, ◌≤◌, ◌+◌, ℕ, List, [], ◌∷◌, ◌++◌, length, refl, sym, ap, ◌∙◌, subst, arith}
use Rattle.std.proofs.lemmas.List.Elements.{All-head, All-tail}
use Rattle.std.specs.Prelude.{codes, All}
use Rattle.kat_model.specs.declared.limits.TheConstants.{MAX_TERM_NODES, MAX_OPEN, MAX_TEXT_BYTES}
use Rattle.kat_model.specs.Trees.{Term, term_size}
use Rattle.kat_model.specs.Problems.{ProblemParts, IsInRange, AreInRange, terms_size}
use Rattle.text_parser.specs.declared.lexer.TheConstants.{MAX_LEN}
use Rattle.text_parser.specs.Lex.{Lexes}
use Rattle.text_parser.specs.Pieces.{Piece, spelled, parts_from}
use Rattle.text_parser.proofs.PrintedWords.{keyword_is_name}
use Rattle.text_parser.specs.declared.meaning.Meaning.{Meaning}
use Rattle.text_parser.specs.ScopeParts.{ScopeParts}
use Rattle.text_print.specs.Printing.{term_nesting}
use Rattle.while_lang.specs.Files.{term_side, GoalTree, equal}
use Rattle.problem_file.specs.Files.{State, file_of}
use Rattle.problem_file.specs.Reads.{start_one}
use Rattle.problem_file.specs.Questions.{plain_name, question_text, IsPrintable}
use Rattle.problem_file.specs.NamedTexts.{AreNames, named_text, IsNamedPrintable}
use Rattle.problem_file.specs.CommentedTexts.{Comments, commented_text, IsCommentedPrintable}
use Rattle.problem_file.specs.TextLaws.{PosesEqual}
use Rattle.problem_file.specs.Working.Scopes.{DeclaresNames}
use Rattle.problem_file.proofs.PlainNames.{plain_are_names}
use Rattle.problem_file.proofs.PlainScopes.{empty_declares, declares_as, term_named}
use Rattle.problem_file.proofs.PlainPieces.{declaration_pieces, test_names, action_names, posed_pieces, acting_pieces, question_pieces, question_spells, no_comments, uncommented_text, AreNamed}
use Rattle.problem_file.proofs.Lines.{AreLines, lines_pieces, lines_printed}
use Rattle.problem_file.proofs.PlainLines.{posed_lines, question_lines, question_are, posed_good, question_good}
use Rattle.problem_file.proofs.PlainItems.{AreItems, IsWritable, AreWritable, comments_items, hyps_items, Declares, tests_items, actions_items, tests_are_identifiers, actions_are_identifiers}

-- the text of the term is within the limit on nesting
abbrev IsShallow : Term → Type 0
IsShallow e = term_nesting e ≤ MAX_OPEN

module _ (names : Meaning → List ℕ) (w : ScopeParts) (tests actions : ℕ) (are : AreNames names tests actions) (declares : DeclaresNames names w tests actions) where
  writable : (e : Term) → IsInRange tests actions e → IsShallow e → term_size e ≤ MAX_TERM_NODES → IsWritable names w e
  writable e inside shallow size = record { named = term_named names w tests actions declares are e inside; shallow = shallow; small = size }

  all_writable : (es : List Term) → AreInRange tests actions es → All IsShallow es → terms_size es ≤ MAX_TERM_NODES → AreWritable names w es
  all_writable [] inside shallow size = tt
  all_writable (e ∷ es) inside shallow size =
      (writable e inside.0 (All-head IsShallow e es shallow) (omega arith), all_writable es inside.1 (All-tail IsShallow e es shallow) (omega arith))

all_named : (names : Meaning → List ℕ) (w : ScopeParts) (es : List Term) → AreWritable names w es → AreNamed names w es
all_named names w [] h = tt
all_named names w (e ∷ es) h = (h.0.named, all_named names w es h.1)

same_parts : (q : ProblemParts) (tests actions : ℕ) (hyps : List Term) → tests ≡ q.tests → actions ≡ q.actions → hyps ≡ q.hyps → q ≡ record { tests = tests; actions = actions; hyps = hyps; left = q.left; right = q.right }
same_parts q tests actions hyps e f g = rw (e, f, g) refl

-- the state has the question, and no piece after the declarations extends the one before it
record IsPosed (names : Meaning → List ℕ) (c : Comments) (q : ProblemParts) (t : State) : Type 0 where
  goals : t.goals ≡ equal (term_side q.left) (term_side q.right) ∷ []
  question : q ≡ record { tests = t.tests; actions = t.actions; hyps = t.hyps; left = q.left; right = q.right }
  separate : AreLines (posed_lines names c q)

module _ (names : Meaning → List ℕ) (c : Comments) (q : ProblemParts) (printable : IsCommentedPrintable names c q) where
  -- the pieces after the declarations are items
  posed_items : (u : State) (at : ℕ) → Declares names start_one q.tests q.actions u → AreItems u at (posed_pieces names c q) (IsPosed names c q)
  posed_items u at d =
      let problem = printable.problem in
      let shallow = All-tail IsShallow q.left (q.right ∷ q.hyps) printable.shallow in
      let size = problem.size in
      let hyps = all_writable names u.world q.tests q.actions printable.named d.declares q.hyps problem.hyps (All-tail IsShallow q.right q.hyps shallow) (omega arith) in
      let left = writable names u.world q.tests q.actions printable.named d.declares q.left problem.left (All-head IsShallow q.left (q.right ∷ q.hyps) printable.shallow) (omega arith) in
      let right = writable names u.world q.tests q.actions printable.named d.declares q.right problem.right (All-head IsShallow q.right q.hyps shallow) (omega arith) in
      let made = hyps_items names c.hyps q.hyps u at q.left q.right hyps left right (omega (arith, ap length d.hyps, printable.hyps)) (omega (arith, d.size, size)) (rw (d.goals, d.limit) (omega arith)) in
      record {
        items = made.items;
        spells = made.spells;
        obey = made.obey;
        fit = made.fit;
        final = made.final;
        make = made.make;
        holds = record {
          goals = made.holds.goals ∙ ap (λ (l : List GoalTree). l ++ equal (term_side q.left) (term_side q.right) ∷ []) d.goals;
          question = same_parts q (made.final).tests (made.final).actions (made.final).hyps (made.holds.tests ∙ d.tests) (made.holds.actions ∙ d.actions) (made.holds.hyps ∙ ap (λ (l : List Term). l ++ q.hyps) d.hyps);
          separate = posed_good names u.world c q printable.comments.hyps (all_named names u.world q.hyps hyps) left.named right.named;
        };
      }

  question_items : AreItems start_one 0 (question_pieces names c q) (IsPosed names c q)
  question_items =
      let problem = printable.problem in
      let few = problem.tests in
      let small = problem.actions in
      comments_items c.tests start_one 0 (declaration_pieces (codes "test") (test_names names 0 q.tests) (acting_pieces names c q)) (IsPosed names c q) (λ n.
      tests_items names q.tests q.actions few small printable.named q.tests start_one n (acting_pieces names c q) (IsPosed names c q) (omega arith) (omega arith) (empty_declares names)
      (λ t at d. comments_items c.actions t at (declaration_pieces (codes "action") (action_names names 0 q.actions) (posed_pieces names c q)) (IsPosed names c q) (λ m.
      subst (λ (k : ℕ). AreItems t m (declaration_pieces (codes "action") (action_names names k q.actions) (posed_pieces names c q)) (IsPosed names c q)) d.actions
      (actions_items names q.tests q.actions few small printable.named q.actions t m (posed_pieces names c q) (IsPosed names c q) (omega (arith, d.actions)) (omega (arith, d.tests)) (rw (d.tests, d.actions) d.declares)
      (λ u next e. posed_items u next (record {
        tests = e.tests ∙ d.tests ∙ omega arith;
        actions = omega (arith, e.actions, d.actions);
        hyps = e.hyps ∙ d.hyps;
        limit = e.limit ∙ d.limit;
        goals = e.goals ∙ d.goals;
        size = e.size ∙ d.size;
        declares = declares_as names u.world t.tests q.tests (t.actions + q.actions) q.actions (d.tests ∙ omega arith) (omega (arith, d.actions)) e.declares;
      }))))))

  question_separate : AreLines (posed_lines names c q) → AreLines (question_lines names c q)
  question_separate posed =
      let problem = printable.problem in
      let few = problem.tests in
      let small = problem.actions in
      question_good names c q printable.comments.tests printable.comments.actions (keyword_is_name (codes "test") refl) (keyword_is_name (codes "action") refl) (tests_are_identifiers names q.tests q.actions few small printable.named q.tests 0 (omega arith))
      (actions_are_identifiers names q.tests q.actions few small printable.named q.actions 0 (omega arith)) posed

  -- the tokens of the text are those of its pieces
  question_lexes : AreLines (question_lines names c q) → Lexes (commented_text names c q) (parts_from 0 (question_pieces names c q))
  question_lexes good =
      let lines : question_pieces names c q ≡ lines_pieces (question_lines names c q) = question_are names c q in
      let text : spelled (lines_pieces (question_lines names c q)) ≡ commented_text names c q = ap (λ (ps : List Piece). spelled ps) (sym lines) ∙ question_spells names c q in
      let short : length (spelled (lines_pieces (question_lines names c q))) ≤ MAX_LEN = subst (λ (l : List ℕ). length l ≤ MAX_LEN) (sym text) printable.short in
      subst (λ (ps : List Piece). Lexes (commented_text names c q) (parts_from 0 ps)) (sym lines)
      (subst (λ (l : List ℕ). Lexes l (parts_from 0 (lines_pieces (question_lines names c q)))) text (lines_printed (question_lines names c q) good short))

  pub commented_reads_back : PosesEqual (commented_text names c q) q
  commented_reads_back =
      let made = question_items in
      let pieces = question_pieces names c q in
      let goal = equal (term_side q.left) (term_side q.right) in
      record {
        file = file_of made.final goal;
        reads = record {
          denotes = record {
            parts_of_tokens = parts_from 0 pieces;
            lexes = question_lexes (question_separate made.holds.separate);
            items = made.items;
            spells = record { file = record { spells = made.spells; obey = made.obey }; fit = made.fit };
            state = made.final;
            make = made.make;
            goal = goal;
            has_goal = rw (made.holds.goals) refl;
          };
          file = refl;
        };
        goal = refl;
        question = made.holds.question;
      }

-- the text without comments
pub named_reads_back : (names : Meaning → List ℕ) (q : ProblemParts) → IsNamedPrintable names q → PosesEqual (named_text names q) q
named_reads_back names q printable =
    subst (λ (l : List ℕ). PosesEqual l q) (uncommented_text names q)
    (commented_reads_back names no_comments q (record {
      problem = printable.problem;
      named = printable.named;
      hyps = printable.hyps;
      shallow = printable.shallow;
      comments = record { tests = tt; actions = tt; hyps = tt };
      short = subst (λ (l : List ℕ). length l ≤ MAX_TEXT_BYTES) (sym (uncommented_text names q)) printable.short;
    }))

-- the text with the plain names
pub reads_back : (q : ProblemParts) → IsPrintable q → PosesEqual (question_text q) q
reads_back q printable =
    let problem = printable.problem in
    named_reads_back plain_name q (record {
      problem = problem;
      named = plain_are_names q.tests q.actions (omega (arith, problem.tests)) (omega (arith, problem.actions));
      hyps = printable.hyps;
      shallow = printable.shallow;
      short = printable.short;
    })
