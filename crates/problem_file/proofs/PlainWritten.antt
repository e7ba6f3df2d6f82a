-- The written text is the plain text.
use Rattle.std.proofs.Common.{◌≡◌, ◌≤◌, ◌+◌, ◌-◌, ℕ, suc, List, [], ◌∷◌, ◌++◌, map, refl, ◌∙◌, arith, append_assoc}
use Rattle.std.proofs.lemmas.List.{flat_map_more, append-nil}
use Rattle.std.proofs.lemmas.List.FromFn.{map-range_with_len_more}
use Rattle.std.specs.Prelude.{codes, flat_map, decimal}
use Rattle.std.specs.List.{range_with_len}
use Rattle.kat_model.specs.Trees.{Term}
use Rattle.kat_model.specs.Problems.{ProblemParts, IsProblem}
use Rattle.text_parser.specs.Pieces.{spelled}
use Rattle.text_parser.specs.declared.meaning.Meaning.{Meaning}
use Rattle.text_parser.specs.ScopeParts.{ScopeParts}
use Rattle.text_print.specs.Printing.{name_of, term_text, term_pieces}
use Rattle.text_print.proofs.PieceTexts.{term_spells}
use Rattle.problem_file.specs.Questions.{declaration_text, hyp_text, goal_text, question_text}
use Rattle.problem_file.specs.Working.Scopes.{IsPlain}
use Rattle.problem_file.proofs.PlainScopes.{plain_as, term_same, hyps_same}

-- the text of a term as the printer writes it
pub printed_text : (names : Meaning → List ℕ) (e : Term) (text : List ℕ) → text ≡ spelled (term_pieces names e []) → text ≡ term_text names e
printed_text names e text h = h ∙ term_spells names e [] ∙ append-nil (term_text names e)

abbrev pub later_names : (ℕ → List ℕ) → ℕ → List ℕ
later_names f n = flat_map (λ y. codes ", " ++ y) (map f (range_with_len 1 n))

-- another name after the first
pub name_more : (f : ℕ → List ℕ) (front out comma new : List ℕ) (k : ℕ) → 1 ≤ k → out ≡ front ++ later_names f (k - 1) → comma ≡ out ++ codes ", " → new ≡ comma ++ f k → new ≡ front ++ later_names f (k + 1 - 1)
name_more f front out comma new k some so_far with_comma with_name =
    let n = k - 1 in
    let count : k + 1 - 1 ≡ n + 1 = omega arith in
    rw (count, map-range_with_len_more f 1 n k (omega arith), with_name, with_comma, so_far)
    (append_assoc (front ++ later_names f n) (codes ", ") (f k) ∙ flat_map_more (λ y. codes ", " ++ y) front (map f (range_with_len 1 n)) (f k))

-- a whole declaration
pub declaration_written : (f : ℕ → List ℕ) (keyword out a b c d e : List ℕ) (k count : ℕ) → 1 ≤ k → count ≡ k → a ≡ out ++ keyword → b ≡ a ++ codes " " → c ≡ b ++ f 0 → d ≡ c ++ later_names f (k - 1) → e ≡ d ++ codes ";\n" → e ≡ out ++ declaration_text keyword (map f (range_with_len 0 count))
declaration_written f keyword out a b c d e k count some all h0 h1 h2 h3 h4 =
    let number : count ≡ suc (k - 1) = omega arith in
    rw (number, h4, h3, h2, h1, h0) (simp append_assoc)

-- the text of a question, part by part
pub text_written : (w : ScopeParts) (q : ProblemParts) (tests actions t u : ℕ) (hyps : List Term) (left right : Term) (a b c d e : List ℕ) → IsProblem q → IsPlain w tests actions → tests ≡ q.tests → actions ≡ q.actions → t ≡ q.tests → u ≡ q.actions → hyps ≡ q.hyps → left ≡ q.left → right ≡ q.right
    → a ≡ [] → b ≡ a ++ declaration_text (codes "test") (map (λ k. 116 ∷ decimal k) (range_with_len 0 t)) → c ≡ b ++ declaration_text (codes "action") (map (λ k. 97 ∷ decimal k) (range_with_len 0 u))
    → d ≡ c ++ flat_map (hyp_text (name_of w)) hyps → e ≡ d ++ goal_text (name_of w) left right → e ≡ question_text q
text_written w q tests actions t u hyps left right a b c d e problem plain et ea e1 e2 e3 e4 e5 h0 h1 h2 h3 h4 =
    let same = plain_as w tests q.tests actions q.actions et ea plain in
    let few = problem.tests in
    let small = problem.actions in
    rw (h4, h3, h2, h1, h0, e1, e2, e3, e4, e5, hyps_same w q.tests q.actions few small same q.hyps problem.hyps, term_same w q.tests q.actions few small same q.left problem.left, term_same w q.tests q.actions few small same q.right problem.right) refl
