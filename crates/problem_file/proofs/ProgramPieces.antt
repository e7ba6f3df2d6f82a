-- The pieces of a text of programs spell it, and no piece extends the one before it.
use Rattle.std.proofs.Common.{◌≡◌, ℕ, List, [], ◌∷◌, ◌++◌, map, refl, sym, ap, ◌∙◌, append_assoc}
use Rattle.std.specs.Prelude.{codes}
use Rattle.std.specs.List.{range_with_len}
use Rattle.kat_model.specs.declared.expression.Width.{Width}
use Rattle.kat_model.specs.declared.expression.Width.TheVariants.{W8, W16, W32, W64}
use Rattle.kat_model.specs.Expressions.{CondTree}
use Rattle.text_parser.specs.Pieces.{Piece, word, numeral, symbol, gap, spelled, AreSeparate}
use Rattle.text_parser.proofs.PrintedWords.{word_is_name, keyword_is_name}
use Rattle.text_parser.specs.declared.meaning.Meaning.{Meaning}
use Rattle.text_parser.specs.declared.meaning.Meaning.TheVariants.{Var}
use Rattle.text_parser.specs.ScopeParts.{ScopeParts, IsIdentifier}
use Rattle.text_print.specs.Printing.{cond_text, cond_pieces, CondIsNamed}
use Rattle.text_print.proofs.PieceTexts.{cond_spells}
use Rattle.text_print.proofs.Separate.{EndsWords, cond_separate}
use Rattle.while_lang.specs.Programs.{ProgTree}
use Rattle.while_lang.specs.ProgramPrinting.{block_pieces, ProgIsNamed}
use Rattle.while_lang.specs.BlockTexts.{stmts_text}
use Rattle.while_lang.proofs.PrintedPieces.{stmts_spell}
use Rattle.while_lang.proofs.SeparatePrograms.{open_alone, semicolon_ends, block_separate}
use Rattle.problem_file.specs.ProgramTexts.{width_text, vars_text, prog_text, equal_text, one_program_text, var_name, programs_text, triple_text}
use Rattle.problem_file.proofs.PlainPieces.{declaration_pieces, declaration_spells, declaration_separate, AreIdentifiers}

-- the names of `n` variables from number `k` on
abbrev pub var_names : (Meaning → List ℕ) → ℕ → ℕ → List (List ℕ)
var_names names k n = map (λ j. names (Var j)) (range_with_len k n)

abbrev pub vars_pieces : (Meaning → List ℕ) → ℕ → List Piece → List Piece
vars_pieces names n ps = declaration_pieces (codes "var") (var_names names 0 n) ps

-- the number of bits in decimal
abbrev pub bits_text : Width → List ℕ
bits_text W8 = codes "8"
bits_text W16 = codes "16"
bits_text W32 = codes "32"
bits_text W64 = codes "64"

abbrev pub width_pieces : Width → List Piece → List Piece
width_pieces w ps = word (codes "width") ∷ gap 32 ∷ numeral (bits_text w) ∷ symbol (codes ";") ∷ gap 10 ∷ ps

abbrev pub prog_pieces : (Meaning → List ℕ) → List ℕ → ProgTree → List Piece → List Piece
prog_pieces names name p ps = word (codes "prog") ∷ gap 32 ∷ word name ∷ gap 32 ∷ block_pieces names p (gap 10 ∷ ps)

-- the goal that two named programs are equal
abbrev pub equal_pieces : List ℕ → List ℕ → List Piece
equal_pieces left right =
    word (codes "goal") ∷ gap 32 ∷ word (codes "equal") ∷ gap 32 ∷ word left ∷ symbol (codes ",") ∷ gap 32 ∷ word right ∷ symbol (codes ";") ∷ gap 10 ∷ []

-- the pieces after the second condition of a triple, those after the first, and the triple
abbrev pub post_end : List Piece
post_end = symbol (codes "}") ∷ symbol (codes ";") ∷ gap 10 ∷ []

abbrev pub pre_end : CondTree → List Piece
pre_end c = symbol (codes "}") ∷ gap 32 ∷ word (codes "P") ∷ gap 32 ∷ symbol (codes "{") ∷ cond_pieces var_name c post_end

abbrev pub braces_pieces : CondTree → CondTree → List Piece
braces_pieces b c = symbol (codes "{") ∷ cond_pieces var_name b (pre_end c)

abbrev pub triple_goal_pieces : CondTree → CondTree → List Piece
triple_goal_pieces b c = word (codes "goal") ∷ gap 32 ∷ word (codes "triple") ∷ gap 32 ∷ braces_pieces b c

-- the items of a text before its programs
abbrev pub header_pieces : (Meaning → List ℕ) → Width → ℕ → List Piece → List Piece
header_pieces names w v ps = width_pieces w (vars_pieces names v ps)

abbrev pub one_program_pieces : (Meaning → List ℕ) → Width → ℕ → List ℕ → ProgTree → List Piece
one_program_pieces names w v name p = header_pieces names w v (prog_pieces names name p (equal_pieces name name))

abbrev pub programs_pieces : Width → ℕ → ProgTree → ProgTree → List Piece
programs_pieces w v p q = header_pieces var_name w v (prog_pieces var_name (codes "P") p (prog_pieces var_name (codes "Q") q (equal_pieces (codes "P") (codes "Q"))))

abbrev pub triple_pieces : Width → ℕ → CondTree → ProgTree → CondTree → List Piece
triple_pieces w v b p c = header_pieces var_name w v (prog_pieces var_name (codes "P") p (triple_goal_pieces b c))

-- ---- the texts of the pieces

width_spells : (w : Width) (ps : List Piece) → spelled (width_pieces w ps) ≡ width_text w ++ spelled ps
width_spells W8 ps = refl
width_spells W16 ps = refl
width_spells W32 ps = refl
width_spells W64 ps = refl

-- the header precedes the rest of the text
header_spells : (names : Meaning → List ℕ) (w : Width) (v : ℕ) (ps : List Piece) (text : List ℕ) → spelled ps ≡ text → spelled (header_pieces names w v ps) ≡ width_text w ++ (vars_text names v ++ text)
header_spells names w v ps text e =
    width_spells w (vars_pieces names v ps)
    ∙ ap (λ (l : List ℕ). width_text w ++ l)
    (declaration_spells (codes "var") (var_names names 0 v) ps ∙ ap (λ (l : List ℕ). vars_text names v ++ l) e)

block_spells : (names : Meaning → List ℕ) (p : ProgTree) (ps : List Piece) → spelled (block_pieces names p ps) ≡ spelled (block_pieces names p []) ++ spelled ps
block_spells names p ps =
    ap (λ (l : List ℕ). 123 ∷ l)
    (stmts_spell names p (gap 32 ∷ symbol (codes "}") ∷ ps)
    ∙ sym (append_assoc (stmts_text names p) (codes " }") (spelled ps))
    ∙ ap (λ (l : List ℕ). l ++ spelled ps) (sym (stmts_spell names p (gap 32 ∷ symbol (codes "}") ∷ []))))

prog_regrouped : (name block r : List ℕ) → codes "prog " ++ name ++ codes " " ++ block ++ codes "\n" ++ r ≡ codes "prog " ++ (name ++ (32 ∷ (block ++ (10 ∷ r))))
prog_regrouped name block r = simp append_assoc

prog_spells : (names : Meaning → List ℕ) (name : List ℕ) (p : ProgTree) (ps : List Piece) (text : List ℕ) → spelled ps ≡ text → spelled (prog_pieces names name p ps) ≡ prog_text names name p ++ text
prog_spells names name p ps text e =
    ap (λ (l : List ℕ). codes "prog " ++ (name ++ (32 ∷ l))) (block_spells names p (gap 10 ∷ ps))
    ∙ sym (prog_regrouped name (spelled (block_pieces names p [])) (spelled ps))
    ∙ ap (λ (l : List ℕ). prog_text names name p ++ l) e

equal_regrouped : (x y : List ℕ) → codes "goal equal " ++ x ++ codes ", " ++ y ++ codes ";\n" ≡ codes "goal equal " ++ (x ++ (44 ∷ 32 ∷ (y ++ (59 ∷ 10 ∷ []))))
equal_regrouped x y = simp append_assoc

equal_spells : (left right : List ℕ) → spelled (equal_pieces left right) ≡ equal_text left right
equal_spells left right = sym (equal_regrouped left right)

one_regrouped : (a b c d : List ℕ) → a ++ b ++ c ++ d ≡ a ++ (b ++ (c ++ d))
one_regrouped a b c d = simp append_assoc

pub one_program_spells : (names : Meaning → List ℕ) (w : Width) (v : ℕ) (name : List ℕ) (p : ProgTree) → spelled (one_program_pieces names w v name p) ≡ one_program_text names w v name p
one_program_spells names w v name p =
    let goal = equal_pieces name name in
    header_spells names w v (prog_pieces names name p goal) (prog_text names name p ++ equal_text name name) (prog_spells names name p goal (equal_text name name) (equal_spells name name))
    ∙ sym (one_regrouped (width_text w) (vars_text names v) (prog_text names name p) (equal_text name name))

programs_regrouped : (a b c d e : List ℕ) → a ++ b ++ c ++ d ++ e ≡ a ++ (b ++ (c ++ (d ++ e)))
programs_regrouped a b c d e = simp append_assoc

pub programs_spell : (w : Width) (v : ℕ) (p q : ProgTree) → spelled (programs_pieces w v p q) ≡ programs_text w v p q
programs_spell w v p q =
    let goal = equal_pieces (codes "P") (codes "Q") in
    let second = prog_pieces var_name (codes "Q") q goal in
    let first = prog_pieces var_name (codes "P") p second in
    let posed : List ℕ = codes "goal equal P, Q;\n" in
    let last : List ℕ = prog_text var_name (codes "Q") q ++ posed in
    header_spells var_name w v first (prog_text var_name (codes "P") p ++ last)
    (prog_spells var_name (codes "P") p second last (prog_spells var_name (codes "Q") q goal posed refl))
    ∙ sym (programs_regrouped (width_text w) (vars_text var_name v) (prog_text var_name (codes "P") p) (prog_text var_name (codes "Q") q) (codes "goal equal P, Q;\n"))

goal_spells : (b c : CondTree) → spelled (triple_goal_pieces b c) ≡ codes "goal triple {" ++ (cond_text var_name b ++ (codes "} P {" ++ (cond_text var_name c ++ codes "};\n")))
goal_spells b c =
    ap (λ (l : List ℕ). codes "goal triple {" ++ l)
    (cond_spells var_name b (pre_end c)
    ∙ ap (λ (l : List ℕ). cond_text var_name b ++ (codes "} P {" ++ l)) (cond_spells var_name c post_end))

triple_regrouped : (a b c x y : List ℕ) → a ++ b ++ c ++ codes "goal triple {" ++ x ++ codes "} P {" ++ y ++ codes "};\n" ≡ a ++ (b ++ (c ++ (codes "goal triple {" ++ (x ++ (codes "} P {" ++ (y ++ codes "};\n"))))))
triple_regrouped a b c x y = simp append_assoc

pub triple_spells : (w : Width) (v : ℕ) (b : CondTree) (p : ProgTree) (c : CondTree) → spelled (triple_pieces w v b p c) ≡ triple_text w v b p c
triple_spells w v b p c =
    let goal = triple_goal_pieces b c in
    let first = prog_pieces var_name (codes "P") p goal in
    let posed : List ℕ = codes "goal triple {" ++ (cond_text var_name b ++ (codes "} P {" ++ (cond_text var_name c ++ codes "};\n"))) in
    header_spells var_name w v first (prog_text var_name (codes "P") p ++ posed) (prog_spells var_name (codes "P") p goal posed (goal_spells b c))
    ∙ sym (triple_regrouped (width_text w) (vars_text var_name v) (prog_text var_name (codes "P") p) (cond_text var_name b) (cond_text var_name c))

-- ---- the pieces are separate

close_ends : (ps : List Piece) → EndsWords (symbol (codes "}") ∷ ps)
close_ends ps = record { name = λ b. refl; number = λ b. refl }

width_separate : (w : Width) (ps : List Piece) → AreSeparate ps → AreSeparate (width_pieces w ps)
width_separate W8 ps after = (keyword_is_name (codes "width") refl, refl, (refl, (refl, refl, (refl, refl, (refl, after)))))
width_separate W16 ps after = (keyword_is_name (codes "width") refl, refl, (refl, (refl, refl, (refl, refl, (refl, after)))))
width_separate W32 ps after = (keyword_is_name (codes "width") refl, refl, (refl, (refl, refl, (refl, refl, (refl, after)))))
width_separate W64 ps after = (keyword_is_name (codes "width") refl, refl, (refl, (refl, refl, (refl, refl, (refl, after)))))

pub header_separate : (names : Meaning → List ℕ) (w : Width) (v : ℕ) (ps : List Piece) → AreIdentifiers (var_names names 0 v) → AreSeparate ps → AreSeparate (header_pieces names w v ps)
header_separate names w v ps are after = width_separate w (vars_pieces names v ps) (declaration_separate (codes "var") (var_names names 0 v) ps (keyword_is_name (codes "var") refl) are after)

pub p_identifier : IsIdentifier (codes "P")
p_identifier = record { name = word_is_name (codes "P") refl; no_keyword = refl }

pub q_identifier : IsIdentifier (codes "Q")
q_identifier = record { name = word_is_name (codes "Q") refl; no_keyword = refl }

comma_ends : (ps : List Piece) → EndsWords (symbol (codes ",") ∷ ps)
comma_ends ps = record { name = λ b. refl; number = λ b. refl }

pub equal_separate : (left right : List ℕ) → IsIdentifier left → IsIdentifier right → AreSeparate (equal_pieces left right)
equal_separate left right l r = (
  keyword_is_name (codes "goal") refl,
  refl,
  (refl, (keyword_is_name (codes "equal") refl, refl, (refl, (l.name, (comma_ends (gap 32 ∷ word right ∷ symbol (codes ";") ∷ gap 10 ∷ [])).name left, (refl, refl, (refl, (r.name, (semicolon_ends (gap 10 ∷ [])).name right, (refl, refl, (refl, tt))))))))),
)

module _ (w : ScopeParts) where
  pub prog_separate : (names : Meaning → List ℕ) (name : List ℕ) (p : ProgTree) (ps : List Piece) → IsIdentifier name → ProgIsNamed w names p → AreSeparate ps → AreSeparate (prog_pieces names name p ps)
  prog_separate names name p ps is named after =
      let block : AreSeparate (block_pieces names p (gap 10 ∷ ps)) = block_separate w names p named (gap 10 ∷ ps) (refl, after) in
      (keyword_is_name (codes "prog") refl, refl, (refl, (is.name, refl, (refl, block))))

  pub triple_separate : (b c : CondTree) → CondIsNamed w var_name b → CondIsNamed w var_name c → AreSeparate (triple_goal_pieces b c)
  triple_separate b c pre post =
      let last : AreSeparate post_end = (refl, refl, (refl, refl, (refl, tt))) in
      let second : AreSeparate (cond_pieces var_name c post_end) = cond_separate w var_name c post post_end (close_ends _) last in
      let middle : AreSeparate (pre_end c) = (refl, refl, (refl, (p_identifier.name, refl, (refl, (refl, open_alone (spelled (cond_pieces var_name c post_end)), second))))) in
      let first : AreSeparate (cond_pieces var_name b (pre_end c)) = cond_separate w var_name b pre (pre_end c) (close_ends _) middle in
      (keyword_is_name (codes "goal") refl, refl, (refl, (keyword_is_name (codes "triple") refl, refl, (refl, (refl, open_alone (spelled (cond_pieces var_name b (pre_end c))), first)))))
