-- A text of programs reads as the goal that it was printed from.
use Rattle.std.proofs.Common.{◌≡◌, ◌≤◌, ◌+◌, ◌==◌, false, ℕ, List, [], ◌∷◌, length, get_or, slice_get, Some, refl, sym, ap, ◌∙◌, subst, arith}
use Rattle.std.specs.Prelude.{codes}
use Rattle.std.specs.Option.{option_map}
use Rattle.kat_model.specs.declared.limits.TheConstants.{MAX_VARS, MAX_TERM_NODES}
use Rattle.kat_model.specs.Expressions.{CondTree}
use Rattle.kat_model.specs.declared.expression.Width.{Width}
use Rattle.text_parser.specs.declared.lexer.TheConstants.{MAX_LEN}
use Rattle.text_parser.specs.Lex.{Lexes}
use Rattle.text_parser.specs.Pieces.{Piece, spelled, AreSeparate, parts_from}
use Rattle.text_parser.proofs.Printed.{printed}
use Rattle.text_parser.specs.declared.meaning.Meaning.{Meaning}
use Rattle.text_parser.specs.declared.meaning.Meaning.TheVariants.{Prog}
use Rattle.text_parser.specs.ScopeParts.{ScopeParts, IsUndeclared, declared}
use Rattle.text_print.specs.Printing.{CondIsNamed}
use Rattle.while_lang.specs.Programs.{ProgTree}
use Rattle.while_lang.specs.ProgramSizes.{prog_size}
use Rattle.while_lang.specs.ProgramPrinting.{ProgIsNamed}
use Rattle.while_lang.specs.Concrete.{IsConcrete}
use Rattle.while_lang.specs.Files.{prog_side, GoalTree, prog_meant, equal, triple}
use Rattle.problem_file.specs.Files.{State, rounds_of, width_of, file_of}
use Rattle.problem_file.specs.Sound.{MakeAll}
use Rattle.problem_file.specs.Reads.{start_one}
use Rattle.problem_file.specs.ProgramTexts.{one_program_text, IsOnePrintable, var_name, programs_text, triple_text, ArePrintable, IsTriplePrintable}
use Rattle.problem_file.specs.TextLaws.{PosesPrograms, DenotesProgram}
use Rattle.problem_file.proofs.PlainNames.{var_no_letter}
use Rattle.problem_file.proofs.PlainItems.{AreItems}
use Rattle.problem_file.proofs.ProgramScopes.{plain_names, vars_scope, no_terms, name_is_new, vars_known, VarsNamed, vars_named, kept, declared_means, still_named, cond_named, prog_named}
use Rattle.problem_file.proofs.NarrowPieces.{PiecesAreNarrow, block_narrow}
use Rattle.problem_file.proofs.ProgramPieces.{vars_pieces, prog_pieces, equal_pieces, triple_goal_pieces, one_program_pieces, programs_pieces, triple_pieces, one_program_spells, programs_spell, triple_spells, header_separate, p_identifier, q_identifier, equal_separate, prog_separate, triple_separate}
use Rattle.problem_file.proofs.ProgramItems.{width_items, vars_state, vars_are_identifiers, vars_items, prog_state, prog_items, HasProg, equal_state, equal_items, equal_narrow, triple_narrow, triple_state, triple_items}

-- the reading of pieces that are items
read_as : (pieces : List Piece) (text : List ℕ) (w : Width) (v : ℕ) (final : State) (goal : GoalTree) → spelled pieces ≡ text → AreSeparate pieces → length text ≤ MAX_LEN → AreItems start_one 0 pieces (λ t. t ≡ final)
    → slice_get final.goals 0 ≡ Some goal → width_of final ≡ w → final.vars ≡ v → rounds_of final ≡ 1 → IsConcrete (file_of final goal) → PosesPrograms text w v goal
read_as pieces text w v final goal is separate short made posed width vars rounds concrete = record {
  file = file_of final goal;
  reads = record {
    denotes = record {
      parts_of_tokens = parts_from 0 pieces;
      lexes = subst (λ (l : List ℕ). Lexes l (parts_from 0 pieces)) is (printed pieces separate (subst (λ (l : List ℕ). length l ≤ MAX_LEN) (sym is) short));
      items = made.items;
      spells = record { file = record { spells = made.spells; obey = made.obey }; fit = made.fit };
      state = final;
      make = subst (MakeAll start_one made.items) made.holds made.make;
      goal = goal;
      has_goal = posed;
    };
    file = refl;
  };
  width = width;
  vars = vars;
  rounds = rounds;
  concrete = concrete;
  goal = refl;
}

-- ---- the scopes

-- the scope with one program
abbrev with_prog : (Meaning → List ℕ) → ℕ → List ℕ → ScopeParts
with_prog names v name = declared (vars_scope names v) name (Prog 0)

-- ---- one program, over variables of any names

module _ (names : Meaning → List ℕ) (w : Width) (v : ℕ) (name : List ℕ) (p : ProgTree) (h : IsOnePrintable names w v name p) where
  abbrev after_prog : State
  after_prog = prog_state (vars_state names w v) name p

  name_new : IsUndeclared (vars_scope names v) name
  name_new = name_is_new names (vars_scope names v) v name (vars_known names v h.var_names) h.no_var

  names_known : VarsNamed names (vars_scope names v) v
  names_known = vars_named names (vars_scope names v) v h.var_names (vars_known names v h.var_names)

  all_named : ProgIsNamed (vars_scope names v) names p
  all_named = prog_named names (vars_scope names v) v names_known w p h.program.in_range h.program.narrow

  has_prog : HasProg after_prog name p
  has_prog = record { index = 0; means = declared_means (vars_scope names v) name (Prog 0); is = refl; small = h.program.small }

  one_items : AreItems start_one 0 (one_program_pieces names w v name p) (λ t. t ≡ equal_state after_prog p p)
  one_items =
      let P : State → Type 0 = λ t. t ≡ equal_state after_prog p p in
      let goal = equal_pieces name name in
      let size : prog_size p ≤ MAX_TERM_NODES = h.program.small in
      width_items w 0 (vars_pieces names v (prog_pieces names name p goal)) P
      (λ i. vars_items names v h.vars h.var_names w i (prog_pieces names name p goal) P
      (λ j. prog_items names (vars_state names w v) w v name p refl h.identifier name_new all_named h.program (omega arith) j goal P (equal_narrow w name name h.identifier h.identifier)
      (λ k. equal_items after_prog name name p p h.identifier h.identifier has_prog has_prog (omega arith) (omega arith) k)))

  one_separate : AreSeparate (one_program_pieces names w v name p)
  one_separate =
      let goal = equal_pieces name name in
      header_separate names w v (prog_pieces names name p goal) (vars_are_identifiers names v 0 v (omega arith) h.var_names)
      (prog_separate (vars_scope names v) names name p goal h.identifier all_named (equal_separate name name h.identifier h.identifier))

  one_posed : PosesPrograms (one_program_text names w v name p) w v (equal (prog_side p) (prog_side p))
  one_posed =
      read_as (one_program_pieces names w v name p) (one_program_text names w v name p) w v (equal_state after_prog p p) (equal (prog_side p) (prog_side p))
      (one_program_spells names w v name p) one_separate h.short one_items refl refl refl refl
      (record { tests = refl; actions = refl; terms = ap length (no_terms names v); hyps = refl; poses = tt })

  pub program_reads_back : DenotesProgram (one_program_text names w v name p) names w v name p
  unfolding one_posed read_as
  program_reads_back = record {
    poses = one_posed;
    variables = λ k below. (still_named names (vars_scope names v) v name 0 name_new names_known k below).means;
    program = ap (λ m. option_map (λ d. d.tree) (prog_meant after_prog.progs m)) (declared_means (vars_scope names v) name (Prog 0));
  }

-- ---- the plainest names

-- the scopes with one program and with two
abbrev p_scope : ℕ → ScopeParts
p_scope v = with_prog var_name v (codes "P")

abbrev pq_scope : ℕ → ScopeParts
pq_scope v = declared (p_scope v) (codes "Q") (Prog 1)

-- different letters are different names
letters_apart : (a b : ℕ) → (a ≡ b → ⊥) → a ∷ [] ≡ b ∷ [] → ⊥
letters_apart a b other e = other (ap (λ (l : List ℕ). get_or l 0 0) e)

q_no_p : codes "Q" ≡ codes "P" → ⊥
q_no_p e = letters_apart 81 80 (λ same. omega arith) e

p_no_q : codes "P" ≡ codes "Q" → ⊥
p_no_q e = letters_apart 80 81 (λ same. omega arith) e

-- a letter other than `x` is not a variable
letter_is_new : (v letter : ℕ) → v ≤ MAX_VARS → (letter == 120) ≡ false → IsUndeclared (vars_scope var_name v) (letter ∷ [])
letter_is_new v letter few other = name_is_new var_name (vars_scope var_name v) v (letter ∷ []) (vars_known var_name v (plain_names v few)) (λ k below. var_no_letter k letter other)

module _ (v : ℕ) (few : v ≤ MAX_VARS) where
  p_is_new : IsUndeclared (vars_scope var_name v) (codes "P")
  p_is_new = letter_is_new v 80 few refl

  q_is_new : IsUndeclared (p_scope v) (codes "Q")
  q_is_new = kept (vars_scope var_name v) (codes "P") (codes "Q") (Prog 0) q_no_p ∙ letter_is_new v 81 few refl

  variables_named : VarsNamed var_name (vars_scope var_name v) v
  variables_named = vars_named var_name (vars_scope var_name v) v (plain_names v few) (vars_known var_name v (plain_names v few))

  named_beside_p : VarsNamed var_name (p_scope v) v
  named_beside_p = still_named var_name (vars_scope var_name v) v (codes "P") 0 p_is_new variables_named

  -- ---- two programs

  module _ (w : Width) (p q : ProgTree) (h : ArePrintable w v p q) where
    abbrev after_p : State
    after_p = prog_state (vars_state var_name w v) (codes "P") p

    abbrev after_q : State
    after_q = prog_state after_p (codes "Q") q

    left_named : ProgIsNamed (vars_scope var_name v) var_name p
    left_named = prog_named var_name (vars_scope var_name v) v variables_named w p h.left.in_range h.left.narrow

    right_named : ProgIsNamed (p_scope v) var_name q
    right_named = prog_named var_name (p_scope v) v named_beside_p w q h.right.in_range h.right.narrow

    has_left : HasProg after_q (codes "P") p
    has_left = record { index = 0; means = kept (p_scope v) (codes "Q") (codes "P") (Prog 1) p_no_q ∙ declared_means (vars_scope var_name v) (codes "P") (Prog 0); is = refl; small = h.left.small }

    has_right : HasProg after_q (codes "Q") q
    has_right = record { index = 1; means = declared_means (p_scope v) (codes "Q") (Prog 1); is = refl; small = h.right.small }

    after_p_narrow : PiecesAreNarrow w (prog_pieces var_name (codes "Q") q (equal_pieces (codes "P") (codes "Q")))
    after_p_narrow at = (tt, (tt, block_narrow w (p_scope v) var_name q right_named h.right.narrow _ (λ n. equal_narrow w (codes "P") (codes "Q") p_identifier q_identifier (n + 1)) (at + 4 + 1 + 1 + 1)))

    programs_items : AreItems start_one 0 (programs_pieces w v p q) (λ t. t ≡ equal_state after_q p q)
    programs_items =
        let P : State → Type 0 = λ t. t ≡ equal_state after_q p q in
        let second = prog_pieces var_name (codes "Q") q (equal_pieces (codes "P") (codes "Q")) in
        let first = prog_pieces var_name (codes "P") p second in
        let left : prog_size p ≤ MAX_TERM_NODES = h.left.small in
        let right : prog_size q ≤ MAX_TERM_NODES = h.right.small in
        width_items w 0 (vars_pieces var_name v first) P
        (λ i. vars_items var_name v few (plain_names v few) w i first P
        (λ j. prog_items var_name (vars_state var_name w v) w v (codes "P") p refl p_identifier p_is_new left_named h.left (omega arith) j second P after_p_narrow
        (λ k. prog_items var_name after_p w v (codes "Q") q refl q_identifier q_is_new right_named h.right (omega arith) k (equal_pieces (codes "P") (codes "Q")) P (equal_narrow w (codes "P") (codes "Q") p_identifier q_identifier)
        (λ n. equal_items after_q (codes "P") (codes "Q") p q p_identifier q_identifier has_left has_right (omega arith) (omega arith) n))))

    programs_separate : AreSeparate (programs_pieces w v p q)
    programs_separate =
        let second = prog_pieces var_name (codes "Q") q (equal_pieces (codes "P") (codes "Q")) in
        let last : AreSeparate second = prog_separate (p_scope v) var_name (codes "Q") q (equal_pieces (codes "P") (codes "Q")) q_identifier right_named (equal_separate (codes "P") (codes "Q") p_identifier q_identifier) in
        header_separate var_name w v (prog_pieces var_name (codes "P") p second) (vars_are_identifiers var_name v 0 v (omega arith) (plain_names v few)) (prog_separate (vars_scope var_name v) var_name (codes "P") p second p_identifier left_named last)

  -- ---- a triple

  module _ (w : Width) (b : CondTree) (p : ProgTree) (c : CondTree) (h : IsTriplePrintable w v b p c) where
    abbrev after_body : State
    after_body = prog_state (vars_state var_name w v) (codes "P") p

    body_named : ProgIsNamed (vars_scope var_name v) var_name p
    body_named = prog_named var_name (vars_scope var_name v) v variables_named w p h.body.in_range h.body.narrow

    pre_named : CondIsNamed (p_scope v) var_name b
    pre_named = cond_named var_name (p_scope v) v named_beside_p w b h.pre.in_range h.pre.narrow

    post_named : CondIsNamed (p_scope v) var_name c
    post_named = cond_named var_name (p_scope v) v named_beside_p w c h.post.in_range h.post.narrow

    has_body : HasProg after_body (codes "P") p
    has_body = record { index = 0; means = declared_means (vars_scope var_name v) (codes "P") (Prog 0); is = refl; small = h.body.small }

    goal_narrow : PiecesAreNarrow w (triple_goal_pieces b c)
    goal_narrow = triple_narrow (p_scope v) w v b c pre_named post_named h.pre h.post

    triple_are_items : AreItems start_one 0 (triple_pieces w v b p c) (λ t. t ≡ triple_state after_body b p c)
    triple_are_items =
        let P : State → Type 0 = λ t. t ≡ triple_state after_body b p c in
        let goal = triple_goal_pieces b c in
        let first = prog_pieces var_name (codes "P") p goal in
        let size : prog_size p ≤ MAX_TERM_NODES = h.body.small in
        let pre = h.pre.small in
        let post = h.post.small in
        width_items w 0 (vars_pieces var_name v first) P
        (λ i. vars_items var_name v few (plain_names v few) w i first P
        (λ j. prog_items var_name (vars_state var_name w v) w v (codes "P") p refl p_identifier p_is_new body_named h.body (omega arith) j goal P goal_narrow
        (λ k. triple_items after_body w v b p c refl pre_named post_named h.pre h.post has_body (omega arith) (omega arith) k)))

    pieces_separate : AreSeparate (triple_pieces w v b p c)
    pieces_separate =
        let goal = triple_goal_pieces b c in
        header_separate var_name w v (prog_pieces var_name (codes "P") p goal) (vars_are_identifiers var_name v 0 v (omega arith) (plain_names v few))
        (prog_separate (vars_scope var_name v) var_name (codes "P") p goal p_identifier body_named (triple_separate (p_scope v) b c pre_named post_named))

pub programs_read_back : (w : Width) (v : ℕ) (p q : ProgTree) → ArePrintable w v p q → PosesPrograms (programs_text w v p q) w v (equal (prog_side p) (prog_side q))
programs_read_back w v p q h =
    read_as (programs_pieces w v p q) (programs_text w v p q) w v (equal_state (after_q v h.vars w p q h) p q) (equal (prog_side p) (prog_side q))
    (programs_spell w v p q) (programs_separate v h.vars w p q h) h.short (programs_items v h.vars w p q h) refl refl refl refl
    (record { tests = refl; actions = refl; terms = ap length (no_terms var_name v); hyps = refl; poses = tt })

pub triples_read_back : (w : Width) (v : ℕ) (b : CondTree) (p : ProgTree) (c : CondTree) → IsTriplePrintable w v b p c → PosesPrograms (triple_text w v b p c) w v (triple b (prog_side p) c)
triples_read_back w v b p c h =
    read_as (triple_pieces w v b p c) (triple_text w v b p c) w v (triple_state (after_body v h.vars w b p c h) b p c) (triple b (prog_side p) c)
    (triple_spells w v b p c) (pieces_separate v h.vars w b p c h) h.short (triple_are_items v h.vars w b p c h) refl refl refl refl
    (record { tests = refl; actions = refl; terms = ap length (no_terms var_name v); hyps = refl; poses = tt })
