-- The pieces of a text of programs are items with the intended result.
use Rattle.std.proofs.Common.{◌≡◌, ◌≤◌, ◌<◌, ◌+◌, ℕ, zero, suc, List, [], ◌∷◌, length, slice_get, Some, refl, sym, ap, ◌∙◌, subst, arith}
use Rattle.std.specs.Prelude.{codes}
use Rattle.kat_model.specs.declared.limits.TheConstants.{MAX_VARS, MAX_TERM_NODES, MAX_TEXT_NODES}
use Rattle.kat_model.specs.Expressions.{CondTree}
use Rattle.kat_model.specs.declared.expression.Width.{Width}
use Rattle.kat_model.specs.declared.expression.Width.TheVariants.{W8, W16, W32, W64}
use Rattle.text_parser.specs.Pieces.{Piece, word, numeral, symbol, gap}
use Rattle.text_parser.specs.declared.terminal.Terminal.{Terminal}
use Rattle.text_parser.specs.declared.terminal.Terminal.TheVariants.{Name, Number, Keyword, Separator}
use Rattle.text_parser.specs.declared.terminal.Keyword.TheVariants as keyword
use Rattle.text_parser.specs.declared.terminal.Separator.TheVariants.{Comma, Semicolon, CurlyOpen, CurlyClose}
use Rattle.text_parser.specs.Terminals.{number_terminal}
use Rattle.text_parser.specs.Lexemes.{Lexeme, lexeme}
use Rattle.text_parser.specs.Phrases.{term, Phrase, one_prod, one_star, bare, name_unit, yield_before, MeetsLookahead}
use Rattle.text_parser.specs.declared.meaning.Meaning.{Meaning}
use Rattle.text_parser.specs.declared.meaning.Meaning.TheVariants.{Var, Prog}
use Rattle.text_parser.specs.Sizes.{cond_size}
use Rattle.text_parser.specs.ScopeParts.{ScopeParts, IsIdentifier, IsUndeclared, Means}
use Rattle.text_print.specs.Printing.{CondIsNamed}
use Rattle.text_print.proofs.WordTerminals.{name_terminal}
use Rattle.text_print.proofs.PrintedPhrases.{lexemes_from, leaf}
use Rattle.while_lang.specs.Programs.{ProgTree}
use Rattle.while_lang.specs.ProgramSizes.{prog_size}
use Rattle.while_lang.specs.ProgramPrinting.{block_pieces, ProgIsNamed, block_levels}
use Rattle.while_lang.specs.BlockPhrases.{block_before, BlockObeys}
use Rattle.while_lang.specs.Files.{prog_side, prog_meant, equal, triple}
use Rattle.problem_file.specs.Files.{State, most_goals, width_of, width_with, with_width, add_prog, state_goal}
use Rattle.problem_file.specs.Numbers.{AreNarrow}
use Rattle.problem_file.specs.Phrases.{TriplePhrase, variables, program, width, other_number, goal_equal, goal_triple, names_onto, triple_onto, ended}
use Rattle.problem_file.specs.Sound.{with_var, DeclaresVar, EachName, NamesProg, grown}
use Rattle.problem_file.specs.Reads.{start_one}
use Rattle.problem_file.specs.ProgramTexts.{var_name, AreVarNames, IsProgPrintable, IsCondPrintable}
use Rattle.problem_file.proofs.PlainPieces.{AreIdentifiers}
use Rattle.problem_file.proofs.PlainItems.{AreItems, names_at, names_stop, names_spelled}
use Rattle.problem_file.proofs.ProgramScopes.{fewer_names, vars_scope, next_is_new}
use Rattle.problem_file.proofs.NarrowPieces.{PiecesAreNarrow, word_narrow, cond_narrow}
use Rattle.problem_file.proofs.ProgramPieces.{var_names, vars_pieces, width_pieces, prog_pieces, equal_pieces, post_end, pre_end, braces_pieces, triple_goal_pieces}
use Rattle.problem_file.proofs.ProgramBlocks.{block_begins, cond_begins}

-- the pieces are items at any place
abbrev Follow : State → List Piece → (State → Type 0) → Type 0
Follow s ps P = (at : ℕ) → AreItems s at ps P

-- ---- the width

width_number_items : (w : Width) (n : ℕ) (text : List ℕ) → number_terminal text ≡ Number n → width_with n ≡ Some w → (at : ℕ) (ps : List Piece) (P : State → Type 0) → Follow (with_width start_one w) ps P
    → AreItems start_one at (word (codes "width") ∷ gap 32 ∷ numeral text ∷ symbol (codes ";") ∷ gap 10 ∷ ps) P
width_number_items w n text is meant at ps P follow =
    let stop = at + 5 + 1 + length text in
    let rest = follow (stop + 1 + 1) in
    record {
      items = record { keyword = leaf at (codes "width"); body = width (other_number (leaf (at + 5 + 1) text) n) (leaf stop (codes ";")) } ∷ rest.items;
      spells =
          ap (λ (t : Terminal). lexeme (Keyword keyword.Width) at (codes "width") ∷ lexeme t (at + 5 + 1) text ∷ lexeme (Separator Semicolon) stop (codes ";") ∷ lexemes_from (stop + 1 + 1) ps) is
          ∙ ap (λ (ts : List Lexeme). lexeme (Keyword keyword.Width) at (codes "width") ∷ lexeme (Number n) (at + 5 + 1) text ∷ lexeme (Separator Semicolon) stop (codes ";") ∷ ts) rest.spells;
      obey = (tt, rest.obey);
      fit = (tt, rest.fit);
      final = rest.final;
      make = (with_width start_one w, record { first = refl; early = refl; number = n; is_number = refl; chosen = w; is_width = meant; made = refl }, rest.make);
      holds = rest.holds;
    }

pub width_items : (w : Width) (at : ℕ) (ps : List Piece) (P : State → Type 0) → Follow (with_width start_one w) ps P → AreItems start_one at (width_pieces w ps) P
width_items W8 at ps P follow = width_number_items W8 8 (codes "8") refl refl at ps P follow
width_items W16 at ps P follow = width_number_items W16 16 (codes "16") refl refl at ps P follow
width_items W32 at ps P follow = width_number_items W32 32 (codes "32") refl refl at ps P follow
width_items W64 at ps P follow = width_number_items W64 64 (codes "64") refl refl at ps P follow

-- ---- variables

module _ (names : Meaning → List ℕ) where
  -- the state after the width and `k` variables
  abbrev pub vars_state : Width → ℕ → State
  vars_state w k = record (with_width start_one w) { world = vars_scope names k; vars = k }

  next_vars : (w : Width) (k j : ℕ) → j ≡ suc k → vars_state w j ≡ with_var (vars_state w k) (names (Var k))
  next_vars w k j e = let count : suc k ≡ k + 1 = omega arith in ap (vars_state w) e ∙ ap (λ (n : ℕ). record (with_width start_one w) { world = vars_scope names (suc k); vars = n }) count

  pub vars_are_identifiers : (n k v : ℕ) → k + n ≡ v → AreVarNames names v → AreIdentifiers (var_names names k n)
  vars_are_identifiers zero k v e are = tt
  vars_are_identifiers (suc n) k v e are = (are.identifiers k (omega arith), vars_are_identifiers n (k + 1) v (omega arith) are)

  -- the next variable and `n` further ones, `m` in all
  each_var : (n : ℕ) (w : Width) (k m at : ℕ) → k + suc n ≡ m → m ≤ MAX_VARS → AreVarNames names m → EachName DeclaresVar (vars_state w k) (names_at (names (Var k)) (var_names names (k + 1) n) at) (vars_state w m)
  each_var zero w k m at e few are = (next_is_new names k (fewer_names names m (suc k) (omega arith) are), omega arith, next_vars w k m (omega arith))
  each_var (suc n) w k m at e few are =
      let next = at + length (names (Var k)) + 1 + 1 in
      (vars_state w (k + 1), (next_is_new names k (fewer_names names m (suc k) (omega arith) are), omega arith, next_vars w k (k + 1) (omega arith)), each_var n w (k + 1) m next (omega arith) few are)

  pub vars_items : (v : ℕ) → v ≤ MAX_VARS → AreVarNames names v → (w : Width) (at : ℕ) (ps : List Piece) (P : State → Type 0) → Follow (vars_state w v) ps P → AreItems (with_width start_one w) at (vars_pieces names v ps) P
  vars_items zero few are w at ps P follow = follow at
  vars_items (suc n) few are w at ps P follow =
      let first = names (Var 0) in
      let others = var_names names 1 n in
      let stop = names_stop first others (at + 3 + 1) in
      let rest = follow (stop + 1 + 1) in
      record {
        items = record { keyword = leaf at (codes "var"); body = variables (names_at first others (at + 3 + 1)) (leaf stop (codes ";")) } ∷ rest.items;
        spells =
            ap (λ (ts : List Lexeme). lexeme (Keyword keyword.Var) at (codes "var") ∷ ts)
            (names_spelled first others (at + 3 + 1) ps (vars_are_identifiers (suc n) 0 (suc n) (omega arith) are)
            ∙ ap (λ (ts : List Lexeme). names_onto (names_at first others (at + 3 + 1)) (ended (leaf stop (codes ";")) ts)) rest.spells);
        obey = (tt, rest.obey);
        fit = (tt, rest.fit);
        final = rest.final;
        make = (vars_state w (suc n), each_var n w 0 (suc n) (at + 3 + 1) (omega arith) few are, rest.make);
        holds = rest.holds;
      }

-- ---- programs

-- the state after an additional program
abbrev pub prog_state : State → List ℕ → ProgTree → State
prog_state s name p = add_prog (grown s (prog_size p)) name p (block_levels p)

pub prog_items : (names : Meaning → List ℕ) (s : State) (v : Width) (vars : ℕ) (name : List ℕ) (p : ProgTree) → width_of s ≡ v → IsIdentifier name → IsUndeclared s.world name → ProgIsNamed s.world names p → IsProgPrintable v vars p → s.size + prog_size p ≤ MAX_TEXT_NODES
    → (at : ℕ) (ps : List Piece) (P : State → Type 0) → PiecesAreNarrow v ps → Follow (prog_state s name p) ps P → AreItems s at (prog_pieces names name p ps) P
prog_items names s v vars name p same identifier new named h room at ps P narrow follow =
    let place = at + 4 + 1 + length name + 1 in
    let b = block_begins names s.world s.progs v vars p named h place (gap 10 ∷ ps) (λ n. narrow (n + 1)) in
    let rest = follow (b.end + 1) in
    record {
      items = record { keyword = leaf at (codes "prog"); body = program (leaf (at + 4 + 1) name) b.phrase } ∷ rest.items;
      spells =
          ap (λ (t : Terminal). lexeme (Keyword keyword.Prog) at (codes "prog") ∷ lexeme t (at + 4 + 1) name ∷ lexemes_from place (block_pieces names p (gap 10 ∷ ps))) (name_terminal name identifier.no_keyword)
          ∙ ap (λ (ts : List Lexeme). lexeme (Keyword keyword.Prog) at (codes "prog") ∷ lexeme Name (at + 4 + 1) name ∷ ts) (b.spelled ∙ ap (block_before b.phrase) rest.spells);
      obey = (subst (BlockObeys b.phrase) rest.spells b.obeys, rest.obey);
      fit = (b.fits, rest.fit);
      final = rest.final;
      make = (
        prog_state s name p,
        record {
          new = new;
          tree = p;
          is_block = b.is_block;
          numbers = (tt, subst (λ (x : Width). AreNarrow x (block_before b.phrase [])) (sym same) b.narrow);
          room = room;
          made = ap (λ (n : ℕ). add_prog (grown s (prog_size p)) name p n) (sym b.deep);
        },
        rest.make,
      );
      holds = rest.holds;
    }

-- the phrase that consists of a name
abbrev name_phrase : ℕ → List ℕ → Phrase term
name_phrase at name = one_prod (one_star (bare (name_unit (leaf at name))))

-- ---- goals

-- the state has the program under this name
pub record HasProg (s : State) (name : List ℕ) (p : ProgTree) : Type 0 where
  pub index : ℕ
  pub means : Means s.world name (Prog index)
  pub is : slice_get s.progs index ≡ Some (record { tree = p; nesting = block_levels p })
  pub small : prog_size p ≤ MAX_TERM_NODES

named_side : (s : State) (at : ℕ) (name : List ℕ) (p : ProgTree) → HasProg s name p → NamesProg s (name_phrase at name) p
named_side s at name p h = record { parts = record { tree = p; nesting = block_levels p }; named = ap (prog_meant s.progs) h.means ∙ h.is; same = refl; small = h.small }

abbrev pub equal_state : State → ProgTree → ProgTree → State
equal_state s p q = state_goal (grown s (prog_size p + prog_size q)) (equal (prog_side p) (prog_side q))

pub equal_items : (s : State) (x y : List ℕ) (p q : ProgTree) → IsIdentifier x → IsIdentifier y → HasProg s x p → HasProg s y q → s.size + (prog_size p + prog_size q) ≤ MAX_TEXT_NODES → length s.goals < most_goals s.limit → (at : ℕ) → AreItems s at (equal_pieces x y) (λ t. t ≡ equal_state s p q)
equal_items s x y p q is_x is_y has_p has_q room first at =
    let left = at + 4 + 1 + 5 + 1 in
    let comma = left + length x in
    let right = comma + 1 + 1 in
    let last = right + length y in
    record {
      items = record { keyword = leaf at (codes "goal"); body = goal_equal (leaf (at + 4 + 1) (codes "equal")) (name_phrase left x) (leaf comma (codes ",")) (name_phrase right y) (leaf last (codes ";")) } ∷ [];
      spells =
          ap (λ (t : Terminal). lexeme (Keyword keyword.Goal) at (codes "goal") ∷ lexeme (Keyword keyword.Equal) (at + 4 + 1) (codes "equal") ∷ lexeme t left x ∷ lexeme (Separator Comma) comma (codes ",") ∷ lexemes_from right (word y ∷ symbol (codes ";") ∷ gap 10 ∷ [])) (name_terminal x is_x.no_keyword)
          ∙ ap (λ (t : Terminal). lexeme (Keyword keyword.Goal) at (codes "goal") ∷ lexeme (Keyword keyword.Equal) (at + 4 + 1) (codes "equal") ∷ lexeme Name left x ∷ lexeme (Separator Comma) comma (codes ",") ∷ lexeme t right y ∷ lexeme (Separator Semicolon) last (codes ";") ∷ []) (name_terminal y is_y.no_keyword);
      obey = ((tt, tt), tt);
      fit = ((tt, tt), tt);
      final = equal_state s p q;
      make = (
        equal_state s p q,
        record { few = first; left = prog_side p; right = prog_side q; is_left = named_side s left x p has_p; is_right = named_side s right y q has_q; numbers = (tt, (tt, (tt, (tt, tt)))); room = room; made = refl },
        refl,
      );
      holds = refl;
    }

pub equal_narrow : (v : Width) (x y : List ℕ) → IsIdentifier x → IsIdentifier y → PiecesAreNarrow v (equal_pieces x y)
equal_narrow v x y is_x is_y at =
    let left = at + 4 + 1 + 5 + 1 in
    (tt, (tt, (word_narrow v x is_x left, (tt, (word_narrow v y is_y (left + length x + 1 + 1), (tt, tt))))))

module _ (w : ScopeParts) (v : Width) (vars : ℕ) (b c : CondTree) (pre : CondIsNamed w var_name b) (post : CondIsNamed w var_name c) (h : IsCondPrintable v vars b) (k : IsCondPrintable v vars c) where
  braces_narrow : PiecesAreNarrow v (braces_pieces b c)
  braces_narrow at =
      let last : PiecesAreNarrow v post_end = λ n. (tt, (tt, tt)) in
      let middle : PiecesAreNarrow v (pre_end c) = λ n. (tt, (tt, (tt, cond_narrow v w var_name c post k.narrow post_end last (n + 1 + 1 + 1 + 1 + 1)))) in
      (tt, cond_narrow v w var_name b pre h.narrow (pre_end c) middle (at + 1))

  pub triple_narrow : PiecesAreNarrow v (triple_goal_pieces b c)
  triple_narrow at = (tt, (tt, braces_narrow (at + 4 + 1 + 6 + 1)))

abbrev pub triple_state : State → CondTree → ProgTree → CondTree → State
triple_state s b p c = state_goal (grown s (cond_size b + prog_size p + cond_size c)) (triple b (prog_side p) c)

pub triple_items : (s : State) (v : Width) (vars : ℕ) (b : CondTree) (p : ProgTree) (c : CondTree) → width_of s ≡ v → CondIsNamed s.world var_name b → CondIsNamed s.world var_name c → IsCondPrintable v vars b → IsCondPrintable v vars c → HasProg s (codes "P") p
    → s.size + (cond_size b + prog_size p + cond_size c) ≤ MAX_TEXT_NODES → length s.goals < most_goals s.limit → (at : ℕ) → AreItems s at (triple_goal_pieces b c) (λ t. t ≡ triple_state s b p c)
triple_items s v vars b p c same pre post h k has_p room first at =
    let opening = at + 4 + 1 + 6 + 1 in
    let x = cond_begins var_name s.world v vars b pre h (opening + 1) (pre_end c) (λ n. refl) in
    let name = x.end + 1 + 1 in
    let y = cond_begins var_name s.world v vars c post k (name + 1 + 1 + 1) post_end (λ n. refl) in
    let end = leaf (y.end + 1) (codes ";") in
    let phrase : TriplePhrase = record {
      pre = record { left = leaf opening (codes "{"); inner = x.phrase; right = leaf x.end (codes "}") };
      body = name_phrase name (codes "P");
      post = record { left = leaf (name + 1 + 1) (codes "{"); inner = y.phrase; right = leaf y.end (codes "}") };
    } in
    let middle : List Lexeme → List Lexeme = λ (ts : List Lexeme). lexeme (Separator CurlyClose) x.end (codes "}") ∷ lexeme Name name (codes "P") ∷ lexeme (Separator CurlyOpen) (name + 1 + 1) (codes "{") ∷ ts in
    let tokens : lexemes_from opening (braces_pieces b c) ≡ triple_onto phrase (ended end []) =
    ap (λ (ts : List Lexeme). lexeme (Separator CurlyOpen) opening (codes "{") ∷ ts) (x.spelled ∙ ap (λ (ts : List Lexeme). yield_before x.phrase (middle ts)) y.spelled) in
    let numbers : AreNarrow v (triple_onto phrase (ended end [])) = subst (AreNarrow v) tokens (braces_narrow s.world v vars b c pre post h k opening) in
    record {
      items = record { keyword = leaf at (codes "goal"); body = goal_triple (leaf (at + 4 + 1) (codes "triple")) phrase end } ∷ [];
      spells = ap (λ (ts : List Lexeme). lexeme (Keyword keyword.Goal) at (codes "goal") ∷ lexeme (Keyword keyword.Triple) (at + 4 + 1) (codes "triple") ∷ ts) tokens;
      obey = ((subst (λ (ts : List Lexeme). MeetsLookahead x.phrase (middle ts)) y.spelled x.obeys, tt, y.obeys), tt);
      fit = ((x.fits, tt, y.fits), tt);
      final = triple_state s b p c;
      make = (
        triple_state s b p c,
        record {
          few = first;
          pre = b;
          body = prog_side p;
          post = c;
          is_pre = x.is_cond;
          is_body = named_side s name (codes "P") p has_p;
          is_post = y.is_cond;
          numbers = subst (λ (u : Width). AreNarrow u (triple_onto phrase (ended end []))) (sym same) numbers;
          room = room;
          made = refl;
        },
        refl,
      );
      holds = refl;
    }
