-- The pieces of a text with any names are items with the intended result.
use Rattle.std.proofs.Common.{◌≡◌, ◌≤◌, ◌<◌, ◌+◌, ℕ, zero, suc, List, [], ◌∷◌, ◌++◌, length, false, refl, sym, ap, ◌∙◌, subst, arith, append_assoc, length-append}
use Rattle.std.proofs.lemmas.List.{append-nil}
use Rattle.std.specs.Prelude.{codes}
use Rattle.kat_model.specs.declared.limits.TheConstants.{MAX_TESTS, MAX_ACTIONS, MAX_TERM_NODES, MAX_TEXT_NODES, MAX_HYPS, MAX_OPEN}
use Rattle.kat_model.specs.Trees.{Term, term_size}
use Rattle.kat_model.specs.Problems.{terms_size}
use Rattle.text_parser.specs.Pieces.{Piece, word, gap}
use Rattle.text_parser.specs.declared.terminal.Terminal.{Terminal}
use Rattle.text_parser.specs.declared.terminal.Terminal.TheVariants.{Name, Keyword, Separator, Zero}
use Rattle.text_parser.specs.declared.terminal.Keyword.TheVariants as keyword
use Rattle.text_parser.specs.declared.terminal.Separator.TheVariants.{Comma, Semicolon, Equals}
use Rattle.text_parser.specs.Lexemes.{Lexeme, lexeme}
use Rattle.text_parser.specs.Actions.{context}
use Rattle.text_parser.specs.Phrases.{star, Phrase, one_prod, one_star, yield_before, MeetsLookahead}
use Rattle.text_parser.specs.declared.meaning.Meaning.{Meaning}
use Rattle.text_parser.specs.declared.meaning.Meaning.TheVariants.{Test, Action}
use Rattle.text_parser.specs.ScopeParts.{ScopeParts}
use Rattle.text_print.specs.Printing.{TermIsNamed, term_nesting}
use Rattle.text_print.proofs.WordTerminals.{name_terminal}
use Rattle.text_print.proofs.PrintedPhrases.{lexemes_from, leaf}
use Rattle.text_print.proofs.PrintedTerms.{IsTermOf, term_back}
use Rattle.while_lang.specs.Files.{term_side, equal}
use Rattle.problem_file.specs.Files.{State, most_goals, width_of, state_hyp, state_goal}
use Rattle.problem_file.specs.Phrases.{Names, one_name, more_names, tests, actions, hypothesis, goal_equal, Item, names_onto, ended, spelled, ItemsObey, ItemsFit}
use Rattle.problem_file.specs.Sound.{with_test, with_action, DeclaresTest, DeclaresAction, EachName, IsTerm, grown, MakeAll}
use Rattle.problem_file.specs.NamedTexts.{AreNames}
use Rattle.problem_file.specs.CommentedTexts.{first_comments, later_comments}
use Rattle.problem_file.proofs.Lines.{gaps}
use Rattle.problem_file.proofs.PlainNumbers.{narrow}
use Rattle.problem_file.specs.Working.Scopes.{DeclaresNames}
use Rattle.problem_file.proofs.PlainScopes.{fewer_are_names, test_is_new, test_declared, action_is_new, action_declared}
use Rattle.problem_file.proofs.PlainPieces.{names_pieces, declaration_pieces, zero_pieces, hyp_pieces, comments_pieces, hyps_pieces, end_pieces, right_pieces, goal_pieces, test_names, action_names, AreIdentifiers}

-- the pieces at place `at` are items that lead from state `s` to a state that satisfies `P`
pub record AreItems (s : State) (at : ℕ) (ps : List Piece) (P : State → Type 0) : Type 0 where
  pub items : List Item
  pub spells : lexemes_from at ps ≡ spelled items
  pub obey : ItemsObey items
  pub fit : ItemsFit items
  pub final : State
  pub make : MakeAll s items final
  pub holds : P final

-- ---- separators

-- a separator before items
gap_items : (b : ℕ) (s : State) (at : ℕ) (ps : List Piece) (P : State → Type 0) → AreItems s (at + 1) ps P → AreItems s at (gap b ∷ ps) P
gap_items b s at ps P rest = record { items = rest.items; spells = rest.spells; obey = rest.obey; fit = rest.fit; final = rest.final; make = rest.make; holds = rest.holds }

gaps_items : (bs : List ℕ) (s : State) (at : ℕ) (ps : List Piece) (P : State → Type 0) → ((n : ℕ) → AreItems s n ps P) → AreItems s at (gaps bs ps) P
gaps_items [] s at ps P items = items at
gaps_items (b ∷ bs) s at ps P items = gap_items b s at (gaps bs ps) P (gaps_items bs s (at + 1) ps P items)

-- comments before pieces that are items at any place
pub comments_items : (cs : List (List ℕ)) (s : State) (at : ℕ) (ps : List Piece) (P : State → Type 0) → ((n : ℕ) → AreItems s n ps P) → AreItems s at (comments_pieces cs ps) P
comments_items [] s at ps P items = items at
comments_items (c ∷ cs) s at ps P items =
    let rest = comments_pieces cs ps in
    gap_items 35 s at (gaps c (gap 10 ∷ rest)) P
    (gaps_items c s (at + 1) (gap 10 ∷ rest) P (λ n. gap_items 10 s n rest P (comments_items cs s (n + 1) ps P items)))

-- ---- hypotheses and a goal

-- the term is within the limits of a text, and each test and action in it has its name
pub record IsWritable (names : Meaning → List ℕ) (w : ScopeParts) (e : Term) : Type 0 where
  pub named : TermIsNamed w names e
  pub shallow : term_nesting e ≤ MAX_OPEN
  pub small : term_size e ≤ MAX_TERM_NODES

abbrev pub AreWritable : (Meaning → List ℕ) → ScopeParts → List Term → Type 0
AreWritable names w [] = Unit {0}
AreWritable names w (e ∷ es) = IsWritable names w e × AreWritable names w es

-- `t` adds the hypotheses `more` and this goal to `s`
pub record Poses (s : State) (more : List Term) (left right : Term) (t : State) : Type 0 where
  pub tests : t.tests ≡ s.tests
  pub actions : t.actions ≡ s.actions
  pub hyps : t.hyps ≡ s.hyps ++ more
  pub goals : t.goals ≡ s.goals ++ equal (term_side left) (term_side right) ∷ []

module _ (names : Meaning → List ℕ) where
  is_term : (w : ScopeParts) (e : Term) (p : Phrase star) → IsTermOf w e (term_nesting e) p → IsWritable names w e → IsTerm w (one_prod (one_star p)) e
  is_term w e p h writable = record {
    sound = h.sound (context 0 false false) refl;
    built = let tree = h.tree (context 0 false false) (omega (arith, writable.shallow)) in rw tree refl;
    small = writable.small;
  }

  goal_items : (s : State) (at : ℕ) (left right : Term) → IsWritable names s.world left → IsWritable names s.world right → s.size + (term_size left + term_size right) ≤ MAX_TEXT_NODES → length s.goals < most_goals s.limit → AreItems s at (goal_pieces names left right) (Poses s [] left right)
  goal_items s at left right l r room first =
      let a = (term_back s.world names left l.named).0 (at + 4 + 1 + 5 + 1) (right_pieces names right) in
      let b = (term_back s.world names right r.named).0 (a.end + 1 + 1) end_pieces in
      let last : List Lexeme = lexeme (Separator Semicolon) b.end (codes ";") ∷ [] in
      let p = one_prod (one_star a.phrase) in
      let q = one_prod (one_star b.phrase) in
      let c = context 0 false false in
      let after : List Lexeme = lexeme (Separator Comma) a.end (codes ",") ∷ yield_before b.phrase last in
      let right_narrow = narrow (width_of s) s.world c q (b.holds.sound c refl) (b.holds.fits 0 (omega (arith, r.shallow))) refl last (tt, tt) in
      let numbers = narrow (width_of s) s.world c p (a.holds.sound c refl) (a.holds.fits 0 (omega (arith, l.shallow))) refl after (tt, right_narrow) in
      record {
        items = record { keyword = leaf at (codes "goal"); body = goal_equal (leaf (at + 4 + 1) (codes "equal")) (one_prod (one_star a.phrase)) (leaf a.end (codes ",")) (one_prod (one_star b.phrase)) (leaf b.end (codes ";")) } ∷ [];
        spells =
            ap (λ (ts : List Lexeme). lexeme (Keyword keyword.Goal) at (codes "goal") ∷ lexeme (Keyword keyword.Equal) (at + 4 + 1) (codes "equal") ∷ ts)
            (a.spelled ∙ ap (λ (ts : List Lexeme). yield_before a.phrase (lexeme (Separator Comma) a.end (codes ",") ∷ ts)) b.spelled);
        obey = ((subst (λ (ts : List Lexeme). MeetsLookahead a.phrase (lexeme (Separator Comma) a.end (codes ",") ∷ ts)) b.spelled a.obeys, b.obeys), tt);
        fit = ((a.holds.fits 0 (omega (arith, l.shallow)), b.holds.fits 0 (omega (arith, r.shallow))), tt);
        final = state_goal (grown s (term_size left + term_size right)) (equal (term_side left) (term_side right));
        make = (
          state_goal (grown s (term_size left + term_size right)) (equal (term_side left) (term_side right)),
          record { few = first; left = term_side left; right = term_side right; is_left = is_term s.world left a.phrase a.holds l; is_right = is_term s.world right b.phrase b.holds r; numbers = numbers; room = room; made = refl },
          refl,
        );
        holds = record { tests = refl; actions = refl; hyps = sym (append-nil s.hyps); goals = refl };
      }

  pub hyps_items : (cs : List (List (List ℕ))) (hyps : List Term) (s : State) (at : ℕ) (left right : Term) → AreWritable names s.world hyps → IsWritable names s.world left → IsWritable names s.world right → length s.hyps + length hyps ≤ MAX_HYPS → s.size + (terms_size hyps + (term_size left + term_size right)) ≤ MAX_TEXT_NODES → length s.goals < most_goals s.limit → AreItems s at (hyps_pieces names cs hyps (goal_pieces names left right)) (Poses s hyps left right)
  hyps_items cs [] s at left right h l r few room first = goal_items s at left right l r (omega arith) first
  hyps_items cs (e ∷ es) s at left right h l r few room first =
      comments_items (first_comments cs) s at (hyp_pieces names e (hyps_pieces names (later_comments cs) es (goal_pieces names left right))) (Poses s (e ∷ es) left right) (λ n.
      let a = (term_back s.world names e h.0.named).0 (n + 3 + 1) (zero_pieces (hyps_pieces names (later_comments cs) es (goal_pieces names left right))) in
      let next = a.end + 1 + 1 + 1 + 1 + 1 + 1 in
      let u = state_hyp (grown s (term_size e)) e in
      let longer : length (s.hyps ++ e ∷ []) ≡ length s.hyps + 1 = length-append s.hyps (e ∷ []) in
      let rest = hyps_items (later_comments cs) es u next left right h.1 l r (omega arith) (omega arith) first in
      let before : List Lexeme → List Lexeme = λ (ts : List Lexeme). lexeme (Separator Equals) (a.end + 1) (codes "=") ∷ lexeme Zero (a.end + 1 + 1 + 1) (codes "0") ∷ lexeme (Separator Semicolon) (a.end + 1 + 1 + 1 + 1) (codes ";") ∷ ts in
      record {
        items = record { keyword = leaf n (codes "hyp"); body = hypothesis (one_prod (one_star a.phrase)) (leaf (a.end + 1) (codes "=")) (leaf (a.end + 1 + 1 + 1) (codes "0")) (leaf (a.end + 1 + 1 + 1 + 1) (codes ";")) } ∷ rest.items;
        spells =
            ap (λ (ts : List Lexeme). lexeme (Keyword keyword.Hyp) n (codes "hyp") ∷ ts)
            (a.spelled ∙ ap (λ (ts : List Lexeme). yield_before a.phrase (before ts)) rest.spells);
        obey = (subst (λ (ts : List Lexeme). MeetsLookahead a.phrase (before ts)) rest.spells a.obeys, rest.obey);
        fit = (a.holds.fits 0 (omega (arith, h.0.shallow)), rest.fit);
        final = rest.final;
        make = (
          u,
          record { few = omega arith; tree = e; is_term = is_term s.world e a.phrase a.holds h.0; room = omega arith; made = refl },
          rest.make,
        );
        holds = record {
          tests = rest.holds.tests;
          actions = rest.holds.actions;
          hyps = rest.holds.hyps ∙ append_assoc s.hyps (e ∷ []) es;
          goals = rest.holds.goals;
        };
      })

-- ---- declarations

-- the names of a declaration from place `at` on
abbrev pub names_at : List ℕ → List (List ℕ) → ℕ → Names
names_at x [] at = one_name (leaf at x)
names_at x (y ∷ ys) at = more_names (leaf at x) (leaf (at + length x) (codes ",")) (names_at y ys (at + length x + 1 + 1))

-- the place of the semicolon after the names
abbrev pub names_stop : List ℕ → List (List ℕ) → ℕ → ℕ
names_stop x [] at = at + length x
names_stop x (y ∷ ys) at = names_stop y ys (at + length x + 1 + 1)

pub names_spelled : (x : List ℕ) (xs : List (List ℕ)) (at : ℕ) (ps : List Piece) → AreIdentifiers (x ∷ xs)
    → lexemes_from at (word x ∷ names_pieces xs ps) ≡ names_onto (names_at x xs at) (ended (leaf (names_stop x xs at) (codes ";")) (lexemes_from (names_stop x xs at + 1 + 1) ps))
names_spelled x [] at ps is = ap (λ (s : Terminal). lexeme s at x ∷ lexeme (Separator Semicolon) (at + length x) (codes ";") ∷ lexemes_from (at + length x + 1 + 1) ps) (name_terminal x is.0.no_keyword)
names_spelled x (y ∷ ys) at ps is =
    let next = at + length x + 1 + 1 in
    ap (λ (s : Terminal). lexeme s at x ∷ lexeme (Separator Comma) (at + length x) (codes ",") ∷ lexemes_from next (word y ∷ names_pieces ys ps)) (name_terminal x is.0.no_keyword)
    ∙ ap (λ (ts : List Lexeme). lexeme Name at x ∷ lexeme (Separator Comma) (at + length x) (codes ",") ∷ ts) (names_spelled y ys next ps is.1)

-- `t` declares `n` tests and `m` actions by their names and otherwise equals `s`
pub record Declares (names : Meaning → List ℕ) (s : State) (n m : ℕ) (t : State) : Type 0 where
  pub tests : t.tests ≡ n
  pub actions : t.actions ≡ m
  pub hyps : t.hyps ≡ s.hyps
  pub limit : t.limit ≡ s.limit
  pub goals : t.goals ≡ s.goals
  pub size : t.size ≡ s.size
  pub declares : DeclaresNames names t.world n m

module _ (names : Meaning → List ℕ) (all_tests all_actions : ℕ) (few_tests : all_tests ≤ MAX_TESTS) (few_actions : all_actions ≤ MAX_ACTIONS) (are : AreNames names all_tests all_actions) where
  pub tests_are_identifiers : (n k : ℕ) → k + n ≤ all_tests → AreIdentifiers (test_names names k n)
  tests_are_identifiers zero k few = tt
  tests_are_identifiers (suc n) k few = let below : k < all_tests = omega (arith, few) in (are.identifiers (Test k) below, tests_are_identifiers n (k + 1) (omega arith))

  pub actions_are_identifiers : (n k : ℕ) → k + n ≤ all_actions → AreIdentifiers (action_names names k n)
  actions_are_identifiers zero k few = tt
  actions_are_identifiers (suc n) k few = let below : k < all_actions = omega (arith, few) in (are.identifiers (Action k) below, actions_are_identifiers n (k + 1) (omega arith))

  -- the next test and `n` further tests
  each_test : (n : ℕ) (s : State) (at : ℕ) → s.tests + suc n ≤ all_tests → s.actions ≤ all_actions → DeclaresNames names s.world s.tests s.actions
      → (t : State) × EachName DeclaresTest s (names_at (names (Test s.tests)) (test_names names (s.tests + 1) n) at) t × Declares names s (s.tests + suc n) s.actions t
  each_test zero s at few small declares =
      let name = names (Test s.tests) in
      let more_are = fewer_are_names names (s.tests + 1) s.actions all_tests all_actions (omega (arith, few)) small are in
      let more = test_declared names s.world s.tests s.actions declares more_are in (
        with_test s name,
        (test_is_new names s.world s.tests s.actions declares more_are, omega (arith, few, few_tests), refl),
        record {
          tests = omega arith;
          actions = refl;
          hyps = refl;
          limit = refl;
          goals = refl;
          size = refl;
          declares = subst (λ (k : ℕ). DeclaresNames names (with_test s name).world k s.actions) (omega arith) more;
        },
      )
  each_test (suc n) s at few small declares =
      let name = names (Test s.tests) in
      let more_are = fewer_are_names names (s.tests + 1) s.actions all_tests all_actions (omega (arith, few)) small are in
      let more = test_declared names s.world s.tests s.actions declares more_are in
      let rest = each_test n (with_test s name) (at + length name + 1 + 1) (omega arith) small more in (
        rest.0,
        (with_test s name, (test_is_new names s.world s.tests s.actions declares more_are, omega (arith, few, few_tests), refl), rest.1),
        record {
          tests = rest.2.tests ∙ omega arith;
          actions = rest.2.actions;
          hyps = rest.2.hyps;
          limit = rest.2.limit;
          goals = rest.2.goals;
          size = rest.2.size;
          declares = subst (λ (k : ℕ). DeclaresNames names (rest.0).world k s.actions) (omega arith) rest.2.declares;
        },
      )

  each_action : (n : ℕ) (s : State) (at : ℕ) → s.actions + suc n ≤ all_actions → s.tests ≤ all_tests → DeclaresNames names s.world s.tests s.actions
      → (t : State) × EachName DeclaresAction s (names_at (names (Action s.actions)) (action_names names (s.actions + 1) n) at) t × Declares names s s.tests (s.actions + suc n) t
  each_action zero s at few small declares =
      let name = names (Action s.actions) in
      let more_are = fewer_are_names names s.tests (s.actions + 1) all_tests all_actions small (omega (arith, few)) are in
      let more = action_declared names s.world s.tests s.actions declares more_are in (
        with_action s name,
        (action_is_new names s.world s.tests s.actions declares more_are, omega (arith, few, few_actions), refl),
        record {
          tests = refl;
          actions = omega arith;
          hyps = refl;
          limit = refl;
          goals = refl;
          size = refl;
          declares = subst (λ (k : ℕ). DeclaresNames names (with_action s name).world s.tests k) (omega arith) more;
        },
      )
  each_action (suc n) s at few small declares =
      let name = names (Action s.actions) in
      let more_are = fewer_are_names names s.tests (s.actions + 1) all_tests all_actions small (omega (arith, few)) are in
      let more = action_declared names s.world s.tests s.actions declares more_are in
      let rest = each_action n (with_action s name) (at + length name + 1 + 1) (omega arith) small more in (
        rest.0,
        (with_action s name, (action_is_new names s.world s.tests s.actions declares more_are, omega (arith, few, few_actions), refl), rest.1),
        record {
          tests = rest.2.tests;
          actions = rest.2.actions ∙ omega arith;
          hyps = rest.2.hyps;
          limit = rest.2.limit;
          goals = rest.2.goals;
          size = rest.2.size;
          declares = subst (λ (k : ℕ). DeclaresNames names (rest.0).world s.tests k) (omega arith) rest.2.declares;
        },
      )

  -- the pieces after the declarations are items, at any place and in any state that declares these tests and actions
  abbrev Follow : State → ℕ → ℕ → List Piece → (State → Type 0) → Type 0
  Follow s n m ps P = (t : State) (at : ℕ) → Declares names s n m t → AreItems t at ps P

  pub tests_items : (n : ℕ) (s : State) (at : ℕ) (ps : List Piece) (P : State → Type 0) → s.tests + n ≤ all_tests → s.actions ≤ all_actions → DeclaresNames names s.world s.tests s.actions → Follow s (s.tests + n) s.actions ps P → AreItems s at (declaration_pieces (codes "test") (test_names names s.tests n) ps) P
  tests_items zero s at ps P few small declares follow =
      follow s at (record { tests = omega arith; actions = refl; hyps = refl; limit = refl; goals = refl; size = refl; declares = subst (λ (k : ℕ). DeclaresNames names s.world k s.actions) (omega arith) declares })
  tests_items (suc n) s at ps P few small declares follow =
      let name = names (Test s.tests) in
      let later = test_names names (s.tests + 1) n in
      let each = each_test n s (at + 4 + 1) few small declares in
      let stop = names_stop name later (at + 4 + 1) in
      let rest = follow each.0 (stop + 1 + 1) each.2 in
      record {
        items = record { keyword = leaf at (codes "test"); body = tests (names_at name later (at + 4 + 1)) (leaf stop (codes ";")) } ∷ rest.items;
        spells =
            ap (λ (ts : List Lexeme). lexeme (Keyword keyword.Test) at (codes "test") ∷ ts)
            (names_spelled name later (at + 4 + 1) ps (tests_are_identifiers (suc n) s.tests few)
            ∙ ap (λ (ts : List Lexeme). names_onto (names_at name later (at + 4 + 1)) (ended (leaf stop (codes ";")) ts)) rest.spells);
        obey = (tt, rest.obey);
        fit = (tt, rest.fit);
        final = rest.final;
        make = (each.0, each.1, rest.make);
        holds = rest.holds;
      }

  pub actions_items : (n : ℕ) (s : State) (at : ℕ) (ps : List Piece) (P : State → Type 0) → s.actions + n ≤ all_actions → s.tests ≤ all_tests → DeclaresNames names s.world s.tests s.actions → Follow s s.tests (s.actions + n) ps P → AreItems s at (declaration_pieces (codes "action") (action_names names s.actions n) ps) P
  actions_items zero s at ps P few small declares follow =
      follow s at (record { tests = refl; actions = omega arith; hyps = refl; limit = refl; goals = refl; size = refl; declares = subst (λ (k : ℕ). DeclaresNames names s.world s.tests k) (omega arith) declares })
  actions_items (suc n) s at ps P few small declares follow =
      let name = names (Action s.actions) in
      let later = action_names names (s.actions + 1) n in
      let each = each_action n s (at + 6 + 1) few small declares in
      let stop = names_stop name later (at + 6 + 1) in
      let rest = follow each.0 (stop + 1 + 1) each.2 in
      record {
        items = record { keyword = leaf at (codes "action"); body = actions (names_at name later (at + 6 + 1)) (leaf stop (codes ";")) } ∷ rest.items;
        spells =
            ap (λ (ts : List Lexeme). lexeme (Keyword keyword.Action) at (codes "action") ∷ ts)
            (names_spelled name later (at + 6 + 1) ps (actions_are_identifiers (suc n) s.actions few)
            ∙ ap (λ (ts : List Lexeme). names_onto (names_at name later (at + 6 + 1)) (ended (leaf stop (codes ";")) ts)) rest.spells);
        obey = (tt, rest.obey);
        fit = (tt, rest.fit);
        final = rest.final;
        make = (each.0, each.1, rest.make);
        holds = rest.holds;
      }
