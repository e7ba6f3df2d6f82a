-- The tests of tokens never fail with out of memory: reading takes fewer steps than its bound.
use Rattle.std.proofs.Common.{ℕ, zero, suc, ◌<◌, List, [], ◌∷◌, length, drop, true, false, nat_lt, Option, Some, None, Ok, Err, arith, nat_le}
use Rattle.std.specs.Option.{is_some}
use Rattle.kat_model.specs.declared.limits.TheConstants.{MAX_TESTS, MAX_ACTIONS, MAX_TERM_NODES}
use Rattle.text_parser.specs.declared.fault.TextFault.TheVariants.{TooLarge, TooMany, TwoGoals, DoubleName}
use Rattle.text_parser.specs.declared.terminal.Terminal.TheVariants.{RoundOpen, RoundClose, SquareOpen, SquareClose, Plus, Dot, Zero, One, Name, Keyword, Separator}
use Rattle.text_parser.specs.declared.terminal.Keyword.TheVariants as word
use Rattle.text_parser.specs.declared.terminal.Separator.TheVariants.{Comma, Semicolon, Caret}
use Rattle.text_parser.specs.Lexemes.{Lexeme, lexeme, heads, is_terminal}
use Rattle.text_parser.specs.Parsed.{◌>>=◌, then_expects, place_of}
use Rattle.text_parser.specs.Actions.{context}
use Rattle.text_parser.specs.Scans.{scanning_conds}
use Rattle.text_parser.specs.Conds.{parse_cond, disjunction}
use Rattle.text_parser.proofs.Within.{Within, bind_within, weaken, before_within, enter_within, then_expects_within, headed}
use Rattle.text_parser.proofs.NamedFaults.{IsNamed, then_named, bind_named, if_named, before_named, change_named, then_expects_named, cond_named}
use Rattle.text_parser.specs.declared.meaning.Meaning.{Meaning}
use Rattle.text_parser.specs.declared.meaning.Meaning.TheVariants.{Test, Action}
use Rattle.text_parser.specs.ScopeParts.{ScopeParts, meaning}
use Rattle.text_parser.specs.Building.{cond_trees}
use Rattle.text_parser.specs.Measuring.{cond_extents}
use Rattle.while_lang.specs.Blocks.{enter}
use Rattle.problem_file.specs.Items.{declaration_by}
use Rattle.gkat_front.specs.Expressions.{GkatTree, gkat_size}
use Rattle.gkat_front.specs.GkatActions.{GkatActions}
use Rattle.gkat_front.specs.GkatWalks.{GkatAim, whole, factors_after, GkatParser, guard_by, round_by, unit_by, loop_by, factor_by, product_by, choice_by, gkat_by, gkat_within, parse_gkat}
use Rattle.gkat_front.specs.GkatScans.{scanning_expr}
use Rattle.gkat_front.specs.GkatMaking.{guard_at, named_by, making_expr}
use Rattle.gkat_front.specs.FileActions.{FileActions}
use Rattle.gkat_front.specs.Items.{sides_by, equal_by, item_by, items_by}
use Rattle.gkat_front.specs.Files.{GkatState, start, check_new, file_with, file_of}
use Rattle.gkat_front.specs.Making.{scanning, scan_file, making, parse_items, tested}
use Rattle.problem_file.proofs.Lists.{items_named as all_named}
use Rattle.while_lang.proofs.BlockFaults.{enter_named}
use Rattle.problem_file.proofs.NamedBlocks.{expected_named}
use Rattle.problem_file.proofs.NameWalks.{declaration_named, declaration_short}
use Rattle.problem_file.proofs.NamedTexts.{extents_named, trees_named, scanning_named as scanning_phrases_named}
use Rattle.gkat_front.proofs.GkatSteps.{IsShort, guard_short, factor_short, product_short, within_short, gkat_read_short}

-- ---- expressions

module _ {C P V : Type 0} (g : GkatActions C P V) (conds : (d : ℕ) (ts : List Lexeme) → IsNamed (g.cond d ts)) (names : (at : ℕ) (text : List ℕ) → IsNamed (g.name at text)) where
  abbrev NamesBelow : GkatParser P V → ℕ → Type 0
  NamesBelow f n = (x : GkatAim P) (d : ℕ) (ts : List Lexeme) → length ts < n → IsNamed (f x d ts)

  guard_named : (d : ℕ) (ts : List Lexeme) → IsNamed (guard_by g d ts)
  guard_named d ts =
      expected_named (is_terminal SquareOpen) ts (λ us. enter d (place_of ts) >>= λ e. then_expects (is_terminal SquareClose) (g.cond e us))
      (λ us lt. then_named (enter d (place_of ts)) (λ e. then_expects (is_terminal SquareClose) (g.cond e us)) (enter_named d (place_of ts))
      (λ e. then_expects_named (is_terminal SquareClose) (g.cond e us) (conds e us)))

  loop_named : (d : ℕ) (v : V) (ts : List Lexeme) → IsNamed (loop_by g d v ts)
  loop_named d v ts = if_named (heads (is_terminal (Separator Caret)) ts) _ (Ok (v, ts)) (λ e. change_named _ (guard_by g d (drop 1 ts)) (guard_named d (drop 1 ts))) (λ e. tt)

  module _ (f : GkatParser P V) (s : IsShort f) where
    round_named : (d : ℕ) (ts : List Lexeme) → NamesBelow f (length ts) → IsNamed (round_by f d ts)
    round_named d ts a =
        expected_named (is_terminal RoundOpen) ts (λ us. enter d (place_of ts) >>= λ e. then_expects (is_terminal RoundClose) (f whole e us))
        (λ us lt. then_named (enter d (place_of ts)) (λ e. then_expects (is_terminal RoundClose) (f whole e us)) (enter_named d (place_of ts))
        (λ e. then_expects_named (is_terminal RoundClose) (f whole e us) (a whole e us lt)))

    unit_named : (d : ℕ) (ts : List Lexeme) → NamesBelow f (length ts) → IsNamed (unit_by g f d ts)
    unit_named d [] a = tt
    unit_named d (lexeme Zero at text ∷ ts) a = tt
    unit_named d (lexeme One at text ∷ ts) a = tt
    unit_named d (lexeme Name at text ∷ ts) a = before_named ts (g.name at text) (names at text)
    unit_named d (lexeme SquareOpen at text ∷ ts) a = change_named g.test (guard_by g d (lexeme SquareOpen at text ∷ ts)) (guard_named d (lexeme SquareOpen at text ∷ ts))
    unit_named d (lexeme RoundOpen at text ∷ ts) a = round_named d (lexeme RoundOpen at text ∷ ts) a
    unit_named d (lexeme _ at text ∷ ts) a = tt

    factor_named : (d : ℕ) (ts : List Lexeme) → NamesBelow f (length ts) → IsNamed (factor_by g f d ts)
    factor_named d ts a = then_named (unit_by g f d ts) _ (unit_named d ts a) (λ x. loop_named d x.0 x.1)

    product_named : (d : ℕ) (ts : List Lexeme) → NamesBelow f (length ts) → IsNamed (product_by g f d ts)
    product_named d ts a =
        bind_named (length ts) (factor_by g f d ts) _ (factor_named d ts a) (factor_short g f s d ts) (λ x lt. a (factors_after (g.first x.0)) d x.1 lt)

    choice_named : (d : ℕ) (v : V) (ts : List Lexeme) → NamesBelow f (length ts) → IsNamed (choice_by g f d v ts)
    choice_named d v ts a =
        if_named (heads (is_terminal Plus) ts) _ (Ok (v, ts))
        (λ e. let lt = headed (is_terminal Plus) ts e in
        bind_named (length (drop 1 ts)) (guard_by g d (drop 1 ts)) _ (guard_named d (drop 1 ts)) (guard_short g d (drop 1 ts))
        (λ c less. change_named _ (product_by g f d c.1) (product_named d c.1 (λ x b us fewer. a x b us (omega arith)))))
        (λ e. tt)

    gkat_step_named : (x : GkatAim P) (d : ℕ) (ts : List Lexeme) → NamesBelow f (length ts) → IsNamed (gkat_by g f x d ts)
    gkat_step_named whole d ts a =
        bind_named (length ts) (product_by g f d ts) _ (product_named d ts a) (product_short g f s d ts)
        (λ x lt. choice_named d x.0 x.1 (λ y b us fewer. a y b us (omega arith)))
    gkat_step_named (factors_after p) d ts a =
        if_named (heads (is_terminal Dot) ts) _ (Ok (g.product p, ts))
        (λ e. let lt = headed (is_terminal Dot) ts e in
        bind_named (length (drop 1 ts)) (factor_by g f d (drop 1 ts)) _ (factor_named d (drop 1 ts) (λ y b us fewer. a y b us (omega arith))) (factor_short g f s d (drop 1 ts))
        (λ x less. a (factors_after (g.more p x.0)) d x.1 (omega arith)))
        (λ e. tt)

  gkat_within_named : (n : ℕ) (x : GkatAim P) (d : ℕ) (ts : List Lexeme) → length ts < n → IsNamed (gkat_within g n x d ts)
  unfolding gkat_within
  gkat_within_named zero x d ts lt = absurd (omega arith)
  gkat_within_named (suc n) x d ts lt = gkat_step_named (gkat_within g n) (within_short g n) x d ts (λ y e us below. gkat_within_named n y e us (omega arith))

  gkat_named : (x : GkatAim P) (d : ℕ) (ts : List Lexeme) → IsNamed (parse_gkat g x d ts)
  unfolding parse_gkat
  gkat_named x d ts = gkat_within_named (suc (length ts)) x d ts (omega arith)

-- ---- items

-- the actions never fail with out of memory, and reading an expression consumes tokens
record NameFiles {S V : Type 0} (g : FileActions S V) : Type 0 where
  exprs : (s : S) (ts : List Lexeme) → IsNamed (g.expr s ts)
  shorter : (s : S) (ts : List Lexeme) → Within (length ts) (g.expr s ts)
  tests : (s : S) (at : ℕ) (text : List ℕ) → IsNamed (g.declare_test s at text)
  actions : (s : S) (at : ℕ) (text : List ℕ) → IsNamed (g.declare_action s at text)
  begins : (s : S) (at : ℕ) → IsNamed (g.begin_equal s at)
  poses : (s : S) (at : ℕ) (l r : V) → IsNamed (g.pose s at l r)

module _ {S V : Type 0} (g : FileActions S V) (h : NameFiles g) where
  sides_named : (s : S) (ts : List Lexeme) → IsNamed (sides_by g s ts)
  sides_named s ts =
      then_named (then_expects (is_terminal (Separator Comma)) (g.expr s ts)) _ (then_expects_named (is_terminal (Separator Comma)) (g.expr s ts) (h.exprs s ts))
      (λ x. then_named (g.expr s x.1) _ (h.exprs s x.1) (λ y. tt))

  sides_short : (s : S) (ts : List Lexeme) → Within (length ts) (sides_by g s ts)
  sides_short s ts =
      bind_within (length ts) (length ts) (then_expects (is_terminal (Separator Comma)) (g.expr s ts)) _ (then_expects_within (is_terminal (Separator Comma)) (length ts) (g.expr s ts) (h.shorter s ts))
      (λ x lt. bind_within (length x.1) (length ts) (g.expr s x.1) _ (h.shorter s x.1) (λ y less. omega arith))

  equal_named : (s : S) (at : ℕ) (ts : List Lexeme) → IsNamed (equal_by g s at ts)
  equal_named s at ts =
      then_named (g.begin_equal s at) _ (h.begins s at)
      (λ u. then_named (then_expects (is_terminal (Separator Semicolon)) (sides_by g s ts)) _ (then_expects_named (is_terminal (Separator Semicolon)) (sides_by g s ts) (sides_named s ts))
      (λ x. before_named x.1 (g.pose s at (x.0).0 (x.0).1) (h.poses s at (x.0).0 (x.0).1)))

  equal_short : (s : S) (at : ℕ) (ts : List Lexeme) → Within (length ts) (equal_by g s at ts)
  equal_short s at ts =
      enter_within (length ts) (g.begin_equal s at) _
      (λ u. bind_within (length ts) (length ts) (then_expects (is_terminal (Separator Semicolon)) (sides_by g s ts)) _ (then_expects_within (is_terminal (Separator Semicolon)) (length ts) (sides_by g s ts) (sides_short s ts))
      (λ x lt. before_within (length ts) x.1 (g.pose s at (x.0).0 (x.0).1) lt))

  item_named : (s : S) (ts : List Lexeme) → IsNamed (item_by g s ts)
  item_named s [] = tt
  item_named s (lexeme (Keyword word.Test) at text ∷ ts) = declaration_named g.declare_test h.tests s ts
  item_named s (lexeme (Keyword word.Action) at text ∷ ts) = declaration_named g.declare_action h.actions s ts
  item_named s (lexeme (Keyword word.Equal) at text ∷ ts) = equal_named s at ts
  item_named s (lexeme _ at text ∷ ts) = tt

  item_short : (s : S) (ts : List Lexeme) → Within (length ts) (item_by g s ts)
  item_short s [] = tt
  item_short s (lexeme (Keyword word.Test) at text ∷ ts) = weaken (length ts) (suc (length ts)) (declaration_by g.declare_test s ts) (omega arith) (declaration_short g.declare_test s ts)
  item_short s (lexeme (Keyword word.Action) at text ∷ ts) = weaken (length ts) (suc (length ts)) (declaration_by g.declare_action s ts) (omega arith) (declaration_short g.declare_action s ts)
  item_short s (lexeme (Keyword word.Equal) at text ∷ ts) = weaken (length ts) (suc (length ts)) (equal_by g s at ts) (omega arith) (equal_short s at ts)
  item_short s (lexeme _ at text ∷ ts) = tt

  items_named : (s : S) (ts : List Lexeme) → IsNamed (items_by g s ts)
  items_named s ts = all_named (item_by g) item_named item_short s ts

-- ---- the actions on items

guard_at_named : (w : ScopeParts) (d : ℕ) (ts : List Lexeme) → IsNamed (guard_at w d ts)
guard_at_named w d ts =
    let c = context d false false in
    then_named (parse_cond (cond_extents w) disjunction c ts) _ (cond_named (cond_extents w) (extents_named w).conds disjunction c ts)
    (λ m. change_named _ (parse_cond (cond_trees w) disjunction c ts) (cond_named (cond_trees w) (trees_named w).conds disjunction c ts))

named_by_named : (at : ℕ) (o : Option Meaning) → IsNamed (named_by at o)
named_by_named at None = tt
named_by_named at (Some (Test k)) = tt
named_by_named at (Some (Action a)) = tt
named_by_named at (Some m) = tt

check_named : (w : ScopeParts) (at : ℕ) (name : List ℕ) → IsNamed (check_new w at name)
check_named w at name = if_named (is_some (meaning w name)) (Err (DoubleName at)) (Ok tt) (λ e. tt) (λ e. tt)

-- ---- texts

scanning_named : NameFiles scanning
scanning_named = record {
  exprs = λ s ts. gkat_named scanning_expr (λ d us. cond_named scanning_conds scanning_phrases_named.conds disjunction (context d false true) us) (λ at text. tt) whole 0 ts;
  shorter = λ s ts. gkat_read_short scanning_expr whole 0 ts;
  tests = λ s at text. tt;
  actions = λ s at text. tt;
  begins = λ s at. tt;
  poses = λ s at l r. tt;
}

making_named : NameFiles making
making_named = record {
  exprs = λ s ts. gkat_named (making_expr s.world) (guard_at_named s.world) (λ at text. named_by_named at (meaning s.world text)) whole 0 ts;
  shorter = λ s ts. gkat_read_short (making_expr s.world) whole 0 ts;
  tests = λ s at text. then_named (check_new s.world at text) _ (check_named s.world at text) (λ u. if_named (nat_le MAX_TESTS s.tests) (Err (TooMany at)) _ (λ e. tt) (λ e. tt));
  actions = λ s at text. then_named (check_new s.world at text) _ (check_named s.world at text) (λ u. if_named (nat_le MAX_ACTIONS s.actions) (Err (TooMany at)) _ (λ e. tt) (λ e. tt));
  begins = λ s at. if_named (is_some s.sides) (Err (TwoGoals at)) (Ok tt) (λ e. tt) (λ e. tt);
  poses = λ s at l r. if_named (nat_lt MAX_TERM_NODES (gkat_size l)) (Err (TooLarge at)) _ (λ e. tt) (λ e. if_named (nat_lt MAX_TERM_NODES (gkat_size r)) (Err (TooLarge at)) _ (λ k. tt) (λ k. tt));
}

file_named : (s : GkatState) (o : Option (GkatTree × GkatTree)) → IsNamed (file_with s o)
file_named s None = tt
file_named s (Some x) = tt

pub tested_named : (ts : List Lexeme) → IsNamed (tested ts)
tested_named ts =
    then_named (scan_file ts) _ (items_named scanning scanning_named tt ts)
    (λ u. then_named (parse_items ts) file_of (items_named making making_named start ts) (λ s. file_named s s.sides))
