-- Reading the tokens of items gives their fold.
use Rattle.std.proofs.Common.{◌≡◌, ℕ, zero, suc, ◌<◌, ◌≤◌, List, [], ◌∷◌, length, Result, Ok, Err, refl, ap, ◌∙◌, arith}
use Rattle.text_parser.specs.declared.fault.TextFault.{TextFault}
use Rattle.text_parser.specs.declared.terminal.Terminal.TheVariants.{RoundClose, SquareClose, Plus, Dot, Separator}
use Rattle.text_parser.specs.declared.terminal.Separator.TheVariants.{Comma, Semicolon, Caret}
use Rattle.text_parser.specs.Lexemes.{Lexeme, is_terminal}
use Rattle.text_parser.specs.Parsed.{Parsed, ◌>>=◌, before, then_expects}
use Rattle.text_parser.specs.Phrases.{Leaf, cons_token}
use Rattle.text_parser.proofs.ParserCompleteness.{then_rest, checked, closed}
use Rattle.problem_file.specs.Phrases.{ended}
use Rattle.problem_file.specs.Items.{items_within}
use Rattle.problem_file.proofs.NameWalks.{names_long, declaration_folded}
use Rattle.problem_file.proofs.PhraseFronts.{phrase_long}
use Rattle.gkat_front.specs.GkatPhrases.{Guard, GkatSymbol, expr, GkatPhrase, one_product, two_products, one_factor, more_factors, once, repeated, zero_unit, one_unit, name_unit, guard_unit, round_unit, guard_onto, gkat_onto, GkatObeys}
use Rattle.gkat_front.specs.FileActions.{FileActions}
use Rattle.gkat_front.specs.Items.{sides_by, item_by, items_by}
use Rattle.gkat_front.specs.FilePhrases.{GkatItem, tests, actions, equal, sides_onto, item_onto, spelled, ItemObeys, ItemsObey}
use Rattle.gkat_front.specs.FileFolds.{ExprFold, fold_item, fold_items}
use Rattle.gkat_front.proofs.GkatCompleteness.{Stops}

-- ---- each item has a token

guard_long : (b : Guard) (ts : List Lexeme) → length ts < length (guard_onto b ts)
guard_long b ts = omega (arith, phrase_long b.inner (cons_token SquareClose b.closing ts))

gkat_long : {x : GkatSymbol} (p : GkatPhrase x) (ts : List Lexeme) → length ts < length (gkat_onto p ts)
gkat_long (one_product p) ts = gkat_long p ts
gkat_long (two_products p plus b q) ts =
    omega (arith, gkat_long p (cons_token Plus plus (guard_onto b (gkat_onto q ts))), guard_long b (gkat_onto q ts), gkat_long q ts)
gkat_long (one_factor x) ts = gkat_long x ts
gkat_long (more_factors x dot p) ts = omega (arith, gkat_long x (cons_token Dot dot (gkat_onto p ts)), gkat_long p ts)
gkat_long (once u) ts = gkat_long u ts
gkat_long (repeated u caret b) ts = omega (arith, gkat_long u (cons_token (Separator Caret) caret (guard_onto b ts)), guard_long b ts)
gkat_long (zero_unit l) ts = omega arith
gkat_long (one_unit l) ts = omega arith
gkat_long (name_unit l) ts = omega arith
gkat_long (guard_unit b) ts = guard_long b ts
gkat_long (round_unit opening e closing) ts = omega (arith, gkat_long e (cons_token RoundClose closing ts))

item_long : (i : GkatItem) (ts : List Lexeme) → length ts < length (item_onto i ts)
item_long (tests keyword ns end) ts = omega (arith, names_long ns (ended end ts))
item_long (actions keyword ns end) ts = omega (arith, names_long ns (ended end ts))
item_long (equal keyword p comma q end) ts =
    omega (arith, gkat_long p (cons_token (Separator Comma) comma (gkat_onto q (ended end ts))), gkat_long q (ended end ts))

items_long : (items : List GkatItem) → length items ≤ length (spelled items)
items_long [] = omega arith
items_long (i ∷ items) = omega (arith, items_long items, item_long i (spelled items))

-- reading two values and then passing both to a step
posed : {S V : Type 0} (pose : V → V → Result S TextFault) (ts : List Lexeme) (v w : Result V TextFault) →
    (before {V = V × V} ts (v >>= λ x. w >>= λ y. Ok (x, y)) >>= λ x. before x.1 (pose (x.0).0 (x.0).1)) ≡ before ts (v >>= λ x. w >>= λ y. pose x y)
posed pose ts (Ok x) (Ok y) = refl
posed pose ts (Ok x) (Err e) = refl
posed pose ts (Err e) w = refl

paired : {V : Type 0} (ts : List Lexeme) (x : V) (w : Result V TextFault) → ◌≡◌ {A = Parsed (V × V)} (before ts w >>= λ y. Ok ((x, y.0), y.1)) (before {V = V × V} ts (w >>= λ y. Ok (x, y)))
paired ts x (Ok y) = refl
paired ts x (Err e) = refl

module _ {S V : Type 0} (g : FileActions S V) (t : ExprFold S V) (reads : (s : S) (p : GkatPhrase expr) (ts : List Lexeme) → GkatObeys p ts → Stops expr ts → g.expr s (gkat_onto p ts) ≡ before ts (t s p)) where
  sides_folded : (s : S) (p : GkatPhrase expr) (comma : Leaf) (q : GkatPhrase expr) (end : Leaf) (ts : List Lexeme) → ItemObeys (equal end p comma q end) ts →
      sides_by g s (sides_onto p comma q (ended end ts)) ≡ before (ended end ts) (t s p >>= λ x. t s q >>= λ y. Ok (x, y))
  sides_folded s p comma q end ts o =
      let us = ended end ts in
      let vs = gkat_onto q us in
      let first : then_expects (is_terminal (Separator Comma)) (g.expr s (sides_onto p comma q us)) ≡ before vs (t s p) =
      ap (then_expects (is_terminal (Separator Comma))) (reads s p (cons_token (Separator Comma) comma vs) o.0 (refl, refl, refl)) ∙ closed (Separator Comma) comma vs (t s p) refl in
      ap (λ (m : Parsed V). m >>= λ x. g.expr s x.1 >>= λ y. Ok ((x.0, y.0), y.1)) first
      ∙ then_rest vs us (t s p) (λ x. g.expr s x.1 >>= λ y. Ok ((x.0, y.0), y.1)) (λ x. t s q >>= λ y. Ok (x, y))
      (λ x. ap (λ (m : Parsed V). m >>= λ y. Ok ((x, y.0), y.1)) (reads s q us o.1 (refl, refl, refl)) ∙ paired us x (t s q))

  item_folded : (i : GkatItem) (s : S) (ts : List Lexeme) → ItemObeys i ts → item_by g s (item_onto i ts) ≡ before ts (fold_item g t s i)
  item_folded (tests keyword ns end) s ts o = declaration_folded g.declare_test ns s end ts
  item_folded (actions keyword ns end) s ts o = declaration_folded g.declare_action ns s end ts
  item_folded (equal keyword p comma q end) s ts o =
      let sides : Result (V × V) TextFault = t s p >>= λ x. t s q >>= λ y. Ok (x, y) in
      checked ts (g.begin_equal s keyword.at) _ _
      (λ u. ap (λ (m : Parsed (V × V)). then_expects (is_terminal (Separator Semicolon)) m >>= λ x. before x.1 (g.pose s keyword.at (x.0).0 (x.0).1)) (sides_folded s p comma q end ts o)
      ∙ ap (λ (m : Parsed (V × V)). m >>= λ x. before x.1 (g.pose s keyword.at (x.0).0 (x.0).1)) (closed (Separator Semicolon) end ts sides refl)
      ∙ posed (g.pose s keyword.at) ts (t s p) (t s q))

  then_items : (items : List GkatItem) (n : ℕ) (r : Result S TextFault) → ((u : S) → items_within (item_by g) n u (spelled items) ≡ fold_items g t u items) → (before (spelled items) r >>= λ x. items_within (item_by g) n x.0 x.1) ≡ (r >>= λ u. fold_items g t u items)
  then_items items n (Ok u) h = h u
  then_items items n (Err e) h = refl

  -- reading an item and then the other items
  item_first : (i : GkatItem) (items : List GkatItem) (s : S) (n : ℕ) → item_by g s (item_onto i (spelled items)) ≡ before (spelled items) (fold_item g t s i) → ((u : S) → items_within (item_by g) n u (spelled items) ≡ fold_items g t u items) →
      items_within (item_by g) (suc n) s (item_onto i (spelled items)) ≡ (fold_item g t s i >>= λ u. fold_items g t u items)
  item_first (tests keyword ns end) items s n e h = ap (λ (m : Parsed S). m >>= λ x. items_within (item_by g) n x.0 x.1) e ∙ then_items items n (fold_item g t s (tests keyword ns end)) h
  item_first (actions keyword ns end) items s n e h = ap (λ (m : Parsed S). m >>= λ x. items_within (item_by g) n x.0 x.1) e ∙ then_items items n (fold_item g t s (actions keyword ns end)) h
  item_first (equal keyword p comma q end) items s n e h = ap (λ (m : Parsed S). m >>= λ x. items_within (item_by g) n x.0 x.1) e ∙ then_items items n (fold_item g t s (equal keyword p comma q end)) h

  -- reading a list of n items takes at most n + 1 steps
  within_folded : (items : List GkatItem) (s : S) (n : ℕ) → ItemsObey items → length items ≤ n → items_within (item_by g) (suc n) s (spelled items) ≡ fold_items g t s items
  within_folded [] s n o le = refl
  within_folded (i ∷ items) s zero o le = absurd (omega (arith, le))
  within_folded (i ∷ items) s (suc n) o le = item_first i items s (suc n) (item_folded i s (spelled items) o.0) (λ u. within_folded items u n o.1 (omega (arith, le)))

  pub items_folded : (s : S) (items : List GkatItem) → ItemsObey items → items_by g s (spelled items) ≡ fold_items g t s items
  items_folded s items o = within_folded items s (length (spelled items)) o (items_long items)
