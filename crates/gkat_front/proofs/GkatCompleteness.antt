-- Reading the tokens of an expression gives its fold.
use Rattle.std.proofs.Common.{◌≡◌, ℕ, List, false, Result, Ok, Err, refl, ap, ◌∙◌}
use Rattle.text_parser.specs.declared.fault.TextFault.{TextFault}
use Rattle.text_parser.specs.declared.terminal.Terminal.TheVariants.{RoundClose, SquareClose, Plus, Dot, Separator}
use Rattle.text_parser.specs.declared.terminal.Separator.TheVariants.{Caret}
use Rattle.text_parser.specs.Lexemes.{Lexeme, heads, is_terminal}
use Rattle.text_parser.specs.Parsed.{Parsed, ◌>>=◌, before, change, then_expects}
use Rattle.text_parser.specs.Phrases.{cond, Phrase, cons_token, yield_before, MeetsLookahead}
use Rattle.text_parser.specs.Ends.{Ends}
use Rattle.text_parser.proofs.ParserCompleteness.{then_rest, checked, changed, closed}
use Rattle.while_lang.specs.Blocks.{enter}
use Rattle.gkat_front.specs.GkatActions.{GkatActions}
use Rattle.gkat_front.specs.GkatWalks.{whole, factors_after, GkatParser, guard_by, unit_by, loop_by, factor_by, product_by, choice_by, parse_gkat}
use Rattle.gkat_front.specs.GkatPhrases.{Guard, GkatSymbol, expr, factors, factor, unit, GkatPhrase, one_product, two_products, one_factor, more_factors, once, repeated, zero_unit, one_unit, name_unit, guard_unit, round_unit, guard_onto, gkat_onto, GuardObeys, GkatObeys}
use Rattle.gkat_front.specs.GkatFolds.{CondFold, Folded, fold_guard, fold_gkat}
use Rattle.gkat_front.proofs.GkatSteps.{gkat_step}

-- the token after a phrase does not continue the phrase at its end
abbrev pub Stops : GkatSymbol → List Lexeme → Type 0
Stops unit ts = Unit {0}
Stops factor ts = heads (is_terminal (Separator Caret)) ts ≡ false
Stops factors ts = (heads (is_terminal (Separator Caret)) ts ≡ false) × (heads (is_terminal Dot) ts ≡ false)
Stops expr ts = (heads (is_terminal (Separator Caret)) ts ≡ false) × (heads (is_terminal Dot) ts ≡ false) × (heads (is_terminal Plus) ts ≡ false)

kept : {V : Type 0} (m : Result V TextFault) → (m >>= λ v. Ok v) ≡ m
kept (Ok v) = refl
kept (Err e) = refl

module _ {C P V : Type 0} (g : GkatActions C P V) (t : CondFold C) (reads : (d : ℕ) (p : Phrase cond) (ts : List Lexeme) → MeetsLookahead p ts → Ends cond ts → g.cond d (yield_before p ts) ≡ before ts (t d p)) where
  abbrev f : GkatParser P V
  f = parse_gkat g

  guard_read : (d : ℕ) (b : Guard) (ts : List Lexeme) → GuardObeys b ts → guard_by g d (guard_onto b ts) ≡ before ts (fold_guard t d b)
  guard_read d b ts o =
      let us = cons_token SquareClose b.closing ts in
      checked ts (enter d b.opening.at) (λ e. then_expects (is_terminal SquareClose) (g.cond e (yield_before b.inner us))) (λ e. t e b.inner)
      (λ e. ap (then_expects (is_terminal SquareClose)) (reads e b.inner us o refl) ∙ closed SquareClose b.closing ts (t e b.inner) refl)

  -- reading the tokens as the symbol gives this value
  abbrev pub ReadsAs : (x : GkatSymbol) → ℕ → List Lexeme → List Lexeme → Folded P V x → Type 0
  ReadsAs unit d ts rest v = unit_by g f d ts ≡ before rest v
  ReadsAs factor d ts rest v = factor_by g f d ts ≡ before rest v
  ReadsAs factors d ts rest v = (k : V → P) → (factor_by g f d ts >>= λ x. f (factors_after (k x.0)) d x.1) ≡ before rest (v k)
  ReadsAs expr d ts rest v = f whole d ts ≡ before rest v

  pub gkat_read : {x : GkatSymbol} (p : GkatPhrase x) (d : ℕ) (ts : List Lexeme) → GkatObeys p ts → Stops x ts → ReadsAs x d (gkat_onto p ts) ts (fold_gkat g t d p)
  gkat_read (one_product p) d ts o s =
      gkat_step g whole d (gkat_onto p ts)
      ∙ ap (λ (m : Parsed V). m >>= λ x. choice_by g f d x.0 x.1) (gkat_read p d ts o (s.0, s.1) g.first)
      ∙ then_rest ts ts (fold_gkat g t d p g.first) (λ x. choice_by g f d x.0 x.1) (λ v. Ok v) (λ v. rw (s.2) refl)
      ∙ ap (before ts) (kept (fold_gkat g t d p g.first))
  gkat_read (two_products p plus b q) d ts o s =
      let us = cons_token Plus plus (guard_onto b (gkat_onto q ts)) in
      gkat_step g whole d (gkat_onto p us)
      ∙ ap (λ (m : Parsed V). m >>= λ x. choice_by g f d x.0 x.1) (gkat_read p d us o.0 (refl, refl) g.first)
      ∙ then_rest us ts (fold_gkat g t d p g.first) (λ x. choice_by g f d x.0 x.1) (λ v. fold_guard t d b >>= λ c. fold_gkat g t d q g.first >>= λ w. Ok (g.choice c v w))
      (λ v. ap (λ (m : Parsed C). m >>= λ c. change (λ w. g.choice c.0 v w) (product_by g f d c.1)) (guard_read d b (gkat_onto q ts) o.1)
      ∙ then_rest (gkat_onto q ts) ts (fold_guard t d b) (λ c. change (λ w. g.choice c.0 v w) (product_by g f d c.1)) (λ c. fold_gkat g t d q g.first >>= λ w. Ok (g.choice c v w))
      (λ c. ap (change (λ w. g.choice c v w)) (gkat_read q d ts o.2 (s.0, s.1) g.first) ∙ changed ts (λ w. g.choice c v w) (fold_gkat g t d q g.first)))
  gkat_read (one_factor x) d ts o s = λ k.
      ap (λ (m : Parsed V). m >>= λ x. f (factors_after (k x.0)) d x.1) (gkat_read x d ts o s.0)
      ∙ then_rest ts ts (fold_gkat g t d x) (λ x. f (factors_after (k x.0)) d x.1) (λ v. Ok (g.product (k v))) (λ v. gkat_step g (factors_after (k v)) d ts ∙ rw (s.1) refl)
  gkat_read (more_factors x dot p) d ts o s = λ k.
      let us = cons_token Dot dot (gkat_onto p ts) in
      ap (λ (m : Parsed V). m >>= λ x. f (factors_after (k x.0)) d x.1) (gkat_read x d us o.0 refl)
      ∙ then_rest us ts (fold_gkat g t d x) (λ x. f (factors_after (k x.0)) d x.1) (λ v. fold_gkat g t d p (g.more (k v)))
      (λ v. gkat_step g (factors_after (k v)) d us ∙ gkat_read p d ts o.1 s (g.more (k v)))
  gkat_read (once u) d ts o s =
      ap (λ (m : Parsed V). m >>= λ x. loop_by g d x.0 x.1) (gkat_read u d ts o tt)
      ∙ then_rest ts ts (fold_gkat g t d u) (λ x. loop_by g d x.0 x.1) (λ v. Ok v) (λ v. rw s refl)
      ∙ ap (before ts) (kept (fold_gkat g t d u))
  gkat_read (repeated u caret b) d ts o s =
      let us = cons_token (Separator Caret) caret (guard_onto b ts) in
      ap (λ (m : Parsed V). m >>= λ x. loop_by g d x.0 x.1) (gkat_read u d us o.0 tt)
      ∙ then_rest us ts (fold_gkat g t d u) (λ x. loop_by g d x.0 x.1) (λ v. fold_guard t d b >>= λ c. Ok (g.loop c v))
      (λ v. ap (change (λ c. g.loop c v)) (guard_read d b ts o.1) ∙ changed ts (λ c. g.loop c v) (fold_guard t d b))
  gkat_read (zero_unit l) d ts o s = refl
  gkat_read (one_unit l) d ts o s = refl
  gkat_read (name_unit l) d ts o s = refl
  gkat_read (guard_unit b) d ts o s = ap (change g.test) (guard_read d b ts o) ∙ changed ts g.test (fold_guard t d b)
  gkat_read (round_unit opening e closing) d ts o s =
      let us = cons_token RoundClose closing ts in
      checked ts (enter d opening.at) (λ n. then_expects (is_terminal RoundClose) (f whole n (gkat_onto e us))) (λ n. fold_gkat g t n e)
      (λ n. ap (then_expects (is_terminal RoundClose)) (gkat_read e n us o (refl, refl, refl)) ∙ closed RoundClose closing ts (fold_gkat g t n e) refl)
