-- What is read as an expression from the start of the tokens is an expression.
use Rattle.std.proofs.Common.{◌≡◌, ℕ, zero, suc, ◌+◌, List, [], ◌∷◌, Ok, ap, subst, ◌∙◌, drop}
use Rattle.text_parser.specs.declared.terminal.Terminal.TheVariants.{RoundOpen, RoundClose, SquareOpen, SquareClose, Plus, Dot, Zero, One, Name, Separator}
use Rattle.text_parser.specs.declared.terminal.Separator.TheVariants.{Caret}
use Rattle.text_parser.specs.Lexemes.{Lexeme, lexeme, heads, is_terminal}
use Rattle.text_parser.specs.Parsed.{◌>>=◌, change, expects, place_of}
use Rattle.text_parser.specs.Phrases.{cond, Leaf, cons_token, IsPhrase}
use Rattle.text_parser.proofs.TerminalEquality.{expects_ok}
use Rattle.text_parser.proofs.ParserSoundness.{leaf, bind_ok, chosen, changed_ok, before_ok, expected_ok, terminal_headed}
use Rattle.while_lang.specs.Blocks.{enter}
use Rattle.while_lang.proofs.BlockSoundness.{enter_ok, rest_of}
use Rattle.gkat_front.specs.GkatActions.{GkatActions}
use Rattle.gkat_front.specs.GkatWalks.{GkatAim, whole, factors_after, GkatParser, guard_by, round_by, unit_by, loop_by, factor_by, product_by, choice_by, gkat_by, gkat_within, parse_gkat}
use Rattle.gkat_front.specs.GkatPhrases.{Guard, expr, factors, factor, unit, one_product, two_products, one_factor, more_factors, once, repeated, zero_unit, one_unit, name_unit, guard_unit, round_unit, guard_onto, gkat_onto, GuardObeys, GuardFits, IsGkatPhrase}

-- the tokens begin with a condition in brackets
record IsGuard (d : ℕ) (ts rest : List Lexeme) : Type 0 where
  phrase : Guard
  spelled : ts ≡ guard_onto phrase rest
  obeys : GuardObeys phrase rest
  fits : GuardFits d phrase

-- a dot followed by factors, or nothing
pub data Tail (d : ℕ) (ts rest : List Lexeme) : Type 0 where
  no_more : (same : ts ≡ rest) → Tail d ts rest
  dotted : (dot : Leaf) → (us : List Lexeme) → (spelled : ts ≡ cons_token Dot dot us) → (more : IsGkatPhrase factors d us rest) → Tail d ts rest

factors_found : (d : ℕ) (ts mid rest : List Lexeme) → IsGkatPhrase factor d ts mid → Tail d mid rest → IsGkatPhrase factors d ts rest
factors_found d ts mid rest x (no_more same) =
    let k : IsGkatPhrase factor d ts rest = subst (IsGkatPhrase factor d ts) same x in
    record { phrase = one_factor k.phrase; spelled = k.spelled; obeys = k.obeys; fits = k.fits }
factors_found d ts mid rest x (dotted dot us spelled more) =
    let k : IsGkatPhrase factor d ts (cons_token Dot dot (gkat_onto more.phrase rest)) = subst (IsGkatPhrase factor d ts) (spelled ∙ ap (cons_token Dot dot) more.spelled) x in
    record { phrase = more_factors k.phrase dot more.phrase; spelled = k.spelled; obeys = (k.obeys, more.obeys); fits = (k.fits, more.fits) }

module _ {C P V : Type 0} (g : GkatActions C P V) (cond_is : (d : ℕ) (ts : List Lexeme) (y : C × List Lexeme) → g.cond d ts ≡ Ok y → IsPhrase cond d ts y.1) where
  guard_is : (d : ℕ) (ts : List Lexeme) (y : C × List Lexeme) → guard_by g d ts ≡ Ok y → IsGuard d ts y.1
  guard_is d ts y e =
      let a = bind_ok (expects (is_terminal SquareOpen) ts) _ y e in
      let w = expects_ok SquareOpen ts a.0 a.1 in
      let b = bind_ok (enter d (place_of ts)) _ y a.2 in
      let n = enter_ok d b.0 (place_of ts) b.1 in
      let k = expected_ok SquareClose (g.cond b.0 a.0) y b.2 in
      let last : List Lexeme = cons_token SquareClose k.0 y.1 in
      let i : IsPhrase cond (d + 1) a.0 last = subst (λ (m : ℕ). IsPhrase cond m a.0 last) n.1 (cond_is b.0 a.0 (y.0, last) k.1) in
      record {
        phrase = record { opening = w.0; inner = i.phrase; closing = k.0 };
        spelled = w.1 ∙ ap (cons_token SquareOpen w.0) i.spelled;
        obeys = i.obeys;
        fits = (n.0, i.fits);
      }

  abbrev pub Found : GkatAim P → ℕ → List Lexeme → List Lexeme → Type 0
  Found whole d ts rest = IsGkatPhrase expr d ts rest
  Found (factors_after p) d ts rest = Tail d ts rest

  abbrev pub Finds : GkatParser P V → Type 0
  Finds f = (x : GkatAim P) (d : ℕ) (ts : List Lexeme) (y : V × List Lexeme) → f x d ts ≡ Ok y → Found x d ts y.1

  module _ (f : GkatParser P V) (s : Finds f) where
    round_is : (d : ℕ) (ts : List Lexeme) (y : V × List Lexeme) → round_by f d ts ≡ Ok y → IsGkatPhrase unit d ts y.1
    round_is d ts y e =
        let a = bind_ok (expects (is_terminal RoundOpen) ts) _ y e in
        let w = expects_ok RoundOpen ts a.0 a.1 in
        let b = bind_ok (enter d (place_of ts)) _ y a.2 in
        let n = enter_ok d b.0 (place_of ts) b.1 in
        let k = expected_ok RoundClose (f whole b.0 a.0) y b.2 in
        let last : List Lexeme = cons_token RoundClose k.0 y.1 in
        let i : IsGkatPhrase expr (d + 1) a.0 last = subst (λ (m : ℕ). IsGkatPhrase expr m a.0 last) n.1 (s whole b.0 a.0 (y.0, last) k.1) in
        record {
          phrase = round_unit w.0 i.phrase k.0;
          spelled = w.1 ∙ ap (cons_token RoundOpen w.0) i.spelled;
          obeys = i.obeys;
          fits = (n.0, i.fits);
        }

    unit_is : (d : ℕ) (ts : List Lexeme) (y : V × List Lexeme) → unit_by g f d ts ≡ Ok y → IsGkatPhrase unit d ts y.1
    unit_is d [] y e = absurd cc
    unit_is d (lexeme Zero at text ∷ ts) y e = record { phrase = zero_unit (leaf at text); spelled = ap (λ (us : List Lexeme). lexeme Zero at text ∷ us) (ap rest_of e); obeys = tt; fits = tt }
    unit_is d (lexeme One at text ∷ ts) y e = record { phrase = one_unit (leaf at text); spelled = ap (λ (us : List Lexeme). lexeme One at text ∷ us) (ap rest_of e); obeys = tt; fits = tt }
    unit_is d (lexeme Name at text ∷ ts) y e =
        record { phrase = name_unit (leaf at text); spelled = ap (λ (us : List Lexeme). lexeme Name at text ∷ us) (before_ok ts (g.name at text) y.0 y.1 e); obeys = tt; fits = tt }
    unit_is d (lexeme SquareOpen at text ∷ ts) y e =
        let us = lexeme SquareOpen at text ∷ ts in
        let a = changed_ok g.test (guard_by g d us) y.0 y.1 e in
        let b = guard_is d us (a.0, y.1) a.1 in
        record { phrase = guard_unit b.phrase; spelled = b.spelled; obeys = b.obeys; fits = b.fits }
    unit_is d (lexeme RoundOpen at text ∷ ts) y e = round_is d (lexeme RoundOpen at text ∷ ts) y e
    unit_is d (lexeme _ at text ∷ ts) y e = absurd cc

    factor_is : (d : ℕ) (ts : List Lexeme) (y : V × List Lexeme) → factor_by g f d ts ≡ Ok y → IsGkatPhrase factor d ts y.1
    factor_is d ts y e =
        let a = bind_ok (unit_by g f d ts) (λ x. loop_by g d x.0 x.1) y e in
        let mid = (a.0).1 in
        let u = unit_is d ts a.0 a.1 in
        chosen (heads (is_terminal (Separator Caret)) mid) (change (λ c. g.loop c (a.0).0) (guard_by g d (drop 1 mid))) (Ok ((a.0).0, mid)) y
        (λ h k. let w = terminal_headed (Separator Caret) mid h in
        let c = changed_ok (λ c. g.loop c (a.0).0) (guard_by g d (drop 1 mid)) y.0 y.1 k in
        let b = guard_is d (drop 1 mid) (c.0, y.1) c.1 in
        let v : IsGkatPhrase unit d ts (cons_token (Separator Caret) w.0 (guard_onto b.phrase y.1)) = subst (IsGkatPhrase unit d ts) (w.1 ∙ ap (cons_token (Separator Caret) w.0) b.spelled) u in
        record { phrase = repeated v.phrase w.0 b.phrase; spelled = v.spelled; obeys = (v.obeys, b.obeys); fits = (v.fits, b.fits) })
        (λ h k. let v : IsGkatPhrase unit d ts y.1 = subst (IsGkatPhrase unit d ts) (ap rest_of k) u in
        record { phrase = once v.phrase; spelled = v.spelled; obeys = v.obeys; fits = v.fits })
        a.2

    product_is : (d : ℕ) (ts : List Lexeme) (y : V × List Lexeme) → product_by g f d ts ≡ Ok y → IsGkatPhrase factors d ts y.1
    product_is d ts y e =
        let a = bind_ok (factor_by g f d ts) (λ x. f (factors_after (g.first x.0)) d x.1) y e in
        factors_found d ts (a.0).1 y.1 (factor_is d ts a.0 a.1) (s (factors_after (g.first (a.0).0)) d (a.0).1 y a.2)

    gkat_finds : Finds (gkat_by g f)
    gkat_finds whole d ts y e =
        let a = bind_ok (product_by g f d ts) (λ x. choice_by g f d x.0 x.1) y e in
        let mid = (a.0).1 in
        let p = product_is d ts a.0 a.1 in
        chosen (heads (is_terminal Plus) mid) (guard_by g d (drop 1 mid) >>= λ c. change (λ w. g.choice c.0 (a.0).0 w) (product_by g f d c.1)) (Ok ((a.0).0, mid)) y
        (λ h k. let w = terminal_headed Plus mid h in
        let c = bind_ok (guard_by g d (drop 1 mid)) (λ c. change (λ w. g.choice c.0 (a.0).0 w) (product_by g f d c.1)) y k in
        let r = changed_ok (λ w. g.choice (c.0).0 (a.0).0 w) (product_by g f d (c.0).1) y.0 y.1 c.2 in
        let q = product_is d (c.0).1 (r.0, y.1) r.1 in
        let b : IsGuard d (drop 1 mid) (gkat_onto q.phrase y.1) = subst (IsGuard d (drop 1 mid)) q.spelled (guard_is d (drop 1 mid) c.0 c.1) in
        let v : IsGkatPhrase factors d ts (cons_token Plus w.0 (guard_onto b.phrase (gkat_onto q.phrase y.1))) = subst (IsGkatPhrase factors d ts) (w.1 ∙ ap (cons_token Plus w.0) b.spelled) p in
        record { phrase = two_products v.phrase w.0 b.phrase q.phrase; spelled = v.spelled; obeys = (v.obeys, b.obeys, q.obeys); fits = (v.fits, b.fits, q.fits) })
        (λ h k. let v : IsGkatPhrase factors d ts y.1 = subst (IsGkatPhrase factors d ts) (ap rest_of k) p in
        record { phrase = one_product v.phrase; spelled = v.spelled; obeys = v.obeys; fits = v.fits })
        a.2
    gkat_finds (factors_after p) d ts y e =
        chosen (heads (is_terminal Dot) ts) (factor_by g f d (drop 1 ts) >>= λ x. f (factors_after (g.more p x.0)) d x.1) (Ok (g.product p, ts)) y
        (λ h k. let w = terminal_headed Dot ts h in
        let a = bind_ok (factor_by g f d (drop 1 ts)) (λ x. f (factors_after (g.more p x.0)) d x.1) y k in
        dotted w.0 (drop 1 ts) w.1 (factors_found d (drop 1 ts) (a.0).1 y.1 (factor_is d (drop 1 ts) a.0 a.1) (s (factors_after (g.more p (a.0).0)) d (a.0).1 y a.2)))
        (λ h k. no_more (ap rest_of k))
        e

  within_gkat : (n : ℕ) → Finds (gkat_within g n)
  unfolding gkat_within
  within_gkat zero x d ts y e = absurd cc
  within_gkat (suc n) x d ts y e = gkat_finds (gkat_within g n) (within_gkat n) x d ts y e

  pub gkat_found : (d : ℕ) (ts : List Lexeme) (y : V × List Lexeme) → parse_gkat g whole d ts ≡ Ok y → IsGkatPhrase expr d ts y.1
  unfolding parse_gkat
  gkat_found d ts y e = within_gkat _ whole d ts y e
